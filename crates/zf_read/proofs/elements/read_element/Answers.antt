use Rattle.zf_read.proofs.ValuesAt.{untyped, element_at, no_element}
use Rattle.zf_read.proofs.elements.read_element.Goals as goal

pub returns-in_default-clause-refused : goal.returns-in_default-clause-refused
returns-in_default-clause-refused c = untyped _ _ _ _ c.in_default.ensures

pub returns-in-Some-place_among-clause-read : goal.returns-in-Some-place_among-clause-read
returns-in-Some-place_among-clause-read c =
    element_at _ _ _ _ _ _ _ _ _ _ c.in-Some.ensures c.in-Some-place_among.ensures.0 c.in-Some-place_among.ensures.1 c.word_at-word.ensures

pub returns-in-None-clause-refused : goal.returns-in-None-clause-refused
returns-in-None-clause-refused c = no_element _ _ _ _ _ _ _ _ _ c.in-Some.ensures c.word_at-word.ensures c.in-None.ensures
