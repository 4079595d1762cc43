use Rattle.zf_read.proofs.Prelude.{same}
use Rattle.zf_read.proofs.ValuesAt.{number_at, no_number}
use Rattle.zf_read.proofs.read.read_number.Goals as goal

pub returns-in-Some-clause-read : goal.returns-in-Some-clause-read
returns-in-Some-clause-read c =
    let stated = c.in-Some.ensures in
    number_at _ _ _ _ _ c.in-Some.number _ (same c.in-Some.number stated.0) stated.0 stated.1 c.word_at-word.ensures

pub returns-in-None-clause-refused : goal.returns-in-None-clause-refused
returns-in-None-clause-refused c = no_number _ _ _ _ _ c.word_at-word.ensures c.in-None.ensures
