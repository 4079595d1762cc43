use Rattle.zf_read.proofs.Prelude.{◌∙◌, ap, sym, Named, Numbered}
use Rattle.zf_read.proofs.SpelledTypes.{among_numbered, among_named}
use Rattle.zf_read.proofs.elements.place_among.Goals as goal

pub returns-in-Numbered : goal.returns-in-Numbered
returns-in-Numbered c = among_numbered c.numbered.result c.args.spelling.now c.args.word.now c.as_slice.result.now c.args.count
    (c.in-Numbered.is ∙ ap Numbered (sym c.as_slice.ensures)) c.numbered.ensures

pub returns-in-Named : goal.returns-in-Named
returns-in-Named c = among_named c.named.result c.args.spelling.now c.args.word.now c.as_slice-in-Named.result.now c.args.count
    (c.in-Named.is ∙ ap Named (sym c.as_slice-in-Named.ensures)) c.named.ensures
