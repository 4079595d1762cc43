use Rattle.zf_read.proofs.Prelude.{◌∙◌, arith, subst, sym, environment_of, HasNoElements}
use Rattle.zf_read.proofs.SpelledTypes.{too_large, unsized, unspelled}
use Rattle.zf_read.proofs.elements.sized_type.Goals as goal

pub returns-in-None-get : goal.returns-in-None-get
returns-in-None-get c =
    let g = c.in-None-get.ensures.lookup in
    subst (HasNoElements c.args.spellings.now (environment_of c.args.env.now)) c.in-Ok.ensures.1 (unspelled c.args.spellings.now (environment_of c.args.env.now) c.in-Ok.number g.3)

pub returns-in-None : goal.returns-in-None
returns-in-None c =
    subst (HasNoElements c.args.spellings.now (environment_of c.args.env.now)) c.in-Ok.ensures.1
    (unsized c.args.spellings.now (environment_of c.args.env.now) c.in-Ok.number (sym c.size.ensures ∙ c.in-None.is))

pub returns-in-Err : goal.returns-in-Err
returns-in-Err c = too_large c.args.spellings.now (environment_of c.args.env.now) c.args.number (omega (arith, c.in-Err.ensures))
