use Rattle.zf_meaning.proofs.Prelude.{subst, sym, All-nil, All, IsPiece}
use Rattle.zf_meaning.proofs.evaluate.early.pieces_of.Goals as goal

pub returns-then-front-eq0 : goal.returns-then-front-eq0
returns-then-front-eq0 c = subst (All (IsPiece c.args.term.now c.args.frame)) (sym c.new-pieces.ensures.items) (All-nil (IsPiece c.args.term.now c.args.frame))

pub returns : goal.returns
returns c = c.in_ok-add_parts.ensures (subst (All (IsPiece c.args.term.now c.args.frame)) (sym c.new-pieces.ensures.items) (All-nil (IsPiece c.args.term.now c.args.frame)))
