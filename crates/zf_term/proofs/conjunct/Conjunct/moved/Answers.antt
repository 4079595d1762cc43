use Rattle.zf_term.proofs.Prelude.{numbering}
use Rattle.zf_term.proofs.ConjunctsSeen.{moved_either, moved_member, moved_term}
use Rattle.zf_term.proofs.conjunct.Conjunct.moved.Goals as goal

pub returns-in_ok-composed-in-Term : goal.returns-in_ok-composed-in-Term
returns-in_ok-composed-in-Term c =
    moved_term c.in-Term.own c.in_ok-composed-in-Term.field-0 (numbering c.args.places.now) c.in-Term.term c.share.result c.args.self.now c.in-Term.is c.share.ensures c.in_ok-composed-in-Term.ensures

pub returns-in_ok-composed-in-Member : goal.returns-in_ok-composed-in-Member
returns-in_ok-composed-in-Member c =
    moved_member c.in-Member.own c.in_ok-composed-in-Member.field-0 (numbering c.args.places.now) c.in-Member.place c.in-Member.set c.share-in-Member.result
    c.args.self.now c.in-Member.is c.share-in-Member.ensures c.in_ok-composed-in-Member.ensures

pub returns-in_ok-composed-in-Either : goal.returns-in_ok-composed-in-Either
returns-in_ok-composed-in-Either c =
    moved_either c.in-Either.own c.in_ok-composed-in-Either.field-0 (numbering c.args.places.now) c.in-Either.sides c.in-Either.left c.in-Either.right
    c.in_ok-left-in-Either.left c.in_ok-right-in-Either.right c.args.self.now c.in-Either.is c.in_ok-left-in-Either.ensures c.in_ok-right-in-Either.ensures
    c.in_ok-composed-in-Either.ensures
