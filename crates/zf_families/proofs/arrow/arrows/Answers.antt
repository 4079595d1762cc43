use Rattle.zf_families.proofs.Prelude.{◌≡◌, subst, iff_false, IsAscending, members, arrow_rows}
use Rattle.zf_families.proofs.ByKind.{arrows_built, arrows_sets}
use Rattle.zf_families.proofs.arrow.arrows.Goals as goal

pub set_of_sets-requires : goal.set_of_sets-requires
set_of_sets-requires c =
    let h = subst IsAscending c.members.ensures.is c.members.ensures.ascending in
    let k = subst IsAscending c.members-2.ensures.is c.members-2.ensures.ascending in
    let rows : c.in_ok-rows.rows.items ≡ arrow_rows c.args.kind (members c.args.a.now) (members c.args.b.now) = cc (c.in_ok-rows.ensures, c.members.ensures.is, c.members-2.ensures.is) in
    arrows_sets c.args.kind (members c.args.a.now) (members c.args.b.now) h k c.in_ok-rows.rows.items rows

pub returns : goal.returns
returns c =
    let h = subst IsAscending c.members.ensures.is c.members.ensures.ascending in
    let k = subst IsAscending c.members-2.ensures.is c.members-2.ensures.ascending in
    let rows : c.in_ok-rows.rows.items ≡ arrow_rows c.args.kind (members c.args.a.now) (members c.args.b.now) = cc (c.in_ok-rows.ensures, c.members.ensures.is, c.members-2.ensures.is) in
    arrows_built c.args.kind (members c.args.a.now) (members c.args.b.now) h k (iff_false c.are_arrows_out.ensures.out c.if-are_arrows_out.false)
    c.in_ok-rows.rows.items rows c.set_of_sets.result c.set_of_sets.ensures
