use Rattle.zf_families.proofs.Prelude.{◌∷◌, ◌≡◌, [], subst, iff_false, IsAscending, members, fits_any, singles, some}
use Rattle.zf_families.proofs.Subsets.{power_built, power_sets}
use Rattle.zf_families.proofs.power.power.Goals as goal

pub set_of_sets-requires : goal.set_of_sets-requires
set_of_sets-requires c =
    let h = subst IsAscending c.members.ensures.is c.members.ensures.ascending in
    let rows : c.in_ok-rows.rows.items ≡ [] ∷ some fits_any (singles (members c.args.a.now)) = cc (c.in_ok-rows.ensures, c.in_ok-layers.ensures, c.as_slice.ensures.value, c.members.ensures.is) in
    power_sets (members c.args.a.now) h c.in_ok-rows.rows.items rows

pub returns : goal.returns
returns c =
    let h = subst IsAscending c.members.ensures.is c.members.ensures.ascending in
    let rows : c.in_ok-rows.rows.items ≡ [] ∷ some fits_any (singles (members c.args.a.now)) = cc (c.in_ok-rows.ensures, c.in_ok-layers.ensures, c.as_slice.ensures.value, c.members.ensures.is) in
    power_built (members c.args.a.now) h (iff_false c.is_power_out.ensures.out c.if-is_power_out.false) c.in_ok-rows.rows.items rows c.set_of_sets.result c.set_of_sets.ensures
