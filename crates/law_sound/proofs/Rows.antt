-- The rows of a schema's ranges are rows of its types.
use Rattle.law_sound.proofs.Prelude.{◌∷◌, ◌≡◌, [], List, None, Option, refl, Some, subst, sym, ℕ, MatchOption, slice_get, member, Outcome, Value, Comp, Defined, schema, sets_of, AreWellTyped, Environment, IsOfType, IsRow, AreHeldTyped, AreRanges, EventsOfTextsTyped, EventsTyped, IsComponentRange, RowsTyped, first_held, later_held}
use Rattle.zf_checker.proofs.Globals.{names_once}
use Rattle.zf_checker.proofs.WellTyped.{globals_well_typed}
use Rattle.zf_walk.specs.{IsRowOf}
use Rattle.law_sound.proofs.Components.{AreCompsFor}
use Rattle.law_sound.proofs.DeclaredSets.{listed_typed}
use Rattle.law_sound.proofs.Globals.{globals_typed}
use Rattle.law_sound.proofs.Names.{HasValues}
use Rattle.law_sound.proofs.Schemas.{comps_for}

row_typed :
    (e : Environment) → AreWellTyped e.globals → ((i : ℕ) (d : Defined) (o : Outcome) → slice_get e.globals i ≡ Some d → slice_get e.outcomes i ≡ Some o → HasValues e d o)
    → (cs : List Comp) (held : List (Option Value)) (ranges : List (List Value)) (row : List Value) → AreCompsFor e.globals cs → AreHeldTyped e cs held
    → AreRanges e cs held ranges → IsRowOf ranges row → IsRow e cs row
row_typed e well typed [] held [] [] h t r m = refl
row_typed e well typed [] held [] (v ∷ row) h t r m = absurd m
row_typed e well typed [] held (xs ∷ ranges) row h t r m = absurd r
row_typed e well typed (c ∷ cs) held [] row h t r m = absurd r
row_typed e well typed (c ∷ cs) held (xs ∷ ranges) [] h t r m = absurd m
row_typed e well typed (c ∷ cs) held (xs ∷ ranges) (v ∷ row) h t r m =
    (v, row, refl, of_type (first_held held) t.0 r.0, row_typed e well typed cs (later_held held) ranges row h.1 t.1 r.1 m.1)
  where
    -- what is held is of the type, and what is not is where it can be listed
    of_type : (one : Option Value) → MatchOption one (Unit {0}) (IsOfType e c.type) → IsComponentRange e c one xs → IsOfType e c.type v
    of_type None u k = listed_typed e well typed c.type (sets_of c.sets) xs h.0.0 h.0.1 (λ w. (λ n. ((k.members w).0 n).0, λ i. (k.members w).1 (i, tt))) v (member xs v m.0)
    of_type (Some w) u k = subst (IsOfType e c.type) (sym ((k.members v).0 (member xs v m.0)).1) u

pub rows_typed : RowsTyped
rows_typed g stated numbers e place name a held ranges row well once env at t r m =
    let here = subst AreWellTyped (sym env.0) well in
    row_typed e here (λ i d o f there. globals_typed e g stated numbers well once env i d o (subst (λ x. slice_get x i ≡ Some d) env.0 f) there) a.comps held ranges row
    (comps_for e.globals here place name a (subst (λ x. slice_get x place ≡ Some (record { name = name; definition = schema a })) (sym env.0) at)) t r m

pub events_typed : EventsTyped
events_typed g stated numbers e place name a held ranges after x well once env at t r is = rows_typed g stated numbers e place name a held ranges x.row well once env at t r is.within

pub events_of_texts_typed : EventsOfTextsTyped
events_of_texts_typed boxes g faults stated numbers e place name a held ranges after x checked env at t r is =
    events_typed g stated numbers e place name a held ranges after x (globals_well_typed boxes g faults checked) (names_once boxes g faults checked).0 env at t r is
