use Rattle.zf_print.proofs.Prelude.{◌++◌, ◌∙◌, ◌∷◌, ◌≡◌, [], ap, arith, map, subst, sym, ℤ, w64, signed_decimal, FitsSigned, same, goes_on, parted, value_in, OnOk, rules}
use Rattle.zf_print.proofs.Printing.{begun, map-drop, drop-end, ahead-more, closed}
use Rattle.zf_value.specs.{value_of}
use Rattle.zf_value.proofs.Measures.{tuple_falls, set_falls}
use Rattle.zf_print.proofs.TextsSeen.{of-Int, of-Elem, of-Tuple, of-SetOf}
use Rattle.zf_print.proofs.printed.+append.Goals as goal

pub append_parts-loop-place-init : goal.append_parts-loop-place-init
append_parts-loop-place-init t c = begun c.args.text.now.items (c.args.brackets.0 ∷ [])
    (parted (map (value_in c.args.format c.args.spellings.now) c.args.parts.now)) (c.args.brackets.1 ∷ []) _ c.in_ok-push.ensures.items

pub append_parts-loop-place-preserved : goal.append_parts-loop-place-preserved
append_parts-loop-place-preserved t c =
    let next = map-drop (value_in c.args.format c.args.spellings.now) c.args.parts.now c.loop-place.place c.index-parts-place.result c.index-parts-place.is (omega arith) in
    let ahead = ap (λ l. c.loop-place.text.items ++ (goes_on c.loop-place.place l ++ (c.args.brackets.1 ∷ []))) (sym next) ∙ c.loop-place.invariant in
    ahead-more c.loop-place.text.items c.append_separator.new.text.items c.append_value.new.text.items
    (c.args.brackets.1 ∷ []) _ _ c.loop-place.place _ ahead c.in_ok-append_separator.ensures c.in_ok-append_value.ensures

pub append_parts-returns : goal.append_parts-returns
append_parts-returns t c =
    let none = ap (map (value_in c.args.format c.args.spellings.now)) (drop-end c.loop-place.place c.args.parts.now (omega arith)) in
    closed c.loop-place.text.items _ (c.args.brackets.1 ∷ []) _ c.loop-place.place _ none c.loop-place.invariant c.in_ok-push-2.ensures.items

pub append_value-append_parts-requires : goal.append_value-append_parts-requires
append_value-append_parts-requires t c = let f = tuple_falls _ _ _ _ c.value.view_is c.in-Tuple.is c.as_slice.ensures in search (rules, f)

pub append_value-append_parts-requires-in-SetOf : goal.append_value-append_parts-requires-in-SetOf
append_value-append_parts-requires-in-SetOf t c = let f = set_falls _ _ _ _ c.value.view_is c.in-SetOf.is c.as_slice-in-SetOf.ensures in search (rules, f)

pub append_value-returns-in-Int : goal.append_value-returns-in-Int
append_value-returns-in-Int t c =
    let e = sym c.value.view_is ∙ ap value_of c.in-Int.is in
    let f : FitsSigned w64 c.in-Int.n = search rules in
    rw (e, of-Int c.args.format c.args.spellings.now c.in-Int.n) (subst (λ (m : ℤ). OnOk c.append_number.result
    (c.append_number.new.text.items ≡ c.args.text.now.items ++ signed_decimal m)) (same c.in-Int.n f) c.append_number.ensures)

pub append_value-returns-in-Elem : goal.append_value-returns-in-Elem
append_value-returns-in-Elem t c = let e = sym c.value.view_is ∙ ap value_of c.in-Elem.is in rw (e, of-Elem c.args.format c.args.spellings.now _ _) c.append_element.ensures

pub append_value-returns-in-Tuple : goal.append_value-returns-in-Tuple
append_value-returns-in-Tuple t c = let e = sym c.value.view_is ∙ ap value_of c.in-Tuple.is in rw (
  e,
  of-Tuple c.args.format c.args.spellings.now _,
  ← c.as_slice.ensures,
  c.tuple_brackets-brackets.ensures _,
) c.append_parts.ensures

pub append_value-returns-in-SetOf : goal.append_value-returns-in-SetOf
append_value-returns-in-SetOf t c = let e = sym c.value.view_is ∙ ap value_of c.in-SetOf.is in rw (
  e,
  of-SetOf c.args.format c.args.spellings.now _,
  ← c.as_slice-in-SetOf.ensures,
  c.set_brackets-brackets.ensures _,
) c.append_parts-in-SetOf.ensures
