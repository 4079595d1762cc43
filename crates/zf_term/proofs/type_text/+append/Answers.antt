use Rattle.zf_term.proofs.Prelude.{◌++◌, ◌∙◌, ◌≡◌, ap, arith, codes, map, refl, sym, parts_text, type_text, types, type_of}
use Rattle.zf_term.proofs.PrintedTypes.{of_power, of_product, both_written, three_written, both, first_part, next_part}
use Rattle.zf_term.proofs.type_text.+append.Goals as goal
use Rattle.zf_term.proofs.type_text.+append.Goals.{append_parts-then-i-gt0+in_ok-extend_from_slice, append_parts-else-i-gt0}

pub append_type-returns-in_ok-extend_from_slice-in-Power : goal.append_type-returns-in_ok-extend_from_slice-in-Power
append_type-returns-in_ok-extend_from_slice-in-Power t c =
    both_written c.append_type.result _ _ _ (codes "\\power ") _ _ c.in_ok-extend_from_slice-in-Power.ensures.items c.append_type.ensures
    (of_power c.args.ztype.now _ c.in-Power.is ∙ ap (λ m. codes "\\power " ++ type_text (type_of m)) (sym c.get.ensures))

pub append_type-returns-in_ok-append_parts-in-Product : goal.append_type-returns-in_ok-append_parts-in-Product
append_type-returns-in_ok-append_parts-in-Product t c =
    three_written c.extend_from_slice-in-Product-2.result _ _ _ _ (codes "(") _ (codes ")") _ _ c.in_ok-extend_from_slice-in-Product.ensures.items
    c.in_ok-append_parts-in-Product.ensures c.extend_from_slice-in-Product-2.ensures.items
    (of_product c.args.ztype.now _ c.in-Product.is ∙ ap (λ ts. codes "(" ++ parts_text (types (map type_of ts)) ++ codes ")") (sym (c.as_slice-in-Product.ensures ∙ c.get-in-Product.ensures)))

pub append_parts-loop-i-preserved : goal.append_parts-loop-i-preserved
append_parts-loop-i-preserved t c = elim c.if-i-gt0.branch [
  | append_parts-then-i-gt0+in_ok-extend_from_slice w ↦
      let joined : c.if-i-gt0.text.items ≡ c.loop-i.text.items ++ codes " \\cross " = ap (λ v. v.items) w.text-is ∙ w.in_ok-extend_from_slice.ensures.items in
      both _ _ _ _ _ (both _ _ _ _ _ c.loop-i.invariant joined refl) c.in_ok-append_type.ensures
      (next_part c.args.parts.now c.loop-i.i _ c.index-parts-i.is (omega arith) w.if-i-gt0.true)
  | append_parts-else-i-gt0 w ↦
      let same : c.if-i-gt0.text.items ≡ c.loop-i.text.items = ap (λ v. v.items) w.text-is in
      both _ _ _ _ _ (same ∙ c.loop-i.invariant) c.in_ok-append_type.ensures
      (first_part c.args.parts.now c.loop-i.i _ c.index-parts-i.is (omega arith) (omega arith))
]
