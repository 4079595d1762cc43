-- Rows of one schema with one line, or with one object, are one.
use Rattle.zf_print.proofs.Prelude.{◌++◌, ◌∙◌, ◌∷◌, ◌≡◌, [], ap, codes, Format, Lines, List, Objects, refl, sym, ℕ, append_assoc, Value, Comp, Environment, IsOfType, IsRow, component_in, components_in, name_in, row_text, AreClear, Closes, comma_before, Ends, EndsAs, goes_on, later_parts, parted, value_in, Spelling}
use Rattle.zf_print.proofs.Spelled.{cancel}
use Rattle.zf_print.proofs.OneFront.{ends_as, ends_later, one_front}
use Rattle.zf_print.proofs.Printing.{front}

pub one_component : (f : Format) (ss : List Spelling) (e : Environment) (k : AreClear ss e.sizes) (c : Comp) (v w : Value) (r s : List ℕ) → IsOfType e c.type v
    → IsOfType e c.type w → EndsAs c.type r → EndsAs c.type s → component_in f ss c v ++ r ≡ component_in f ss c w ++ s → (v ≡ w) × (r ≡ s)
one_component f ss e k c v w r s h g a b q =
    let front = name_in f c.name in
    one_front f ss e k c.type v w r s h g a b (cancel front (value_in f ss v ++ r) (value_in f ss w ++ s) (sym (append_assoc front (value_in f ss v) r) ∙ q ∙ append_assoc front (value_in f ss w) s))

pub ends_parts : (ts : List (List ℕ)) → Ends (later_parts ts)
ends_parts [] = tt
ends_parts (t ∷ ts) = refl

module _ (f : Format) (ss : List Spelling) (e : Environment) (k : AreClear ss e.sizes) (r : List ℕ) (closes : Closes r) where
  ends : (c : Comp) (ts : List (List ℕ)) → EndsAs c.type (later_parts ts ++ r)
  ends c ts = ends_as c.type _ (ends_later ts r closes)

  one_list : (n : ℕ) (cs : List Comp) (vs ws : List Value) → IsRow e cs vs → IsRow e cs ws
      → goes_on n (components_in f ss cs vs) ++ r ≡ goes_on n (components_in f ss cs ws) ++ r → vs ≡ ws
  one_list n [] vs ws h g q = h ∙ sym g
  one_list n (c ∷ cs) vs ws (x, xs, is, h, hs) (y, ys, are, g, gs) q =
      let texts = sym (ap (λ l. goes_on n (components_in f ss (c ∷ cs) l) ++ r) is) ∙ q ∙ ap (λ l. goes_on n (components_in f ss (c ∷ cs) l) ++ r) are in
      let first = one_component f ss e k c x y _ _ h g (ends c (components_in f ss cs xs)) (ends c (components_in f ss cs ys))
      (cancel (comma_before n) _ _ (sym (front n (component_in f ss c x) (components_in f ss cs xs) r) ∙ texts ∙ front n (component_in f ss c y) (components_in f ss cs ys) r)) in
      let others = one_list 1 cs xs ys hs gs first.1 in
      (cc)

pub one_row : (f : Format) (ss : List Spelling) (e : Environment) (k : AreClear ss e.sizes) (cs : List Comp) (vs ws : List Value) → IsRow e cs vs
    → IsRow e cs ws → row_text f ss cs vs ≡ row_text f ss cs ws → vs ≡ ws
one_row Lines ss e k cs vs ws h g q = one_list Lines ss e k [] tt 0 cs vs ws h g (ap (λ l. l ++ []) q)
one_row Objects ss e k cs vs ws h g q =
    let texts : 123 ∷ (parted (components_in Objects ss cs vs) ++ codes "}") ≡ 123 ∷ (parted (components_in Objects ss cs ws) ++ codes "}") = q in
    one_list Objects ss e k (codes "}") (refl, refl) 0 cs vs ws h g (cc)
