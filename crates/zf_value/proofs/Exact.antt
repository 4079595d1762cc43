-- The derived order is that of values, and values that tie are one.
use Rattle.zf_value.proofs.Prelude.{◌↔◌, ◌∙◌, ◌∷◌, ◌≡◌, [], ap, Equal, Greater, IsTrue, Less, List, map, Ordering, refl, subst, sym, true, tied_itself, slice_cmp, is_eq, ordering_then, level_order, ind-Value, map-Value, out-roll-Value, out-Value, roll-out-Value, roll-Value, Value, Value-F, is, total-law}
use Rattle.std.proofs.lemmas.Map.Lookups.{exact_unsigned, exact_signed}
use Rattle.zf_value.specs.contracts.plain.ValueOrd.TheImpl.{ghosts}

abbrev pub cmp : Value → Value → Ordering
cmp = ghosts.cmp

pub cmp_rolled : (x y : Value-F Value) → cmp (roll-Value x) (roll-Value y) ≡ level_order cmp x y
cmp_rolled (Value-F.Int m) (Value-F.Int n) = is _ _ ∙ rw (out-roll-Value (Value-F.Int m), out-roll-Value (Value-F.Int n)) refl
cmp_rolled (Value-F.Int m) (Value-F.Elem u j) = is _ _ ∙ rw (out-roll-Value (Value-F.Int m), out-roll-Value (Value-F.Elem u j)) refl
cmp_rolled (Value-F.Int m) (Value-F.Tuple ys) = is _ _ ∙ rw (out-roll-Value (Value-F.Int m), out-roll-Value (Value-F.Tuple ys)) refl
cmp_rolled (Value-F.Int m) (Value-F.SetOf ys) = is _ _ ∙ rw (out-roll-Value (Value-F.Int m), out-roll-Value (Value-F.SetOf ys)) refl
cmp_rolled (Value-F.Elem t i) (Value-F.Int n) = is _ _ ∙ rw (out-roll-Value (Value-F.Elem t i), out-roll-Value (Value-F.Int n)) refl
cmp_rolled (Value-F.Elem t i) (Value-F.Elem u j) = is _ _ ∙ rw (out-roll-Value (Value-F.Elem t i), out-roll-Value (Value-F.Elem u j)) refl
cmp_rolled (Value-F.Elem t i) (Value-F.Tuple ys) = is _ _ ∙ rw (out-roll-Value (Value-F.Elem t i), out-roll-Value (Value-F.Tuple ys)) refl
cmp_rolled (Value-F.Elem t i) (Value-F.SetOf ys) = is _ _ ∙ rw (out-roll-Value (Value-F.Elem t i), out-roll-Value (Value-F.SetOf ys)) refl
cmp_rolled (Value-F.Tuple xs) (Value-F.Int n) = is _ _ ∙ rw (out-roll-Value (Value-F.Tuple xs), out-roll-Value (Value-F.Int n)) refl
cmp_rolled (Value-F.Tuple xs) (Value-F.Elem u j) = is _ _ ∙ rw (out-roll-Value (Value-F.Tuple xs), out-roll-Value (Value-F.Elem u j)) refl
cmp_rolled (Value-F.Tuple xs) (Value-F.Tuple ys) = is _ _ ∙ rw (out-roll-Value (Value-F.Tuple xs), out-roll-Value (Value-F.Tuple ys)) refl
cmp_rolled (Value-F.Tuple xs) (Value-F.SetOf ys) = is _ _ ∙ rw (out-roll-Value (Value-F.Tuple xs), out-roll-Value (Value-F.SetOf ys)) refl
cmp_rolled (Value-F.SetOf xs) (Value-F.Int n) = is _ _ ∙ rw (out-roll-Value (Value-F.SetOf xs), out-roll-Value (Value-F.Int n)) refl
cmp_rolled (Value-F.SetOf xs) (Value-F.Elem u j) = is _ _ ∙ rw (out-roll-Value (Value-F.SetOf xs), out-roll-Value (Value-F.Elem u j)) refl
cmp_rolled (Value-F.SetOf xs) (Value-F.Tuple ys) = is _ _ ∙ rw (out-roll-Value (Value-F.SetOf xs), out-roll-Value (Value-F.Tuple ys)) refl
cmp_rolled (Value-F.SetOf xs) (Value-F.SetOf ys) = is _ _ ∙ rw (out-roll-Value (Value-F.SetOf xs), out-roll-Value (Value-F.SetOf ys)) refl

pub cmp_is : (v w : Value) → cmp v w ≡ level_order cmp (out-Value v) (out-Value w)
cmp_is v w = sym (ap (λ u. cmp u w) (roll-out-Value v)) ∙ sym (ap (λ u. cmp (roll-Value (out-Value v)) u) (roll-out-Value w)) ∙ cmp_rolled (out-Value v) (out-Value w)

then_equal : (a b : Ordering) → ordering_then a b ≡ Equal → (a ≡ Equal) × (b ≡ Equal)
then_equal Less b h = (cc)
then_equal Equal b h = (refl, h)
then_equal Greater b h = (cc)

abbrev Exact : Value → Type 0
Exact v = (w : Value) → cmp v w ≡ Equal → v ≡ w

exact_lists : (es : List ((v : Value) × Exact v)) (ws : List Value) → slice_cmp cmp (map (λ e. e.0) es) ws ≡ Equal → map (λ e. e.0) es ≡ ws
exact_lists [] [] h = refl
exact_lists [] (w ∷ ws) h = (cc)
exact_lists (e ∷ es) [] h = (cc)
exact_lists (e ∷ es) (w ∷ ws) h =
    let both = then_equal _ _ h in
    let here = e.1 w both.0 in
    let rest = exact_lists es ws both.1 in
    (cc)

exact_layers : (y : Value-F ((v : Value) × Exact v)) (x u : Value-F Value) → map-Value _ _ (λ e. e.0) y ≡ x → level_order cmp x u ≡ Equal → x ≡ u
exact_layers (Value-F.Int m) x (Value-F.Int n) e h = sym e ∙ ap Value-F.Int (exact_signed m n (ap (λ z. level_order cmp z (Value-F.Int n)) e ∙ h))
exact_layers (Value-F.Elem t i) x (Value-F.Elem u j) e h =
    let both = then_equal _ _ (ap (λ z. level_order cmp z (Value-F.Elem u j)) e ∙ h) in
    let a = exact_unsigned t u both.0 in
    let b = exact_unsigned i j both.1 in
    (cc)
exact_layers (Value-F.Tuple es) x (Value-F.Tuple ys) e h = sym e ∙ ap Value-F.Tuple (exact_lists es ys (ap (λ z. level_order cmp z (Value-F.Tuple ys)) e ∙ h))
exact_layers (Value-F.SetOf es) x (Value-F.SetOf ys) e h = sym e ∙ ap Value-F.SetOf (exact_lists es ys (ap (λ z. level_order cmp z (Value-F.SetOf ys)) e ∙ h))
exact_layers y x u e h = let k = ap (λ z. level_order cmp z u) e ∙ h in (cc)

-- values that tie are one
pub exact : (v w : Value) → cmp v w ≡ Equal → v ≡ w
exact = ind-Value Exact (λ x y is w h.
    let same = exact_layers y x (out-Value w) is (sym (cmp_rolled x (out-Value w)) ∙ ap (cmp (roll-Value x)) (roll-out-Value w) ∙ h) in
    ap roll-Value same ∙ roll-out-Value w)

pub is_eq_true : (o : Ordering) → is_eq o ≡ true → o ≡ Equal
is_eq_true Less h = (cc)
is_eq_true Equal h = refl
is_eq_true Greater h = (cc)

pub ties : (v w : Value) → IsTrue (is_eq (cmp v w)) ↔ (v ≡ w)
ties v w = (λ b. exact v w (is_eq_true (cmp v w) b), λ e. ap is_eq (subst (λ u. cmp v u ≡ Equal) e (tied_itself total-law v)))
