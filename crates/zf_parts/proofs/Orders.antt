-- The order of rows of values.
use Rattle.zf_parts.proofs.Prelude.{◌∙◌, ◌≡◌, ◌⊎◌, ap, inl, inr, List, None, Option, refl, Some, subst, sym, lists_total, slice_cmp, ordering_reverse, Ordering, Equal, Greater, Less, ComesAfter, IsLater, value_order, Value, tied_itself, exact, slice-ties}
use Rattle.zf_value.specs.contracts.plain.ValueOrd.TheImpl.Laws as order_laws

-- rows that tie are one
pub same_row : (a b : List Value) → slice_cmp value_order a b ≡ Equal → a ≡ b
same_row = slice-ties value_order order_laws.total-law exact

pub itself : (a : List Value) → slice_cmp value_order a a ≡ Equal
itself a = tied_itself (lists_total order_laws.total-law) a

pub comes_on : (a b c : List Value) → ComesAfter value_order a b → ComesAfter value_order b c → ComesAfter value_order a c
comes_on = (lists_total order_laws.total-law).trans

pub reversed : (a b : List Value) → slice_cmp value_order a b ≡ Greater → ComesAfter value_order b a
reversed a b h = (lists_total order_laws.total-law).antisymm b a ∙ ap ordering_reverse h

pub never_both : (a b : List Value) → ComesAfter value_order a b → ComesAfter value_order b a → ⊥
never_both a b h k = let e : slice_cmp value_order a b ≡ Greater = (lists_total order_laws.total-law).antisymm a b ∙ ap ordering_reverse k in let f : Less ≡ Greater = sym h ∙ e in cc

pub never_itself : (a : List Value) → ComesAfter value_order a a → ⊥
never_itself a h = never_both a a h h

pub one_or_other : (a b : List Value) → (a ≡ b) ⊎ (a ≡ b → ⊥)
one_or_other a b = go (slice_cmp value_order a b) refl where
  differ : (o : Ordering) → slice_cmp value_order a b ≡ o → (o ≡ Equal → ⊥) → a ≡ b → ⊥
  differ o e ne same = ne (sym e ∙ subst (λ c. slice_cmp value_order a c ≡ Equal) same (itself a))

  go : (o : Ordering) → slice_cmp value_order a b ≡ o → (a ≡ b) ⊎ (a ≡ b → ⊥)
  go Less e = inr (differ Less e (λ q. cc))
  go Equal e = inl (same_row a b e)
  go Greater e = inr (differ Greater e (λ q. cc))

pub later_or_not : (after : Option (List Value)) (a : List Value) → IsLater value_order after a ⊎ (IsLater value_order after a → ⊥)
later_or_not None a = inl tt
later_or_not (Some named) a = go (slice_cmp value_order named a) refl where
  go : (o : Ordering) → slice_cmp value_order named a ≡ o → ComesAfter value_order named a ⊎ (ComesAfter value_order named a → ⊥)
  go Less e = inl e
  go Equal e = inr (λ h. let q : Less ≡ Equal = sym h ∙ e in cc)
  go Greater e = inr (λ h. let q : Less ≡ Greater = sym h ∙ e in cc)
