-- A list of the numbers of the first places, and all numbers where the others keep theirs.
use Rattle.zf_term.proofs.Prelude.{◌++◌, ◌+◌, ◌<◌, ◌∙◌, ◌∷◌, ◌≡◌, ◌≤◌, ◌⊎◌, [], ap, arith, get_or, inl, inr, length, length-append, List, max, None, Option, Some, suc, sym, zero, ℕ, get_or_append_left, place_in, ResolvedTree, moved, numbering}
use Rattle.std.proofs.Math.Path.{fun_ext}
use Rattle.std.proofs.Math.ListN.{get_or-eq_default}
use Rattle.std.proofs.Math.Seq.{get_or-append_seam}
use Rattle.zf_term.proofs.Copies.{stays}
use Rattle.zf_term.proofs.Renumbered.{at_once}

-- the list has the first of these numbers
abbrev pub AreFirst : List ℕ → (ℕ → ℕ) → Type 0
AreFirst places f = (k : ℕ) → k < length places → get_or places k k ≡ f k

below_or : (k m : ℕ) → (k < m) ⊎ (m ≤ k)
below_or k zero = inr (omega arith)
below_or zero (suc m) = inl (omega arith)
below_or (suc k) (suc m) = elim (below_or k m) [ inl h ↦ inl (omega arith) | inr h ↦ inr (omega arith) ]

last_or : (k m : ℕ) → k < m + 1 → (k < m) ⊎ (k ≡ m)
last_or k m h = elim (below_or k m) [ inl less ↦ inl less | inr past ↦ inr (omega arith) ]

pub one_more : (places : List ℕ) (f : ℕ → ℕ) (n i : ℕ) → length places ≡ i → n ≡ f i → AreFirst places f → AreFirst (places ++ n ∷ []) f
one_more places f n i m e all k below = elim (last_or k (length places) (omega (arith, length-append places (n ∷ [])))) [
  | inl less ↦ get_or_append_left places (n ∷ []) k k less ∙ all k less
  | inr last ↦ ap (λ (j : ℕ). get_or (places ++ n ∷ []) j k) last ∙ get_or-append_seam places n [] k ∙ e ∙ ap f (sym m ∙ sym last)
]

pub in_full : (places : List ℕ) (f : ℕ → ℕ) → ((k : ℕ) → length places ≤ k → f k ≡ k) → AreFirst places f → place_in places ≡ f
in_full places f rest all = fun_ext (λ k. elim (below_or k (length places)) [ inl less ↦ all k less | inr past ↦ get_or-eq_default places k past ∙ sym (rest k past) ])

-- ---- one numbering, and then another

abbrev pub one_and_other : List ℕ → List ℕ → ℕ → ℕ
one_and_other first other i = place_in other (place_in first i)

pub both_full : (places first other : List ℕ) → length places ≡ max (length first) (length other) → AreFirst places (one_and_other first other) → place_in places ≡ one_and_other first other
both_full places first other e = in_full places (one_and_other first other) (λ k past. ap (place_in other) (get_or-eq_default first k (omega arith)) ∙ get_or-eq_default other k (omega arith))

pub unmoved : (t : ResolvedTree) → moved (numbering None) t ≡ t
unmoved t = stays t

pub composed : (one other : Option (List ℕ)) (f g a b ps qs : List ℕ) → one ≡ Some f → other ≡ Some g → a ≡ f → b ≡ g → qs ≡ ps
    → place_in ps ≡ one_and_other a b → numbering (Some qs) ≡ (λ (i : ℕ). numbering other (numbering one i))
composed one other f g a b ps qs first then a_is b_is made is =
    ap place_in made
    ∙ is
    ∙ ap (λ (xs : List ℕ). one_and_other xs b) a_is
    ∙ ap (one_and_other f) b_is
    ∙ sym (ap {B = ℕ → ℕ} (λ (o : Option (List ℕ)) (i : ℕ). numbering o (place_in f i)) then)
    ∙ sym (ap {B = ℕ → ℕ} (λ (o : Option (List ℕ)) (i : ℕ). numbering other (numbering o i)) first)

-- what was numbered is numbered again
pub numbered_again : (own ps : Option (List ℕ)) (g : ℕ → ℕ) (t u : ResolvedTree) → t ≡ moved (numbering own) u → numbering ps ≡ (λ (i : ℕ). g (numbering own i)) → moved (numbering ps) u ≡ moved g t
numbered_again own ps g t u is e = ap (λ (f : ℕ → ℕ). moved f u) e ∙ sym (at_once g (numbering own) u) ∙ sym (ap (moved g) is)
