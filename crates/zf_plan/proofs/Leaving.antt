-- A search that leaves values: it stands, past the row of the first ones.
use Rattle.zf_plan.proofs.Prelude.{◌∙◌, ◌≡◌, ◌≤◌, ◌⊎◌, ap, arith, cond, false, true, inl, inr, List, None, Option, refl, Some, subst, sym, take, ℕ, take-take, take_all, ahead_of, Bool, bound, Conjuncts, IfSome, path, picked, Place, Stands, Tree, past, Memory}
use Rattle.zf_plan.specs.Places.{Leaves}
use Rattle.zf_plan.proofs.Jumping.{lowered, lowered-open, notes-same}
use Rattle.zf_plan.proofs.Knowing.{picked-take}
use Rattle.zf_plan.proofs.Moving.{length-path}
use Rattle.zf_plan.proofs.Stepping.{rests-still}

as-deep : (count n deep : ℕ) → ((n ≡ deep) × (n ≤ count)) ⊎ ((n ≡ count) × (n ≤ deep)) → n ≤ deep
as-deep count n deep (inl h) = let (a, b) = h in omega (arith, a)
as-deep count n deep (inr h) = h.1

module _ {V : Type 0} (l : Conjuncts V) (uses : ℕ → ℕ → Bool) (trees : List Tree) (ranges : List (List V)) (p : Place) (memo : Memory)
    (choices : List (Option (List ℕ))) (st : Stands l uses trees ranges p memo choices) (count : ℕ) (q : Place) where
  pub leaves-stand : Leaves count p q → Stands l uses trees ranges q memo choices
  leaves-stand (n, how, inl none) =
      let rest = rests-still l uses trees ranges p memo memo choices st st.remembers in
      subst (λ w. Stands l uses trees ranges w memo choices) (sym none.1)
      (lowered l uses trees ranges p memo choices rest n (as-deep count n p.depth how) false p.marks (notes-same p.marks p.marks refl)
      (λ k h. absurd (let e : n ≡ 0 = none.0 in omega (arith, h, e))) (λ f k e. absurd (let z : n ≡ 0 = none.0 in omega (arith, e, z))))
  leaves-stand (n, how, inr more) =
      let rest = rests-still l uses trees ranges p memo memo choices st st.remembers in
      let (last, deep, is, notes) = more in
      subst (λ w. Stands l uses trees ranges w memo choices) (sym is)
      (lowered-open l uses trees ranges p memo choices rest n (as-deep count n p.depth how) false q.marks last deep notes)

  first : (n : ℕ) → n ≤ p.depth → picked ranges (take n p.places.items) ≡ take n (path ranges p)
  first n low = let at = st.at in ap (picked ranges) (sym (take-take n p.depth p.places.items low)) ∙ picked-take ranges (bound p) n at.within

  fronts : (n : ℕ) → ((n ≡ p.depth) × (n ≤ count)) ⊎ ((n ≡ count) × (n ≤ p.depth)) → picked ranges (take n p.places.items) ≡ take count (path ranges p)
  fronts n (inl h) =
      let (a, b) = h in
      let long = length-path ranges p st.at in
      first n (omega (arith, a)) ∙ take_all n (path ranges p) (omega (arith, a, long)) ∙ sym (take_all count (path ranges p) (omega (arith, a, b, long)))
  fronts n (inr h) = first n h.1 ∙ ap (λ k. take k (path ranges p)) h.0

  -- what is ahead are the rows greater than all that begin with the first values
  pub leaves-past : Leaves count p q → ahead_of ranges q ≡ past (take count (path ranges p))
  leaves-past (n, how, inl none) = ap (ahead_of ranges) none.1 ∙ ap past (fronts n how)
  leaves-past (n, how, inr more) = let (last, deep, is, notes) = more in ap (ahead_of ranges) is ∙ ap past (fronts n how)

  pub left-past : (given : Bool) → given ≡ true → Leaves count p q → IfSome (cond given (Some (path ranges p)) None) (λ row. ahead_of ranges q ≡ past (take count row))
  left-past given e h = subst (λ b. IfSome (cond b (Some (path ranges p)) None) (λ row. ahead_of ranges q ≡ past (take count row))) (sym e) (leaves-past h)
