-- What is found by its name in a list, and among the entries of a map.
use Rattle.zf_term.proofs.Prelude.{if◌then◌else◌, ◌++◌, ◌+◌, ◌<◌, ◌∙◌, ◌∷◌, ◌≡◌, [], add-one, ap, arith, Bool, false, get_or, length, List, map, None, Option, refl, Some, suc, sym, take, true, zero, ℕ, take_more, bytes_eq-Decides, keys_of, Vec, bytes_eq, entry_of, first_named, later, Entry}
use Rattle.zf_term.proofs.SameNames.{swapped}

nothing_before : {A : Type 0} (b : Bool) (p : ℕ × A) (o : Option (ℕ × A)) → (if b then Some p else later o) ≡ None → (b ≡ false) × (o ≡ None)
nothing_before true p o h = absurd (cc)
nothing_before false p None h = (refl, refl)
nothing_before false p (Some q) h = absurd (cc)

module _ {X A : Type 0} (f : X → A) (name : A → List ℕ) (n : List ℕ) where
  -- none of those before it has the name, and this one has
  pub first_at : (xs : List X) (i : ℕ) (x : X) → i < length xs → x ≡ get_or xs i x → first_named name n (map f (take i xs)) ≡ None
      → bytes_eq (name (f x)) n ≡ true → first_named name n (map f xs) ≡ Some (i, f x)
  first_at [] i x l e h t = absurd (omega arith)
  first_at (y ∷ ys) zero x l e h t = let p : bytes_eq (name (f y)) n ≡ true = ap (λ z. bytes_eq (name (f z)) n) (sym e) ∙ t in (rw p (ap (λ z. Some (0, f z)) (sym e)))
  first_at (y ∷ ys) (suc i) x l e h t =
      let u = nothing_before (bytes_eq (name (f y)) n) (0, f y) (first_named name n (map f (take i ys))) h in
      rw (u.0) (ap later (first_at ys i x (omega arith) e u.1 t) ∙ ap (λ m. Some (m, f x)) (add-one _))

  none_then : (xs : List X) (x : X) → first_named name n (map f xs) ≡ None → bytes_eq (name (f x)) n ≡ false → first_named name n (map f (xs ++ x ∷ [])) ≡ None
  none_then [] x h t = rw t refl
  none_then (y ∷ ys) x h t =
      let u = nothing_before (bytes_eq (name (f y)) n) (0, f y) (first_named name n (map f ys)) h in
      rw (u.0) (ap later (none_then ys x u.1 t))

  pub none_more : (xs : List X) (i : ℕ) (x : X) → i < length xs → x ≡ get_or xs i x → first_named name n (map f (take i xs)) ≡ None
      → bytes_eq (name (f x)) n ≡ false → first_named name n (map f (take (i + 1) xs)) ≡ None
  none_more xs i x l e h t = rw (take_more xs i x l, sym e) (none_then (take i xs) x h t)

module _ {Y : Type 0} (n : List ℕ) where
  -- the entry of the name, as a global
  pub entry_at : (es : List (Vec ℕ Y × Entry)) (i : ℕ) (k : Vec ℕ Y) (e : Entry) → i < length es → get_or es i (k, e) ≡ (k, e) → bytes_eq n k.items ≡ true
      → ((j : ℕ) → j < i → bytes_eq n (get_or (keys_of es) j k).items ≡ false)
      → first_named (λ d. d.name) n (map (λ x. entry_of x.0.items x.1) es) ≡ Some (i, entry_of n e)
  entry_at [] i k e l g t before = absurd (omega arith)
  entry_at (x ∷ es) zero k e l g t before =
      let p : bytes_eq x.0.items n ≡ true = ap (λ y. bytes_eq y.0.items n) g ∙ swapped k.items n ∙ t in
      let q : n ≡ k.items = (bytes_eq-Decides n k.items).0 t in
      rw p (ap (λ y. Some (0, entry_of y.0.items y.1)) g ∙ ap (λ m. Some (0, entry_of m e)) (sym q))
  entry_at (x ∷ es) (suc i) k e l g t before =
      let p : bytes_eq x.0.items n ≡ false = swapped x.0.items n ∙ before 0 (omega arith) in
      rw p (ap later (entry_at es i k e (omega arith) g t (λ j m. before (suc j) (omega arith))) ∙ ap (λ m. Some (m, entry_of n e)) (add-one _))

  pub key_of : (es : List (Vec ℕ Y × Entry)) (i : ℕ) (k : Vec ℕ Y) (e : Entry) → i < length es → get_or es i (k, e) ≡ (k, e) → get_or (keys_of es) i k ≡ k
  key_of [] i k e l g = absurd (omega arith)
  key_of (x ∷ es) zero k e l g = ap (λ y. y.0) g
  key_of (x ∷ es) (suc i) k e l g = key_of es i k e (omega arith) g
