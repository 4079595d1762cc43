-- How the entries of a map are found by name.
use Rattle.zf_term.proofs.Prelude.{if◌then◌else◌, ◌++◌, ◌+◌, ◌↔◌, ◌∙◌, ◌∷◌, ◌≡◌, [], ap, Bool, Bor, cond, false, is_some, IsTrue, List, map, MatchOption, None, not, Option, refl, Some, sym, true, true≢false, ℕ, map-append, none-some, same_Some, bytes_eq-Decides, lookup, Vec, bytes_eq, Defined, definition_of, first_named, later, Entry}
use Rattle.std.specs.Option.{option_copied}
use Rattle.zf_term.proofs.SameNames.{swapped}

abbrev global : List ℕ → Entry → Defined
global name e = record { name = name; definition = definition_of e }

module _ {Y : Type 0} (n : List ℕ) where
  abbrev seen : List (Vec ℕ Y × Entry) → List Defined
  seen es = map (λ x. global x.0.items x.1) es

  abbrev found : List (Vec ℕ Y × Entry) → Option Entry
  found es = lookup (λ k. bytes_eq n k.items) es

  -- a name that the map lacks is that of no global
  pub no_global : (es : List (Vec ℕ Y × Entry)) → found es ≡ None → first_named (λ d. d.name) n (seen es) ≡ None
  no_global [] h = refl
  no_global (x ∷ es) h = by (bytes_eq n x.0.items) (bytes_eq x.0.items n) (swapped x.0.items n) (found es) h (no_global es)
    where
      by :
          (b c : Bool) → c ≡ b → (o : Option Entry) → cond b (Some x.1) o ≡ None → (o ≡ None → first_named (λ d. d.name) n (seen es) ≡ None)
          → (if c then Some (0, global x.0.items x.1) else later (first_named (λ d. d.name) n (seen es))) ≡ None
      by true c e o h rest = absurd (none-some x.1 (sym h))
      by false true e o h rest = absurd (cc)
      by false false e o h rest = ap later (rest h)

  -- and the other way round
  pub no_entry : (es : List (Vec ℕ Y × Entry)) → first_named (λ d. d.name) n (seen es) ≡ None → found es ≡ None
  no_entry [] h = refl
  no_entry (x ∷ es) h = by (bytes_eq n x.0.items) (bytes_eq x.0.items n) (swapped x.0.items n) (first_named (λ d. d.name) n (seen es)) h (no_entry es)
    where
      by :
          (b c : Bool) → c ≡ b → (o : Option (ℕ × Defined)) → (if c then Some (0, global x.0.items x.1) else later o) ≡ None → (o ≡ None → found es ≡ None)
          → cond b (Some x.1) (found es) ≡ None
      by b true e o h rest = absurd (none-some (0, global x.0.items x.1) (sym h))
      by true false e o h rest = absurd (cc)
      by false false e None h rest = rest refl
      by false false e (Some p) h rest = absurd (none-some (p.0 + 1, p.1) (sym h))

  -- the entry of the name is the first global of the name
  pub first_global : (es : List (Vec ℕ Y × Entry)) (e : Entry) → found es ≡ Some e → (i : ℕ) × (first_named (λ d. d.name) n (seen es) ≡ Some (i, global n e))
  first_global [] e h = absurd (none-some e h)
  first_global (x ∷ es) e h = by (bytes_eq n x.0.items) refl (bytes_eq x.0.items n) (swapped x.0.items n) h (first_global es e)
    where
      by :
          (b : Bool) → bytes_eq n x.0.items ≡ b → (c : Bool) → c ≡ b → cond b (Some x.1) (found es) ≡ Some e
          → (found es ≡ Some e → (i : ℕ) × (first_named (λ d. d.name) n (seen es) ≡ Some (i, global n e)))
          → (i : ℕ) × ((if c then Some (0, global x.0.items x.1) else later (first_named (λ d. d.name) n (seen es))) ≡ Some (i, global n e))
      by true here true e h rest =
          let name : x.0.items ≡ n = sym ((bytes_eq-Decides n x.0.items).0 here) in
          (0, ap (λ m. Some (0, global m x.1)) name ∙ ap (λ v. Some (0, global n v)) (same_Some x.1 _ h))
      by true here false e h rest = absurd (cc)
      by false here true e h rest = absurd (cc)
      by false here false e h rest = let p = rest h in (p.0 + 1, ap later p.1)

  -- what a look-up answers
  pub entry_found :
      (es : List (Vec ℕ Y × Entry)) (o : Option (Bor Entry)) → option_copied o ≡ found es
      → MatchOption o (first_named (λ d. d.name) n (seen es) ≡ None) (λ e. (i : ℕ) × (first_named (λ d. d.name) n (seen es) ≡ Some (i, global n e.now)))
  entry_found es None h = no_global es (sym h)
  entry_found es (Some e) h = first_global es e.now (sym h)

  -- what a test for the name answers
  pub new_name : (es : List (Vec ℕ Y × Entry)) (there : Bool) → there ≡ is_some (found es) → IsTrue (not there) ↔ (first_named (λ d. d.name) n (seen es) ≡ None)
  new_name es there e = by there (found es) refl e
    where
      by :
          (b : Bool) (o : Option Entry) → found es ≡ o → b ≡ is_some o
          → IsTrue (not b) ↔ (first_named (λ d. d.name) n (seen es) ≡ None)
      by true None f e = absurd (true≢false e)
      by true (Some x) f e = (λ t. absurd (true≢false (sym t)), λ none. absurd (none-some x (sym (no_entry es none) ∙ f)))
      by false None f e = (λ t. no_global es f, λ none. refl)
      by false (Some x) f e = absurd (true≢false (sym e))

-- globals of more entries
pub seen_more : {Y : Type 0} (es fs : List (Vec ℕ Y × Entry)) (k : Vec ℕ Y) (e : Entry) → fs ≡ es ++ (k, e) ∷ []
    → map (λ x. global x.0.items x.1) fs ≡ map (λ x. global x.0.items x.1) es ++ global k.items e ∷ []
seen_more es fs k e h = ap (map (λ x. global x.0.items x.1)) h ∙ map-append (λ x. global x.0.items x.1) es ((k, e) ∷ [])
