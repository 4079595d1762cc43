-- Components of the state whose name a schema has at another type, component by component.
use Rattle.zf_steps.proofs.Prelude.{◌+◌, ◌<◌, ◌∙◌, ◌∷◌, ◌≡◌, ◌≤◌, ◌↔◌, ap, Bool, drop, get_or, inr, IsTrue, length, List, map, Some, subst, sym, ℕ, one_some, Comp, comp_of, first_named, Component, Allows, AllowsAll, StateClashes}
use Rattle.zf_steps.proofs.Shapes.{ahead_got, nothing_ahead}

pub found_allows : (comps : List Comp) (c d : Comp) (place : ℕ) (b : Bool) → Some (place, d) ≡ first_named (λ e. e.name) c.name comps → IsTrue b ↔ (d.type ≡ c.type) → IsTrue b ↔ Allows comps c
found_allows comps c d place b at same = (
  λ t other e there.
      let one : (place, d) ≡ (other, e) = one_some (place, d) (other, e) (at ∙ there) in
      sym (ap (λ (p : ℕ × Comp). p.1.type) one) ∙ same.0 t,
  λ h. same.1 (h place d (sym at)),
)

-- what is still ahead decides
pub record IsAhead (comps all rest : List Comp) : Type 0 where
  pub allows : AllowsAll comps rest → AllowsAll comps all
  pub clashes : (name : List ℕ) → StateClashes comps rest name → StateClashes comps all name

pub at_first : (comps all : List Comp) → IsAhead comps all all
at_first comps all = record { allows = λ h. h; clashes = λ name h. h }

module _ (comps all : List Comp) (xs : List Component) (i : ℕ) (x : Component) (at : x ≡ get_or xs i x) (l : i < length xs) (h : IsAhead comps all (map comp_of (drop i xs))) where
  here : map comp_of (drop i xs) ≡ comp_of x ∷ map comp_of (drop (i + 1) xs)
  here = ap (map comp_of) (ahead_got xs i x at l)

  pub passed : Allows comps (comp_of x) → IsAhead comps all (map comp_of (drop (i + 1) xs))
  passed allows = record {
    allows = λ rest. h.allows (subst (AllowsAll comps) (sym here) (allows, rest));
    clashes = λ name rest. h.clashes name (subst (λ cs. StateClashes comps cs name) (sym here) (inr (allows, rest)));
  }

pub all_passed : (comps all : List Comp) (xs : List Component) (n : ℕ) → length xs ≤ n → IsAhead comps all (map comp_of (drop n xs)) → AllowsAll comps all
all_passed comps all xs n l h = h.allows (subst (AllowsAll comps) (sym (ap (map comp_of) (nothing_ahead xs n l))) tt)
