-- Components are gone over from the front: whether each has a name of its own.
use Rattle.zf_calculus.proofs.Prelude.{◌+◌, ◌-◌, ◌<◌, ◌∙◌, ◌≡◌, ap, Bool, drop, false, get_or, length, List, map, None, Option, Some, subst, sym, take, true, true≢false, ℕ, take_rest, at_step, dropped, Comp, comp_of, found_as, Component, AreOnce, comp_named}
use Rattle.std.specs.Option.{is_some}

pub none_found : {A B : Type 0} (f : A → B) (o : Option (ℕ × A)) (p : Option (ℕ × B)) (test : Bool) → test ≡ is_some o → test ≡ false → found_as f o ≡ p → p ≡ None
none_found f None p test is fails e = sym e
none_found f (Some q) p test is fails e = absurd (true≢false (sym is ∙ fails))

some_found : {A B : Type 0} (f : A → B) (o : Option (ℕ × A)) (p : Option (ℕ × B)) (test : Bool) → test ≡ is_some o → test ≡ true → found_as f o ≡ p → p ≡ None → ⊥
some_found f None p test is holds e none = true≢false (sym holds ∙ is)
some_found f (Some q) p test is holds e none = absurd (cc)

-- none of those after the component has its name
pub one_more_apart :
    (cs : List Component) (i : ℕ) (c : Component) (x : List ℕ) → i < length cs → c ≡ get_or cs i c → x ≡ (get_or cs i c).name
    → comp_named x (map comp_of (take (length cs - (i + 1)) (drop (i + 1) cs))) ≡ None
    → AreOnce (map comp_of (drop (i + 1) cs)) → AreOnce (map comp_of (drop i cs))
one_more_apart cs i c x below at name none rest =
    let same : x ≡ c.name = name ∙ ap (λ (d : Component). d.name) (sym at) in
    let behind = subst (λ (ds : List Component). comp_named x (map comp_of ds) ≡ None) (take_rest cs (i + 1)) none in
    let one = subst (λ (y : List ℕ). comp_named y (map comp_of (drop (i + 1) cs)) ≡ None) same behind in
    at_step (λ (ds : List Component). AreOnce (map comp_of ds)) cs i c at below (one, rest)

-- those ahead have each a name of its own: the component and those after it
pub once_ahead : (cs : List Component) (i : ℕ) (c : Component) → i < length cs → c ≡ get_or cs i c → AreOnce (map comp_of (drop i cs))
    → (comp_named c.name (map comp_of (drop (i + 1) cs)) ≡ None) × AreOnce (map comp_of (drop (i + 1) cs))
once_ahead cs i c below at all = subst (λ (ds : List Component). AreOnce (map comp_of ds)) (dropped cs i c below at) all

-- one of those after the component has its name
pub one_found_behind :
    {A : Type 0} (f : A → Comp) (cs : List Component) (i : ℕ) (c : Component) (x : List ℕ) (o : Option (ℕ × A)) (test : Bool) → i < length cs → c ≡ get_or cs i c → x ≡ (get_or cs i c).name
    → test ≡ is_some o → test ≡ true → found_as f o ≡ comp_named x (map comp_of (take (length cs - (i + 1)) (drop (i + 1) cs)))
    → AreOnce (map comp_of (drop i cs)) → ⊥
one_found_behind f cs i c x o test below at name is holds e all =
    let same : x ≡ c.name = name ∙ ap (λ (d : Component). d.name) (sym at) in
    let one = subst (λ (y : List ℕ). comp_named y (map comp_of (drop (i + 1) cs)) ≡ None) (sym same) (once_ahead cs i c below at all).0 in
    some_found f o _ test is holds e (subst (λ (ds : List Component). comp_named x (map comp_of ds) ≡ None) (sym (take_rest cs (i + 1))) one)
