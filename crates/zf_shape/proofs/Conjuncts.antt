-- The nodes and the height of each form of conjunct.
use Rattle.zf_shape.proofs.Prelude.{◌+◌, ◌-◌, ◌<◌, ◌↔◌, ◌∙◌, ◌≡◌, ◌≤◌, [], ◌∷◌, ap, arith, Bool, false, IsTrue, length, List, MatchOption, max, None, Option, refl, Some, sym, true, true≢false, ℕ, Batch, conjunct_of, Conjunct, is_member, joined, one_holds, resolved_of, ResolvedTree, height, nodes, numbering, Resolved, of-Either, of-Member, of-Term, same_height, same_nodes, anywhere, AreLow, Sides, sides_span, Span}
use Rattle.zf_term.specs.declared.conjunct.Conjunct.TheVariants as v
use Rattle.zf_shape.proofs.Heights.{below_nodes, some_height}
use Rattle.zf_shape.proofs.Joined.{all_in, as_high, low_joined}

-- ---- heights

pub height_term : (t : Resolved) (ps : Option (List ℕ)) (whole : Conjunct) → whole ≡ v.Term t ps → height (conjunct_of whole) ≡ height (resolved_of t)
height_term t ps whole is = ap (λ c. height (conjunct_of c)) is ∙ ap height (of-Term t ps) ∙ same_height (numbering ps) (resolved_of t)

pub height_member : (i : ℕ) (t : Resolved) (ps : Option (List ℕ)) (whole : Conjunct) → whole ≡ v.Member i t ps → height (conjunct_of whole) ≡ height (resolved_of t) + 1
height_member i t ps whole is =
    let seen = ap (λ c. height (conjunct_of c)) is ∙ ap height (of-Member i t ps) ∙ same_height (numbering ps) (is_member i (resolved_of t)) in
    omega (arith, seen, some_height (resolved_of t))

-- the place makes no difference
height_of_joined : (l : Span) (ts : List ResolvedTree) → height (joined l ts) ≡ height (joined anywhere ts)
height_of_joined l [] = refl
height_of_joined l (t ∷ ts) = refl

pub height_either : (s : Sides) (left right : List Batch) (ps : Option (List ℕ)) (whole : Conjunct) → whole ≡ v.Either s left right ps
    → height (conjunct_of whole) ≡ max (height (joined anywhere (all_in left))) (height (joined anywhere (all_in right))) + 1
height_either s left right ps whole is =
    let seen = ap (λ c. height (conjunct_of c)) is ∙ ap height (of-Either s left right ps) ∙ same_height (numbering ps) (one_holds (sides_span s) (all_in left) (all_in right)) in
    omega (arith, seen, height_of_joined (sides_span s) (all_in left), height_of_joined (sides_span s) (all_in right))

pub same_height_told : (b : Bool) (x y n : ℕ) → x ≡ y → IsTrue b ↔ y ≤ n → IsTrue b ↔ x ≤ n
same_height_told b x y n e told = (λ h. omega (arith, e, told.0 h), λ h. told.1 (omega (arith, e, h)))

pub lower_told : (b : Bool) (x y m n : ℕ) → x ≡ y + 1 → (1 ≤ n) × (m ≡ n - 1) → IsTrue b ↔ y ≤ m → IsTrue b ↔ x ≤ n
lower_told b x y m n e step told = (λ h. omega (arith, e, step.0, step.1, told.0 h), λ h. told.1 (omega (arith, e, step.0, step.1, h)))

pub none_low_enough : (x n : ℕ) → n < x → IsTrue false ↔ x ≤ n
none_low_enough x n h = (λ b. absurd (true≢false (sym b)), λ k. absurd (omega (arith, h, k)))

pub second_told : (r b : Bool) (x y z m n : ℕ) → x ≡ max y z + 1 → (1 ≤ n) × (m ≡ n - 1) → IsTrue r ↔ y ≤ m → r ≡ true → IsTrue b ↔ z ≤ m → IsTrue b ↔ x ≤ n
second_told r b x y z m n e step first holds second =
    let low = first.0 holds in
    (λ h. omega (arith, e, step.0, step.1, low, second.0 h), λ h. second.1 (omega (arith, e, step.0, step.1, h)))

pub first_told : (r : Bool) (x y z m n : ℕ) → x ≡ max y z + 1 → (1 ≤ n) × (m ≡ n - 1) → IsTrue r ↔ y ≤ m → r ≡ false → IsTrue r ↔ x ≤ n
first_told r x y z m n e step first fails = (λ h. absurd (true≢false (sym h ∙ fails)), λ h. first.1 (omega (arith, e, step.0, step.1, h)))

pub joined_told : (b : Bool) (n m : ℕ) (ts : List ResolvedTree) → m ≡ length ts → 0 < m → IsTrue b ↔ AreLow n (m - 1) m ts
    → IsTrue b ↔ height (joined anywhere ts) ≤ n
joined_told b n m ts e some told =
    let same = low_joined anywhere n m ts e some in
    (λ h. same.1 (told.0 h), λ h. told.1 (same.0 h))

-- ---- nodes

pub nodes_term : (t : Resolved) (ps : Option (List ℕ)) (whole : Conjunct) → whole ≡ v.Term t ps → nodes (conjunct_of whole) ≡ nodes (resolved_of t)
nodes_term t ps whole is = ap (λ c. nodes (conjunct_of c)) is ∙ ap nodes (of-Term t ps) ∙ same_nodes (numbering ps) (resolved_of t)

pub nodes_member : (i : ℕ) (t : Resolved) (ps : Option (List ℕ)) (whole : Conjunct) → whole ≡ v.Member i t ps → nodes (conjunct_of whole) ≡ nodes (resolved_of t) + 2
nodes_member i t ps whole is =
    let seen = ap (λ c. nodes (conjunct_of c)) is ∙ ap nodes (of-Member i t ps) ∙ same_nodes (numbering ps) (is_member i (resolved_of t)) in
    omega (arith, seen)

nodes_of_joined : (l : Span) (ts : List ResolvedTree) → nodes (joined l ts) ≡ nodes (joined anywhere ts)
nodes_of_joined l [] = refl
nodes_of_joined l (t ∷ ts) = refl

pub nodes_either : (s : Sides) (left right : List Batch) (ps : Option (List ℕ)) (whole : Conjunct) → whole ≡ v.Either s left right ps
    → nodes (conjunct_of whole) ≡ nodes (joined anywhere (all_in left)) + nodes (joined anywhere (all_in right)) + 1
nodes_either s left right ps whole is =
    let seen = ap (λ c. nodes (conjunct_of c)) is ∙ ap nodes (of-Either s left right ps) ∙ same_nodes (numbering ps) (one_holds (sides_span s) (all_in left) (all_in right)) in
    omega (arith, seen, nodes_of_joined (sides_span s) (all_in left), nodes_of_joined (sides_span s) (all_in right))

-- what is left of a room after so many nodes
abbrev pub IsLeft : Option ℕ → (room count : ℕ) → Type 0
IsLeft o room n = MatchOption o (room < n) (λ left. left + n ≡ room)

pub left_by_more : (o : Option ℕ) (x y more rest room : ℕ) → x ≡ y + more → rest + more ≡ room → IsLeft o rest y → IsLeft o room x
left_by_more None x y more rest room e step h = omega (arith, e, step, h)
left_by_more (Some n) x y more rest room e step h = omega (arith, e, step, h)

pub left_by_two : (o : Option ℕ) (x a b rest left room : ℕ) → x ≡ a + b + 1 → rest + 1 ≡ room → left + a ≡ rest → IsLeft o left b → IsLeft o room x
left_by_two None x a b rest left room e step first h = omega (arith, e, step, first, h)
left_by_two (Some n) x a b rest left room e step first h = omega (arith, e, step, first, h)

pub left_by_joined : (o : Option ℕ) (x s n rest room : ℕ) → x + 1 ≡ s + n → rest + n ≡ room → IsLeft o (rest + 1) s → IsLeft o room x
left_by_joined None x s n rest room e step h = omega (arith, e, step, h)
left_by_joined (Some m) x s n rest room e step h = omega (arith, e, step, h)

pub same_left : (o : Option ℕ) (x y room : ℕ) → x ≡ y → IsLeft o room y → IsLeft o room x
same_left None x y room e h = omega (arith, e, h)
same_left (Some n) x y room e h = omega (arith, e, h)

-- ---- the sides, as they are got

pub height_sides : (s : Sides) (left right a b : List Batch) (ps : Option (List ℕ)) (whole : Conjunct) → whole ≡ v.Either s left right ps → a ≡ left → b ≡ right
    → height (conjunct_of whole) ≡ max (height (joined anywhere (all_in a))) (height (joined anywhere (all_in b))) + 1
height_sides s left right a b ps whole is e f =
    height_either s left right ps whole is
    ∙ ap (λ (bs : List Batch). max (height (joined anywhere (all_in bs))) (height (joined anywhere (all_in right))) + 1) (sym e)
    ∙ ap (λ (bs : List Batch). max (height (joined anywhere (all_in a))) (height (joined anywhere (all_in bs))) + 1) (sym f)

pub nodes_sides : (s : Sides) (left right a b : List Batch) (ps : Option (List ℕ)) (whole : Conjunct) → whole ≡ v.Either s left right ps → a ≡ left → b ≡ right
    → nodes (conjunct_of whole) ≡ nodes (joined anywhere (all_in a)) + nodes (joined anywhere (all_in b)) + 1
nodes_sides s left right a b ps whole is e f =
    nodes_either s left right ps whole is
    ∙ ap (λ (bs : List Batch). nodes (joined anywhere (all_in bs)) + nodes (joined anywhere (all_in right)) + 1) (sym e)
    ∙ ap (λ (bs : List Batch). nodes (joined anywhere (all_in a)) + nodes (joined anywhere (all_in bs)) + 1) (sym f)

pub as_many_nodes : (ts : List ResolvedTree) → length ts ≤ nodes (joined anywhere ts)
as_many_nodes ts = omega (arith, as_high anywhere ts, below_nodes (joined anywhere ts))
