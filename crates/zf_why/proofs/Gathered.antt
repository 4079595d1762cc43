-- The conjuncts of a side, gathered batch after batch, and what they are shown by.
use Rattle.zf_why.proofs.Prelude.{◌++◌, ◌+◌, ◌<◌, ◌≤◌, ◌∙◌, ◌∷◌, ◌≡◌, [], ap, append-nil, append_assoc, Bool, drop, get_or, length, List, map, Option, Some, suc, sym, zero, ℕ, slice_get, Comp, conjunct_of, ResolvedTree, Value, Environment, chosen_of, IsCore, Global, Vec, drop_all, IfOk, Err, Ok, Result, all_of, Batch, Conjunct, batch_of, seen_chosen, AreBlamed}
use Rattle.zf_term.proofs.Walk.{dropped, pushed}
use Rattle.zf_why.specs.{part_of}
use Rattle.zf_why.specs.declared.part.Part.{Part}

-- the conjuncts of batches
abbrev pub all_in : List Batch → List ResolvedTree
all_in bs = all_of (map batch_of bs)

pub one_batch : (xs : List Batch) (i : ℕ) (x : Batch) (before after whole : List ResolvedTree) → x ≡ get_or xs i x → i < length xs → after ≡ before ++ batch_of x
    → before ++ all_in (drop i xs) ≡ whole → after ++ all_in (drop (i + 1) xs) ≡ whole
one_batch xs i x before after whole at l step is =
    ap (λ (ts : List ResolvedTree). ts ++ all_in (drop (i + 1) xs)) step
    ∙ append_assoc before (batch_of x) (all_in (drop (i + 1) xs))
    ∙ ap (λ (bs : List Batch). before ++ all_in bs) (sym (dropped xs i x l at))
    ∙ is

pub no_batch : (xs : List Batch) (i : ℕ) (before whole : List ResolvedTree) → length xs ≤ i → before ++ all_in (drop i xs) ≡ whole → before ≡ whole
no_batch xs i before whole past is = sym (append-nil before) ∙ ap (λ (bs : List Batch). before ++ all_in bs) (sym (drop_all i xs past)) ∙ is

-- one more was pushed, changed by f
pub one_pushed : {A B : Type 0} (f : B → B) (g : A → B) (xs : List A) (i : ℕ) (x y : A) (before after : List A) (whole : List B) → x ≡ get_or xs i x → i < length xs
    → g y ≡ f (g x) → after ≡ before ++ y ∷ []
    → map g before ++ map f (map g (drop i xs)) ≡ whole → map g after ++ map f (map g (drop (i + 1) xs)) ≡ whole
one_pushed {B = B} f g xs i x y before after whole at l same step is =
    let rest = map f (map g (drop (i + 1) xs)) in
    pushed g before after y rest step
    ∙ ap (λ (z : B). map g before ++ z ∷ rest) same
    ∙ ap (λ zs. map g before ++ map f (map g zs)) (sym (dropped xs i x l at))
    ∙ is

-- ---- parts

pub read_mapped : {A B : Type 0} (f : A → B) (xs : List A) (i : ℕ) (x : A) → slice_get xs i ≡ Some x → slice_get (map f xs) i ≡ Some (f x)
read_mapped f [] i x at = absurd (cc)
read_mapped f (y ∷ ys) zero x at = let e : y ≡ x = cc in ap (λ z. Some (f z)) e
read_mapped f (y ∷ ys) (suc i) x at = read_mapped f ys i x at

abbrev pub parts_of : List Conjunct → List Part
parts_of cs = map part_of (map conjunct_of cs)

pub part_at : (cs : List Conjunct) (i : ℕ) (x : Conjunct) → slice_get cs i ≡ Some x → slice_get (parts_of cs) i ≡ Some (part_of (conjunct_of x))
part_at cs i x at = read_mapped part_of (map conjunct_of cs) i (conjunct_of x) (read_mapped conjunct_of cs i x at)

pub parts_chosen : (cs : List Conjunct) (m : List Bool) → chosen_of (parts_of cs) m ≡ map part_of (chosen_of (map conjunct_of cs) m)
parts_chosen cs m = sym (seen_chosen part_of (map conjunct_of cs) m)

module _ (e : Environment) (cs : List Comp) (held : List (Option Value)) (given ps : List ResolvedTree) where
  pub blamed_by : {E : Type 0} (r : Result (Vec Part Global) E) (core chosen : List Bool) → IsCore e cs held given ps core → chosen ≡ core
      → IfOk r (λ parts. parts.items ≡ map part_of (chosen_of ps chosen)) → IfOk r (λ parts. AreBlamed e cs held given ps parts.items)
  blamed_by (Ok parts) core chosen is same h = (core, is, h ∙ ap (λ (m : List Bool). map part_of (chosen_of ps m)) same)
  blamed_by (Err x) core chosen is same h = tt
