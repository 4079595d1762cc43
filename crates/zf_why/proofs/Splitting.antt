-- The sides of a disjunction of schemas, which may be split again.
use Rattle.zf_why.proofs.Prelude.{◌++◌, ◌∙◌, ◌∷◌, ◌≡◌, [], ap, append-nil, List, map, map-append, Option, refl, subst, sym, take, take_more, ℕ, ◌+◌, ◌<◌, AllByRecursion, all_of, Batch, batch_of, batch-seen, CanBegin, Comp, Conjunct, conjunct_of, Environment, from_to, get_or, length, moved, numbering, of-Either, IfOk, IfOk-weaker, length-map, Result, one_holds, ResolvedTree, RuleOut, Value, ◌≢◌, arith}
use Rattle.zf_tree.specs.declared.span.Span.{Span}
use Rattle.zf_term.specs.declared.conjunct.Conjunct.TheFolds.{fold-roll-Batch, fold-roll-Conjunct, map-Conjunct}
use Rattle.zf_term.specs.declared.conjunct.Conjunct.TheOpen.{Conjunct-F}
use Rattle.zf_term.specs.declared.conjunct.Conjunct.TheVariants as v
use Rattle.zf_term.specs.declared.conjunct.Conjunct.TheViews.{roll-Batch, roll-Conjunct}
use Rattle.zf_term.specs.declared.conjunct.Sides.{Sides}
use Rattle.zf_term.specs.declared.resolved.Resolved.{Resolved}
use Rattle.zf_term.specs.{sides_span}
use Rattle.zf_why.specs.{AreEach, AreSides, AreSidesOf, CanTell, IsThat, moved_side, side_in, only, parted, side_split, Split, split_of, split_step, splits_of, splits_step, whole}
use Rattle.zf_why.specs.declared.sides.Disjunct.{Disjunct}
use Rattle.zf_why.proofs.Lists.{all_append}
use Rattle.zf_why.proofs.Disjoined.{left_begins, left_ruled_out, moved_sides, right_begins, right_ruled_out}

-- ---- how a conjunct is split

rolled : (x : Conjunct-F Conjunct Batch) → split_of (roll-Conjunct x) ≡ split_step (map-Conjunct Conjunct Batch Split (List Split) split_of splits_of x)
unfolding split_of splits_of
rolled x = fold-roll-Conjunct Split (List Split) split_step splits_step x

pub of_term : (t : Resolved) (ps : Option (List ℕ)) → split_of (v.Term t ps) ≡ whole
of_term t ps = ap split_of (sym (v.rolls-Term t ps)) ∙ rolled (Conjunct-F.Term t ps)

pub of_member : (i : ℕ) (t : Resolved) (ps : Option (List ℕ)) → split_of (v.Member i t ps) ≡ whole
of_member i t ps = ap split_of (sym (v.rolls-Member i t ps)) ∙ rolled (Conjunct-F.Member i t ps)

of_either : (s : Sides) (left right : List Batch) (ps : Option (List ℕ))
    → split_of (v.Either s left right ps) ≡ parted s.left (side_split (map splits_of left)) s.right (side_split (map splits_of right))
of_either s left right ps = ap split_of (sym (v.rolls-Either s left right ps)) ∙ rolled (Conjunct-F.Either s left right ps)

of_batch : (cs : List Conjunct) (ps : Option (List ℕ)) → splits_of (roll-Batch (record { conjuncts = cs; places = ps })) ≡ map split_of cs
unfolding split_of splits_of
of_batch cs ps = fold-roll-Batch Split (List Split) split_step splits_step (record { conjuncts = cs; places = ps })

-- ---- sides that are split again

empty_front : {A : Type 0} (xs ys : List A) → [] ≡ xs ++ ys → xs ≡ []
empty_front [] ys is = refl
empty_front (x ∷ xs) ys is = absurd (cc)

module _ {A : Type 0} (S : Span → List ResolvedTree → A → Type 0) where
  none_said : (x : Split) (l : Span) (ps : List ResolvedTree) → AreSides S x l ps [] → ⊥
  none_said whole l ps (side, is, one) = cc
  none_said (parted a x b y) l ps (p, one, h) = none_said x a h.left (subst (AreSides S x a h.left) (empty_front h.of_left h.of_right h.all) h.told_left)

  of_side : (x : Split) (l : Span) (p : ResolvedTree) (sides : List A) → AreSidesOf S x p sides → length sides ≢ 0 → AreSides S x l (p ∷ []) sides
  of_side whole l p sides is some = absurd (some (ap length is))
  of_side (parted a x b y) l p sides h some = (p, refl, h)

  not_split : (x : Split) (p : ResolvedTree) (sides : List A) → AreSidesOf S x p sides → length sides ≡ 0 → x ≡ whole
  not_split whole p sides is none = refl
  not_split (parted a x b y) p [] h none = absurd (none_said (parted a x b y) a (p ∷ []) (p, refl, h))
  not_split (parted a x b y) p (s ∷ sides) h none = absurd (cc)

-- ---- numbered anew

abbrev Placed : Type 0
Placed = Span × List ResolvedTree

module _ (f : ℕ → ℕ) where
  moved_again : (x : Split) (l : Span) (ps : List ResolvedTree) (sides : List Placed) → AreSides IsThat x l ps sides
      → AreSides IsThat x l (map (moved f) ps) (map (moved_side f) sides)
  moved_again whole l ps sides (side, is, one) = (moved_side f side, ap (moved_side f) is, ap (map (moved_side f)) one)
  moved_again (parted a x b y) l ps sides (p, one, h) = (
    moved f p,
    ap (map (moved f)) one,
    record {
      left = map (moved f) h.left;
      right = map (moved f) h.right;
      disjoined = ap (moved f) h.disjoined ∙ moved_sides f (from_to a b) h.left h.right;
      of_left = map (moved_side f) h.of_left;
      of_right = map (moved_side f) h.of_right;
      told_left = moved_again x a h.left h.of_left h.told_left;
      told_right = moved_again y b h.right h.of_right h.told_right;
      all = ap (map (moved_side f)) h.all ∙ map-append (moved_side f) h.of_left h.of_right;
    },
  )

-- ---- the sides of a conjunct

pub of_whole : (x : Split) (p : ResolvedTree) (sides : List Placed) → x ≡ whole → sides ≡ [] → AreSidesOf IsThat x p sides
of_whole x p sides is none = subst (λ (z : Split). AreSidesOf IsThat z p sides) (sym is) none

-- the sides of one that stands there and has these batches
abbrev pub AreAt : Span → List Batch → List Disjunct → Type 0
AreAt l bs sides = AreSides IsThat (side_split (map splits_of bs)) l (all_of (map batch_of bs)) (map side_in sides)

pub of_either_sides :
    (s : Sides) (left right : List Batch) (ps : Option (List ℕ)) (c : Conjunct) (xs ys sides : List Disjunct) → c ≡ v.Either s left right ps
    → AreAt s.left left xs → AreAt s.right right ys → map side_in sides ≡ map (moved_side (numbering ps)) (map side_in (xs ++ ys))
    → AreSidesOf IsThat (split_of c) (conjunct_of c) (map side_in sides)
unfolding moved_again
of_either_sides s left right ps c xs ys sides is one other placed =
    let p = one_holds (sides_span s) (all_of (map batch_of left)) (all_of (map batch_of right)) in
    let x = parted s.left (side_split (map splits_of left)) s.right (side_split (map splits_of right)) in
    let own : AreSidesOf IsThat x p (map side_in (xs ++ ys)) = record {
      left = all_of (map batch_of left);
      right = all_of (map batch_of right);
      disjoined = refl;
      of_left = map side_in xs;
      of_right = map side_in ys;
      told_left = one;
      told_right = other;
      all = map-append side_in xs ys;
    } in
    subst (λ (z : Split). AreSidesOf IsThat z (conjunct_of c) (map side_in sides)) (sym (ap split_of is ∙ of_either s left right ps))
    (subst (λ (q : ResolvedTree). AreSidesOf IsThat x q (map side_in sides)) (sym (ap conjunct_of is ∙ of-Either s left right ps))
    (subst (AreSidesOf IsThat x (moved (numbering ps) p)) (sym placed) (moved_again (numbering ps) x s.left (p ∷ []) (map side_in (xs ++ ys)) (p, refl, own)).2))

-- ---- the sides of a side

single : {A : Type 0} (xs : List A) (x : A) → length xs ≡ 1 → x ≡ get_or xs 0 x → xs ≡ x ∷ []
single [] x one at = absurd (omega (arith, one))
single (y ∷ []) x one at = ap (λ z. z ∷ []) (sym at)
single (y ∷ z ∷ zs) x one at = absurd (omega (arith, one))

not_single : {A : Type 0} (f : A → List Split) (xs : List A) → length xs ≢ 1 → side_split (map f xs) ≡ whole
not_single f [] other = refl
not_single f (x ∷ []) other = absurd (other refl)
not_single f (x ∷ y ∷ zs) other = refl

not_only : (cs : List Conjunct) → length cs ≢ 1 → only (map split_of cs) ≡ whole
not_only [] other = refl
not_only (c ∷ []) other = absurd (other refl)
not_only (c ∷ d ∷ cs) other = refl

module _ {E : Type 0} (l : Span) (bs : List Batch) (r : Result (List Disjunct) E) where
  at_whole : side_split (map splits_of bs) ≡ whole → IfOk r (λ sides. map side_in sides ≡ (l, all_of (map batch_of bs)) ∷ []) → IfOk r (AreAt l bs)
  at_whole is =
      IfOk-weaker r _ _ (λ sides one. subst (λ (z : Split). AreSides IsThat z l (all_of (map batch_of bs)) (map side_in sides)) (sym is) ((l, all_of (map batch_of bs)), refl, one))

  pub of_batches : length bs ≢ 1 → IfOk r (λ sides. map side_in sides ≡ (l, all_of (map batch_of bs)) ∷ []) → IfOk r (AreAt l bs)
  of_batches other = at_whole (not_single splits_of bs other)

  module _ (b : Batch) (cs : List Conjunct) (single_batch : length bs ≡ 1) (first : b ≡ get_or bs 0 b) (own : cs ≡ b.conjuncts) where
    only_batch : side_split (map splits_of bs) ≡ only (map split_of cs)
    only_batch =
        ap (λ (xs : List Batch). side_split (map splits_of xs)) (single bs b single_batch first)
        ∙ ap only (of_batch b.conjuncts b.places)
        ∙ ap (λ (ds : List Conjunct). only (map split_of ds)) (sym own)

    pub of_conjuncts : length cs ≢ 1 → IfOk r (λ sides. map side_in sides ≡ (l, all_of (map batch_of bs)) ∷ []) → IfOk r (AreAt l bs)
    of_conjuncts other = at_whole (only_batch ∙ not_only cs other)

    module _ (c : Conjunct) (further : List Disjunct) (alone : length cs ≡ 1) (there : c ≡ get_or cs 0 c)
        (split : AreSidesOf IsThat (split_of c) (conjunct_of c) (map side_in further)) where
      only_conjunct : side_split (map splits_of bs) ≡ split_of c
      only_conjunct = only_batch ∙ ap (λ (ds : List Conjunct). only (map split_of ds)) (single cs c alone there)

      its_predicate : moved (numbering b.places) (conjunct_of c) ∷ [] ≡ all_of (map batch_of bs)
      its_predicate =
          ap (λ (ds : List Conjunct). map (moved (numbering b.places)) (map conjunct_of ds)) (sym (single cs c alone there) ∙ own)
          ∙ sym (batch-seen b)
          ∙ sym (append-nil (batch_of b))
          ∙ ap (λ (xs : List Batch). all_of (map batch_of xs)) (sym (single bs b single_batch first))

      pub of_unsplit : length further ≡ 0 → IfOk r (λ sides. map side_in sides ≡ (l, all_of (map batch_of bs)) ∷ []) → IfOk r (AreAt l bs)
      of_unsplit none = at_whole (only_conjunct ∙ not_split IsThat (split_of c) (conjunct_of c) (map side_in further) split (length-map further side_in ∙ none))

      pub of_further : length further ≢ 0 → IfOk r (λ sides. map side_in sides ≡ map (moved_side (numbering b.places)) (map side_in further)) → IfOk r (AreAt l bs)
      of_further some =
          IfOk-weaker r _ _ (λ sides is.
          subst (λ (z : Split). AreSides IsThat z l (all_of (map batch_of bs)) (map side_in sides)) (sym only_conjunct)
          (subst (λ (qs : List ResolvedTree). AreSides IsThat (split_of c) l qs (map side_in sides)) its_predicate
          (subst (AreSides IsThat (split_of c) l (moved (numbering b.places) (conjunct_of c) ∷ [])) (sym is)
          (moved_again (numbering b.places) (split_of c) l (conjunct_of c ∷ []) (map side_in further)
          (of_side IsThat (split_of c) l (conjunct_of c) (map side_in further) split (λ none. some (sym (length-map further side_in) ∙ none)))))))

-- ---- what is reported of each side

module _ (e : Environment) (cs : List Comp) (held : List (Option Value)) (given : List ResolvedTree) where
  each_can : (x : Split) (l : Span) (ps : List ResolvedTree) (sides : List Placed) → AreSides IsThat x l ps sides
      → CanTell e cs held given (l, ps) → AllByRecursion (CanTell e cs held given) sides
  each_can whole l ps sides (side, is, one) can =
      subst (AllByRecursion (CanTell e cs held given)) (sym one) (subst (CanTell e cs held given) (sym is) can, tt)
  each_can (parted a x b y) l ps sides (p, one, h) can =
      let both : CanTell e cs held given (l, one_holds (from_to a b) h.left h.right ∷ []) =
      subst (λ (q : ResolvedTree). CanTell e cs held given (l, q ∷ [])) h.disjoined (subst (λ (qs : List ResolvedTree). CanTell e cs held given (l, qs)) one can)
      in
      subst (AllByRecursion (CanTell e cs held given)) (sym h.all)
      (all_append (CanTell e cs held given) h.of_left h.of_right
      (each_can x a h.left h.of_left h.told_left
      (left_begins e cs given (from_to a b) h.left h.right both.0, left_ruled_out e cs held given (from_to a b) h.left h.right both.1))
      (each_can y b h.right h.of_right h.told_right
      (right_begins e cs given (from_to a b) h.left h.right both.0, right_ruled_out e cs held given (from_to a b) h.left h.right both.1)))

  pub sides_can : (x : Split) (p : ResolvedTree) (sides : List Placed) → AreSidesOf IsThat x p sides → CanBegin e cs (given ++ p ∷ [])
      → RuleOut e cs held (given ++ p ∷ []) → AllByRecursion (CanTell e cs held given) sides
  sides_can whole p sides is begins none = subst (AllByRecursion (CanTell e cs held given)) (sym is) tt
  sides_can (parted a x b y) p sides h begins none = each_can (parted a x b y) a (p ∷ []) sides (p, refl, h) (begins, none)

module _ {A : Type 0} (S : Span → List ResolvedTree → A → Type 0) where
  -- one more
  each_further : (sides : List Placed) (side : Placed) (told : List A) (t : A) → AreEach S sides told → S side.0 side.1 t → AreEach S (sides ++ side ∷ []) (told ++ t ∷ [])
  each_further [] side [] t h k = (k, tt)
  each_further [] side (u ∷ told) t h k = absurd h
  each_further (s ∷ sides) side [] t h k = absurd h
  each_further (s ∷ sides) side (u ∷ told) t h k = (h.0, each_further sides side told t h.1 k)

  pub one_each : (ds : List Disjunct) (i : ℕ) (d : Disjunct) (told new : List A) (t : A) → d ≡ get_or ds i d → i < length ds → new ≡ told ++ t ∷ []
      → S d.span (map conjunct_of d.conjuncts) t → AreEach S (map side_in (take i ds)) told → AreEach S (map side_in (take (i + 1) ds)) new
  one_each ds i d told new t at l pushed is before =
      let more : map side_in (take (i + 1) ds) ≡ map side_in (take i ds) ++ side_in d ∷ [] =
      ap (map side_in) (take_more ds i d l ∙ ap (λ (z : Disjunct). take i ds ++ z ∷ []) (sym at)) ∙ map-append side_in (take i ds) (d ∷ [])
      in
      subst (AreEach S (map side_in (take (i + 1) ds))) (sym pushed)
      (subst (λ (ss : List Placed). AreEach S ss (told ++ t ∷ [])) (sym more) (each_further (map side_in (take i ds)) (side_in d) told t before is))

  apart : (xs ys : List Placed) (told : List A) → AreEach S (xs ++ ys) told → (ts us : List A) × (told ≡ ts ++ us) × AreEach S xs ts × AreEach S ys us
  apart [] ys told h = ([], told, refl, tt, h)
  apart (x ∷ xs) ys [] h = absurd h
  apart (x ∷ xs) ys (t ∷ told) h =
      let rest = apart xs ys told h.1 in
      (t ∷ rest.0, rest.1, ap (λ (ts : List A). t ∷ ts) rest.2, (h.0, rest.3), rest.4)

  one_said : (side : Placed) (told : List A) → AreEach S (side ∷ []) told → (t : A) × S side.0 side.1 t × (told ≡ t ∷ [])
  one_said side [] h = absurd h
  one_said side (t ∷ []) h = (t, h.0, refl)
  one_said side (t ∷ u ∷ told) h = absurd h.1

  said : (x : Split) (l : Span) (ps : List ResolvedTree) (sides : List Placed) (told : List A) → AreSides IsThat x l ps sides → AreEach S sides told → AreSides S x l ps told
  said whole l ps sides told (side, is, one) h =
      let t = one_said side told (subst (λ (ss : List Placed). AreEach S ss told) one h) in
      (t.0, subst (λ (s : Placed). S s.0 s.1 t.0) is t.1, t.2)
  said (parted a x b y) l ps sides told (p, one, k) h =
      let both = apart k.of_left k.of_right told (subst (λ (ss : List Placed). AreEach S ss told) k.all h) in (
        p,
        one,
        record {
          left = k.left;
          right = k.right;
          disjoined = k.disjoined;
          of_left = both.0;
          of_right = both.1;
          told_left = said x a k.left k.of_left both.0 k.told_left both.3;
          told_right = said y b k.right k.of_right both.1 k.told_right both.4;
          all = both.2;
        },
      )

  pub sides_said : (x : Split) (p : ResolvedTree) (sides : List Placed) (told : List A) → AreSidesOf IsThat x p sides → AreEach S sides told → AreSidesOf S x p told
  unfolding said
  sides_said whole p sides told is h = none_in told (subst (λ (ss : List Placed). AreEach S ss told) is h) where
    none_in : (told : List A) → AreEach S [] told → told ≡ []
    none_in [] h = refl
    none_in (t ∷ told) h = absurd h
  sides_said (parted a x b y) p sides told k h = (said (parted a x b y) a (p ∷ []) sides told (p, refl, k) h).2
