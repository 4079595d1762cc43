use Rattle.zf_why.proofs.Prelude.{◌∙◌, ◌∷◌, ◌≡◌, [], ap, Bool, List, map, Option, refl, subst, sym, ℕ, Comp, Environment, ResolvedTree, Value, comp_of, conjunct_of, environment_of, AreAlone, AreEmpty, CanBegin, HasChosen, HasNoValue, HasRow, HasValue, IsCore, RuleOut, Conjunct, Told, AreTold, split_at, nothing_beside, others_beside}
use Rattle.zf_why.proofs.Beginning.{can_begin, over_none}
use Rattle.zf_why.proofs.Explained.{some_row}
use Rattle.zf_why.proofs.Lists.{of_equal}
use Rattle.zf_why.proofs.Picking.{all_left}
use Rattle.zf_why.proofs.explaining.why.Goals as goal

pub empty_ranges-requires : goal.empty_ranges-requires
empty_ranges-requires c =
    let e = environment_of c.args.env.now in
    let cs = map comp_of c.args.flat.now.components in
    let ps = map conjunct_of c.args.flat.now.conjuncts in
    subst (λ (ds : List Comp). CanBegin e ds []) (sym (ap (map comp_of) c.as_slice.ensures)) (over_none e cs ps (can_begin e cs ps c.requires.finite c.requires.due c.requires.none_out))

pub all_alone-requires : goal.all_alone-requires
all_alone-requires c =
    let e = environment_of c.args.env.now in
    let cs = map comp_of c.args.flat.now.components in
    let ps = map conjunct_of c.args.flat.now.conjuncts in
    of_equal (λ (ds : List Comp) (qs : List ResolvedTree). CanBegin e ds qs) (sym (ap (map comp_of) c.as_slice.ensures)) (sym (ap (map conjunct_of) (c.as_slice-2.ensures ∙ c.in_ok-all.ensures)))
    (can_begin e cs ps c.requires.finite c.requires.due c.requires.none_out)

pub core-requires : goal.core-requires
core-requires c =
    let e = environment_of c.args.env.now in
    let cs = map comp_of c.args.flat.now.components in
    let ps = map conjunct_of c.args.flat.now.conjuncts in
    let components = sym (ap (map comp_of) c.as_slice.ensures) in
    let conjuncts = sym (ap (map conjunct_of) (c.as_slice-3.ensures ∙ c.in_ok-all.ensures)) in
    record {
      begins = of_equal (λ (ds : List Comp) (qs : List ResolvedTree). CanBegin e ds qs) components conjuncts (can_begin e cs ps c.requires.finite c.requires.due c.requires.none_out);
      none = of_equal (λ (ds : List Comp) (qs : List ResolvedTree). RuleOut e ds c.args.question.now.held.now qs) components conjuncts c.requires.none;
    }

pub returns-then-has_one : goal.returns-then-has_one
returns-then-has_one c =
    let e = environment_of c.args.env.now in (
      subst (λ (ds : List Comp). AreEmpty e ds c.args.question.now.held.now c.in_ok-empty.empty.items) (ap (map comp_of) c.as_slice.ensures) c.in_ok-empty.ensures,
      subst HasChosen c.deref.ensures.value c.if-has_one.ensures,
    )

pub told_alone-requires : goal.told_alone-requires
told_alone-requires c =
    let e = environment_of c.args.env.now in
    let cs = map comp_of c.args.flat.now.components in
    let ps = map conjunct_of c.args.flat.now.conjuncts in
    let held = c.args.question.now.held.now in
    let components = ap (map comp_of) c.as_slice.ensures in
    let first = ap (map conjunct_of) (c.as_slice-2.ensures ∙ c.in_ok-all.ensures) in
    let second = ap (map conjunct_of) (c.as_slice-then-has_one-2.ensures ∙ c.in_ok-all.ensures) in
    record {
      begins = of_equal (λ (ds : List Comp) (qs : List ResolvedTree). CanBegin e ds qs) (sym components) (sym second) (can_begin e cs ps c.requires.finite c.requires.due c.requires.none_out);
      alone = of_equal (λ (ds : List Comp) (m : List Bool). AreAlone e ds held (map conjunct_of c.as_slice-then-has_one-2.result.now) m) refl (sym c.deref-then-has_one-2.ensures.value)
          (subst (λ (qs : List ResolvedTree). AreAlone e (map comp_of c.as_slice.result.now) held qs c.in_ok-alone.alone.items) (first ∙ sym second) c.in_ok-alone.ensures);
    }

-- what is reported, of the conjuncts of the schema
told_of_all : (e : Environment) (held : List (Option Value)) (details : Bool) (beside : List ResolvedTree → List Bool → ℕ
    → List ResolvedTree) (ds cs : List Comp) (ys xs : List Conjunct) (m n : List Bool) (told : List Told) → ds ≡ cs → ys ≡ xs → m ≡ n
    → AreTold e ds held details (beside (map conjunct_of ys) m) (split_at ys) (map conjunct_of ys) m told
    → AreTold e cs held details (beside (map conjunct_of xs) n) (split_at xs) (map conjunct_of xs) n told
told_of_all e held details beside ds cs ys xs m n told p q r h =
    subst (λ (k : List Bool). AreTold e cs held details (beside (map conjunct_of xs) k) (split_at xs) (map conjunct_of xs) k told) r
    (subst (λ (zs : List Conjunct). AreTold e cs held details (beside (map conjunct_of zs) m) (split_at zs) (map conjunct_of zs) m told) q
    (subst (λ (bs : List Comp). AreTold e bs held details (beside (map conjunct_of ys) m) (split_at ys) (map conjunct_of ys) m told) p h))

pub returns-then-has_one-2 : goal.returns-then-has_one-2
returns-then-has_one-2 c =
    let e = environment_of c.args.env.now in
    let cs = map comp_of c.args.flat.now.components in
    let held = c.args.question.now.held.now in
    let components = ap (map comp_of) c.as_slice.ensures in
    let empty = subst (λ (ds : List Comp). AreEmpty e ds held c.in_ok-empty.empty.items) components c.in_ok-empty.ensures in
    let none = subst (λ (m : List Bool). HasChosen m → ⊥) c.deref.ensures.value c.if-has_one.ensures in (
      c.in_ok-alone.alone.items,
      (
        some_row e cs held (all_left (HasNoValue e held) (HasValue e held) cs c.in_ok-empty.empty.items empty none),
        of_equal (λ (ds : List Comp) (qs : List ResolvedTree). AreAlone e ds held qs c.in_ok-alone.alone.items) components
            (ap (map conjunct_of) (c.as_slice-2.ensures ∙ c.in_ok-all.ensures)) c.in_ok-alone.ensures,
        subst HasChosen c.deref-2.ensures.value c.if-has_one-2.ensures,
      ),
      told_of_all e held c.args.question.now.details (λ ps m. nothing_beside) _ _ _ _ _ _ c.in_ok-each.each.items components
          (c.as_slice-then-has_one-2.ensures ∙ c.in_ok-all.ensures) c.deref-then-has_one-2.ensures.value c.in_ok-each.ensures,
    )

pub told_together-requires : goal.told_together-requires
told_together-requires c =
    let e = environment_of c.args.env.now in
    let cs = map comp_of c.args.flat.now.components in
    let ps = map conjunct_of c.args.flat.now.conjuncts in
    let held = c.args.question.now.held.now in
    let components = ap (map comp_of) c.as_slice.ensures in
    let first = ap (map conjunct_of) (c.as_slice-3.ensures ∙ c.in_ok-all.ensures) in
    let second = ap (map conjunct_of) (c.as_slice-4.ensures ∙ c.in_ok-all.ensures) in
    record {
      begins = of_equal (λ (ds : List Comp) (qs : List ResolvedTree). CanBegin e ds qs) (sym components) (sym second) (can_begin e cs ps c.requires.finite c.requires.due c.requires.none_out);
      core = subst (λ (m : List Bool). IsCore e (map comp_of c.as_slice.result.now) held [] (map conjunct_of c.as_slice-4.result.now) m) (sym c.deref-3.ensures.value)
          (subst (λ (qs : List ResolvedTree). IsCore e (map comp_of c.as_slice.result.now) held [] qs c.in_ok-core.core.items) (first ∙ sym second) c.in_ok-core.ensures);
    }

pub returns : goal.returns
returns c =
    let e = environment_of c.args.env.now in
    let cs = map comp_of c.args.flat.now.components in
    let ps = map conjunct_of c.args.flat.now.conjuncts in
    let held = c.args.question.now.held.now in
    let components = ap (map comp_of) c.as_slice.ensures in
    let empty = subst (λ (ds : List Comp). AreEmpty e ds held c.in_ok-empty.empty.items) components c.in_ok-empty.ensures in
    let filled = subst (λ (m : List Bool). HasChosen m → ⊥) c.deref.ensures.value c.if-has_one.ensures in
    let alone = of_equal (λ (ds : List Comp) (qs : List ResolvedTree). AreAlone e ds held qs c.in_ok-alone.alone.items) components
    (ap (map conjunct_of) (c.as_slice-2.ensures ∙ c.in_ok-all.ensures)) c.in_ok-alone.ensures in
    let none = subst (λ (m : List Bool). HasChosen m → ⊥) c.deref-2.ensures.value c.if-has_one-2.ensures in (
      c.in_ok-core.core.items,
      (
        all_left (λ (i : ℕ) (p : ResolvedTree). RuleOut e cs held (p ∷ [])) (λ (i : ℕ) (p : ResolvedTree). HasRow e cs held (p ∷ [])) ps c.in_ok-alone.alone.items alone none,
        of_equal (λ (ds : List Comp) (qs : List ResolvedTree). IsCore e ds held [] qs c.in_ok-core.core.items) components
            (ap (map conjunct_of) (c.as_slice-3.ensures ∙ c.in_ok-all.ensures)) c.in_ok-core.ensures,
        some_row e cs held (all_left (HasNoValue e held) (HasValue e held) cs c.in_ok-empty.empty.items empty filled),
      ),
      told_of_all e held c.args.question.now.details others_beside _ _ _ _ _ _ c.in_ok-told.told.items components
          (c.as_slice-4.ensures ∙ c.in_ok-all.ensures) c.deref-3.ensures.value c.in_ok-told.ensures,
    )
