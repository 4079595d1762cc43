-- Boxes and whole texts: what is read is spelled, and what is spelled is read.
use Rattle.zf_grammar.proofs.Prelude.{◌++◌, ◌+◌, ◌∙◌, ◌∷◌, ◌≡◌, ◌≤◌, [], ap, append_assoc, arith, false, length, List, map, max, Ok, refl, subst, suc, sym, true, zero, ℕ, append-nil, map-append, AllByRecursion, box_of, BoxTree, decl_of, DeclTree, paragraph_of, ParagraphTree, schema_box, Tree, zed, tree_of, Name, ZBox, is_mark, next_of, separator, Symbol, symbol, Kind, SpellsUpTo, box_by, predicates, read_decls, read_paragraph, boxes_from, items, read_all, read_box, read_boxes, read_schema_box, read_zed, box_height, decl_height, tree_height, highest, most, paragraph_height, BoxIsLevelled, ParagraphIsLevelled, quantifier_level, first, is_end, read_opening, Next, PartedBy, SpellsBox, SpellsBoxes, SpellsParagraph, binds, expect, Outcome, Span}
use Rattle.zf_scan.specs.declared.next.Mark.TheVariants as mark
use Rattle.zf_scan.specs.declared.token.Kind.TheVariants as k
use Rattle.zf_tree.specs.declared.tree.ZBox.TheVariants as zbox
use Rattle.zf_grammar.proofs.Marks.{next_shorter, expect_ok, ok_expect}
use Rattle.zf_grammar.proofs.NamesRead.{opening_ok}
use Rattle.zf_grammar.proofs.Parted.{parted_shorter}
use Rattle.zf_grammar.proofs.TermSteps.{ok_pair, bind_ok, if_ok, if_cases}
use Rattle.zf_grammar.proofs.BoxItems.{Answers, Seen, and_answers, then_answers, if_true, if_false, done, most_append, items_sound, items_answers}
use Rattle.zf_grammar.proofs.BoxDecls.{Stops, not_at, decls_sound, decls_answers, decls_shorter, predicates_sound, predicates_answers, predicates_shorter}
use Rattle.zf_grammar.proofs.SchemaExps.{begins}
use Rattle.zf_grammar.proofs.ParagraphsRead.{EndsParagraph, paragraph_sound, paragraph_answers, paragraph_shorter}

-- ---- a box that is read is there

pub record BoxIsThere (n : ℕ) (b : ZBox) (ts us : List Symbol) : Type 0 where
  pub levelled : BoxIsLevelled (box_of b)
  pub low : box_height (box_of b) ≤ n
  pub spelled : SpellsBox (box_of b) ts us

zed_sound : (n : ℕ) (begin ts us : List Symbol) (b : ZBox) → Next k.BeginZed begin ts → read_zed n ts ≡ Ok (b, us) → BoxIsThere n b begin us
unfolding read_zed
zed_sound n begin ts us b opened e =
    let ps = bind_ok (items mark.Separator (read_paragraph n) ts) _ (b, us) e in
    let end = bind_ok (expect mark.EndBox ps.1) _ (b, us) ps.3 in
    let s = items_sound paragraph_of paragraph_height ParagraphIsLevelled SpellsParagraph mark.Separator n (read_paragraph n) (paragraph_sound n) ts ps.1 ps.0 ps.2 in
    subst (λ p. BoxIsThere n p.0 begin p.1) (ok_pair (zbox.Zed ps.0.part, end.1) (b, us) end.3)
    (record { levelled = s.fits; low = omega (arith, s.high_is, s.low); spelled = (ts, ps.1, opened, s.spelled, expect_ok mark.EndBox ps.1 end.1 end.0 end.2) })

schema_box_sound : (n : ℕ) (ts us : List Symbol) (b : ZBox) → read_schema_box n ts ≡ Ok (b, us) → BoxIsThere n b ts us
unfolding read_schema_box
schema_box_sound n ts us b e =
    let name = bind_ok (read_opening ts) _ (b, us) e in
    let ds = bind_ok (read_decls n name.1) _ (b, us) name.3 in
    let ps = bind_ok (predicates n mark.Where ds.1) _ (b, us) ds.3 in
    let end = bind_ok (expect mark.EndBox ps.1) _ (b, us) ps.3 in
    let opened = opening_ok ts name.1 name.0 name.2 in
    let d = decls_sound n name.1 ds.1 ds.0 ds.2 in
    let p = predicates_sound n mark.Where ds.1 ps.1 ps.0 ps.2 in
    subst (λ p. BoxIsThere n p.0 ts p.1) (ok_pair (zbox.SchemaBox name.0 ds.0.part ps.0.part, end.1) (b, us) end.3)
    (record {
      levelled = (d.fits, p.fits);
      low = omega (arith, d.high_is, p.high_is, d.low, p.low);
      spelled =
          (name.1, ds.1, ps.1, opened.0, opened.1, d.spelled, p.spelled, expect_ok mark.EndBox ps.1 end.1 end.0 end.2);
    })

box_at : (n : ℕ) (kind : Kind) (span : Span) (ts us : List Symbol) (b : ZBox) → box_by n (next_of kind) (symbol kind span ∷ ts) ≡ Ok (b, us) → BoxIsThere n b (symbol kind span ∷ ts) us
box_at n k.BeginZed span ts us b e = zed_sound n (symbol k.BeginZed span ∷ ts) ts us b (span, refl) e
box_at n kind span ts us b e = schema_box_sound n _ us b e

pub box_sound : (n : ℕ) (ts us : List Symbol) (b : ZBox) → read_box n ts ≡ Ok (b, us) → BoxIsThere n b ts us
unfolding read_box
box_sound n [] us b e = schema_box_sound n [] us b e
box_sound n (t ∷ ts) us b e = box_at n t.kind t.span ts us b e

-- ---- a box that is there is read

abbrev pub BoxIsRead : ℕ → BoxTree → Outcome ZBox → List Symbol → Type 0
BoxIsRead n t o us = Answers (λ b. box_of b ≡ t) n (box_height t) o us

separator_ends : EndsParagraph (next_of separator)
separator_ends = record { loose = omega arith; no_bar = refl; closes = record { no_and = refl; no_or = refl } }

zed_answers : (n : ℕ) (ps : List ParagraphTree) (ts b us : List Symbol) → BoxIsLevelled (zed ps) → PartedBy separator SpellsParagraph ps ts b
    → Next k.EndBox b us → BoxIsRead n (zed ps) (read_zed n ts) us
unfolding read_zed
zed_answers n ps ts b us lev all end =
    let Is = λ (b : ZBox). box_of b ≡ zed ps in
    let h = most paragraph_height ps in
    let ends : EndsParagraph (first b) = subst (λ b. EndsParagraph (first b)) (sym end.1) (record { loose = omega arith; no_bar = refl; closes = record { no_and = refl; no_or = refl } }) in
    and_answers (Seen (map paragraph_of) ps h) Is n h n h (items mark.Separator (read_paragraph n) ts) _ b us (λ above. above)
    (items_answers paragraph_of paragraph_height ParagraphIsLevelled SpellsParagraph mark.Separator n
    (read_paragraph n) EndsParagraph separator_ends paragraph_shorter (paragraph_answers n) ps ts b
    (not_at mark.Separator k.EndBox b us end refl) ends lev all)
    (λ xs s low. then_answers Is n h (expect mark.EndBox b) _ end.0 us us (ok_expect mark.EndBox b us end) (done Is n h (zbox.Zed xs.part) us (ap zed s.is) low))

schema_box_answers : (n : ℕ) (name : Name) (ds : List DeclTree) (ps : List Tree) (ts us : List Symbol) → BoxIsLevelled (schema_box name ds ps)
    → SpellsBox (schema_box name ds ps) ts us → BoxIsRead n (schema_box name ds ps) (read_schema_box n ts) us
unfolding read_schema_box
schema_box_answers n name ds ps ts us lev h =
    let (a, b, c, bare, begin, decls, under, end) = h in
    let Is = λ (b : ZBox). box_of b ≡ schema_box name ds ps in
    let m : Name = record { base = name.base; strokes = []; span = name.span } in
    let m_is : m ≡ name = ap (λ s. record { base = name.base; strokes = s; span = name.span }) (sym bare) in
    let opened : read_opening ts ≡ Ok (m, a) = ap read_opening begin in
    let h = box_height (schema_box name ds ps) in
    let last : is_mark mark.Separator (first b) ≡ false = begins (λ x. is_mark mark.Separator x ≡ false) k.Where k.EndBox ps b c us under end refl refl in
    let stop : Stops (first b) = begins Stops k.Where k.EndBox ps b c us under end (record { loose = omega arith; no_comma = refl; no_colon = refl })
    (record { loose = omega arith; no_comma = refl; no_colon = refl }) in
    let loose : binds (first c) ≤ quantifier_level = subst (λ c. binds (first c) ≤ quantifier_level) (sym end.1) (omega arith) in
    then_answers Is n h (read_opening ts) _ m a us opened
    (and_answers (Seen (map decl_of) ds (most decl_height ds)) Is n (most decl_height ds) n h (read_decls n a) _ b us (λ above. omega arith) (decls_answers n ds a b last stop lev.0 decls)
    (λ xs sx low_x.
    and_answers (Seen (map tree_of) ps (most tree_height ps)) Is n (most tree_height ps) n h (predicates n mark.Where b) _ c us (λ above. omega arith)
    (predicates_answers n mark.Where ps b c (not_at mark.Where k.EndBox c us end refl) (not_at mark.Separator k.EndBox c us end refl) loose lev.1 under)
    (λ ys sy low_y.
    let same : schema_box m (map decl_of xs.part) (map tree_of ys.part) ≡ schema_box name ds ps = ap
    (λ m. schema_box m (map decl_of xs.part) (map tree_of ys.part)) m_is ∙ ap (λ ds. schema_box name ds (map tree_of ys.part)) sx.is
    ∙ ap (schema_box name ds) sy.is in
    then_answers Is n h (expect mark.EndBox c) _ end.0 us us (ok_expect mark.EndBox c us end) (done Is n h (zbox.SchemaBox m xs.part ys.part) us same (omega arith)))))

pub box_answers : (n : ℕ) (t : BoxTree) (ts us : List Symbol) → BoxIsLevelled t → SpellsBox t ts us → BoxIsRead n t (read_box n ts) us
unfolding read_box
box_answers n (zed ps) ts us lev h =
    let (a, b, begin, all, end) = h in
    subst (λ o. BoxIsRead n (zed ps) o us) (sym (ap (λ ts. box_by n (first ts) ts) begin.1)) (zed_answers n ps a b us lev all end)
box_answers n (schema_box name ds ps) ts us lev h =
    let e : box_by n (first ts) ts ≡ read_schema_box n ts = ap (λ ts. box_by n (first ts) ts) h.4 ∙ sym (ap (read_schema_box n) h.4) in
    subst (λ o. BoxIsRead n (schema_box name ds ps) o us) (sym e) (schema_box_answers n name ds ps ts us lev h)

box_shorter : (t : BoxTree) (ts us : List Symbol) → SpellsBox t ts us → length us + 1 ≤ length ts
box_shorter (zed ps) ts us h =
    omega (arith, next_shorter ts h.0 h.2, parted_shorter separator SpellsParagraph paragraph_shorter ps h.0 h.1 h.3, next_shorter h.1 us h.4)
box_shorter (schema_box n ds ps) ts us h =
    omega (arith, ap length h.4, decls_shorter ds h.0 h.1 h.5, predicates_shorter k.Where ps h.1 h.2 h.6, next_shorter h.2 us h.7)

-- ---- a whole text

record AreUpTo (n : ℕ) (bs : List ZBox) (ts us : List Symbol) : Type 0 where
  levelled : AllByRecursion BoxIsLevelled (map box_of bs)
  low : highest (map box_of bs) ≤ n
  spelled : SpellsUpTo (map box_of bs) ts us

one_more : (n : ℕ) (bs : List ZBox) (b : ZBox) (ts a us : List Symbol) → AreUpTo n bs ts a → BoxIsThere n b a us → AreUpTo n (bs ++ b ∷ []) ts us
one_more n [] b ts a us h s =
    record { levelled = (s.levelled, tt); low = omega (arith, s.low); spelled = (us, subst (λ ts. SpellsBox (box_of b) ts us) (sym h.spelled) s.spelled, refl) }
one_more n (c ∷ cs) b ts a us h s =
    let low_rest : highest (map box_of cs) ≤ n = omega (arith, h.low) in
    let more = one_more n cs b h.spelled.0 a us (record { levelled = h.levelled.1; low = low_rest; spelled = h.spelled.2 }) s in
    record { levelled = (h.levelled.0, more.levelled); low = omega (arith, h.low, more.low); spelled = (h.spelled.0, h.spelled.1, more.spelled) }

from_sound : (n j : ℕ) (bs cs : List ZBox) (ts a us : List Symbol) → AreUpTo n bs ts a → boxes_from n j bs a ≡ Ok (cs, us) → AreUpTo n cs ts us
unfolding boxes_from
from_sound n zero bs cs ts a us h e = subst (λ p. AreUpTo n p.0 ts p.1) (ok_pair (bs, a) (cs, us) e) h
from_sound n (suc j) bs cs ts a us h e =
    if_cases (is_end (first a)) _ _ (cs, us) e
    (λ is e. subst (λ p. AreUpTo n p.0 ts p.1) (ok_pair (bs, a) (cs, us) e) h)
    (λ is e.
    let b = bind_ok (read_box n a) _ (cs, us) e in
    from_sound n j (bs ++ b.0 ∷ []) cs ts b.1 us (one_more n bs b.0 ts a b.1 h (box_sound n a b.1 b.0 b.2)) b.3)

pub at_end : (ts : List Symbol) → is_end (first ts) ≡ true → ts ≡ []
at_end [] e = refl
at_end (t ∷ ts) e = absurd (no_end t.kind e)
  where
    no_end : (kind : Kind) → is_end (next_of kind) ≡ true → ⊥
    no_end k.BeginZed e = cc
    no_end _ e = cc

pub all_of : (bs : List BoxTree) (ts : List Symbol) → SpellsUpTo bs ts [] → SpellsBoxes bs ts
all_of [] ts h = h
all_of (b ∷ bs) ts h = (h.0, h.1, all_of bs h.0 h.2)

-- the boxes are levelled, no higher than `n`, and spelled
pub record AreThere (n : ℕ) (bs : List ZBox) (ts : List Symbol) : Type 0 where
  pub levelled : AllByRecursion BoxIsLevelled (map box_of bs)
  pub low : highest (map box_of bs) ≤ n
  pub spelled : SpellsBoxes (map box_of bs) ts

pub all_sound : (n : ℕ) (ts us : List Symbol) (bs : List ZBox) → read_all n ts ≡ Ok (bs, us) → AreThere n bs ts
unfolding read_all read_boxes
all_sound n ts us bs e =
    let x = bind_ok (boxes_from n (length ts) [] ts) _ (bs, us) e in
    let t = if_ok (is_end (first x.1)) _ (bs, us) _ x.3 in
    let up = from_sound n (length ts) [] x.0 ts ts x.1 (record { levelled = tt; low = omega arith; spelled = refl }) x.2 in
    let same : x.0 ≡ bs = ap (λ p. p.0) (ok_pair (x.0, x.1) (bs, us) t.1) in
    subst (λ bs. AreThere n bs ts) same
    (record { levelled = up.levelled; low = up.low; spelled = all_of (map box_of x.0) ts (subst (SpellsUpTo (map box_of x.0) ts) (at_end x.1 t.0) up.spelled) })

box_begins : (t : BoxTree) (ts us : List Symbol) → SpellsBox t ts us → is_end (first ts) ≡ false
box_begins (zed ps) ts us h = ap (λ ts. is_end (first ts)) h.2.1
box_begins (schema_box n ds ps) ts us h = ap (λ ts. is_end (first ts)) h.4

abbrev pub AreRead : ℕ → List BoxTree → Outcome (List ZBox) → Type 0
AreRead n all o = Answers (λ bs. map box_of bs ≡ all) n (highest all) o []

none_more : (n : ℕ) (xs : List ZBox) (before : List BoxTree) (ts : List Symbol) → map box_of xs ≡ before → highest before ≤ n → ts ≡ [] → AreRead n (before ++ []) (Ok (xs, ts))
none_more n xs before ts is low end =
    let as_before : AreRead n before (Ok (xs, [])) = done (λ bs. map box_of bs ≡ before) n (highest before) xs [] is low in
    subst (λ ts. AreRead n (before ++ []) (Ok (xs, ts))) (sym end) (subst (λ all. AreRead n all (Ok (xs, []))) (sym (append-nil before)) as_before)

from_answers : (n : ℕ) (rs before : List BoxTree) (j : ℕ) (xs : List ZBox) (ts : List Symbol) → map box_of xs ≡ before → highest before ≤ n
    → AllByRecursion BoxIsLevelled rs → SpellsBoxes rs ts → length ts ≤ j → AreRead n (before ++ rs) (boxes_from n j xs ts)
unfolding boxes_from
from_answers n [] before zero xs ts is low all h short = none_more n xs before ts is low h
from_answers n [] before (suc j) xs ts is low all h short =
    if_true (λ bs. map box_of bs ≡ before ++ []) n (highest (before ++ [])) (is_end (first ts)) _ _ [] (ap (λ ts. is_end (first ts)) h) (none_more n xs before ts is low h)
from_answers n (t ∷ rs) before zero xs ts is low all h short = absurd (omega (arith, box_shorter t ts h.0 h.1))
from_answers n (t ∷ rs) before (suc j) xs ts is low all h short =
    let Is = λ (bs : List ZBox). map box_of bs ≡ before ++ t ∷ rs in
    let most_all : highest (before ++ t ∷ rs) ≡ max (highest before) (max (box_height t) (highest rs)) = most_append box_height before (t ∷ rs) in
    let next : (b : ZBox) → box_of b ≡ t → box_height t ≤ n → AreRead n (before ++ t ∷ rs) (boxes_from n j (xs ++ b ∷ []) h.0) = λ b seen low_t.
    let all_is : map box_of (xs ++ b ∷ []) ≡ before ++ t ∷ [] = map-append box_of xs (b ∷ []) ∙ ap (λ vs. vs ++ box_of b ∷ []) is ∙ ap (λ v. before ++ v ∷ []) seen in
    let most_is : highest (before ++ t ∷ []) ≡ max (highest before) (max (box_height t) 0) = most_append box_height before (t ∷ []) in
    subst (λ all. AreRead n all (boxes_from n j (xs ++ b ∷ []) h.0)) (append_assoc before (t ∷ []) rs)
    (from_answers n rs (before ++ t ∷ []) j (xs ++ b ∷ []) h.0 all_is (omega arith) all.1 h.2 (omega (arith, box_shorter t ts h.0 h.1))) in
    if_false Is n (highest (before ++ t ∷ rs)) (is_end (first ts)) _ _ [] (box_begins t ts h.0 h.1)
    (and_answers (λ b. box_of b ≡ t) Is n (box_height t) n (highest (before ++ t ∷ rs)) (read_box n ts) _ h.0 [] (λ above. omega arith) (box_answers n t ts h.0 all.0 h.1) next)

-- a levelled text that is spelled is the one that is read, unless it is too high
pub all_answers : (n : ℕ) (bs : List BoxTree) (ts : List Symbol) → AllByRecursion BoxIsLevelled bs → SpellsBoxes bs ts → AreRead n bs (read_all n ts)
unfolding read_all read_boxes
all_answers n bs ts all h =
    let Is = λ (xs : List ZBox). map box_of xs ≡ bs in
    and_answers Is Is n (highest bs) n (highest bs) (boxes_from n (length ts) [] ts) _ [] [] (λ above. above) (from_answers n bs [] (length ts) [] ts refl (omega arith) all h (omega arith))
    (λ xs is low. done Is n (highest bs) xs [] is low)
