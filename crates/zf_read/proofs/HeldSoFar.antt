-- What is read so far of a line of some components: what its parts hold, and what may still follow.
use Rattle.zf_read.proofs.Prelude.{Lines, ◌++◌, ◌+◌, ◌-◌, ◌<◌, ◌∙◌, ◌∷◌, ◌≡◌, ◌≤◌, [], add-one, ap, arith, Bool, codes, drop, false, get_or, length, List, map, None, Option, refl, Some, subst, suc, sym, take, true, zero, ℕ, append_assoc, length-append, length-drop, take_all, MatchBool, slice_get, Value, Comp, comp_of, Component, Environment, IsOfType, component_text, AreApart, AreClear, AreNames, Ends, is_in_word, IsName, IsNoneOf, HaveClearNames, HoldNext, IsHeldLine, IsNoHeldLine, IsNoHeldRest, IsPart, IsPartAt, BeginsWithName, EndsAs, IsComponentAt, IsItem, IsNamed, NamesNone, nothing_of, BeginsWithoutName, GoesOn, IsNoComponent, IsNoItem, comma_before, value_text, Spelling, same_Some, ends_as, one_component, one_run, name_in_word, drop-end, cancel}
use Rattle.std.specs.Prelude.{option_map, set}
use Rattle.std.proofs.lemmas.Option.{slice_get-map, slice_get_read, slice_get_within}
use Rattle.std.proofs.lemmas.List.{length-map, length-set}
use Rattle.std.proofs.lemmas.Bool.{cases_eq}
use Rattle.std.proofs.Common.{inl, inr}

-- ---- names

pub ends_not : (bytes : List ℕ) (b : ℕ) → slice_get bytes 0 ≡ Some b → is_in_word b ≡ true → GoesOn bytes
unfolding GoesOn
ends_not [] b h k e = cc
ends_not (x ∷ bytes) b h k e = let same : x ≡ b = same_Some x b h in let both : false ≡ true = sym e ∙ ap is_in_word same ∙ k in cc

pub sliced : (xs : List ℕ) (i : ℕ) → take (length xs - i) (drop i xs) ≡ drop i xs
sliced xs i = let l = length-drop i xs in take_all (length xs - i) (drop i xs) (omega (arith, l))

pub of_ends : (r : Bool) (name bytes here rest : List ℕ) → here ≡ bytes → here ≡ name ++ rest → MatchBool r (Ends rest) (GoesOn rest)
    → MatchBool r (BeginsWithName name bytes) (BeginsWithoutName name bytes)
unfolding BeginsWithoutName GoesOn
of_ends true name bytes here rest same is h = (rest, h, sym same ∙ is)
of_ends false name bytes here rest same is h = λ w. h (subst Ends (cancel name w.0 rest (sym w.2 ∙ sym same ∙ is)) w.1)

pub none_begins : (name bytes here : List ℕ) → here ≡ bytes → IsNoItem name here → BeginsWithoutName name bytes
unfolding BeginsWithoutName IsNoItem
none_begins name bytes here same none (rest, ends, is) = none rest (same ∙ is)

pub component_parts : (ss : List Spelling) (c : Comp) (v : Value) (rest : List ℕ) → component_text ss c v ++ rest ≡ c.name ++ (codes " == " ++ (value_text ss v ++ rest))
component_parts ss c v rest = append_assoc (c.name ++ codes " == ") (value_text ss v) rest ∙ append_assoc c.name (codes " == ") (value_text ss v ++ rest)

pub comps-end : (cs : List Component) (i : ℕ) → length cs ≤ i → map comp_of (drop i cs) ≡ []
comps-end cs i l = ap (map comp_of) (drop-end i cs l)

-- ---- names that are clear

no_item : {A : Type 0} (place : ℕ) (x : A) → slice_get [] place ≡ Some x → ⊥
no_item zero x h = cc
no_item (suc place) x h = cc

named_there : (cs : List Comp) (i : ℕ) (c : Comp) → AreNames (map (λ c. c.name) cs) → slice_get cs i ≡ Some c → IsName c.name
named_there [] i c clear h = absurd (no_item i c h)
named_there (x ∷ cs) zero c clear h = subst (λ (d : Comp). IsName d.name) (same_Some x c h) clear.0
named_there (x ∷ cs) (suc i) c clear h = named_there cs i c clear.1 h

named_else : (cs : List Comp) (i : ℕ) (c : Comp) (name : List ℕ) → IsNoneOf (map (λ c. c.name) cs) name → slice_get cs i ≡ Some c → c.name ≡ name → ⊥
named_else [] i c name none h same = no_item i c h
named_else (x ∷ cs) zero c name none h same = none.0 (ap (λ (d : Comp). d.name) (same_Some x c h) ∙ same)
named_else (x ∷ cs) (suc i) c name none h same = named_else cs i c name none.1 h same

-- two places of one name are one
one_place : (cs : List Comp) (i j : ℕ) (c d : Comp) → AreApart (map (λ c. c.name) cs) → slice_get cs i ≡ Some c → slice_get cs j ≡ Some d → c.name ≡ d.name → i ≡ j
one_place [] i j c d apart h k same = absurd (no_item i c h)
one_place (x ∷ cs) zero zero c d apart h k same = refl
one_place (x ∷ cs) zero (suc j) c d apart h k same = absurd (named_else cs j d x.name apart.0 k (sym same ∙ ap (λ (d : Comp). d.name) (sym (same_Some x c h))))
one_place (x ∷ cs) (suc i) zero c d apart h k same = absurd (named_else cs i c x.name apart.0 h (same ∙ ap (λ (d : Comp). d.name) (sym (same_Some x d k))))
one_place (x ∷ cs) (suc i) (suc j) c d apart h k same = ap suc (one_place cs i j c d apart.1 h k same)

-- where the bytes begin with the names of two, these are one
one_named : (cs : List Comp) (i j : ℕ) (c d : Comp) (bytes : List ℕ) → HaveClearNames cs → slice_get cs i ≡ Some c → slice_get cs j ≡ Some d → BeginsWithName c.name bytes → BeginsWithName d.name bytes → i ≡ j
one_named cs i j c d bytes clear h k (r, ends, is) (s, end, are) =
    let run = one_run c.name d.name r s (name_in_word c.name (named_there cs i c clear.0 h).1) (name_in_word d.name (named_there cs j d clear.0 k).1) ends end (sym is ∙ are) in
    one_place cs i j c d clear.1 h k run.0

-- ---- the next part

module _ (ss : List Spelling) (e : Environment) (cs : List Comp) where
  -- what follows a value is the end of the line, or a comma
  ends_next : (n : ℕ) (bytes : List ℕ) (before : List (Option Value)) (parts : List (ℕ × Value)) (held : List (Option Value)) → HoldNext ss e cs (suc n) bytes before parts held → Ends bytes
  ends_next n bytes before [] held h = subst Ends (sym h.0) tt
  ends_next n bytes before (p ∷ parts) held (rest, part, h) = subst Ends (sym part.stands) refl

  pub ends_more : (c : Comp) (n : ℕ) (bytes : List ℕ) (before : List (Option Value)) (parts : List (ℕ × Value)) (held : List (Option Value)) → HoldNext ss e cs (n + 1) bytes before parts held → EndsAs c.type bytes
  ends_more c n bytes before parts held h = ends_as c.type bytes (ends_next n bytes before parts held (subst (λ m. HoldNext ss e cs m bytes before parts held) (add-one n) h))

  -- its name stands behind what separates it
  part_named : (n : ℕ) (bytes mid : List ℕ) (before : List (Option Value)) (place : ℕ) (v : Value) (rest : List ℕ) → bytes ≡ comma_before n ++ mid → (p : IsPart ss e cs n bytes before place v rest) → BeginsWithName p.comp.name mid
  part_named n bytes mid before place v rest b p =
      (codes " == " ++ (value_text ss v ++ rest), refl, cancel (comma_before n) mid _ (sym b ∙ p.stands) ∙ component_parts ss p.comp v rest)

  -- it is not empty
  pub some_part : (n : ℕ) (bytes : List ℕ) (before : List (Option Value)) (place : ℕ) (v : Value) (rest : List ℕ) → IsPart ss e cs n bytes before place v rest → bytes ≡ [] → ⊥
  some_part n bytes before place v rest p none =
      let all = ap length (sym none ∙ p.stands ∙ ap (λ l. comma_before n ++ l) (component_parts ss p.comp v rest)) in
      let outer = length-append (comma_before n) (p.comp.name ++ (codes " == " ++ (value_text ss v ++ rest))) in
      let inner = length-append p.comp.name (codes " == " ++ (value_text ss v ++ rest)) in
      omega (arith, all, outer, inner)

  -- and of two there is one
  pub one_part : AreClear ss e.sizes → HaveClearNames cs → (n : ℕ) (bytes : List ℕ) (before : List (Option Value)) (i j : ℕ) (v w : Value) (rest more : List ℕ)
      → (p : IsPart ss e cs n bytes before i v rest) → IsPart ss e cs n bytes before j w more → EndsAs p.comp.type rest → ((c : Comp) → EndsAs c.type more)
      → (i ≡ j) × (v ≡ w) × (rest ≡ more)
  one_part clear names n bytes before i j v w rest more p q ends end =
      let mid = component_text ss p.comp v ++ rest in
      let place = one_named cs i j p.comp q.comp mid names p.there q.there (part_named n bytes mid before i v rest p.stands p) (part_named n bytes mid before j w more p.stands q) in
      let same : p.comp ≡ q.comp = same_Some p.comp q.comp (sym p.there ∙ ap (slice_get cs) place ∙ q.there) in
      let one = one_component Lines ss e clear p.comp v w rest more p.of_type (subst (λ (c : Comp). IsOfType e c.type w) (sym same) q.of_type) ends (end p.comp)
      (cancel (comma_before n) _ _ (sym p.stands ∙ subst (λ (c : Comp). bytes ≡ comma_before n ++ (component_text ss c w ++ more)) (sym same) q.stands)) in
      (place, one.0, one.1)

  -- ---- no line goes on

  -- where no part does
  none_of_parts : (n : ℕ) (bytes : List ℕ) (before : List (Option Value)) → (bytes ≡ [] → ⊥)
      → (AreClear ss e.sizes → HaveClearNames cs → (p : ℕ × Value) (rest : List ℕ) → IsPart ss e cs n bytes before p.0 p.1 rest → ((c : Comp) → EndsAs c.type rest) → ⊥)
      → IsNoHeldRest ss e cs n bytes before
  unfolding IsNoHeldRest
  none_of_parts n bytes before some none clear names [] held h = some h.0
  none_of_parts n bytes before some none clear names (p ∷ parts) held (rest, part, h) =
      none clear names p rest part (λ c. ends_more c n rest (set before p.0 (Some p.1)) parts held h)

  pub not_separated : (n : ℕ) (bytes : List ℕ) (before : List (Option Value)) → (bytes ≡ [] → ⊥) → IsNoItem (comma_before n) bytes → IsNoHeldRest ss e cs n bytes before
  unfolding IsNoItem
  not_separated n bytes before some none = none_of_parts n bytes before some (λ clear names p rest part ends. none _ part.stands)

  pub not_named : (n : ℕ) (bytes mid : List ℕ) (before : List (Option Value)) → (bytes ≡ [] → ⊥) → bytes ≡ comma_before n ++ mid → NamesNone cs before mid → IsNoHeldRest ss e cs n bytes before
  unfolding NamesNone
  not_named n bytes mid before some b none = none_of_parts n bytes before some (λ clear names p rest part ends. none p.0 (record {
    comp = part.comp;
    there = part.there;
    free = part.free;
    named = part_named n bytes mid before p.0 p.1 rest b part;
  }))

  -- the component that is named has no value there
  pub not_valued : (n : ℕ) (bytes mid : List ℕ) (before : List (Option Value)) (place : ℕ) → (bytes ≡ [] → ⊥) → bytes ≡ comma_before n ++ mid → (c : IsNamed cs before mid place)
      → IsNoComponent ss e c.comp mid → IsNoHeldRest ss e cs n bytes before
  unfolding IsNoComponent
  not_valued n bytes mid before place some b c none = none_of_parts n bytes before some (λ clear names p rest part ends.
      let same = one_named cs place p.0 c.comp part.comp mid names c.there part.there c.named (part_named n bytes mid before p.0 p.1 rest b part) in
      let comp : part.comp ≡ c.comp = same_Some part.comp c.comp (sym part.there ∙ ap (slice_get cs) (sym same) ∙ c.there) in
      none clear p.1 rest (subst (λ (d : Comp). IsOfType e d.type p.1) comp part.of_type) (ends c.comp)
      (cancel (comma_before n) mid _ (sym b ∙ subst (λ (d : Comp). bytes ≡ comma_before n ++ (component_text ss d p.1 ++ rest)) comp part.stands)))

  -- nothing goes on behind the next part
  none_behind : (n : ℕ) (bytes : List ℕ) (before : List (Option Value)) (place : ℕ) (v : Value) (rest : List ℕ) → (c : IsPart ss e cs n bytes before place v rest) → EndsAs c.comp.type rest
      → IsNoHeldRest ss e cs (n + 1) rest (set before place (Some v)) → IsNoHeldRest ss e cs n bytes before
  unfolding IsNoHeldRest
  none_behind n bytes before place v rest c ends none clear names [] held h = some_part n bytes before place v rest c h.0
  none_behind n bytes before place v rest c ends none clear names (p ∷ parts) held (more, part, h) =
      let one = one_part clear names n bytes before place p.0 v p.1 rest more c part ends (λ d. ends_more d n more (set before p.0 (Some p.1)) parts held h) in
      none clear names parts held (rw (sym one.0, sym one.1, sym one.2) at h)

  -- ---- what is read so far

  pub record HeldSoFar (text : List ℕ) (n : ℕ) (before : List (Option Value)) (bytes : List ℕ) : Type 0 where
    pub whole : (parts : List (ℕ × Value)) (held : List (Option Value)) → HoldNext ss e cs n bytes before parts held → IsHeldLine ss e cs text held
    pub none : IsNoHeldRest ss e cs n bytes before → IsNoHeldLine ss e cs text

  pub held_begun : (text : List ℕ) → HeldSoFar text 0 (nothing_of cs) text
  unfolding IsNoHeldLine IsNoHeldRest
  held_begun text = record { whole = λ parts held h. (parts, h); none = λ none clear names held h. none clear names h.0 held h.1 }

  pub held_further : (text : List ℕ) (n : ℕ) (before : List (Option Value)) (bytes : List ℕ) (place : ℕ) (v : Value) (rest : List ℕ) → HeldSoFar text n before bytes
      → (c : IsPart ss e cs n bytes before place v rest) → EndsAs c.comp.type rest → HeldSoFar text (n + 1) (set before place (Some v)) rest
  held_further text n before bytes place v rest r c ends = record {
    whole = λ parts held h. r.whole ((place, v) ∷ parts) held (rest, c, h);
    none = λ none. r.none (none_behind n bytes before place v rest c ends none);
  }

  pub held_read : (text : List ℕ) (n : ℕ) (before : List (Option Value)) (bytes : List ℕ) → HeldSoFar text n before bytes → bytes ≡ [] → IsHeldLine ss e cs text before
  held_read text n before bytes r none = r.whole [] before (none, refl)

-- ---- the name that stands at a place

pub is_named : (cs : List Component) (held : List (Option Value)) (bytes name : List ℕ) (i : ℕ) (c : Component) (v : Option Value) → c ≡ get_or cs i c → i < length cs
    → v ≡ get_or held i v → i < length held → v ≡ None → name ≡ c.name → BeginsWithName name bytes → IsNamed (map comp_of cs) held bytes i
is_named cs held bytes name i c v got l at k none same named = record {
  comp = comp_of c;
  there = slice_get-map comp_of cs i ∙ ap (option_map comp_of) (slice_get_read cs (length cs) i c refl l got);
  free = slice_get_read held (length held) i v refl k at ∙ ap Some none;
  named = subst (λ n. BeginsWithName n bytes) same named;
}

pub has_value : (cs : List Component) (held : List (Option Value)) (bytes : List ℕ) (i : ℕ) (v : Option Value) → v ≡ get_or held i v → i < length held → (v ≡ None → ⊥) → IsNamed (map comp_of cs) held bytes i → ⊥
has_value cs held bytes i v at k some h = some (same_Some v None (sym (slice_get_read held (length held) i v refl k at) ∙ h.free))

pub another_name : (cs : List Component) (held : List (Option Value)) (bytes name : List ℕ) (i : ℕ) (c : Component) → c ≡ get_or cs i c → i < length cs → name ≡ c.name → BeginsWithoutName name bytes
    → IsNamed (map comp_of cs) held bytes i → ⊥
unfolding BeginsWithoutName
another_name cs held bytes name i c got l same none h =
    let there = slice_get-map comp_of cs i ∙ ap (option_map comp_of) (slice_get_read cs (length cs) i c refl l got) in
    let one : comp_of c ≡ h.comp = same_Some (comp_of c) h.comp (sym there ∙ h.there) in
    none (subst (λ n. BeginsWithName n bytes) (sym (same ∙ ap (λ (d : Comp). d.name) one)) h.named)

pub none_further : (cs : List Comp) (held : List (Option Value)) (bytes : List ℕ) (i : ℕ) → ((p : ℕ) → p < i → IsNamed cs held bytes p → ⊥) → (IsNamed cs held bytes i → ⊥)
    → (p : ℕ) → p < i + 1 → IsNamed cs held bytes p → ⊥
none_further cs held bytes i before here p l h = elim (cases_eq p i) [
  | inl same ↦ here (subst (IsNamed cs held bytes) same h)
  | inr other ↦ before p (below other) h
]
  where
    below : (p ≡ i → ⊥) → p < i
    below other = omega (arith, l, other)

pub none_at_all : (cs : List Component) (held : List (Option Value)) (bytes : List ℕ) (i : ℕ) → length cs ≤ i → ((p : ℕ) → p < i → IsNamed (map comp_of cs) held bytes p → ⊥) → NamesNone (map comp_of cs) held bytes
unfolding NamesNone
none_at_all cs held bytes i l none p h =
    let within = slice_get_within (map comp_of cs) p h.comp h.there in
    let long = length-map cs comp_of in
    none p (omega (arith, l, within, long)) h

pub named_within : (cs : List Component) (held : List (Option Value)) (bytes : List ℕ) (i : ℕ) → IsNamed (map comp_of cs) held bytes i → i < length cs
named_within cs held bytes i h =
    let within = slice_get_within (map comp_of cs) i h.comp h.there in
    let long = length-map cs comp_of in
    omega (arith, within, long)

-- ---- the steps of reading

-- bytes from a place within them are not none
pub not_empty : (text : List ℕ) (place : ℕ) → place < length text → drop place text ≡ [] → ⊥
not_empty text place l none =
    let rest = length-drop place text in
    let all = ap length none in
    omega (arith, rest, all, l)

module _ (ss : List Spelling) (e : Environment) (cs : List Component) where
  pub no_value_there : (n : ℕ) (text : List ℕ) (place start : ℕ) (before : List (Option Value)) (i : ℕ) (c : Component) → c ≡ get_or cs i c → i < length cs → place < length text
      → IsItem text place (comma_before n) start → IsNamed (map comp_of cs) before (drop start text) i → IsNoComponent ss e (comp_of c) (drop start text)
      → IsNoHeldRest ss e (map comp_of cs) n (drop place text) before
  no_value_there n text place start before i c got l some separated named none =
      let there = slice_get-map comp_of cs i ∙ ap (option_map comp_of) (slice_get_read cs (length cs) i c refl l got) in
      let one : comp_of c ≡ named.comp = same_Some (comp_of c) named.comp (sym there ∙ named.there) in
      not_valued ss e (map comp_of cs) n (drop place text) (drop start text) before i (not_empty text place some) separated.stands named
      (subst (λ (d : Comp). IsNoComponent ss e d (drop start text)) one none)

  pub part_at : (n : ℕ) (text : List ℕ) (place start : ℕ) (before : List (Option Value)) (i : ℕ) (c : Component) (v : Value) (end : ℕ) → c ≡ get_or cs i c → i < length cs → place < length text
      → IsItem text place (comma_before n) start → IsNamed (map comp_of cs) before (drop start text) i → IsComponentAt ss e (comp_of c) text start v end
      → IsPartAt ss e (map comp_of cs) text n place before i v end
  part_at n text place start before i c v end got l some separated named k =
      let there = slice_get-map comp_of cs i ∙ ap (option_map comp_of) (slice_get_read cs (length cs) i c refl l got) in
      let whole = separated.stands ∙ ap (λ x. comma_before n ++ x) k.stands.stands in
      let long = ap length (whole ∙ ap (λ l. comma_before n ++ l) (component_parts ss (comp_of c) v (drop end text))) in
      let outer = length-append (comma_before n) (c.name ++ (codes " == " ++ (value_text ss v ++ drop end text))) in
      let inner = length-append c.name (codes " == " ++ (value_text ss v ++ drop end text)) in
      let last = length-append (value_text ss v) (drop end text) in
      let from = length-drop place text in
      let to = length-drop end text in
      record {
        part = record { comp = comp_of c; there = there; free = named.free; of_type = k.value; stands = whole };
        ends = k.ends;
        further = omega (arith, long, outer, inner, last, from, to, some, k.stands.within);
        within = k.stands.within;
      }

-- ---- the loop over parts

module _ {ss : List Spelling} {e : Environment} where
  pub nothing_read : (cs : List Component) (text : List ℕ) (held : List (Option Value)) → held ≡ nothing_of (map comp_of cs)
      → (0 ≤ length text) × (0 ≤ 0) × (length held ≡ length cs) × HeldSoFar ss e (map comp_of cs) text 0 held text
  nothing_read cs text held none = (
    omega arith,
    omega arith,
    ap length none ∙ length-map (map comp_of cs) (λ c. None) ∙ length-map cs comp_of,
    subst (λ vs. HeldSoFar ss e (map comp_of cs) text 0 vs text) (sym none) (held_begun ss e (map comp_of cs) text),
  )

  pub free_within : {cs : List Comp} {text : List ℕ} {n place i : ℕ} {before : List (Option Value)} {v : Value} {end : ℕ} → IsPartAt ss e cs text n place before i v end → i < length before
  free_within {i = i} {before = before} k = slice_get_within before i None k.part.free

  pub one_more : (cs : List Component) (text : List ℕ) (n place i : ℕ) (before : List (Option Value)) (v : Value) (end : ℕ) → n ≤ place → length before ≡ length cs
      → HeldSoFar ss e (map comp_of cs) text n before (drop place text) → IsPartAt ss e (map comp_of cs) text n place before i v end
      → (end ≤ length text) × (n + 1 ≤ end) × (length (set before i (Some v)) ≡ length cs) × HeldSoFar ss e (map comp_of cs) text (n + 1) (set before i (Some v)) (drop end text)
  one_more cs text n place i before v end few long r k = (
    k.within,
    omega (arith, few, k.further),
    length-set before i (Some v) ∙ long,
    held_further ss e (map comp_of cs) text n before (drop place text) i v (drop end text) r k.part k.ends,
  )

  pub all_read : (cs : List Component) (text : List ℕ) (n place : ℕ) (before : List (Option Value)) → length text ≤ place → HeldSoFar ss e (map comp_of cs) text n before (drop place text)
      → IsHeldLine ss e (map comp_of cs) text before
  all_read cs text n place before l r = held_read ss e (map comp_of cs) text n before (drop place text) r (drop-end place text l)

  pub none_read : {cs : List Comp} {text bytes : List ℕ} {n : ℕ} {before : List (Option Value)} → HeldSoFar ss e cs text n before bytes → IsNoHeldRest ss e cs n bytes before → IsNoHeldLine ss e cs text
  none_read r none = r.none none
