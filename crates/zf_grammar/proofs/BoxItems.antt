-- Outcomes that follow a tree, and items with their heights, parted by a symbol: what is read is spelled, and what is spelled is read.
use Rattle.zf_grammar.proofs.Prelude.{◌++◌, ◌<◌, ◌∙◌, ◌∷◌, ◌≡◌, ◌≤◌, [], ap, append_assoc, arith, Bool, Err, false, inl, inr, length, List, map, max, Ok, refl, subst, suc, sym, true, zero, ℕ, append-nil, map-append, AllByRecursion, if◌then◌else◌, ◌⊎◌, is_mark, next_of, Symbol, Mark, with_item, items, items_from, most, first, rest, Next, PartedBy, and_then, Outcome, Parser, Refused, tall, TooDeep, Tall}
use Rattle.zf_scan.specs.declared.next.Next as code
use Rattle.zf_grammar.proofs.Marks.{kind_of, marked, seen, passed, next_shorter}
use Rattle.zf_grammar.proofs.Parted.{first_of_all, Further, more}
use Rattle.zf_grammar.proofs.TermSteps.{ok_pair, bind_ok, if_cases}

-- ---- what is read is there

-- a tree of this sort, of the stated height, which is at most `n`, is spelled between two lists
pub record IsThere {A T : Type 0} (view : A → T) (high : T → ℕ) (Fits : T → Type 0) (S : T → List Symbol → List Symbol → Type 0) (n : ℕ) (x : Tall A) (ts us : List Symbol) : Type 0 where
  pub fits : Fits (view x.part)
  pub high_is : x.height ≡ high (view x.part)
  pub low : x.height ≤ n
  pub spelled : S (view x.part) ts us

-- ---- what is there is read

-- a value of this sort is read, and a tree of height `h` is not above `n`
pub record IsRead {B : Type 0} (Is : B → Type 0) (n h : ℕ) (o : Outcome B) (us : List Symbol) : Type 0 where
  pub value : B
  pub is : Is value
  pub low : h ≤ n
  pub read : o ≡ Ok (value, us)

pub record IsTooHigh {B : Type 0} (n h : ℕ) (o : Outcome B) : Type 0 where
  pub above : n < h
  pub refused : o ≡ Err TooDeep

-- it is read where it is not above `n`, and refused as too deep elsewhere
abbrev pub Answers : {B : Type 0} (Is : B → Type 0) (n h : ℕ) (o : Outcome B) (us : List Symbol) → Type 0
Answers Is n h o us = IsRead Is n h o us ⊎ IsTooHigh n h o

-- it is seen as this tree, and its height is stated
pub record Seen {A T : Type 0} (view : A → T) (t : T) (h : ℕ) (x : Tall A) : Type 0 where
  pub is : view x.part ≡ t
  pub high : x.height ≡ h

pub and_answers : {A B : Type 0} (Is : A → Type 0) (Was : B → Type 0) (n h m i : ℕ) (o : Outcome A) (f : A → Parser B) (us vs : List Symbol) → (n < h → m < i) → Answers Is n h o us
    → ((x : A) → Is x → h ≤ n → Answers Was m i (f x us) vs) → Answers Was m i (and_then o f) vs
and_answers Is Was n h m i o f us vs up (inl r) go = subst (λ o. Answers Was m i (and_then o f) vs) (sym r.read) (go r.value r.is r.low)
and_answers Is Was n h m i o f us vs up (inr d) go = inr (record { above = up d.above; refused = ap (λ o. and_then o f) d.refused })

-- a step without height
pub then_answers : {A B : Type 0} (Was : B → Type 0) (m i : ℕ) (o : Outcome A) (f : A → Parser B) (a : A) (us vs : List Symbol) → o ≡ Ok (a, us)
    → Answers Was m i (f a us) vs → Answers Was m i (and_then o f) vs
then_answers Was m i o f a us vs e go = subst (λ o. Answers Was m i (and_then o f) vs) (sym e) go

pub if_true : {B : Type 0} (Is : B → Type 0) (n h : ℕ) (b : Bool) (o p : Outcome B) (us : List Symbol) → b ≡ true → Answers Is n h o us → Answers Is n h (if b then o else p) us
if_true Is n h b o p us is go = rw is go

pub if_false : {B : Type 0} (Is : B → Type 0) (n h : ℕ) (b : Bool) (o p : Outcome B) (us : List Symbol) → b ≡ false → Answers Is n h p us → Answers Is n h (if b then o else p) us
if_false Is n h b o p us is go = rw is go

pub done : {B : Type 0} (Is : B → Type 0) (n h : ℕ) (x : B) (us : List Symbol) → Is x → h ≤ n → Answers Is n h (Ok (x, us)) us
done Is n h x us is low = inl (record { value = x; is = is; low = low; read = refl })

-- what is there is never refused, and only what is higher than allowed is too high
pub never_refused : {B : Type 0} {Is : B → Type 0} {n h : ℕ} {o : Outcome B} {us : List Symbol} → Answers Is n h o us → o ≡ Err Refused → ⊥
never_refused (inl a) e = let read = a.read in cc
never_refused (inr d) e = let refused = d.refused in cc

pub above_limit : {B : Type 0} {Is : B → Type 0} {n h : ℕ} {o : Outcome B} {us : List Symbol} → Answers Is n h o us → o ≡ Err TooDeep → n < h
above_limit (inl a) e = let read = a.read in absurd (cc)
above_limit (inr d) e = d.above

-- ---- lists of items

pub most_append : {A : Type 0} (f : A → ℕ) (xs ys : List A) → most f (xs ++ ys) ≡ max (most f xs) (most f ys)
most_append f [] ys = omega arith
most_append f (x ∷ xs) ys = omega (arith, most_append f xs ys)

pub all_append : {A : Type 0} (P : A → Type 0) (xs : List A) (x : A) → AllByRecursion P xs → P x → AllByRecursion P (xs ++ x ∷ [])
all_append P [] x h p = (p, tt)
all_append P (y ∷ ys) x h p = (h.0, all_append P ys x h.1 p)

module _ {A T : Type 0} (view : A → T) (high : T → ℕ) (Fits : T → Type 0) (S : T → List Symbol → List Symbol → Type 0) (part : Mark) (n : ℕ) (item : Parser (Tall A)) where
  abbrev pub AreThere : Tall (List A) → List Symbol → List Symbol → Type 0
  AreThere xs ts us = IsThere (map view) (most high) (AllByRecursion Fits) (PartedBy (kind_of part) S) n xs ts us

  module _ (sound : (ts us : List Symbol) (x : Tall A) → item ts ≡ Ok (x, us) → IsThere view high Fits S n x ts us) where
    one_more : (xs : Tall (List A)) (x : Tall A) (ts a b us : List Symbol) → AreThere xs ts a → Next (kind_of part) a b → IsThere view high Fits S n x b us → AreThere (with_item xs x) ts us
    one_more xs x ts a b us h next s =
        let all = map-append view xs.part (x.part ∷ []) in
        record {
          fits = subst (AllByRecursion Fits) (sym all) (all_append Fits (map view xs.part) (view x.part) h.fits s.fits);
          high_is = omega (arith, most_append high (map view xs.part) (view x.part ∷ []), ap (most high) all);
          low = omega (arith, h.high_is, s.high_is, h.low, s.low);
          spelled = subst (λ vs. PartedBy (kind_of part) S vs ts us) (sym all) (more part S (map view xs.part) (view x.part) ts a b us h.spelled next s.spelled);
        }

    from_sound : (j : ℕ) (xs ys : Tall (List A)) (ts a us : List Symbol) → AreThere xs ts a → items_from part item j xs a ≡ Ok (ys, us) → AreThere ys ts us
    unfolding items_from
    from_sound zero xs ys ts a us h e = subst (λ p. AreThere p.0 ts p.1) (ok_pair (xs, a) (ys, us) e) h
    from_sound (suc j) xs ys ts a us h e =
        if_cases (is_mark part (first a)) _ _ (ys, us) e
        (λ is e.
        let x = bind_ok (item (rest a)) _ (ys, us) e in
        from_sound j (with_item xs x.0) ys ts x.1 us (one_more xs x.0 ts a (rest a) x.1 h (marked part a is) (sound (rest a) x.1 x.0 x.2)) x.3)
        (λ is e. subst (λ p. AreThere p.0 ts p.1) (ok_pair (xs, a) (ys, us) e) h)

    pub items_sound : (ts us : List Symbol) (ys : Tall (List A)) → items part item ts ≡ Ok (ys, us) → AreThere ys ts us
    unfolding items
    items_sound ts us ys e =
        let x = bind_ok (item ts) _ (ys, us) e in
        let s = sound ts x.1 x.0 x.2 in
        from_sound (length x.1) (tall (x.0.part ∷ []) x.0.height) ys ts x.1 us
        (record { fits = (s.fits, tt); high_is = omega (arith, s.high_is); low = s.low; spelled = s.spelled }) x.3

  module _ (Ends : code.Next → Type 0) (parts : Ends (next_of (kind_of part)))
      (shorter : (t : T) (ts us : List Symbol) → S t ts us → length us ≤ length ts)
      (answers : (t : T) (ts us : List Symbol) → Fits t → S t ts us → Ends (first us) → Answers (Seen view t (high t)) n (high t) (item ts) us) where
    further_ends : (rs : List T) (ts us : List Symbol) → Ends (first us) → Further part S rs ts us → Ends (first ts)
    further_ends [] ts us ends h = subst (λ ts. Ends (first ts)) (sym h) ends
    further_ends (t ∷ rs) ts us ends h = subst (λ ts. Ends (first ts)) (sym h.1.1) parts

    -- the items of these trees are read
    abbrev pub AreRead : List T → Outcome (Tall (List A)) → List Symbol → Type 0
    AreRead all o us = Answers (Seen (map view) all (most high all)) n (most high all) o us

    none_more : (xs : Tall (List A)) (before : List T) (ts us : List Symbol) → map view xs.part ≡ before → xs.height ≡ most high before → most high before ≤ n
        → ts ≡ us → AreRead (before ++ []) (Ok (xs, ts)) us
    none_more xs before ts us is high_is low same =
        let as_before : AreRead before (Ok (xs, us)) us = done (Seen (map view) before (most high before)) n (most high before) xs us (record { is = is; high = high_is }) low in
        subst (λ ts. AreRead (before ++ []) (Ok (xs, ts)) us) (sym same) (subst (λ all. AreRead all (Ok (xs, us)) us) (sym (append-nil before)) as_before)

    from_answers : (rs before : List T) (j : ℕ) (xs : Tall (List A)) (ts us : List Symbol) → map view xs.part ≡ before → xs.height ≡ most high before → most high before ≤ n
        → is_mark part (first us) ≡ false → Ends (first us) → AllByRecursion Fits rs → Further part S rs ts us → length ts ≤ j
        → AreRead (before ++ rs) (items_from part item j xs ts) us
    unfolding items_from
    from_answers [] before zero xs ts us is high_is low stops ends all h short = none_more xs before ts us is high_is low h
    from_answers [] before (suc j) xs ts us is high_is low stops ends all h short =
        if_false (Seen (map view) (before ++ []) (most high (before ++ []))) n _ _ _ _ us (ap (λ ts. is_mark part (first ts)) h ∙ stops) (none_more xs before ts us is high_is low h)
    from_answers (t ∷ rs) before zero xs ts us is high_is low stops ends all h short = absurd (omega (arith, next_shorter ts h.0 h.1))
    from_answers (t ∷ rs) before (suc j) xs ts us is high_is low stops ends all h short =
        let f = first_of_all part S t rs h.0 us h.2 in
        let small : length f.0 ≤ j = omega (arith, next_shorter ts h.0 h.1, shorter t h.0 f.0 f.1) in
        let one : Answers (Seen view t (high t)) n (high t) (item (rest ts)) f.0 = subst (λ b. Answers (Seen view t (high t)) n (high t) (item b) f.0)
        (sym (passed ts h.0 h.1)) (answers t h.0 f.0 all.0 f.1 (further_ends rs f.0 us ends f.2)) in
        let next : (x : Tall A) → Seen view t (high t) x → high t ≤ n → AreRead (before ++ t ∷ rs) (items_from part item j (with_item xs x) f.0) us = λ x s low_t.
        let s_is = s.is in
        let s_high = s.high in
        let all_is : map view (xs.part ++ x.part ∷ []) ≡ before ++ t ∷ [] = map-append view xs.part (x.part ∷ []) ∙ ap (λ vs. vs ++ view x.part ∷ []) is ∙ ap (λ v. before ++ v ∷ []) s_is in
        let most_is : most high (before ++ t ∷ []) ≡ max (most high before) (max (high t) 0) = most_append high before (t ∷ []) in
        subst (λ all. AreRead all (items_from part item j (with_item xs x) f.0) us) (append_assoc before (t ∷ []) rs)
        (from_answers rs (before ++ t ∷ []) j (with_item xs x) f.0 us all_is (omega arith) (omega arith) stops ends all.1 f.2 small) in
        let most_all : most high (before ++ t ∷ rs) ≡ max (most high before) (max (high t) (most high rs)) = most_append high before (t ∷ rs) in
        if_true (Seen (map view) (before ++ t ∷ rs) (most high (before ++ t ∷ rs))) n _ _ _ _ us (seen part ts h.0 h.1)
        (and_answers (Seen view t (high t)) (Seen (map view) (before ++ t ∷ rs) (most high (before ++ t ∷ rs))) n (high t) n _ _ _ f.0 us (λ above. omega arith) one next)

    pub items_answers : (rs : List T) (ts us : List Symbol) → is_mark part (first us) ≡ false → Ends (first us) → AllByRecursion Fits rs
        → PartedBy (kind_of part) S rs ts us → AreRead rs (items part item ts) us
    unfolding items
    items_answers [] ts us stops ends all h = absurd h
    items_answers (t ∷ rs) ts us stops ends all h =
        let f = first_of_all part S t rs ts us h in
        let one = answers t ts f.0 all.0 f.1 (further_ends rs f.0 us ends f.2) in
        let next : (x : Tall A) → Seen view t (high t) x → high t ≤ n → AreRead (t ∷ rs) (items_from part item (length f.0) (tall (x.part ∷ []) x.height) f.0) us = λ x s low_t.
        let s_high = s.high in
        from_answers rs (t ∷ []) (length f.0) (tall (x.part ∷ []) x.height) f.0 us (ap (λ v. v ∷ []) s.is) (omega arith) (omega arith) stops ends all.1 f.2 (omega arith) in
        and_answers (Seen view t (high t)) (Seen (map view) (t ∷ rs) (most high (t ∷ rs))) n (high t) n _ _ _ f.0 us (λ above. omega arith) one next
