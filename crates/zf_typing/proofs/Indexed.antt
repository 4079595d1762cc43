-- Variables are found by the buckets of their names.
use Rattle.zf_typing.proofs.Prelude.{if◌then◌else◌, ◌++◌, ◌+◌, ◌-◌, ◌<◌, ◌==◌, ◌∙◌, ◌∷◌, ◌≡◌, ◌≤◌, [], ap, arith, Bool, false, get_or, inl, inr, length, List, map, None, Option, refl, set, Some, subst, suc, sym, take, true, true≢false, zero, ℕ, ⊎_elim, take-append_seam, take-length, Decides-eqb, get_or-set_other, get_or-set_same, get_or-take, get_or_append_left, get_or_push, get_or_read_under, length-append, length-set, length-take-le, take-append-le, take-take, bytes_eq-Decides, bytes_eq, later, before, last_in, AreHeads, bucket, IsIndexed, last_named, Var, variable_of, Chained, Variable, option_or}
use Rattle.std.proofs.Math.Nat.{eq-or-lt_of_le}
use Rattle.zf_typing.proofs.Named.{last_at}

-- ---- the last of a bucket

abbrev last_after : Bool → ℕ → ℕ → ℕ
last_after here n p = if here then suc n else p

-- one more is the last of its bucket, and no other's
last_then : (b : ℕ) (cs : List Chained) (c : Chained) → last_in b (cs ++ c ∷ []) ≡ last_after (b == bucket c.variable.name) (length cs) (last_in b cs)
last_then b [] c = refl
last_then b (d ∷ cs) c = by (b == bucket c.variable.name) (last_then b cs c)
  where
    by : (here : Bool) → last_in b (cs ++ c ∷ []) ≡ last_after here (length cs) (last_in b cs)
        → before (last_in b (cs ++ c ∷ [])) b d.variable.name ≡ last_after here (suc (length cs)) (before (last_in b cs) b d.variable.name)
    by true e = ap (λ p. before p b d.variable.name) e
    by false e = ap (λ p. before p b d.variable.name) e

at_most : (b : ℕ) (cs : List Chained) → last_in b cs ≤ length cs
at_most b [] = omega arith
at_most b (c ∷ cs) = by (last_in b cs) (b == bucket c.variable.name) (at_most b cs)
  where
    here : (h : Bool) → (if h then 1 else 0) ≤ suc (length cs)
    here true = omega arith
    here false = omega arith

    by : (p : ℕ) (h : Bool) → p ≤ length cs → before p b c.variable.name ≤ suc (length cs)
    by zero h l = here (b == bucket c.variable.name)
    by (suc p) h l = omega (arith, l)

-- what is the last of a bucket is in it
of_bucket : (b : ℕ) (cs : List Chained) (d : Chained) → 0 < last_in b cs → bucket (get_or cs (last_in b cs - 1) d).variable.name ≡ b
of_bucket b [] d l = absurd (omega (arith, l))
of_bucket b (c ∷ cs) d l = by (last_in b cs) (λ m. of_bucket b cs d m) l
  where
    here : (h : Bool) → (h ≡ true → b ≡ bucket c.variable.name) → 0 < (if h then 1 else 0) → bucket (get_or (c ∷ cs) ((if h then 1 else 0) - 1) d).variable.name ≡ b
    here true e m = sym (e refl)
    here false e m = absurd (omega (arith, m))

    by : (p : ℕ) → (0 < p → bucket (get_or cs (p - 1) d).variable.name ≡ b) → 0 < before p b c.variable.name → bucket (get_or (c ∷ cs) (before p b c.variable.name - 1) d).variable.name ≡ b
    by zero r m = here (b == bucket c.variable.name) (λ t. (Decides-eqb b (bucket c.variable.name)).0 t) m
    by (suc p) r m = let e : suc (suc p) - 1 ≡ suc (suc p - 1) = omega arith in ap (λ k. bucket (get_or (c ∷ cs) k d).variable.name) e ∙ r (omega arith)

-- ---- looking for a name along its bucket

abbrev pub vars : List Chained → List Var
vars cs = map (λ c. variable_of c.variable) cs

pub same_vars : (cs : List Chained) → vars cs ≡ map variable_of (map (λ c. c.variable) cs)
same_vars [] = refl
same_vars (c ∷ cs) = ap (λ vs. variable_of c.variable ∷ vs) (same_vars cs)

abbrev found : List ℕ → List Chained → Option (ℕ × Var)
found x cs = last_named (λ v. v.name) x (vars cs)

not_true : (t : Bool) → (t ≡ true → false ≡ true) → t ≡ false
not_true true e = sym (e refl)
not_true false e = refl

-- none after the last of its bucket has the name
none_behind : (x : List ℕ) (cs : List Chained) → found x cs ≡ found x (take (last_in (bucket x) cs) cs)
none_behind x [] = refl
none_behind x (c ∷ cs) = by (last_in (bucket x) cs) (none_behind x cs)
  where
    one : Bool → Option (ℕ × Var)
    one t = if t then Some (0, variable_of c.variable) else None

    here : (h : Bool) → (bytes_eq c.variable.name x ≡ true → h ≡ true) → one (bytes_eq c.variable.name x) ≡ found x (take (if h then 1 else 0) (c ∷ cs))
    here true e = refl
    here false e = ap one (not_true (bytes_eq c.variable.name x) e)

    same : bytes_eq c.variable.name x ≡ true → (bucket x == bucket c.variable.name) ≡ true
    same t = (Decides-eqb (bucket x) (bucket c.variable.name)).1 (ap bucket (sym ((bytes_eq-Decides c.variable.name x).0 t)))

    by : (p : ℕ) → found x cs ≡ found x (take p cs) → found x (c ∷ cs) ≡ found x (take (before p (bucket x) c.variable.name) (c ∷ cs))
    by zero e = ap (λ o. option_or (later o) (one (bytes_eq c.variable.name x))) e ∙ here (bucket x == bucket c.variable.name) same
    by (suc p) e = ap (λ o. option_or (later o) (one (bytes_eq c.variable.name x))) e

-- what is ahead while a name is looked for: none after has it, and the last of these is in its bucket
pub record IsAhead (x : List ℕ) (cs : List Chained) (ahead : ℕ) : Type 0 where
  pub within : ahead ≤ length cs
  behind : found x cs ≡ found x (take ahead cs)
  in_bucket : (d : Chained) → 0 < ahead → bucket (get_or cs (ahead - 1) d).variable.name ≡ bucket x

ahead_of : (x : List ℕ) (cs : List Chained) (k : ℕ) → k ≤ length cs → found x cs ≡ found x (take k cs) → IsAhead x cs (last_in (bucket x) (take k cs))
ahead_of x cs k l e =
    let n = last_in (bucket x) (take k cs) in
    let most : n ≤ k = subst (λ m. n ≤ m) (length-take-le k cs l) (at_most (bucket x) (take k cs)) in
    record {
      within = omega (arith, l, most);
      behind = e ∙ none_behind x (take k cs) ∙ ap (found x) (take-take n k cs most);
      in_bucket = λ d p. ap (λ c. bucket c.variable.name) (sym (get_or-take k cs (n - 1) d (omega (arith, p, most)))) ∙ of_bucket (bucket x) (take k cs) d p;
    }

pub first_ahead : (x : List ℕ) (cs : List Chained) (heads : List ℕ) → IsIndexed cs heads → bucket x < length heads → IsAhead x cs (get_or heads (bucket x) 0)
unfolding IsIndexed
first_ahead x cs heads i l =
    subst (λ n. IsAhead x cs n) (ap (last_in (bucket x)) (take-length cs) ∙ sym (i.1 (bucket x) l)) (ahead_of x cs (length cs) (omega arith) (ap (found x) (sym (take-length cs))))

pub none_ahead : (x : List ℕ) (cs : List Chained) (ahead : ℕ) → IsAhead x cs ahead → ahead ≡ 0 → None ≡ found x cs
none_ahead x cs ahead a e = sym (a.behind ∙ ap (λ n. found x (take n cs)) e)

pub comes_before : (cs : List Chained) (heads : List ℕ) (place : ℕ) (c : Chained) → IsIndexed cs heads → place < length cs → c ≡ get_or cs place c → c.previous ≤ place
unfolding IsIndexed
comes_before cs heads place c i l is =
    let before = subst (λ z. z.previous ≡ last_in (bucket z.variable.name) (take place cs)) (sym is) (i.2 place c l) in
    omega (arith, before, at_most (bucket c.variable.name) (take place cs), length-take-le place cs (omega (arith, l)))

seen_at : (x : List ℕ) (cs : List Chained) (ahead place : ℕ) (c : Chained) → IsAhead x cs ahead → ahead ≡ place + 1 → c ≡ get_or cs place c
    → found x (take ahead cs) ≡ (if bytes_eq c.variable.name x then Some (place, variable_of c.variable) else found x (take place cs))
seen_at x cs ahead place c a e is = last_at (λ c. variable_of c.variable) (λ v. v.name) x cs ahead place c e (omega (arith, e, a.within)) is

pub next_ahead : (x : List ℕ) (cs : List Chained) (heads : List ℕ) (ahead place : ℕ) (c : Chained) → IsIndexed cs heads → IsAhead x cs ahead
    → ahead ≡ place + 1 → c ≡ get_or cs place c → bytes_eq c.variable.name x ≡ false → IsAhead x cs c.previous
unfolding IsIndexed
next_ahead x cs heads ahead place c i a e is other =
    let before = subst (λ z. z.previous ≡ last_in (bucket z.variable.name) (take place cs)) (sym is) (i.2 place c (omega (arith, e, a.within))) in
    let same = ap (λ z. bucket z.variable.name) (is ∙ ap (λ j. get_or cs j c) (omega (arith, e))) ∙ a.in_bucket c (omega (arith, e)) in
    subst (λ n. IsAhead x cs n) (sym (before ∙ ap (λ b. last_in b (take place cs)) same))
    (ahead_of x cs place (omega (arith, e, a.within)) (a.behind ∙ seen_at x cs ahead place c a e is ∙ ap (λ t. if t then Some (place, variable_of c.variable) else found x (take place cs)) other))

pub here_ahead : (x : List ℕ) (cs : List Chained) (ahead place : ℕ) (c : Chained) → IsAhead x cs ahead → ahead ≡ place + 1 → c ≡ get_or cs place c
    → bytes_eq c.variable.name x ≡ true → Some (place, variable_of c.variable) ≡ found x cs
here_ahead x cs ahead place c a e is same =
    sym (a.behind ∙ seen_at x cs ahead place c a e is ∙ ap (λ t. if t then Some (place, variable_of c.variable) else found x (take place cs)) same)

-- ---- what is indexed

pub none_indexed : IsIndexed [] []
unfolding IsIndexed
none_indexed = (inl (refl, refl), (λ b l. absurd (omega (arith, l))), λ i d l. absurd (omega (arith, l)))

pub have_heads : (cs : List Chained) (heads : List ℕ) → IsIndexed cs heads → 0 < length cs → length heads ≡ 4096
unfolding IsIndexed
have_heads cs heads i l = ⊎_elim (λ t. absurd (omega (arith, l, ap length t.0))) (λ n. n) i.0

pub with_heads : (cs : List Chained) (old new : List ℕ) → IsIndexed cs old → AreHeads old new → IsIndexed cs new × (length new ≡ 4096)
unfolding IsIndexed AreHeads
with_heads cs old new i (inl h) =
    let none : cs ≡ [] = ⊎_elim (λ t. t.0) (λ l. absurd (omega (arith, l, h.0))) i.0 in (
      (
        inr h.1,
        (λ b l. h.2 b (subst (λ n. b < n) h.1 l) ∙ ap (last_in b) (sym none)),
        λ k d l. absurd (omega (arith, l, ap length none)),
      ),
      h.1,
    )
with_heads cs old new i (inr h) =
    subst (λ hs. IsIndexed cs hs × (length hs ≡ 4096)) (sym h.1) (i, ⊎_elim (λ t. absurd (omega (arith, h.0, ap length t.1))) (λ l. l) i.0)

last_same : (b : ℕ) (cs : List Chained) (c : Chained) → b ≡ bucket c.variable.name → last_in b (cs ++ c ∷ []) ≡ suc (length cs)
last_same b cs c e = last_then b cs c ∙ ap (λ t. last_after t (length cs) (last_in b cs)) ((Decides-eqb b (bucket c.variable.name)).1 e)

last_other : (b : ℕ) (cs : List Chained) (c : Chained) → (b ≡ bucket c.variable.name → ⊥) → last_in b (cs ++ c ∷ []) ≡ last_in b cs
last_other b cs c d = last_then b cs c ∙ ap (λ t. last_after t (length cs) (last_in b cs)) (by (b == bucket c.variable.name) refl)
  where
    by : (t : Bool) → (b == bucket c.variable.name) ≡ t → (b == bucket c.variable.name) ≡ false
    by true e = absurd (d ((Decides-eqb b (bucket c.variable.name)).0 e))
    by false e = e

-- a bucket, of which one was set
head_set : (heads : List ℕ) (b h n m : ℕ) → b < length heads → (b ≡ h → n ≡ m) → ((b ≡ h → ⊥) → get_or heads b 0 ≡ m) → get_or (set heads h n) b 0 ≡ m
head_set heads b h n m l same other = by (b == h) refl
  where
    by : (t : Bool) → (b == h) ≡ t → get_or (set heads h n) b 0 ≡ m
    by true e =
        let is : b ≡ h = (Decides-eqb b h).0 e in
        ap (λ k. get_or (set heads h n) k 0) is ∙ get_or-set_same heads h n 0 (subst (λ k. k < length heads) is l) ∙ same is
    by false e =
        let not : b ≡ h → ⊥ = λ is. true≢false (sym ((Decides-eqb b h).1 is) ∙ e) in
        get_or-set_other heads h b n 0 not ∙ other not

-- what stands before the last stands as it did
abbrev Links : List Chained → ℕ → Chained → Type 0
Links cs k d = (get_or cs k d).previous ≡ last_in (bucket (get_or cs k d).variable.name) (take k cs)

earlier : (cs : List Chained) (c d : Chained) (k : ℕ) → k < length cs → Links (cs ++ c ∷ []) k d ≡ Links cs k d
earlier cs c d k l =
    ap (λ z. z.previous ≡ last_in (bucket z.variable.name) (take k (cs ++ c ∷ []))) (get_or_append_left cs (c ∷ []) d k l)
    ∙ ap (λ zs. (get_or cs k d).previous ≡ last_in (bucket (get_or cs k d).variable.name) zs) (take-append-le k cs (c ∷ []) (omega (arith, l)))

at_last : (cs : List Chained) (c d : Chained) (k : ℕ) → k ≡ length cs → Links (cs ++ c ∷ []) k d ≡ (c.previous ≡ last_in (bucket c.variable.name) cs)
at_last cs c d k e =
    ap (λ z. z.previous ≡ last_in (bucket z.variable.name) (take k (cs ++ c ∷ []))) (get_or_push cs c d k (sym e))
    ∙ ap (λ zs. c.previous ≡ last_in (bucket c.variable.name) zs) (ap (λ j. take j (cs ++ c ∷ [])) e ∙ take-append_seam cs (c ∷ []))

pub one_pushed : (cs : List Chained) (heads : List ℕ) (v : Variable) (p n : ℕ) → IsIndexed cs heads → length heads ≡ 4096 → p ≡ get_or heads (bucket v.name) p
    → bucket v.name < 4096 → n ≡ length cs + 1 → IsIndexed (cs ++ record { variable = v; previous = p } ∷ []) (set heads (bucket v.name) n)
unfolding IsIndexed
one_pushed cs heads v p n i l e small m =
    let c : Chained = record { variable = v; previous = p } in
    let within : bucket v.name < length heads = omega (arith, small, l) in
    let before : p ≡ last_in (bucket v.name) cs = get_or_read_under heads (bucket v.name) (length heads) p 0 e within refl ∙ i.1 (bucket v.name) within in (
      inr (length-set heads (bucket v.name) n ∙ l),
      (λ b k. let under : b < length heads = subst (λ x. b < x) (length-set heads (bucket v.name) n) k in head_set heads b (bucket v.name) n
          (last_in b (cs ++ c ∷ [])) under (λ e. m ∙ sym (last_same b cs c e ∙ omega arith)) (λ e. i.1 b under ∙ sym (last_other b cs c e))),
      λ k d u.
          ⊎_elim (λ s. subst (λ T. T) (sym (at_last cs c d k s)) before) (λ s. subst (λ T. T) (sym (earlier cs c d k s)) (i.2 k d s)) (eq-or-lt_of_le (omega (arith, u, length-append cs (c ∷ [])))),
    )

pub one_popped : (cs : List Chained) (c : Chained) (heads : List ℕ) → IsIndexed (cs ++ c ∷ []) heads → IsIndexed cs (set heads (bucket c.variable.name) c.previous)
unfolding IsIndexed
one_popped cs c heads i =
    let h = bucket c.variable.name in
    let more = length-append cs (c ∷ []) in
    let long : length heads ≡ 4096 = ⊎_elim (λ t. absurd (omega (arith, more, ap length t.0))) (λ l. l) i.0 in
    let before : c.previous ≡ last_in h cs = subst (λ T. T) (at_last cs c c (length cs) refl) (i.2 (length cs) c (omega (arith, more))) in (
      inr (length-set heads h c.previous ∙ long),
      (λ b k. let under : b < length heads = subst (λ x. b < x) (length-set heads h c.previous) k in head_set heads b h c.previous (last_in b cs) under
          (λ e. before ∙ ap (λ x. last_in x cs) (sym e)) (λ e. i.1 b under ∙ last_other b cs c e)),
      λ k d u. subst (λ T. T) (earlier cs c d k u) (i.2 k d (omega (arith, u, more))),
    )
