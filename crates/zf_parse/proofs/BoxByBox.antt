-- A source that is read box by box: what the boxes so far are, and what one that is refused says of the whole.
use Rattle.zf_parse.proofs.Prelude.{Span, ◌++◌, ◌∙◌, ◌∷◌, ◌≡◌, ◌≤◌, [], ap, append_assoc, arith, Bool, Err, false, inl, inr, length, List, map, Ok, refl, subst, sym, true, ℕ, append-nil, map-append, AllByRecursion, if◌then◌else◌, ◌==◌, ◌||◌, ◌⊎◌, box_of, BoxTree, ZBox, begins_box, BeginsBox, ends_box, Follows, IsBoxAtMost, IsCutOn, IsCutUpTo, IsWantOfMemory, token_at, canonical, closes, is_separator, opens, reduced, reduced_after, starts_closed, Symbol, symbol_of, TextFaultKind, Placed, Kind, Token, AreSoFar, Later, ReadsBox, ReadsUpTo, RefusesBox, SpellsUpTo, read_box, read_only, box_height, height_limit, highest, BoxIsLevelled, ReadsSource, RefusesTokens, RefusesSource, first, is_end, Reads, SpellsBox, SpellsBoxes, Fails, Refused, TooDeep}
use Rattle.zf_scan.specs.declared.fault.TextFaultKind.TheVariants as fault
use Rattle.zf_scan.specs.declared.scan.Border.{Border}
use Rattle.zf_scan.specs.declared.token.Kind.TheVariants as k
use Rattle.zf_scan.specs.Boxes as tokens
use Rattle.zf_scan.proofs.Laws.{cut_whole}
use Rattle.zf_scan.proofs.Texts.{eq_is}
use Rattle.zf_parse.proofs.Answers.{refuses_source}
use Rattle.zf_parse.proofs.Apart.{EndsOnce, box_before, box_apart}
use Rattle.zf_grammar.proofs.BoxItems.{and_answers, done, never_refused, above_limit, most_append, all_append}
use Rattle.zf_grammar.proofs.BoxesRead.{BoxIsRead, box_sound, box_answers, at_end, all_of}
use Rattle.zf_grammar.proofs.TermSteps.{ok_pair, bind_ok, if_ok}

-- ---- one box

only_sound : (n : ℕ) (ts us : List Symbol) (b : ZBox) → n ≡ height_limit → read_only n ts ≡ Ok (b, us) → ReadsBox (box_of b) ts
unfolding read_only
only_sound n ts us b limit e =
    let x = bind_ok (read_box n ts) _ (b, us) e in
    let t = if_ok (is_end (first x.1)) _ (b, us) _ x.3 in
    let s = box_sound n ts x.1 x.0 x.2 in
    let same : x.0 ≡ b = ap (λ p. p.0) (ok_pair (x.0, x.1) (b, us) t.1) in
    let low = s.low in
    subst (λ b. ReadsBox (box_of b) ts) same (record { levelled = s.levelled; spelled = subst (SpellsBox (box_of x.0) ts) (at_end x.1 t.0) s.spelled; low = omega (arith, limit) })

only_answers : (n : ℕ) (ts : List Symbol) (b : BoxTree) → BoxIsLevelled b → SpellsBox b ts [] → BoxIsRead n b (read_only n ts) []
unfolding read_only
only_answers n ts b lev h =
    let Is = λ (x : ZBox). box_of x ≡ b in
    and_answers Is Is n (box_height b) n (box_height b) (read_box n ts) _ [] [] (λ above. above) (box_answers n b ts [] lev h) (λ x is low. done Is n (box_height b) x [] is low)

none_reads : (n : ℕ) (ts : List Symbol) → read_only n ts ≡ Err Refused → (b : BoxTree) → BoxIsLevelled b → SpellsBox b ts [] → ⊥
none_reads n ts e b lev h = never_refused (only_answers n ts b lev h) e

none_low : (n : ℕ) (ts : List Symbol) → read_only n ts ≡ Err TooDeep → (b : BoxTree) → BoxIsLevelled b → SpellsBox b ts [] → box_height b ≤ n → ⊥
none_low n ts e b lev h low = omega (arith, above_limit (only_answers n ts b lev h) e)

pub only_refused : (kind : TextFaultKind) (span : Span) (ts : List Symbol) → Fails (read_only height_limit ts) kind span → RefusesBox kind span ts
only_refused fault.OutOfMemory span ts h = h
only_refused fault.Unexpected span ts h = none_reads height_limit ts h
only_refused fault.NotInProfile span ts h = none_reads height_limit ts h
only_refused fault.TooDeep span ts h = λ b r. none_low height_limit ts h b r.levelled r.spelled r.low
only_refused _ span ts h = absurd h

pub box_read : (b : ZBox) (ts us : List Symbol) → read_only height_limit ts ≡ Ok (b, us) → ReadsBox (box_of b) ts
box_read b ts us h = only_sound height_limit ts us b refl h

-- ---- the reduced list of tokens and of those of further boxes

no_separator : (kind : Kind) → begins_box kind ≡ true → is_separator kind ≡ false
no_separator (k.Separator s) e = cc
no_separator _ e = refl

no_closing : (kind : Kind) → begins_box kind ≡ true → closes kind ≡ false
no_closing k.BeginZed e = refl
no_closing (k.BeginSchema name) e = refl
no_closing _ e = cc

at_beginning : (drops : Bool) (ts : List Token) → BeginsBox ts → reduced_after drops ts ≡ reduced ts
at_beginning drops [] h = absurd h
at_beginning drops (t ∷ ts) h = cc (no_separator t.kind h)

starts_before : (ts us : List Token) → BeginsBox us → starts_closed (ts ++ us) ≡ starts_closed ts
starts_before [] [] h = absurd h
starts_before [] (u ∷ us) h = no_closing u.kind h
starts_before (t ∷ ts) us h = refl

both_reduced : (drops : Bool) (ts us : List Token) → BeginsBox us → reduced_after drops (ts ++ us) ≡ reduced_after drops ts ++ reduced us
both_reduced drops [] us h = at_beginning drops us h
both_reduced drops (t ∷ ts) us h = by (is_separator t.kind) refl (drops || starts_closed ts) refl (both_reduced drops ts us h) (both_reduced true ts us h) (both_reduced (opens t.kind) ts us h)
  where
    Both : Bool → Type 0
    Both drops = reduced_after drops (ts ++ us) ≡ reduced_after drops ts ++ reduced us

    by : (s : Bool) → is_separator t.kind ≡ s → (d : Bool) → (drops || starts_closed ts) ≡ d → Both drops → Both true → Both (opens t.kind)
        → reduced_after drops (t ∷ (ts ++ us)) ≡ reduced_after drops (t ∷ ts) ++ reduced us
    by true s true d same kept other = rw (s, starts_before ts us h, d) same
    by true s false d same kept other = rw (s, starts_before ts us h, d) (ap (λ vs. symbol_of t ∷ vs) kept)
    by false s d e same kept other = rw s (ap (λ vs. symbol_of t ∷ vs) other)

apart_reduced : (ts us : List Token) → Follows us → reduced (ts ++ us) ≡ reduced ts ++ reduced us
apart_reduced ts us (inl none) = ap (λ us. reduced (ts ++ us)) none ∙ ap reduced (append-nil ts) ∙ sym (append-nil (reduced ts)) ∙ ap (λ us. reduced ts ++ reduced us) (sym none)
apart_reduced ts us (inr h) = both_reduced true ts us h

same_end : (kind : Kind) → ends_box (canonical kind) ≡ ends_box kind
same_end (k.Separator s) = refl
same_end _ = refl

no_end_dropped : (kind : Kind) → ends_box kind ≡ true → is_separator kind ≡ false
no_end_dropped k.EndBox e = refl
no_end_dropped _ e = cc

ends_more : (t : Symbol) (ts : List Symbol) → ends_box t.kind ≡ false → EndsOnce ts → EndsOnce (t ∷ ts)
ends_more t [] e h = absurd h
ends_more t (u ∷ ts) e h = (e, h)

ends_reduced : (drops : Bool) (ts : List Token) → tokens.EndsOnce ts → EndsOnce (reduced_after drops ts)
ends_reduced drops [] h = absurd h
ends_reduced drops (t ∷ []) h = subst (λ s. EndsOnce (if s then (if drops || false then [] else symbol_of t ∷ []) else symbol_of t ∷ [])) (sym (no_end_dropped t.kind h)) (same_end t.kind ∙ h)
ends_reduced drops (t ∷ (u ∷ ts)) h = by (is_separator t.kind) refl (drops || starts_closed (u ∷ ts)) refl (ends_reduced drops (u ∷ ts) h.1)
    (ends_reduced true (u ∷ ts) h.1) (ends_reduced (opens t.kind) (u ∷ ts) h.1)
  where
    Ends : Bool → Type 0
    Ends drops = EndsOnce (reduced_after drops (u ∷ ts))

    by : (s : Bool) → is_separator t.kind ≡ s → (d : Bool) → (drops || starts_closed (u ∷ ts)) ≡ d → Ends drops → Ends true → Ends (opens t.kind) → EndsOnce (reduced_after drops (t ∷ (u ∷ ts)))
    by true s true d same kept other = rw (s, d) same
    by true s false d same kept other = rw (s, d) (ends_more (symbol_of t) (reduced_after true (u ∷ ts)) (same_end t.kind ∙ h.0) kept)
    by false s d e same kept other = rw s (ends_more (symbol_of t) (reduced_after (opens t.kind) (u ∷ ts)) (same_end t.kind ∙ h.0) other)

-- ---- the boxes so far

none_yet : AreSoFar [] []
none_yet = record { levelled = tt; low = omega arith; spelled = λ us. refl; apart = λ all us lev h. record { later = all; levelled = lev; spelled = h; low = omega arith } }

up_to_more : (bs : List BoxTree) (b : BoxTree) (ts a us : List Symbol) → SpellsUpTo bs ts a → SpellsBox b a us → SpellsUpTo (bs ++ b ∷ []) ts us
up_to_more [] b ts a us e h = (us, subst (λ ts. SpellsBox b ts us) (sym e) h, refl)
up_to_more (c ∷ bs) b ts a us h s = (h.0, h.1, up_to_more bs b h.0 a us h.2 s)

none_left : (rs us : List Symbol) → EndsOnce rs → rs ++ us ≡ [] → ⊥
none_left [] us h e = h
none_left (r ∷ rs) us h e = cc

-- after a box, the boxes but the first
behind_first : (all later : List BoxTree) (rs us : List Symbol) → EndsOnce rs → AllByRecursion BoxIsLevelled later → SpellsBoxes later (rs ++ us) → highest later ≤ highest all → Later all us
behind_first all [] rs us ends lev h low = absurd (none_left rs us ends h)
behind_first all (b ∷ bs) rs us ends lev h low =
    let a = box_apart b rs us h.0 ends h.1 in
    record { later = bs; levelled = lev.1; spelled = subst (SpellsBoxes bs) a.0 h.2; low = omega (arith, low) }

one_more : (bs : List BoxTree) (b : BoxTree) (ts rs : List Symbol) → AreSoFar bs ts → EndsOnce rs → ReadsBox b rs → AreSoFar (bs ++ b ∷ []) (ts ++ rs)
one_more bs b ts rs f ends r =
    let low_f = f.low in
    let low_r = r.low in
    record {
      levelled = all_append BoxIsLevelled bs b f.levelled r.levelled;
      low = omega (arith, most_append box_height bs (b ∷ []));
      spelled = λ us. subst (λ ts. SpellsUpTo (bs ++ b ∷ []) ts us) (sym (append_assoc ts rs us))
          (up_to_more bs b (ts ++ (rs ++ us)) (rs ++ us) us (f.spelled (rs ++ us)) (box_before b rs us r.spelled));
      apart = λ all us lev h.
          let l = f.apart all (rs ++ us) lev (subst (SpellsBoxes all) (append_assoc ts rs us) h) in
          behind_first all l.later rs us ends l.levelled l.spelled l.low;
    }

-- a box that is refused is in no text
first_refused : (all later : List BoxTree) (rs us : List Symbol) → EndsOnce rs → AllByRecursion BoxIsLevelled later → SpellsBoxes later (rs ++ us)
    → highest later ≤ highest all → highest all ≤ height_limit → ((b : BoxTree) → ReadsBox b rs → ⊥) → ⊥
first_refused all [] rs us ends lev h low limit none = none_left rs us ends h
first_refused all (b ∷ bs) rs us ends lev h low limit none =
    let a = box_apart b rs us h.0 ends h.1 in
    none b (record { levelled = lev.0; spelled = a.1; low = omega (arith, low, limit) })

first_unread : (later : List BoxTree) (rs us : List Symbol) → EndsOnce rs → AllByRecursion BoxIsLevelled later → SpellsBoxes later (rs ++ us)
    → ((b : BoxTree) → BoxIsLevelled b → SpellsBox b rs [] → ⊥) → ⊥
first_unread [] rs us ends lev h none = none_left rs us ends h
first_unread (b ∷ bs) rs us ends lev h none = let a = box_apart b rs us h.0 ends h.1 in none b lev.0 a.1

whole_unread : (bs : List BoxTree) (ts rs us : List Symbol) (all : List Token) → AreSoFar bs ts → EndsOnce rs → reduced all ≡ ts ++ (rs ++ us)
    → ((b : BoxTree) → BoxIsLevelled b → SpellsBox b rs [] → ⊥) → (boxes : List BoxTree) → Reads boxes all → ⊥
whole_unread bs ts rs us all f ends e none boxes r =
    let l = f.apart boxes (rs ++ us) r.levelled (subst (SpellsBoxes boxes) e r.spelled) in
    first_unread l.later rs us ends l.levelled l.spelled none

whole_refused : (bs : List BoxTree) (ts rs us : List Symbol) (all : List Token) (kind : TextFaultKind) (span : Span) → AreSoFar bs ts → EndsOnce rs
    → reduced all ≡ ts ++ (rs ++ us) → RefusesBox kind span rs → RefusesTokens kind span all
whole_refused bs ts rs us all fault.OutOfMemory span f ends e h = h
whole_refused bs ts rs us all fault.Unexpected span f ends e h = whole_unread bs ts rs us all f ends e h
whole_refused bs ts rs us all fault.NotInProfile span f ends e h = whole_unread bs ts rs us all f ends e h
whole_refused bs ts rs us all fault.TooDeep span f ends e h = λ boxes r.
    let l = f.apart boxes (rs ++ us) r.reads.levelled (subst (SpellsBoxes boxes) e r.reads.spelled) in
    first_refused boxes l.later rs us ends l.levelled l.spelled l.low r.low h
whole_refused bs ts rs us all _ span f ends e h = absurd h

-- ---- a turn

-- the source is cut up to the next border, by these tokens more
abbrev pub Steps : List ℕ → Border → Border → List Token → Type 0
Steps source border next more = (ts : List Token) → IsCutUpTo source border ts → IsCutUpTo source next (ts ++ more)

pub unmoved : (source : List ℕ) (border next : Border) (boxes : List ZBox) (more : List Token) → ReadsUpTo source border boxes → Steps source border next more → more ≡ [] → ReadsUpTo source next boxes
unmoved source border next boxes more r step none = (r.0, subst (IsCutUpTo source next) (ap (λ us. r.0 ++ us) none ∙ append-nil r.0) (step r.0 r.1), r.2)

-- some tokens are those of a box
a_box : (more : List Token) → IsBoxAtMost more → (more ≡ [] → ⊥) → tokens.IsBox more
a_box more (inl none) some = absurd (some none)
a_box more (inr b) some = b

pub added : (source : List ℕ) (border next : Border) (boxes : List ZBox) (more : List Token) → ReadsUpTo source border boxes → Steps source border next more → IsBoxAtMost more → (more ≡ [] → ⊥)
    → (b : ZBox) → ReadsBox (box_of b) (reduced more) → (all : List ZBox) → all ≡ boxes ++ b ∷ [] → ReadsUpTo source next all
added source border next boxes more r step one some b read all pushed =
    let m = a_box more one some in
    let so_far = one_more (map box_of boxes) (box_of b) (reduced r.0) (reduced more) r.2 (ends_reduced true more m.ends) read in
    let same : map box_of boxes ++ box_of b ∷ [] ≡ map box_of all = sym (ap (map box_of) pushed ∙ map-append box_of boxes (b ∷ [])) in
    (r.0 ++ more, step r.0 r.1, subst (λ bs. AreSoFar bs (reduced (r.0 ++ more))) same (subst (AreSoFar (map box_of boxes ++ box_of b ∷ [])) (sym (apart_reduced r.0 more (inr m.begins))) so_far))

pub refused_there : (source : List ℕ) (border next : Border) (boxes : List ZBox) (more : List Token) → ReadsUpTo source border boxes
    → Steps source border next more → IsBoxAtMost more → (more ≡ [] → ⊥)
    → (kind : TextFaultKind) (span : Span) → RefusesBox kind span (reduced more) → ((ts : List Token) → IsCutUpTo source next ts → IsCutOn source ts)
    → IsWantOfMemory (record { kind = kind; span = span }) ⊎ RefusesSource source (record { kind = kind; span = span })
refused_there source border next boxes more r step one some kind span h rest =
    let m = a_box more one some in
    let cut = rest (r.0 ++ more) (step r.0 r.1) in
    let whole : reduced ((r.0 ++ more) ++ cut.0) ≡ reduced r.0 ++ (reduced more ++ reduced cut.0) =
    apart_reduced (r.0 ++ more) cut.0 cut.1 ∙ ap (λ ss. ss ++ reduced cut.0) (apart_reduced r.0 more (inr m.begins)) ∙ append_assoc (reduced r.0) (reduced more) (reduced cut.0) in
    refuses_source kind span source ((r.0 ++ more) ++ cut.0) cut.2 (whole_refused (map box_of boxes) (reduced r.0) (reduced more) (reduced cut.0)
    ((r.0 ++ more) ++ cut.0) kind span r.2 (ends_reduced true more m.ends) whole h)

pub none_there : (ps : List Placed) → (length ps == 0) ≡ true → ps ≡ []
none_there [] e = refl
none_there (p ∷ ps) e = absurd (omega (arith, eq_is (length (p ∷ ps)) 0 e))

pub some_there : (ps : List Placed) → (length ps == 0) ≡ false → ps ≡ [] → ⊥
some_there [] e none = cc
some_there (p ∷ ps) e none = cc

pub no_tokens : (text : List ℕ) (ps : List Placed) → ps ≡ [] → map (token_at text) ps ≡ []
no_tokens text ps e = ap (map (token_at text)) e

pub some_tokens : (text : List ℕ) (ps : List Placed) → (ps ≡ [] → ⊥) → map (token_at text) ps ≡ [] → ⊥
some_tokens text [] some e = some refl
some_tokens text (p ∷ ps) some e = cc

-- ---- the ends

pub begun : (source : List ℕ) (border : Border) → IsCutUpTo source border [] → ReadsUpTo source border []
begun source border up = ([], up, none_yet)

pub read_whole : (source : List ℕ) (border : Border) (boxes : List ZBox) → ReadsUpTo source border boxes → length source ≤ border.start → ReadsSource (map box_of boxes) source
read_whole source border boxes r over =
    let f = r.2 in (
      r.0,
      cut_whole source border r.0 r.1 over,
      record {
        reads = record { levelled = f.levelled; spelled = all_of (map box_of boxes) (reduced r.0) (subst (λ ts. SpellsUpTo (map box_of boxes) ts []) (append-nil (reduced r.0)) (f.spelled [])) };
        low = f.low;
      },
    )
