-- Runs: the longest at the front of a text, and what stands after it.
use Rattle.zf_scan.proofs.Prelude.{◌++◌, ◌+◌, ◌∙◌, ◌∷◌, ◌≡◌, ◌≤◌, [], ap, arith, Bool, drop, false, length, List, refl, suc, sym, take, true, zero-add, ℕ, one-add, drop-drop, ◌&&◌, is_one, is_run, is_two, run_len, step_len, Run}

pub and_left : (a b : Bool) → (a && b) ≡ true → a ≡ true
and_left true b e = refl
and_left false b e = e

pub and_right : (a b : Bool) → (a && b) ≡ true → b ≡ true
and_right true b e = e
and_right false b e = absurd (cc)

two-add : (n : ℕ) → 2 + n ≡ suc (suc n)
two-add n = omega arith

-- a run that begins with a single byte
pub is_run-one : (run : Run) (b : ℕ) (x : List ℕ) → is_one run b ≡ true → is_run run (b ∷ x) ≡ is_run run x
is_run-one run b [] e = e
is_run-one run b (c ∷ x) e = rw e

pub run_len-one : (run : Run) (b : ℕ) (x : List ℕ) → is_one run b ≡ true → run_len run (b ∷ x) ≡ 1 + run_len run x
run_len-one run b [] e = rw e
run_len-one run b (c ∷ x) e = rw e

step_len-one : (run : Run) (b : ℕ) (x : List ℕ) → is_one run b ≡ true → step_len run (b ∷ x) ≡ 1
step_len-one run b [] e = rw e
step_len-one run b (c ∷ x) e = rw e

-- where a run stops at once, or goes on by a byte or two, so at each text
pub by_steps : (run : Run) (P : List ℕ → Type 0) → P [] → ((b : ℕ) → is_one run b ≡ false → P (b ∷ []))
    → ((b : ℕ) (x : List ℕ) → is_one run b ≡ true → P x → P (b ∷ x))
    → ((b c : ℕ) (x : List ℕ) → is_one run b ≡ false → is_two run b c ≡ true → P x → P (b ∷ c ∷ x))
    → ((b c : ℕ) (x : List ℕ) → is_one run b ≡ false → is_two run b c ≡ false → P (b ∷ c ∷ x)) → (s : List ℕ) → P s
by_steps run P none last one two stop [] = none
by_steps run P none last one two stop (b ∷ []) = by (is_one run b) refl
  where
    by : (t : Bool) → is_one run b ≡ t → P (b ∷ [])
    by true e = one b [] e none
    by false e = last b e
by_steps run P none last one two stop (b ∷ c ∷ bs) =
    by (is_one run b) (is_two run b c) refl refl (by_steps run P none last one two stop (c ∷ bs)) (by_steps run P none last one two stop bs)
  where
    by : (t u : Bool) → is_one run b ≡ t → is_two run b c ≡ u → P (c ∷ bs) → P bs → P (b ∷ c ∷ bs)
    by true u e f p q = one b (c ∷ bs) e p
    by false true e f p q = two b c bs e f q
    by false false e f p q = stop b c bs e f

-- one step, and then the rest
pub run_turn : (run : Run) (s : List ℕ) → run_len run s ≡ step_len run s + run_len run (drop (step_len run s) s)
run_turn run s = by_steps run (λ s. run_len run s ≡ step_len run s + run_len run (drop (step_len run s) s)) refl (λ b e. rw (e, e))
    (λ b x e _. run_len-one run b x e ∙ ap (λ n. n + run_len run (drop n (b ∷ x))) (sym (step_len-one run b x e))) (λ b c x e f _. rw (e, f))
    (λ b c x e f. rw (e, f, e, f)) s

pub run_stop : (run : Run) (s : List ℕ) → step_len run s ≡ 0 → run_len run s ≡ 0
run_stop run s = by_steps run (λ s. step_len run s ≡ 0 → run_len run s ≡ 0) (λ _. refl) (λ b e h. rw e)
    (λ b x e _ h. absurd (omega (arith, h, step_len-one run b x e))) (λ b c x e f _. rw (e, f) (λ h. absurd (omega (arith, h)))) (λ b c x e f h. rw (e, f)) s

-- one turn of the loop, and its end
pub run_more : (run : Run) (s : List ℕ) (n : ℕ) → n + run_len run (drop n s) ≡ run_len run s → (k : ℕ) → k ≡ step_len run (drop n s) → n + k + run_len run (drop (n + k) s) ≡ run_len run s
run_more run s n h k e =
    let t = run_turn run (drop n s) in
    let d : drop k (drop n s) ≡ drop (n + k) s = drop-drop k n s in
    let u : run_len run (drop n s) ≡ k + run_len run (drop (n + k) s) = t ∙ ap (λ j. j + run_len run (drop j (drop n s))) (sym e) ∙ ap (λ x. k + run_len run x) d in
    omega arith

pub run_done : (run : Run) (s : List ℕ) (n : ℕ) → n + run_len run (drop n s) ≡ run_len run s → (k : ℕ) → k ≡ step_len run (drop n s) → k ≡ 0 → n ≡ run_len run s
run_done run s n h k e z = let t = run_stop run (drop n s) (sym e ∙ z) in omega arith

-- after a run, the longest goes on
pub run_append : (run : Run) (u x : List ℕ) → is_run run u ≡ true → run_len run (u ++ x) ≡ length u + run_len run x
run_append run u x = by_steps run (λ u. is_run run u ≡ true → run_len run (u ++ x) ≡ length u + run_len run x) (λ _. sym (zero-add (run_len run x)))
    (λ b e h. absurd (cc (e, h))) (λ b u e more h. run_len-one run b (u ++ x) e ∙ omega (arith, more (sym (is_run-one run b u e) ∙ h)))
    (λ b c u e f more. rw (e, f) (λ h. omega (arith, more h))) (λ b c u e f. rw (e, f) (λ h. absurd (cc h))) u

pub run_le : (run : Run) (u x : List ℕ) → is_run run u ≡ true → length u ≤ run_len run (u ++ x)
run_le run u x h = omega (arith, run_append run u x h)

pub run_exact : (run : Run) (u x : List ℕ) → is_run run u ≡ true → run_len run x ≡ 0 → run_len run (u ++ x) ≡ length u
run_exact run u x h stop = omega (arith, run_append run u x h)

pub run_all : (run : Run) (s : List ℕ) → is_run run (take (run_len run s) s) ≡ true
run_all run s = by_steps run (λ s. is_run run (take (run_len run s) s) ≡ true) refl (λ b e. rw e refl)
    (λ b x e more. ap (λ n. is_run run (take n (b ∷ x))) (run_len-one run b x e ∙ one-add (run_len run x)) ∙ is_run-one run b (take (run_len run x) x) e ∙ more)
    (λ b c x e f more. rw (e, f, two-add) (rw (e, f) more)) (λ b c x e f. rw (e, f) refl) s

pub run_within : (run : Run) (s : List ℕ) → run_len run s ≤ length s
run_within run s =
    by_steps run (λ s. run_len run s ≤ length s) (omega arith) (λ b e. rw e (omega arith)) (λ b x e more. omega (arith, run_len-one run b x e, more))
    (λ b c x e f more. rw (e, f) (omega (arith, more))) (λ b c x e f. rw (e, f) (omega arith)) s
