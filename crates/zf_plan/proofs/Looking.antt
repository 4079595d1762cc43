-- A leaf is looked at: what is known of it, and what is once it was asked for.
use Rattle.zf_plan.proofs.Prelude.{◌+◌, ◌<◌, Bool, ◌∙◌, ◌≡◌, ◌≤◌, ap, arith, get_or, get_or-replicate, get_or_default, inl, inr, length, length-replicate, List, map, None, Option, refl, replicate, set, slice_get, slice_get-get_or, slice_get_within, Some, subst, sym, take, ℕ, cases_eq, get_or-set_other, get_or-set_same, length-map, length-set, Conjuncts, KeepTruths, AreDueWithin, AreWithin, picked, IsKnown, leaf, Remembers, Tells, True, Truth, ext_get_or, AreTrue, Table, Stamped, AreDues, AreStamped, AreUnknown, IsNew, known_by, Memory, memory_of}
use Rattle.zf_plan.proofs.Knowing.{known-later, known-told, settled-leaf}
use Rattle.zf_plan.proofs.Stamping.{asked-dues, asked-stamped, asked-truths, due-at, known-at, known-not, known-now, stamped-at}

-- what holds of a leaf that is looked at
pub record IsLookedAt {V : Type 0} (l : Conjuncts V) (uses : ℕ → ℕ → Bool) (ranges : List (List V)) (places stamps : List ℕ) (leaves : List Stamped)
    (tables : List (Option Table)) (tests of : ℕ) (s : Stamped) : Type 0 where
  pub keep : KeepTruths l
  pub within : AreWithin ranges places
  pub stamped : AreStamped stamps leaves
  pub remembers : Remembers l uses ranges places (memory_of stamps leaves tables tests)
  pub inside : of < l.number
  pub is : s ≡ get_or leaves of s

pub looked-at : {V : Type 0} {l : Conjuncts V} {uses : ℕ → ℕ → Bool} {ranges : List (List V)} {places stamps : List ℕ} {leaves : List Stamped} {tables : List (Option Table)}
    {tests : ℕ} {now : Memory} {of : ℕ} {s : Stamped} → AreStamped stamps leaves → now ≡ memory_of stamps leaves tables tests → Remembers l uses ranges places now
    → KeepTruths l → AreWithin ranges places → of < l.number → s ≡ get_or leaves of s → IsLookedAt l uses ranges places stamps leaves tables tests of s
looked-at {V} {l} {uses} {ranges} {places} stamped view remembers keep within m is = record {
  keep = keep;
  within = within;
  stamped = stamped;
  remembers = subst (Remembers l uses ranges places) view remembers;
  inside = m;
  is = is;
}

module _ {V : Type 0} {l : Conjuncts V} {uses : ℕ → ℕ → Bool} {ranges : List (List V)} {places stamps : List ℕ} {leaves : List Stamped} {tables : List (Option Table)} {tests of : ℕ} {s : Stamped}
    (at : IsLookedAt l uses ranges places stamps leaves tables tests of s) where
  near : of < length leaves
  near = let t = (at.remembers).tells in omega (arith, at.inside, t.all, length-map leaves (known_by stamps))

  pub due-is : s.due ≡ l.due of
  due-is = sym (due-at leaves of s near at.is) ∙ (at.remembers).dues of at.inside

  pub stamp-there : s.due < length stamps
  stamp-there = (stamped-at stamps leaves at.stamped of s near at.is).0

  -- its stamp is read
  pub stamp-read : (stamp : ℕ) → stamp ≡ get_or stamps s.due stamp → stamp ≡ get_or stamps s.due 0
  stamp-read stamp e = e ∙ get_or_default stamps s.due stamp 0 stamp-there

  -- it needs more values
  pub looks-later : length places < s.due → IsKnown l (leaf of) (picked ranges places) None
  looks-later h = known-later l at.keep ranges places at.within of (omega (arith, h, due-is))

  module _ (enough : s.due ≤ length places) where
    there : s.stamp ≡ get_or stamps s.due 0 → get_or (map (known_by stamps) leaves) of None ≡ Some s.truth
    there e = known-at stamps leaves of s near at.is ∙ known-now stamps s e

    -- it is known
    pub looks-known : s.stamp ≡ get_or stamps s.due 0 → IsKnown l (leaf of) (picked ranges places) (Some s.truth)
    looks-known e = known-told l at.keep ranges places at.within (map (known_by stamps) leaves) of s.truth (at.remembers).tells at.inside (omega (arith, enough, due-is)) (there e)

    -- it is asked for
    module _ (t : Truth) (says : l.says of (picked ranges (take s.due places)) t) (stamp : ℕ) (now : stamp ≡ get_or stamps s.due 0) where
      abbrev pub found : Stamped
      found = record { due = s.due; stamp = stamp; truth = t }

      pub so : l.says of (picked ranges (take (l.due of) places)) t
      so = subst (λ d. l.says of (picked ranges (take d places)) t) due-is says

      pub asks-settled : IsKnown l (leaf of) (picked ranges places) (Some t)
      asks-settled = settled-leaf l at.keep ranges places at.within of t at.inside (omega (arith, enough, due-is)) so

      pub asks-stamped : AreStamped stamps (set leaves of found)
      asks-stamped = asked-stamped stamps leaves at.stamped of found near now stamp-there

      truths-are : map (known_by stamps) (set leaves of found) ≡ set (map (known_by stamps) leaves) of (Some t)
      truths-are = asked-truths stamps leaves at.stamped of found near now

      tells-on : Tells l ranges places (set (map (known_by stamps) leaves) of (Some t))
      tells-on = record {
        all = let k = (at.remembers).tells in length-set (map (known_by stamps) leaves) of (Some t) ∙ k.all;
        right = λ c u n d e. elim (cases_eq c of) [
          | inl same ↦ let u-is : Some t ≡ Some u = sym (get_or-set_same (map (known_by stamps) leaves) of (Some t) None
              (let k = (at.remembers).tells in omega (arith, at.inside, k.all))) ∙ sym (ap (λ i. get_or (set (map (known_by stamps) leaves) of (Some t)) i None) same) ∙ e in
              let here : t ≡ u = cc in
              subst (λ i. l.says i (picked ranges (take (l.due i) places)) u) (sym same) (subst (l.says of (picked ranges (take (l.due of) places))) here so)
          | inr other ↦ let k = (at.remembers).tells in k.right c u n d (sym (get_or-set_other (map (known_by stamps) leaves) of c (Some t) None other) ∙ e)
        ];
      }

      pub asks-remembers : (new : List (Option Table)) (count : ℕ) → AreTrue l uses ranges new → Remembers l uses ranges places (memory_of stamps (set leaves of found) new count)
      asks-remembers new count true = record {
        dues = subst (AreDues l) (sym (asked-dues stamps leaves at.stamped of found near now s at.is refl)) (at.remembers).dues;
        tells = subst (Tells l ranges places) (sym truths-are) tells-on;
        tables = true;
      }

module _ {V : Type 0} (l : Conjuncts V) (stamps : List ℕ) (leaves : List Stamped) (u : AreUnknown l l.number leaves) (n : ℕ) (ones : stamps ≡ replicate (n + 1) 1) (d : AreDueWithin l n) where
  long : length stamps ≡ n + 1
  long = ap length ones ∙ length-replicate {A = ℕ} (n + 1) 1

  some : (k : ℕ) → k < length stamps → 0 < get_or stamps k 0
  some k h = omega (arith, ap (λ xs. get_or xs k 0) ones, get_or-replicate {A = ℕ} (n + 1) k 1 0 (omega (arith, h, long)))

  within : (c : ℕ) → c < l.number → l.due c < length stamps
  within c m = omega (arith, d c m, long)

  inside : (c : ℕ) (s : Stamped) → slice_get leaves c ≡ Some s → c < l.number
  inside c s e = omega (arith, slice_get_within leaves c s e, u.all)

  -- no leaf has a stamp that is given
  pub unknown-stamped : AreStamped stamps leaves
  unknown-stamped = record {
    some = some;
    each = λ c s e. let h = u.each c s e in (omega (arith, h.0, within c (inside c s e)), omega (arith, h.1));
  }

  any : Stamped
  any = record { due = 0; stamp = 0; truth = True }

  at : (c : ℕ) → c < length leaves → ((get_or leaves c any).due ≡ l.due c) × ((get_or leaves c any).stamp ≡ 0)
  at c near = u.each c (get_or leaves c any) (slice_get-get_or leaves c any near)

  none-known : map (known_by stamps) leaves ≡ replicate l.number None
  none-known = ext_get_or None _ _ (length-map leaves (known_by stamps) ∙ u.all ∙ sym (length-replicate l.number None))
      (λ c low. let near : c < length leaves = omega (arith, low, length-map leaves (known_by stamps)) in
      let s = get_or leaves c any in
      let h = at c near in
      known-at stamps leaves c s near (get_or_default leaves c any s near)
      ∙ known-not stamps s (λ same. absurd (omega (arith, same, h.1, h.0, some s.due (omega (arith, h.0, within c (omega (arith, near, u.all)))))))
      ∙ sym (get_or-replicate l.number c None None (omega (arith, near, u.all))))

  pub unknown-new : (uses : ℕ → ℕ → Bool) (ranges : List (List V)) (tables : List (Option Table)) → AreTrue l uses ranges tables → IsNew l uses ranges (memory_of stamps leaves tables 0)
  unknown-new uses ranges tables true = record {
    dues = λ c m. let near : c < length leaves = omega (arith, m, u.all) in let h = at c near in
        due-at leaves c (get_or leaves c any) near (get_or_default leaves c any (get_or leaves c any) near) ∙ h.0;
    none = none-known;
    tables = true;
    tests = refl;
  }
