-- What follows a part that was read, of a tuple or of a set.
use Rattle.zf_read.proofs.Prelude.{Lines, ◌++◌, ◌+◌, ◌∙◌, ◌∷◌, ◌≡◌, [], ap, arith, codes, length, Less, List, map, refl, subst, suc, sym, ℕ, append_assoc, length-append, IsAscending, value_order, SET_MAX, Value, no_types, Ty, type, Tys, Environment, IsOfType, AreMembers, Closes, EndsAs, goes_on, AreNoMembers, AreNoParts, IsNoItem, IsNoNext, IsNoValue, later_parts, comma_before, value_text, Spelling, AllByRecursion, ends_as, ends_later, one_front, goes_on-nil, front, goes_on-later, cancel}

-- ---- the parts of a tuple

module _ (ss : List Spelling) (e : Environment) where
  abbrev text : Value → List ℕ
  text v = value_text ss v

  ends_part : (t : Ty) (ts : List (List ℕ)) (rest : List ℕ) → Closes rest → EndsAs t (later_parts ts ++ rest)
  ends_part t ts rest closes = ends_as t _ (ends_later ts rest closes)

  -- the bytes, where such parts stand there
  parts_split : (n : ℕ) (vs : List Value) (w : Value) (ws : List Value) (bytes c : List ℕ) → vs ≡ w ∷ ws → bytes ≡ goes_on n (map text vs) ++ c
      → bytes ≡ comma_before n ++ (text w ++ (later_parts (map text ws) ++ c))
  parts_split n vs w ws bytes c is q = q ∙ ap (λ l. goes_on n (map text l) ++ c) is ∙ front n (text w) (map text ws) c

  pub parts_unseparated : (t : Ty) (ts : Tys) (n : ℕ) (bytes : List ℕ) → IsNoItem (comma_before n) bytes → AreNoParts ss e (type t ts) n bytes
  unfolding IsNoItem AreNoParts
  parts_unseparated t ts n bytes none clear vs rest (w, ws, is, h, hs) q = none _ (parts_split n vs w ws bytes (codes ")" ++ rest) is q)

  pub parts_unread : (t : Ty) (ts : Tys) (n : ℕ) (bytes mid : List ℕ) → bytes ≡ comma_before n ++ mid → IsNoValue ss e t mid → AreNoParts ss e (type t ts) n bytes
  unfolding IsNoValue AreNoParts
  parts_unread t ts n bytes mid m none clear vs rest (w, ws, is, h, hs) q =
      none clear w _ h (ends_part t (map text ws) (codes ")" ++ rest) (refl, refl))
      (cancel (comma_before n) mid _ (sym m ∙ parts_split n vs w ws bytes (codes ")" ++ rest) is q))

  pub parts_next : (t : Ty) (ts : Tys) (n m : ℕ) (bytes mid more : List ℕ) (v : Value) → m ≡ suc n → bytes ≡ comma_before n ++ mid → mid ≡ text v ++ more
      → IsOfType e t v → EndsAs t more → AreNoParts ss e ts m more → AreNoParts ss e (type t ts) n bytes
  unfolding AreNoParts
  parts_next t ts n m bytes mid more v next b x k ends none clear vs rest (w, ws, is, h, hs) q =
      let here = cancel (comma_before n) mid _ (sym b ∙ parts_split n vs w ws bytes (codes ")" ++ rest) is q) in
      let one = one_front Lines ss e clear t v w more _ k h ends (ends_part t (map text ws) (codes ")" ++ rest) (refl, refl)) (sym x ∙ here) in
      none clear ws rest hs (one.1 ∙ ap (λ l. l ++ (codes ")" ++ rest)) (sym (goes_on-later n m (map text ws) next)))

  pub parts_unclosed : (n : ℕ) (bytes : List ℕ) → IsNoItem (codes ")") bytes → AreNoParts ss e no_types n bytes
  unfolding IsNoItem AreNoParts
  parts_unclosed n bytes none clear vs rest h q = none rest (q ∙ ap (λ l. goes_on n (map text l) ++ (codes ")" ++ rest)) h ∙ ap (λ l. l ++ (codes ")" ++ rest)) (goes_on-nil n))

  -- ---- the members of a set

  none_closed : (n : ℕ) (ws : List Value) (bytes rest : List ℕ) → ws ≡ [] → bytes ≡ goes_on n (map text ws) ++ (codes "}" ++ rest) → bytes ≡ codes "}" ++ rest
  none_closed n ws bytes rest is q = q ∙ ap (λ l. goes_on n (map text l) ++ (codes "}" ++ rest)) is ∙ ap (λ l. l ++ (codes "}" ++ rest)) (goes_on-nil n)

  pub members_unseparated : (t : Ty) (vs : List Value) (bytes : List ℕ) → IsNoItem (codes "}") bytes → IsNoItem (comma_before (length vs)) bytes → AreNoMembers ss e t vs bytes
  unfolding IsNoItem AreNoMembers
  members_unseparated t vs bytes ahead none clear [] rest h q = ahead rest (none_closed (length vs) [] bytes rest refl q)
  members_unseparated t vs bytes ahead none clear (w ∷ ws) rest h q = none _ (parts_split (length vs) (w ∷ ws) w ws bytes (codes "}" ++ rest) refl q)

  pub members_full : (t : Ty) (vs : List Value) (bytes : List ℕ) → length vs ≡ SET_MAX → IsNoItem (codes "}") bytes → AreNoMembers ss e t vs bytes
  unfolding IsNoItem AreNoMembers
  members_full t vs bytes full ahead clear [] rest h q = ahead rest (none_closed (length vs) [] bytes rest refl q)
  members_full t vs bytes full ahead clear (w ∷ ws) rest h q =
      let few = h.few in
      let long : length (vs ++ w ∷ ws) ≡ length vs + length (w ∷ ws) = length-append vs (w ∷ ws) in
      absurd (omega arith)

  ordered_front : (vs ws : List Value) (v : Value) → AllByRecursion (λ y. value_order v y ≡ Less) (vs ++ ws) → AllByRecursion (λ y. value_order v y ≡ Less) vs
  ordered_front [] ws v h = tt
  ordered_front (x ∷ vs) ws v h = (h.0, ordered_front vs ws v h.1)

  pub ascending_front : (vs ws : List Value) → IsAscending (vs ++ ws) → IsAscending vs
  ascending_front [] ws h = tt
  ascending_front (v ∷ vs) ws h = (ordered_front vs ws v h.0, ascending_front vs ws h.1)

  every_behind : (t : Ty) (vs ws : List Value) → AllByRecursion (λ z. IsOfType e t z) (vs ++ ws) → AllByRecursion (λ z. IsOfType e t z) ws
  every_behind t [] ws h = h
  every_behind t (v ∷ vs) ws h = every_behind t vs ws h.1

  pushed : (vs ws : List Value) (w : Value) → vs ++ w ∷ ws ≡ (vs ++ w ∷ []) ++ ws
  pushed vs ws w = sym (append_assoc vs (w ∷ []) ws)

  pub members_unread : (t : Ty) (vs : List Value) (bytes mid : List ℕ) → IsNoItem (codes "}") bytes → bytes ≡ comma_before (length vs) ++ mid → IsNoNext ss e t vs mid → AreNoMembers ss e t vs bytes
  unfolding IsNoItem IsNoNext AreNoMembers
  members_unread t vs bytes mid ahead m none clear [] rest h q = ahead rest (none_closed (length vs) [] bytes rest refl q)
  members_unread t vs bytes mid ahead m none clear (w ∷ ws) rest h q =
      let here = cancel (comma_before (length vs)) mid _ (sym m ∙ parts_split (length vs) (w ∷ ws) w ws bytes (codes "}" ++ rest) refl q) in
      let up = ascending_front (vs ++ w ∷ []) ws (subst IsAscending (pushed vs ws w) h.ascending) in
      none clear w _ (every_behind t vs (w ∷ ws) h.values).0 up (ends_part t (map text ws) (codes "}" ++ rest) (refl, refl)) here

  pub members_next : (t : Ty) (vs : List Value) (bytes mid more : List ℕ) (v : Value) → IsNoItem (codes "}") bytes → bytes ≡ comma_before (length vs) ++ mid
      → mid ≡ text v ++ more → IsOfType e t v → EndsAs t more → AreNoMembers ss e t (vs ++ v ∷ []) more → AreNoMembers ss e t vs bytes
  unfolding IsNoItem AreNoMembers
  members_next t vs bytes mid more v ahead b x k ends none clear [] rest h q = ahead rest (none_closed (length vs) [] bytes rest refl q)
  members_next t vs bytes mid more v ahead b x k ends none clear (w ∷ ws) rest h q =
      let here = cancel (comma_before (length vs)) mid _ (sym b ∙ parts_split (length vs) (w ∷ ws) w ws bytes (codes "}" ++ rest) refl q) in
      let one = one_front Lines ss e clear t v w more _ k (every_behind t vs (w ∷ ws) h.values).0 ends
      (ends_part t (map text ws) (codes "}" ++ rest) (refl, refl)) (sym x ∙ here) in
      let whole : vs ++ w ∷ ws ≡ (vs ++ v ∷ []) ++ ws = pushed vs ws w ∙ ap (λ y. (vs ++ y ∷ []) ++ ws) (sym one.0) in
      let long : length (vs ++ v ∷ []) ≡ length vs + length (v ∷ []) = length-append vs (v ∷ []) in
      none clear ws rest (subst (AreMembers e t) whole h) (one.1 ∙ ap (λ l. l ++ (codes "}" ++ rest)) (sym (goes_on-later (length vs) (length (vs ++ v ∷ [])) (map text ws) (omega arith))))

  -- a value that is read but is not above the members is none next one, and nothing else is
  pub not_next : (t : Ty) (vs : List Value) (bytes more : List ℕ) (v : Value) → bytes ≡ text v ++ more → IsOfType e t v → EndsAs t more → (IsAscending (vs ++ v ∷ []) → ⊥) → IsNoNext ss e t vs bytes
  unfolding IsNoNext
  not_next t vs bytes more v x k ends none clear w rest h up end q =
      let one = one_front Lines ss e clear t v w more rest k h ends end (sym x ∙ q) in
      none (subst (λ y. IsAscending (vs ++ y ∷ [])) (sym one.0) up)

  pub no_value_no_next : (t : Ty) (vs : List Value) (bytes : List ℕ) → IsNoValue ss e t bytes → IsNoNext ss e t vs bytes
  unfolding IsNoValue IsNoNext
  no_value_no_next t vs bytes none clear w rest h up end q = none clear w rest h end q
