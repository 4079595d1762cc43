-- One turn more of what reads the components of a line, the parts of a tuple, the members of a set.
use Rattle.zf_read.proofs.Prelude.{◌++◌, ◌+◌, ◌<◌, ◌∙◌, ◌∷◌, ◌≡◌, ◌≤◌, [], ap, arith, codes, drop, get_or, length, List, map, subst, sym, ℕ, append_assoc, drop_more, length-append, length-drop, IsAscending, SET_MAX, Value, comp_of, no_types, Ty, type, type_of, types, Tys, Component, Environment, IsLineOf, IsNoLine, AreMembersAt, ArePartsAt, IsComponentAt, IsItem, IsNext, IsValueAt, AreNoMembers, AreNoParts, IsNoComponent, IsNoItem, IsNoNext, IsNoRest, IsNoValue, parted, comma_before, value_text, Spelling, comps-drop, drop-end}
use Rattle.zf_term.specs.declared.ztype.ZType.{ZType}
use Rattle.zf_read.proofs.HeldSoFar.{comps-end}
use Rattle.zf_read.proofs.Reading.{parts_unseparated, parts_unread, parts_unclosed, members_unseparated, members_unread, members_full}
use Rattle.zf_read.proofs.SoFar.{RowSoFar, row_unseparated, row_unread, row_behind, row_more, row_all, PartsSoFar, parts_more, parts_all, MembersSoFar, members_more, members_all}

types-drop : (ts : List ZType) (i : ℕ) (t : ZType) → t ≡ get_or ts i t → i < length ts → types (map type_of (drop i ts)) ≡ type (type_of t) (types (map type_of (drop (i + 1) ts)))
types-drop ts i t at l = ap (λ l. types (map type_of l)) (drop_more ts i t l ∙ ap (λ y. y ∷ drop (i + 1) ts) (sym at))

types-end : (ts : List ZType) (i : ℕ) → length ts ≤ i → types (map type_of (drop i ts)) ≡ no_types
types-end ts i l = ap (λ l. types (map type_of l)) (drop-end i ts l)

closed : (bytes : List ℕ) (place at end : ℕ) (parts item : List ℕ) → drop place bytes ≡ parts ++ drop at bytes → IsItem bytes at item end → IsItem bytes place (parts ++ item) end
closed bytes place at end parts item h k = record {
  stands = h ∙ ap (λ l. parts ++ l) k.stands ∙ sym (append_assoc parts item (drop end bytes));
  within = k.within;
}

pub pushed : {new : List Value} {n : ℕ} (vs : List Value) (v : Value) → length vs ≡ n → new ≡ vs ++ v ∷ [] → length new ≡ n + 1
pushed vs v counted is =
    let long = length-append vs (v ∷ []) in
    ap length is ∙ omega (arith, long, counted)

unseparated_types : (ss : List Spelling) (e : Environment) (ts : List ZType) (n : ℕ) (bytes : List ℕ) → 0 < length ts → IsNoItem (comma_before n) bytes
    → AreNoParts ss e (types (map type_of ts)) n bytes
unseparated_types ss e [] n bytes l none = absurd (omega arith)
unseparated_types ss e (t ∷ ts) n bytes l none = parts_unseparated ss e (type_of t) (types (map type_of ts)) n bytes none

unseparated_comps : (ss : List Spelling) (e : Environment) (cs : List Component) (n : ℕ) (bytes : List ℕ) → 0 < length cs → IsNoItem (comma_before n) bytes
    → IsNoRest ss e (map comp_of cs) n bytes
unseparated_comps ss e [] n bytes l none = absurd (omega arith)
unseparated_comps ss e (c ∷ cs) n bytes l none = row_unseparated ss e (comp_of c) (map comp_of cs) n bytes none

module _ {ss : List Spelling} {e : Environment} where
  -- ---- the parts of a tuple

  pub no_separator : {all : Tys} {i : ℕ} {bytes here : List ℕ} {vs : List Value} (ts : List ZType) → i < length ts
      → PartsSoFar ss e all (types (map type_of (drop i ts))) bytes i vs here → IsNoItem (comma_before i) here → AreNoParts ss e all 0 bytes
  no_separator {i = i} {here = here} ts l r none = let long = length-drop i ts in r.none (unseparated_types ss e (drop i ts) i here (omega (arith, long)) none)

  pub no_part : {all : Tys} {i : ℕ} {t : ZType} {bytes here : List ℕ} {vs : List Value} (ts : List ZType) (mid : List ℕ) → t ≡ get_or ts i t → i < length ts
      → PartsSoFar ss e all (types (map type_of (drop i ts))) bytes i vs here → here ≡ comma_before i ++ mid → IsNoValue ss e (type_of t) mid
      → AreNoParts ss e all 0 bytes
  no_part {i = i} {t = t} {here = here} ts mid at l r m none = r.none (subst (λ x. AreNoParts ss e x i here) (sym (types-drop ts i t at l))
      (parts_unread ss e (type_of t) (types (map type_of (drop (i + 1) ts))) i here mid m none))

  pub one_part : {all : Tys} {i at start end : ℕ} {t : ZType} {text : List ℕ} {vs new : List Value} {v : Value} (ts : List ZType) (place : ℕ)
      → t ≡ get_or ts i t → i < length ts → PartsSoFar ss e all (types (map type_of (drop i ts))) (drop place text) i vs (drop at text)
      → IsItem text at (comma_before i) start → IsValueAt ss e (type_of t) text start v end → new ≡ vs ++ v ∷ []
      → PartsSoFar ss e all (types (map type_of (drop (i + 1) ts))) (drop place text) (i + 1) new (drop end text)
  one_part {all = all} {i = i} {at = at} {start = start} {end = end} {t = t} {text = text} {vs = vs} {v = v} ts place got l r m k pushed =
      subst (λ x. PartsSoFar ss e all (types (map type_of (drop (i + 1) ts))) (drop place text) (i + 1) x (drop end text)) (sym pushed)
      (parts_more ss e all (type_of t) (types (map type_of (drop (i + 1) ts))) (drop place text) i (i + 1) vs (drop at text) (drop start text) (drop end text) v
      (subst (λ x. PartsSoFar ss e all x (drop place text) i vs (drop at text)) (types-drop ts i t got l) r) (omega arith) m.stands k.stands.stands k.value k.ends)

  pub no_end : {all : Tys} {i : ℕ} {bytes here : List ℕ} {vs : List Value} (ts : List ZType) → length ts ≤ i
      → PartsSoFar ss e all (types (map type_of (drop i ts))) bytes i vs here → IsNoItem (codes ")") here → AreNoParts ss e all 0 bytes
  no_end {i = i} {here = here} ts l r none = r.none (subst (λ x. AreNoParts ss e x i here) (sym (types-end ts i l)) (parts_unclosed ss e i here none))

  pub parts_at : {all : Tys} {i at end : ℕ} {text : List ℕ} {vs : List Value} (ts : List ZType) (place : ℕ) → length ts ≤ i
      → PartsSoFar ss e all (types (map type_of (drop i ts))) (drop place text) i vs (drop at text) → IsItem text at (codes ")") end
      → ArePartsAt ss e all text place vs end
  parts_at {all = all} {i = i} {at = at} {end = end} {text = text} {vs = vs} ts place l r k =
      let whole = parts_all ss e all (drop place text) i vs (drop at text) (subst (λ x. PartsSoFar ss e all x (drop place text) i vs (drop at text)) (types-end ts i l) r) in
      record { values = whole.0; stand = closed text place at end (parted (map (value_text ss) vs)) (codes ")") whole.1 k }

  -- ---- the members of a set

  pub no_member_separator : {t : Ty} {bytes here : List ℕ} {vs : List Value} {n : ℕ} → length vs ≡ n → MembersSoFar ss e t bytes vs here
      → IsNoItem (codes "}") here → IsNoItem (comma_before n) here → AreNoMembers ss e t [] bytes
  no_member_separator {t = t} {here = here} {vs = vs} counted r ahead none =
      r.none (members_unseparated ss e t vs here ahead (subst (λ x. IsNoItem (comma_before x) here) (sym counted) none))

  pub no_member : {t : Ty} {bytes here : List ℕ} {vs ws : List Value} {n : ℕ} (mid : List ℕ) → length vs ≡ n → ws ≡ vs → MembersSoFar ss e t bytes vs here
      → IsNoItem (codes "}") here → here ≡ comma_before n ++ mid → IsNoNext ss e t ws mid → AreNoMembers ss e t [] bytes
  no_member {t = t} {here = here} {vs = vs} mid counted same r ahead m none =
      r.none (members_unread ss e t vs here mid ahead (m ∙ ap (λ x. comma_before x ++ mid) (sym counted)) (subst (λ x. IsNoNext ss e t x mid) same none))

  pub one_member : {t : Ty} {text : List ℕ} {at start end n : ℕ} {vs ws new : List Value} {v : Value} (place : ℕ) → length vs ≡ n → n < SET_MAX → ws ≡ vs
      → MembersSoFar ss e t (drop place text) vs (drop at text) → IsNoItem (codes "}") (drop at text) → IsItem text at (comma_before n) start
      → IsNext ss e t ws text start v end → new ≡ vs ++ v ∷ []
      → MembersSoFar ss e t (drop place text) new (drop end text)
  one_member {t = t} {text = text} {at = at} {start = start} {end = end} {vs = vs} {v = v} place counted room same r ahead m k pushed =
      subst (λ x. MembersSoFar ss e t (drop place text) x (drop end text)) (sym pushed)
      (members_more ss e t (drop place text) vs (drop at text) (drop start text) (drop end text) v r ahead (subst (λ x. x < SET_MAX) (sym counted) room)
      (m.stands ∙ ap (λ x. comma_before x ++ drop start text) (sym counted)) k.value.stands.stands k.value.value k.value.ends (subst (λ x. IsAscending (x ++ v ∷ [])) same k.ascending))

  pub no_room : {t : Ty} {bytes here : List ℕ} {vs : List Value} {n : ℕ} → length vs ≡ n → n ≡ SET_MAX → MembersSoFar ss e t bytes vs here
      → IsNoItem (codes "}") here → AreNoMembers ss e t [] bytes
  no_room {t = t} {here = here} {vs = vs} counted full r none = r.none (members_full ss e t vs here (counted ∙ full) none)

  pub members_at : {t : Ty} {text : List ℕ} {at end : ℕ} {vs : List Value} (place : ℕ) → MembersSoFar ss e t (drop place text) vs (drop at text)
      → IsItem text at (codes "}") end → AreMembersAt ss e t text place vs end
  members_at {t = t} {text = text} {at = at} {end = end} {vs = vs} place r k = record {
    members = r.members;
    stand = closed text place at end (parted (map (value_text ss) vs)) (codes "}")
        (members_all ss e t (drop place text) vs (drop at text) r) k;
  }

  -- ---- the components of a line

  pub no_further : {i : ℕ} {bytes here : List ℕ} {vs : List Value} (cs : List Component) → i < length cs
      → RowSoFar ss e (map comp_of cs) (map comp_of (drop i cs)) bytes i vs here → IsNoItem (comma_before i) here → IsNoLine ss e (map comp_of cs) bytes
  no_further {i = i} {here = here} cs l r none = let long = length-drop i cs in r.none (unseparated_comps ss e (drop i cs) i here (omega (arith, long)) none)

  pub no_component : {i : ℕ} {c : Component} {bytes here : List ℕ} {vs : List Value} (cs : List Component) (mid : List ℕ) → c ≡ get_or cs i c → i < length cs
      → RowSoFar ss e (map comp_of cs) (map comp_of (drop i cs)) bytes i vs here → here ≡ comma_before i ++ mid → IsNoComponent ss e (comp_of c) mid
      → IsNoLine ss e (map comp_of cs) bytes
  no_component {i = i} {c = c} {here = here} cs mid at l r m none = r.none (subst (λ x. IsNoRest ss e x i here) (sym (comps-drop cs i c at l))
      (row_unread ss e (comp_of c) (map comp_of (drop (i + 1) cs)) i here mid m none))

  pub one_component : {i at start end : ℕ} {c : Component} {text : List ℕ} {vs new : List Value} {v : Value} (cs : List Component) → c ≡ get_or cs i c
      → i < length cs → RowSoFar ss e (map comp_of cs) (map comp_of (drop i cs)) text i vs (drop at text) → IsItem text at (comma_before i) start
      → IsComponentAt ss e (comp_of c) text start v end → new ≡ vs ++ v ∷ []
      → RowSoFar ss e (map comp_of cs) (map comp_of (drop (i + 1) cs)) text (i + 1) new (drop end text)
  one_component {i = i} {at = at} {start = start} {end = end} {c = c} {text = text} {vs = vs} {v = v} cs got l r m k pushed =
      subst (λ x. RowSoFar ss e (map comp_of cs) (map comp_of (drop (i + 1) cs)) text (i + 1) x (drop end text)) (sym pushed)
      (row_more ss e (map comp_of cs) (comp_of c) (map comp_of (drop (i + 1) cs)) text i (i + 1) vs (drop at text) (drop start text) (drop end text) v
      (subst (λ x. RowSoFar ss e (map comp_of cs) x text i vs (drop at text)) (comps-drop cs i c got l) r) (omega arith) m.stands k.stands.stands k.value k.ends)

  pub no_more : {i : ℕ} {text : List ℕ} {vs : List Value} (cs : List Component) (at : ℕ) → length cs ≤ i → at < length text
      → RowSoFar ss e (map comp_of cs) (map comp_of (drop i cs)) text i vs (drop at text) → IsNoLine ss e (map comp_of cs) text
  no_more {i = i} {text = text} cs at l k r =
      let long = length-drop at text in
      r.none (subst (λ x. IsNoRest ss e x i (drop at text)) (sym (comps-end cs i l)) (row_behind ss e i (drop at text) (omega (arith, long))))

  pub line_read : {i : ℕ} {text : List ℕ} {vs : List Value} (cs : List Component) (at : ℕ) → length cs ≤ i → length text ≤ at
      → RowSoFar ss e (map comp_of cs) (map comp_of (drop i cs)) text i vs (drop at text) → IsLineOf ss e (map comp_of cs) text vs
  line_read {i = i} {text = text} {vs = vs} cs at l k r =
      let whole = row_all ss e (map comp_of cs) text i vs (drop at text) (subst (λ x. RowSoFar ss e (map comp_of cs) x text i vs (drop at text)) (comps-end cs i l) r) (drop-end at text k) in
      record { row = whole.0; line = whole.1 }
