-- What is read so far of the components of a line, the parts of a tuple, the members of a set.
use Rattle.zf_read.proofs.Prelude.{Lines, ◌++◌, ◌+◌, ◌<◌, ◌∙◌, ◌∷◌, ◌≡◌, [], ap, arith, codes, length, List, map, refl, subst, suc, sym, ℕ, append-nil, append_assoc, length-append, IsAscending, SET_MAX, Value, Comp, no_types, Ty, type, Tys, Environment, AreOfTypes, IsOfType, IsRow, binding_text, component_text, component_texts, IsNoLine, AreMembers, EndsAs, goes_on, AreNoMembers, AreNoParts, IsNoComponent, IsNoItem, IsNoRest, later_parts, parted, comma_before, value_text, Spelling, ends_as, one_component, ends_parts, goes_on-nil, goes_on-first, front, goes_on-later, cancel}
use Rattle.zf_read.proofs.Ascending.{every_push}
use Rattle.zf_read.proofs.Reading.{parts_next, members_next}

module _ (ss : List Spelling) (e : Environment) where
  -- ---- the components of a line

  pub record RowSoFar (all ahead : List Comp) (bytes : List ℕ) (n : ℕ) (vs : List Value) (more : List ℕ) : Type 0 where
    pub whole : (ws : List Value) → IsRow e ahead ws → more ≡ goes_on n (component_texts ss ahead ws) → IsRow e all (vs ++ ws) × (bytes ≡ binding_text ss all (vs ++ ws))
    pub none : IsNoRest ss e ahead n more → IsNoLine ss e all bytes

  pub row_begun : (all : List Comp) (bytes : List ℕ) → RowSoFar all all bytes 0 [] bytes
  unfolding IsNoRest IsNoLine
  row_begun all bytes = record { whole = λ ws h q. (h, q); none = λ h. h }

  row_split : (c : Comp) (cs : List Comp) (n : ℕ) (vs : List Value) (w : Value) (ws : List Value) (bytes : List ℕ) → vs ≡ w ∷ ws
      → bytes ≡ goes_on n (component_texts ss (c ∷ cs) vs) → bytes ≡ comma_before n ++ (component_text ss c w ++ later_parts (component_texts ss cs ws))
  row_split c cs n vs w ws bytes is q = q ∙ ap (λ l. goes_on n (component_texts ss (c ∷ cs) l)) is ∙ goes_on-first n (component_text ss c w) (component_texts ss cs ws)

  pub row_unseparated : (c : Comp) (cs : List Comp) (n : ℕ) (bytes : List ℕ) → IsNoItem (comma_before n) bytes → IsNoRest ss e (c ∷ cs) n bytes
  unfolding IsNoItem IsNoRest
  row_unseparated c cs n bytes never clear vs (w, ws, is, h, hs) q = never _ (row_split c cs n vs w ws bytes is q)

  pub row_unread : (c : Comp) (cs : List Comp) (n : ℕ) (bytes mid : List ℕ) → bytes ≡ comma_before n ++ mid → IsNoComponent ss e c mid → IsNoRest ss e (c ∷ cs) n bytes
  unfolding IsNoComponent IsNoRest
  row_unread c cs n bytes mid b never clear vs (w, ws, is, h, hs) q =
      never clear w _ h (ends_as c.type _ (ends_parts (component_texts ss cs ws))) (cancel (comma_before n) mid _ (sym b ∙ row_split c cs n vs w ws bytes is q))

  row_next : (c : Comp) (cs : List Comp) (n m : ℕ) (bytes mid more : List ℕ) (v : Value) → m ≡ suc n → bytes ≡ comma_before n ++ mid
      → mid ≡ component_text ss c v ++ more → IsOfType e c.type v → EndsAs c.type more → IsNoRest ss e cs m more → IsNoRest ss e (c ∷ cs) n bytes
  unfolding IsNoRest
  row_next c cs n m bytes mid more v next b x k ends never clear vs (w, ws, is, h, hs) q =
      let here = cancel (comma_before n) mid _ (sym b ∙ row_split c cs n vs w ws bytes is q) in
      let one = one_component Lines ss e clear c v w more _ k h ends (ends_as c.type _ (ends_parts (component_texts ss cs ws))) (sym x ∙ here) in
      never clear ws hs (one.1 ∙ sym (goes_on-later n m (component_texts ss cs ws) next))

  pub row_behind : (n : ℕ) (bytes : List ℕ) → 0 < length bytes → IsNoRest ss e [] n bytes
  unfolding IsNoRest
  row_behind n bytes l clear vs h q = let none = ap length (q ∙ goes_on-nil n) in omega (arith, none)

  pub row_more : (all : List Comp) (c : Comp) (cs : List Comp) (bytes : List ℕ) (n m : ℕ) (vs : List Value) (here mid more : List ℕ) (v : Value) → RowSoFar all (c ∷ cs) bytes n vs here
      → m ≡ suc n → here ≡ comma_before n ++ mid → mid ≡ component_text ss c v ++ more → IsOfType e c.type v → EndsAs c.type more → RowSoFar all cs bytes m (vs ++ v ∷ []) more
  row_more all c cs bytes n m vs here mid more v r next b x k ends = record {
    whole = λ ws h q.
        let line : here ≡ goes_on n (component_texts ss (c ∷ cs) (v ∷ ws)) = b
        ∙ ap (λ l. comma_before n ++ l) (x ∙ ap (λ l. component_text ss c v ++ l) (q ∙ goes_on-later n m (component_texts ss cs ws) next))
        ∙ sym (goes_on-first n (component_text ss c v) (component_texts ss cs ws)) in
        subst (λ l. IsRow e all l × (bytes ≡ binding_text ss all l)) (sym (append_assoc vs (v ∷ []) ws)) (r.whole (v ∷ ws) (v, ws, refl, k, h) line);
    none = λ h. r.none (row_next c cs n m here mid more v next b x k ends h);
  }

  pub row_all : (all : List Comp) (bytes : List ℕ) (n : ℕ) (vs : List Value) (more : List ℕ) → RowSoFar all [] bytes n vs more → more ≡ [] → IsRow e all vs × (bytes ≡ binding_text ss all vs)
  row_all all bytes n vs more r none = subst (λ l. IsRow e all l × (bytes ≡ binding_text ss all l)) (append-nil vs) (r.whole [] refl (none ∙ sym (goes_on-nil n)))

  -- ---- the parts of a tuple

  pub record PartsSoFar (all ahead : Tys) (bytes : List ℕ) (n : ℕ) (vs : List Value) (more : List ℕ) : Type 0 where
    pub whole : (ws : List Value) (rest : List ℕ) → AreOfTypes e ahead ws → more ≡ goes_on n (map (value_text ss) ws) ++ rest → AreOfTypes e all (vs ++ ws)
        × (bytes ≡ parted (map (value_text ss) (vs ++ ws)) ++ rest)
    pub none : AreNoParts ss e ahead n more → AreNoParts ss e all 0 bytes

  pub parts_begun : (all : Tys) (bytes : List ℕ) → PartsSoFar all all bytes 0 [] bytes
  parts_begun all bytes = record { whole = λ ws rest h q. (h, q); none = λ h. h }

  pub parts_more : (all : Tys) (t : Ty) (ts : Tys) (bytes : List ℕ) (n m : ℕ) (vs : List Value) (here mid more : List ℕ) (v : Value) → PartsSoFar all (type t ts) bytes n vs here
      → m ≡ suc n → here ≡ comma_before n ++ mid → mid ≡ value_text ss v ++ more → IsOfType e t v → EndsAs t more → PartsSoFar all ts bytes m (vs ++ v ∷ []) more
  parts_more all t ts bytes n m vs here mid more v r next b x k ends = record {
    whole = λ ws rest h q.
        let line : here ≡ goes_on n (map (value_text ss) (v ∷ ws)) ++ rest = b
        ∙ ap (λ l. comma_before n ++ l) (x ∙ ap (λ l. value_text ss v ++ l) (q ∙ ap (λ l. l ++ rest) (goes_on-later n m (map (value_text ss) ws) next)))
        ∙ sym (front n (value_text ss v) (map (value_text ss) ws) rest) in
        subst (λ l. AreOfTypes e all l × (bytes ≡ parted (map (value_text ss) l) ++ rest)) (sym (append_assoc vs (v ∷ []) ws)) (r.whole (v ∷ ws) rest (v, ws, refl, k, h) line);
    none = λ h. r.none (parts_next ss e t ts n m here mid more v next b x k ends h);
  }

  pub parts_all : (all : Tys) (bytes : List ℕ) (n : ℕ) (vs : List Value) (more : List ℕ) → PartsSoFar all no_types bytes n vs more → AreOfTypes e all vs
      × (bytes ≡ parted (map (value_text ss) vs) ++ more)
  parts_all all bytes n vs more r = subst (λ l. AreOfTypes e all l × (bytes ≡ parted (map (value_text ss) l) ++ more)) (append-nil vs)
      (r.whole [] more refl (ap (λ l. l ++ more) (sym (goes_on-nil n))))

  -- ---- the members of a set

  pub record MembersSoFar (t : Ty) (bytes : List ℕ) (vs : List Value) (more : List ℕ) : Type 0 where
    pub members : AreMembers e t vs
    pub whole : (ws : List Value) (rest : List ℕ) → more ≡ goes_on (length vs) (map (value_text ss) ws) ++ rest → bytes ≡ parted (map (value_text ss) (vs ++ ws)) ++ rest
    pub none : AreNoMembers ss e t vs more → AreNoMembers ss e t [] bytes

  pub members_more : (t : Ty) (bytes : List ℕ) (vs : List Value) (here mid more : List ℕ) (v : Value) → MembersSoFar t bytes vs here → IsNoItem (codes "}") here → length vs < SET_MAX
      → here ≡ comma_before (length vs) ++ mid → mid ≡ value_text ss v ++ more → IsOfType e t v → EndsAs t more → IsAscending (vs ++ v ∷ []) → MembersSoFar t bytes (vs ++ v ∷ []) more
  members_more t bytes vs here mid more v r ahead room b x k ends up =
      let long : length (vs ++ v ∷ []) ≡ length vs + length (v ∷ []) = length-append vs (v ∷ []) in
      let next : length (vs ++ v ∷ []) ≡ suc (length vs) = omega arith in
      record {
        members = record { ascending = up; few = omega arith; values = every_push (λ z. IsOfType e t z) vs v r.members.values k };
        whole = λ ws rest q.
            let line : here ≡ goes_on (length vs) (map (value_text ss) (v ∷ ws)) ++ rest = b
            ∙ ap (λ l. comma_before (length vs) ++ l) (x ∙ ap (λ l. value_text ss v ++ l)
            (q ∙ ap (λ l. l ++ rest) (goes_on-later (length vs) (length (vs ++ v ∷ [])) (map (value_text ss) ws) next)))
            ∙ sym (front (length vs) (value_text ss v) (map (value_text ss) ws) rest) in
            subst (λ l. bytes ≡ parted (map (value_text ss) l) ++ rest) (sym (append_assoc vs (v ∷ []) ws)) (r.whole (v ∷ ws) rest line);
        none = λ h. r.none (members_next ss e t vs here mid more v ahead b x k ends h);
      }

  pub members_all : (t : Ty) (bytes : List ℕ) (vs : List Value) (more : List ℕ) → MembersSoFar t bytes vs more → bytes ≡ parted (map (value_text ss) vs) ++ more
  members_all t bytes vs more r = subst (λ l. bytes ≡ parted (map (value_text ss) l) ++ more) (append-nil vs) (r.whole [] more (ap (λ l. l ++ more) (sym (goes_on-nil (length vs)))))
