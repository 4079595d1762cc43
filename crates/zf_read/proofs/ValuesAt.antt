-- Values of each form at a place of a line, and where none stands.
use Rattle.zf_read.proofs.Prelude.{Lines, ◌++◌, ◌+◌, ◌<◌, ◌∙◌, ◌≡◌, [], ap, codes, drop, length, List, map, refl, subst, sym, ℕ, ℤ, append_assoc, signed_decimal, w64, FitsSigned, Elem, Int, SetOf, Tuple, Value, Comp, basic, int, power, product, Ty, Tys, Environment, IsExistingElement, component_text, IsClear, spelled, AreMembersAt, ArePartsAt, IsItem, IsSpelledType, IsValueAt, IsWordAt, AreNoMembers, AreNoParts, IsNoComponent, IsNoItem, IsNoSpelledType, IsNoValue, SpellsNone, parted, value_text, Spelling, same_Some, element_spelled, cancel, spelled_word, AreInWord, one_run, signed_in_word}
use Rattle.zf_read.proofs.HeldSoFar.{component_parts}
use Rattle.zf_print.proofs.TextsSeen.{of-Int, of-Tuple, of-SetOf}

pub joined : (bytes : List ℕ) (place middle end : ℕ) (item other : List ℕ) → IsItem bytes place item middle → IsItem bytes middle other end → IsItem bytes place (item ++ other) end
joined bytes place middle end item other h k = record {
  stands = h.stands ∙ ap (λ l. item ++ l) k.stands ∙ sym (append_assoc item other (drop end bytes));
  within = k.within;
}

word_item : (bytes : List ℕ) (place : ℕ) (word text : List ℕ) → IsWordAt bytes place word → word ≡ text → IsItem bytes place text (place + length word)
word_item bytes place word text h is = record {
  stands = h.stands ∙ ap (λ l. l ++ drop (place + length word) bytes) is;
  within = h.within;
}

-- ---- tuples and sets

pub tuple_at : {ss : List Spelling} {e : Environment} {ts : Tys} {bytes : List ℕ} {place start end : ℕ} {vs ws : List Value} → ws ≡ vs
    → IsItem bytes place (codes "(") start
    → ArePartsAt ss e ts bytes start vs end → IsValueAt ss e (product ts) bytes place (Tuple ws) end
tuple_at {ss = ss} {bytes = bytes} {place = place} {start = start} {end = end} {vs = vs} same h k = record {
  value = (vs, ap Tuple same, k.values);
  stands = subst (λ l. IsItem bytes place l end) (sym (ap (λ l. value_text ss (Tuple l)) same ∙ of-Tuple Lines ss vs))
      (joined bytes place start end (codes "(") (parted (map (value_text ss) vs) ++ codes ")") h k.stand);
  ends = tt;
}

pub set_at : {ss : List Spelling} {e : Environment} {t : Ty} {bytes : List ℕ} {place start end : ℕ} {vs ws : List Value} → ws ≡ vs
    → IsItem bytes place (codes "{") start
    → AreMembersAt ss e t bytes start vs end → IsValueAt ss e (power t) bytes place (SetOf ws) end
set_at {ss = ss} {bytes = bytes} {place = place} {start = start} {end = end} {vs = vs} same h k = record {
  value = (vs, ap SetOf same, k.members.ascending, k.members.few, k.members.values);
  stands = subst (λ l. IsItem bytes place l end) (sym (ap (λ l. value_text ss (SetOf l)) same ∙ of-SetOf Lines ss vs))
      (joined bytes place start end (codes "{") (parted (map (value_text ss) vs) ++ codes "}") h k.stand);
  ends = tt;
}

module _ (ss : List Spelling) (e : Environment) where
  -- ---- numbers

  number_text : (v : Value) (n : ℤ) → v ≡ Int n → value_text ss v ≡ signed_decimal n
  number_text v n is = ap (value_text ss) is ∙ of-Int Lines ss n

  pub number_at : (bytes : List ℕ) (place : ℕ) (word : List ℕ) (n m : ℤ) → m ≡ n → FitsSigned w64 n → word ≡ signed_decimal n → IsWordAt bytes place word
      → IsValueAt ss e int bytes place (Int m) (place + length word)
  number_at bytes place word n m same fits is h = record {
    value = (n, ap Int same, fits);
    stands = word_item bytes place word (value_text ss (Int m)) h (is ∙ sym (number_text (Int m) n (ap Int same)));
    ends = h.ends;
  }

  pub no_number : (bytes : List ℕ) (place : ℕ) (word : List ℕ) → IsWordAt bytes place word → ((n : ℤ) → FitsSigned w64 n → word ≡ signed_decimal n → ⊥) → IsNoValue ss e int (drop place bytes)
  unfolding IsNoValue
  no_number bytes place word h none clear v rest (n, is, fits) ends q =
      let text = number_text v n is in
      let inside : AreInWord (value_text ss v) = subst AreInWord (sym text) (signed_in_word n fits) in
      none n fits ((one_run word (value_text ss v) (drop (place + length word) bytes) rest h.in_word inside h.ends ends (sym h.stands ∙ q)).0 ∙ text)

  -- ---- elements

  pub element_at : (name bytes : List ℕ) (place : ℕ) (word : List ℕ) (n k i : ℕ) (s : Spelling) → IsSpelledType ss e name n k s → i < k → word ≡ spelled s i
      → IsWordAt bytes place word → IsValueAt ss e (basic name) bytes place (Elem n i) (place + length word)
  element_at name bytes place word n k i s h less is at = record {
    value = subst (λ o. IsExistingElement e o (Elem n i)) (sym h.number) (k, i, h.size, less, refl);
    stands = word_item bytes place word (value_text ss (Elem n i)) at (is ∙ sym (element_spelled Lines ss n i (Elem n i) s refl h.spelling));
    ends = at.ends;
  }

  pub untyped : (name bytes : List ℕ) → IsNoSpelledType ss e name → IsNoValue ss e (basic name) bytes
  unfolding IsNoSpelledType IsNoValue
  untyped name bytes none clear v rest h ends q = none clear v h

  pub no_element : (name bytes : List ℕ) (place : ℕ) (word : List ℕ) (n k : ℕ) (s : Spelling) → IsSpelledType ss e name n k s → IsWordAt bytes place word
      → SpellsNone s k word → IsNoValue ss e (basic name) (drop place bytes)
  unfolding SpellsNone IsNoValue
  no_element name bytes place word n k s typed h none clear v rest element ends q =
      let (j, i, size, less, is) = subst (λ o. IsExistingElement e o v) typed.number element in
      let (t, found, good) = clear.spelled n k typed.size in
      let same : t ≡ s = same_Some t s (sym found ∙ typed.spelling) in
      let count : j ≡ k = same_Some j k (sym size ∙ typed.size) in
      let good_here : IsClear s k = subst (λ x. IsClear x k) same good in
      let small : i < k = subst (λ x. i < x) count less in
      let text = element_spelled Lines ss n i v s is typed.spelling in
      let inside : AreInWord (value_text ss v) = subst AreInWord (sym text) (spelled_word s k i good_here small).0 in
      none good_here i small ((one_run word (value_text ss v) (drop (place + length word) bytes) rest h.in_word inside h.ends ends (sym h.stands ∙ q)).0 ∙ text)

  -- ---- tuples

  tuple_text : (v : Value) (vs : List Value) (rest : List ℕ) → v ≡ Tuple vs → value_text ss v ++ rest ≡ codes "(" ++ (parted (map (value_text ss) vs) ++ (codes ")" ++ rest))
  tuple_text v vs rest is = ap (λ l. l ++ rest) (ap (value_text ss) is ∙ of-Tuple Lines ss vs) ∙ ap (λ l. codes "(" ++ l) (append_assoc (parted (map (value_text ss) vs)) (codes ")") rest)

  pub tuple_unopened : (ts : Tys) (bytes : List ℕ) → IsNoItem (codes "(") bytes → IsNoValue ss e (product ts) bytes
  unfolding IsNoItem IsNoValue
  tuple_unopened ts bytes none clear v rest (vs, is, h) ends q = none _ (q ∙ tuple_text v vs rest is)

  pub tuple_unread : (ts : Tys) (bytes more : List ℕ) → bytes ≡ codes "(" ++ more → AreNoParts ss e ts 0 more → IsNoValue ss e (product ts) bytes
  unfolding AreNoParts IsNoValue
  tuple_unread ts bytes more m none clear v rest (vs, is, h) ends q = none clear vs rest h (cancel (codes "(") more _ (sym m ∙ q ∙ tuple_text v vs rest is))

  -- ---- sets

  set_text : (v : Value) (vs : List Value) (rest : List ℕ) → v ≡ SetOf vs → value_text ss v ++ rest ≡ codes "{" ++ (parted (map (value_text ss) vs) ++ (codes "}" ++ rest))
  set_text v vs rest is = ap (λ l. l ++ rest) (ap (value_text ss) is ∙ of-SetOf Lines ss vs) ∙ ap (λ l. codes "{" ++ l) (append_assoc (parted (map (value_text ss) vs)) (codes "}") rest)

  pub set_unopened : (t : Ty) (bytes : List ℕ) → IsNoItem (codes "{") bytes → IsNoValue ss e (power t) bytes
  unfolding IsNoItem IsNoValue
  set_unopened t bytes none clear v rest (vs, is, up, few, h) ends q = none _ (q ∙ set_text v vs rest is)

  pub set_unread : (t : Ty) (bytes more : List ℕ) → bytes ≡ codes "{" ++ more → AreNoMembers ss e t [] more → IsNoValue ss e (power t) bytes
  unfolding AreNoMembers IsNoValue
  set_unread t bytes more m none clear v rest (vs, is, up, few, h) ends q = none clear vs rest (record { ascending = up; few = few; values = h })
      (cancel (codes "{") more _ (sym m ∙ q ∙ set_text v vs rest is))

  -- ---- components

  pub unnamed : (c : Comp) (name bytes : List ℕ) → name ≡ c.name → IsNoItem name bytes → IsNoComponent ss e c bytes
  unfolding IsNoItem IsNoComponent
  unnamed c name bytes is none clear v rest h ends q = none _ (q ∙ component_parts ss c v rest ∙ ap (λ l. l ++ (codes " == " ++ (value_text ss v ++ rest))) (sym is))

  behind_name : (c : Comp) (name bytes more : List ℕ) (v : Value) (rest : List ℕ) → name ≡ c.name → bytes ≡ name ++ more
      → bytes ≡ component_text ss c v ++ rest → more ≡ codes " == " ++ (value_text ss v ++ rest)
  behind_name c name bytes more v rest is m q = cancel name more _ (sym m ∙ q ∙ component_parts ss c v rest ∙ ap (λ l. l ++ (codes " == " ++ (value_text ss v ++ rest))) (sym is))

  pub unequal : (c : Comp) (name bytes more : List ℕ) → name ≡ c.name → bytes ≡ name ++ more → IsNoItem (codes " == ") more → IsNoComponent ss e c bytes
  unfolding IsNoItem IsNoComponent
  unequal c name bytes more is m none clear v rest h ends q = none _ (behind_name c name bytes more v rest is m q)

  pub unvalued : (c : Comp) (name bytes more last : List ℕ) → name ≡ c.name → bytes ≡ name ++ more → more ≡ codes " == " ++ last → IsNoValue ss e c.type last → IsNoComponent ss e c bytes
  unfolding IsNoValue IsNoComponent
  unvalued c name bytes more last is m k none clear v rest h ends q = none clear v rest h ends (cancel (codes " == ") last _ (sym k ∙ behind_name c name bytes more v rest is m q))
