-- What the steps of reading say. No public clause rests on this file.
use Rattle.std.specs.Prelude.{◌≡◌, ℕ, ◌+◌, ◌≤◌, true, ◌<◌, List, [], ◌∷◌, ◌++◌, length, map, drop, codes, Option, Some, None, slice_get}
use Rattle.zf_read.specs.Prelude.{Comp, Ty, Tys, Value, IsAscending, AreOfTypes, Environment, IsExistingElement, IsOfType, IsRow, type_number, Spelling, AreClear, component_text, component_texts, Ends, EndsAs, goes_on, is_in_word, IsClear, parted, spelled, value_text}
use Rattle.std.specs.List.{list_all, AllByRecursion}
use Rattle.zf_value.specs.declared.TheConstants.{SET_MAX}
use Rattle.zf_read.specs.Held.{HoldNext, IsPart}
use Rattle.zf_read.specs.HeldLaws.{HaveClearNames}

-- ---- words

-- the longest word that stands at the place
pub record IsWordAt (bytes : List ℕ) (place : ℕ) (word : List ℕ) : Type 0 where
  pub stands : drop place bytes ≡ word ++ drop (place + length word) bytes
  pub within : place + length word ≤ length bytes
  pub in_word : list_all is_in_word word ≡ true
  pub ends : Ends (drop (place + length word) bytes)

-- ---- what is read up to a place

-- an item stands from the one place to the other
pub record IsItem (bytes : List ℕ) (place : ℕ) (item : List ℕ) (end : ℕ) : Type 0 where
  pub stands : drop place bytes ≡ item ++ drop end bytes
  pub within : end ≤ length bytes

-- the bytes don't begin with the item
unfoldable pub IsNoItem : List ℕ → List ℕ → Type 0
IsNoItem item bytes = (rest : List ℕ) → bytes ≡ item ++ rest → ⊥

-- the value of the type stands from the one place to the other
pub record IsValueAt (ss : List Spelling) (e : Environment) (t : Ty) (bytes : List ℕ) (place : ℕ) (v : Value) (end : ℕ) : Type 0 where
  pub value : IsOfType e t v
  pub stands : IsItem bytes place (value_text ss v) end
  pub ends : EndsAs t (drop end bytes)

-- the bytes don't begin with a value of the type
unfoldable pub IsNoValue : List Spelling → Environment → Ty → List ℕ → Type 0
IsNoValue ss e t bytes = AreClear ss e.sizes → (v : Value) (rest : List ℕ) → IsOfType e t v → EndsAs t rest → bytes ≡ value_text ss v ++ rest → ⊥

-- ---- elements

-- the number of a type, how many elements it has, and how they are spelled
pub record IsSpelledType (ss : List Spelling) (e : Environment) (name : List ℕ) (n k : ℕ) (s : Spelling) : Type 0 where
  pub number : type_number e name ≡ Some n
  pub size : slice_get e.sizes n ≡ Some k
  pub spelling : slice_get ss n ≡ Some s

-- the type of this number has no elements
unfoldable pub HasNoElements : List Spelling → Environment → ℕ → Type 0
HasNoElements ss e n = AreClear ss e.sizes → (k : ℕ) → slice_get e.sizes n ≡ Some k → ⊥

-- no element of the type is spelled
unfoldable pub IsNoSpelledType : List Spelling → Environment → List ℕ → Type 0
IsNoSpelledType ss e name = AreClear ss e.sizes → (v : Value) → IsExistingElement e (type_number e name) v → ⊥

-- none of the first k elements has the word
unfoldable pub SpellsNone : Spelling → ℕ → List ℕ → Type 0
SpellsNone s k word = IsClear s k → (i : ℕ) → i < k → word ≡ spelled s i → ⊥

-- ---- the parts of a tuple, up to its end

pub record ArePartsAt (ss : List Spelling) (e : Environment) (ts : Tys) (bytes : List ℕ) (place : ℕ) (vs : List Value) (end : ℕ) : Type 0 where
  pub values : AreOfTypes e ts vs
  pub stand : IsItem bytes place (parted (map (value_text ss) vs) ++ codes ")") end

-- after n parts the bytes don't begin with parts of these types and the end of a tuple
unfoldable pub AreNoParts : List Spelling → Environment → Tys → ℕ → List ℕ → Type 0
AreNoParts ss e ts n bytes = AreClear ss e.sizes → (vs : List Value) (rest : List ℕ) → AreOfTypes e ts vs → bytes ≡ goes_on n (map (value_text ss) vs) ++ (codes ")" ++ rest) → ⊥

-- ---- the members of a set, up to its end

pub record AreMembers (e : Environment) (t : Ty) (vs : List Value) : Type 0 where
  pub ascending : IsAscending vs
  pub few : length vs ≤ SET_MAX
  pub values : AllByRecursion (λ v. IsOfType e t v) vs

-- the value is one more member
pub record IsNext (ss : List Spelling) (e : Environment) (t : Ty) (vs : List Value) (bytes : List ℕ) (place : ℕ) (v : Value) (end : ℕ) : Type 0 where
  pub value : IsValueAt ss e t bytes place v end
  pub ascending : IsAscending (vs ++ v ∷ [])

-- the bytes don't begin with one more member
unfoldable pub IsNoNext : List Spelling → Environment → Ty → List Value → List ℕ → Type 0
IsNoNext ss e t vs bytes = AreClear ss e.sizes → (v : Value) (rest : List ℕ) → IsOfType e t v → IsAscending (vs ++ v ∷ []) → EndsAs t rest → bytes ≡ value_text ss v ++ rest → ⊥

pub record AreMembersAt (ss : List Spelling) (e : Environment) (t : Ty) (bytes : List ℕ) (place : ℕ) (vs : List Value) (end : ℕ) : Type 0 where
  pub members : AreMembers e t vs
  pub stand : IsItem bytes place (parted (map (value_text ss) vs) ++ codes "}") end

-- after these members the bytes don't begin with further ones and the end of a set
unfoldable pub AreNoMembers : List Spelling → Environment → Ty → List Value → List ℕ → Type 0
AreNoMembers ss e t vs bytes = AreClear ss e.sizes → (ws : List Value) (rest : List ℕ) → AreMembers e t (vs ++ ws) → bytes ≡ goes_on (length vs) (map (value_text ss) ws) ++ (codes "}" ++ rest) → ⊥

-- ---- the components of a binding

pub record IsComponentAt (ss : List Spelling) (e : Environment) (c : Comp) (bytes : List ℕ) (place : ℕ) (v : Value) (end : ℕ) : Type 0 where
  pub value : IsOfType e c.type v
  pub stands : IsItem bytes place (component_text ss c v) end
  pub ends : EndsAs c.type (drop end bytes)

unfoldable pub IsNoComponent : List Spelling → Environment → Comp → List ℕ → Type 0
IsNoComponent ss e c bytes = AreClear ss e.sizes → (v : Value) (rest : List ℕ) → IsOfType e c.type v → EndsAs c.type rest → bytes ≡ component_text ss c v ++ rest → ⊥

-- after n components the bytes are not the rest of a line
unfoldable pub IsNoRest : List Spelling → Environment → List Comp → ℕ → List ℕ → Type 0
IsNoRest ss e cs n bytes = AreClear ss e.sizes → (vs : List Value) → IsRow e cs vs → bytes ≡ goes_on n (component_texts ss cs vs) → ⊥

-- ---- the values that a line of some components holds

-- the bytes begin with the name, and no word goes on after it
abbrev pub BeginsWithName : List ℕ → List ℕ → Type 0
BeginsWithName name bytes = (rest : List ℕ) × Ends rest × (bytes ≡ name ++ rest)

-- a word goes on with the bytes
unfoldable pub GoesOn : List ℕ → Type 0
GoesOn bytes = Ends bytes → ⊥

unfoldable pub BeginsWithoutName : List ℕ → List ℕ → Type 0
BeginsWithoutName name bytes = BeginsWithName name bytes → ⊥

-- of the component at this place no value is held yet, and the bytes begin with its name
pub record IsNamed (cs : List Comp) (held : List (Option Value)) (bytes : List ℕ) (place : ℕ) : Type 0 where
  pub comp : Comp
  pub there : slice_get cs place ≡ Some comp
  pub free : slice_get held place ≡ Some None
  pub named : BeginsWithName comp.name bytes

-- there is no such component
unfoldable pub NamesNone : List Comp → List (Option Value) → List ℕ → Type 0
NamesNone cs held bytes = (place : ℕ) → IsNamed cs held bytes place → ⊥

-- after n parts, with what they hold, the bytes are not the rest of a line
unfoldable pub IsNoHeldRest : List Spelling → Environment → List Comp → ℕ → List ℕ → List (Option Value) → Type 0
IsNoHeldRest ss e cs n bytes before =
    AreClear ss e.sizes → HaveClearNames cs → (parts : List (ℕ × Value)) (held : List (Option Value)) → HoldNext ss e cs n bytes before parts held → ⊥

-- the next part stands from the one place to the other
pub record IsPartAt (ss : List Spelling) (e : Environment) (cs : List Comp) (bytes : List ℕ) (n place : ℕ) (before : List (Option Value)) (next : ℕ) (v : Value) (end : ℕ) : Type 0 where
  pub part : IsPart ss e cs n (drop place bytes) before next v (drop end bytes)
  pub ends : EndsAs part.comp.type (drop end bytes)
  pub further : place < end
  pub within : end ≤ length bytes
