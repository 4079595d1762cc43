-- The schema calculus makes schemas whose components have names of schemas that are so.
use Rattle.law_names.proofs.Prelude.{◌++◌, ◌∙◌, ◌∷◌, ◌≡◌, [], arith, Bool, false, length-append, List, map, None, refl, Some, subst, sym, true, ℕ, none-some, list_all, if◌then◌else◌, bytes_eq, and_right, AreApart, AreNames, is_in_name, IsName, IsNoneOf, AreOnce, Comp, Delta, Plain, RefMark, Schema, Span, Xi, comp, comp_named, decorated, either_comps, is_itself, later, list_all-append, marked, prime, with_comp, with_comps}
use Rattle.law_names.proofs.Apart.{none_later}
use Rattle.law_names.proofs.Bytes.{both_true}

-- each component has a name
abbrev pub HaveNames : List Comp → Type 0
HaveNames cs = AreNames (map (λ c. c.name) cs)

-- ---- one more component

pub one_more_named : (cs : List Comp) (c : Comp) → HaveNames cs → IsName c.name → HaveNames (with_comp cs c)
one_more_named [] c all one = (one, tt)
one_more_named (d ∷ ds) c all one = by (bytes_eq d.name c.name) (one_more_named ds c all.1 one)
  where
    by : (t : Bool) → HaveNames (with_comp ds c) → HaveNames (if t then comp d.name d.type (d.sets ++ c.sets) ∷ ds else d ∷ with_comp ds c)
    by true rest = (all.0, all.1)
    by false rest = (all.0, rest)

pub joined_named : (cs ds : List Comp) → HaveNames cs → HaveNames ds → HaveNames (with_comps cs ds)
joined_named cs [] all more = all
joined_named cs (d ∷ ds) all more = joined_named (with_comp cs d) ds (one_more_named cs d all more.0) more.1

-- ---- other names

renamed_named : (f : Comp → Comp) (cs : List Comp) → ((c : Comp) → IsName c.name → IsName (f c).name) → HaveNames cs → HaveNames (map f cs)
renamed_named f [] each all = tt
renamed_named f (c ∷ cs) each all = (each c all.0, renamed_named f cs each all.1)

-- strokes have the bytes of names
abbrev pub AreStrokes : List ℕ → Type 0
AreStrokes strokes = list_all is_in_name strokes ≡ true

stroked_named : (name strokes : List ℕ) → IsName name → AreStrokes strokes → IsName (name ++ strokes)
stroked_named name strokes named h = (
  omega (arith, length-append name strokes, named.0),
  list_all-append is_in_name name strokes ∙ both_true (list_all is_in_name name) (list_all is_in_name strokes) named.1 h,
)

-- those of a name do
pub strokes_of : (base strokes : List ℕ) → IsName (base ++ strokes) → AreStrokes strokes
strokes_of base strokes named = and_right (list_all is_in_name base) (list_all is_in_name strokes) (sym (list_all-append is_in_name base strokes) ∙ named.1)

pub decorated_named : (strokes : List ℕ) (a : Schema) → AreStrokes strokes → HaveNames a.comps → HaveNames (decorated strokes a).comps
decorated_named strokes a h all = renamed_named (λ c. comp (c.name ++ strokes) c.type c.sets) a.comps (λ c named. stroked_named c.name strokes named h) all

pub marked_named : (mark : RefMark) (l : Span) (a : Schema) → HaveNames a.comps → HaveNames (marked mark l a).comps
marked_named Plain l a all = all
marked_named Delta l a all = joined_named a.comps (decorated prime a).comps all (decorated_named prime a refl all)
marked_named Xi l a all = joined_named a.comps (decorated prime a).comps all (decorated_named prime a refl all)

pub disjoined_named : (cs ds : List Comp) → HaveNames cs → HaveNames ds → HaveNames (either_comps cs ds)
disjoined_named cs ds all more = renamed_named _ (with_comps cs ds) (λ c named. named) (joined_named cs ds all more)

-- ---- names that no two have

none_apart : (x : List ℕ) (cs : List Comp) → comp_named x cs ≡ None → IsNoneOf (map (λ c. c.name) cs) x
none_apart x [] none = tt
none_apart x (c ∷ cs) none = by (bytes_eq c.name x) refl none (none_apart x cs)
  where
    by :
        (t : Bool) → bytes_eq c.name x ≡ t → (if t then Some (0, c) else later (comp_named x cs)) ≡ None → (comp_named x cs ≡ None → IsNoneOf (map (λ c. c.name) cs) x)
        → IsNoneOf (map (λ c. c.name) (c ∷ cs)) x
    by true f none rest = absurd (none-some (0, c) (sym none))
    by false f none rest = (
      λ same. let e : bytes_eq c.name x ≡ true = subst (λ y. bytes_eq c.name y ≡ true) same (is_itself c.name) in absurd (cc),
      rest (none_later (comp_named x cs) none),
    )

pub once_apart : (cs : List Comp) → AreOnce cs → AreApart (map (λ c. c.name) cs)
once_apart [] once = tt
once_apart (c ∷ cs) once = (none_apart c.name cs once.0, once_apart cs once.1)
