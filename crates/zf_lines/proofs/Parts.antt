-- Parts of lines, and columns of them.
use Rattle.zf_lines.proofs.Prelude.{◌++◌, ◌+◌, ◌<◌, ◌∙◌, ◌∷◌, ◌≡◌, ◌≤◌, [], ap, append_assoc, arith, get_or, inl, inr, length, length-append, List, map, Option, refl, Some, subst, suc, sym, take, zero, ℕ, set, length-map, length-set, length-take-le, map_more, take_all, slice_get_read, option_map, slice_get, slice_index_or, unwrap_or, Value, Comp, comp_of, comma_before, component_in, Format, name_in, Spelling, AreColumns, head_of, Keeps, part_at, Component, value_in, Column}
use Rattle.std.proofs.lemmas.Option.{slice_get-map, slice_get_within}
use Rattle.zf_lines.proofs.Keeping.{at_push, at_set}

module _ (head : List ℕ) (f : Format) (ss : List Spelling) (row : List Value) (i : ℕ) where
  -- the same value stands at both places
  pub same_part : (range : List Value) (place : ℕ) → slice_get row i ≡ slice_get range place → part_at head f ss range place ≡ part_at head f ss row i
  same_part range place is = ap (λ (o : Option Value). unwrap_or (option_map (λ v. head ++ value_in f ss v) o) []) (sym is)

-- a part is that of a component with its value
pub part_of_component : (f : Format) (ss : List Spelling) (n : ℕ) (c : Comp) (values : List Value) (i : ℕ) (v : Value) (head : List ℕ) → head ≡ head_of f n c → slice_get values i ≡ Some v
    → part_at head f ss values i ≡ comma_before n ++ component_in f ss c v
part_of_component f ss n c values i v head is at =
    let worked : part_at head f ss values i ≡ head ++ value_in f ss v = ap (λ (o : Option Value). unwrap_or (option_map (λ w. head ++ value_in f ss w) o) []) at in
    let begun : head ++ value_in f ss v ≡ (comma_before n ++ name_in f c.name) ++ value_in f ss v = ap (λ h. h ++ value_in f ss v) is in
    worked ∙ begun ∙ append_assoc (comma_before n) (name_in f c.name) (value_in f ss v)

pub at_some : {A : Type 0} (xs : List A) (i : ℕ) → i < length xs → (x : A) × (slice_get xs i ≡ Some x)
at_some [] i l = absurd (omega (arith, l))
at_some (x ∷ xs) zero l = (x, refl)
at_some (x ∷ xs) (suc i) l = at_some xs i (omega (arith, l))

pub at_map : {A B : Type 0} (f : A → B) (xs : List A) (i : ℕ) (x : A) → slice_get xs i ≡ Some x → slice_get (map f xs) i ≡ Some (f x)
at_map f xs i x e = slice_get-map f xs i ∙ ap (option_map f) e

module _ (f : Format) (ss : List Spelling) (ranges : List (List Value)) where
  -- one component more
  pub one_more_column : (cs : List Comp) (columns : List Column) (c : Comp) (column : Column) (n : ℕ) → length cs ≡ n → column.head ≡ head_of f n c → ((f : ℕ → List ℕ) → Keeps f column)
      → AreColumns f ss cs ranges columns → AreColumns f ss (cs ++ c ∷ []) ranges (columns ++ column ∷ [])
  one_more_column cs columns c column n long head none h = record {
    all = length-append columns (column ∷ []) ∙ ap (λ m. m + 1) h.all ∙ sym (length-append cs (c ∷ []));
    heads = heads;
    kept = λ i d here. elim (at_push columns column d i here) [
      | inl before ↦ h.kept i d before
      | inr last ↦ subst
          (λ (x : Column). Keeps (part_at x.head f ss (slice_index_or ranges i [])) x) last.1 (none (part_at column.head f ss (slice_index_or ranges i [])))
    ];
  } where
    heads : (i : ℕ) (b : Comp) (d : Column) → slice_get (cs ++ c ∷ []) i ≡ Some b → slice_get (columns ++ column ∷ []) i ≡ Some d → d.head ≡ head_of f i b
    heads i b d at here = elim (at_push cs c b i at) [
      | inl before ↦ elim (at_push columns column d i here) [
        | inl stays ↦ h.heads i b d before stays
        | inr last ↦ let l : i < length cs = slice_get_within cs i b before in absurd (omega (arith, l, last.0, h.all))
      ]
      | inr last ↦ elim (at_push columns column d i here) [
        | inl before ↦ let l : i < length columns = slice_get_within columns i d before in absurd (omega (arith, l, last.0, h.all))
        | inr here ↦ ap (λ (x : Column). x.head) (sym here.1) ∙ head ∙ ap (λ m. head_of f m c) (sym long ∙ sym last.0) ∙ ap (head_of f i) last.1
      ]
    ]

  -- one column changes
  pub column_changed : (cs : List Comp) (columns : List Column) (i : ℕ) (old new : Column) → slice_get columns i ≡ Some old → new.head ≡ old.head
      → Keeps (part_at old.head f ss (slice_index_or ranges i [])) new → AreColumns f ss cs ranges columns → AreColumns f ss cs ranges (set columns i new)
  column_changed cs columns i old new at same keeps h = record {
    all = length-set columns i new ∙ h.all;
    heads = λ n c d there here. elim (at_set columns i new d n here) [
      | inl stays ↦ h.heads n c d there stays
      | inr is ↦ ap (λ (x : Column). x.head) (sym is.1) ∙ same ∙ h.heads n c old there (subst (λ m. slice_get columns m ≡ Some old) (sym is.0) at)
    ];
    kept = λ n d here. elim (at_set columns i new d n here) [
      | inl stays ↦ h.kept n d stays
      | inr is ↦ subst (λ (x : Column). Keeps (part_at x.head f ss (slice_index_or ranges n [])) x) is.1
          (subst (λ m. Keeps (part_at new.head f ss (slice_index_or ranges m [])) new) (sym is.0)
          (subst (λ t. Keeps (part_at t f ss (slice_index_or ranges i [])) new) (sym same) keeps))
    ];
  }

  pub column_there : (comps : List Component) (columns : List Column) (column : Column) (i : ℕ) → AreColumns f ss (map comp_of comps) ranges columns
      → i < length comps → column ≡ get_or columns i column
      → slice_get columns i ≡ Some column
  column_there comps columns column i h deep is = slice_get_read columns (length columns) i column refl (omega (arith, deep, h.all, length-map comps comp_of)) is

  pub more_columns : (comps : List Component) (i : ℕ) (c : Component) (columns new : List Column) (column : Column) → c ≡ get_or comps i c → i < length comps → column.head ≡ head_of f i (comp_of c)
      → ((f : ℕ → List ℕ) → Keeps f column) → new ≡ columns ++ column ∷ [] → AreColumns f ss (map comp_of (take i comps)) ranges columns → AreColumns f ss (map comp_of (take (i + 1) comps)) ranges new
  more_columns comps i c columns new column at l head none is h =
      let grown : map comp_of (take (i + 1) comps) ≡ map comp_of (take i comps) ++ comp_of c ∷ [] = map_more comp_of comps i c l ∙ ap (λ x. map comp_of (take i comps) ++ comp_of x ∷ []) (sym at) in
      let long : length (map comp_of (take i comps)) ≡ i = length-map (take i comps) comp_of ∙ length-take-le i comps (omega (arith, l)) in
      subst (λ cs. AreColumns f ss cs ranges new) (sym grown)
      (subst (AreColumns f ss (map comp_of (take i comps) ++ comp_of c ∷ []) ranges) (sym is) (one_more_column (map comp_of (take i comps)) columns (comp_of c) column i long head none h))

  pub all_columns : (comps : List Component) (i : ℕ) (columns : List Column) → length comps ≤ i → AreColumns f ss (map comp_of (take i comps)) ranges columns
      → AreColumns f ss (map comp_of comps) ranges columns
  all_columns comps i columns l h = subst (λ cs. AreColumns f ss (map comp_of cs) ranges columns) (take_all i comps l) h
