-- The line of a row, up to so many of its parts.
use Rattle.zf_lines.proofs.Prelude.{◌++◌, ◌+◌, ◌-◌, ◌<◌, ◌∙◌, ◌∷◌, ◌≡◌, ◌≤◌, [], ap, append-nil, append_assoc, arith, codes, get_or, inl, inr, length, length-take-le, List, map, None, refl, Some, subst, suc, sym, take, zero, ℕ, slice_get, slice_get_read, slice_index_or, take_all, Value, Comp, comp_of, comma_before, component_in, components_in, later_parts, parted, Format, Spelling, AreColumns, AreParts, front, IsFront, IsPrinted, opening, part_at, Component, Column, Part}
use Rattle.std.proofs.lemmas.Option.{slice_get_within}
use Rattle.zf_lines.specs.declared.printed.Printed.{Printed}
use Rattle.zf_lines.proofs.Keeping.{at_push}
use Rattle.zf_lines.proofs.Parts.{at_map, at_some, part_of_component}

-- ---- one part more

later_more : (n : ℕ) (ts : List (List ℕ)) (t : List ℕ) → slice_get ts n ≡ Some t → later_parts (take (suc n) ts) ≡ later_parts (take n ts) ++ (codes ", " ++ t)
later_more zero [] t e = (cc)
later_more (suc n) [] t e = (cc)
later_more zero (x ∷ xs) t e = let same : x ≡ t = (cc) in append-nil (codes ", " ++ x) ∙ ap (λ y. codes ", " ++ y) same
later_more (suc n) (x ∷ xs) t e =
    ap (λ l. (codes ", " ++ x) ++ l) (later_more n xs t e) ∙ sym (append_assoc (codes ", " ++ x) (later_parts (take n xs)) (codes ", " ++ t))

parts_more : (n : ℕ) (ts : List (List ℕ)) (t : List ℕ) → slice_get ts n ≡ Some t → parted (take (suc n) ts) ≡ parted (take n ts) ++ (comma_before n ++ t)
parts_more zero [] t e = (cc)
parts_more (suc n) [] t e = (cc)
parts_more zero (x ∷ xs) t e = let same : x ≡ t = (cc) in append-nil x ∙ same
parts_more (suc n) (x ∷ xs) t e = ap (λ l. x ++ l) (later_more n xs t e) ∙ sym (append_assoc x (later_parts (take n xs)) (codes ", " ++ t))

-- ---- more parts

later_grow : (n m : ℕ) (ts : List (List ℕ)) → n ≤ m → (rest : List ℕ) × (later_parts (take m ts) ≡ later_parts (take n ts) ++ rest)
later_grow zero m ts l = (later_parts (take m ts), refl)
later_grow (suc n) zero ts l = absurd (omega (arith, l))
later_grow (suc n) (suc m) [] l = ([], refl)
later_grow (suc n) (suc m) (x ∷ xs) l =
    let more = later_grow n m xs (omega (arith, l)) in
    (more.0, ap (λ t. (codes ", " ++ x) ++ t) more.1 ∙ sym (append_assoc (codes ", " ++ x) (later_parts (take n xs)) more.0))

parts_grow : (n m : ℕ) (ts : List (List ℕ)) → n ≤ m → (rest : List ℕ) × (parted (take m ts) ≡ parted (take n ts) ++ rest)
parts_grow zero m ts l = (parted (take m ts), refl)
parts_grow (suc n) zero ts l = absurd (omega (arith, l))
parts_grow (suc n) (suc m) [] l = ([], refl)
parts_grow (suc n) (suc m) (x ∷ xs) l =
    let more = later_grow n m xs (omega (arith, l)) in
    (more.0, ap (λ t. x ++ t) more.1 ∙ sym (append_assoc x (later_parts (take n xs)) more.0))

take_front : (a b : List ℕ) → take (length a) (a ++ b) ≡ a
take_front [] b = refl
take_front (x ∷ a) b = ap (λ l. x ∷ l) (take_front a b)

module _ (f : Format) (ss : List Spelling) where
  component_at : (cs : List Comp) (vs : List Value) (i : ℕ) (c : Comp) (v : Value) → slice_get cs i ≡ Some c → slice_get vs i ≡ Some v
      → slice_get (components_in f ss cs vs) i ≡ Some (component_in f ss c v)
  component_at [] vs i c v at is = (cc)
  component_at cs [] i c v at is = (cc)
  component_at (d ∷ cs) (w ∷ vs) zero c v at is =
      let same : d ≡ c = (cc) in
      let like : w ≡ v = (cc) in
      ap (λ x. Some (component_in f ss x w)) same ∙ ap (λ x. Some (component_in f ss c x)) like
  component_at (d ∷ cs) (w ∷ vs) (suc i) c v at is = component_at cs vs i c v at is

  -- rows with the same first values
  alike : (n : ℕ) (cs : List Comp) (old new : List Value) → ((i : ℕ) → i < n → slice_get new i ≡ slice_get old i)
      → take n (components_in f ss cs old) ≡ take n (components_in f ss cs new)
  alike zero cs old new h = refl
  alike (suc n) [] old new h = refl
  alike (suc n) (c ∷ cs) [] [] h = refl
  alike (suc n) (c ∷ cs) [] (w ∷ new) h = let e : Some w ≡ None = h zero (omega arith) in (cc)
  alike (suc n) (c ∷ cs) (v ∷ old) [] h = let e : None ≡ Some v = h zero (omega arith) in (cc)
  alike (suc n) (c ∷ cs) (v ∷ old) (w ∷ new) h =
      let e : Some w ≡ Some v = h zero (omega arith) in
      let same : v ≡ w = (cc) in
      ap (λ x. component_in f ss c x ∷ take n (components_in f ss cs old)) same
      ∙ ap (λ l. component_in f ss c w ∷ l) (alike n cs old new (λ i l. h (suc i) (omega (arith, l))))

  no_longer : (cs : List Comp) (vs : List Value) → length (components_in f ss cs vs) ≤ length cs × (length (components_in f ss cs vs) ≤ length vs)
  no_longer [] vs = (omega arith, omega arith)
  no_longer (c ∷ cs) [] = (omega arith, omega arith)
  no_longer (c ∷ cs) (v ∷ vs) = let h = no_longer cs vs in (omega (arith, h.0), omega (arith, h.1))

module _ (f : Format) (ss : List Spelling) (cs : List Comp) where
  pub front_alike : (n : ℕ) (old new : List Value) → ((i : ℕ) → i < n → slice_get new i ≡ slice_get old i) → front f ss cs old n ≡ front f ss cs new n
  front_alike n old new h = ap (λ ts. opening f ++ parted ts) (alike f ss n cs old new h)

  -- the whole line
  pub front_whole : (n : ℕ) (vs : List Value) → length cs ≤ n → front f ss cs vs n ≡ opening f ++ parted (components_in f ss cs vs)
  front_whole n vs l = let h = no_longer f ss cs vs in ap (λ ts. opening f ++ parted ts) (take_all n (components_in f ss cs vs) (omega (arith, l, h.0)))

  pub front_of_all : (n : ℕ) (vs : List Value) → length vs ≤ n → front f ss cs vs n ≡ opening f ++ parted (components_in f ss cs vs)
  front_of_all n vs l = let h = no_longer f ss cs vs in ap (λ ts. opening f ++ parted ts) (take_all n (components_in f ss cs vs) (omega (arith, l, h.1)))

  pub front_more : (i : ℕ) (c : Comp) (v : Value) (vs : List Value) → slice_get cs i ≡ Some c → slice_get vs i ≡ Some v
      → front f ss cs vs (i + 1) ≡ front f ss cs vs i ++ (comma_before i ++ component_in f ss c v)
  front_more i c v vs at is =
      let next : i + 1 ≡ suc i = omega arith in
      let ts = components_in f ss cs vs in
      ap (λ n. opening f ++ parted (take n ts)) next
      ∙ ap (λ l. opening f ++ l) (parts_more i ts (component_in f ss c v) (component_at f ss cs vs i c v at is))
      ∙ sym (append_assoc (opening f) (parted (take i ts)) (comma_before i ++ component_in f ss c v))

  module _ (ranges : List (List Value)) (row : List Value) (parts : List Part) (h : AreParts f ss cs ranges row parts) where
    -- the line is cut off after a part
    pub cut_there : (line rest : List ℕ) (m : ℕ) (part : Part) → slice_get parts m ≡ Some part → line ≡ front f ss cs row (length parts) ++ rest
        → take part.end line ≡ front f ss cs row (m + 1)
    cut_there line rest m part at is =
        let deep : m < length parts = slice_get_within parts m part at in
        let more = parts_grow (m + 1) (length parts) (components_in f ss cs row) (omega (arith, deep)) in
        let before = front f ss cs row (m + 1) in
        let split : line ≡ before ++ (more.0 ++ rest) =
        is ∙ ap (λ l. (opening f ++ l) ++ rest) more.1 ∙ ap (λ l. l ++ rest) (sym (append_assoc (opening f) (parted (take (m + 1) (components_in f ss cs row))) more.0))
        ∙ append_assoc before more.0 rest in
        ap (λ n. take n line) (h.ends m part at) ∙ ap (take (length before)) split ∙ take_front before (more.0 ++ rest)

    pub fewer_parts : (n : ℕ) → AreParts f ss cs ranges row (take n parts)
    fewer_parts n = record { places = λ i part at. h.places i part (earlier parts n i part at); ends = λ i part at. h.ends i part (earlier parts n i part at) } where
      earlier : (ps : List Part) (n i : ℕ) (part : Part) → slice_get (take n ps) i ≡ Some part → slice_get ps i ≡ Some part
      earlier ps zero zero part at = (cc)
      earlier ps zero (suc i) part at = (cc)
      earlier [] (suc n) i part at = at
      earlier (p ∷ ps) (suc n) zero part at = at
      earlier (p ∷ ps) (suc n) (suc i) part at = earlier ps n i part at

    pub part_more : (n : ℕ) (part : Part) → length parts ≡ n → slice_get row n ≡ slice_get (slice_index_or ranges n []) part.place
        → part.end ≡ length (front f ss cs row (n + 1)) → AreParts f ss cs ranges row (parts ++ part ∷ [])
    part_more n part count place end = record {
      places = λ i p at. elim (at_push parts part p i at) [
        | inl before ↦ h.places i p before
        | inr last ↦ subst (λ (x : Part). slice_get row i ≡ slice_get (slice_index_or ranges i []) x.place) last.1
            (subst (λ m. slice_get row m ≡ slice_get (slice_index_or ranges m []) part.place) (sym (last.0 ∙ count)) place)
      ];
      ends = λ i p at. elim (at_push parts part p i at) [
        | inl before ↦ h.ends i p before
        | inr last ↦ subst (λ (x : Part). x.end ≡ length (front f ss cs row (i + 1))) last.1
            (subst (λ m. part.end ≡ length (front f ss cs row (m + 1))) (sym (last.0 ∙ count)) end)
      ];
    }

    -- the line is cut off after so many parts
    pub cut_behind : (line rest : List ℕ) (count : ℕ) (part : Part) → 0 < count → count ≤ length parts → part ≡ get_or parts (count - 1) part
        → line ≡ front f ss cs row (length parts) ++ rest → take part.end line ≡ front f ss cs row count
    cut_behind line rest count part some all at is =
        let there : slice_get parts (count - 1) ≡ Some part = slice_get_read parts (length parts) (count - 1) part refl (omega (arith, some, all)) at in
        let next : count - 1 + 1 ≡ count = omega (arith, some) in
        cut_there line rest (count - 1) part there is ∙ ap (front f ss cs row) next

  pub no_parts : (ranges : List (List Value)) (row : List Value) → AreParts f ss cs ranges row []
  no_parts ranges row = record { places = λ i part at. absurd (never i part at); ends = λ i part at. absurd (never i part at) } where
    never : (i : ℕ) (part : Part) → slice_get {X = Part} [] i ≡ Some part → ⊥
    never zero part at = (cc)
    never (suc i) part at = (cc)

  -- the parts of a row are those of another that has the same values there
  pub parts_alike : (ranges : List (List Value)) (old new : List Value) (parts : List Part) → AreParts f ss cs ranges old parts
      → ((i : ℕ) → i < length parts → slice_get new i ≡ slice_get old i) → AreParts f ss cs ranges new parts
  parts_alike ranges old new parts h same = record {
    places = λ i part at. same i (slice_get_within parts i part at) ∙ h.places i part at;
    ends = λ i part at.
        let deep : i < length parts = slice_get_within parts i part at in
        h.ends i part at ∙ ap length (front_alike (i + 1) old new (λ j l. same j (omega (arith, l, deep))));
  }

  -- nothing is printed yet
  pub none_printed : (ranges : List (List Value)) (printed : Printed) → AreColumns f ss cs ranges printed.columns.items → printed.line.items ≡ opening f → printed.parts.items ≡ []
      → IsPrinted f ss cs ranges printed
  none_printed ranges printed columns line none = record {
    columns = columns;
    line = (
      [],
      subst (AreParts f ss cs ranges []) (sym none) (no_parts ranges []),
      [],
      line ∙ sym (append-nil (opening f)) ∙ sym (append-nil (opening f ++ [])) ∙ ap (λ n. front f ss cs [] n ++ []) (sym (ap length none)),
    );
  }

  -- what is kept of a line is the front of that of another row
  pub front_kept : (ranges : List (List Value)) (row : List Value) (old new : Printed) (count : ℕ) → IsPrinted f ss cs ranges old → count ≤ length old.parts.items
      → ((i : ℕ) (part : Part) → i < count → slice_get old.parts.items i ≡ Some part → slice_get row i ≡ slice_get (slice_index_or ranges i []) part.place)
      → ((before : List Value) (rest : List ℕ) → AreParts f ss cs ranges before old.parts.items → old.line.items ≡ front f ss cs before (length old.parts.items) ++ rest
      → new.line.items ≡ front f ss cs before count)
      → new.parts.items ≡ take count old.parts.items → new.columns ≡ old.columns → IsFront f ss cs ranges row count new
  front_kept ranges row old new count h there same cut parts columns =
      let before = h.line.0 in
      let like : (i : ℕ) → i < count → slice_get row i ≡ slice_get before i = λ i l.
      let part = at_some old.parts.items i (omega (arith, l, there)) in
      same i part.0 l part.1 ∙ sym (h.line.1.places i part.0 part.1) in
      let long : length (take count old.parts.items) ≡ count = length-take-le count old.parts.items there in
      let kept = parts_alike ranges before row (take count old.parts.items) (fewer_parts ranges before old.parts.items h.line.1 count) (λ i l. like i (omega (arith, l, long))) in
      record {
        columns = subst (λ (cols : _). AreColumns f ss cs ranges cols.items) (sym columns) h.columns;
        line = cut before h.line.2 h.line.1 h.line.3 ∙ front_alike count before row like;
        count = ap length parts ∙ long;
        parts = subst (AreParts f ss cs ranges row) (sym parts) kept;
      }

module _ (f : Format) (ss : List Spelling) (ranges : List (List Value)) where
  -- the line after one more part
  pub line_more : (comps : List Component) (columns : List Column) (column : Column) (vs : List Value) (i : ℕ) (line new : List ℕ) → AreColumns f ss (map comp_of comps) ranges columns
      → slice_get columns i ≡ Some column → i < length comps → i < length vs → line ≡ front f ss (map comp_of comps) vs i → new ≡ line ++ part_at column.head f ss vs i
      → new ≡ front f ss (map comp_of comps) vs (i + 1)
  line_more comps columns column vs i line new h there deep long is more =
      let c = at_some comps i deep in
      let v = at_some vs i long in
      let at : slice_get (map comp_of comps) i ≡ Some (comp_of c.0) = at_map comp_of comps i c.0 c.1 in
      let head = h.heads i (comp_of c.0) column at there in
      more ∙ ap (λ l. l ++ part_at column.head f ss vs i) is
      ∙ ap (λ t. front f ss (map comp_of comps) vs i ++ t) (part_of_component f ss i (comp_of c.0) vs i v.0 column.head head v.1)
      ∙ sym (front_more f ss (map comp_of comps) i (comp_of c.0) v.0 vs at v.1)
