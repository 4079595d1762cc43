-- Lists of parts: what is read is levelled, of the stated height, and spells the symbols.
use Rattle.zf_grammar.proofs.Prelude.{◌++◌, ◌<◌, ◌∙◌, ◌∷◌, ◌≡◌, ◌≤◌, [], ap, append_assoc, arith, length, List, map, max, None, Ok, Option, refl, Some, subst, suc, sym, true, zero, ℕ, append-nil, Relation, Link, Name, Term, VarDecl, is_mark, next_of, separator, Symbol, symbol, Mark, Kind, tree_height, perhaps_height, trees_height, links_height, decls_height, AreAt, atom_level, DeclsAreLevelled, expression_level, IsLevelled, level, LinksAreLevelled, PartIsAt, first, rest, Next, Spells, SpellsDecls, SpellsFurther, SpellsLinks, SpellsNames, SpellsPart, expect, links_by, Outcome, Parser, read_names, tall, with_item, decls, items, items_from, links_from, part, read_decl, Tall, link, link_of, Links, links, new_decl, new_link, no_decls, no_links, part_of, Tree, tree_of, trees, var_decl, var_decl_of, var_decls, VarDecls, Trees, Span}
use Rattle.zf_scan.specs.declared.next.Mark.TheVariants as mark
use Rattle.zf_scan.specs.declared.token.Kind.TheVariants as k
use Rattle.zf_grammar.proofs.NamesRead.{names_ok}
use Rattle.zf_grammar.proofs.Marks.{kind_of, marked, expect_ok}
use Rattle.zf_tree.proofs.TermSeen as of
use Rattle.zf_grammar.proofs.TermSteps.{ok_pair, ok_value, ok_rest, bind_ok, if_cases}

-- lists of parts, as trees
abbrev pub trees_of : List Term → Trees
trees_of xs = trees (map tree_of xs)

abbrev pub links_of : List Link → Links
links_of xs = links (map link_of xs)

abbrev pub decls_of : List VarDecl → VarDecls
decls_of xs = var_decls (map var_decl_of xs)

-- a tree of this height stands at its place, and it is spelled so
pub record IsThere (highest least : ℕ) (t : Tree) (h : ℕ) (Spelled : Type 0) : Type 0 where
  pub fits : least ≤ level t
  pub levelled : IsLevelled t
  pub high : h ≡ tree_height t
  pub low : h ≤ highest
  pub spelled : Spelled

-- between two lists
abbrev pub Sound : ℕ → ℕ → Tall Term → List Symbol → List Symbol → Type 0
Sound highest least x ts us = IsThere highest least (tree_of x.part) x.height (Spells (tree_of x.part) ts us)

abbrev pub AreSome : {A : Type 0} → List A → Type 0
AreSome [] = ⊥
AreSome (x ∷ xs) = Unit {0}

-- what was read after the items of the first list
pub record SoundList {A : Type 0} (Levelled : List A → Type 0) (height : List A → ℕ) (Spelled : List A → List Symbol → List Symbol → Type 0)
    (highest : ℕ) (xs ys : Tall (List A)) (ts us : List Symbol) : Type 0 where
  pub more : List A
  pub items : ys.part ≡ xs.part ++ more
  pub levelled : Levelled more
  pub high : ys.height ≡ max xs.height (height more)
  pub low : xs.height ≤ highest → ys.height ≤ highest
  pub spelled : Spelled more ts us

-- further terms, of which there are some where a mark stands and a turn is left
abbrev pub SoundTerms : ℕ → ℕ → ℕ → Mark → Tall (List Term) → Tall (List Term) → List Symbol → List Symbol → Type 0
SoundTerms highest place turns m xs ys ts us =
    SoundList (λ xs. AreAt place (trees_of xs)) (λ xs. trees_height (trees_of xs))
    (λ xs ts us. SpellsFurther (kind_of m) (trees_of xs) ts us × (is_mark m (first ts) ≡ true → 0 < turns → AreSome xs)) highest xs ys ts us

-- a link
abbrev pub IsLink : (highest : ℕ) → Relation × Tree → (h : ℕ) → (ts us : List Symbol) → Type 0
IsLink highest p h ts us = IsThere highest expression_level p.1 h ((a : List Symbol) × Next (k.Relation p.0) ts a × Spells p.1 a us)

-- links, of which there may be none
abbrev pub SpellsSomeLinks : Links → List Symbol → List Symbol → Type 0
SpellsSomeLinks no_links ts us = ts ≡ us
SpellsSomeLinks (link r t ks) ts us = SpellsLinks (link r t ks) ts us

abbrev pub SoundLinks : ℕ → Tall (List Link) → Tall (List Link) → List Symbol → List Symbol → Type 0
SoundLinks highest xs ys ts us =
    SoundList (λ xs. LinksAreLevelled (links_of xs)) (λ xs. links_height (links_of xs)) (λ xs ts us. SpellsSomeLinks (links_of xs) ts us) highest xs ys ts us

-- a declaration
abbrev pub IsDecl : (highest : ℕ) → List Name × Tree → (h : ℕ) → (ts us : List Symbol) → Type 0
IsDecl highest p h ts us = IsThere highest expression_level p.1 h ((a b : List Symbol) × SpellsNames p.0 ts a × Next k.Colon a b × Spells p.1 b us)

-- further declarations, of which there may be none
abbrev pub SpellsFurtherDecls : VarDecls → List Symbol → List Symbol → Type 0
SpellsFurtherDecls no_decls ts us = ts ≡ us
SpellsFurtherDecls (var_decl ns t ds) ts us = (a : List Symbol) × Next separator ts a × SpellsDecls (var_decl ns t ds) a us

abbrev pub SoundDecls : ℕ → Tall (List VarDecl) → Tall (List VarDecl) → List Symbol → List Symbol → Type 0
SoundDecls highest xs ys ts us =
    SoundList (λ xs. DeclsAreLevelled (decls_of xs)) (λ xs. decls_height (decls_of xs)) (λ xs ts us. SpellsFurtherDecls (decls_of xs) ts us) highest xs ys ts us

-- all declarations
pub record AreDecls (highest : ℕ) (ds : Tall (List VarDecl)) (ts us : List Symbol) : Type 0 where
  pub levelled : DeclsAreLevelled (decls_of ds.part)
  pub high : ds.height ≡ decls_height (decls_of ds.part)
  pub low : ds.height ≤ highest
  pub spelled : SpellsDecls (decls_of ds.part) ts us

-- a part that may be left out
pub record IsPart (highest place : ℕ) (m : Mark) (p : Tall (Option Term)) (ts us : List Symbol) : Type 0 where
  pub levelled : PartIsAt place (part_of p.part)
  pub high : p.height ≡ perhaps_height (part_of p.part)
  pub low : p.height ≤ highest
  pub spelled : SpellsPart (kind_of m) (part_of p.part) ts us

abbrev pub Reader : Type 0
Reader = ℕ → Parser (Tall Term)

abbrev pub IsSound : ℕ → Reader → Type 0
IsSound n below = (least : ℕ) (ts us : List Symbol) (x : Tall Term) → least ≤ atom_level → below least ts ≡ Ok (x, us) → Sound n least x ts us

-- a term that was made is seen as a tree that is there
pub made : (highest least : ℕ) (t : Tree) (x : Term) (h : ℕ) (ts us vs : List Symbol) (y : Tall Term) → tree_of x ≡ t → ◌≡◌ {A = Outcome (Tall Term)} (Ok (tall x h, us)) (Ok (y, vs))
    → IsThere highest least t h (Spells t ts us) → Sound highest least y ts vs
made highest least t x h ts us vs y is e there =
    subst (λ p. Sound highest least p.0 ts p.1) (ok_pair (tall x h, us) (y, vs) e) (subst (λ t. IsThere highest least t h (Spells t ts us)) (sym is) there)

-- ---- lists of parts

pub link_first : (p : Relation × Tree) (ks : Links) (ts a b us : List Symbol) → Next (k.Relation p.0) ts a → Spells p.1 a b → SpellsSomeLinks ks b us → SpellsLinks (link p.0 p.1 ks) ts us
link_first p no_links ts a b us begins s h = (a, begins, subst (Spells p.1 a) h s)
link_first p (link r t ks) ts a b us begins s h = (a, b, begins, s, h)

pub decl_first : (p : List Name × Tree) (ds : VarDecls) (ts a b c us : List Symbol) → SpellsNames p.0 ts a → Next k.Colon a b → Spells p.1 b c
    → SpellsFurtherDecls ds c us → SpellsDecls (var_decl p.0 p.1 ds) ts us
decl_first p no_decls ts a b c us names colon s h = (a, b, names, colon, subst (Spells p.1 b) h s)
decl_first p (var_decl ns t ds) ts a b c us names colon s h = (a, b, c, h.0, names, colon, s, h.1, h.2)

-- none was read
list_end : {A : Type 0} {Levelled : List A → Type 0} {height : List A → ℕ} {Spelled : List A → List Symbol → List Symbol → Type 0} {highest : ℕ}
    {xs ys : Tall (List A)}
    {ts us : List Symbol} → Levelled [] → height [] ≡ 0 → (ts ≡ us → Spelled [] ts us) → ◌≡◌ {A = Outcome (Tall (List A))} (Ok (xs, ts)) (Ok (ys, us))
    → SoundList Levelled height Spelled highest xs ys ts us
list_end {A} {Levelled} {height} {Spelled} {highest} {xs} {ys} {ts} {us} levelled none spelled e =
    let same = ok_value xs ys ts us e in
    let high : xs.height ≡ ys.height = ap (λ s. s.height) same in
    record {
      more = [];
      items = ap (λ s. s.part) (sym same) ∙ sym (append-nil xs.part);
      levelled = levelled;
      high = omega arith;
      low = λ p. omega arith;
      spelled = spelled (ok_rest xs ys ts us e);
    }

-- one was read, and then the others
list_more : {A : Type 0} {Levelled : List A → Type 0} {height : List A → ℕ} {Spelled Others : List A → List Symbol → List Symbol → Type 0} {highest : ℕ}
    {xs ys : Tall (List A)}
    {ts a us : List Symbol} (item : A) (h : ℕ) → h ≤ highest → (others : SoundList Levelled height Others highest
    (tall (xs.part ++ item ∷ []) (max xs.height h)) ys a us)
    → Levelled (item ∷ others.more) → height (item ∷ others.more) ≡ max h (height others.more) → Spelled (item ∷ others.more) ts us
    → SoundList Levelled height Spelled highest xs ys ts us
list_more {xs = xs} item h small others levelled high spelled =
    record {
      more = item ∷ others.more;
      items = others.items ∙ append_assoc xs.part (item ∷ []) others.more;
      levelled = levelled;
      high = omega (arith, others.high);
      low = λ p. others.low (omega (arith, others.high));
      spelled = spelled;
    }

module _ (below : Reader) (n : ℕ) (ok : IsSound n below) where
  -- ---- further terms

  pub further_sound : (place : ℕ) → place ≤ atom_level → (turns : ℕ) (m : Mark) (xs ys : Tall (List Term)) (ts us : List Symbol)
      → items_from m (below place) turns xs ts ≡ Ok (ys, us) → SoundTerms n place turns m xs ys ts us
  unfolding items_from
  further_sound place fits zero m xs ys ts us e = list_end tt refl (λ same. (same, λ is p. omega arith)) e
  further_sound place fits (suc j) m xs ys ts us e =
      if_cases (is_mark m (first ts)) _ _ (ys, us) e
      (λ is e.
      let x = bind_ok (below place (rest ts)) _ (ys, us) e in
      let s = ok place (rest ts) x.1 x.0 fits x.2 in
      let more = further_sound place fits j m (with_item xs x.0) ys x.1 us x.3 in
      list_more x.0.part x.0.height s.low more (s.fits, s.levelled, more.levelled) (omega (arith, s.high))
      ((rest ts, x.1, marked m ts is, s.spelled, more.spelled.0), λ _ _. tt))
      (λ is e. list_end tt refl (λ same. (same, λ e _. cc)) e)

  -- ---- links

  links_more : (xs ys : Tall (List Link)) (ts a us : List Symbol) (r : Relation) (x : Tall Term) → IsLink n (r, tree_of x.part) x.height ts a
      → SoundLinks n (with_item xs (tall (new_link r x.part) x.height)) ys a us → SoundLinks n xs ys ts us
  links_more xs ys ts a us r x one more =
      let s = subst (λ p. IsLink n p x.height ts a) (sym (of.of-link r x.part)) one in
      list_more (new_link r x.part) x.height s.low more (s.fits, s.levelled, more.levelled) (omega (arith, s.high))
      (link_first (link_of (new_link r x.part)) (links_of more.more) ts s.spelled.0 a us s.spelled.1 s.spelled.2 more.spelled)

  abbrev pub LinksSound : ℕ → Type 0
  LinksSound j = (xs ys : Tall (List Link)) (ts us : List Symbol) → links_from below j xs ts ≡ Ok (ys, us) → SoundLinks n xs ys ts us

  pub one_link : (r : Relation) (span : Span) (ts us : List Symbol) (x : Tall Term) → below expression_level ts ≡ Ok (x, us) → IsLink n (r, tree_of x.part) x.height (symbol (k.Relation r) span ∷ ts) us
  one_link r span ts us x e =
      let s = ok expression_level ts us x (omega arith) e in
      record { fits = s.fits; levelled = s.levelled; high = s.high; low = s.low; spelled = (ts, (span, refl), s.spelled) }

  links_at : (j : ℕ) → LinksSound j → (xs ys : Tall (List Link)) (kind : Kind) (span : Span) (ts us : List Symbol)
      → links_by below (links_from below j) xs (next_of kind) (symbol kind span ∷ ts) ≡ Ok (ys, us) → SoundLinks n xs ys (symbol kind span ∷ ts) us
  links_at j again xs ys (k.Relation r) span ts us e =
      let x = bind_ok (below expression_level ts) _ (ys, us) e in
      links_more xs ys _ x.1 us r x.0 (one_link r span ts x.1 x.0 x.2) (again (with_item xs (tall (new_link r x.0.part) x.0.height)) ys x.1 us x.3)
  links_at j again xs ys _ span ts us e = list_end tt refl (λ same. same) e

  pub links_sound : (j : ℕ) → LinksSound j
  unfolding links_from
  links_sound zero xs ys ts us e = list_end tt refl (λ same. same) e
  links_sound (suc j) xs ys [] us e = list_end tt refl (λ same. same) e
  links_sound (suc j) xs ys (s ∷ ts) us e = links_at j (links_sound j) xs ys s.kind s.span ts us e

  -- ---- declarations

  decl_sound : (ts us : List Symbol) (x : Tall VarDecl) → read_decl below ts ≡ Ok (x, us) → IsDecl n (var_decl_of x.part) x.height ts us
  unfolding read_decl
  decl_sound ts us x e =
      let ns = bind_ok (read_names ts) _ (x, us) e in
      let colon = bind_ok (expect mark.Colon ns.1) _ (x, us) ns.3 in
      let y = bind_ok (below expression_level colon.1) _ (x, us) colon.3 in
      let s = ok expression_level colon.1 y.1 y.0 (omega arith) y.2 in
      let one : IsDecl n (ns.0, tree_of y.0.part) y.0.height ts y.1 =
      record {
        fits = s.fits;
        levelled = s.levelled;
        high = s.high;
        low = s.low;
        spelled = (
          ns.1,
          colon.1,
          names_ok ts ns.1 ns.0 ns.2,
          expect_ok mark.Colon ns.1 colon.1 colon.0 colon.2,
          s.spelled,
        );
      } in
      subst (λ p. IsDecl n (var_decl_of p.0.part) p.0.height ts p.1) (ok_pair (tall (new_decl ns.0 y.0.part) y.0.height, y.1) (x, us) y.3)
      (subst (λ p. IsDecl n p y.0.height ts y.1) (sym (of.of-decl ns.0 y.0.part)) one)

  decls_from_sound : (j : ℕ) (xs ys : Tall (List VarDecl)) (ts us : List Symbol) → items_from mark.Separator (read_decl below) j xs ts ≡ Ok (ys, us) → SoundDecls n xs ys ts us
  unfolding items_from
  decls_from_sound zero xs ys ts us e = list_end tt refl (λ same. same) e
  decls_from_sound (suc j) xs ys ts us e =
      if_cases (is_mark mark.Separator (first ts)) _ _ (ys, us) e
      (λ is e.
      let x = bind_ok (read_decl below (rest ts)) _ (ys, us) e in
      let s = decl_sound (rest ts) x.1 x.0 x.2 in
      let more = decls_from_sound j (with_item xs x.0) ys x.1 us x.3 in
      let spelled = decl_first (var_decl_of x.0.part) (decls_of more.more)
      (rest ts) s.spelled.0 s.spelled.1 x.1 us s.spelled.2 s.spelled.3 s.spelled.4 more.spelled in
      list_more x.0.part x.0.height s.low more (s.fits, s.levelled, more.levelled) (omega (arith, s.high)) (rest ts, marked mark.Separator ts is, spelled))
      (λ is e. list_end tt refl (λ same. same) e)

  pub decls_sound : (ds : Tall (List VarDecl)) (ts us : List Symbol) → decls below ts ≡ Ok (ds, us) → AreDecls n ds ts us
  unfolding items
  decls_sound ds ts us e =
      let x = bind_ok (read_decl below ts) _ (ds, us) e in
      let s = decl_sound ts x.1 x.0 x.2 in
      let more = decls_from_sound (length x.1) (tall (x.0.part ∷ []) x.0.height) ds x.1 us x.3 in
      let spelled = decl_first (var_decl_of x.0.part) (decls_of more.more) ts s.spelled.0 s.spelled.1 x.1 us s.spelled.2 s.spelled.3 s.spelled.4 more.spelled in
      let is : ds.part ≡ x.0.part ∷ more.more = more.items in
      let high_ds : ds.height ≡ decls_height (decls_of (x.0.part ∷ more.more)) = omega (arith, s.high, s.low, more.high) in
      record {
        levelled = subst (λ xs. DeclsAreLevelled (decls_of xs)) (sym is) (s.fits, s.levelled, more.levelled);
        high = high_ds ∙ ap (λ xs. decls_height (decls_of xs)) (sym is);
        low = more.low s.low;
        spelled = subst (λ xs. SpellsDecls (decls_of xs) ts us) (sym is) spelled;
      }

  pub part_sound : (m : Mark) (place : ℕ) (p : Tall (Option Term)) (ts us : List Symbol) → place ≤ atom_level → part below m place ts ≡ Ok (p, us) → IsPart n place m p ts us
  unfolding part
  part_sound m place p ts us fits e =
      if_cases (is_mark m (first ts)) _ _ (p, us) e
      (λ is e.
      let x = bind_ok (below place (rest ts)) _ (p, us) e in
      let s = ok place (rest ts) x.1 x.0 fits x.2 in
      subst (λ q. IsPart n place m q.0 ts q.1) (ok_pair (tall (Some x.0.part) x.0.height, x.1) (p, us) x.3)
      (record { levelled = (s.fits, s.levelled); high = s.high; low = s.low; spelled = (rest ts, marked m ts is, s.spelled) }))
      (λ is e.
      subst (λ q. IsPart n place m q.0 ts q.1) (ok_pair (tall None 0, ts) (p, us) e) (record { levelled = tt; high = refl; low = omega arith; spelled = refl }))
