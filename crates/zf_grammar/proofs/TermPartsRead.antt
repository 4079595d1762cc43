-- Lists of parts: what levelled trees spell is read.
use Rattle.zf_grammar.proofs.Prelude.{◌++◌, ◌<◌, ◌∙◌, ◌∷◌, ◌≡◌, ◌≤◌, [], ap, append_assoc, arith, Bool, false, length, List, max, None, Ok, Option, refl, Some, subst, suc, sym, true, zero, ℕ, append-nil, Relation, Link, Name, Term, VarDecl, is_mark, next_of, Symbol, Mark, Kind, tree_height, perhaps_height, trees_height, links_height, decls_height, AreAt, chain_level, DeclsAreLevelled, expression_level, IsLevelled, level, LinksAreLevelled, PartIsAt, first, rest, Next, Spells, SpellsDecls, SpellsFurther, SpellsLinks, SpellsNames, SpellsPart, begins_decl, binds, links_by, Outcome, Parser, tall, with_item, decls, further, items, items_from, links_from, part, read_decl, Tall, absent, link, Links, named, new_decl, new_link, no_decls, no_links, no_trees, part_of, Perhaps, present, Tree, tree, tree_of, var_decl, VarDecls, Trees, Span}
use Rattle.zf_scan.specs.declared.next.Mark.TheVariants as mark
use Rattle.zf_scan.specs.declared.next.Next as code
use Rattle.zf_scan.specs.declared.token.Kind.TheVariants as k
use Rattle.zf_grammar.proofs.Marks.{kind_of, seen, passed, next_shorter, ok_expect}
use Rattle.zf_grammar.proofs.NamesRead.{names_shorter, ok_names}
use Rattle.zf_grammar.proofs.TermFirsts.{only_name, term_shorter}
use Rattle.zf_tree.proofs.TermSeen as of
use Rattle.zf_grammar.proofs.TermParts.{trees_of, links_of, decls_of, SpellsSomeLinks, SpellsFurtherDecls}

-- a term is read that is seen as this tree, with its height, and these symbols are left
pub record IsRead (o : Outcome (Tall Term)) (t : Tree) (us : List Symbol) : Type 0 where
  pub term : Term
  pub is : tree_of term ≡ t
  pub read : o ≡ Ok (tall term (tree_height t), us)

abbrev pub Reader : Type 0
Reader = ℕ → Parser (Tall Term)

-- after the items of the first list those of a tree were read, which is of this height
pub record ReadList {A T : Type 0} (seen : List A → T) (t : T) (h : ℕ) (xs : Tall (List A)) (o : Outcome (Tall (List A))) (us : List Symbol) : Type 0 where
  pub more : List A
  pub are : seen more ≡ t
  pub read : o ≡ Ok (tall (xs.part ++ more) (max xs.height h), us)

none_read : {A : Type 0} (xs : Tall (List A)) (ts us : List Symbol) → ts ≡ us
    → ◌≡◌ {A = Outcome (Tall (List A))} (Ok (xs, ts)) (Ok (tall (xs.part ++ []) (max xs.height 0), us))
none_read xs ts us e =
    let high : xs.height ≡ max xs.height 0 = omega arith in
    ap (λ ts. Ok (xs, ts)) e ∙ ap (λ h. Ok (tall xs.part h, us)) high ∙ ap (λ ys. Ok (tall ys (max xs.height 0), us)) (sym (append-nil xs.part))

one_read : {A : Type 0} (xs : Tall (List A)) (x : A) (h : ℕ) (more : List A) (k : ℕ) (us : List Symbol)
    → ◌≡◌ {A = Outcome (Tall (List A))} (Ok (tall ((xs.part ++ x ∷ []) ++ more) (max (max xs.height h) k), us))
    (Ok (tall (xs.part ++ x ∷ more) (max xs.height (max h k)), us))
one_read xs x h more k us =
    let high : max (max xs.height h) k ≡ max xs.height (max h k) = omega arith in
    ap (λ n. Ok (tall ((xs.part ++ x ∷ []) ++ more) n, us)) high ∙ ap (λ ys. Ok (tall ys (max xs.height (max h k)), us)) (append_assoc xs.part (x ∷ []) more)

-- what follows a tree at this place does not go on with it
abbrev pub IsComplete : ℕ → Reader → Type 0
IsComplete n below = (least : ℕ) (t : Tree) (ts us : List Symbol) → least ≤ level t → IsLevelled t → tree_height t ≤ n → Spells t ts us → binds (first us) ≤ least → IsRead (below least ts) t us

pub some_height : (t : Tree) → 0 < tree_height t
some_height (named n) = omega arith
some_height _ = omega arith

pub from_false : (b : Bool) → (b ≡ true → ⊥) → b ≡ false
from_false true never = absurd (never refl)
from_false false never = refl

pub first_is : {kind : Kind} (P : code.Next → Type 0) (ts us : List Symbol) → Next kind ts us → P (next_of kind) → P (first ts)
first_is P ts us h p = subst (λ ts. P (first ts)) (sym h.1) p

pub part_first : (kind : Kind) (P : code.Next → Type 0) (p : Perhaps) (ts us : List Symbol) → SpellsPart kind p ts us → P (next_of kind) → P (first us) → P (first ts)
part_first kind P absent ts us h begins ends = subst (λ ts. P (first ts)) (sym h) ends
part_first kind P (present t) ts us h begins ends = first_is P ts h.0 h.1 begins

abbrev pub SplitLinks : Relation → Tree → Links → List Symbol → List Symbol → Type 0
SplitLinks r t ks ts us = (a b : List Symbol) × Next (k.Relation r) ts a × Spells t a b × SpellsSomeLinks ks b us

pub split_links : (r : Relation) (t : Tree) (ks : Links) (ts us : List Symbol) → SpellsLinks (link r t ks) ts us → SplitLinks r t ks ts us
split_links r t no_links ts us h = (h.0, us, h.1, h.2, refl)
split_links r t (link s u ks) ts us h = (h.0, h.1, h.2, h.3, h.4)

abbrev pub SplitDecls : List Name → Tree → VarDecls → List Symbol → List Symbol → Type 0
SplitDecls ns t ds ts us = (a b c : List Symbol) × SpellsNames ns ts a × Next k.Colon a b × Spells t b c × SpellsFurtherDecls ds c us

split_decls : (ns : List Name) (t : Tree) (ds : VarDecls) (ts us : List Symbol) → SpellsDecls (var_decl ns t ds) ts us → SplitDecls ns t ds ts us
split_decls ns t no_decls ts us h = (h.0, h.1, us, h.2, h.3, h.4, refl)
split_decls ns t (var_decl ms u ds) ts us h = (h.0, h.1, h.2, h.4, h.5, h.6, (h.3, h.7, h.8))

-- ---- where declarations begin

names_begin : (ns : List Name) (ts us : List Symbol) → SpellsNames ns ts us → begins_decl false us ≡ true → begins_decl true ts ≡ true
names_begin [] ts us h is = absurd h
names_begin (n ∷ []) ts us h is = ap (begins_decl true) h ∙ is
names_begin (n ∷ (m ∷ ns)) ts us h is =
    let more = names_begin (m ∷ ns) h.1 us h.4 is in
    ap (begins_decl true) h.2 ∙ ap (begins_decl false) h.3.1 ∙ more

pub decls_begin : (ds : VarDecls) (ts us : List Symbol) → SpellsDecls ds ts us → begins_decl true ts ≡ true
decls_begin no_decls ts us h = absurd h
decls_begin (var_decl ns t ds) ts us h =
    let s = split_decls ns t ds ts us h in
    names_begin ns ts s.0 s.3 (ap (begins_decl false) s.4.1)

pub items_do_not : (t : Tree) (vs : Trees) (ts a us ws : List Symbol) → IsLevelled t → AreAt expression_level vs → Spells t ts a
    → SpellsFurther k.Comma vs a us → Next k.CloseBrace us ws → begins_decl true ts ≡ true → ⊥
items_do_not t no_trees ts a us ws lev all s h end is =
    let e : false ≡ true = sym (ap (begins_decl false) end.1) ∙ sym (ap (begins_decl false) h) ∙ only_name t ts a lev s is in
    cc
items_do_not t (tree u vs) ts a us ws lev all s h end is =
    let e : begins_decl true h.0 ≡ true = sym (ap (begins_decl false) h.2.1) ∙ only_name t ts a lev s is in
    items_do_not u vs h.0 h.1 us ws all.1 all.2 h.3 h.4 end e

module _ (below : Reader) (n : ℕ) (ok : IsComplete n below) where
  -- ---- lists of parts

  -- symbols that part terms at this place
  abbrev pub Parts : Mark → ℕ → Type 0
  Parts m place = binds (next_of (kind_of m)) ≤ place

  pub further_stops : (m : Mark) (place : ℕ) → Parts m place → (vs : Trees) (ts us : List Symbol) → binds (first us) ≤ place → SpellsFurther (kind_of m) vs ts us → binds (first ts) ≤ place
  further_stops m place parts no_trees ts us stop h = omega (arith, ap (λ ts. binds (first ts)) h)
  further_stops m place parts (tree t vs) ts us stop h = first_is (λ x. binds x ≤ place) ts h.0 h.2 parts

  further_complete : (m : Mark) (place : ℕ) → Parts m place → (vs : Trees) (j : ℕ) (xs : Tall (List Term)) (ts us : List Symbol) → AreAt place vs
      → trees_height vs ≤ n → length ts ≤ j → is_mark m (first us) ≡ false → binds (first us) ≤ place
      → SpellsFurther (kind_of m) vs ts us → ReadList trees_of vs (trees_height vs) xs (items_from m (below place) j xs ts) us
  unfolding items_from
  further_complete m place parts no_trees zero xs ts us lev low fuel none stop h = record { more = []; are = refl; read = none_read xs ts us h }
  further_complete m place parts no_trees (suc j) xs ts us lev low fuel none stop h =
      let is : is_mark m (first ts) ≡ false = ap (λ ts. is_mark m (first ts)) h ∙ none in
      record { more = []; are = refl; read = rw is (none_read xs ts us h) }
  further_complete m place parts (tree t vs) zero xs ts us lev low fuel none stop h = absurd (omega (arith, next_shorter ts h.0 h.2))
  further_complete m place parts (tree t vs) (suc j) xs ts us lev low fuel none stop h =
      let x = ok place t h.0 h.1 lev.0 lev.1 (omega arith) h.3 (further_stops m place parts vs h.1 us stop h.4) in
      let small : length h.1 ≤ j = omega (arith, next_shorter ts h.0 h.2, term_shorter t h.0 h.1 h.3) in
      let more = further_complete m place parts vs j (with_item xs (tall x.term (tree_height t))) h.1 us lev.2 (omega arith) small none stop h.4 in
      let is = seen m ts h.0 h.2 in
      let item : below place (rest ts) ≡ Ok (tall x.term (tree_height t), h.1) = ap (below place) (passed ts h.0 h.2) ∙ x.read in
      let is_t = x.is in
      let are = more.are in
      record { more = x.term ∷ more.more; are = cc; read = rw (is, item) (more.read ∙ one_read xs x.term (tree_height t) more.more (trees_height vs) us) }

  -- all terms, of which the first is read
  pub record ReadAll (m : Mark) (place : ℕ) (x : Term) (t : Tree) (vs : Trees) (a us : List Symbol) : Type 0 where
    pub all : List Term
    pub are : trees_of all ≡ tree t vs
    pub read : further below m place (tall x (tree_height t)) a ≡ Ok (tall all (trees_height (tree t vs)), us)

  pub all_complete : (m : Mark) (place : ℕ) → Parts m place → (x : Term) (t : Tree) (vs : Trees) (a us : List Symbol) → tree_of x ≡ t → AreAt place vs
      → trees_height vs ≤ n → is_mark m (first us) ≡ false → binds (first us) ≤ place
      → SpellsFurther (kind_of m) vs a us → ReadAll m place x t vs a us
  unfolding further
  all_complete m place parts x t vs a us is lev low none stop h =
      let r = further_complete m place parts vs (length a) (tall (x ∷ []) (tree_height t)) a us lev low (omega arith) none stop h in
      let are = r.are in
      record { all = x ∷ r.more; are = cc; read = r.read }

  links_stop : (ks : Links) (ts us : List Symbol) → binds (first us) ≤ chain_level → SpellsSomeLinks ks ts us → binds (first ts) ≤ expression_level
  links_stop no_links ts us stop h = omega (arith, ap (λ ts. binds (first ts)) h)
  links_stop (link r t ks) ts us stop h =
      let s = split_links r t ks ts us h in
      first_is (λ x. binds x ≤ expression_level) ts s.0 s.2 (omega arith)

  links_end : (xs : Tall (List Link)) (j : ℕ) (us : List Symbol) → binds (first us) ≤ chain_level → links_from below j xs us ≡ Ok (xs, us)
  unfolding links_from
  links_end xs zero us stop = refl
  links_end xs (suc j) [] stop = refl
  links_end xs (suc j) (s ∷ us) stop = at s.kind s.span stop
    where
      at : (kind : Kind) (span : Span) → binds (next_of kind) ≤ chain_level → links_by below (links_from below j) xs (next_of kind) (s ∷ us) ≡ Ok (xs, s ∷ us)
      at (k.Relation r) span stop = absurd (omega arith)
      at _ span stop = refl

  pub links_complete : (ks : Links) (j : ℕ) (xs : Tall (List Link)) (ts us : List Symbol) → LinksAreLevelled ks → links_height ks ≤ n → length ts ≤ j
      → binds (first us) ≤ chain_level → SpellsSomeLinks ks ts us → ReadList links_of ks (links_height ks) xs (links_from below j xs ts) us
  unfolding links_from
  links_complete no_links j xs ts us lev low fuel stop h =
      record { more = []; are = refl; read = ap (links_from below j xs) h ∙ links_end xs j us stop ∙ none_read xs us us refl }
  links_complete (link r t ks) zero xs ts us lev low fuel stop h =
      let s = split_links r t ks ts us h in
      absurd (omega (arith, next_shorter ts s.0 s.2))
  links_complete (link r t ks) (suc j) xs ts us lev low fuel stop h =
      let s = split_links r t ks ts us h in
      let x = ok expression_level t s.0 s.1 lev.0 lev.1 (omega arith) s.3 (links_stop ks s.1 us stop s.4) in
      let small : length s.1 ≤ j = omega (arith, next_shorter ts s.0 s.2, term_shorter t s.0 s.1 s.3) in
      let more = links_complete ks j (with_item xs (tall (new_link r x.term) (tree_height t))) s.1 us lev.2 (omega arith) small stop s.4 in
      let one = of.of-link r x.term in
      record {
        more = new_link r x.term ∷ more.more;
        are = ap (λ p. link p.0 p.1 (links_of more.more)) one ∙ ap (λ t. link r t (links_of more.more)) x.is ∙ ap (link r t) more.are;
        read = ap (links_from below (suc j) xs) s.2.1 ∙ rw x.read (more.read ∙ one_read xs (new_link r x.term) (tree_height t) more.more (links_height ks) us);
      }

  -- ---- declarations

  pub record ReadDecl (ns : List Name) (t : Tree) (ts us : List Symbol) : Type 0 where
    pub term : Term
    pub is : tree_of term ≡ t
    pub read : read_decl below ts ≡ Ok (tall (new_decl ns term) (tree_height t), us)

  decl_complete : (ns : List Name) (t : Tree) (ts a b us : List Symbol) → expression_level ≤ level t → IsLevelled t → tree_height t ≤ n → SpellsNames ns ts a
      → Next k.Colon a b → Spells t b us → binds (first us) ≤ expression_level → ReadDecl ns t ts us
  unfolding read_decl
  decl_complete ns t ts a b us fits lev low names colon h stop =
      let x = ok expression_level t b us fits lev low h stop in
      let no_comma : is_mark mark.Comma (first a) ≡ false = first_is (λ x. is_mark mark.Comma x ≡ false) a b colon refl in
      record { term = x.term; is = x.is; read = rw (ok_names ns ts a no_comma names, ok_expect mark.Colon a b colon, x.read) refl }

  decls_stop : (ds : VarDecls) (ts us : List Symbol) → binds (first us) ≤ expression_level → SpellsFurtherDecls ds ts us → binds (first ts) ≤ expression_level
  decls_stop no_decls ts us stop h = omega (arith, ap (λ ts. binds (first ts)) h)
  decls_stop (var_decl ns t ds) ts us stop h = first_is (λ x. binds x ≤ expression_level) ts h.0 h.1 (omega arith)

  decls_are : (ns : List Name) (x : Term) (t : Tree) (es : List VarDecl) (ds : VarDecls) → tree_of x ≡ t → decls_of es ≡ ds → decls_of (new_decl ns x ∷ es) ≡ var_decl ns t ds
  decls_are ns x t es ds is are =
      ap (λ p. var_decl p.0 p.1 (decls_of es)) (of.of-decl ns x) ∙ ap (λ t. var_decl ns t (decls_of es)) is ∙ ap (var_decl ns t) are

  decls_from_complete : (ds : VarDecls) (j : ℕ) (xs : Tall (List VarDecl)) (ts us : List Symbol) → DeclsAreLevelled ds → decls_height ds ≤ n → length ts ≤ j
      → is_mark mark.Separator (first us) ≡ false → binds (first us) ≤ expression_level
      → SpellsFurtherDecls ds ts us → ReadList decls_of ds (decls_height ds) xs (items_from mark.Separator (read_decl below) j xs ts) us
  unfolding items_from
  decls_from_complete no_decls zero xs ts us lev low fuel none stop h = record { more = []; are = refl; read = none_read xs ts us h }
  decls_from_complete no_decls (suc j) xs ts us lev low fuel none stop h =
      let is : is_mark mark.Separator (first ts) ≡ false = ap (λ ts. is_mark mark.Separator (first ts)) h ∙ none in
      record { more = []; are = refl; read = rw is (none_read xs ts us h) }
  decls_from_complete (var_decl ns t ds) zero xs ts us lev low fuel none stop h = absurd (omega (arith, next_shorter ts h.0 h.1))
  decls_from_complete (var_decl ns t ds) (suc j) xs ts us lev low fuel none stop h =
      let s = split_decls ns t ds h.0 us h.2 in
      let x = decl_complete ns t h.0 s.0 s.1 s.2 lev.0 lev.1 (omega arith) s.3 s.4 s.5 (decls_stop ds s.2 us stop s.6) in
      let small : length s.2 ≤ j = omega (arith, next_shorter ts h.0 h.1, names_shorter ns h.0 s.0 s.3, next_shorter s.0 s.1 s.4, term_shorter t s.1 s.2 s.5) in
      let more = decls_from_complete ds j (with_item xs (tall (new_decl ns x.term) (tree_height t))) s.2 us lev.2 (omega arith) small none stop s.6 in
      let is = seen mark.Separator ts h.0 h.1 in
      let item : read_decl below (rest ts) ≡ Ok (tall (new_decl ns x.term) (tree_height t), s.2) = ap (read_decl below) (passed ts h.0 h.1) ∙ x.read in
      record {
        more = new_decl ns x.term ∷ more.more;
        are = decls_are ns x.term t more.more ds x.is more.are;
        read = rw (is, item) (more.read ∙ one_read xs (new_decl ns x.term) (tree_height t) more.more (decls_height ds) us);
      }

  pub record ReadAllDecls (ds : VarDecls) (ts us : List Symbol) : Type 0 where
    pub all : List VarDecl
    pub are : decls_of all ≡ ds
    pub read : decls below ts ≡ Ok (tall all (decls_height ds), us)

  pub decls_complete : (ds : VarDecls) (ts us : List Symbol) → DeclsAreLevelled ds → decls_height ds ≤ n → is_mark mark.Separator (first us) ≡ false
      → binds (first us) ≤ expression_level → SpellsDecls ds ts us → ReadAllDecls ds ts us
  unfolding items
  decls_complete no_decls ts us lev low none stop h = absurd h
  decls_complete (var_decl ns t ds) ts us lev low none stop h =
      let s = split_decls ns t ds ts us h in
      let x = decl_complete ns t ts s.0 s.1 s.2 lev.0 lev.1 (omega arith) s.3 s.4 s.5 (decls_stop ds s.2 us stop s.6) in
      let more = decls_from_complete ds (length s.2) (tall (new_decl ns x.term ∷ []) (tree_height t)) s.2 us lev.2 (omega arith) (omega arith) none stop s.6 in
      record { all = new_decl ns x.term ∷ more.more; are = decls_are ns x.term t more.more ds x.is more.are; read = rw x.read more.read }

  pub record ReadPart (m : Mark) (place : ℕ) (p : Perhaps) (ts us : List Symbol) : Type 0 where
    pub term : Option Term
    pub is : part_of term ≡ p
    pub read : part below m place ts ≡ Ok (tall term (perhaps_height p), us)

  pub part_complete : (m : Mark) (place : ℕ) (p : Perhaps) (ts us : List Symbol) → PartIsAt place p → perhaps_height p ≤ n → is_mark m (first us) ≡ false
      → binds (first us) ≤ place → SpellsPart (kind_of m) p ts us → ReadPart m place p ts us
  unfolding part
  part_complete m place absent ts us lev low none stop h =
      let is : is_mark m (first ts) ≡ false = ap (λ ts. is_mark m (first ts)) h ∙ none in
      record { term = None; is = refl; read = rw is (ap (λ ts. Ok (tall None 0, ts)) h) }
  part_complete m place (present t) ts us lev low none stop h =
      let x = ok place t h.0 us lev.0 lev.1 low h.2 stop in
      let is = seen m ts h.0 h.1 in
      let item : below place (rest ts) ≡ Ok (tall x.term (tree_height t), us) = ap (below place) (passed ts h.0 h.1) ∙ x.read in
      record { term = Some x.term; is = ap present x.is; read = rw (is, item) refl }
