-- The grammar of ZRM 6: `Spells tree ts rest` where `ts` are the symbols of the tree, whose span is from the first to the last, and then `rest`.
use Rattle.std.specs.Prelude.{◌≡◌, List, [], ◌∷◌}
use Rattle.zf_grammar.specs.Prelude.{Kind, Minus, And, Or, Plain, Delta, Xi, RefMark, Name, SchemaRef, Listed, Operator, Unary, nowhere, separator, Symbol, symbol, abbreviation, absent, binary, both, BoxTree, bracket, comprehension, chain, constant, DeclTree, definition, either, empty_set, free, given, include, link, Links, listed, named, no_decls, no_links, no_trees, numeral, ParagraphTree, Perhaps, present, quantified, schema_box, schema_bracket, schema_reference, schema_span, schema_text, SchemaTree, Span, span_of, Tree, tree, unary, var_decl, VarDecls, vars, zed, Trees}
use Rattle.zf_scan.specs.declared.token.Kind.TheVariants as k
use Rattle.zf_tree.specs.declared.operator.Listed.TheVariants as list
use Rattle.zf_tree.specs.declared.operator.Operator.TheVariants as operator
use Rattle.zf_tree.specs.declared.operator.Sign.{Sign}
use Rattle.zf_tree.specs.declared.operator.Sign.TheVariants as sign
use Rattle.zf_tree.specs.declared.operator.Unary.TheVariants as one

-- the first symbol, with its place, and the rest
abbrev pub Starts : Kind → Span → List Symbol → List Symbol → Type 0
Starts kind span ts rest = ts ≡ symbol kind span ∷ rest

-- the first symbol, at any place, and the rest
abbrev pub Next : Kind → List Symbol → List Symbol → Type 0
Next kind ts rest = (span : Span) × Starts kind span ts rest

-- the first symbol, with which the part of the source begins, or ends
abbrev pub Begins : Kind → Span → List Symbol → List Symbol → Type 0
Begins kind s ts rest = (span : Span) × Starts kind span ts rest × (s.start ≡ span.start)

abbrev pub Ends : Kind → Span → List Symbol → List Symbol → Type 0
Ends kind s ts rest = (span : Span) × Starts kind span ts rest × (s.stop ≡ span.stop)

-- from where one part begins to where the other ends
abbrev pub through : Span → Span → Span
through first last = record { start = first.start; stop = last.stop }

-- one or more, each spelled in this way, parted by the symbol
abbrev pub PartedBy : {A : Type 0} → Kind → (A → List Symbol → List Symbol → Type 0) → List A → List Symbol → List Symbol → Type 0
PartedBy kind spells [] ts rest = ⊥
PartedBy kind spells (x ∷ []) ts rest = spells x ts rest
PartedBy kind spells (x ∷ (y ∷ ys)) ts rest = (a b : List Symbol) × spells x ts a × Next kind a b × PartedBy kind spells (y ∷ ys) b rest

abbrev pub SpellsName : Name → List Symbol → List Symbol → Type 0
SpellsName n ts rest = Starts (k.Name n.base n.strokes) n.span ts rest

abbrev pub SpellsNames : List Name → List Symbol → List Symbol → Type 0
SpellsNames = PartedBy k.Comma SpellsName

abbrev pub sign_kind : Sign → Kind
sign_kind (sign.Symbol s) = k.Prefix s
sign_kind sign.Minus = k.Infix Minus

-- the last of the terms, or, without any, this part
abbrev pub last_tree : Span → Trees → Span
last_tree s no_trees = s
last_tree s (tree t ts) = last_tree (span_of t) ts

-- from the first of the terms to the last
abbrev pub IsOver : Span → Trees → Type 0
IsOver s no_trees = ⊥
IsOver s (tree t ts) = s ≡ through (span_of t) (last_tree (span_of t) ts)

-- what stands before and after the operand
abbrev pub Before : Unary → Span → Tree → List Symbol → List Symbol → Type 0
Before (one.Sign op) s t ts rest = Begins (sign_kind op) s ts rest
Before one.Not s t ts rest = Begins k.Not s ts rest
Before one.Inverse s t ts rest = (s.start ≡ (span_of t).start) × (ts ≡ rest)

abbrev pub After : Unary → Span → Tree → List Symbol → List Symbol → Type 0
After one.Inverse s t ts rest = Ends k.Inverse s ts rest
After _ s t ts rest = (s.stop ≡ (span_of t).stop) × (ts ≡ rest)

-- what stands between two operands, and after them
abbrev pub Between : Operator → List Symbol → List Symbol → Type 0
Between (operator.Function op) ts rest = Next (k.Infix op) ts rest
Between (operator.Generic a) ts rest = Next (k.Arrow a) ts rest
Between (operator.Connective c) ts rest = Next (k.Connective c) ts rest
Between operator.Application ts rest = ts ≡ rest
Between operator.Image ts rest = Next k.OpenImage ts rest

abbrev pub Behind : Operator → Span → Tree → List Symbol → List Symbol → Type 0
Behind operator.Image s t ts rest = Ends k.CloseImage s ts rest
Behind _ s t ts rest = (s.stop ≡ (span_of t).stop) × (ts ≡ rest)

-- what stands before several terms, between each two of them, and after them
abbrev pub Opens : Listed → Span → Trees → List Symbol → List Symbol → Type 0
Opens list.Tuple s us ts rest = Begins k.OpenRound s ts rest
Opens list.Display s us ts rest = Begins k.OpenBrace s ts rest
Opens list.Product s us ts rest = IsOver s us × (ts ≡ rest)

abbrev pub parting : Listed → Kind
parting list.Product = k.Cross
parting _ = k.Comma

abbrev pub Closes : Listed → Span → List Symbol → List Symbol → Type 0
Closes list.Tuple s ts rest = Ends k.CloseRound s ts rest
Closes list.Display s ts rest = Ends k.CloseBrace s ts rest
Closes list.Product s ts rest = ts ≡ rest

-- the last operand of the links, or, without any, this part
abbrev pub last_link : Span → Links → Span
last_link s no_links = s
last_link s (link r t ks) = last_link (span_of t) ks

-- from the first operand of a chain to the last
abbrev pub over_links : Tree → Links → Span
over_links t ks = through (span_of t) (last_link (span_of t) ks)

abbrev mutual
  pub Spells : Tree → List Symbol → List Symbol → Type 0
  Spells (named n) ts rest = SpellsName n ts rest
  Spells (numeral s v) ts rest = Starts (k.Number v) s ts rest
  Spells (constant s c) ts rest = Starts (k.Constant c) s ts rest
  Spells (empty_set s t) ts rest = (a b c : List Symbol) × Begins k.EmptySet s ts a × Next k.OpenSquare a b × Spells t b c × Ends k.CloseSquare s c rest
  Spells (bracket s t) ts rest = (a b : List Symbol) × Begins k.OpenRound s ts a × Spells t a b × Ends k.CloseRound s b rest
  Spells (listed s form us) ts rest = (a b : List Symbol) × Opens form s us ts a × SpellsItems (parting form) us a b × Closes form s b rest
  Spells (comprehension s ds p t) ts rest =
      (a b c d : List Symbol) × Begins k.OpenBrace s ts a × SpellsDecls ds a b × SpellsPart k.Bar p b c × SpellsPart k.At t c d × Ends k.CloseBrace s d rest
  Spells (unary s op t) ts rest = (a b : List Symbol) × Before op s t ts a × Spells t a b × After op s t b rest
  Spells (binary s op x y) ts rest =
      (a b c : List Symbol) × (s.start ≡ (span_of x).start) × Spells x ts a × Between op a b × Spells y b c × Behind op s y c rest
  Spells (chain s t ks) ts rest = (a : List Symbol) × (s ≡ over_links t ks) × Spells t ts a × SpellsLinks ks a rest
  Spells (quantified s q ds p t) ts rest =
      (a b c d : List Symbol) × Begins (k.Quantifier q) s ts a × SpellsDecls ds a b × SpellsPart k.Bar p b c × Next k.At c d × Spells t d rest
      × (s.stop ≡ (span_of t).stop)

  -- one or more, parted by the symbol
  pub SpellsItems : Kind → Trees → List Symbol → List Symbol → Type 0
  SpellsItems kind no_trees ts rest = ⊥
  SpellsItems kind (tree t us) ts rest = (a : List Symbol) × Spells t ts a × SpellsFurther kind us a rest

  pub SpellsFurther : Kind → Trees → List Symbol → List Symbol → Type 0
  SpellsFurther kind no_trees ts rest = ts ≡ rest
  SpellsFurther kind (tree t us) ts rest = (a b : List Symbol) × Next kind ts a × Spells t a b × SpellsFurther kind us b rest

  -- the links of a chain, of which there is at least one
  pub SpellsLinks : Links → List Symbol → List Symbol → Type 0
  SpellsLinks no_links ts rest = ⊥
  SpellsLinks (link r t no_links) ts rest = (a : List Symbol) × Next (k.Relation r) ts a × Spells t a rest
  SpellsLinks (link r t (link s u ks)) ts rest = (a b : List Symbol) × Next (k.Relation r) ts a × Spells t a b × SpellsLinks (link s u ks) b rest

  -- declarations of bound variables, parted by separators
  pub SpellsDecls : VarDecls → List Symbol → List Symbol → Type 0
  SpellsDecls no_decls ts rest = ⊥
  SpellsDecls (var_decl ns t no_decls) ts rest = (a b : List Symbol) × SpellsNames ns ts a × Next k.Colon a b × Spells t b rest
  SpellsDecls (var_decl ns t (var_decl ms u ds)) ts rest =
      (a b c d : List Symbol) × SpellsNames ns ts a × Next k.Colon a b × Spells t b c × Next separator c d × SpellsDecls (var_decl ms u ds) d rest

  -- a part that may be left out, after its symbol
  pub SpellsPart : Kind → Perhaps → List Symbol → List Symbol → Type 0
  SpellsPart kind absent ts rest = ts ≡ rest
  SpellsPart kind (present t) ts rest = (a : List Symbol) × Next kind ts a × Spells t a rest

-- ---- declarations, schema expressions, paragraphs and boxes

abbrev pub SpellsMarked : RefMark → Name → List Symbol → List Symbol → Type 0
SpellsMarked Plain n ts rest = SpellsName n ts rest
SpellsMarked Delta n ts rest = (a : List Symbol) × Next k.Delta ts a × SpellsName n a rest
SpellsMarked Xi n ts rest = (a : List Symbol) × Next k.Xi ts a × SpellsName n a rest

abbrev pub SpellsRef : SchemaRef → List Symbol → List Symbol → Type 0
SpellsRef r = SpellsMarked r.mark r.name

abbrev pub SpellsDecl : DeclTree → List Symbol → List Symbol → Type 0
SpellsDecl (vars ns t) ts rest = (a b : List Symbol) × SpellsNames ns ts a × Next k.Colon a b × Spells t b rest
SpellsDecl (include r) ts rest = SpellsRef r ts rest

-- predicates, parted by separators, after the symbol; without any, nothing
abbrev pub SpellsPredicates : Kind → List Tree → List Symbol → List Symbol → Type 0
SpellsPredicates kind [] ts rest = ts ≡ rest
SpellsPredicates kind (p ∷ ps) ts rest = (a : List Symbol) × Next kind ts a × PartedBy separator Spells (p ∷ ps) a rest

-- the place of the first symbol
abbrev pub here : List Symbol → Span
here [] = nowhere
here (t ∷ ts) = t.span

abbrev pub SpellsSchema : SchemaTree → List Symbol → List Symbol → Type 0
SpellsSchema (schema_text s ds ps) ts rest =
    (a b c : List Symbol) × Begins k.OpenSquare s ts a × PartedBy separator SpellsDecl ds a b × SpellsPredicates k.Bar ps b c × Ends k.CloseSquare s c rest
SpellsSchema (schema_reference s r) ts rest = (s ≡ through (here ts) r.name.span) × SpellsRef r ts rest
SpellsSchema (both s x y) ts rest =
    (a b : List Symbol) × (s ≡ through (schema_span x) (schema_span y)) × SpellsSchema x ts a × Next (k.Connective And) a b × SpellsSchema y b rest
SpellsSchema (either s x y) ts rest =
    (a b : List Symbol) × (s ≡ through (schema_span x) (schema_span y)) × SpellsSchema x ts a × Next (k.Connective Or) a b × SpellsSchema y b rest
SpellsSchema (schema_bracket s x) ts rest = (a b : List Symbol) × Begins k.OpenRound s ts a × SpellsSchema x a b × Ends k.CloseRound s b rest

abbrev pub SpellsParagraph : ParagraphTree → List Symbol → List Symbol → Type 0
SpellsParagraph (given ns) ts rest = (a b : List Symbol) × Next k.OpenSquare ts a × SpellsNames ns a b × Next k.CloseSquare b rest
SpellsParagraph (free n ns) ts rest = (a b : List Symbol) × SpellsName n ts a × Next k.FreeType a b × PartedBy k.Bar SpellsName ns b rest
SpellsParagraph (abbreviation n t) ts rest = (a b : List Symbol) × SpellsName n ts a × Next k.Abbreviates a b × Spells t b rest
SpellsParagraph (definition n x) ts rest = (a b : List Symbol) × (n.strokes ≡ []) × SpellsName n ts a × Next k.Defines a b × SpellsSchema x b rest

abbrev pub SpellsBox : BoxTree → List Symbol → List Symbol → Type 0
SpellsBox (zed ps) ts rest = (a b : List Symbol) × Next k.BeginZed ts a × PartedBy separator SpellsParagraph ps a b × Next k.EndBox b rest
SpellsBox (schema_box n ds ps) ts rest =
    (a b c : List Symbol) × (n.strokes ≡ []) × Starts (k.BeginSchema n.base) n.span ts a × PartedBy separator SpellsDecl ds a b × SpellsPredicates k.Where ps b c
    × Next k.EndBox c rest

abbrev pub SpellsBoxes : List BoxTree → List Symbol → Type 0
SpellsBoxes [] ts = ts ≡ []
SpellsBoxes (b ∷ bs) ts = (a : List Symbol) × SpellsBox b ts a × SpellsBoxes bs a
