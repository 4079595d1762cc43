-- The height of a term or schema expression: 1, or one more than the highest term, declared set or schema expression directly in it.
use Rattle.std.specs.Prelude.{ℕ, ◌+◌, max, List, [], ◌∷◌}
use Rattle.zf_grammar.specs.Prelude.{abbreviation, absent, binary, both, BoxTree, bracket, comprehension, chain, DeclTree, definition, either, empty_set, include, link, Links, listed, no_decls, no_links, no_trees, ParagraphTree, Perhaps, present, quantified, schema_box, schema_bracket, schema_reference, schema_text, SchemaTree, Tree, tree, unary, var_decl, VarDecls, vars, zed, Trees}

abbrev mutual
  pub tree_height : Tree → ℕ
  tree_height (empty_set s t) = tree_height t + 1
  tree_height (bracket s t) = tree_height t + 1
  tree_height (listed s form ts) = trees_height ts + 1
  tree_height (comprehension s ds p t) = max (max (decls_height ds) (perhaps_height p)) (perhaps_height t) + 1
  tree_height (unary s op t) = tree_height t + 1
  tree_height (binary s op a b) = max (tree_height a) (tree_height b) + 1
  tree_height (chain s t ks) = max (tree_height t) (links_height ks) + 1
  tree_height (quantified s q ds p t) = max (max (decls_height ds) (perhaps_height p)) (tree_height t) + 1
  tree_height _ = 1

  pub trees_height : Trees → ℕ
  trees_height no_trees = 0
  trees_height (tree t ts) = max (tree_height t) (trees_height ts)

  pub links_height : Links → ℕ
  links_height no_links = 0
  links_height (link r t ks) = max (tree_height t) (links_height ks)

  pub decls_height : VarDecls → ℕ
  decls_height no_decls = 0
  decls_height (var_decl ns t ds) = max (tree_height t) (decls_height ds)

  pub perhaps_height : Perhaps → ℕ
  perhaps_height absent = 0
  perhaps_height (present t) = tree_height t

-- the greatest of these numbers of the items; 0 for none
abbrev pub most : {A : Type 0} → (A → ℕ) → List A → ℕ
most f [] = 0
most f (x ∷ xs) = max (f x) (most f xs)

abbrev pub decl_height : DeclTree → ℕ
decl_height (vars ns t) = tree_height t
decl_height (include r) = 1

abbrev pub schema_height : SchemaTree → ℕ
schema_height (schema_text s ds ps) = max (most decl_height ds) (most tree_height ps) + 1
schema_height (schema_reference s r) = 1
schema_height (both s a b) = max (schema_height a) (schema_height b) + 1
schema_height (either s a b) = max (schema_height a) (schema_height b) + 1
schema_height (schema_bracket s a) = schema_height a + 1

abbrev pub paragraph_height : ParagraphTree → ℕ
paragraph_height (abbreviation n t) = tree_height t
paragraph_height (definition n a) = schema_height a
paragraph_height _ = 0

abbrev pub box_height : BoxTree → ℕ
box_height (zed ps) = most paragraph_height ps
box_height (schema_box n ds ps) = max (most decl_height ds) (most tree_height ps)

abbrev pub highest : List BoxTree → ℕ
highest = most box_height

-- the limit of a term or schema expression
abbrev pub height_limit : ℕ
height_limit = 128
