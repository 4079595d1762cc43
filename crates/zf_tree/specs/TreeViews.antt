-- How the program's trees are seen as those of `Trees`.
use Rattle.std.specs.Prelude.{List, [], ◌∷◌, map, Option, Some, None}
use Rattle.zf_tree.specs.declared.symbol.Relation.{Relation}
use Rattle.zf_tree.specs.NameViews.{name_at}
use Rattle.zf_tree.specs.declared.tree.Name.{Name}
use Rattle.zf_tree.specs.declared.tree.Term.{Term}
use Rattle.zf_tree.specs.declared.tree.Link.{Link}
use Rattle.zf_tree.specs.declared.tree.VarDecl.{VarDecl}
use Rattle.zf_tree.specs.declared.tree.Term.TheOpen.{Term-F, Link-F, VarDecl-F}
use Rattle.zf_tree.specs.declared.tree.Term.TheViews.{roll-Link, roll-VarDecl}
use Rattle.zf_tree.specs.declared.tree.Term.TheFolds.{fold-Term, fold-Link, fold-VarDecl}
use Rattle.zf_tree.specs.declared.tree.Decl.{Decl}
use Rattle.zf_tree.specs.declared.tree.Decl.TheVariants as decl
use Rattle.zf_tree.specs.declared.tree.SchemaExp.{SchemaExp, fold-SchemaExp}
use Rattle.zf_tree.specs.declared.tree.SchemaExp.TheOpen.{SchemaExp-F}
use Rattle.zf_tree.specs.declared.tree.Paragraph.{Paragraph}
use Rattle.zf_tree.specs.declared.tree.Paragraph.TheVariants as paragraph
use Rattle.zf_tree.specs.declared.tree.ZBox.{ZBox}
use Rattle.zf_tree.specs.declared.tree.ZBox.TheVariants as zbox
use Rattle.zf_tree.specs.declared.tree.Spec.{Spec}
use Rattle.zf_tree.specs.Trees.{Tree, Trees, Links, VarDecls, Perhaps, DeclTree, SchemaTree, ParagraphTree, BoxTree, named, numeral, constant, empty_set, bracket, listed, comprehension, unary, binary, chain, quantified, no_trees, tree, no_links, link, no_decls, var_decl, absent, present, vars, include, schema_text, schema_reference, both, either, schema_bracket, given, free, abbreviation, definition, zed, schema_box}

abbrev pub trees : List Tree → Trees
trees [] = no_trees
trees (t ∷ ts) = tree t (trees ts)

abbrev pub links : List (Relation × Tree) → Links
links [] = no_links
links (p ∷ ps) = link p.0 p.1 (links ps)

abbrev pub var_decls : List (List Name × Tree) → VarDecls
var_decls [] = no_decls
var_decls (p ∷ ps) = var_decl p.0 p.1 (var_decls ps)

abbrev pub perhaps : Option Tree → Perhaps
perhaps None = absent
perhaps (Some t) = present t

-- one level, with a tree in the place of each term in it
abbrev pub tree_step : Term-F Tree (Relation × Tree) (List Name × Tree) → Tree
tree_step (Term-F.Name s i) = named (name_at s i)
tree_step (Term-F.Number s v) = numeral s v
tree_step (Term-F.Constant s c) = constant s c
tree_step (Term-F.EmptySet s t) = empty_set s t
tree_step (Term-F.Bracket s t) = bracket s t
tree_step (Term-F.Listed s form ts) = listed s form (trees ts)
tree_step (Term-F.Comprehension s ds p t) = comprehension s (var_decls ds) (perhaps p) (perhaps t)
tree_step (Term-F.Unary s op t) = unary s op t
tree_step (Term-F.Binary s op a b) = binary s op a b
tree_step (Term-F.Chain s t ks) = chain s t (links ks)
tree_step (Term-F.Quantified q s ds p t) = quantified s q (var_decls ds) (perhaps p) t

abbrev pub link_step : Link-F Tree (Relation × Tree) (List Name × Tree) → Relation × Tree
link_step k = (k.relation, k.right)

abbrev pub decl_step : VarDecl-F Tree (Relation × Tree) (List Name × Tree) → List Name × Tree
decl_step d = (d.names, d.set)

unfoldable pub tree_of : Term → Tree
tree_of = fold-Term Tree (Relation × Tree) (List Name × Tree) tree_step link_step decl_step

unfoldable pub link_of : Link → Relation × Tree
link_of = fold-Link Tree (Relation × Tree) (List Name × Tree) tree_step link_step decl_step

unfoldable pub var_decl_of : VarDecl → List Name × Tree
var_decl_of = fold-VarDecl Tree (Relation × Tree) (List Name × Tree) tree_step link_step decl_step

-- a part that may be left out
abbrev pub part_of : Option Term → Perhaps
part_of None = absent
part_of (Some t) = present (tree_of t)

-- a link, and a declaration, of these parts
abbrev pub new_link : Relation → Term → Link
new_link r t = roll-Link (record { relation = r; right = t })

abbrev pub new_decl : List Name → Term → VarDecl
new_decl ns t = roll-VarDecl (record { names = ns; set = t })

abbrev pub decl_of : Decl → DeclTree
decl_of (decl.Vars names set) = vars names (tree_of set)
decl_of (decl.Include r) = include r

abbrev pub schema_step : SchemaExp-F SchemaTree → SchemaTree
schema_step (SchemaExp-F.Text s ds ps) = schema_text s (map decl_of ds) (map tree_of ps)
schema_step (SchemaExp-F.Ref s r) = schema_reference s r
schema_step (SchemaExp-F.Both s a b) = both s a b
schema_step (SchemaExp-F.Or s a b) = either s a b
schema_step (SchemaExp-F.Bracket s a) = schema_bracket s a

unfoldable pub schema_tree_of : SchemaExp → SchemaTree
schema_tree_of = fold-SchemaExp SchemaTree schema_step

abbrev pub paragraph_of : Paragraph → ParagraphTree
paragraph_of (paragraph.Given names) = given names
paragraph_of (paragraph.Free name names) = free name names
paragraph_of (paragraph.Abbrev name term) = abbreviation name (tree_of term)
paragraph_of (paragraph.Defs name exp) = definition name (schema_tree_of exp)

abbrev pub box_of : ZBox → BoxTree
box_of (zbox.Zed ps) = zed (map paragraph_of ps)
box_of (zbox.SchemaBox name ds ps) = schema_box name (map decl_of ds) (map tree_of ps)

-- the tree of a whole text is the list of its boxes
abbrev pub boxes_of : Spec → List BoxTree
boxes_of spec = map box_of spec.boxes
