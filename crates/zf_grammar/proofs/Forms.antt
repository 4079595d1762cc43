-- What a term is seen as, by its form, and what a link of a chain is.
use Rattle.zf_grammar.proofs.Prelude.{List, Tree, tree_step, link_of, tree_of, var_decl_of, Relation, Link, Name, Term, VarDecl}
use Rattle.zf_tree.specs.declared.tree.Term.TheOpen.{Term-F}
use Rattle.zf_tree.specs.declared.tree.Term.TheFolds.{map-Term}

-- one level of a term, with a tree in the place of each term in it
abbrev pub form_of : Term-F Term Link VarDecl → Tree
form_of x = tree_step (map-Term Term Link VarDecl Tree (Relation × Tree) (List Name × Tree) tree_of link_of var_decl_of x)
