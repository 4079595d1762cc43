use Rattle.zf_checker.proofs.Prelude.{◌∷◌, [], map, subst, sym, on_ok_weaker, box_of, decl_of, tree_of, a_box, items_in, Runs}
use Rattle.zf_checker.proofs.Running.{run_one}
use Rattle.zf_checker.proofs.checker.check_box.Goals as goal

pub returns-in-SchemaBox-clause-runs : goal.returns-in-SchemaBox-clause-runs
returns-in-SchemaBox-clause-runs c =
    let before = c.args.checked.now in
    let after = c.check_schema_box.new.checked in
    let name = c.in-SchemaBox.name in
    let decls = c.as_slice-in-SchemaBox.result.now in
    let predicates = c.as_slice-in-SchemaBox-2.result.now in
    on_ok_weaker c.check_schema_box.result
    (λ ran.
    let one = run_one before after (a_box name (map decl_of decls) (map tree_of predicates)) ran in
    let declared = subst (λ ds. Runs before (a_box name (map decl_of ds) (map tree_of predicates) ∷ []) after) c.as_slice-in-SchemaBox.ensures one in
    let constrained = subst (λ ps. Runs before (a_box name (map decl_of c.in-SchemaBox.decls) (map tree_of ps) ∷ []) after) c.as_slice-in-SchemaBox-2.ensures declared in
    subst (λ b. Runs before (items_in (box_of b)) after) (sym c.in-SchemaBox.is) constrained)
    c.check_schema_box.ensures.runs
