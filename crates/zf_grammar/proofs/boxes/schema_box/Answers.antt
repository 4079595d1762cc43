use Rattle.zf_grammar.proofs.Prelude.{◌≡◌, arith, refl, true, common_steps, is_mark, read_schema_box, first}
use Rattle.zf_scan.specs.declared.next.Mark.TheVariants as mark
use Rattle.zf_grammar.proofs.BoxDecls.{no_decls}
use Rattle.zf_grammar.proofs.boxes.schema_box.Goals as goal

pub returns-then-is_at : goal.returns-then-is_at
unfolding read_schema_box
returns-then-is_at c =
    let is : is_mark mark.OpenSquare (first c.opening.new.self) ≡ true = grind (arith, common_steps) in
    rw (c.not_in_profile.ensures, c.in_ok-name.ensures, no_decls c.args.highest c.opening.new.self is) refl
