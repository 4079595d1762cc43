-- The counts, one after the other.
use Rattle.zf_steps.proofs.Prelude.{◌++◌, ◌≡◌, refl, subst, codes, decimal, weaker_on_ok}
use Rattle.zf_steps.proofs.Pieces.{if_appended, next_piece}
use Rattle.zf_steps.proofs.objects.append_count_object.Goals as goal

pub returns : goal.returns
returns c =
    let line = c.args.line.now.items in
    let before = codes "{\"states\": " in
    let nodes = before ++ decimal c.args.nodes in
    let states = nodes ++ codes ", \"steps\": " in
    let told = next_piece line nodes (codes ", \"steps\": ") (line ++ before ++ decimal c.args.nodes) c.append_between.new.line.items
    (next_piece line before (decimal c.args.nodes) (line ++ before) (line ++ before ++ decimal c.args.nodes) refl refl) c.in_ok-append_between.ensures in
    weaker_on_ok c.extend_from_slice.result
    (λ last n same. subst (λ k. c.extend_from_slice.new.self.items ≡ line ++ (states ++ decimal k ++ codes "}\n")) same
    (next_piece line (states ++ decimal c.args.edges) (codes "}\n") c.append_steps.new.line.items c.extend_from_slice.new.self.items
    (next_piece line states (decimal c.args.edges) c.append_between.new.line.items c.append_steps.new.line.items told c.in_ok-append_steps.ensures) last))
    (if_appended c.extend_from_slice.result c.extend_from_slice.new.self.items
    (c.append_steps.new.line.items ++ codes "}\n") c.append_steps.new.line.items c.extend_from_slice.ensures.items)
