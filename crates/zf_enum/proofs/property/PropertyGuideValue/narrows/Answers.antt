use Rattle.zf_enum.proofs.Prelude.{◌^◌, ◌<◌, ap, due_of, length, map, resolved_of, rules, subst, sym, ℕ}
use Rattle.zf_enum.proofs.Judging.{as_many, at_place}
use Rattle.zf_enum.proofs.property.PropertyGuideValue.narrows.Goals as goal

pub index-requires : goal.index-requires
index-requires c =
    let l : c.args.leaf < length c.args.self.now.dues.items = subst (λ n. c.args.leaf < n)
    (sym (as_many c.args.self.now.dues.items (map resolved_of c.args.self.now.conjuncts) c.args.self.now.needed)) c.requires in
    search (rules, l)

pub keyed-requires : goal.keyed-requires
keyed-requires c =
    subst (λ (n : ℕ). n < 2 ^ 64) (ap due_of (at_place c.args.self.now.conjuncts c.args.leaf c.get-term.result.now c.get-term.ensures c.requires)) (c.args.self.now.small c.args.leaf)
