use Rattle.zf_ranges.proofs.Prelude.{◌∙◌, rules, sym, IfOk-weaker, resolved_of, globally, environment_of, HasOutcome, Describes}
use Rattle.zf_ranges.proofs.Lacks.{told}
use Rattle.zf_ranges.proofs.Single.{filtered_by_plain, numbers_of_plain, described_is_out, no_infinite, none_is_none}
use Rattle.zf_ranges.proofs.leaves.among_plain.Goals as goal

pub returns-in-Some-clause-is : goal.returns-in-Some-clause-is
returns-in-Some-clause-is c =
    let known = sym c.infinite_in.ensures ∙ c.in-Some.is in
    numbers_of_plain (environment_of c.args.env.now) (resolved_of c.args.set.now) c.in-Some.infinite c.args.values.now c.in_ok-kept.field-0.items known c.in_ok-kept.ensures

pub returns-clause-is : goal.returns-clause-is
returns-clause-is c =
    let none = sym c.infinite_in.ensures ∙ no_infinite c.infinite_in.result c.in_default.not-Some in
    let is : Describes (HasOutcome (globally (environment_of c.args.env.now)) (resolved_of c.args.set.now)) c.in_ok-described.described = search rules in
    IfOk-weaker c.members_among.result _ _ (λ xs h. filtered_by_plain (environment_of c.args.env.now)
    (resolved_of c.args.set.now) c.in_ok-described.described c.args.values.now xs.items none is h) c.members_among.ensures.is

pub returns-clause-out : goal.returns-clause-out
returns-clause-out c =
    let none = sym c.infinite_in.ensures ∙ no_infinite c.infinite_in.result c.in_default.not-Some in
    let is : Describes (HasOutcome (globally (environment_of c.args.env.now)) (resolved_of c.args.set.now)) c.in_ok-described.described = search rules in
    told c.members_among.result _ _ (described_is_out (environment_of c.args.env.now) (resolved_of c.args.set.now) c.in_ok-described.described (none_is_none _ none) is) c.members_among.ensures.out
