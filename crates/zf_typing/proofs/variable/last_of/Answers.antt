use Rattle.zf_typing.proofs.Prelude.{if◌then◌else◌, ◌-◌, ◌∙◌, ◌≡◌, ap, arith, false, map, Some, sym, take, true, bytes_eq, last_named, variable_of}
use Rattle.zf_typing.proofs.Named.{last_at}
use Rattle.zf_typing.proofs.variable.last_of.Goals as goal

pub returns-then-is_same : goal.returns-then-is_same
returns-then-is_same c =
    let is : bytes_eq c.index-variables-place.result.name c.args.name.now ≡ true = ap (λ x. bytes_eq x c.args.name.now) (sym c.as_slice.ensures) ∙ sym c.is_same.ensures ∙ c.if-is_same.true in
    let at = last_at variable_of (λ v. v.name) c.args.name.now c.args.variables.now c.loop-place.place (c.loop-place.place - 1) c.index-variables-place.result
    (omega arith) (omega (arith, c.loop-place.invariant.within)) c.index-variables-place.is in
    sym (c.loop-place.invariant.behind ∙ at ∙ ap (λ b. if b then Some (c.loop-place.place - 1, variable_of c.index-variables-place.result) else last_named
    (λ v. v.name) c.args.name.now (map variable_of (take (c.loop-place.place - 1) c.args.variables.now))) is)

pub loop-place-preserved : goal.loop-place-preserved
loop-place-preserved c =
    let is : bytes_eq c.index-variables-place.result.name c.args.name.now ≡ false = ap (λ x. bytes_eq x c.args.name.now) (sym c.as_slice.ensures) ∙ sym c.is_same.ensures ∙ c.if-is_same.false in
    let at = last_at variable_of (λ v. v.name) c.args.name.now c.args.variables.now c.loop-place.place (c.loop-place.place - 1) c.index-variables-place.result
    (omega arith) (omega (arith, c.loop-place.invariant.within)) c.index-variables-place.is in
    record {
      within = omega (arith, c.loop-place.invariant.within);
      behind = c.loop-place.invariant.behind ∙ at ∙ ap (λ b. if b then Some (
        c.loop-place.place - 1,
        variable_of c.index-variables-place.result,
      ) else last_named (λ v. v.name) c.args.name.now
          (map variable_of (take (c.loop-place.place - 1) c.args.variables.now))) is;
    }
