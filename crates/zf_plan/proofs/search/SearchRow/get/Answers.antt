use Rattle.zf_plan.proofs.Prelude.{◌<◌, ◌≡◌, [], arith, length, List, None, Option, Some, ℕ, IfSome, IsSomeAnd, slice_get, unwrap_or}
use Rattle.zf_plan.proofs.search.SearchRow.get.Goals as goal

some-long : {V : Type 0} (last : Option (List V)) (i : ℕ) → i < length (unwrap_or last []) → IsSomeAnd last (λ row. i < length row)
some-long None i h = absurd (omega arith)
some-long (Some row) i h = h

of-some : {V : Type 0} (last : Option (List V)) (i : ℕ) (v : V) → i < length (unwrap_or last []) → IfSome last (λ row. slice_get row i ≡ Some v) → slice_get (unwrap_or last []) i ≡ Some v
of-some None i v h k = absurd (omega arith)
of-some (Some row) i v h k = k

pub value-requires : goal.value-requires
value-requires g c = some-long c.args.self.now.stage.last c.args.i c.requires

pub returns : goal.returns
returns g c = of-some c.args.self.now.stage.last c.args.i c.value.result.now c.requires c.value.ensures
