use Rattle.zf_why.proofs.Prelude.{◌≡◌, take}
use Rattle.zf_why.proofs.setting.shared_components.Given as goal

abbrev pub invariant-loop-component : goal.invariant-loop-component
invariant-loop-component l = l.same ≡ take l.component-index l.components
