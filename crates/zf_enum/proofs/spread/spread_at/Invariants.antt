use Rattle.zf_enum.proofs.spread.spread_at.Given as goal

abbrev pub invariant-loop-spread : goal.invariant-loop-spread
invariant-loop-spread l = Unit {0}
