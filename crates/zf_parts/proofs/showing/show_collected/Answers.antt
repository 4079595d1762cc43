use Rattle.zf_parts.proofs.Prelude.{inl, Appends-nil, always_on_err}
use Rattle.zf_parts.proofs.Answering.{all_written, front_written}
use Rattle.zf_parts.proofs.showing.show_collected.Goals as goal

pub returns-in_err-collected-clause-err : goal.returns-in_err-collected-clause-err
returns-in_err-collected-clause-err g c = always_on_err _ (inl (Appends-nil _))

pub returns-clause-ok : goal.returns-clause-ok
returns-clause-ok g c = all_written _ _ _ _ _ _ _ _ _ _ c.in_ok-collected.ensures _ c.write_parts.ensures.ok

pub returns-clause-err : goal.returns-clause-err
returns-clause-err g c = front_written _ _ _ _ _ _ _ _ _ _ c.in_ok-collected.ensures _ c.write_parts.ensures.err
