use Rattle.zf_engine.proofs.Prelude.{◌∙◌, [], ap, inl, refl, environment_of, Appends-nil, spellings, Reach, schemas_of}
use Rattle.zf_engine.proofs.Explored.{can_search, explored_early, explored_whole, sought_early, sought_whole}
use Rattle.zf_engine.proofs.Writing.{stops_err}
use Rattle.zf_engine.proofs.reach.reach_schemas.Goals as goal

pub explore_schemas-requires-clause-searchable : goal.explore_schemas-requires-clause-searchable
explore_schemas-requires-clause-searchable g c = can_search c.args.task.exploration.now c.args.task.report.source.now (schemas_of c.args.schemas.now)
    (environment_of c.args.env.now) c.requires.searchable

pub seek_schemas-requires-clause-searchable : goal.seek_schemas-requires-clause-searchable
seek_schemas-requires-clause-searchable g c = can_search c.args.task.exploration.now c.args.task.report.source.now (schemas_of c.args.schemas.now) (environment_of c.args.env.now) c.requires.searchable

pub returns-in_err-elements-clause-reaches : goal.returns-in_err-elements-clause-reaches
returns-in_err-elements-clause-reaches g c =
    stops_err (Reach c.args.task.exploration.now) c.args.task.report.file.now c.args.task.report.source.now _ _ _ c.from_residual.ensures.0 ([], inl refl, Appends-nil _)

pub returns-in_err-ending-in-None-clause-reaches : goal.returns-in_err-ending-in-None-clause-reaches
returns-in_err-ending-in-None-clause-reaches g c =
    stops_err (Reach c.args.task.exploration.now) c.args.task.report.file.now c.args.task.report.source.now _ _ _ c.from_residual-in_err-ending-in-None.ensures.0
    (explored_early c.args.task.exploration.now c.args.task.report.file.now c.args.task.report.source.now (schemas_of c.args.schemas.now) (environment_of c.args.env.now) c.requires.searchable _
    (c.deref.ensures.value ∙ c.in_ok-elements.ensures ∙ ap spellings c.globals.ensures) _ c.form_of.ensures _ c.states_limit-limit.ensures.is _ _ c.in-None.is c.in_err-ending-in-None.ensures.err)

pub returns-in_err-finding-in-Some-clause-reaches : goal.returns-in_err-finding-in-Some-clause-reaches
returns-in_err-finding-in-Some-clause-reaches g c =
    stops_err (Reach c.args.task.exploration.now) c.args.task.report.file.now c.args.task.report.source.now _ _ _ c.from_residual-in_err-finding-in-Some.ensures.0
    (sought_early c.args.task.exploration.now c.args.task.report.file.now c.args.task.report.source.now (schemas_of c.args.schemas.now) (environment_of c.args.env.now) c.requires.searchable _
    (c.deref.ensures.value ∙ c.in_ok-elements.ensures ∙ ap spellings c.globals.ensures) _ c.form_of.ensures _ c.states_limit-limit.ensures.is _ _ _ c.in-Some.is c.in_err-finding-in-Some.ensures.err)

pub returns-in-None-clause-reaches : goal.returns-in-None-clause-reaches
returns-in-None-clause-reaches g c =
    explored_whole c.args.task.exploration.now c.args.task.report.file.now c.args.task.report.source.now (schemas_of c.args.schemas.now) (environment_of c.args.env.now) c.requires.searchable _
    (c.deref.ensures.value ∙ c.in_ok-elements.ensures ∙ ap spellings c.globals.ensures) _ c.form_of.ensures _ c.states_limit-limit.ensures.is _ _ c.in-None.is
    c.in_ok-ending-in-None.ending _ c.ending_status.ensures c.in_ok-ending-in-None.ensures.ok

pub returns-clause-reaches : goal.returns-clause-reaches
returns-clause-reaches g c =
    sought_whole c.args.task.exploration.now c.args.task.report.file.now c.args.task.report.source.now (schemas_of c.args.schemas.now) (environment_of c.args.env.now) c.requires.searchable _
    (c.deref.ensures.value ∙ c.in_ok-elements.ensures ∙ ap spellings c.globals.ensures) _ c.form_of.ensures _ c.states_limit-limit.ensures.is _ _ _
    c.in-Some.is c.in_ok-finding-in-Some.finding _ c.finding_status.ensures c.in_ok-finding-in-Some.ensures.ok
