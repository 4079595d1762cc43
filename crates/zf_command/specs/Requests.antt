-- A request that names no row and no components, has no limit, and doesn't ask for the number of tests.
use Rattle.std.specs.Prelude.{◌≡◌, false, None}
use Rattle.zf_command.specs.declared.job.Request.{Request}

abbrev pub IsBare : Request → Type 0
IsBare r = (r.after ≡ None) × (r.only ≡ None) × (r.limit ≡ None) × (r.tests ≡ false)
