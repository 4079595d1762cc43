-- Why a search can't begin.
use Rattle.std.specs.Prelude.{List}
use Rattle.zf_ranges.specs.Prelude.{Comp, Environment}
use Rattle.zf_ranges.specs.declared.start_fault.StartFault.{StartFault}
use Rattle.zf_ranges.specs.declared.start_fault.StartFault.TheVariants.{DeclaredOut, OutOfMemory}
use Rattle.zf_ranges.specs.Ranges.{IsFirstOut}

-- this component is the first that is out; want of memory says nothing
abbrev pub RefusesStart : Environment → List Comp → StartFault → Type 0
RefusesStart e cs (DeclaredOut place) = IsFirstOut e cs place
RefusesStart e cs OutOfMemory = Unit {0}
