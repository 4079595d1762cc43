-- What is written, and then the texts of what is ahead, is the whole listing.
use Rattle.zf_checker.proofs.Prelude.{◌++◌, ◌≡◌, flat_map, globals_of, listing}
use Rattle.zf_checker.proofs.Lines.{entry_text}
use Rattle.zf_checker.proofs.listing.listing.Given as goal

abbrev pub invariant-loop-name : goal.invariant-loop-name
invariant-loop-name l = l.bytes.items ++ flat_map entry_text l.name-iterator ≡ listing (globals_of l.globals)
