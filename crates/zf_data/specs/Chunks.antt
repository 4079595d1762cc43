-- Lists in chunks.
use Rattle.std.specs.Prelude.{List}
use Rattle.std.specs.List.{flat_map}

-- the items of chunks, one chunk after another
abbrev pub all_of : {A : Type 0} → List (List A) → List A
all_of = flat_map (λ items. items)
