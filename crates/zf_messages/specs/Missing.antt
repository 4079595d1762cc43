-- The messages for a schema or a size that is missing: if details are asked for, with the names that there are.
use Rattle.std.specs.Prelude.{ℕ, Bool, if◌then◌else◌, List, [], ◌∷◌, ◌++◌, codes}
use Rattle.std.specs.List.{flat_map, fold}
use Rattle.zf_term.specs.{Defined, Definition, is_like, schema}
use Rattle.zf_messages.specs.declared.message.At.TheVariants.{Nowhere}
use Rattle.zf_messages.specs.declared.message.Message.{Message}
use Rattle.zf_messages.specs.Messages.{detail_if_any}
use Rattle.zf_messages.specs.Details.{with_details}

abbrev pub and_name : List ℕ → List ℕ → List ℕ
and_name [] name = name
and_name (c ∷ text) name = (c ∷ text) ++ codes ", " ++ name

-- `A, B, C`
abbrev pub names_text : List (List ℕ) → List ℕ
names_text names = fold and_name [] names

-- the name, if it is that of a schema
abbrev pub if_schema : List ℕ → Definition → List (List ℕ)
if_schema name (schema a) = name ∷ []
if_schema name _ = []

abbrev pub schemas : List Defined → List (List ℕ)
schemas g = flat_map (λ d. if_schema d.name d.definition) g

abbrev pub first_like : List ℕ → List (List ℕ) → List ℕ
first_like name [] = []
first_like name (other ∷ names) = if is_like name other then other else first_like name names

-- `zf: no schema S`; with it the first schema that is like it, and all that there are
abbrev pub no_schema_message : (details : Bool) → List Defined → List ℕ → Message
no_schema_message details g name =
    with_details details Nowhere (codes "zf: no schema " ++ name) (detail_if_any (codes "like") (first_like name (schemas g)) ++ detail_if_any (codes "schemas") (names_text (schemas g)))

-- `zf: no size for N`; with it all given sets without a size
abbrev pub no_size_message : (details : Bool) → List (List ℕ) → List ℕ → Message
no_size_message details sets name = with_details details Nowhere (codes "zf: no size for " ++ name) (detail_if_any (codes "no size for") (names_text sets))
