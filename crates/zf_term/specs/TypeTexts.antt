-- The printed texts of types.
use Rattle.std.specs.Prelude.{ℕ, List, [], ◌++◌, codes}
use Rattle.zf_term.specs.Types.{Ty, int, basic, power, product, Tys, no_types, type}

abbrev mutual
  pub type_text : Ty → List ℕ
  type_text int = codes "\\num"
  type_text (basic name) = name
  type_text (power t) = codes "\\power " ++ type_text t
  type_text (product ts) = codes "(" ++ parts_text ts ++ codes ")"

  -- the parts, with ` \cross ` between each two
  pub parts_text : Tys → List ℕ
  parts_text no_types = []
  parts_text (type t ts) = type_text t ++ later_parts_text ts

  -- with ` \cross ` before each
  pub later_parts_text : Tys → List ℕ
  later_parts_text no_types = []
  later_parts_text (type t ts) = codes " \\cross " ++ type_text t ++ later_parts_text ts
