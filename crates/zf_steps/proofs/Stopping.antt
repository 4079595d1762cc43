-- A search that stops before anything is written.
use Rattle.zf_steps.proofs.Prelude.{[], inl, List, Option, refl, ℕ, front_whole, StopsSearch}
use Rattle.std.proofs.KnownBytes.{Appends-nil}
use Rattle.zf_graph.specs.{Explored, Result, Sought, Words}

pub stops_at_once : {N L : Type 0} (p : Explored N L) (s : Sought N) (w : Words N L) (last : Result → (nodes edges : ℕ)
    → List ℕ) (limit : ℕ) (origin : Option (List ℕ)) → StopsSearch p s w last limit origin origin
stops_at_once p s w last limit origin = ([], inl refl, front_whole origin origin [] (Appends-nil origin))
