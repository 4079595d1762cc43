-- What is claimed of cuts: a source has one cut or one fault.
use Rattle.std.specs.Prelude.{◌≡◌, ℕ, ◌⊎◌, List}
use Rattle.zf_scan.specs.declared.fault.TextFault.{TextFault}
use Rattle.zf_scan.specs.declared.token.Token.{Token}
use Rattle.zf_scan.specs.Cuts.{IsCutInto, HasFault}

-- a source is cut in at most one way: its pieces are the same, and so its tokens
abbrev pub IsCutOnce : Type 0
IsCutOnce = (source : List ℕ) (one two : List Token) (c : IsCutInto source one) (d : IsCutInto source two) → (c.pieces ≡ d.pieces) × (one ≡ two)

-- it has at most one fault
abbrev pub FaultsOnce : Type 0
FaultsOnce = (source : List ℕ) (one two : TextFault) → HasFault source one → HasFault source two → one ≡ two

-- it is cut, or it has a fault
abbrev pub IsCutOrFaults : Type 0
IsCutOrFaults = (source : List ℕ) → ((tokens : List Token) × IsCutInto source tokens) ⊎ ((fault : TextFault) × HasFault source fault)

-- and never both
abbrev pub IsNotBoth : Type 0
IsNotBoth = (source : List ℕ) (tokens : List Token) (fault : TextFault) → IsCutInto source tokens → HasFault source fault → ⊥
