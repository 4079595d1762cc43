-- Symbols with their places, as tokens of their text. Only clauses of what the parser calls rest on this file.
use Rattle.std.specs.Prelude.{ℕ, ◌-◌, List, take, drop}
use Rattle.zf_scan.specs.declared.placed.Placed.{Placed}
use Rattle.zf_scan.specs.declared.token.Kind.{Kind}
use Rattle.zf_scan.specs.declared.token.Token.{Token}
use Rattle.zf_scan.specs.Lexemes.{kind_of}

-- the bytes of a text from one place to another
abbrev pub between : ℕ → ℕ → List ℕ → List ℕ
between start stop text = take (stop - start) (drop start text)

abbrev pub kind_at : List ℕ → Placed → Kind
kind_at text p = kind_of p.next p.amount (between p.start p.stop text)

abbrev pub token_at : List ℕ → Placed → Token
token_at text p = record { kind = kind_at text p; span = p.span }
