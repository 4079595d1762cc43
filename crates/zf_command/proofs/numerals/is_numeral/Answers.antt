-- A numeral, from a test of each byte.
use Rattle.zf_command.proofs.Prelude.{arith, nat_tests}
use Rattle.zf_command.proofs.Numbers.{digits_by_index}
use Rattle.zf_command.proofs.numerals.is_numeral.Goals as goal

pub returns-then-not-is_empty : goal.returns-then-not-is_empty
returns-then-not-is_empty c =
    let digits = digits_by_index c.args.text.now in
    let found = rw c.as_bytes.ensures.value at c.has_only_digits.ensures in
    (λ h. (grind (arith, nat_tests), digits.0 (found.0 h)), λ numeral. found.1 (digits.1 numeral.1))
