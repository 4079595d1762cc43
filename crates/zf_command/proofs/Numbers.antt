-- What `parse` reads of a numeral, and which texts are numerals.
use Rattle.zf_command.proofs.Prelude.{◌-◌, ◌<◌, ◌^◌, ◌↔◌, ◌≡◌, arith, Err, get_or, length, List, Ok, Result, ℕ, AllDigits, digits_value, IsNumeral, ParsesUnsigned, ReadsNumber}
use Rattle.std.specs.Int.{IsInRange}
use Rattle.std.proofs.lemmas.Str.Parse.{numerals_by_value, parse_digits, tells_by_index, tells_digits}

pub digits_by_index : (ds : List ℕ) → ((i : ℕ) → i < length ds → IsInRange 48 57 (get_or ds i 0)) ↔ AllDigits 10 ds
digits_by_index ds = ((numerals_by_value _ tells_by_index).to ds, (numerals_by_value _ tells_by_index).from ds)

pub reads_parsed : (E : Type 0) (ds : List ℕ) (n : ℕ) → ParsesUnsigned {E = E} 64 10 ds (Ok n) → IsNumeral 10 ds → ReadsNumber ds n
reads_parsed E ds n parses numeral =
    let read = parse_digits (numerals_by_value (AllDigits 10) tells_digits) 64 ds (let r : Result ℕ E = Ok n in r) parses numeral.1 in
    let small : digits_value 10 ds < 2 ^ 64 = read.0.1 in
    let is : n ≡ digits_value 10 ds = read.1 in
    (numeral, omega arith)

pub reads_past : (E : Type 0) (ds : List ℕ) (e : E) → ParsesUnsigned {E = E} 64 10 ds (Err e) → IsNumeral 10 ds → ReadsNumber ds (2 ^ 64 - 1)
reads_past E ds e parses numeral =
    let past : digits_value 10 ds < 2 ^ 64 → ⊥ =
    λ small. parse_digits (numerals_by_value (AllDigits 10) tells_digits) 64 ds (Err e) parses numeral.1 (numeral.0, small) in
    (numeral, omega arith)
