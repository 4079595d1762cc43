use Rattle.zf_parts.proofs.Prelude.{◌<◌, ◌≡◌, refl, rules, ◌/◌, ◌%◌, ◌^◌, get_or}
use Rattle.zf_parts.proofs.Marking.{no_bit, some_bit}
use Rattle.zf_parts.proofs.page.bit_ahead.Goals as goal

pub returns-then-bits-eq0-clause-ahead : goal.returns-then-bits-eq0-clause-ahead
returns-then-bits-eq0-clause-ahead c =
    let none : get_or c.args.page.now.words (c.args.number / 64 % 16) 0 / 2 ^ (c.args.number % 64) ≡ 0 = search rules in
    (no_bit c.args.page.now c.args.number none).0

pub returns-else-bits-eq0-clause-ahead : goal.returns-else-bits-eq0-clause-ahead
returns-else-bits-eq0-clause-ahead c =
    let fits : get_or c.args.page.now.words (c.args.number / 64 % 16) 0 < 2 ^ 64 = search rules in
    let some : 0 < get_or c.args.page.now.words (c.args.number / 64 % 16) 0 / 2 ^ (c.args.number % 64) = search rules in
    (some_bit c.args.page.now c.args.number (get_or c.args.page.now.words (c.args.number / 64 % 16) 0) refl fits some).0

pub returns-else-bits-eq0-clause-within : goal.returns-else-bits-eq0-clause-within
returns-else-bits-eq0-clause-within c =
    let fits : get_or c.args.page.now.words (c.args.number / 64 % 16) 0 < 2 ^ 64 = search rules in
    let some : 0 < get_or c.args.page.now.words (c.args.number / 64 % 16) 0 / 2 ^ (c.args.number % 64) = search rules in
    (some_bit c.args.page.now c.args.number (get_or c.args.page.now.words (c.args.number / 64 % 16) 0) refl fits some).1
