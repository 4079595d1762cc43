use Rattle.zf_term.proofs.Prelude.{◌∙◌, ◌≡◌, ap, sym, true, get_or_from_slice_get, slice_get_within, keys_of, bytes_eq}
use Rattle.std.proofs.lemmas.List.Quantifiers.{position-Some}
use Rattle.zf_term.proofs.Entries.{no_global}
use Rattle.zf_term.proofs.Found.{entry_at, key_of}
use Rattle.zf_term.proofs.named.global_of.Goals as goal

pub returns-in-Some : goal.returns-in-Some
returns-in-Some c =
    let es = c.args.globals.now.entries.entries in
    let k = c.in-Some.field-0-1.now in
    let at = position-Some (λ k. bytes_eq c.args.name.now k.items) (keys_of es) c.in-Some.place k (sym c.in-Some.ensures.index) in
    let key = get_or_from_slice_get es c.in-Some.place (k, c.in-Some.entry.now) (k, c.in-Some.entry.now) c.in-Some.ensures.entry in
    let here : bytes_eq c.args.name.now k.items ≡ true = sym (ap (λ u. bytes_eq c.args.name.now u.items)
    (key_of c.args.name.now es c.in-Some.place k c.in-Some.entry.now
    (slice_get_within es c.in-Some.place (k, c.in-Some.entry.now) c.in-Some.ensures.entry) key)) ∙ at.1 in
    sym (entry_at c.args.name.now es c.in-Some.place k c.in-Some.entry.now (slice_get_within es c.in-Some.place (k, c.in-Some.entry.now) c.in-Some.ensures.entry) key here at.2)

pub returns-in-None : goal.returns-in-None
returns-in-None c = sym (no_global c.args.name.now c.args.globals.now.entries.entries (sym c.in-None.ensures.value))
