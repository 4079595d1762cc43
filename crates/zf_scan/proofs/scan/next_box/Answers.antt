use Rattle.zf_scan.proofs.Prelude.{◌++◌, ◌+◌, ◌<◌, ◌∙◌, ◌≡◌, ap, arith, drop, inr, length, length-drop, map, refl, subst, sym, take, IsBox, between, token_at, kind_of, piece_of, match_of, Refused, Placed}
use Rattle.zf_scan.specs.declared.pieces.Region.TheVariants as places
use Rattle.zf_scan.proofs.BoxParts.{IsPart, grown, closed, ended_outside}
use Rattle.zf_scan.proofs.Scanned.{StandsAt, moved}
use Rattle.zf_scan.proofs.ScanTurns.{Seen, one_more, opens, seen_next, seen_there, stands, blank_read, plain_read, symbol_read}
use Rattle.zf_scan.proofs.Laws.{stuck, refused, ended}
use Rattle.zf_scan.proofs.scan.next_box.Goals as goal
use Rattle.zf_scan.proofs.scan.next_box.Goals.{Then-ends_box, Joined-lexeme, in-Plain, in-Symbol+in_ok-push-in-Symbol+else-ends_box}

pub loop-start-preserved-then-is_blank : goal.loop-start-preserved-then-is_blank
loop-start-preserved-then-is_blank c =
    let some : 0 < length (drop c.loop-start.start c.args.source.now) = omega (arith, length-drop c.loop-start.start c.args.source.now, c.loop-start-test.true) in
    record {
      before = λ tokens up. blank_read _ _ _ _ (c.loop-start.invariant.before tokens up) c.after-rest.result.now c.after-rest.ensures some
          (c.is_blank.ensures c.if-is_blank.true);
      part = c.loop-start.invariant.part;
      short = c.loop-start.invariant.short;
      within = omega (arith, c.loop-start-test.true);
      further = omega (arith, c.loop-start.invariant.further);
    }

pub overflow_add-stop : goal.overflow_add-stop
overflow_add-stop c =
    let a = stands (seen_there c.loop-start.start c.args.source.now c.after-rest.ensures c.piece_at-lexeme.ensures c.loop-start-test.true) c.in-Symbol.is tt in
    omega (arith, a.within, length-drop c.loop-start.start c.args.source.now, c.loop-start.invariant.short)

pub from_to-span-requires-clause-last : goal.from_to-span-requires-clause-last
from_to-span-requires-clause-last c =
    let a = stands (seen_there c.loop-start.start c.args.source.now c.after-rest.ensures c.piece_at-lexeme.ensures c.loop-start-test.true) c.in-Symbol.is tt in
    omega (arith, a.within, length-drop c.loop-start.start c.args.source.now, c.loop-start.invariant.short)

seen_symbol : (c : Then-ends_box) → Seen c.loop-start.place (drop c.loop-start.start c.args.source.now) c.after-rest.result.now c.piece_at-lexeme.result
seen_symbol c = seen_there c.loop-start.start c.args.source.now c.after-rest.ensures c.piece_at-lexeme.ensures c.loop-start-test.true

stands_symbol : (c : Then-ends_box) → StandsAt c.loop-start.place (drop c.loop-start.start c.args.source.now)
    (match_of (drop c.loop-start.start c.args.source.now) c.piece_at-lexeme.result)
stands_symbol c = stands (seen_symbol c) c.in-Symbol.is tt

pub returns-then-ends_box-clause-cut : goal.returns-then-ends_box-clause-cut
returns-then-ends_box-clause-cut c = λ tokens up. record {
  before = symbol_read _ _ _ tokens c.loop-start.symbols.items (c.loop-start.invariant.before tokens up) c.after-rest.result.now c.piece_at-lexeme.result
      c.in-Symbol.next (seen_symbol c) c.in-Symbol.is c.from_to-span.result c.from_to-span.ensures c.push.new.self.items c.in_ok-push-in-Symbol.ensures.items places.Outside
      (λ amount text. ended_outside c.loop-start.place c.from_to-span.result (kind_of c.in-Symbol.next amount text)
      (sym (c.ends_box.ensures amount text) ∙ c.if-ends_box.true));
  short = c.loop-start.invariant.short;
  within = omega (arith, (stands_symbol c).within, length-drop c.loop-start.start c.args.source.now);
}

pub returns-then-ends_box-clause-one : goal.returns-then-ends_box-clause-one
returns-then-ends_box-clause-one c =
    let source = c.args.source.now in
    let at = c.loop-start.start in
    let f = c.piece_at-lexeme.result in
    let p : Placed = record { next = c.in-Symbol.next; span = c.from_to-span.result; start = at; stop = at + f.len; amount = f.amount } in
    inr (subst IsBox (sym (one_more source c.loop-start.symbols.items p c.push.new.self.items c.in_ok-push-in-Symbol.ensures.items))
    (closed c.loop-start.place (map (token_at source) c.loop-start.symbols.items) (token_at source p) (opens (seen_symbol c) c.in-Symbol.is source p refl)
    (sym (c.ends_box.ensures _ _) ∙ c.if-ends_box.true) c.loop-start.invariant.part))

pub returns-then-ends_box-clause-further : goal.returns-then-ends_box-clause-further
returns-then-ends_box-clause-further c = λ some. omega (arith, (stands_symbol c).some, c.loop-start.invariant.further)

pub returns-in-Refused-clause-fault : goal.returns-in-Refused-clause-fault
returns-in-Refused-clause-fault c =
    let s = drop c.loop-start.start c.args.source.now in
    let f = c.piece_at-lexeme.result in
    let some : 0 < length s = omega (arith, length-drop c.loop-start.start c.args.source.now) in
    let n = seen_next (record { same = c.after-rest.ensures; found = c.piece_at-lexeme.ensures; some = some }) in
    let is : piece_of f.lexeme f.amount (take f.len s) ≡ Refused c.in-Refused.kind = ap (λ lexeme. piece_of lexeme f.amount (take f.len s)) c.in-Refused.is in
    inr (stuck _ _ _ _ (c.loop-start.invariant.before c.requires.0 c.requires.1) c.loop-start.invariant.short c.fault_at.result c.in-Refused.kind
    c.fault_at.ensures.kind c.fault_at.ensures.span (refused c.loop-start.place _ (match_of s f) n c.in-Refused.kind is some))

seen_piece : (c : Joined-lexeme) → Seen c.loop-start.place (drop c.loop-start.start c.args.source.now) c.after-rest.result.now c.piece_at-lexeme.result
seen_piece c = seen_there c.loop-start.start c.args.source.now c.after-rest.ensures c.piece_at-lexeme.ensures c.loop-start-test.true

stands_piece : (c : Joined-lexeme) → StandsAt c.loop-start.place (drop c.loop-start.start c.args.source.now)
    (match_of (drop c.loop-start.start c.args.source.now) c.piece_at-lexeme.result)
stands_piece c = elim c.match-lexeme.branch [
  | in-Plain w ↦ stands (seen_piece c) w.in-Plain.is tt
  | in-Symbol+in_ok-push-in-Symbol+else-ends_box w ↦ stands (seen_piece c) w.in-Symbol.is tt
]

pub overflow_add-start-in-loop-start : goal.overflow_add-start-in-loop-start
overflow_add-start-in-loop-start c = omega (arith, (stands_piece c).within, length-drop c.loop-start.start c.args.source.now, c.loop-start.invariant.short)

pub loop-start-smaller : goal.loop-start-smaller
loop-start-smaller c = let a = stands_piece c in omega (arith, a.some, a.within, length-drop c.loop-start.start c.args.source.now)

pub loop-start-preserved : goal.loop-start-preserved
loop-start-preserved c =
    let source = c.args.source.now in
    let at = c.loop-start.start in
    let f = c.piece_at-lexeme.result in
    let rest = c.after-rest.result.now in
    record {
      before = λ tokens up. elim c.match-lexeme.branch [
        | in-Plain w ↦
            moved _ _ _ _ (plain_read _ _ _ _ (c.loop-start.invariant.before tokens up) rest f (seen_piece c) w.in-Plain.is) _ _ (sym w.place-is) (ap (λ v. tokens ++ map (token_at source) v.items) (sym w.symbols-is))
        | in-Symbol+in_ok-push-in-Symbol+else-ends_box w ↦
            moved _ _ _ _ (symbol_read _ _ _ tokens c.loop-start.symbols.items
            (c.loop-start.invariant.before tokens up) rest f w.in-Symbol.next (seen_piece c) w.in-Symbol.is w.from_to-span.result w.from_to-span.ensures
            c.match-lexeme.symbols.items (ap (λ v. v.items) w.symbols-is ∙ w.in_ok-push-in-Symbol.ensures.items) w.behind-place.result
            w.behind-place.ensures) _ _ (sym w.place-is) refl
      ];
      part = elim c.match-lexeme.branch [
        | in-Plain w ↦ subst (λ place. IsPart place (map (token_at source) c.match-lexeme.symbols.items)) (sym w.place-is)
            (subst (λ v. IsPart c.loop-start.place (map (token_at source) v.items)) (sym w.symbols-is) c.loop-start.invariant.part)
        | in-Symbol+in_ok-push-in-Symbol+else-ends_box w ↦
            let p : Placed = record { next = w.in-Symbol.next; span = w.from_to-span.result; start = at; stop = at + f.len; amount = f.amount } in
            grown c.loop-start.place w.from_to-span.result (map (token_at source) c.loop-start.symbols.items) (token_at source p)
            (opens (seen_piece c) w.in-Symbol.is source p refl)
            (sym (w.ends_box.ensures f.amount (between at (at + f.len) source)) ∙ w.if-ends_box.false) c.loop-start.invariant.part
            c.match-lexeme.place (map (token_at source) c.match-lexeme.symbols.items)
            (w.place-is ∙ w.behind-place.ensures f.amount (between at (at + f.len) source))
            (one_more source c.loop-start.symbols.items p c.match-lexeme.symbols.items (ap (λ v. v.items) w.symbols-is ∙ w.in_ok-push-in-Symbol.ensures.items))
      ];
      short = c.loop-start.invariant.short;
      within = omega (arith, (stands_piece c).within, length-drop at source);
      further = omega (arith, c.loop-start.invariant.further);
    }

pub returns-in_default : goal.returns-in_default
returns-in_default c =
    let s = stuck _ _ _ _ (c.loop-start.invariant.before c.requires.0 c.requires.1) c.loop-start.invariant.short c.fault_at-in_default.result _
    c.fault_at-in_default.ensures.kind c.fault_at-in_default.ensures.span
    (ended c.args.source.now c.loop-start.start c.loop-start.place c.loop-start-test.false c.in_default.not-Outside) in
    record { cut = tt; one = tt; further = tt; fault = inr s }
