use Rattle.zf_checker.proofs.Prelude.{◌+◌, arith, drop, map, paragraph_of, at_end, at_step, a_paragraph, Runs}
use Rattle.zf_checker.proofs.Running.{run_none, run_step}
use Rattle.zf_checker.proofs.checker.check_paragraphs.Goals as goal

pub loop-paragraph-preserved : goal.loop-paragraph-preserved
loop-paragraph-preserved c = record {
  runs = λ end runs.
      let before = c.loop-paragraph.checked in
      let whole = c.args.paragraphs.now in
      let i = c.loop-paragraph.paragraph-index in
      let rest = map a_paragraph (map paragraph_of (drop (i + 1) whole)) in
      let step = run_step before c.check_paragraph.new.checked end (a_paragraph (paragraph_of c.paragraph-item.result)) rest c.in_ok-check_paragraph.ensures.runs runs in
      c.loop-paragraph.invariant.runs end (at_step (λ ps. Runs before (map a_paragraph (map paragraph_of ps)) end) whole i c.paragraph-item.result c.paragraph-item.is (omega arith) step);
  numbered = c.check_paragraph.ensures.numbered;
}

pub returns-clause-runs : goal.returns-clause-runs
returns-clause-runs c =
    let end = c.loop-paragraph.checked in
    c.loop-paragraph.invariant.runs end
    (at_end (λ ps. Runs end (map a_paragraph (map paragraph_of ps)) end) c.args.paragraphs.now c.loop-paragraph.paragraph-index (omega arith) (run_none end))
