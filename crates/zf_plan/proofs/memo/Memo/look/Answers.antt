use Rattle.zf_plan.proofs.Prelude.{◌∙◌, arith, sym}
use Rattle.zf_plan.proofs.Looking.{asks-remembers, asks-settled, asks-stamped, looked-at, looks-known, looks-later, stamp-read, stamp-there}
use Rattle.zf_plan.proofs.memo.Memo.look.Goals as goal

pub returns-then-leaf-places-clause-known : goal.returns-then-leaf-places-clause-known
returns-then-leaf-places-clause-known g c =
    let at = looked-at c.self.invariant (sym c.self.view_is) c.requires.remembers (g.met.J.Judge.kept c.args.judge.now) c.requires.within c.requires.of c.index-leaf.ensures in
    looks-later at c.if-leaf-places.true

pub index-stamp-requires : goal.index-stamp-requires
index-stamp-requires g c =
    let m = c.self.inside in
    let at = looked-at c.self.invariant (sym c.self.view_is) c.requires.remembers (g.met.J.Judge.kept c.args.judge.now) c.requires.within c.requires.of c.index-leaf.ensures in
    omega (arith, stamp-there at, m.stamps.ok.0)

pub returns-then-leaf-stamp-clause-known : goal.returns-then-leaf-stamp-clause-known
returns-then-leaf-stamp-clause-known g c =
    let at = looked-at c.self.invariant (sym c.self.view_is) c.requires.remembers (g.met.J.Judge.kept c.args.judge.now) c.requires.within c.requires.of c.index-leaf.ensures in
    looks-known at c.if-leaf-places.false (c.if-leaf-stamp.true ∙ stamp-read at c.index-stamp.result.now c.index-stamp.ensures)

pub invariant_of-self-2 : goal.invariant_of-self-2
invariant_of-self-2 g c =
    let at = looked-at c.self.invariant (sym c.self.view_is) c.requires.remembers (g.met.J.Judge.kept c.args.judge.now) c.requires.within c.requires.of c.index-leaf.ensures in
    asks-stamped at c.if-leaf-places.false c.in_ok-truth.truth c.in_ok-truth.ensures.says c.index-stamp.result.now (stamp-read at c.index-stamp.result.now c.index-stamp.ensures)

pub returns-clause-remembers : goal.returns-clause-remembers
returns-clause-remembers g c =
    let m = c.self.inside in
    let at = looked-at c.self.invariant (sym c.self.view_is) c.requires.remembers (g.met.J.Judge.kept c.args.judge.now) c.requires.within c.requires.of c.index-leaf.ensures in
    asks-remembers at c.if-leaf-places.false c.in_ok-truth.truth c.in_ok-truth.ensures.says c.index-stamp.result.now (stamp-read at c.index-stamp.result.now c.index-stamp.ensures)
    c.truth_of.new.self.each.items m.tests c.in_ok-truth.ensures.known

pub returns-clause-known : goal.returns-clause-known
returns-clause-known g c =
    let at = looked-at c.self.invariant (sym c.self.view_is) c.requires.remembers (g.met.J.Judge.kept c.args.judge.now) c.requires.within c.requires.of c.index-leaf.ensures in
    asks-settled at c.if-leaf-places.false c.in_ok-truth.truth c.in_ok-truth.ensures.says c.index-stamp.result.now (stamp-read at c.index-stamp.result.now c.index-stamp.ensures)
