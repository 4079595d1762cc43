use Rattle.zf_plan.proofs.Prelude.{◌∙◌, arith, sym}
use Rattle.zf_plan.proofs.Looking.{looked-at, looks-known, stamp-read, stamp-there}
use Rattle.zf_plan.proofs.memo.Memo.told.Goals as goal

pub index-stamp-requires : goal.index-stamp-requires
index-stamp-requires g c =
    let m = c.self.inside in
    let at = looked-at c.self.invariant (sym c.self.view_is) c.requires.remembers (g.met.J.Judge.kept c.args.judge.now) c.requires.within c.requires.of c.index-leaf.ensures in
    omega (arith, stamp-there at, m.stamps.ok.0)

pub returns-then-leaf-stamp : goal.returns-then-leaf-stamp
returns-then-leaf-stamp g c =
    let at = looked-at c.self.invariant (sym c.self.view_is) c.requires.remembers (g.met.J.Judge.kept c.args.judge.now) c.requires.within c.requires.of c.index-leaf.ensures in
    looks-known at c.if-leaf-places.false (c.if-leaf-stamp.true ∙ stamp-read at c.index-stamp.result.now c.index-stamp.ensures)
