use Rattle.zf_plan.proofs.Prelude.{[], Err, get_or, length, Ok, Result, rules, IsTrue, IfOk, picked, False, Narrows, trees_made, IsSettled, either, tree_at}
use Rattle.zf_plan.proofs.Narrowing.{narrows-either, narrows-false, narrows-as}
use Rattle.zf_plan.proofs.choosing.+gather.Goals as goal

if-ok : {T E : Type 0} (r : Result T E) (P Q : T → Type 0) → ((x : T) → P x → Q x) → IfOk r P → IfOk r Q
if-ok (Ok x) P Q f h = f x h
if-ok (Err e) P Q f h = tt

pub returns-in-Some-False-clause-narrows : goal.returns-in-Some-False-clause-narrows
returns-in-Some-False-clause-narrows g t c =
    let l = g.J.Judge.conjuncts c.args.problem.now.judge.now in
    let made = trees_made c.args.problem.now.forest.now in
    let left = tree_at made c.in-Or.left in
    let right = tree_at made c.in-Or.right in
    let ranges = c.args.problem.now.ranges.now in
    let row = picked c.args.problem.now.ranges.now c.args.places.now in
    let range = get_or c.args.problem.now.ranges.now (length c.args.places.now) [] in
    let xs = c.gather-in-Some-False.new.gathered.items in
    let settled : IsSettled l left row False = search rules in
    if-ok c.gather-in-Some-False.result (λ found. IsTrue found → Narrows l right ranges row range xs) (λ found. IsTrue found → Narrows l (tree_at made c.args.part) ranges row range xs)
    (λ found h u. narrows-as l ranges row range (either left right) (tree_at made c.args.part) xs c.in-Or.ensures.tree
    (narrows-either l ranges row range left right xs xs (λ i m. m) (narrows-false l ranges row range left xs settled) (h u)))
    c.gather-in-Some-False.ensures.narrows

pub returns-after-known-3-clause-narrows : goal.returns-after-known-3-clause-narrows
returns-after-known-3-clause-narrows g t c =
    let l = g.J.Judge.conjuncts c.args.problem.now.judge.now in
    let made = trees_made c.args.problem.now.forest.now in
    let left = tree_at made c.in-Or.left in
    let right = tree_at made c.in-Or.right in
    let ranges = c.args.problem.now.ranges.now in
    let row = picked c.args.problem.now.ranges.now c.args.places.now in
    let range = get_or c.args.problem.now.ranges.now (length c.args.places.now) [] in
    let xs = c.gather-in-Or.new.gathered.items in
    let ys = c.gather-in-Or-2.new.gathered.items in
    if-ok c.gather-in-Or-2.result (λ found. IsTrue found → Narrows l right ranges row range ys) (λ found. IsTrue found → Narrows l (tree_at made c.args.part) ranges row range ys)
    (λ found h u. narrows-as l ranges row range (either left right) (tree_at made c.args.part) ys c.in-Or.ensures.tree
    (narrows-either l ranges row range left right xs ys c.gather-in-Or-2.ensures.stay (c.in_ok-first-in-Or.ensures.narrows c.if-not-first.false) (h u)))
    c.gather-in-Or-2.ensures.narrows
