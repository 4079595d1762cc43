use Rattle.zf_print.proofs.Prelude.{◌++◌, ◌∙◌, add-one, ap, drop, suc, sym, globals_of, spellings}
use Rattle.std.proofs.lemmas.Result.{on_ok_weaker}
use Rattle.zf_print.proofs.Printing.{spellings-none, spellings-some}
use Rattle.zf_print.proofs.spelling.add_at.Goals as goal

pub returns-in-Some : goal.returns-in-Some
returns-in-Some c =
    let g = globals_of c.args.globals.now in
    let here = spellings-some g c.args.place _ c.in-Some.ensures in
    on_ok_weaker c.add.result (λ added. ap (λ n. c.add.new.made.items ++ spellings (drop n g)) (add-one c.args.place)
    ∙ added (spellings (drop (suc c.args.place) g)) ∙ ap (λ l. c.args.made.now.items ++ l) (sym here)) c.add.ensures

pub returns-in-None : goal.returns-in-None
returns-in-None c =
    let g = globals_of c.args.globals.now in
    ap (λ n. c.args.made.now.items ++ spellings (drop n g)) (add-one c.args.place) ∙ ap (λ l. c.args.made.now.items ++ l) (spellings-none g c.args.place c.in-None.ensures)
