use Rattle.zf_read.proofs.SpelledTypes.{not_numbered, not_dotted, numbered_by}
use Rattle.zf_read.proofs.elements.numbered.Goals as goal

pub returns-in-Some-behind : goal.returns-in-Some-behind
returns-in-Some-behind c = numbered_by c.counted.result c.args.word.now c.args.name.now c.in-Some.rest.now c.in-Some-behind.digits.now c.args.count
    c.in-Some.ensures c.in-Some-behind.ensures c.counted.ensures

pub returns-in-None-behind : goal.returns-in-None-behind
returns-in-None-behind c = λ i l q. not_dotted c.args.word.now c.args.name.now c.in-Some.rest.now i c.in-None-behind.ensures c.in-Some.ensures q

pub returns-in-None : goal.returns-in-None
returns-in-None c = λ i l q. not_numbered c.args.word.now c.args.name.now i c.in-None.ensures q
