use Rattle.zf_resolved.proofs.Renamings.{renamed_binary, renamed_bracket, renamed_comprehension, renamed_chain, renamed_constant, renamed_empty_set, renamed_listed, renamed_name, renamed_number, renamed_quantified, renamed_unary}
use Rattle.zf_resolved.proofs.renaming.+renamed.Goals as goal

pub renamed-returns-in-Name : goal.renamed-returns-in-Name
renamed-returns-in-Name g t c = let i = c.in-Name in renamed_name _ i.span i.reference c.named.result c.args.term.now i.is c.named.ensures

pub renamed-returns-in-Number : goal.renamed-returns-in-Number
renamed-returns-in-Number g t c = let i = c.in-Number in renamed_number _ i.span i.value c.args.term.now i.is

pub renamed-returns-in-Constant : goal.renamed-returns-in-Constant
renamed-returns-in-Constant g t c = let i = c.in-Constant in renamed_constant _ i.span i.constant c.args.term.now i.is

pub renamed-returns-in_ok-renamed_box-in-EmptySet : goal.renamed-returns-in_ok-renamed_box-in-EmptySet
renamed-returns-in_ok-renamed_box-in-EmptySet g t c =
    let i = c.in-EmptySet in let x = c.in_ok-renamed_box-in-EmptySet in renamed_empty_set _ i.span i.of x.field-0 c.args.term.now i.is x.ensures

pub renamed-returns-in_ok-renamed_box-in-Bracket : goal.renamed-returns-in_ok-renamed_box-in-Bracket
renamed-returns-in_ok-renamed_box-in-Bracket g t c =
    let i = c.in-Bracket in let x = c.in_ok-renamed_box-in-Bracket in renamed_bracket _ i.span i.inner x.field-0 c.args.term.now i.is x.ensures

pub renamed-returns-in_ok-renamed_terms-in-Listed : goal.renamed-returns-in_ok-renamed_terms-in-Listed
renamed-returns-in_ok-renamed_terms-in-Listed g t c =
    let i = c.in-Listed in let x = c.in_ok-renamed_terms-in-Listed in renamed_listed _ i.span i.form i.items x.field-0 c.args.term.now i.is x.ensures

pub renamed-returns-in_ok-term-in-Comprehension : goal.renamed-returns-in_ok-term-in-Comprehension
renamed-returns-in_ok-term-in-Comprehension g t c =
    let i = c.in-Comprehension in let x = c.in_ok-variables-in-Comprehension in let y = c.in_ok-filter-in-Comprehension in let z = c.in_ok-term-in-Comprehension in
    renamed_comprehension _ i.span i.variables x.variables i.filter y.filter i.term z.term c.args.term.now i.is x.ensures y.ensures z.ensures

pub renamed-returns-in_ok-renamed_box-in-Unary : goal.renamed-returns-in_ok-renamed_box-in-Unary
renamed-returns-in_ok-renamed_box-in-Unary g t c =
    let i = c.in-Unary in let x = c.in_ok-renamed_box-in-Unary in renamed_unary _ i.span i.op i.of x.field-0 c.args.term.now i.is x.ensures

pub renamed-returns-in_ok-right-in-Binary : goal.renamed-returns-in_ok-right-in-Binary
renamed-returns-in_ok-right-in-Binary g t c =
    let i = c.in-Binary in let x = c.in_ok-left-in-Binary in let y = c.in_ok-right-in-Binary in
    renamed_binary _ i.span i.op i.left i.right x.left y.right c.args.term.now i.is x.ensures y.ensures

pub renamed-returns-in_ok-further-in-Chain : goal.renamed-returns-in_ok-further-in-Chain
renamed-returns-in_ok-further-in-Chain g t c =
    let i = c.in-Chain in let x = c.in_ok-first-in-Chain in let y = c.in_ok-further-in-Chain in
    renamed_chain _ i.span i.first x.first i.further y.further c.args.term.now i.is x.ensures y.ensures

pub renamed-returns-in_ok-body-in-Quantified : goal.renamed-returns-in_ok-body-in-Quantified
renamed-returns-in_ok-body-in-Quantified g t c =
    let i = c.in-Quantified in let x = c.in_ok-variables-in-Quantified in let y = c.in_ok-constraint-in-Quantified in let z = c.in_ok-body-in-Quantified in
    renamed_quantified _ i.span i.quantifier i.variables x.variables i.constraint y.constraint i.body z.body c.args.term.now i.is x.ensures y.ensures z.ensures
