-- The tables of the connectives: the truth that each makes of those of its sides.
use Rattle.std.specs.Prelude.{Option, Some, None}
use Rattle.zf_outcome.specs.Prelude.{Connective, Quantifier, ForAll, Exists, ExistsOne, Truth, True, False, Out}
use Rattle.zf_tree.specs.declared.symbol.Connective.TheVariants.{And, Or, Implies, Iff}
use Rattle.zf_outcome.specs.Truths.{opposite}

abbrev pub conjunction : Truth → Truth → Truth
conjunction False q = False
conjunction True q = q
conjunction Out False = False
conjunction Out True = Out
conjunction Out Out = Out

abbrev pub disjunction : Truth → Truth → Truth
disjunction True q = True
disjunction False q = q
disjunction Out True = True
disjunction Out False = Out
disjunction Out Out = Out

abbrev pub equivalence : Truth → Truth → Truth
equivalence Out q = Out
equivalence True q = q
equivalence False q = opposite q

abbrev pub connected : Connective → Truth → Truth → Truth
connected And p q = conjunction p q
connected Or p q = disjunction p q
connected Implies p q = disjunction (opposite p) q
connected Iff p q = equivalence p q

-- ---- no public clause rests on what follows

-- the truth where the left side decides
abbrev pub decided : Connective → Truth → Option Truth
decided And True = None
decided And False = Some False
decided And Out = None
decided Or True = Some True
decided Or False = None
decided Or Out = None
decided Implies True = None
decided Implies False = Some True
decided Implies Out = None
decided Iff True = None
decided Iff False = None
decided Iff Out = Some Out

-- the connective between the constraint and the body of a quantifier
abbrev pub connective_of : Quantifier → Connective
connective_of ForAll = Implies
connective_of Exists = And
connective_of ExistsOne = And
