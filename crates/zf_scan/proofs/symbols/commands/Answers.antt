use Rattle.zf_scan.proofs.Prelude.{refl, symbols}
use Rattle.zf_scan.proofs.symbols.commands.Goals as goal

pub returns-in-110 : goal.returns-in-110
unfolding symbols
returns-in-110 c = λ text. rw c.in-110.is refl

pub returns-in-112 : goal.returns-in-112
unfolding symbols
returns-in-112 c = λ text. rw c.in-112.is refl

pub returns-in-114 : goal.returns-in-114
unfolding symbols
returns-in-114 c = λ text. rw c.in-114.is refl

pub returns-in-115 : goal.returns-in-115
unfolding symbols
returns-in-115 c = λ text. rw c.in-115.is refl
