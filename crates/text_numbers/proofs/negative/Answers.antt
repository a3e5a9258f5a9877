-- `negative` meets its contract: no number from 1 to 32768 is negated past the range.
use Rattle.text_numbers.proofs.Minus.{fall-fits, fall-is}
use Rattle.text_numbers.proofs.negative.Goals as goal

pub overflow_sub-result-2 : goal.overflow_sub-result-2
overflow_sub-result-2 c = fall-fits _ c.requires.0 c.requires.1

pub returns : goal.returns
returns c = fall-is _ c.requires.0 c.requires.1
