-- `valued` meets its contract: it is the definition.
use mathlib.Core.Path.{refl}
use Rattle.text_number_at.specs.Four.{valued}
use Rattle.text_number_at.proofs.valued.Goals as goal

pub returns : goal.returns
unfolding valued
returns c = refl
