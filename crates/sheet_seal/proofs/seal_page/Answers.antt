-- `sheet_seal::seal_page` meets its contract. Assumes nothing.
use Rattle.sheet_seal.specs.Sealed.{page-sealed}
use Rattle.sheet_seal.proofs.seal_page.Goals as goal

pub returns : goal.returns
returns c = page-sealed _ c.requires _ c.check_byte.ensures
