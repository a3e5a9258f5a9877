-- The past of a pack: what counts of all that happened to it since its load.
-- Assumes nothing.
use Rattle.std.specs.Prelude.{List, ℕ}
use Rattle.sample.specs.declared.Sample.{Sample}

-- The accepted samples, the latest first, and the last accepted command, which is 0 at the load.
pub record Past : Type 0 where
  pub history : List Sample
  pub standing : ℕ

abbrev pub past : List Sample → ℕ → Past
past h c = record { history = h; standing = c }
