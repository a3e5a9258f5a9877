-- A protection that the page does not have is never raised, so that the words over all protections are those over the page's own.
-- Assumes nothing.
use Rattle.std.specs.Prelude.{◌≡◌, false, ◌&&◌, List, ℕ, ◌≤◌, ◌<◌}
use Rattle.std.proofs.Common.{arith}
use Rattle.laws.specs.Bits.{has_bit}
use Rattle.laws.specs.Words.{bits_of, any_of}
use Rattle.protections.specs.Limits.{limits_at}
use Rattle.protections.specs.Table.{row_at, protections}
use Rattle.protections.specs.declared.Row.{Row}
use Rattle.protections.specs.declared.Direction.TheVariants.{Below}
use Rattle.protections.specs.declared.Quantity.TheVariants.{Temperature1}
use Rattle.sample.specs.declared.Sample.{Sample}
use Rattle.sample.specs.Measure.{measure}
use Rattle.guard.specs.Steps.{raised}
use Rattle.guard.proofs.StepLaws.{raised-never}
use Rattle.guard_raised.specs.Words.{raised_after, raised_word_after, any_raised_after, blocks_after}
use Rattle.guard_raised.specs.Words.{raised_word_after-short, any_raised_after-short, blocks_after-short}
use Rattle.page_settings.specs.Settings.{page_protections, absent, limits_of}
use Rattle.page_settings.specs.Good.{most-protections, limits-past, past-row, absent-unreached}

-- One on temperature 1 that trips at or below, with the limits of one that the page does not have, is raised after no history.
pub absent-never : (row : Row) → row.direction ≡ Below → row.quantity ≡ Temperature1 → (h : List Sample) → raised row absent h ≡ false
unfolding measure
absent-never row below first = raised-never row absent (omega arith) (λ s. rw (below, first) (absent-unreached s.t1.0))

module _ (b : List ℕ) (h : List Sample) where
  -- From the page's own number on none is raised.
  pub never-rises : (p : ℕ) → page_protections b ≤ p → p < protections → raised_after (limits_of b) h p ≡ false
  never-rises p past inside =
      rw (limits-past b p past inside) (absent-never (row_at p) (rw (past-row b p past)) (rw (past-row b p past)) h)

  -- So the raised word, whether one is raised and what blocks a switch are said by the page's own.
  pub raised-count : raised_word_after (limits_of b) h ≡ bits_of (raised_after (limits_of b) h) (page_protections b)
  raised-count = raised_word_after-short (limits_of b) h (page_protections b) (most-protections b) never-rises

  pub any-count : any_raised_after (limits_of b) h ≡ any_of (raised_after (limits_of b) h) (page_protections b)
  any-count = any_raised_after-short (limits_of b) h (page_protections b) (most-protections b) never-rises

  pub blocks-count : (switch : ℕ) → blocks_after (limits_of b) h switch
      ≡ any_of (λ p. raised_after (limits_of b) h p && has_bit (limits_at (limits_of b) p).mask switch) (page_protections b)
  blocks-count = blocks_after-short (limits_of b) h (page_protections b) (most-protections b) never-rises
