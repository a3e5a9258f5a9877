-- The word of raised protections, and which switches the raised ones block.
-- Assumes nothing.
use Rattle.std.specs.Prelude.{◌≡◌, Bool, false, not, List, ℕ, ◌≤◌, ◌<◌, eqb, get_or}
use Rattle.std.proofs.Common.{ap₂, arith}
use Rattle.std.proofs.Math.Bool.{◌&&◌}
use Rattle.laws.specs.Bits.{has_bit}
use Rattle.laws.specs.Words.{bits_of, any_of, bits-same, any-same, bits-short, any-short, bits-has, any-bits}
use Rattle.protections.specs.declared.Limits.{Limits}
use Rattle.protections.specs.Limits.{limits_at}
use Rattle.protections.specs.Table.{row_at, protections}
use Rattle.sample.specs.declared.Sample.{Sample}
use Rattle.guard.specs.declared.rule.Protection.{Protection}
use Rattle.guard.specs.Runs.{is_raised}
use Rattle.guard.specs.Steps.{no_protection, raised, protections_after}
use Rattle.guard.specs.StepLaws.{protections-at, protection-raised, protection-limits}

-- ---- from the page's limits and the history

-- Protection p is raised after the history.
abbrev pub raised_after : List Limits → List Sample → ℕ → Bool
raised_after ls h p = raised (row_at p) (limits_at ls p) h

-- Bit p for raised p.
unfoldable pub raised_word_after : List Limits → List Sample → ℕ
raised_word_after ls h = bits_of (raised_after ls h) protections

-- A protection is raised, whatever its mask: mask 0 only reports, and is raised all the same.
unfoldable pub any_raised_after : List Limits → List Sample → Bool
any_raised_after ls h = any_of (raised_after ls h) protections

-- A raised protection has the mask bit of the switch: 0 is charge, 1 is discharge.
unfoldable pub blocks_after : List Limits → List Sample → ℕ → Bool
blocks_after ls h switch = any_of (λ p. raised_after ls h p && has_bit (limits_at ls p).mask switch) protections

-- ---- read off the array

abbrev pub raised_at : List Protection → ℕ → Bool
raised_at ps p = is_raised (get_or ps p no_protection).alarm

-- "`raised` has bit p for raised p."
unfoldable pub raised_word : List Protection → ℕ
raised_word ps = bits_of (raised_at ps) protections

unfoldable pub any_raised : List Protection → Bool
any_raised ps = any_of (raised_at ps) protections

-- No protection is raised exactly if the word is 0.
pub any_raised-word : (ps : List Protection) → any_raised ps ≡ not (eqb (raised_word ps) 0)
unfolding any_raised raised_word
any_raised-word ps = any-bits (raised_at ps) protections (omega arith)

-- A raised protection blocks a switch if it has its mask bit.
unfoldable pub blocks_one : ℕ → Protection → Bool
blocks_one switch p = is_raised p.alarm && has_bit p.limits.mask switch

abbrev pub blocks_at : ℕ → List Protection → ℕ → Bool
blocks_at switch ps p = blocks_one switch (get_or ps p no_protection)

unfoldable pub blocks_any : ℕ → List Protection → Bool
blocks_any switch ps = any_of (blocks_at switch ps) protections

-- ---- what the words say

module _ (ls : List Limits) (h : List Sample) where
  -- Bit p of the word is set exactly if protection p is raised.
  pub raised_word_after-has : (p : ℕ) → p < protections → has_bit (raised_word_after ls h) p ≡ raised_after ls h p
  unfolding raised_word_after
  raised_word_after-has p q = bits-has (raised_after ls h) protections p (omega arith) q

  -- No protection is raised exactly if the word is 0.
  pub any_raised_after-word : any_raised_after ls h ≡ not (eqb (raised_word_after ls h) 0)
  unfolding any_raised_after raised_word_after
  any_raised_after-word = any-bits (raised_after ls h) protections (omega arith)

-- ---- the words over the first P protections, where none from P on is raised

module _ (ls : List Limits) (h : List Sample) (P : ℕ) (most : P ≤ protections)
    (none : (p : ℕ) → P ≤ p → p < protections → raised_after ls h p ≡ false) where
  pub raised_word_after-short : raised_word_after ls h ≡ bits_of (raised_after ls h) P
  unfolding raised_word_after
  raised_word_after-short = bits-short (raised_after ls h) P protections most none

  pub any_raised_after-short : any_raised_after ls h ≡ any_of (raised_after ls h) P
  unfolding any_raised_after
  any_raised_after-short = any-short (raised_after ls h) P protections most none

  pub blocks_after-short : (switch : ℕ) → blocks_after ls h switch ≡ any_of (λ p. raised_after ls h p && has_bit (limits_at ls p).mask switch) P
  unfolding blocks_after
  blocks_after-short switch =
      any-short (λ p. raised_after ls h p && has_bit (limits_at ls p).mask switch) P protections most (λ p past inside. rw (none p past inside))

-- ---- the array that stands for a history says what the history says

module _ (ls : List Limits) (h : List Sample) where
  pub raised-at : (p : ℕ) → p < protections → raised_at (protections_after ls h) p ≡ raised_after ls h p
  raised-at p q = rw (protections-at ls h p q) (protection-raised (row_at p) (limits_at ls p) h)

  pub raised_word-is : raised_word (protections_after ls h) ≡ raised_word_after ls h
  unfolding raised_word raised_word_after
  raised_word-is = bits-same (raised_at (protections_after ls h)) (raised_after ls h) protections raised-at

  pub any_raised-is : any_raised (protections_after ls h) ≡ any_raised_after ls h
  unfolding any_raised any_raised_after
  any_raised-is = any-same (raised_at (protections_after ls h)) (raised_after ls h) protections raised-at

  pub blocks-at : (switch p : ℕ) → p < protections
      → blocks_one switch (get_or (protections_after ls h) p no_protection) ≡ raised_after ls h p && has_bit (limits_at ls p).mask switch
  unfolding blocks_one
  blocks-at switch p q =
      rw (protections-at ls h p q) (ap₂ ◌&&◌ (protection-raised (row_at p) (limits_at ls p) h) (rw protection-limits))

  pub blocks_any-is : (switch : ℕ) → blocks_any switch (protections_after ls h) ≡ blocks_after ls h switch
  unfolding blocks_any blocks_after
  blocks_any-is switch =
      any-same (λ p. blocks_one switch (get_or (protections_after ls h) p no_protection))
      (λ p. raised_after ls h p && has_bit (limits_at ls p).mask switch) protections (blocks-at switch)
