-- Document 02: "C degrees now stand for exactly 10 × C + 2731.5 tenths. So an upper trip at C needs a sample of 10 × C + 2732 or more, and its release
-- one of 10 × C + 2731 or less; a lower limit is the mirror": of an accepted page's words. Both sides are taken twice, so that they are whole.
-- Assumes nothing.
use Rattle.std.specs.Prelude.{◌≡◌, true, false, List, ℕ, ◌+◌, ◌*◌, ◌<◌, ℤ, pos}
use Rattle.std.proofs.Common.{sym, ◌∙◌, true≢false, arith}
use Rattle.std.proofs.Math.Path.{ap}
use Rattle.units.specs.Signed.{signed_of}
use Rattle.protections.specs.Direction.{reaches, back_of}
use Rattle.protections.specs.Table.{row_at}
use Rattle.protections.specs.declared.Direction.{Direction}
use Rattle.protections.specs.declared.Quantity.{Quantity}
use Rattle.protections.specs.declared.Quantity.TheVariants.{HighestCell, LowestCell, Current, Temperature1, Temperature2}
use Rattle.page_words.specs.Ranges.{word_at, level_fits, level_of}
use Rattle.page_judge.specs.Page.{judged}
use Rattle.page_judge.specs.Accepted.{accepted-limits}
use Rattle.refusals.specs.Verdicts.{Accepted}
use Rattle.page_settings.specs.Settings.{in_degrees, twice_tenths, sample_level, limits_from, page_protections}
use Rattle.page_settings.specs.Degrees.{level-exact}
use Rattle.sample.specs.declared.Sample.{Sample}
use Rattle.sample.specs.Measure.{measure, trips, qualifies}

-- The thermistor that a protection looks at.
abbrev pub tenths_of : Quantity → Sample → ℕ
tenths_of HighestCell s = 0
tenths_of LowestCell s = 0
tenths_of Current s = 0
tenths_of Temperature1 s = s.t1.0
tenths_of Temperature2 s = s.t2.0

level-said : (d : Direction) (q : Quantity) (x : ℕ) → in_degrees q ≡ true → level_fits q x ≡ true → (s : Sample)
    → reaches d (sample_level d q x) (measure q s) ≡ reaches d (twice_tenths (signed_of x)) (pos (2 * tenths_of q s))
unfolding in_degrees level_fits level_of sample_level measure
level-said d HighestCell x h fits s = absurd (true≢false (sym h))
level-said d LowestCell x h fits s = absurd (true≢false (sym h))
level-said d Current x h fits s = absurd (true≢false (sym h))
level-said d Temperature1 x h fits s = level-exact d (signed_of x) s.t1.0 fits
level-said d Temperature2 x h fits s = level-exact d (signed_of x) s.t2.0 fits

module _ (bytes : List ℕ) (taken : judged bytes ≡ Accepted) (p : ℕ) (inside : p < page_protections bytes) (heat : in_degrees (row_at p).quantity ≡ true)
    (s : Sample) where
  pub trips-degrees : trips (row_at p) (limits_from bytes p) s
      ≡ reaches (row_at p).direction (twice_tenths (signed_of (word_at bytes (16 + 5 * p)))) (pos (2 * tenths_of (row_at p).quantity s))
  unfolding limits_from
  trips-degrees = level-said (row_at p).direction (row_at p).quantity (word_at bytes (16 + 5 * p)) heat (accepted-limits bytes taken p inside).trip s

  pub qualifies-degrees : qualifies (row_at p) (limits_from bytes p) s
      ≡ reaches (back_of (row_at p).direction) (twice_tenths (signed_of (word_at bytes (17 + 5 * p)))) (pos (2 * tenths_of (row_at p).quantity s))
  unfolding limits_from
  qualifies-degrees =
      level-said (back_of (row_at p).direction) (row_at p).quantity (word_at bytes (16 + 5 * p + 1)) heat (accepted-limits bytes taken p inside).release s
      ∙ ap (λ (i : ℕ). reaches (back_of (row_at p).direction) (twice_tenths (signed_of (word_at bytes i))) (pos (2 * tenths_of (row_at p).quantity s))) (omega arith)

-- Cells and currents are held against the words as they stand, currents signed.
plain-said : (d : Direction) (q : Quantity) (x : ℕ) → in_degrees q ≡ false → sample_level d q x ≡ level_of q x
unfolding sample_level
plain-said d q x plain = rw plain

module _ (bytes : List ℕ) (p : ℕ) (plain : in_degrees (row_at p).quantity ≡ false) (s : Sample) where
  pub trips-plain : trips (row_at p) (limits_from bytes p) s
      ≡ reaches (row_at p).direction (level_of (row_at p).quantity (word_at bytes (16 + 5 * p))) (measure (row_at p).quantity s)
  unfolding limits_from
  trips-plain =
      ap (λ (z : ℤ). reaches (row_at p).direction z (measure (row_at p).quantity s))
      (plain-said (row_at p).direction (row_at p).quantity (word_at bytes (16 + 5 * p)) plain)

  pub qualifies-plain : qualifies (row_at p) (limits_from bytes p) s
      ≡ reaches (back_of (row_at p).direction) (level_of (row_at p).quantity (word_at bytes (17 + 5 * p))) (measure (row_at p).quantity s)
  unfolding limits_from
  qualifies-plain =
      ap (λ (z : ℤ). reaches (back_of (row_at p).direction) z (measure (row_at p).quantity s))
      (plain-said (back_of (row_at p).direction) (row_at p).quantity (word_at bytes (16 + 5 * p + 1)) plain)
      ∙ ap (λ (i : ℕ). reaches (back_of (row_at p).direction) (level_of (row_at p).quantity (word_at bytes i)) (measure (row_at p).quantity s)) (omega arith)
