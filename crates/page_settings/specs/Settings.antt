-- What an accepted settings page says, in the units of the samples.
-- Assumes nothing.
use Rattle.std.specs.Prelude.{Ok, Err, Bool, true, false, cond, List, ℕ, ◌+◌, ltb, length, replicate, ℤ, pos, negsuc, ◌+ℤ◌, ◌*ℤ◌}
use Rattle.laws.specs.Numbered.{list_of}
use Rattle.units.specs.Levels.{level}
use Rattle.units.specs.Signed.{signed_of}
use Rattle.protections.specs.Limits.{no_limits}
use Rattle.protections.specs.Table.{row_at, protections}
use Rattle.protections.specs.Direction.{back_of}
use Rattle.protections.specs.declared.Limits.{Limits}
use Rattle.protections.specs.declared.Direction.{Direction}
use Rattle.protections.specs.declared.Direction.TheVariants.{Above, Below}
use Rattle.protections.specs.declared.Quantity.{Quantity}
use Rattle.protections.specs.declared.Quantity.TheVariants.{HighestCell, LowestCell, Current, Temperature1, Temperature2}
use Rattle.page_words.specs.Ranges.{word_at, level_of}
use Rattle.page_faults.specs.Kinds.{layout_of, trip_word}
use Rattle.page_judge.specs.Page.{judged}
use Rattle.refusals.specs.Verdicts.{Verdict}
use Rattle.page_settings.specs.declared.Rules.{Rules}
use Rattle.page_settings.specs.declared.Settings.{Settings}
use Rattle.page_settings.specs.declared.Loaded.{Loaded}

-- "Page temperatures are in °C."
unfoldable pub in_degrees : Quantity → Bool
in_degrees HighestCell = false
in_degrees LowestCell = false
in_degrees Current = false
in_degrees Temperature1 = true
in_degrees Temperature2 = true

-- "C degrees now stand for exactly 10 × C + 2731.5 tenths": twice that, so that it is whole.
abbrev pub twice_tenths : ℤ → ℤ
twice_tenths c = pos 20 *ℤ c +ℤ pos 5463

-- "An upper trip at C needs a sample of 10 × C + 2732 or more, and its release one of 10 × C + 2731 or less; a lower limit is the mirror":
-- what is added where a level is reached from below, at or above it, and where from above.
abbrev pub tenths_at_zero : Direction → ℕ
tenths_at_zero Above = 2732
tenths_at_zero Below = 2731

-- The level that the word x stands for, in the sample's unit, where it is reached in this direction.
unfoldable pub sample_level : Direction → Quantity → ℕ → ℤ
sample_level d q x = cond (in_degrees q) (pos 10 *ℤ level_of q x +ℤ pos (tenths_at_zero d)) (level_of q x)

-- What the page b says of protection p: "trip, release, N, M, switch mask". The release level is reached the other way.
unfoldable pub limits_from : List ℕ → ℕ → Limits
limits_from b p =
    let at = trip_word p in
    record {
      trip = level (sample_level (row_at p).direction (row_at p).quantity (word_at b at));
      release = level (sample_level (back_of (row_at p).direction) (row_at p).quantity (word_at b (at + 1)));
      n = word_at b (at + 2);
      m = word_at b (at + 3);
      mask = word_at b (at + 4);
    }

-- How many protections the page b has, by its length: those from 0 on.
abbrev pub page_protections : List ℕ → ℕ
page_protections b = (layout_of (length b)).protections

-- What stands for a protection that a page does not have: no temperature is below 0 tenths of a kelvin.
abbrev pub absent : Limits
absent = record { trip = level (negsuc 0); release = level (pos 0); n = 1; m = 1; mask = 0 }

-- What the page b says of protection p, if it has it.
unfoldable pub limits_for : List ℕ → ℕ → Limits
limits_for b p = cond (ltb p (page_protections b)) (limits_from b p) absent

-- Of each protection, in the order of their numbers.
unfoldable pub limits_of : List ℕ → List Limits
limits_of b = list_of (limits_for b) protections

-- What the page b says in its words 1 to 8.
unfoldable pub rules_of : List ℕ → Rules
rules_of b =
    record {
      n = word_at b 1;
      k = word_at b 2;
      r = word_at b 3;
      floor = record { 0 = word_at b 4 };
      difference = record { 0 = word_at b 5 };
      detection = signed_of (word_at b 6);
      voltage = record { 0 = word_at b 7 };
      current = signed_of (word_at b 8);
    }

-- What the page b says: its words 1 to 8, and its protections.
unfoldable pub settings_of : List ℕ → Settings
settings_of b = record { rules = rules_of b; limits = limits_of b }

-- What stands for the settings of a page that is refused.
abbrev pub no_rules : Rules
no_rules =
    record {
      n = 0;
      k = 0;
      r = 0;
      floor = record { 0 = 0 };
      difference = record { 0 = 0 };
      detection = pos 0;
      voltage = record { 0 = 0 };
      current = pos 0;
    }

unfoldable pub no_settings : Settings
no_settings = record { rules = no_rules; limits = replicate protections no_limits }

abbrev pub loaded_with : Verdict → List ℕ → Loaded
loaded_with (Ok done) b = record { verdict = Ok done; settings = settings_of b }
loaded_with (Err refusal) b = record { verdict = Err refusal; settings = no_settings }

-- What a load of the bytes b gives.
unfoldable pub loaded_of : List ℕ → Loaded
loaded_of b = loaded_with (judged b) b
