-- What three pages say, one of them of 160 bytes, and document 02's degrees, computed from the definitions.
-- Assumes nothing.
use Rattle.std.specs.Prelude.{◌≡◌, refl, List, [], ◌∷◌, map, ℕ, replicate, ℤ, pos, negsuc}
use Rattle.laws.specs.Numbered.{list_of, list_from}
use Rattle.units.specs.Levels.{level}
use Rattle.units.specs.Signed.{signed_of}
use Rattle.crc.specs.CheckByte.{times_x, times_xs, with_byte, remainder, check_byte}
use Rattle.protections.specs.Table.{row_at, table}
use Rattle.protections.specs.declared.Limits.{Limits}
use Rattle.protections.specs.declared.Direction.TheVariants.{Above, Below}
use Rattle.protections.specs.declared.Quantity.TheVariants.{HighestCell, LowestCell, Current, Temperature1, Temperature2}
use Rattle.page_words.specs.Ranges.{word_at, within, degrees_fit, level_fits, level_of}
use Rattle.page_faults.specs.Kinds.{kind_of}
use Rattle.page_faults.specs.Met.{level_met, order_met, on_row, kind_meets, meets}
use Rattle.page_judge.specs.Page.{refusals, judged}
use Rattle.page_judge.specs.Worked.{worked_page, long_page, unlike_page, minus_word}
use Rattle.refusals.specs.Verdicts.{Accepted, Refused}
use Rattle.page_settings.specs.declared.Rules.{Rules}
use Rattle.page_settings.specs.declared.Settings.{Settings}
use Rattle.page_settings.specs.Settings.{in_degrees, twice_tenths, sample_level, limits_from, limits_for, limits_of, rules_of, settings_of, no_settings, loaded_of}

-- ---- levels

abbrev levels : List ℤ
levels =
    sample_level Above Temperature1 25
    ∷ sample_level Below Temperature1 25
    ∷ sample_level Above Temperature2 (minus_word 40)
    ∷ sample_level Below Temperature2 (minus_word 40)
    ∷ sample_level Above Temperature1 120
    ∷ sample_level Below Temperature1 120
    ∷ sample_level Above HighestCell 4250
    ∷ sample_level Below LowestCell 2600
    ∷ sample_level Below Current (minus_word 32768)
    ∷ sample_level Above Current (minus_word 1)
    ∷ []

-- 25 °C is reached at 2982 from below and at 2981 from above, -40 °C at 2332 and 2331, 120 °C at 3932 and 3931; cells are mV as they
-- stand, currents signed.
levels-are : levels
    ≡ pos 2982
    ∷ pos 2981
    ∷ pos 2332
    ∷ pos 2331
    ∷ pos 3932
    ∷ pos 3931
    ∷ pos 4250
    ∷ pos 2600
    ∷ negsuc 32767
    ∷ negsuc 0
    ∷ []
unfolding sample_level in_degrees level_of signed_of
levels-are = refl

-- ---- the worked page

abbrev limits : ℤ → ℤ → ℕ → ℕ → ℕ → Limits
limits trip release n m mask = record { trip = level trip; release = level release; n = n; m = m; mask = mask }

-- Its rules, with these for n, K and R.
abbrev pub rules_for : ℕ → ℕ → ℕ → Rules
rules_for n k r =
    record {
      n = n;
      k = k;
      r = r;
      floor = record { 0 = 3900 };
      difference = record { 0 = 10 };
      detection = pos 100;
      voltage = record { 0 = 4200 };
      current = pos 1000;
    }

abbrev pub worked_rules : Rules
worked_rules = rules_for 2 1 4

abbrev pub worked : Settings
worked =
    record {
      rules = worked_rules;
      limits =
          limits (pos 4250) (pos 4150) 2 2 1
          ∷ limits (pos 2500) (pos 2600) 2 2 2
          ∷ limits (pos 3000) (pos 2500) 2 2 1
          ∷ limits (negsuc 4999) (negsuc 3999) 2 2 2
          ∷ limits (negsuc 19999) (negsuc 99) 2 2 3
          ∷ limits (pos 3182) (pos 3131) 2 2 1
          ∷ limits (pos 3332) (pos 3281) 2 2 2
          ∷ limits (pos 3532) (pos 3431) 2 2 3
          ∷ limits (negsuc 0) (pos 0) 1 1 0
          ∷ limits (negsuc 0) (pos 0) 1 1 0
          ∷ [];
    }

pub worked-loaded : loaded_of worked_page ≡ record { verdict = Accepted; settings = worked }
unfolding loaded_of settings_of rules_of limits_of limits_for limits_from sample_level in_degrees level_of signed_of judged refusals meets kind_of kind_meets on_row
    level_met order_met list_of list_from word_at within degrees_fit level_fits row_at table check_byte remainder with_byte times_xs times_x
worked-loaded = refl

-- ---- a page of 160 bytes: 0 °C trips charge cold at 2731 tenths, and 5 °C releases it at 2782; -10 and -5 °C for discharge cold

abbrev pub winter : Settings
winter =
    record {
      rules = worked_rules;
      limits =
          limits (pos 4250) (pos 4150) 2 3 1
          ∷ limits (pos 2500) (pos 2600) 4 5 2
          ∷ limits (pos 3000) (pos 2500) 6 7 1
          ∷ limits (negsuc 4999) (negsuc 3999) 8 9 2
          ∷ limits (negsuc 19999) (negsuc 99) 1 12 3
          ∷ limits (pos 3182) (pos 3131) 10 11 1
          ∷ limits (pos 3332) (pos 3281) 13 14 2
          ∷ limits (pos 3532) (pos 3431) 15 16 3
          ∷ limits (pos 2731) (pos 2782) 2 4 1
          ∷ limits (pos 2631) (pos 2682) 3 6 2
          ∷ [];
    }

pub winter-loaded : loaded_of long_page ≡ record { verdict = Accepted; settings = winter }
unfolding loaded_of settings_of rules_of limits_of limits_for limits_from sample_level in_degrees level_of signed_of judged refusals meets kind_of kind_meets on_row
    level_met order_met list_of list_from word_at within degrees_fit level_fits row_at table check_byte remainder with_byte times_xs times_x
winter-loaded = refl

-- ---- a page whose words are all unlike: each is read where it belongs

abbrev pub unlike : Settings
unlike =
    record {
      rules =
          record {
            n = 7;
            k = 3;
            r = 200;
            floor = record { 0 = 3700 };
            difference = record { 0 = 25 };
            detection = pos 150;
            voltage = record { 0 = 4180 };
            current = pos 1700;
          };
      limits =
          limits (pos 4300) (pos 4100) 4 5 0
          ∷ limits (pos 2600) (pos 2750) 6 7 1
          ∷ limits (pos 2000) (negsuc 299) 8 9 2
          ∷ limits (negsuc 3999) (negsuc 3499) 10 11 3
          ∷ limits (negsuc 32767) (pos 5) 12 13 0
          ∷ limits (pos 3232) (pos 2331) 14 15 1
          ∷ limits (pos 3382) (pos 2731) 16 17 2
          ∷ limits (pos 3932) (pos 2681) 240 239 3
          ∷ limits (negsuc 0) (pos 0) 1 1 0
          ∷ limits (negsuc 0) (pos 0) 1 1 0
          ∷ [];
    }

pub unlike-loaded : loaded_of unlike_page ≡ record { verdict = Accepted; settings = unlike }
unfolding loaded_of settings_of rules_of limits_of limits_for limits_from sample_level in_degrees level_of signed_of judged refusals meets kind_of kind_meets on_row
    level_met order_met list_of list_from word_at within degrees_fit level_fits row_at table check_byte remainder with_byte times_xs times_x
unlike-loaded = refl

-- ---- a refused page says nothing: no cell, no protection, 0 throughout

abbrev silent : Settings
silent =
    record {
      rules =
          record {
            n = 0;
            k = 0;
            r = 0;
            floor = record { 0 = 0 };
            difference = record { 0 = 0 };
            detection = pos 0;
            voltage = record { 0 = 0 };
            current = pos 0;
          };
      limits = replicate 10 (limits (pos 0) (pos 0) 0 0 0);
    }

none-loaded : loaded_of [] ≡ record { verdict = Refused 1 0; settings = silent }
unfolding loaded_of settings_of rules_of no_settings judged refusals meets kind_of kind_meets on_row level_met order_met list_from word_at within
    degrees_fit level_fits level_of signed_of row_at table check_byte remainder
none-loaded = refl

-- ---- twice the tenths of -40, -1, 0, 25 and 120 °C

degrees : map twice_tenths (negsuc 39 ∷ negsuc 0 ∷ pos 0 ∷ pos 25 ∷ pos 120 ∷ []) ≡ pos 4663 ∷ pos 5443 ∷ pos 5463 ∷ pos 5963 ∷ pos 7863 ∷ []
degrees = refl
