-- The worked page's sheet, of 1530 bytes, for buffers of several sizes.
-- Assumes nothing.
use Rattle.std.specs.Prelude.{◌≡◌, refl, List, [], ◌∷◌, ◌++◌, map, ℕ, drop}
use Rattle.laws.specs.Numbered.{list_from}
use Rattle.crc.specs.CheckByte.{times_x, times_xs, with_byte, remainder, check_byte}
use Rattle.text_fields.specs.Fields.{line_of}
use Rattle.text_fields.specs.Decimal.{decimal}
use Rattle.units.specs.Signed.{signed_of}
use Rattle.protections.specs.Table.{table, row_at}
use Rattle.page_words.specs.Ranges.{word_at, within, degrees_fit, level_fits, level_of}
use Rattle.page_faults.specs.Kinds.{kind_of}
use Rattle.page_faults.specs.Met.{level_met, order_met, on_row, kind_meets, meets}
use Rattle.page_judge.specs.Page.{refusals, judged}
use Rattle.page_judge.specs.Worked.{worked_page, put, page_with}
use Rattle.sheet_names.specs.Names.{name_at, line_text, prefix_at}
use Rattle.sheet_write.specs.Sheet.{value_at, lines_text, sheet_text, sheet_of, wrote_text, text_in, wrote_for, sheet_in}
use Rattle.sheet_write.specs.Wrote.{Text, Refused}

abbrev worked : List ℕ
worked = sheet_of worked_page

-- As many bytes, none of them a sheet's.
abbrev sevens : List ℕ
sevens = map (λ b. 7) worked

-- One byte too few is refused with 23; as many as the sheet has are enough, and two more are not counted. A page of 11 cells is refused with its own
-- number, whatever the buffer.
rooms
    : (map (wrote_for worked_page) (0 ∷ 1529 ∷ 1530 ∷ 1532 ∷ []) ++ map (wrote_for (page_with (put 1 11 ∷ []))) (0 ∷ 1529 ∷ 1532 ∷ []))
    ≡ (Refused 23 0 ∷ Refused 23 0 ∷ Text 1530 ∷ Text 1530 ∷ Refused 6 1 ∷ Refused 6 1 ∷ Refused 6 1 ∷ [])
unfolding wrote_for wrote_text
    sheet_of sheet_text lines_text value_at word_at line_text prefix_at name_at line_of decimal table
    judged refusals meets kind_of kind_meets on_row level_met order_met list_from within degrees_fit level_fits level_of signed_of row_at
    check_byte remainder with_byte times_xs times_x
rooms = refl

-- The buffer then: as it was; the sheet; the sheet, and the two bytes past it; and as it was, for the page of 11 cells.
buffers
    : (sheet_in worked_page (drop 1 sevens) ∷ sheet_in worked_page sevens ∷ sheet_in worked_page (sevens ++ (8 ∷ 9 ∷ [])) ∷ sheet_in (page_with (put 1 11 ∷ [])) sevens ∷ [])
    ≡ (drop 1 sevens ∷ worked ∷ (worked ++ (8 ∷ 9 ∷ [])) ∷ sevens ∷ [])
unfolding sheet_in text_in
    sheet_of sheet_text lines_text value_at word_at line_text prefix_at name_at line_of decimal table
    judged refusals meets kind_of kind_meets on_row level_met order_met list_from within degrees_fit level_fits level_of signed_of row_at
    check_byte remainder with_byte times_xs times_x
buffers = refl
