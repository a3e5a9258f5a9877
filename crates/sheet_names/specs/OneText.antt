-- The prefixes of all lines as one text, one behind the other: those of the shorter sheet, and then those of the longer one from line 56 on,
-- where the two part; and where each is cut out of it. The texts of `prefix_list`, one behind the other, are the same.
-- Assumes nothing.
use Rattle.std.specs.Prelude.{◌≡◌, refl, Bool, true, false, ◌&&◌, List, [], ◌∷◌, ◌++◌, ℕ, ◌+◌, ◌-◌, ◌≤◌, ◌<◌, leb, length, take, drop, get_or}
use Rattle.std.proofs.Common.{arith, leb-true}
use Rattle.laws.specs.Numbered.{list_from}
use Rattle.laws.specs.Tests.{and-left, and-right}
use Rattle.text_fields.specs.Decimal.{decimal}
use Rattle.protections.specs.Table.{table}
use Rattle.page_faults.specs.Kinds.{short_layout, long_layout}
use Rattle.sheet_names.specs.Names.{layout_for, name_at, prefix_at}
use Rattle.sheet_names.specs.Prefixes.{prefix_list, row_for, same, same-is, every_below, below-at}

abbrev joined : List (List ℕ) → List ℕ
joined [] = []
joined (x ∷ xs) = x ++ joined xs

-- All prefixes.
unfoldable pub prefixes : List ℕ
unfolding prefix_at name_at list_from decimal table
prefixes = joined (list_from (prefix_at short_layout) 0 64) ++ joined (list_from (prefix_at long_layout) 56 24)

-- Prefix k ends where the next one starts, entry k + 1.
abbrev ends : List ℕ
ends =
    0 ∷ 7 ∷ 15 ∷ 27 ∷ 39 ∷ 55 ∷ 76 ∷ 95 ∷ 114 ∷ 133 ∷ 146 ∷ 161 ∷ 176 ∷ 191 ∷ 206 ∷ 221 ∷ 236 ∷ 257 ∷ 281 ∷ 299 ∷ 317 ∷ 338 ∷ 360 ∷ 385 ∷ 404 ∷ 423 ∷ 445 ∷ 473 ∷ 504 ∷ 529 ∷ 554 ∷ 582 ∷ 613 ∷ 647 ∷ 675 ∷ 703 ∷ 734 ∷ 756 ∷ 781 ∷ 800 ∷ 819 ∷ 841 ∷ 866 ∷ 894 ∷ 916 ∷ 938 ∷ 963 ∷ 991 ∷ 1022 ∷ 1047 ∷ 1072 ∷ 1100 ∷ 1126 ∷ 1155 ∷ 1178 ∷ 1201 ∷ 1227 ∷ 1242 ∷ 1257 ∷ 1272 ∷ 1287 ∷ 1302 ∷ 1317 ∷ 1332 ∷ 1346 ∷ 1366 ∷ 1389 ∷ 1406 ∷ 1423 ∷ 1443 ∷ 1466 ∷ 1492 ∷ 1512 ∷ 1532 ∷ 1555 ∷ 1570 ∷ 1585 ∷ 1600 ∷ 1615 ∷ 1630 ∷ 1645 ∷ 1660 ∷ 1675 ∷ 1690 ∷ 1705 ∷ 1720 ∷ 1735 ∷ 1750 ∷ 1764 ∷ []

-- Where prefix k starts.
unfoldable pub start_at : ℕ → ℕ
start_at k = get_or ends k 0

-- Prefix k of the bytes s.
abbrev pub part_of : List ℕ → ℕ → List ℕ
part_of s k = take (start_at (k + 1) - start_at k) (drop (start_at k) s)

-- ---- the rule

-- The rule at one line of a sheet: its prefix stands at its row, and has 34 bytes at most.
abbrev right : Bool → ℕ → Bool
right long i = same (part_of prefixes (row_for long i)) (prefix_at (layout_for long) i) && leb (length (prefix_at (layout_for long) i)) 34

all-right : every_below (right false) 64 && every_below (right true) 80 ≡ true
unfolding start_at prefixes prefix_at name_at list_from decimal table
all-right = refl

right-at : (long : Bool) (i : ℕ) → i ≤ (layout_for long).last → right long i ≡ true
right-at false i h = below-at (right false) 64 i (and-left (every_below (right false) 64) (every_below (right true) 80) all-right) (omega arith)
right-at true i h = below-at (right true) 80 i (and-right (every_below (right false) 64) (every_below (right true) 80) all-right) (omega arith)

-- The prefix of each line stands at its row.
pub prefix-is : (long : Bool) (i : ℕ) → i ≤ (layout_for long).last → part_of prefixes (row_for long i) ≡ prefix_at (layout_for long) i
prefix-is long i h =
    same-is (part_of prefixes (row_for long i)) (prefix_at (layout_for long) i)
    (and-left (same (part_of prefixes (row_for long i)) (prefix_at (layout_for long) i)) (leb (length (prefix_at (layout_for long) i)) 34) (right-at long i h))

-- ---- where a prefix is cut out

pub prefixes-length : length prefixes ≡ 1764
unfolding prefixes prefix_at name_at list_from decimal table
prefixes-length = refl

abbrev ordered : ℕ → Bool
ordered k = leb (start_at k) (start_at (k + 1)) && leb (start_at (k + 1)) 1764

all-ordered : every_below ordered 88 ≡ true
unfolding start_at
all-ordered = refl

pub starts-rise : (k : ℕ) → k < 88 → (start_at k ≤ start_at (k + 1)) × (start_at (k + 1) ≤ 1764)
starts-rise k h =
    let t = below-at ordered 88 k all-ordered h in (
      leb-true (start_at k) (start_at (k + 1)) (and-left (leb (start_at k) (start_at (k + 1))) (leb (start_at (k + 1)) 1764) t),
      leb-true (start_at (k + 1)) 1764 (and-right (leb (start_at k) (start_at (k + 1))) (leb (start_at (k + 1)) 1764) t),
    )

all-few : every_below (λ k. leb (start_at k) 1764) 89 ≡ true
unfolding start_at
all-few = refl

pub starts-few : (k : ℕ) → k ≤ 88 → start_at k ≤ 1764
starts-few k h = leb-true (start_at k) 1764 (below-at (λ j. leb (start_at j) 1764) 89 k all-few (omega arith))

-- ---- the texts of the list

pub list-joined : joined prefix_list ≡ prefixes
unfolding prefix_list prefixes prefix_at name_at list_from decimal table
list-joined = refl
