-- What each word of a settings page is: document 01's table of words, said once, for a page of any layout, and the two layouts there are.
-- Assumes nothing.
use Rattle.std.specs.Prelude.{◌≡◌, ◌||◌, cond, List, [], ◌∷◌, ℕ, ◌+◌, ◌-◌, ◌*◌, ◌/◌, ◌%◌, ◌<◌, ◌≤◌, ltb, eqb, get_or}
use Rattle.std.proofs.Common.{arith, lt-ltb, le-ltb, eqb-true}
use Rattle.std.proofs.Math.ListN.{get_or-eq_default}
use Rattle.laws.specs.Tests.{by-test}
use Rattle.units.specs.declared.ProtectionNo.{ProtectionNo}
use Rattle.protections.specs.Limits.{least_run, most_run, most_mask}
use Rattle.page_faults.specs.declared.Layout.{Layout}
use Rattle.page_faults.specs.declared.Kind.{Kind}
use Rattle.page_faults.specs.declared.Kind.TheVariants.{Mark, Setting, Reserved, Trip, Release, Limit, Last, Outside}

-- ---- layouts

-- The page of document 01: mark 0x17A4, eight protections, words 0 to 63.
abbrev pub short_layout : Layout
short_layout = record { mark = 0x17A4; protections = 8; last = 63 }

-- "The new page has 160 bytes, mark 0x17A5, protections in words 16 to 65, words 66 to 78 zero, byte 158 zero and in byte 159 the check
-- byte of bytes 0..158": ten protections, words 0 to 79.
abbrev pub long_layout : Layout
long_layout = record { mark = 0x17A5; protections = 10; last = 79 }

-- The layout of a page, by its length. A page of neither length has the short one here; row 1 refuses it before any other row is asked.
abbrev pub layout_of : ℕ → Layout
layout_of n = cond (eqb n 160) long_layout short_layout

-- A word has two bytes. The high byte of the last word is the check byte of all bytes before it, and the last byte of the page.
abbrev pub check_at : Layout → ℕ
check_at l = 2 * l.last + 1

abbrev pub bytes_of : Layout → ℕ
bytes_of l = check_at l + 1

-- ---- the table of words

-- Words 0 to 8; words 9 to 15 are reserved.
abbrev fronts : List Kind
fronts =
    Mark
    ∷ Setting 2 10  -- cells n
    ∷ Setting 1 5  -- most cells bled at once, K
    ∷ Setting 1 240  -- run limit R
    ∷ Setting 0 6000  -- balance floor
    ∷ Setting 1 6000  -- balance difference
    ∷ Setting 1 32767  -- charge detection current
    ∷ Setting 0 6000  -- charging voltage per cell
    ∷ Setting 0 32767  -- charging current
    ∷ []

abbrev pub front_kind : ℕ → Kind
front_kind i = get_or fronts i Reserved

-- Protection p has words 16 + 5p to 20 + 5p: trip, release, N, M, switch mask.
abbrev pub trip_word : ℕ → ℕ
trip_word p = 16 + 5 * p

abbrev parts : ProtectionNo → List Kind
parts p =
    Trip p
    ∷ Release p
    ∷ Limit least_run most_run  -- N
    ∷ Limit least_run most_run  -- M
    ∷ []

-- Word f of the five; the last is the switch mask.
abbrev pub part_kind : ProtectionNo → ℕ → Kind
part_kind p f = get_or (parts p) f (Limit 0 most_mask)

-- What word i is. Behind the protections all words are reserved but the last, and past the last there is none.
unfoldable pub kind_of : Layout → ℕ → Kind
kind_of l i =
    cond (ltb i 16) (front_kind i)
    (cond (ltb i (trip_word l.protections)) (part_kind (record { 0 = (i - 16) / 5 }) ((i - 16) % 5))
    (cond (ltb i l.last) Reserved
    (cond (eqb i l.last) Last Outside)))

-- A value in the range of a word that has one by its kind.
abbrev pub Inside : Kind → ℕ → Type 0
Inside Mark x = Unit {0}
Inside (Setting low high) x = (low ≤ x) × (x ≤ high)
Inside Reserved x = Unit {0}
Inside (Trip p) x = Unit {0}
Inside (Release p) x = Unit {0}
Inside (Limit low high) x = (low ≤ x) × (x ≤ high)
Inside Last x = Unit {0}
Inside Outside x = Unit {0}

-- ---- where each kind stands

pub front-past : (i : ℕ) → 9 ≤ i → front_kind i ≡ Reserved
front-past i h = get_or-eq_default fronts Reserved h

pub part-past : (p : ProtectionNo) (f : ℕ) → 4 ≤ f → part_kind p f ≡ Limit 0 most_mask
part-past p f h = get_or-eq_default (parts p) (Limit 0 most_mask) h

pub kind-front : (l : Layout) (i : ℕ) → i < 16 → kind_of l i ≡ front_kind i
unfolding kind_of
kind-front l i h = rw (lt-ltb i 16 h)

-- Word f of protection p.
pub kind-part : (l : Layout) (p f : ℕ) → p < l.protections → f < 5 → kind_of l (trip_word p + f) ≡ part_kind (record { 0 = p }) f
unfolding kind_of
kind-part l p f hp hf =
    let q : (trip_word p + f - 16) / 5 ≡ p = omega arith in
    let r : (trip_word p + f - 16) % 5 ≡ f = omega arith in
    rw (le-ltb (trip_word p + f) 16 (omega arith), lt-ltb (trip_word p + f) (trip_word l.protections) (omega arith), q, r)

-- ---- of both layouts

-- What holds of both holds of the layout of any length.
pub both : (P : Layout → Type 0) → P short_layout → P long_layout → (n : ℕ) → P (layout_of n)
both P s l n = by-test (eqb n 160) (λ t. rw t l) (λ t. rw t s)

-- There is room for the protections in front of the last word.
pub has-room : (n : ℕ) → trip_word (layout_of n).protections ≤ (layout_of n).last
has-room = both (λ (l : Layout). trip_word l.protections ≤ l.last) (omega arith) (omega arith)

-- A page is as long as its layout says exactly if it has 128 or 160 bytes.
pub length-fits : (n : ℕ) → (eqb n 128 || eqb n 160) ≡ eqb n (bytes_of (layout_of n))
length-fits n =
    by-test (eqb n 160)
    (λ t. rw (eqb-true n 160 t))
    (λ t. by-test (eqb n 128) (λ u. rw (eqb-true n 128 u)) (λ u. rw (t, u)))
