-- The highest and the lowest cell of a sample. Cell k + 1 stands at place k of the array of ten.
-- Assumes nothing.
use Rattle.std.specs.Prelude.{◌≡◌, Bool, true, false, cond, List, ltb, get_or}
use Rattle.std.proofs.Math.Path.{refl}
use Rattle.std.proofs.Common.{ap, not-suc-le-zero, eq-or-lt_of_le, le_of_suc-le-suc, add-one, ltb-true, ltb-false, le-ltb}
use Prim.Native.Nat.{ℕ, zero, suc, ◌+◌, ◌-◌, ◌≤◌, ◌<◌}
use native.Mathlib.Omega.{arith}
use Rattle.std.proofs.Math.Logic.{⊎_elim}
use Rattle.laws.specs.Tests.{by-test, clash}
use Rattle.units.specs.declared.MilliVolts.{MilliVolts}
use Rattle.units.specs.Cells.{ten_at_most, ten-all}
use Rattle.sample.specs.declared.Found.{Found}
use Rattle.sample.specs.declared.Extremes.{Extremes}

abbrev pub no_volts : MilliVolts
no_volts = record { 0 = 0 }

-- A cell that was found: cell k + 1 stands at place k. Where there is no cell, number 0 and 0 mV.
abbrev pub found_at : List MilliVolts → ℕ → Found
found_at cells k = record { number = record { 0 = suc k }; volts = get_or cells k no_volts }

abbrev pub none_found : Found
none_found = record { number = record { 0 = 0 }; volts = no_volts }

-- The larger of two, and the smaller; of two that are equal, the first: "the lowest number where cells are equal".
abbrev pub larger : Found → Found → Found
larger a b = cond (ltb a.volts.0 b.volts.0) b a

abbrev pub smaller : Found → Found → Found
smaller a b = cond (ltb b.volts.0 a.volts.0) b a

-- What is left of the first n cells if of two of them one is chosen.
unfoldable pub best_of : (Found → Found → Found) → List MilliVolts → ℕ → Found
best_of choose cells zero = none_found
best_of choose cells (suc zero) = found_at cells 0
best_of choose cells (suc (suc k)) = choose (best_of choose cells (suc k)) (found_at cells (suc k))

-- The highest of the first n cells.
abbrev pub highest : List MilliVolts → ℕ → Found
highest = best_of larger

-- The lowest of the first n cells.
abbrev pub lowest : List MilliVolts → ℕ → Found
lowest = best_of smaller

abbrev pub extremes_to : List MilliVolts → ℕ → Extremes
extremes_to cells n = record { highest = highest cells n; lowest = lowest cells n }

-- The extremes of one cell more.
unfoldable pub widened : Extremes → Found → Extremes
widened e cell = record { highest = larger e.highest cell; lowest = smaller e.lowest cell }

-- The highest and the lowest cell of a sample of `count` cells.
unfoldable pub extremes_of : List MilliVolts → ℕ → Extremes
extremes_of cells count = extremes_to cells (ten_at_most count)

-- ---- what the search for them needs

pub extremes-are : (cells : List MilliVolts) (count : ℕ) → count ≤ 10
    → extremes_of cells count ≡ record { highest = highest cells count; lowest = lowest cells count }
unfolding extremes_of
extremes-are cells count h = ap (extremes_to cells) (ten-all count h)

pub extremes-none : (cells : List MilliVolts) (count : ℕ) → ten_at_most count ≡ 0
    → record { highest = none_found; lowest = none_found } ≡ extremes_of cells count
unfolding extremes_of best_of
extremes-none cells count e = rw e

pub extremes-first : (cells : List MilliVolts) → record { highest = found_at cells 0; lowest = found_at cells 0 } ≡ extremes_to cells 1
unfolding best_of
extremes-first cells = refl

-- One turn of the search.
pub extremes-next : (cells : List MilliVolts) (e : Extremes) (i : ℕ) → 1 ≤ i → e ≡ extremes_to cells i
    → widened e (record { number = record { 0 = i + 1 }; volts = get_or cells i no_volts }) ≡ extremes_to cells (i + 1)
unfolding widened best_of
extremes-next cells e zero h q = absurd (not-suc-le-zero h)
extremes-next cells e (suc k) h q = rw (add-one, q)

-- ---- the extremes of `count` cells are those of the first `count` entries alone

best-same : (choose : Found → Found → Found) (a b : List MilliVolts) (n : ℕ)
    → ((i : ℕ) → i < n → get_or a i no_volts ≡ get_or b i no_volts) → best_of choose a n ≡ best_of choose b n
unfolding best_of
best-same choose a b zero same = refl
best-same choose a b (suc zero) same = rw (same 0 (omega arith))
best-same choose a b (suc (suc k)) same = rw (best-same choose a b (suc k) (λ i h. same i (omega arith)), same (suc k) (omega arith))

pub extremes-same : (a b : List MilliVolts) (count : ℕ) → ((i : ℕ) → i < ten_at_most count → get_or a i no_volts ≡ get_or b i no_volts)
    → extremes_of a count ≡ extremes_of b count
unfolding extremes_of
extremes-same a b count same = rw (best-same larger a b (ten_at_most count) same, best-same smaller a b (ten_at_most count) same)

-- ---- what they are, over the test by which a cell is better than the one chosen before it

-- A cell among the first n.
pub record Among (cells : List MilliVolts) (n : ℕ) (f : Found) : Type 0 where
  pub place : ℕ
  pub within : place < n
  pub is : f ≡ found_at cells place

-- Its number is that of one of the first n cells, and the cell of that number, which stands at the place before it, is the cell found.
abbrev pub Numbered : List MilliVolts → ℕ → Found → Type 0
Numbered cells n f = (1 ≤ f.number.0) × (f.number.0 ≤ n) × (get_or cells (f.number.0 - 1) no_volts ≡ f.volts)

-- None is better than itself, and what is not better than one is not better than a better one.
record Order (better : ℕ → ℕ → Bool) : Type 0 where
  same : (a : ℕ) → better a a ≡ false
  over : (a b c : ℕ) → better a b ≡ true → better a c ≡ false → better b c ≡ false

module _ (better : ℕ → ℕ → Bool) (order : Order better) (cells : List MilliVolts) where
  abbrev best : ℕ → Found
  best = best_of (λ a b. cond (better a.volts.0 b.volts.0) b a) cells

  best-among : (k : ℕ) → Among cells (suc k) (best (suc k))
  unfolding best_of
  best-among zero = record { place = 0; within = omega arith; is = refl }
  best-among (suc k) =
      by-test (better (best (suc k)).volts.0 (get_or cells (suc k) no_volts).0)
      (λ t. record { place = suc k; within = omega arith; is = rw t })
      (λ t. let b = best-among k in record { place = b.place; within = let w = b.within in omega arith; is = rw t b.is })

  -- No cell is better than the best.
  best-most : (k p : ℕ) → p < suc k → better (best (suc k)).volts.0 (get_or cells p no_volts).0 ≡ false
  unfolding best_of
  best-most zero p h = let e : p ≡ 0 = omega arith in rw e (order.same _)
  best-most (suc k) p h =
      by-test (better (best (suc k)).volts.0 (get_or cells (suc k) no_volts).0)
      (λ t. rw t
      (⊎_elim
      (λ (e : p ≡ suc k). rw e (order.same _))
      (λ (q : p < suc k). order.over _ _ _ t (best-most k p q))
      (eq-or-lt_of_le (le_of_suc-le-suc h))))
      (λ t. rw t
      (⊎_elim
      (λ (e : p ≡ suc k). rw e t)
      (λ (q : p < suc k). best-most k p q)
      (eq-or-lt_of_le (le_of_suc-le-suc h))))

  -- No cell before it is equal to the best.
  best-first : (k p : ℕ) → p < suc k → (get_or cells p no_volts).0 ≡ (best (suc k)).volts.0 → (best (suc k)).number.0 ≤ suc p
  unfolding best_of
  best-first zero p h = λ e. omega arith
  best-first (suc k) p h =
      by-test (better (best (suc k)).volts.0 (get_or cells (suc k) no_volts).0)
      (λ t. rw t
      (λ e. ⊎_elim
      (λ (q : p ≡ suc k). omega arith)
      (λ (q : p < suc k). clash t (rw (← e) (best-most k p q)))
      (eq-or-lt_of_le (le_of_suc-le-suc h))))
      (λ t. rw t
      (λ e. ⊎_elim
      (λ (q : p ≡ suc k). let b = best-among k in let w = b.within in rw b.is (omega arith))
      (λ (q : p < suc k). best-first k p q e)
      (eq-or-lt_of_le (le_of_suc-le-suc h))))

  best-number : (k : ℕ) → Numbered cells (suc k) (best (suc k))
  best-number k = let b = best-among k in let w = b.within in rw b.is
      (omega arith, omega arith, ap (λ (i : ℕ). get_or cells i no_volts) (let e : suc b.place - 1 ≡ b.place = omega arith in e))

higher : Order ltb
higher =
    record {
      same = λ a. le-ltb a a (omega arith);
      over = λ a b c t f. let h = ltb-true a b t in let q = ltb-false a c f in le-ltb b c (omega arith);
    }

lower : Order (λ a b. ltb b a)
lower =
    record {
      same = λ a. le-ltb a a (omega arith);
      over = λ a b c t f. let h = ltb-true b a t in let q = ltb-false c a f in le-ltb c b (omega arith);
    }

-- ---- the highest and the lowest of one cell or more

-- The highest is one of them, and so is the lowest.
pub highest-among : (cells : List MilliVolts) (n : ℕ) → 1 ≤ n → Among cells n (highest cells n)
highest-among cells zero h = absurd (not-suc-le-zero h)
highest-among cells (suc k) h = best-among ltb higher cells k

pub lowest-among : (cells : List MilliVolts) (n : ℕ) → 1 ≤ n → Among cells n (lowest cells n)
lowest-among cells zero h = absurd (not-suc-le-zero h)
lowest-among cells (suc k) h = best-among _ lower cells k

-- No cell among the first n is higher than the highest.
pub highest-most : (cells : List MilliVolts) (n p : ℕ) → p < n → (get_or cells p no_volts).0 ≤ (highest cells n).volts.0
highest-most cells zero p h = absurd (not-suc-le-zero h)
highest-most cells (suc k) p h = ltb-false _ _ (best-most ltb higher cells k p h)

-- No cell among the first n is lower than the lowest.
pub lowest-least : (cells : List MilliVolts) (n p : ℕ) → p < n → (lowest cells n).volts.0 ≤ (get_or cells p no_volts).0
lowest-least cells zero p h = absurd (not-suc-le-zero h)
lowest-least cells (suc k) p h = ltb-false _ _ (best-most _ lower cells k p h)

-- "Whatever finds the highest and lowest cell must now also answer its number": the number is a cell's, from 1 to n, and the cell of
-- that number is the highest; so it is with the lowest.
pub highest-number : (cells : List MilliVolts) (n : ℕ) → 1 ≤ n → Numbered cells n (highest cells n)
highest-number cells zero h = absurd (not-suc-le-zero h)
highest-number cells (suc k) h = best-number ltb higher cells k

pub lowest-number : (cells : List MilliVolts) (n : ℕ) → 1 ≤ n → Numbered cells n (lowest cells n)
lowest-number cells zero h = absurd (not-suc-le-zero h)
lowest-number cells (suc k) h = best-number _ lower cells k

-- "The lowest number where cells are equal": a cell that is equal to the highest does not stand before it, nor one that is equal to the
-- lowest before that.
pub highest-first : (cells : List MilliVolts) (n p : ℕ) → p < n → (get_or cells p no_volts).0 ≡ (highest cells n).volts.0
    → (highest cells n).number.0 ≤ suc p
highest-first cells zero p h = absurd (not-suc-le-zero h)
highest-first cells (suc k) p h = best-first ltb higher cells k p h

pub lowest-first : (cells : List MilliVolts) (n p : ℕ) → p < n → (get_or cells p no_volts).0 ≡ (lowest cells n).volts.0
    → (lowest cells n).number.0 ≤ suc p
lowest-first cells zero p h = absurd (not-suc-le-zero h)
lowest-first cells (suc k) p h = best-first _ lower cells k p h
