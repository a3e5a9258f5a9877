-- Computed cases of the definitions of this crate.
-- Assumes nothing.
use Rattle.std.specs.Prelude.{◌≡◌, refl, true, false, List, [], ◌∷◌, map, ℕ, ◌+◌, eqb, ltb}
use Rattle.laws.specs.Bits.{has_bit, with_bit, with_bit_if}
use Rattle.laws.specs.Words.{bits_of, any_of}
use Rattle.laws.specs.Latest.{next_run, last_all, among, run}
use Rattle.laws.specs.Each.{each_to, each_from}
use Rattle.laws.specs.Numbered.{list_from, list_of}

-- The lowest and the highest bit of a word, a bit beside a set one, and the bit past the word.
bits-read : map (has_bit 0x8005) (0 ∷ 1 ∷ 2 ∷ 3 ∷ 14 ∷ 15 ∷ 16 ∷ []) ≡ true ∷ false ∷ true ∷ false ∷ false ∷ true ∷ false ∷ []
unfolding has_bit
bits-read = refl

bits-set : with_bit_if true 5 15 ∷ with_bit_if true 5 1 ∷ with_bit_if true 5 2 ∷ with_bit_if false 5 1 ∷ with_bit_if true 4 16 ∷ [] ≡ 0x8005 ∷ 7 ∷ 5 ∷ 5 ∷ 4 ∷ []
unfolding with_bit_if with_bit
bits-set = refl

-- The word of a test has the bits below the number given, and no other.
below-three : bits_of (λ i. ltb i 3) 8 ∷ bits_of (λ i. ltb i 3) 2 ∷ bits_of (eqb 7) 8 ∷ bits_of (eqb 7) 7 ∷ [] ≡ 7 ∷ 3 ∷ 128 ∷ 0 ∷ []
unfolding bits_of with_bit_if with_bit
below-three = refl

picks-any : any_of (eqb 7) 8 ∷ any_of (eqb 7) 7 ∷ any_of (eqb 0) 1 ∷ any_of (eqb 0) 0 ∷ [] ≡ true ∷ false ∷ true ∷ false ∷ []
unfolding any_of
picks-any = refl

-- A run in a byte goes on by one, ends where the sample does not count, and stays at 255.
runs-on : next_run true 0 ∷ next_run true 254 ∷ next_run true 255 ∷ next_run false 7 ∷ [] ≡ 1 ∷ 255 ∷ 255 ∷ 0 ∷ []
unfolding next_run
runs-on = refl

-- The latest first: 1 at the last two, not at the third, 1 at the fourth.
abbrev past : List ℕ
past = 1 ∷ 1 ∷ 0 ∷ 1 ∷ []

last-ones : map (λ (k : ℕ). last_all k (eqb 1) past) (0 ∷ 1 ∷ 2 ∷ 3 ∷ 4 ∷ []) ≡ true ∷ true ∷ true ∷ false ∷ false ∷ []
last-ones = refl

-- "With fewer than k before it, none": four samples are no five, whatever they say.
too-few : last_all 4 (λ x. true) past ∷ last_all 5 (λ x. true) past ∷ [] ≡ true ∷ false ∷ []
too-few = refl

counted : map (λ (k : ℕ). among k (eqb 1) past) (0 ∷ 1 ∷ 3 ∷ 4 ∷ 9 ∷ []) ∷ (run (eqb 1) past ∷ run (eqb 0) past ∷ run (λ x. true) past ∷ []) ∷ [] ≡ (0 ∷ 1 ∷ 2 ∷ 3 ∷ 3 ∷ []) ∷ (2 ∷ 0 ∷ 4 ∷ []) ∷ []
counted = refl

-- Entries below the number are stepped, each by its place.
stepped : each_to 0 ◌+◌ 2 (10 ∷ 20 ∷ 30 ∷ []) ∷ each_to 0 ◌+◌ 3 (10 ∷ 20 ∷ 30 ∷ []) ∷ list_of (◌+◌ 5) 3 ∷ [] ≡ (10 ∷ 21 ∷ 30 ∷ []) ∷ (10 ∷ 21 ∷ 32 ∷ []) ∷ (5 ∷ 6 ∷ 7 ∷ []) ∷ []
unfolding each_to list_of list_from
stepped = refl

-- Entries from one number on are stepped, as many as are asked for: neither the one before them nor the one behind them is.
stepped-from : each_from 0 ◌+◌ 1 2 (10 ∷ 20 ∷ 30 ∷ 40 ∷ []) ∷ each_from 0 ◌+◌ 2 0 (10 ∷ 20 ∷ 30 ∷ 40 ∷ []) ∷ each_from 0 ◌+◌ 3 1 (10 ∷ 20 ∷ 30 ∷ 40 ∷ []) ∷ []
    ≡ (10 ∷ 21 ∷ 32 ∷ 40 ∷ []) ∷ (10 ∷ 20 ∷ 30 ∷ 40 ∷ []) ∷ (10 ∷ 20 ∷ 30 ∷ 43 ∷ []) ∷ []
unfolding each_from
stepped-from = refl
