-- Laws of the word of who wants, as the code makes it.
-- Assumes nothing.
use Rattle.std.specs.Prelude.{◌≡◌, Bool, true, false, ◌&&◌, List, ◌⊎◌, ℕ, suc, ◌-◌, ltb, get_or}
use Rattle.std.proofs.Common.{sym, ap, ⊎_elim, arith}
use Rattle.laws.specs.Tests.{by-test}
use Rattle.units.specs.declared.MilliVolts.{MilliVolts}
use Rattle.bleed_wants.specs.Wants.{wants}
use Rattle.bleed_wants.specs.Word.{cells_passing-none}
use Rattle.bleed_wants.specs.Steps.{volts_of, wishes, wanting_word}

-- No cell wants where there is no charge or a protection is raised.
pub wanting-none : (n : ℕ) (charges raised : Bool) (floor difference lowest : ℕ) (cells : List MilliVolts) → (charges ≡ false) ⊎ (raised ≡ true)
    → wanting_word n charges raised floor difference lowest cells ≡ 0
unfolding wanting_word wishes wants
wanting-none n charges raised floor difference lowest cells =
    ⊎_elim
    (λ e. cells_passing-none _ _ (λ k. rw e))
    (λ e. cells_passing-none _ _ (λ k. rw e (by-test charges (λ t. rw t) (λ t. rw t))))

-- ---- one turn of the loop

after-one : (i : ℕ) → suc i - 1 ≡ i
after-one i = omega arith

-- Cell i + 1 is entry i of the array. The loop is reached only with a charge and no protection raised.
pub wishes-at : (n : ℕ) (charges raised : Bool) (floor difference lowest : ℕ) (cells : List MilliVolts) (i : ℕ) → charges ≡ true → raised ≡ false
    → ltb i n && wants true false floor difference lowest (get_or cells i (record { 0 = 0 })).0
    ≡ ltb i n && wishes charges raised floor difference lowest cells (suc i)
unfolding wishes volts_of
wishes-at n charges raised floor difference lowest cells i c r =
    rw (c, r) (ap (λ (x : ℕ). ltb i n && wants true false floor difference lowest (get_or cells x (record { 0 = 0 })).0) (sym (after-one i)))
