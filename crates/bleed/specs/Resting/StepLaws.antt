-- Laws of the run counters and of the word of who rests, as the code makes them.
-- Assumes nothing.
use Rattle.std.specs.Prelude.{◌≡◌, refl, Bool, ◌&&◌, List, ℕ, zero, suc, ◌+◌, ◌-◌, ◌≤◌, leb, ltb, length, get_or, set, replicate}
use Rattle.std.proofs.Common.{sym, ap, ◌∙◌, arith, ext_get_or}
use Rattle.std.proofs.lemmas.List.{get_or-replicate}
use Rattle.std.proofs.lemmas.Bool.{lt-leb}
use Rattle.laws.specs.Bits.{has_bit, has-zero}
use Rattle.laws.specs.Each.{each-next, each-length, each-below}
use Rattle.laws.specs.Latest.{next_run}
use Rattle.bleed_wants.specs.Word.{cells_passing, cells_passing-none}
use Rattle.bleed.specs.Resting.Steps.{next_runs_to, next_runs, cell_run_of, run_reached}

-- Every run ends where no cell was bled.
pub runs-none : (runs : List ℕ) → length runs ≡ 10 → next_runs 0 runs ≡ replicate 10 0
unfolding next_runs next_run
runs-none runs e =
    let long : length (next_runs 0 runs) ≡ 10 = each-length 0 (λ i run. next_run (has_bit 0 i) run) 10 runs ∙ e in
    ext_get_or 0 (next_runs 0 runs) (replicate 10 0) long
    (λ i h.
    each-below 0 (λ j run. next_run (has_bit 0 j) run) 10 runs i (omega arith) (omega arith)
    ∙ rw (has-zero i) (sym (get_or-replicate 10 i 0 0 (omega arith))))

zeros : (m i : ℕ) → ◌≡◌ {A = ℕ} (get_or (replicate m 0) i 0) 0
zeros zero i = refl
zeros (suc m) zero = refl
zeros (suc m) (suc i) = zeros m i

-- Nobody rests where no run is left.
pub none-rest : (m R : ℕ) → 1 ≤ R → cells_passing m (run_reached R (replicate 10 0)) ≡ 0
unfolding run_reached cell_run_of
none-rest m R h = cells_passing-none _ _ (λ k. rw (zeros 10 (k - 1)) (lt-leb R 0 h))

-- ---- one turn of each loop

pub runs-next : (bled i : ℕ) (runs l : List ℕ) (b : Bool) (r : ℕ) → l ≡ next_runs_to bled i runs → b ≡ has_bit bled i
    → r ≡ next_run b (get_or l i 0) → set l i r ≡ next_runs_to bled (i + 1) runs
runs-next bled i runs l b r e eb er =
    each-next 0 (λ j run. next_run (has_bit bled j) run) i runs l r e (er ∙ ap (λ (x : Bool). next_run x (get_or l i 0)) eb)

-- Cell i + 1 is entry i of the array.
pub run-reached-at : (n R : ℕ) (runs : List ℕ) (i : ℕ) → ltb i n && leb R (get_or runs i 0) ≡ ltb i n && run_reached R runs (suc i)
unfolding run_reached cell_run_of
run-reached-at n R runs i = let e : suc i - 1 ≡ i = omega arith in rw e
