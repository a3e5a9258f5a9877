-- `bus_words::sum_to` meets its contract. Assumes nothing.
use Rattle.std.proofs.Common.{◌≡◌, ℕ, zero, suc, ◌≤◌, List, length, take, get_or, ◌∙◌, ap, add-one, arith, ◌+◌, refl}
use Rattle.std.specs.Prelude.{sum_by}
use Rattle.std.proofs.lemmas.List.Sums.{sum_by_more}
use Rattle.units.specs.declared.MilliVolts.{MilliVolts}
use Rattle.units.specs.Cells.{ten-most}
use Rattle.sample.specs.Cells.{no_volts}
use Rattle.bus_words.specs.Words.{sum_to}
use Rattle.bus_words.proofs.sum_to.Goals as goal

-- The sum of the first k cells as the library's sum.
sum-taken : (cells : List MilliVolts) (k : ℕ) → k ≤ length cells → sum_by (λ (v : MilliVolts). v.0) (take k cells) ≡ sum_to cells k
unfolding sum_to
sum-taken cells zero h = refl
sum-taken cells (suc k) h =
    let e : k + 1 ≡ suc k = add-one k in
    let more : sum_by (λ (v : MilliVolts). v.0) (take (k + 1) cells) ≡ sum_by (λ (v : MilliVolts). v.0) (take k cells) + (get_or cells k no_volts).0 = sum_by_more (λ (v : MilliVolts). v.0) cells k no_volts (omega arith) in
    rw (← e) (more ∙ ap (λ n. n + (get_or cells k no_volts).0) (sum-taken cells k (omega arith)))

pub returns : goal.returns
returns c =
    let few = ten-most c.args.count in
    let inside : c.ten_at_most.result ≤ length c.args.cells = omega arith in
    c.sum_of.ensures ∙ sum-taken _ _ inside ∙ ap (sum_to c.args.cells) c.ten_at_most.ensures
