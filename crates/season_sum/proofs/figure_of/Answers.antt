-- `season_sum::figure_of` meets its contract. Assumes nothing.
use mathlib.Core.Path.{refl, ap, ◌∙◌}
use mathlib.Core.List.{List}
use Prim.Native.Nat.{ℕ}
use native.Mathlib.Omega.{arith}
use lib.ListN.{length-take}
use Rattle.season_sum.specs.Reading.{line_value}
use Rattle.season_sum.specs.Names.{name-front}
use Rattle.season_sum.proofs.figure_of.Goals as goal

pub slice_bounds-figure_in-end : goal.slice_bounds-figure_in-end
slice_bounds-figure_in-end c = rw length-take (omega arith)

pub returns : goal.returns
returns c = let a = c.args in
    c.figure_in.ensures ∙ ap (λ (n : List ℕ). line_value n a.line.now) (name-front _ a.j _ _ refl (omega arith) c.put_row_name-m.ensures.put)
