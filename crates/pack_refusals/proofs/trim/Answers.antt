-- `pack_refusals::trim` meets its contract. Assumes nothing.
use mathlib.Core.Path.{◌≡◌, refl, ap}
use Prim.Native.Nat.{ℕ, ◌+◌}
use Rattle.std.specs.Prelude.{List}
use lib.ListN.{get_or, set}
use native.Mathlib.Omega.{arith}
use Rattle.units.specs.declared.MilliVolts.{MilliVolts}
use Rattle.sample.specs.declared.Sample.{Sample}
use Rattle.sample.specs.Cells.{no_volts}
use Rattle.laws.specs.Each.{each_to, each-next}
use Rattle.pack_refusals.specs.Samples.{kept_cell, trimmed}
use Rattle.pack_refusals.proofs.trim.Goals as goal

abbrev with : Sample → List MilliVolts → Sample
with s cells = record { count = s.count; cells = cells; current = s.current; t1 = s.t1; t2 = s.t2 }

next : (s t : Sample) (i : ℕ) (v : MilliVolts) → t ≡ with s (each_to no_volts (kept_cell s.count) i s.cells)
    → v ≡ kept_cell t.count i (get_or t.cells i no_volts)
    → with t (set t.cells i v) ≡ with s (each_to no_volts (kept_cell s.count) (i + 1) s.cells)
next s t i v e ev = rw e (ap (with s) (each-next no_volts (kept_cell s.count) i s.cells _ v refl (rw e at ev)))

pub loop-i-init : goal.loop-i-init
unfolding each_to
loop-i-init c = refl

pub loop-i-preserved : goal.loop-i-preserved
loop-i-preserved c = rw c.from-at.ensures (next _ _ _ _ c.loop-i.invariant (rw c.from-at.ensures at c.kept_cell.ensures))

pub returns : goal.returns
unfolding trimmed
returns c = let e : c.loop-i.i ≡ 10 = omega arith in rw (c.loop-i.invariant, e)
