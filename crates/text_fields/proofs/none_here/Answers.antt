-- `none_here` meets its contract.
use Prim.Native.Nat.{ℕ, zero, suc, ◌+◌, ◌-◌, ◌≤◌}
use mathlib.Core.Path.{◌≡◌, refl, ◌∙◌}
use mathlib.Core.Bool.{Bool, not, ◌&&◌}
use mathlib.Core.List.{List}
use native.Mathlib.Omega.{arith}
use native.Mathlib.Numerals.{add-one}
use lib.Dec.{eqb}
use lib.ListN.{length, get_or, take, drop}
use Rattle.std.proofs.Common.{get_or-drop, length-drop}
use Rattle.std.proofs.lemmas.List.{get_or-take, length-take-le}
use Rattle.text_fields.specs.Finding.{none_of}
use Rattle.text_fields.proofs.none_here.Goals as goal

next : (k w e : ℕ) (x : List ℕ) (b : Bool) → b ≡ none_of k w x e → b && not (eqb (get_or x (e + k) 0) w) ≡ none_of (suc k) w x e
unfolding none_of
next zero w e x b q = let z : e + 0 ≡ e = omega arith in rw (q, z)
next (suc k) w e x b q = rw q

module _ (e : ℕ) (x : List ℕ) (h : e + 16 ≤ length x) where
  part-length : length (take (e + 16 - e) (drop e x)) ≡ 16
  part-length = length-take-le (e + 16 - e) (drop e x) (let n = length-drop e x in omega arith) ∙ omega arith

  part-at : (k : ℕ) → suc k ≤ length (take (e + 16 - e) (drop e x)) → get_or (take (e + 16 - e) (drop e x)) k 0 ≡ get_or x (e + k) 0
  part-at k l = get_or-take (e + 16 - e) (drop e x) k 0 (let n = part-length in omega arith) ∙ get_or-drop e x k 0

pub loop-b-init : goal.loop-b-init
unfolding none_of
loop-b-init c = refl

pub loop-b-preserved : goal.loop-b-preserved
loop-b-preserved c = let a = c.args in
    let l = c.loop-b in
    rw (add-one, part-at a.e a.bytes.now c.requires l.b-index (omega arith)) (next l.b-index a.wanted a.e a.bytes.now l.none l.invariant)

pub returns : goal.returns
returns c = let a = c.args in
    let l = c.loop-b in
    let n : l.b-index ≡ 16 = let p = part-length a.e a.bytes.now c.requires in omega arith in
    rw n at l.invariant
