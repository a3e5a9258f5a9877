-- Samples that agree: what stands past the count of a sample is no part of it.
-- Assumes nothing.
use Rattle.std.specs.Prelude.{◌≡◌, List, ltb, length}
use Rattle.std.proofs.Math.Path.{refl, sym}
use Rattle.std.proofs.Common.{ap, ◌∙◌, lt-ltb, ltb-true, ltb-false}
use Prim.Native.Nat.{ℕ, zero, suc, ◌≤◌, ◌<◌}
use native.Mathlib.Omega.{arith}
use Rattle.std.proofs.Math.ListN.{get_or}
use Rattle.std.proofs.Math.Seq.{ext_get_or, get_or-set_other}
use Rattle.std.proofs.lemmas.List.{set-get_or}
use Rattle.laws.specs.Tests.{by-test, by-order}
use Rattle.laws.specs.Each.{each_to, each-length, each-below}
use Rattle.units.specs.declared.MilliVolts.{MilliVolts}
use Rattle.units.specs.Cells.{ten_at_most}
use Rattle.sample.specs.Cells.{no_volts, extremes_of, extremes-same}
use Rattle.sample.specs.declared.Sample.{Sample}
use Rattle.pack_refusals.specs.Samples.{cells_fit, sample_refusals, sample_verdict, kept_cell, trimmed}

-- Two samples agree up to their count: what they hold past it is no part of either.
pub record Agree (s t : Sample) : Type 0 where
  pub count : s.count ≡ t.count
  pub cells : (i : ℕ) → i < s.count → get_or s.cells i no_volts ≡ get_or t.cells i no_volts
  pub current : s.current ≡ t.current
  pub t1 : s.t1 ≡ t.t1
  pub t2 : s.t2 ≡ t.t2

fit-same : (a b : List MilliVolts) (k : ℕ) → ((i : ℕ) → i < k → get_or a i no_volts ≡ get_or b i no_volts) → cells_fit a k ≡ cells_fit b k
unfolding cells_fit
fit-same a b zero same = refl
fit-same a b (suc k) same = rw (fit-same a b k (λ i h. same i (omega arith)), same k (omega arith))

looked-within : (count : ℕ) → ten_at_most count ≤ count
looked-within count = by-test (ltb count 10) (λ e. rw e (omega arith)) (λ e. rw e (ltb-false count 10 e))

module _ (s t : Sample) (agree : Agree s t) where
  cells-same : cells_fit s.cells (ten_at_most s.count) ≡ cells_fit t.cells (ten_at_most t.count)
  cells-same =
      fit-same s.cells t.cells (ten_at_most s.count) (λ i h. agree.cells i (let m = looked-within s.count in omega arith))
      ∙ ap (λ (c : ℕ). cells_fit t.cells (ten_at_most c)) agree.count

  kept : (i : ℕ) → kept_cell s.count i (get_or s.cells i no_volts) ≡ kept_cell t.count i (get_or t.cells i no_volts)
  unfolding kept_cell
  kept i =
      rw (← agree.count) (by-test (ltb i s.count)
      (λ e. rw (e, agree.cells i (ltb-true i s.count e)))
      (λ e. rw e))

  -- They are answered alike,
  pub agree-verdict : (n : ℕ) → sample_verdict n s ≡ sample_verdict n t
  unfolding sample_verdict sample_refusals
  agree-verdict n = rw (cells-same, agree.count, agree.t1, agree.t2)

  -- and the same is kept of both; a sample of ten entries.
  pub agree-trimmed : length s.cells ≡ 10 → length t.cells ≡ 10 → trimmed s ≡ trimmed t
  unfolding trimmed
  agree-trimmed ls lt =
      let kept-s = each-length no_volts (kept_cell s.count) 10 s.cells in
      let kept-t = each-length no_volts (kept_cell t.count) 10 t.cells in
      let same : each_to no_volts (kept_cell s.count) 10 s.cells ≡ each_to no_volts (kept_cell t.count) 10 t.cells =
      ext_get_or no_volts _ _ (kept-s ∙ ls ∙ sym (kept-t ∙ lt)) (λ i h. entry i (omega arith)) in
      rw (same, agree.count, agree.current, agree.t1, agree.t2)
    where
      entry : (i : ℕ) → i < 10
          → get_or (each_to no_volts (kept_cell s.count) 10 s.cells) i no_volts ≡ get_or (each_to no_volts (kept_cell t.count) 10 t.cells) i no_volts
      entry i h =
          each-below no_volts (kept_cell s.count) 10 s.cells i (omega arith) h
          ∙ kept i
          ∙ sym (each-below no_volts (kept_cell t.count) 10 t.cells i (omega arith) h)

-- ---- what is kept of a sample has its highest and its lowest cell

module _ (s : Sample) where
  kept-cell : (i : ℕ) → i < s.count → (v : MilliVolts) → kept_cell s.count i v ≡ v
  unfolding kept_cell
  kept-cell i h v = rw (lt-ltb i s.count h)

  kept-entry : (i : ℕ) → i < s.count → (n : ℕ)
      → get_or (each_to no_volts (kept_cell s.count) n s.cells) i no_volts ≡ get_or s.cells i no_volts
  unfolding each_to
  kept-entry i h zero = refl
  kept-entry i h (suc n) =
      by-order n s.count
      (λ l. rw (kept-cell n l, set-get_or) (kept-entry i h n))
      (λ l. let ne : i ≡ n → ⊥ = λ e. omega arith in rw get_or-set_other (kept-entry i h n))

  pub trimmed-extremes : extremes_of (trimmed s).cells (trimmed s).count ≡ extremes_of s.cells s.count
  unfolding trimmed
  trimmed-extremes = extremes-same _ s.cells s.count (λ i h. kept-entry i (let m = looked-within s.count in omega arith) 10)
