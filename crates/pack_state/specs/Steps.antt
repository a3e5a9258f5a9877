-- One step on from the state that a past stands for is the state of the longer past: the second demand, call by call.
-- Assumes nothing.
use Rattle.std.specs.Prelude.{◌≡◌, refl, Bool, true, ltb}
use Rattle.std.proofs.Math.Path.{sym, ap}
use Rattle.std.proofs.Common.{◌∙◌, mod-eq_of_lt, ltb-true, ltb-false}
use mathlib.Core.List.{List, [], ◌∷◌}
use Prim.Native.Nat.{ℕ, zero, suc, ◌-◌, ◌%◌, ◌≤◌, ◌<◌}
use native.Mathlib.Omega.{arith}
use Rattle.std.proofs.Math.ListN.{length}
use Rattle.laws.specs.Tests.{by-test}
use Rattle.units.specs.declared.CellNo.{CellNo}
use Rattle.sample.specs.declared.Sample.{Sample}
use Rattle.sample.specs.Cells.{extremes_of}
use Rattle.guard.specs.declared.rule.Protection.{Protection}
use Rattle.protections.specs.Limits.{AllGood}
use Rattle.guard.specs.Steps.{protections_after}
use Rattle.guard.proofs.StepLaws.{protections-step}
use Rattle.guard_raised.specs.Words.{any_raised, any_raised-is}
use Rattle.guard_watch.specs.Watch.{watch_of}
use Rattle.page_settings.specs.declared.Settings.{Settings}
use Rattle.page_settings.specs.Good.{Good}
use Rattle.bleed_wants.specs.Word.{holds_cell, cells_passing-in}
use Rattle.bleed.specs.Walk.History.{resting, start_cell}
use Rattle.bleed.specs.Resting.Steps.{next_runs, resting_word}
use Rattle.bleed.specs.Walk.Steps.{chosen_word}
use Rattle.bleed.specs.Walk.Balance.{runs_after, bled_word_after, Shows}
use Rattle.bleed.proofs.Walk.Balance.{wanting-shows, next-start-is, resting-is, choose-is, runs-are}
use Rattle.page_settings.specs.declared.Rules.{Rules}
use Rattle.pack_state.specs.declared.Balance.{Balance}
use Rattle.pack_state.specs.declared.Pack.{Pack}
use Rattle.pack_state.specs.Past.{Past, past}
use Rattle.pack_state.specs.State.{by_page, wish_at, wishes_after, bleds_after, rested_after, bled_after, balance_after, state_after, next_tick, next_balance, want_at, accepted_pack, fresh_balance, fresh_pack}

-- ---- the tick

tick-next : (count : ℕ) → next_tick (count % 1000000) ≡ suc count % 1000000
unfolding next_tick
tick-next count =
    by-test (ltb (count % 1000000) 999999)
    (λ t. let h = ltb-true (count % 1000000) 999999 t in rw t (omega arith))
    (λ t. let h = ltb-false (count % 1000000) 999999 t in rw t (omega arith))

-- ---- small laws

-- There is a wish for each sample.
pub wishes-length : (page : Settings) (h : List Sample) → length (wishes_after page h) ≡ length h
unfolding wishes_after
wishes-length page [] = refl
wishes-length page (s ∷ h) = ap suc (wishes-length page h)

abbrev balanced : CellNo → ℕ → ℕ → CellNo → List ℕ → Balance
balanced a r b s l = record { begun = a; rested = r; bled = b; start = s; runs = l }

abbrev packed : Rules → List Protection → Balance → Sample → Bool → ℕ → ℕ → Pack
packed r ps b l any c t =
    record { rules = r; protections = ps; watch = watch_of ps; balance = b; latest = l; sampled = any; command = c; tick = t }

-- Two balances are equal part by part.
balance-same : {a a' s s' : CellNo} {r r' b b' : ℕ} {l l' : List ℕ} → a ≡ a' → r ≡ r' → b ≡ b' → s ≡ s' → l ≡ l'
    → balanced a r b s l ≡ balanced a' r' b' s' l'
balance-same ea er eb es el = cc

-- A state's parts that a sample changes by a step.
pack-same : {r : Rules} {ps ps' : List Protection} {b b' : Balance} {l : Sample} {c t t' : ℕ} → ps ≡ ps' → b ≡ b' → t ≡ t'
    → packed r ps b l true c t ≡ packed r ps' b' l true c t'
pack-same ep eb et = cc

-- ---- what an accepted page gives

module _ (page : Settings) (good : Good page) where
  pub some : 1 ≤ page.rules.n
  some = let h = good.n in omega arith

  pub ten : page.rules.n ≤ 10
  ten = good.n.1

  limited : 1 ≤ page.rules.r
  limited = good.r.0

  short : page.rules.r < 255
  short = let h = good.r in omega arith

  pub limits-good : AllGood page.limits
  limits-good = good.each

  -- ---- bleeding

  -- The code's word of the cells that want at a sample.
  abbrev pub want_of : Sample → List Protection → ℕ
  want_of s ps = want_at page.rules s (extremes_of s.cells s.count) (any_raised ps)

  -- It shows who wants.
  pub want-shows : (s : Sample) (h : List Sample)
      → Shows page.rules.n (want_of s (protections_after page.limits (s ∷ h))) (wish_at page s h)
  unfolding want_at wish_at
  want-shows s h = rw (any_raised-is page.limits (s ∷ h)) (wanting-shows page.rules.n _ _ _ _ _ s.cells ten)

  -- One step of bleeding.
  balance-next : (s : Sample) (h : List Sample) (want : ℕ) → Shows page.rules.n want (wish_at page s h)
      → next_balance page.rules want (balance_after page h) ≡ balance_after page (s ∷ h)
  unfolding next_balance balance_after rested_after bled_after wishes_after
  balance-next s h want shows =
      let ws = wishes_after page h in
      let same : length h ≡ length ws = sym (wishes-length page h) in
      let begun : suc (length h) - 1 ≡ length h = omega arith in
      let rests : ℕ = resting_word page.rules.n page.rules.r (by_page page bled_word_after ws) (by_page page runs_after ws) in
      let chosen : ℕ → ℕ = λ i. chosen_word page.rules.n page.rules.k want rests (start_cell page.rules.n i) in
      let bled : chosen (length h) ≡ by_page page bled_word_after (wish_at page s h ∷ ws) =
      ap chosen same
      ∙ by_page page choose-is some ten limited short ws (wish_at page s h) want shows in
      balance-same
      (ap (λ (i : ℕ). record { 0 = start_cell page.rules.n i }) (sym begun))
      (by_page page resting-is some ten limited short ws)
      bled
      (ap (λ (k : ℕ). record { 0 = k }) (next-start-is page.rules.n (length h) some))
      (ap (λ (w : ℕ). next_runs w (by_page page runs_after ws)) bled ∙ by_page page runs-are some ten (wish_at page s h) ws short)

  -- ---- the whole state

  -- THE STEP: an accepted sample leads from the state of a past to the state of the past with that sample.
  pub state-next : (p : Past) (s : Sample)
      → accepted_pack (state_after page p) s ≡ state_after page (past (s ∷ p.history) p.standing)
  unfolding accepted_pack state_after
  state-next p s =
      let h = p.history in
      let guarded = protections-step page.limits limits-good s h in
      pack-same guarded
      (ap (λ (ps : List Protection). next_balance page.rules (want_of s ps) (balance_after page h)) guarded
      ∙ balance-next s h (want_of s (protections_after page.limits (s ∷ h))) (want-shows s h))
      (tick-next (length h))

  -- ---- what the state keeps of the latest accepted sample, and no word and no line shows

  -- `begun` is its start cell,
  pub begun-is : (s : Sample) (h : List Sample) (c : ℕ)
      → (state_after page (past (s ∷ h) c)).balance.begun.0 ≡ start_cell page.rules.n (length h)
  unfolding state_after balance_after
  begun-is s h c = ap (start_cell page.rules.n) (omega arith)

  -- and bit k - 1 of `rested` is set exactly if cell k was resting at it: "if it was bled at each of the R accepted samples just before".
  pub rested-is : (s : Sample) (h : List Sample) (c k : ℕ) → 1 ≤ k → k ≤ page.rules.n
      → holds_cell (state_after page (past (s ∷ h) c)).balance.rested k ≡ resting page.rules.r (bleds_after page h) k
  unfolding state_after balance_after rested_after
  rested-is s h c k first last =
      let most = ten in
      cells_passing-in page.rules.n k (resting page.rules.r (bleds_after page h)) (omega arith) first last

-- ---- at the load

zero-mod : (n : ℕ) → 0 % n ≡ 0
zero-mod zero = refl
zero-mod (suc n) = mod-eq_of_lt (omega arith)

-- A fresh pack is the state of no past, for a pack without a page too.
pub state-fresh : (page : Settings) → fresh_pack page ≡ state_after page (past [] 0)
unfolding fresh_pack state_after fresh_balance balance_after rested_after bled_after wishes_after runs_after bled_word_after
state-fresh page =
    let none : 0 - 1 ≡ 0 = omega arith in
    rw (none, zero-mod page.rules.n)
