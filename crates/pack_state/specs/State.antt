-- The state of a pack: what document 01 says of it from the page and the history, and the step that the code takes.
-- Assumes nothing.
use Rattle.std.specs.Prelude.{refl, Bool, true, false, cond, List, [], ◌∷◌, ℕ, ◌+◌, ◌-◌, ◌%◌, ltb, length, replicate}
use Rattle.sample.specs.declared.Sample.{Sample}
use Rattle.guard.specs.declared.rule.Protection.{Protection}
use Rattle.sample.specs.Cells.{extremes_of}
use Rattle.sample.specs.None.{no_sample}
use Rattle.sample.specs.declared.Extremes.{Extremes}
use Rattle.guard.specs.Steps.{protections_after, step_all}
use Rattle.guard_raised.specs.Words.{any_raised_after, any_raised}
use Rattle.guard_watch.specs.Watch.{watch_of, Keeps}
use Rattle.page_settings.specs.declared.Rules.{Rules}
use Rattle.page_settings.specs.declared.Settings.{Settings}
use Rattle.bleed_wants.specs.Wants.{is_charging}
use Rattle.bleed_wants.specs.Steps.{wishes, wanting_word}
use Rattle.bleed.specs.Resting.Steps.{next_cell, next_runs, resting_word}
use Rattle.bleed.specs.Walk.Steps.{chosen_word}
use Rattle.bleed.specs.Walk.History.{bleds, resting, start_cell}
use Rattle.bleed_wants.specs.Word.{cells_passing}
use Rattle.bleed.specs.Walk.Balance.{runs_after, bled_word_after}
use Rattle.pack_state.specs.declared.Balance.{Balance}
use Rattle.pack_state.specs.declared.Pack.{Pack}
use Rattle.pack_state.specs.Past.{Past}

-- ---- from the page and the history

-- Which cells want bleeding at the latest sample s of a history: "protections first, then bleeding with the new protections".
unfoldable pub wish_at : Settings → Sample → List Sample → ℕ → Bool
wish_at page s h =
    wishes (is_charging page.rules.detection s.current) (any_raised_after page.limits (s ∷ h)) page.rules.floor.0
    page.rules.difference.0 (extremes_of s.cells s.count).lowest.volts.0 s.cells

-- Which cells wanted at each sample of a history.
unfoldable pub wishes_after : Settings → List Sample → List (ℕ → Bool)
wishes_after page [] = []
wishes_after page (s ∷ h) = wish_at page s h ∷ wishes_after page h

-- Before the first sample, the one that stands for none.
abbrev pub latest_after : List Sample → Sample
latest_after [] = no_sample
latest_after (s ∷ h) = s

-- "`tick` is the count of accepted samples modulo 1000000."
abbrev pub tick_after : List Sample → ℕ
tick_after h = length h % 1000000

abbrev pub any_sample : List Sample → Bool
any_sample [] = false
any_sample (s ∷ h) = true

-- "n 3, K 1, R 1": what depends on n, K and R, by those of a page. It serves definitions (`by_page page bleds ws`) and laws alike.
abbrev pub by_page : {P : ℕ → ℕ → ℕ → Type 0} (page : Settings) → ((n K R : ℕ) → P n K R) → P page.rules.n page.rules.k page.rules.r
by_page page f = f page.rules.n page.rules.k page.rules.r

module _ (page : Settings) where
  -- The cells bled at each sample of a history, the latest first.
  abbrev pub bleds_after : List Sample → List (List ℕ)
  bleds_after h = by_page page bleds (wishes_after page h)

  -- The word of the cells that rested at the latest sample; none before the first.
  unfoldable pub rested_after : List Sample → ℕ
  rested_after [] = 0
  rested_after (s ∷ h) = cells_passing page.rules.n (resting page.rules.r (bleds_after h))

  -- The word of the cells that were bled at the latest sample; none before the first.
  unfoldable pub bled_after : List Sample → ℕ
  bled_after h = by_page page bled_word_after (wishes_after page h)

  -- What bleeding keeps. The latest of i samples had i - 1 before it.
  unfoldable pub balance_after : List Sample → Balance
  balance_after h =
      record {
        begun = record { 0 = start_cell page.rules.n (length h - 1) };
        rested = rested_after h;
        bled = bled_after h;
        start = record { 0 = start_cell page.rules.n (length h) };
        runs = by_page page runs_after (wishes_after page h);
      }

  -- The state of a pack with this page after this past.
  unfoldable pub state_after : Past → Pack
  state_after p =
      record {
        rules = page.rules;
        protections = protections_after page.limits p.history;
        watch = watch_of (protections_after page.limits p.history);
        balance = balance_after p.history;
        latest = latest_after p.history;
        sampled = any_sample p.history;
        command = p.standing;
        tick = tick_after p.history;
      }

-- What is kept beside the protections is what they say. It is so of every state that a past stands for.
abbrev pub Watched : Pack → Type 0
Watched p = Keeps p.protections p.watch

pub state-watched : (page : Settings) (p : Past) → Watched (state_after page p)
unfolding state_after
state-watched page p = refl

-- ---- the step that the code takes

-- The tick goes on by one, modulo 1000000.
unfoldable pub next_tick : ℕ → ℕ
next_tick t = cond (ltb t 999999) (t + 1) 0

-- At a load: start cell 1, and nothing bled yet.
unfoldable pub fresh_balance : Balance
fresh_balance =
    record { begun = record { 0 = 1 }; rested = 0; bled = 0; start = record { 0 = 1 }; runs = replicate 10 0 }

-- Bleeding at a sample of whose cells the word `want` has those that want.
unfoldable pub next_balance : Rules → ℕ → Balance → Balance
next_balance r want b =
    record {
      begun = b.start;
      rested = resting_word r.n r.r b.bled b.runs;
      bled = chosen_word r.n r.k want (resting_word r.n r.r b.bled b.runs) b.start.0;
      start = record { 0 = next_cell r.n b.start.0 };
      runs = next_runs (chosen_word r.n r.k want (resting_word r.n r.r b.bled b.runs) b.start.0) b.runs;
    }

-- The word of the cells that want bleeding at a sample whose highest and lowest cell are e, by whether a protection is raised after it.
unfoldable pub want_at : Rules → Sample → Extremes → Bool → ℕ
want_at r s e raised =
    wanting_word r.n (is_charging r.detection s.current) raised r.floor.0 r.difference.0 e.lowest.volts.0 s.cells

-- The pack after an accepted sample, of which `s` is kept, if e are its highest and lowest cell: "protections first, then bleeding with
-- the new protections".
abbrev pub accepted_by : Extremes → Pack → Sample → Pack
accepted_by e p s =
    let stepped : List Protection = step_all e s p.protections in
    let want : ℕ = want_at p.rules s e (any_raised stepped) in
    record {
      rules = p.rules;
      protections = stepped;
      watch = watch_of stepped;
      balance = next_balance p.rules want p.balance;
      latest = s;
      sampled = true;
      command = p.command;
      tick = next_tick p.tick;
    }

-- The pack after an accepted sample.
unfoldable pub accepted_pack : Pack → Sample → Pack
accepted_pack p s = accepted_by (extremes_of s.cells s.count) p s

-- The pack at a load.
unfoldable pub fresh_pack : Settings → Pack
fresh_pack page =
    record {
      rules = page.rules;
      protections = protections_after page.limits [];
      watch = watch_of (protections_after page.limits []);
      balance = fresh_balance;
      latest = no_sample;
      sampled = false;
      command = 0;
      tick = 0;
    }
