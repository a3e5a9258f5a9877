-- What is kept of the protections beside them, and the step that keeps it.
-- Assumes nothing.
use Rattle.std.specs.Prelude.{◌≡◌, List, ℕ, ◌<◌}
use Rattle.std.proofs.Common.{arith}
use Rattle.laws.specs.Bits.{has_bit}
use Rattle.laws.specs.Words.{bits_of, bits-has}
use Rattle.protections.specs.Table.{protections}
use Rattle.sample.specs.declared.Sample.{Sample}
use Rattle.sample.specs.declared.Extremes.{Extremes}
use Rattle.guard.specs.declared.rule.Protection.{Protection}
use Rattle.guard.specs.Steps.{step_all}
use Rattle.guard_raised.specs.Words.{raised_word, blocks_any}
use Rattle.guard_watch.specs.declared.Watch.{Watch}
use Rattle.guard_watch.specs.declared.Guarded.{Guarded}
use Rattle.guard_watch.specs.Bands.{bands_to}

-- The switches that a raised protection blocks: bit 0 charge, bit 1 discharge.
unfoldable pub blocked_word : List Protection → ℕ
blocked_word ps = bits_of (λ switch. blocks_any switch ps) 2

unfoldable pub watch_of : List Protection → Watch
watch_of ps = record { bands = bands_to ps protections; raised = raised_word ps; blocked = blocked_word ps }

-- A fact of a pack state, of two of its fields: what it keeps beside its protections is what they say. A load and every later call hand back a
-- state that has it (`Watched`, pack_state/specs/State.antt).
abbrev pub Keeps : List Protection → Watch → Type 0
Keeps ps w = w ≡ watch_of ps

-- Every protection, one sample on, and what is then kept of them.
unfoldable pub guarded_by : Extremes → Sample → List Protection → Guarded
guarded_by e s ps = record { protections = step_all e s ps; watch = watch_of (step_all e s ps) }

-- Each bit of the word says whether its switch is blocked.
pub blocked_word-has : (ps : List Protection) (switch : ℕ) → switch < 2 → has_bit (blocked_word ps) switch ≡ blocks_any switch ps
unfolding blocked_word
blocked_word-has ps switch h = bits-has (λ switch. blocks_any switch ps) 2 switch (omega arith) h
