-- A load and a list of calls, one after the other. That the pack is then in the state that the page and the past say is shown in
-- proofs/After.antt. The second demand rests on this.
-- Assumes nothing.
use Rattle.std.specs.Prelude.{ℕ, List, [], ◌∷◌}
use Rattle.pack_state.specs.declared.Pack.{Pack}
use Rattle.pack.specs.Events.{Event, offer, command}
use Rattle.pack.specs.Answers.{offered, commanded}
use Rattle.pack.specs.Kept.{after_load}

-- The pack after a load and a list of calls, one after the other.
abbrev pub after : List ℕ → List Event → Pack
after bytes [] = (after_load bytes).pack
after bytes (offer s ∷ es) = (offered (after bytes es) s).pack
after bytes (command c ∷ es) = (commanded (after bytes es) c).pack
