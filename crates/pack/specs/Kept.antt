-- What a call may take as given of a pack state, and nothing else: it is what a load or a later call handed back.
-- Assumes nothing.
use Rattle.std.specs.Prelude.{◌≡◌, List, ℕ}
use Rattle.page_settings.specs.declared.Settings.{Settings}
use Rattle.page_settings.specs.Settings.{loaded_of}
use Rattle.pack_state.specs.declared.Pack.{Pack}
use Rattle.pack_state.specs.Past.{Past}
use Rattle.pack_state.specs.State.{state_after, fresh_pack}
use Rattle.pack.specs.declared.Answered.{Answered}
use Rattle.pack.specs.Events.{Event, past_of}
use Rattle.pack.specs.Answers.{answered}

-- What a page's bytes say; for a refused page, the settings of a pack without a page.
abbrev pub page_of : List ℕ → Settings
page_of bytes = (loaded_of bytes).settings

-- What counts of the events since the page was loaded.
abbrev pub past_after : List ℕ → List Event → Past
past_after bytes es = past_of (page_of bytes).rules.n es

-- The state after a load of these bytes and these events, the latest first, refused ones among them.
unfoldable pub pack_after : List ℕ → List Event → Pack
pack_after bytes es = state_after (page_of bytes) (past_after bytes es)

-- The state stands for some load and some events since.
pub record Kept (p : Pack) : Type 0 where
  pub bytes : List ℕ
  pub events : List Event
  pub is : p ≡ pack_after bytes events

-- What a load answers.
unfoldable pub after_load : List ℕ → Answered
after_load bytes = answered (loaded_of bytes).verdict (fresh_pack (page_of bytes))
