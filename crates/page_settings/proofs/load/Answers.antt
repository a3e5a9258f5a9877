-- `page_settings::load` meets its contract. Assumes nothing.
use mathlib.Core.Path.{sym, ◌∙◌}
use Rattle.page_settings.specs.Good.{loaded-answer}
use Rattle.page_settings.specs.Settings.{loaded_of}
use Rattle.page_settings.proofs.load.Goals as goal

pub settings_of-requires : goal.settings_of-requires
settings_of-requires c = sym c.judge-verdict.ensures.0 ∙ c.in-Ok.is

pub returns-in-Ok : goal.returns-in-Ok
unfolding loaded_of
returns-in-Ok c = loaded-answer _ _ (rw (← c.judge-verdict.ensures.0, c.in-Ok.is, c.settings_of.ensures))

pub returns-in-Err : goal.returns-in-Err
unfolding loaded_of
returns-in-Err c = loaded-answer _ _ (rw (← c.judge-verdict.ensures.0, c.in-Err.is, c.no_settings.ensures))
