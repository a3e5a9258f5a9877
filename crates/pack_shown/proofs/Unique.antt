-- Two answers that a contract of `pack_shown` allows are equal. Assumes nothing.
use mathlib.Core.Path.{sym, ◌∙◌}
use Rattle.laws.specs.Unique.{Unique}
use Rattle.pack_shown.proofs.switches.Kinds as switches-kinds
use Rattle.pack_shown.proofs.switches.Reads as switches
use Rattle.pack_shown.proofs.mode.Kinds as mode-kinds
use Rattle.pack_shown.proofs.mode.Reads as mode
use Rattle.pack_shown.proofs.decide.Kinds as decide-kinds
use Rattle.pack_shown.proofs.decide.Reads as decide

switches-one : Unique 0 switches-kinds.ps switches-kinds.r switches.Post
switches-one κs a x y s t p q = p ∙ sym q

mode-one : Unique 0 mode-kinds.ps mode-kinds.r mode.Post
mode-one κs a x y s t p q = p ∙ sym q

decide-one : Unique 0 decide-kinds.ps decide-kinds.r decide.Post
decide-one κs a x y s t p q = p ∙ sym q
