-- Two results that the contract of a public function allows are equal. The page is lent to be read only, so no memory is changed.
-- Assumes nothing.
use mathlib.Core.Path.{sym, ◌∙◌}
use Rattle.laws.specs.Unique.{Unique}
use Rattle.page_settings.proofs.load.Reads as load
use Rattle.page_settings.proofs.load.Kinds as load-kinds

load-one : Unique 1 load-kinds.ps load-kinds.r load.Post
load-one κs a x y s t p q = p.0 ∙ sym q.0
