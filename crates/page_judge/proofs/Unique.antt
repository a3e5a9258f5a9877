-- Two results that the contract of a public function allows are equal. The page is lent to be read only, so no memory is changed.
-- Assumes nothing.
use mathlib.Core.Path.{sym, ◌∙◌}
use Rattle.laws.specs.Unique.{Unique}
use Rattle.page_judge.proofs.judge.Reads as judge
use Rattle.page_judge.proofs.judge.Kinds as judge-kinds

judge-one : Unique 1 judge-kinds.ps judge-kinds.r judge.Post
judge-one κs a x y s t p q = p.0 ∙ sym q.0
