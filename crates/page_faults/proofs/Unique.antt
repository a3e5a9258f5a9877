-- Two results that the contract of a public function allows are equal. The page is lent to be read only, so no memory is changed.
-- Assumes nothing.
use mathlib.Core.Path.{sym, ◌∙◌}
use Rattle.laws.specs.Unique.{Unique}
use Rattle.page_faults.proofs.layout_of.Reads as layout_of
use Rattle.page_faults.proofs.layout_of.Kinds as layout-of-kinds
use Rattle.page_faults.proofs.check_at.Reads as check-at
use Rattle.page_faults.proofs.check_at.Kinds as check-at-kinds
use Rattle.page_faults.proofs.trip_word.Reads as trip-word
use Rattle.page_faults.proofs.trip_word.Kinds as trip-word-kinds
use Rattle.page_faults.proofs.kind_of.Reads as kind-of
use Rattle.page_faults.proofs.kind_of.Kinds as kind-of-kinds
use Rattle.page_faults.proofs.meets.Reads as meets
use Rattle.page_faults.proofs.meets.Kinds as meets-kinds

layout-of-one : Unique 0 layout-of-kinds.ps layout-of-kinds.r layout_of.Post
layout-of-one κs a x y s t p q = p ∙ sym q

check-at-one : Unique 0 check-at-kinds.ps check-at-kinds.r check-at.Post
check-at-one κs a x y s t p q = p ∙ sym q

trip-word-one : Unique 0 trip-word-kinds.ps trip-word-kinds.r trip-word.Post
trip-word-one κs a x y s t p q = p ∙ sym q

kind-of-one : Unique 0 kind-of-kinds.ps kind-of-kinds.r kind-of.Post
kind-of-one κs a x y s t p q = p ∙ sym q

meets-one : Unique 1 meets-kinds.ps meets-kinds.r meets.Post
meets-one κs a x y s t p q = p ∙ sym q
