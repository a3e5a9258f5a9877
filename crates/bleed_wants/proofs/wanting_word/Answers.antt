-- `bleed_wants::wanting_word` meets its contract
use Rattle.std.proofs.Common.{◌≡◌, sym, ◌∙◌, inl, inr, length, rules, arith, ◌&&◌, true, false, ltb, get_or}
use Rattle.bleed_wants.specs.Wants.{wants}
use Rattle.laws.specs.Words.{bits-none, bits-next, bits-within}
use Rattle.bleed_wants.specs.Word.{cells_passing}
use Rattle.bleed_wants.specs.Steps.{wanting_word}
use Rattle.bleed_wants.specs.StepLaws.{wanting-none, wishes-at}
use Rattle.bleed_wants.proofs.wanting_word.Goals as goal
use Rattle.bleed_wants.proofs.wanting_word.Goals.{then-not-charging-via-then-not-charging, then-not-charging-via-else-not-charging+then-raised}

pub returns-then-not-charging : goal.returns-then-not-charging
returns-then-not-charging c =
    elim c.then-not-charging.branch [
      | then-not-charging-via-then-not-charging w ↦ sym (wanting-none _ _ _ _ _ _ _ (inl w.if-not-charging.true))
      | then-not-charging-via-else-not-charging+then-raised w ↦ sym (wanting-none _ _ _ _ _ _ _ (inr w.if-raised.true))
    ]

pub loop-i-init : goal.loop-i-init
loop-i-init c = bits-none _

pub loop-i-preserved : goal.loop-i-preserved
unfolding wants
loop-i-preserved c = let a = c.args in
    let wish : c.wants_at-on.result ≡ ltb c.loop-i.i a.n && wants true false a.floor.0 a.difference.0 a.lowest.0 (get_or a.cells c.loop-i.i (record { 0 = 0 })).0 =
    c.wants_at-on.ensures ∙ rw (c.from.ensures, c.from-2.ensures) in
    bits-next _ _ _ _ _ c.loop-i.invariant
    (wish ∙ wishes-at a.n a.charging a.raised a.floor.0 a.difference.0 a.lowest.0 a.cells c.loop-i.i (search rules) (search rules))
    c.with_bit_if-word.ensures

pub returns : goal.returns
unfolding wanting_word cells_passing
returns c = let ten : length c.args.cells ≡ 10 = search rules in
    let all : c.loop-i.i ≡ 10 = omega arith in
    rw all at c.loop-i.invariant ∙ bits-within 10 _ _
