-- `pack_numbers::reply` meets its contract. Assumes nothing.
use mathlib.Core.Path.{sym, ◌∙◌}
use Rattle.pack_numbers.specs.Calls.{reply-no, reply-yes, pack-bounded}
use Rattle.pack_numbers.proofs.reply.Goals as goal

pub returns-then-not-is_pack : goal.returns-then-not-is_pack
returns-then-not-is_pack c = let both = reply-no _ _ _ (sym c.is_pack.ensures ∙ c.if-not-is_pack.true) in record { value = both.0; out_after = both.1 }

pub reply-r-requires : goal.reply-r-requires
reply-r-requires c = pack-bounded _ _ (sym c.is_pack.ensures ∙ c.if-not-is_pack.false) c.pack_of.ensures.0

pub returns : goal.returns
returns c = let both = reply-yes _ _ _ _ _ _ _ (sym c.is_pack.ensures ∙ c.if-not-is_pack.false) c.pack_of.ensures.0
    c.reply-r.ensures.value.0 c.reply-r.ensures.out_after c.reply_number.ensures in record { value = both.0; out_after = both.1 }
