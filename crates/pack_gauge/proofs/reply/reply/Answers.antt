-- `pack_gauge::reply::reply` meets its contract. Assumes nothing.
use mathlib.Core.Path.{sym, ◌∙◌}
use Rattle.pack_gauge.specs.Replies.{reply-waits, reply-own, reply-other}
use Rattle.pack_gauge.proofs.reply.reply.Goals as goal

pub returns-then-must_wait : goal.returns-then-must_wait
returns-then-must_wait c =
    rw (← c.g.view_is)
    (let both = reply-waits _ c.g.invariant _ _ _ (sym c.is_own.ensures ∙ c.if-is_own.true)
    (sym c.must_wait.ensures ∙ c.if-must_wait.true) c.before_a_sample.ensures in record { value = both.0; out_after = both.1 })

pub returns-then-is_own : goal.returns-then-is_own
returns-then-is_own c =
    rw (← c.g.view_is)
    (let both = reply-own _ c.g.invariant _ _ _ _ _ (sym c.is_own.ensures ∙ c.if-is_own.true)
    (sym c.must_wait.ensures ∙ c.if-must_wait.false) c.own_word-word.ensures
    c.put_word.ensures.value.0 c.put_word.ensures.out_after in record { value = both.0; out_after = both.1 })

pub returns : goal.returns
returns c =
    rw (← c.g.view_is)
    (let both = reply-other _ c.g.invariant _ _ _ _ (sym c.is_own.ensures ∙ c.if-is_own.false)
    c.other.ensures.value c.other.ensures.out_after in record { value = both.0; out_after = both.1 })
