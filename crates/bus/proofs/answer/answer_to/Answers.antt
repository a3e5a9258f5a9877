-- `bus::answer::answer_to` meets its contract. Assumes nothing.
use borrow.Author.Tests.{eq-eqb, ne_eqb}
use Rattle.std.proofs.Common.{◌≡◌, refl, true, false, Some, ⊎_elim}
use Rattle.bus_table.specs.declared.Sends.{Sends}
use Rattle.bus_table.specs.declared.Sends.TheVariants.{Cell, Whole}
use Rattle.bus.specs.Replies.{not_in_table, answer_to, answer_for, reply_refusals, answer-given}
use Rattle.bus.proofs.answer.answer_to.Goals as goal

in-table : (row : Sends) → not_in_table (Some row) ≡ false
unfolding not_in_table
in-table (Cell k) = refl
in-table (Whole w) = refl

pub returns-in_default : goal.returns-in_default
unfolding answer_to answer_for reply_refusals not_in_table
returns-in_default c = answer-given c.args.p c.args.command c.args.room _ (rw (← c.row_of_command.ensures, c.in_default.is))

pub returns-then-cell_above : goal.returns-then-cell_above
unfolding answer_to answer_for reply_refusals
returns-then-cell_above c =
    answer-given c.args.p c.args.command c.args.room _
    (rw (← c.in-Some.ensures, in-table, ← c.cell_above.ensures, c.if-cell_above.true))

pub returns-then-room-ne3 : goal.returns-then-room-ne3
unfolding answer_to answer_for reply_refusals
returns-then-room-ne3 c =
    answer-given c.args.p c.args.command c.args.room _
    (rw (← c.in-Some.ensures, in-table, ← c.cell_above.ensures, c.if-cell_above.false, ne_eqb _ _ c.if-room-ne3.true))

pub returns-then-command-eq65 : goal.returns-then-command-eq65
unfolding answer_to answer_for reply_refusals
returns-then-command-eq65 c =
    answer-given c.args.p c.args.command c.args.room _
    (rw (← c.in-Some.ensures, in-table, ← c.cell_above.ensures, c.if-cell_above.false, eq-eqb _ _ c.if-room-ne3.false)
    (⊎_elim
    (λ (t : c.args.p.sampled ≡ true). rw t)
    (λ (t : (c.args.p.sampled ≡ false) × (c.args.command ≡ 0x41)). rw (t.0, t.1))
    c.if-command-eq65.either))

pub returns-else-command-eq65 : goal.returns-else-command-eq65
unfolding answer_to answer_for reply_refusals
returns-else-command-eq65 c =
    answer-given c.args.p c.args.command c.args.room _
    (rw (← c.in-Some.ensures, in-table, ← c.cell_above.ensures, c.if-cell_above.false, eq-eqb _ _ c.if-room-ne3.false, c.if-command-eq65.false.0, ne_eqb _ _ c.if-command-eq65.false.1))
