-- `pack_why::lines::put_switch_line` meets its contract. Assumes nothing.
use Rattle.std.proofs.Common.{◌∙◌, lit≤, arith}
use Rattle.pack_why.specs.declared.reasons.Switch.TheVariants.{Charge, Discharge}
use Rattle.pack_why.specs.Lines.{room-behind, switch-put}
use Rattle.pack_why.proofs.lines.put_switch_line.Goals as goal

pub put_switch_reason-requires : goal.put_switch_reason-requires
put_switch_reason-requires c = room-behind 10 21 c.put_bytes.ensures.put.put (lit≤ tt) (omega (arith, c.requires))

pub returns-in-Charge : goal.returns-in-Charge
returns-in-Charge c = let t = c.in-Charge.is in
    let name = c.put_bytes.ensures.put in
    let reason = c.put_switch_reason.ensures in
    let both = switch-put _ Charge _ (rw t at c.why_switch-why.ensures) (lit≤ tt) reason.why_len_bound c.requires name.put reason.put.put in
    record { put = record { same = reason.put.same ∙ name.same; put = rw t both.0 }; s_len_bound = rw t both.1 }

pub put_switch_reason-requires-in-Discharge : goal.put_switch_reason-requires-in-Discharge
put_switch_reason-requires-in-Discharge c = room-behind 10 21 c.put_bytes-in-Discharge.ensures.put.put (lit≤ tt) (omega (arith, c.requires))

pub returns-in-Discharge : goal.returns-in-Discharge
returns-in-Discharge c = let t = c.in-Discharge.is in
    let name = c.put_bytes-in-Discharge.ensures.put in
    let reason = c.put_switch_reason-in-Discharge.ensures in
    let both = switch-put _ Discharge _ (rw t at c.why_switch-why.ensures) (lit≤ tt) reason.why_len_bound c.requires name.put reason.put.put in
    record { put = record { same = reason.put.same ∙ name.same; put = rw t both.0 }; s_len_bound = rw t both.1 }
