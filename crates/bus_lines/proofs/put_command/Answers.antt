-- `bus_lines::put_command` meets its contract. Assumes nothing.
use Rattle.std.proofs.Common.{◌∙◌}
use Rattle.bus_lines.specs.Lines.{command-put}
use Rattle.bus_lines.proofs.put_command.Goals as goal

pub returns : goal.returns
returns c = let p = c.put_hex.ensures in
    let q = c.put_byte.ensures.put in
    record { same = q.same ∙ p.same; put = command-put c.args.command c.requires p.put q.put }
