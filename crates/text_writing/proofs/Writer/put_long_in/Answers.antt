-- `Writer::put_long_in` meets its contract.
use Rattle.std.proofs.Common.{arith, length-set}
use Rattle.text_writing.specs.Putting.{length-thousands, thousands-room, thousands-put}
use Rattle.text_writing.proofs.Writer.put_long_in.Goals as goal

pub put_decimal_in-requires-2 : goal.put_decimal_in-requires-2
put_decimal_in-requires-2 c = omega (arith, length-thousands c.args.v (omega arith))

pub bounds-self-e : goal.bounds-self-e
bounds-self-e c = omega (arith, thousands-room c.args.v (omega arith) c.requires c.put_decimal_in-2.ensures.put.put)

pub bounds-self-e-2 : goal.bounds-self-e-2
bounds-self-e-2 c = rw length-set (omega (arith, thousands-room c.args.v (omega arith) c.requires c.put_decimal_in-2.ensures.put.put))

pub bounds-self-e-3 : goal.bounds-self-e-3
bounds-self-e-3 c = rw (length-set, length-set) (omega (arith, thousands-room c.args.v (omega arith) c.requires c.put_decimal_in-2.ensures.put.put))

pub returns : goal.returns
returns c = record { same = c.put_decimal_in-2.ensures.put.same; put = thousands-put c.args.v (omega arith) c.requires c.put_decimal_in-2.ensures.put.put }
