-- `Writer::put_decimal` meets its contract.
use Rattle.std.proofs.Common.{refl, sym, ◌∙◌, ◌+◌, length, arith, leb-false}
use Rattle.text_writing.specs.Putting.{put-no}
use Rattle.text_writing.proofs.Writer.put_decimal.Goals as goal

pub returns-else-has_room-clause-put : goal.returns-else-has_room-clause-put
returns-else-has_room-clause-put c = let s = c.args.self.now in record {
  same = refl;
  put = put-no _ _ _ (omega (arith, c.places.ensures.value, leb-false (s.at + c.places.result) (length s.out.now) (sym c.has_room.ensures ∙ c.if-has_room.false)));
}
