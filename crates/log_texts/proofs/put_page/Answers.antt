-- `log_texts::put_page` meets its contract. Assumes nothing.
use Rattle.std.proofs.Common.{◌<◌, ◌∙◌, rules, arith}
use Rattle.text_writing.specs.Rows.{put-room}
use Rattle.log_texts.specs.Writing.{field-byte, page-put-at, page_word}
use Rattle.log_texts.proofs.put_page.Goals as goal

pub put_field-requires : goal.put_field-requires
put_field-requires c = let r = c.args.r in
    let number : r.number < 256 = search rules in
    put-room {s = page_word} _ c.put_bytes.ensures.put.put (omega (arith, field-byte r.number 9 number, c.requires))

pub put_field-requires-2 : goal.put_field-requires-2
put_field-requires-2 c = let r = c.args.r in
    let number : r.number < 256 = search rules in
    let word : r.word < 256 = search rules in
    put-room _ c.put_field.ensures.put (omega (arith, put-room {s = page_word} 8 c.put_bytes.ensures.put.put (omega (arith, c.requires)), field-byte r.number 9 number, field-byte r.word 10 word))

pub returns : goal.returns
returns c = let r = c.args.r in
    let number : r.number < 256 = search rules in
    let word : r.word < 256 = search rules in record {
      same = c.put_field-2.ensures.same ∙ c.put_field.ensures.same ∙ c.put_bytes.ensures.put.same;
      put = page-put-at r.number number r.word word c.requires c.put_bytes.ensures.put.put c.put_field.ensures.put c.put_field-2.ensures.put;
    }
