-- Two results that one contract allows are equal, and so are the places and the lent memory: the methods of Writer.
use mathlib.Core.Path.{◌≡◌, sym, ◌∙◌}
use borrow.Fn.Kinds.{Dens, res_t, ended_of}
use contract.Lifetimes.{Lfts}
use denote.Triple.Clauses.{AtExit}
use Rattle.laws.specs.Unique.{Unique}
use Rattle.text_writing.specs.declared.Writer.{Writer}
use Rattle.text_writing.specs.Writers.{puts-one}
use Rattle.text_writing.proofs.Writer.new.Reads as New
use Rattle.text_writing.proofs.Writer.new.Kinds as new-kinds
use Rattle.text_writing.proofs.Writer.has_room.Reads as has-room
use Rattle.text_writing.proofs.Writer.has_room.Kinds as has-room-kinds
use Rattle.text_writing.proofs.Writer.put_byte.Reads as put_byte
use Rattle.text_writing.proofs.Writer.put_byte.Kinds as put-byte-kinds
use Rattle.text_writing.proofs.Writer.put_bytes.Reads as put-bytes
use Rattle.text_writing.proofs.Writer.put_bytes.Kinds as put-bytes-kinds
use Rattle.text_writing.proofs.Writer.put_decimal.Reads as put-decimal
use Rattle.text_writing.proofs.Writer.put_decimal.Kinds as put-decimal-kinds
use Rattle.text_writing.proofs.Writer.put_wide.Reads as put-wide
use Rattle.text_writing.proofs.Writer.put_wide.Kinds as put-wide-kinds
use Rattle.text_writing.proofs.Writer.put_row.Reads as put-row
use Rattle.text_writing.proofs.Writer.put_row.Kinds as put-row-kinds

-- Two writers that stand at one place of one buffer, whose bytes are the same: all that a call leaves of a writer that was lent.
abbrev Left : Writer → Writer → Type 0
Left v u = (v.at ≡ u.at) × (v.out.now ≡ u.out.now) × (v.out.ghost_name ≡ u.out.ghost_name)

new-one : (κs : Lfts 1) (a : Dens κs new-kinds.ps) (x y : (res_t new-kinds.r κs).Denot) (s t : AtExit (ended_of 1 new-kinds.ps new-kinds.r) κs)
    → New.Post κs a x s → New.Post κs a y t → Left x y
new-one κs a x y s t p q = (p.1.1 ∙ sym q.1.1, p.1.0 ∙ sym q.1.0, p.0 ∙ sym q.0)

has-room-one : Unique 2 has-room-kinds.ps has-room-kinds.r has-room.Post
has-room-one κs a x y s t p q = p ∙ sym q

put-row-one : (κs : Lfts 2) (a : Dens κs put-row-kinds.ps) (x y : (res_t put-row-kinds.r κs).Denot)
    (s t : AtExit (ended_of 2 put-row-kinds.ps put-row-kinds.r) κs)
    → put-row.Post κs a x s → put-row.Post κs a y t → Left s.0.now t.0.now
put-row-one κs a x y s t p q = puts-one p.0 q.0

put-byte-one : (κs : Lfts 2) (a : Dens κs put-byte-kinds.ps) (x y : (res_t put-byte-kinds.r κs).Denot)
    (s t : AtExit (ended_of 2 put-byte-kinds.ps put-byte-kinds.r) κs)
    → put_byte.Post κs a x s → put_byte.Post κs a y t → Left s.0.now t.0.now
put-byte-one κs a x y s t p q = puts-one p.0 q.0

put-bytes-one : (κs : Lfts 3) (a : Dens κs put-bytes-kinds.ps) (x y : (res_t put-bytes-kinds.r κs).Denot)
    (s t : AtExit (ended_of 3 put-bytes-kinds.ps put-bytes-kinds.r) κs)
    → put-bytes.Post κs a x s → put-bytes.Post κs a y t → Left s.0.now t.0.now
put-bytes-one κs a x y s t p q = puts-one p.0 q.0

put-decimal-one : (κs : Lfts 2) (a : Dens κs put-decimal-kinds.ps) (x y : (res_t put-decimal-kinds.r κs).Denot)
    (s t : AtExit (ended_of 2 put-decimal-kinds.ps put-decimal-kinds.r) κs)
    → put-decimal.Post κs a x s → put-decimal.Post κs a y t → Left s.0.now t.0.now
put-decimal-one κs a x y s t p q = puts-one p.0 q.0

put-wide-one : (κs : Lfts 2) (a : Dens κs put-wide-kinds.ps) (x y : (res_t put-wide-kinds.r κs).Denot)
    (s t : AtExit (ended_of 2 put-wide-kinds.ps put-wide-kinds.r) κs)
    → put-wide.Post κs a x s → put-wide.Post κs a y t → Left s.0.now t.0.now
put-wide-one κs a x y s t p q = puts-one p.0 q.0
