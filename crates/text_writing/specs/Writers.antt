-- A writer: a lent buffer, and the place in it where the next text goes.
-- Assumes nothing.
use Rattle.std.specs.Prelude.{ℕ, ◌+◌, ◌≤◌, ◌≡◌, List, ◌++◌, length}
use Rattle.std.proofs.Common.{sym, ◌∙◌}
use Rattle.text_writing.specs.declared.Writer.{Writer}
use Rattle.text_writing.specs.Placing.{Put}
use Rattle.text_writing.specs.Putting.{put-then, put-one}

-- What the text s, put by w, leaves of it, w': the place behind the text, and in the same buffer the text.
pub record Puts (w : Writer) (s : List ℕ) (w' : Writer) : Type 0 where
  pub same : w'.out.ghost_name ≡ w.out.ghost_name
  pub put : Put w.out.now w.at s w'.at w'.out.now

-- One text behind the other, where both have room.
pub puts-then : {w v u : Writer} {s t : List ℕ} → w.at + length s + length t ≤ length w.out.now → Puts w s v → Puts v t u → Puts w (s ++ t) u
puts-then h p q = record { same = q.same ∙ p.same; put = put-then h p.put q.put }

-- What is left of a writer is determined: the place, the bytes of the buffer, and which buffer it is.
pub puts-one : {w v u : Writer} {s : List ℕ} → Puts w s v → Puts w s u
    → (v.at ≡ u.at) × (v.out.now ≡ u.out.now) × (v.out.ghost_name ≡ u.out.ghost_name)
puts-one p q = let both = put-one p.put q.put in (both.0, both.1, p.same ∙ sym q.same)

-- What a writer that began at `at` of the buffer d has put, where e is left of the buffer.
pub puts-left : {d e s : List ℕ} {at : ℕ} {w v : Writer} → w.out.now ≡ d → w.at ≡ at → e ≡ v.out.now → Puts w s v → Put d at s v.at e
puts-left f g h p = rw (h, ← f, ← g) p.put

-- What a writer that began there and put nothing has left.
pub puts-none : {d e s : List ℕ} {at r : ℕ} → r ≡ at → e ≡ d → Put d at s at d → Put d at s r e
puts-none g h p = rw (g, h) p

-- The buffer that a writer leaves, whatever calls it came by.
pub put-left : {d e e' s : List ℕ} {at r : ℕ} → e' ≡ e → Put d at s r e → Put d at s r e'
put-left h p = rw h p
