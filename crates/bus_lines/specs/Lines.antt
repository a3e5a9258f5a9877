-- The bus as text: a line for each command, and what it says after a load and any events.
-- Assumes nothing.
use Prim.Native.Nat.{ℕ, zero, suc, ◌+◌, ◌*◌, ◌/◌, ◌%◌, ◌<◌, ◌≤◌}
use Rattle.std.specs.Prelude.{◌≡◌, refl, cond, Ok, Err, List, [], ◌∷◌, ◌++◌, ltb, length, get_or}
use Rattle.std.proofs.Common.{ap₂, append_assoc, lt-ltb, le-ltb}
use native.Mathlib.Omega.{arith}
use Rattle.std.proofs.Math.ListN.{length-append}
use Rattle.text_fields.specs.Quoted.{quoted}
use Rattle.text_fields.specs.Fields.{line_of}
use Rattle.text_fields.specs.Decimal.{decimal}
use Rattle.text_fields.specs.Spelling.{decimal-length}
use Rattle.text_writing.specs.Placing.{Put}
use Rattle.text_writing.specs.Putting.{put-then, put-place, put-length, put-made}
use Rattle.text_writing.specs.Rows.{nothing-put}
use Rattle.pack_state.specs.declared.Pack.{Pack}
use Rattle.pack.specs.Events.{Event}
use Rattle.pack.specs.Kept.{page_of, past_after}
use Rattle.pack.specs.After.{after}
use Rattle.bus.specs.Replied.{Replied}
use Rattle.bus.specs.Replies.{answer_to, buffer_of, answer_after, buffer_after}
use Rattle.bus.specs.Demands.{answer-is, buffer-is}

-- ---- a line

-- The digits 0..9 and a..f.
unfoldable pub hex_digit : ℕ → ℕ
hex_digit v = cond (ltb v 10) (48 + v) (87 + v)

-- A byte is two of them.
unfoldable pub hex_byte : ℕ → List ℕ
hex_byte b = hex_digit (b / 16) ∷ hex_digit (b % 16) ∷ []

unfoldable pub hex_bytes : List ℕ → List ℕ
hex_bytes [] = []
hex_bytes (b ∷ bs) = hex_byte b ++ hex_bytes bs

-- What follows the command: the three bytes, or `refused` and the number.
abbrev pub answer_fields : Replied → List ℕ → List (List ℕ)
answer_fields (Ok done) three = hex_bytes three ∷ []
answer_fields (Err number) three = quoted "refused" ∷ decimal number ∷ []

-- The line of a command that was answered so.
unfoldable pub line_for : ℕ → Replied → List ℕ → List ℕ
line_for c r three = line_of (hex_byte c ∷ answer_fields r three)

-- A buffer of three bytes is lent for the reply.
abbrev pub lent : List ℕ
lent = 0 ∷ 0 ∷ 0 ∷ []

unfoldable pub word_line : Pack → ℕ → List ℕ
word_line p c = line_for c (answer_to p c 3) (buffer_of p c lent)

-- The lines of the first commands, by what the line of each is.
unfoldable pub lines_to : (ℕ → List ℕ) → ℕ → List ℕ
lines_to line zero = []
lines_to line (suc c) = lines_to line c ++ line c

-- Those of a pack, and all 256.
abbrev pub word_lines : Pack → ℕ → List ℕ
word_lines p = lines_to (word_line p)

abbrev pub words_text : Pack → List ℕ
words_text p = word_lines p 256

-- The bytes that they may have, and what is written into a buffer of size bytes.
abbrev pub room : ℕ
room = 3840

unfoldable pub roomed_lines : ℕ → (ℕ → List ℕ) → List ℕ
roomed_lines size line = cond (ltb size room) [] (lines_to line 256)

abbrev pub roomed : ℕ → Pack → List ℕ
roomed size p = roomed_lines size (word_line p)

-- One line has 15 bytes at most, and is written at a place where so many have room.
abbrev pub line_room : ℕ
line_room = 15

unfoldable pub roomed_line : ℕ → ℕ → List ℕ → List ℕ
roomed_line size at text = cond (ltb size (at + line_room)) [] text

-- ---- what document 01 says of them

unfoldable pub word_lines_after : List ℕ → List Event → ℕ → List ℕ
word_lines_after page es zero = []
word_lines_after page es (suc c) =
    word_lines_after page es c
    ++ line_for c (answer_after (page_of page) (past_after page es) c 3) (buffer_after (page_of page) (past_after page es) c lent)

-- After a load and any events the lines are those that the page and the past say.
pub words-are : (page : List ℕ) (es : List Event) (c : ℕ) → word_lines (after page es) c ≡ word_lines_after page es c
unfolding lines_to word_lines_after word_line
words-are page es zero = refl
words-are page es (suc c) =
    ap₂ (λ (a b : List ℕ). a ++ b) (words-are page es c) (ap₂ (line_for c) (answer-is page es c 3) (buffer-is page es c lent))

-- ---- what the code needs of them

abbrev pub refused_text : ℕ → List ℕ
refused_text number = quoted "refused\t" ++ decimal number

abbrev pub answer_text : Replied → List ℕ → List ℕ
answer_text (Ok done) three = hex_bytes three
answer_text (Err number) three = refused_text number

-- A line as the code puts it together.
pub line-parts : (c : ℕ) (r : Replied) (three : List ℕ) → line_for c r three ≡ (hex_byte c ++ (9 ∷ [])) ++ (answer_text r three ++ (10 ∷ []))
unfolding line_for line_of
line-parts c (Ok done) three = simp append_assoc
line-parts c (Err number) three = simp append_assoc

pub digit-low : (v : ℕ) → v < 10 → 48 + v ≡ hex_digit v
unfolding hex_digit
digit-low v h = rw (lt-ltb v 10 h)

pub digit-high : (v : ℕ) → 10 ≤ v → 87 + v ≡ hex_digit v
unfolding hex_digit
digit-high v h = rw (le-ltb v 10 h)

pub hex-length : (b : ℕ) → length (hex_byte b) ≡ 2
unfolding hex_byte
hex-length b = refl

pub command-length : (c : ℕ) → length (hex_byte c ++ (9 ∷ [])) ≡ 3
unfolding hex_byte
command-length c = refl

-- Three bytes one behind the other.
pub three-parts : (l : List ℕ) → length l ≡ 3 → hex_bytes l ≡ (hex_byte (get_or l 0 0) ++ hex_byte (get_or l 1 0)) ++ hex_byte (get_or l 2 0)
unfolding hex_bytes hex_byte
three-parts [] e = absurd (omega arith)
three-parts (a ∷ []) e = absurd (omega arith)
three-parts (a ∷ b ∷ []) e = absurd (omega arith)
three-parts (a ∷ b ∷ c ∷ []) e = refl
three-parts (a ∷ b ∷ c ∷ d ∷ l) e = absurd (omega arith)

pub three-length : (l : List ℕ) → length l ≡ 3 → length (hex_bytes l) ≡ 6
three-length l e =
    rw (three-parts l e, length-append, length-append)
    (omega (arith, hex-length (get_or l 0 0), hex-length (get_or l 1 0), hex-length (get_or l 2 0)))

pub refused-length : (number : ℕ) → number < 256 → length (refused_text number) ≤ 11
refused-length number h = let k = decimal-length 2 number (omega arith) in omega (arith, length-append (quoted "refused\t") (decimal number))

-- What has room behind a text of n bytes.
pub room-behind : {d : List ℕ} {at : ℕ} {s : List ℕ} {p : ℕ} {e : List ℕ} (n k : ℕ) → Put d at s p e → length s ≡ n → at + n + k ≤ length d
    → p + k ≤ length e
room-behind n k x l h = let z = put-place x (omega arith) in let w = put-length x in omega arith

-- Room for a line, or none.
pub line-roomed : (size at : ℕ) (text : List ℕ) → at + line_room ≤ size → roomed_line size at text ≡ text
unfolding roomed_line
line-roomed size at text h = rw (le-ltb size (at + line_room) h)

pub line-short : (d : List ℕ) (at : ℕ) (text : List ℕ) → length d < at + line_room
    → Put d at (roomed_line (length d) at text) at d × (length (roomed_line (length d) at text) ≤ line_room)
unfolding roomed_line
line-short d at text h = rw (lt-ltb (length d) (at + line_room) h) (nothing-put d at, omega arith)

pub line-made : (d : List ℕ) (at : ℕ) (text : List ℕ) (r : ℕ) (e : List ℕ) → at + line_room ≤ length d → Put d at text r e × (length text ≤ line_room)
    → Put d at (roomed_line (length d) at text) r e × (length (roomed_line (length d) at text) ≤ line_room)
line-made d at text r e h p = rw (line-roomed (length d) at text h) p

-- The texts of a line put one behind the other.
module _ {d : List ℕ} {at : ℕ} {p : ℕ} {e : List ℕ} {q : ℕ} {g : List ℕ} where
  pub hex-put : (b : ℕ) → at + 2 ≤ length d → Put d at (hex_digit (b / 16) ∷ []) p e → Put e p (hex_digit (b % 16) ∷ []) q g → Put d at (hex_byte b) q g
  unfolding hex_byte
  hex-put b h x y = put-then (omega arith) x y

  pub command-put : (c : ℕ) → at + 3 ≤ length d → Put d at (hex_byte c) p e → Put e p (9 ∷ []) q g → Put d at (hex_byte c ++ (9 ∷ [])) q g
  command-put c h x y = put-then (omega (arith, hex-length c)) x y

  pub refused-put : (number : ℕ) → number < 256 → at + 11 ≤ length d → Put d at (quoted "refused\t") p e → Put e p (decimal number) q g
      → Put d at (refused_text number) q g
  refused-put number n h x y = put-then (omega (arith, decimal-length 2 number (omega arith))) x y

  module _ {r : ℕ} {o : List ℕ} where
    pub three-put : (l : List ℕ) → length l ≡ 3 → at + 6 ≤ length d → Put d at (hex_byte (get_or l 0 0)) p e → Put e p (hex_byte (get_or l 1 0)) q g
        → Put g q (hex_byte (get_or l 2 0)) r o → Put d at (hex_bytes l) r o
    three-put l n h x y z =
        let a = hex-length (get_or l 0 0) in
        let b = hex-length (get_or l 1 0) in
        let c = hex-length (get_or l 2 0) in
        rw (three-parts l n) (put-then (rw length-append (omega arith)) (put-then (omega arith) x y) z)

    pub line-put : (c : ℕ) (a : Replied) (three : List ℕ) → at + line_room ≤ length d
        → length (answer_text a three) ≤ 11 → Put d at (hex_byte c ++ (9 ∷ [])) p e → Put e p (answer_text a three) q g → Put g q (10 ∷ []) r o
        → Put d at (roomed_line (length d) at (line_for c a three)) r o × (length (roomed_line (length d) at (line_for c a three)) ≤ line_room)
    line-put c a three h few x y z =
        let s = command-length c in
        let t : length (answer_text a three ++ (10 ∷ [])) ≡ length (answer_text a three) + 1 = length-append (answer_text a three) (10 ∷ []) in (
          rw (line-roomed (length d) at (line_for c a three) h, line-parts c a three, ← append_assoc (hex_byte c ++ (9 ∷ [])) (answer_text a three) (10 ∷ []))
              (put-then (rw length-append (omega arith)) (put-then (omega arith) x y) z),
          rw (line-roomed (length d) at (line_for c a three) h, line-parts c a three, length-append) (omega arith),
        )

-- The line of a pack, by the values of its reply.
pub word-put : {d : List ℕ} {at r : ℕ} {o : List ℕ} (k : Pack) (c : ℕ) (a : Replied) (three : List ℕ) → a ≡ answer_to k c 3 → three ≡ buffer_of k c lent
    → at + line_room ≤ length d → Put d at (roomed_line (length d) at (line_for c a three)) r o
    × (length (roomed_line (length d) at (line_for c a three)) ≤ line_room) → Put d at (word_line k c) r o × (length (word_line k c) ≤ line_room)
unfolding word_line
word-put {d} {at} k c a three ea et h p = rw (← ea, ← et) (rw (line-roomed (length d) at (line_for c a three) h) at p)

-- How far the loop is: the lines of the first c commands stand in the buffer.
pub record Putting (d : List ℕ) (line : ℕ → List ℕ) (at c : ℕ) (e : List ℕ) : Type 0 where
  pub put : Put d 0 (lines_to line c) at e
  pub few : length (lines_to line c) ≤ 15 * c

pub putting-start : (d : List ℕ) (line : ℕ → List ℕ) → Putting d line 0 0 d
unfolding lines_to
putting-start d line = record { put = put-made d 0 [] d (omega arith) refl; few = omega arith }

module _ {d : List ℕ} {line : ℕ → List ℕ} {at c : ℕ} {e : List ℕ} (g : Putting d line at c e) (h : room ≤ length d) where
  pub putting-place : c ≤ 256 → (at ≤ 15 * c) × (length e ≡ length d)
  putting-place k = let z = put-place g.put (omega (arith, g.few)) in (omega (arith, g.few), put-length g.put)

  pub putting-on : c < 256 → (r : ℕ) (o : List ℕ) → Put e at (line c) r o → length (line c) ≤ 15 → Putting d line r (c + 1) o
  unfolding lines_to
  putting-on k r o x few =
      let n : c + 1 ≡ suc c = omega arith in
      let l = length-append (lines_to line c) (line c) in
      rw n (record { put = put-then (omega (arith, g.few)) g.put x; few = omega (arith, g.few) })

pub putting-end : (d : List ℕ) (line : ℕ → List ℕ) (at c : ℕ) (e : List ℕ) → Putting d line at c e → room ≤ length d → c ≡ 256
    → Put d 0 (roomed_lines (length d) line) at e × (at ≤ length d)
unfolding roomed_lines
putting-end d line at c e g h k =
    let z = putting-place g h (omega arith) in
    (rw (le-ltb (length d) room h) (rw k at g.put), omega arith)

pub roomed-not : (d : List ℕ) (line : ℕ → List ℕ) → length d < room → Put d 0 (roomed_lines (length d) line) 0 d × (0 ≤ length d)
unfolding roomed_lines
roomed-not d line h = rw (lt-ltb (length d) room h) (put-made d 0 [] d (omega arith) refl, omega arith)
