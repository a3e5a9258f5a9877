-- What the writer writes, the readers read back.
use Rattle.std.specs.Prelude.{ℕ, Some, ◌+◌, ◌≤◌, ◌≡◌, List, ◌∷◌, ◌++◌, length, take, drop}
use Rattle.std.proofs.Common.{ap, ◌∙◌, lit≤}
use Rattle.text_fields.specs.Finding.{before-at}
use Rattle.text_fields.specs.Fields.{field_at}
use Rattle.text_fields.specs.Decimal.{decimal}
use Rattle.text_numbers.specs.Numbers.{read_number}
use Rattle.text_writing.specs.Placing.{Put}
use Rattle.text_fields.specs.Spelling.{decimal-lacks}
use Rattle.text_numbers.specs.Canonical.{number-read}
use Rattle.text_writing.specs.Putting.{written-part, put-bytes}

-- the bytes that were written, read as a number
pub read-back : {d : List ℕ} {at v r : ℕ} {e : List ℕ} → at + length (decimal v) ≤ length d → v ≤ 65535
    → Put d at (decimal v) r e → read_number (take (length (decimal v)) (drop at e)) ≡ Some v
read-back {d} {at} {v} {r} {e} h m p =
    ap (λ (x : List ℕ). read_number (take (length (decimal v)) (drop at x))) (put-bytes p h)
    ∙ ap read_number (written-part d at (decimal v) h)
    ∙ number-read 65535 v m

-- a line in which a number and a tab start at a place has that number as its field there
pub field-back : (line rest : List ℕ) (from v : ℕ) → v ≤ 65535 → drop from line ≡ decimal v ++ (9 ∷ rest)
    → read_number (field_at line from) ≡ Some v
field-back line rest from v m e =
    rw (e, before-at 9 (decimal v) rest (decimal-lacks 9 (lit≤ tt) v)) (number-read 65535 v m)
