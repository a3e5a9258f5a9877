-- Room for the longest answer, which is a row: without it nothing is written. What is written before the lines.
-- Assumes nothing.
use Rattle.std.specs.Prelude.{ℕ, ◌+◌, ◌≤◌, ◌≡◌, List, length}
use Rattle.std.proofs.Common.{arith}
use Rattle.laws.specs.Tests.{by-order}
use Rattle.text_writing.specs.Placing.{Put}
use Rattle.text_writing.specs.Putting.{put-place, put-full-place, put-one}
use Rattle.refusals.specs.Verdicts.{Verdict}
use Rattle.log_texts.specs.Texts.{opening_text}
pub use Rattle.text_writing.specs.Rows.{room, roomed, roomed-is, nothing-put}

-- What is written before the lines.
pub record Opened (d : List ℕ) (v : Verdict) (written : ℕ) (e : List ℕ) : Type 0 where
  pub put : Put d 0 (roomed (length d) 0 (opening_text v)) written e
  pub fits : written ≤ length d

-- ---- what the code needs of them

-- What was put at a place of a buffer ends inside.
pub put-within : {d : List ℕ} {at : ℕ} {s : List ℕ} {r : ℕ} {e : List ℕ} → Put d at s r e → at ≤ length d → r ≤ length d
put-within {d} {at} {s} {r} {e} p l =
    by-order (length d) (at + length s)
    (λ h. let z = put-full-place p h in omega arith)
    (λ h. let z = put-place p h in omega arith)

pub opened : {d : List ℕ} {v : Verdict} {r : ℕ} {e : List ℕ} → Put d 0 (roomed (length d) 0 (opening_text v)) r e → Opened d v r e
opened p = record { put = p; fits = put-within p (omega arith) }

-- What is written before the lines is determined.
pub opened-one : {d : List ℕ} {v : Verdict} {w w' : ℕ} {e e' : List ℕ} → Opened d v w e → Opened d v w' e' → (w ≡ w') × (e ≡ e')
opened-one p q = put-one p.put q.put
