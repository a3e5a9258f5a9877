-- Two results that one contract allows are equal, and so is the lent memory. The contracts are those that Rattle reads out of the source.
-- Assumes nothing.
use Prim.Native.Nat.{ℕ}
use mathlib.Core.Path.{◌≡◌, sym, ◌∙◌}
use borrow.Fn.Kinds.{Dens, res_t, ended_of}
use contract.Lifetimes.{Lfts}
use denote.Triple.Clauses.{AtExit}
use Rattle.text_writing.specs.Putting.{put-one}
use Rattle.refusals.specs.Verdicts.{Verdict}
use Rattle.pack_state.specs.declared.Pack.{Pack}
use Rattle.pack_log.specs.declared.ends.Begun.{Begun}
use Rattle.log_texts.specs.Room.{opened-one}
use Rattle.pack_log.proofs.ends.put_closing.Reads as put-closing
use Rattle.pack_log.proofs.ends.put_closing.Kinds as put-closing-kinds
use Rattle.pack_log.proofs.ends.begin.Reads as begin
use Rattle.pack_log.proofs.ends.begin.Kinds as begin-kinds

put-closing-one : (κs : Lfts 1) (a : Dens κs put-closing-kinds.ps) (x y : (res_t put-closing-kinds.r κs).Denot)
    (s t : AtExit (ended_of 1 put-closing-kinds.ps put-closing-kinds.r) κs)
    → put-closing.Post κs a x s → put-closing.Post κs a y t → (x ≡ y) × (s.0.now ≡ t.0.now)
put-closing-one κs a x y s t p q = put-one p.0 q.0

begun-same : {v v' : Verdict} {k k' : Pack} {w w' : ℕ} → v ≡ v' → k ≡ k' → w ≡ w'
    → ◌≡◌ {A = Begun} (record { verdict = v; written = w; pack = k }) (record { verdict = v'; written = w'; pack = k' })
begun-same a b c = cc

begin-one : (κs : Lfts 2) (a : Dens κs begin-kinds.ps) (x y : (res_t begin-kinds.r κs).Denot)
    (s t : AtExit (ended_of 2 begin-kinds.ps begin-kinds.r) κs)
    → begin.Post κs a x s → begin.Post κs a y t → (x ≡ y) × (s.1.0.now ≡ t.1.0.now)
begin-one κs a x y s t p q =
    let v : x.verdict ≡ y.verdict = p.0.0 ∙ sym q.0.0 in
    let k : x.pack ≡ y.pack = p.0.1 ∙ sym q.0.1 in
    let o = opened-one p.1.1 (rw (sym v) at q.1.1) in
    (begun-same v k o.0, o.1)
