-- Two results that one contract allows are equal, and so is the lent memory. The contracts are those that Rattle reads out of the source.
-- Assumes nothing.
use Prim.Native.Nat.{ℕ, ◌-◌}
use mathlib.Core.Bool.{Bool}
use mathlib.Core.List.{List}
use mathlib.Core.Path.{◌≡◌, sym, ap, ap₂, ◌∙◌}
use lib.ListN.{length}
use borrow.Fn.Kinds.{Dens, res_t, ended_of}
use contract.Lifetimes.{Lfts}
use denote.Triple.Clauses.{AtExit}
use Rattle.log_lines.specs.Carrying.{carried, move_down}
use Rattle.log_lines.specs.Chunk.{chunk-done, chunk-used, chunk-written, chunk-state, chunk-memory}
use Rattle.pack_state.specs.declared.Pack.{Pack}
use Rattle.pack_log.specs.declared.chunk.Chunk.{Chunk}
use Rattle.pack_log.specs.declared.chunk.Fed.{Fed}
use Rattle.pack_log.specs.Replay.{next_pack, line_text, AnswerChunk, Feed}
use Rattle.log_texts.specs.Room.{room}
use Rattle.pack_log.proofs.chunk.answer_chunk.Reads as answer-chunk
use Rattle.pack_log.proofs.chunk.answer_chunk.Kinds as answer-chunk-kinds
use Rattle.pack_log.proofs.chunk.feed.Reads as feed
use Rattle.pack_log.proofs.chunk.feed.Kinds as feed-kinds

-- ---- a chunk

chunk-same : {d d' : Bool} {u u' w w' : ℕ} {k k' : Pack} → d ≡ d' → u ≡ u' → w ≡ w' → k ≡ k'
    → ◌≡◌ {A = Chunk} (record { done = d; used = u; written = w; pack = k }) (record { done = d'; used = u'; written = w'; pack = k' })
chunk-same a b c e = cc

module _ (text o : List ℕ) (s : Pack) (x y : Chunk) (e f : List ℕ) (p : AnswerChunk text o s x.done x.used x.written x.pack e)
    (q : AnswerChunk text o s y.done y.used y.written y.pack f) where
  chunk-one : (x ≡ y) × (e ≡ f)
  chunk-one = (
    chunk-same (chunk-done next_pack line_text room text o s x.done y.done x.used y.used x.written y.written x.pack y.pack e f p q)
        (chunk-used next_pack line_text room text o s x.done y.done x.used y.used x.written y.written x.pack y.pack e f p q)
        (chunk-written next_pack line_text room text o s x.done y.done x.used y.used x.written y.written x.pack y.pack e f p q)
        (chunk-state next_pack line_text room text o s x.done y.done x.used y.used x.written y.written x.pack y.pack e f p q),
    chunk-memory next_pack line_text room text o s x.done y.done x.used y.used x.written y.written x.pack y.pack e f p q,
  )

answer-chunk-one : (κs : Lfts 2) (a : Dens κs answer-chunk-kinds.ps) (x y : (res_t answer-chunk-kinds.r κs).Denot)
    (s t : AtExit (ended_of 2 answer-chunk-kinds.ps answer-chunk-kinds.r) κs)
    → answer-chunk.Post κs a x s → answer-chunk.Post κs a y t → (x ≡ y) × (s.1.1.0.now ≡ t.1.1.0.now)
answer-chunk-one κs a x y s t p q = chunk-one _ _ _ x y _ _ p q

-- ---- feeding

abbrev fed : Chunk → ℕ → Fed
fed c h = record { done = c.done; used = c.used; held = h; written = c.written; pack = c.pack }

abbrev part : Fed → Chunk
part r = record { done = r.done; used = r.used; written = r.written; pack = r.pack }

module _ (buf d : List ℕ) (s : Pack) (x y : Fed) (b b' e e' : List ℕ) (p : Feed buf d s x b e) (q : Feed buf d s y b' e') where
  same : (part x ≡ part y) × (e ≡ e')
  same = chunk-one buf d s (part x) (part y) e e' p.chunk q.chunk

  held-same : x.held ≡ y.held
  held-same = p.carries ∙ ap (λ (c : Chunk). carried c.done (length buf - c.used)) same.0 ∙ sym q.carries

  fed-one : (x ≡ y) × (b ≡ b') × (e ≡ e')
  fed-one = (
    ap₂ fed same.0 held-same,
    p.moved ∙ ap₂ (λ (c : Chunk) (h : ℕ). move_down buf c.used h) same.0 held-same ∙ sym q.moved,
    same.1,
  )

feed-one : (κs : Lfts 2) (a : Dens κs feed-kinds.ps) (x y : (res_t feed-kinds.r κs).Denot)
    (s t : AtExit (ended_of 2 feed-kinds.ps feed-kinds.r) κs)
    → feed.Post κs a x s → feed.Post κs a y t → (x ≡ y) × (s.1.0.now ≡ t.1.0.now) × (s.1.1.0.now ≡ t.1.1.0.now)
feed-one κs a x y s t p q = fed-one _ _ _ x y _ _ _ _ p q
