-- Two results that one contract allows are equal, and so is the lent memory. The contracts are those that Rattle reads out of the source.
-- Assumes nothing.
use Prim.Native.Nat.{ℕ, ◌-◌}
use mathlib.Core.Bool.{true}
use mathlib.Core.List.{List, []}
use mathlib.Core.Path.{◌≡◌, sym, ap, ap₂, ◌∙◌}
use lib.ListN.{length}
use borrow.Fn.Kinds.{Dens, res_t, ended_of}
use Rattle.laws.specs.Unique.{Unique}
use contract.Lifetimes.{Lfts}
use denote.Triple.Clauses.{AtExit}
use Rattle.log_lines.specs.Carrying.{carried, move_down}
use Rattle.log_lines.specs.Chunk.{chunk-used, chunk-state}
use Rattle.pack_state.specs.declared.Pack.{Pack}
use Rattle.pack_log.specs.declared.pass.Gone.{Gone}
use Rattle.pack_log.specs.declared.pass.Rest.{Rest}
use Rattle.pack_log.specs.Replay.{next_pack, no_text, PassChunk, Pass}
use Rattle.pack_log.proofs.pass.pass_chunk.Reads as pass-chunk
use Rattle.pack_log.proofs.pass.pass_chunk.Kinds as pass-chunk-kinds
use Rattle.pack_log.proofs.pass.pass.Reads as pass
use Rattle.pack_log.proofs.pass.pass.Kinds as pass-kinds

gone : ℕ → Pack → Gone
gone u p = record { used = u; pack = p }

gone-one : (text : List ℕ) (s : Pack) (x y : Gone) → PassChunk text s x → PassChunk text s y → x ≡ y
unfolding gone
gone-one text s x y p q =
    ap₂ gone (chunk-used next_pack no_text 0 text [] s true true x.used y.used 0 0 x.pack y.pack [] [] p q)
    (chunk-state next_pack no_text 0 text [] s true true x.used y.used 0 0 x.pack y.pack [] [] p q)

pass-chunk-one : Unique 1 pass-chunk-kinds.ps pass-chunk-kinds.r pass-chunk.Post
pass-chunk-one κs a x y s t p q = gone-one _ _ x y p q

rest : Gone → ℕ → Rest
rest g h = record { used = g.used; held = h; pack = g.pack }

front : Rest → Gone
front r = record { used = r.used; pack = r.pack }

module _ (buf : List ℕ) (s : Pack) (x y : Rest) (b b' : List ℕ) (p : Pass buf s x b) (q : Pass buf s y b') where
  same : front x ≡ front y
  unfolding front
  same = gone-one buf s (front x) (front y) p.chunk q.chunk

  held-same : x.held ≡ y.held
  unfolding front
  held-same = p.carries ∙ ap (λ (g : Gone). carried true (length buf - g.used)) same ∙ sym q.carries

  rest-one : (x ≡ y) × (b ≡ b')
  unfolding front rest
  rest-one = (
    ap₂ rest same held-same,
    p.moved ∙ ap₂ (λ (g : Gone) (h : ℕ). move_down buf g.used h) same held-same ∙ sym q.moved,
  )

pass-one : (κs : Lfts 1) (a : Dens κs pass-kinds.ps) (x y : (res_t pass-kinds.r κs).Denot)
    (s t : AtExit (ended_of 1 pass-kinds.ps pass-kinds.r) κs)
    → pass.Post κs a x s → pass.Post κs a y t → (x ≡ y) × (s.1.0.now ≡ t.1.0.now)
pass-one κs a x y s t p q = rest-one _ _ x y _ _ p q
