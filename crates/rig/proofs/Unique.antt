-- Two answers that a contract of `rig` allows are equal. Assumes nothing.
use mathlib.Core.Path.{◌≡◌, sym, ◌∙◌}
use Prim.Native.Nat.{ℕ}
use borrow.Fn.Kinds.{Dens, res_t, ended_of}
use contract.Lifetimes.{Lfts}
use denote.Triple.Clauses.{AtExit}
use Rattle.laws.specs.Unique.{Unique}
use Rattle.rig.proofs.keeper_check_byte.Kinds as keeper-check-byte-kinds
use Rattle.rig.proofs.keeper_check_byte.Reads as keeper-check-byte
use Rattle.rig.proofs.keeper_judge_page.Kinds as keeper-judge-page-kinds
use Rattle.rig.proofs.keeper_judge_page.Reads as keeper-judge-page
use Rattle.rig.proofs.keeper_judge_pocket.Kinds as keeper-judge-pocket-kinds
use Rattle.rig.proofs.keeper_judge_pocket.Reads as keeper-judge-pocket
use Rattle.rig.proofs.keeper_pack_load.Kinds as keeper-pack-load-kinds
use Rattle.rig.proofs.keeper_pack_load.Reads as keeper-pack-load
use Rattle.rig.proofs.keeper_pack_offer.Kinds as keeper-pack-offer-kinds
use Rattle.rig.proofs.keeper_pack_offer.Reads as keeper-pack-offer
use Rattle.rig.proofs.keeper_pack_command.Kinds as keeper-pack-command-kinds
use Rattle.rig.proofs.keeper_pack_command.Reads as keeper-pack-command
use Rattle.rig.proofs.keeper_pack_show.Kinds as keeper-pack-show-kinds
use Rattle.rig.proofs.keeper_pack_show.Reads as keeper-pack-show
use Rattle.rig.proofs.keeper_pack_reply.Kinds as keeper-pack-reply-kinds
use Rattle.rig.proofs.keeper_pack_reply.Reads as keeper-pack-reply
use Rattle.sample.specs.declared.Sample.{Sample}
use Rattle.pack_numbers.specs.declared.Numbers.{Numbers}
use Rattle.pack_numbers.specs.Calls.{offered_numbers}
use Rattle.rig.proofs.keeper_write_sheet.Kinds as keeper-write-sheet-kinds
use Rattle.rig.proofs.keeper_write_sheet.Reads as keeper-write-sheet
use Rattle.rig.proofs.keeper_read_sheet.Kinds as keeper-read-sheet-kinds
use Rattle.rig.proofs.keeper_read_sheet.Reads as keeper-read-sheet

keeper-check-byte-one : Unique 1 keeper-check-byte-kinds.ps keeper-check-byte-kinds.r keeper-check-byte.Post
keeper-check-byte-one κs a x y s t p q = p ∙ sym q

keeper-judge-page-one : Unique 1 keeper-judge-page-kinds.ps keeper-judge-page-kinds.r keeper-judge-page.Post
keeper-judge-page-one κs a x y s t p q = p ∙ sym q

keeper-judge-pocket-one : Unique 1 keeper-judge-pocket-kinds.ps keeper-judge-pocket-kinds.r keeper-judge-pocket.Post
keeper-judge-pocket-one κs a x y s t p q = p ∙ sym q

keeper-pack-load-one : Unique 1 keeper-pack-load-kinds.ps keeper-pack-load-kinds.r keeper-pack-load.Post
keeper-pack-load-one κs a x y s t p q = p ∙ sym q

keeper-pack-command-one : Unique 0 keeper-pack-command-kinds.ps keeper-pack-command-kinds.r keeper-pack-command.Post
keeper-pack-command-one κs a x y s t p q = p ∙ sym q

keeper-pack-show-one : Unique 0 keeper-pack-show-kinds.ps keeper-pack-show-kinds.r keeper-pack-show.Post
keeper-pack-show-one κs a x y s t p q = p ∙ sym q

keeper-pack-reply-one : (κs : Lfts 1) (a : Dens κs keeper-pack-reply-kinds.ps) (x y : (res_t keeper-pack-reply-kinds.r κs).Denot)
    (s t : AtExit (ended_of 1 keeper-pack-reply-kinds.ps keeper-pack-reply-kinds.r) κs)
    → keeper-pack-reply.Post κs a x s → keeper-pack-reply.Post κs a y t → (x ≡ y) × (s.1.1.0.now ≡ t.1.1.0.now)
keeper-pack-reply-one κs a x y s t p q = (p.0 ∙ sym q.0, p.1 ∙ sym q.1)

-- What `keeper_pack_offer`, which takes a reference to a struct, says of the pack x at entry, its answer and the pack at exit.
abbrev Offers : Numbers → Sample → ℕ → Numbers → Type 0
Offers x s r e = (r ≡ (offered_numbers x s).answer) × (e ≡ (offered_numbers x s).pack)

keeper-pack-offer-one : (x : Numbers) (s : Sample) (r q : ℕ) (e f : Numbers) → Offers x s r e → Offers x s q f → (r ≡ q) × (e ≡ f)
keeper-pack-offer-one x s r q e f p t = (p.0 ∙ sym t.0, p.1 ∙ sym t.1)

-- The same of the contract that Rattle reads out of the source.
keeper-pack-offer-read-one : (κs : Lfts 1) (a : Dens κs keeper-pack-offer-kinds.ps) (x y : (res_t keeper-pack-offer-kinds.r κs).Denot)
    (s t : AtExit (ended_of 1 keeper-pack-offer-kinds.ps keeper-pack-offer-kinds.r) κs)
    → keeper-pack-offer.Post κs a x s → keeper-pack-offer.Post κs a y t → (x ≡ y) × (s.0.now ≡ t.0.now)
keeper-pack-offer-read-one κs a x y s t p q = (p.0 ∙ sym q.0, p.1 ∙ sym q.1)

keeper-write-sheet-one : (κs : Lfts 2) (a : Dens κs keeper-write-sheet-kinds.ps) (x y : (res_t keeper-write-sheet-kinds.r κs).Denot)
    (s t : AtExit (ended_of 2 keeper-write-sheet-kinds.ps keeper-write-sheet-kinds.r) κs)
    → keeper-write-sheet.Post κs a x s → keeper-write-sheet.Post κs a y t → (x ≡ y) × (s.1.0.now ≡ t.1.0.now)
keeper-write-sheet-one κs a x y s t p q = (p.0 ∙ sym q.0, p.1 ∙ sym q.1)

keeper-read-sheet-one : (κs : Lfts 2) (a : Dens κs keeper-read-sheet-kinds.ps) (x y : (res_t keeper-read-sheet-kinds.r κs).Denot)
    (s t : AtExit (ended_of 2 keeper-read-sheet-kinds.ps keeper-read-sheet-kinds.r) κs)
    → keeper-read-sheet.Post κs a x s → keeper-read-sheet.Post κs a y t → (x ≡ y) × (s.1.0.now ≡ t.1.0.now)
keeper-read-sheet-one κs a x y s t p q = (p.0 ∙ sym q.0, p.1 ∙ sym q.1)
