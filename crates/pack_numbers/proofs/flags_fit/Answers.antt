-- `pack_numbers::flags_fit` meets its contract. Assumes nothing.
use Rattle.std.proofs.Common.{◌≡◌, ℕ, zero, suc, ◌+◌, ◌≤◌, Bool, ◌&&◌, leb, List, length, take, get_or, refl, sym, ◌∙◌, ap, add-one, arith, rules, tests}
use Rattle.std.specs.List.{list_all}
use Rattle.std.proofs.Math.Seq.{take-length}
use Rattle.std.proofs.lemmas.Iterator.{YieldsList-from_slice}
use Rattle.std.proofs.lemmas.Iterator.Search.{all_from_yields_List}
use Rattle.std.proofs.lemmas.List.Folds.{list_all_more}
use Rattle.protections.specs.Table.{protections}
use Rattle.pack_numbers.specs.declared.Guard.{Guard}
use Rattle.pack_numbers.specs.Numbers.{no_guard, flags_to}
use Rattle.pack_numbers.proofs.flags_fit.Goals as goal

abbrev fit : Guard → Bool
fit g = leb g.raised 1

-- The first i flags as the library's test of all.
flags-all : (gs : List Guard) (i : ℕ) → i ≤ length gs → list_all fit (take i gs) ≡ flags_to gs i
unfolding flags_to
flags-all gs zero h = refl
flags-all gs (suc i) h =
    let e : i + 1 ≡ suc i = add-one i in
    let more : list_all fit (take (i + 1) gs) ≡ list_all fit (take i gs) && fit (get_or gs i no_guard) = list_all_more fit gs i no_guard (omega arith) in
    rw (← e) (more ∙ ap (λ (b : Bool). b && fit (get_or gs i no_guard)) (flags-all gs i (omega arith)))

pub returns : goal.returns
returns c =
    let ten : length c.args.gs ≡ protections = omega arith in
    let all : c.all.result ≡ list_all fit c.args.gs = all_from_yields_List fit _ _ c.all.result c.all.ensures.ran (YieldsList-from_slice c.args.gs cc) (λ x b q k. search (rules, tests)) in
    let taken : list_all fit (take protections c.args.gs) ≡ list_all fit c.args.gs = ap (list_all fit) (ap (λ (n : ℕ). take n c.args.gs) (sym ten) ∙ take-length c.args.gs) in
    all ∙ sym taken ∙ flags-all c.args.gs protections (omega arith)
