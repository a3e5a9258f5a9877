-- "Students always say n would do. It won't, and 01 shows why": document 01's three cells as real samples; and for each n from 3 to 10 an
-- accepted page of n cells and real samples since its load, at n of which in a row cell 1 wants and is not bled. With two cells n does do
-- (TwoCells).
-- Assumes nothing.
use Rattle.std.specs.Prelude.{◌≡◌, refl, Ok, Err, Bool, true, false, not, ◌&&◌, List, [], ◌∷◌, ◌++◌, map, reverse, ℕ, ◌+◌, ◌-◌, ◌≤◌, eqb, drop, replicate}
use Rattle.std.proofs.Common.{sym, ap, ◌∙◌, arith, eqb-true}
use Rattle.laws.specs.Tests.{by-test, clash, and-left, and-right}
use Rattle.laws.specs.Latest.{last_all, among}
use Rattle.page_words.specs.Ranges.{word_at}
use Rattle.page_judge.specs.Page.{judged}
use Rattle.refusals.specs.Verdicts.{Verdict, Accepted}
use Rattle.laws.specs.Words.{any_of, any-yes}
use Rattle.bleed_wants.specs.Word.{holds_cell}
use Rattle.bleed.specs.Walk.Walk.{up_from}
use Rattle.bleed.specs.Walk.History.{wants_cell}
use Rattle.pack.specs.Events.{Event, accepts}
use Rattle.demands.specs.Shown.{shown_words, wanted}
use Rattle.demands.specs.Written.{charged_high, page_for, computed}

-- ---- (*) document 01's three cells

-- "n 3, K 1, R 1. At samples 3 to 7 the wanting cells are {1,2}, {1,3}, {1,2}, {1,3}, {1,2}; none want earlier": as voltages, the latest
-- first.
abbrev pub seven : List Event
seven =
    reverse
    (map (charged_high 3) ([] ∷ [] ∷ (1 ∷ 2 ∷ []) ∷ (1 ∷ 3 ∷ []) ∷ (1 ∷ 2 ∷ []) ∷ (1 ∷ 3 ∷ []) ∷ (1 ∷ 2 ∷ []) ∷ []))

-- "Bled: 1, 3, 2, 3, 1."
pub seven-shown : shown_words (page_for 3) seven ≡ 1 ∷ 4 ∷ 2 ∷ 4 ∷ 1 ∷ 0 ∷ 0 ∷ []
unfolding computed
seven-shown = refl

-- "At 7 it does": cell 1 wants at the last four samples, n + 1 of them, and is bled at the last.
pub four-wait : (last_all 4 (wants_cell 1) (wanted (page_for 3) seven) ≡ true) × (among 4 (λ w. holds_cell w 1) (shown_words (page_for 3) seven) ≡ 1)
unfolding computed
four-wait = (refl, refl)

-- "Cell 1 wants at 4, 5 and 6 and gets nothing": n of them.
pub three-too-few : (last_all 3 (wants_cell 1) (drop 1 (wanted (page_for 3) seven)) ≡ true)
    × (among 3 (λ w. holds_cell w 1) (drop 1 (shown_words (page_for 3) seven)) ≡ 0)
unfolding computed
three-too-few = (refl, refl)

-- ---- n samples in a pack of n cells

-- The samples, the latest first. Nobody wants at the first n - 1. At the next cell 1 wants alone: it is bled, and rests at the one after
-- it, which is its own start turn. At each of the n - 1 after that the start cell wants too, and K is 1.
abbrev pub waiting : ℕ → List Event
waiting n = reverse (map (charged_high n) (replicate (n - 1) [] ++ (1 ∷ []) ∷ map (λ k. 1 ∷ k ∷ []) (up_from 1 n)))

-- The page is accepted and has n cells; cell 1 wants at the latest n samples, and its bit stands in none of the balances shown at them.
abbrev starves : ℕ → Bool
starves n =
    accepts (judged (page_for n))
    && eqb (word_at (page_for n) 1) n
    && last_all n (wants_cell 1) (wanted (page_for n) (waiting n))
    && eqb (among n (λ w. holds_cell w 1) (shown_words (page_for n) (waiting n))) 0

all-starve : any_of (λ i. not (starves (i + 3))) 8 ≡ false
unfolding computed
all-starve = refl

starves-at : (n : ℕ) → 3 ≤ n → n ≤ 10 → starves n ≡ true
starves-at n least most =
    by-test (starves n)
    (λ t. t)
    (λ t.
    let e : n - 3 + 3 ≡ n = omega arith in
    clash (any-yes (λ i. not (starves (i + 3))) 8 (n - 3) (omega arith) (ap (λ (m : ℕ). not (starves m)) e ∙ ap not t)) all-starve)

accepted : (v : Verdict) → accepts v ≡ true → v ≡ Accepted
accepted (Ok done) e = refl
accepted (Err r) e = clash refl (sym e)

-- n samples at which cell 1 wants, and its bit in none of the balances shown.
pub record TooFew (n : ℕ) : Type 0 where
  pub page : judged (page_for n) ≡ Accepted
  pub cells : word_at (page_for n) 1 ≡ n
  pub wanting : last_all n (wants_cell 1) (wanted (page_for n) (waiting n)) ≡ true
  pub bled : among n (λ w. holds_cell w 1) (shown_words (page_for n) (waiting n)) ≡ 0

pub too-few : (n : ℕ) → 3 ≤ n → n ≤ 10 → TooFew n
too-few n least most =
    let a : Bool = accepts (judged (page_for n)) in
    let b : Bool = eqb (word_at (page_for n) 1) n in
    let c : Bool = last_all n (wants_cell 1) (wanted (page_for n) (waiting n)) in
    let d : Bool = eqb (among n (λ w. holds_cell w 1) (shown_words (page_for n) (waiting n))) 0 in
    let all : a && b && c && d ≡ true = starves-at n least most in
    let three : a && b && c ≡ true = and-left (a && b && c) d all in
    let two : a && b ≡ true = and-left (a && b) c three in
    record {
      page = accepted (judged (page_for n)) (and-left a b two);
      cells = eqb-true (word_at (page_for n) 1) n (and-right a b two);
      wanting = and-right (a && b) c three;
      bled = eqb-true (among n (λ w. holds_cell w 1) (shown_words (page_for n) (waiting n))) 0 (and-right (a && b && c) d all);
    }
