-- MORE THAN ONCE ROUND. Request 14: "My students ask what long waiting gives." Its three sentences, and under each the theorem that says it:
-- of any accepted page and any events since its load, at any accepted sample of the history, and of the balances that `decide` showed.
-- Assumes nothing.
use Rattle.std.specs.Prelude.{◌≡◌, Bool, true, false, not, cond, ◌&&◌, ◌⊎◌, eqb, length, drop, get_or}
use Rattle.std.proofs.Math.Path.{refl}
use Rattle.std.proofs.Common.{sym, ap, ap₂, ◌∙◌, inl, inr, ⊎_elim, arith, eq-eqb, length-drop}
use mathlib.Core.List.{List, [], ◌∷◌}
use Prim.Native.Nat.{ℕ, zero, suc, ◌+◌, ◌-◌, ◌*◌, ◌≤◌, ◌<◌}
use Rattle.std.specs.Int.Count.{ones, ones_in}
use Rattle.laws.specs.Tests.{by-test, clash, or-left, or-right, or-cases}
use Rattle.page_words.specs.Ranges.{word_at}
use Rattle.page_judge.specs.Page.{judged}
use Rattle.refusals.specs.Verdicts.{Accepted}
use Rattle.page_settings.specs.declared.Settings.{Settings}
use Rattle.page_settings.specs.Good.{Good}
use Rattle.sample.specs.declared.Sample.{Sample}
use Rattle.bleed_wants.specs.Word.{holds_cell}
use Rattle.bleed.specs.Walk.Walk.{has, neighbours, has_neighbour, order, takes, walk}
use Rattle.bleed.proofs.Walk.WalkLaws.{walk-has, walk-same, order-only, only-cells}
use Rattle.bleed.specs.Walk.History.{resting, start_cell}
use Rattle.bleed.specs.Walk.Reached.{up_to, taken_before}
use Rattle.bleed.specs.Walk.Word.{cells_word-ones}
use Rattle.bleed.specs.Walk.InPack.{InPack}
use Rattle.bleed.specs.Walk.Balance.{bled_word_after}
use Rattle.bleed.proofs.Walk.Balance.{start-cell}
use Rattle.pack_state.specs.State.{by_page, wish_at, wishes_after, bleds_after, bled_after}
use Rattle.pack_state.specs.Steps.{wishes-length}
use Rattle.pack.specs.Events.{Event}
use Rattle.pack.specs.Kept.{page_of}
use Rattle.demands.specs.BledWords.{bled_words_after, words-at, words-last, words-among}
use Rattle.demands.specs.Shown.{samples, wanted, shown-words, word-1, word-2, word-3}
use Rattle.demands.specs.Suffice.{Suffice}
use Rattle.demands.proofs.Demands.{page-good, demand-3-n-wont-do, demand-3-most}
use Rattle.rounds.specs.Waits.{chosen-once, rested_at, start_at, bled_at, taken_at, bled-at, left-out, left-out-then, own-start, often-anywhere}
use Rattle.rounds.specs.Rounds.{Gives, wants_at, rests_at, starts_at, balance_at, taken_then, NeighbourBled}

-- ==== "A CELL WANTING AT M × (N + 1) CONSECUTIVE ACCEPTED SAMPLES IS BLED AT NO FEWER THAN M OF THEM, FOR EVERY M FROM 0"

-- Any more than n samples are a round.
more-than-n : (n round : ℕ) → n < round → Gives n round
more-than-n n round more bytes taken cells es k first last m j wanting =
    let page = page_of bytes in
    let good = page-good bytes taken in
    let same : page.rules.n ≡ n = word-1 bytes taken ∙ cells in
    rw (shown-words bytes es, words-among page good k first (m * round) j (samples bytes es))
    (by_page page often-anywhere k first (omega arith) good.k.0 good.r.0 round (omega arith) m j (wishes_after page (samples bytes es)) wanting)

pub rounds-wait : (n : ℕ) → Gives n (n + 1)
rounds-wait n = more-than-n n (n + 1) (omega arith)

-- For m = 1 it is the third demand.
pub rounds-once : (n round : ℕ) → Gives n round → Suffice n round
rounds-once n round gives bytes taken cells es k first last j wanting =
    let one : 1 * round ≡ round = omega arith in
    let some = gives bytes taken cells es k first last 1 j (rw one wanting) in
    rw one at some

-- So rounds of n samples do not give it, for any n from 3 to 10.
pub rounds-n-wont-do : (n : ℕ) → 3 ≤ n → n ≤ 10 → Gives n n → ⊥
rounds-n-wont-do n least most gives = demand-3-n-wont-do n least most (rounds-once n n gives)

-- ---- the same of the history of wishes

drop-length : {A B : Type 0} (i : ℕ) (l : List A) (m : List B) → length l ≡ length m → length (drop i l) ≡ length (drop i m)
drop-length i l m e = length-drop i l ∙ ap (λ (x : ℕ). x - i) e ∙ sym (length-drop i m)

-- The cells before cell k on a walk are cells of the walk, and what it took of them stays taken.
up_to-has : (k d : ℕ) (cells : List ℕ) → has d (up_to k cells) ≡ true → has d cells ≡ true
up_to-has k d [] e = e
up_to-has k d (c ∷ cells) e =
    by-test (eqb k c)
    (λ t. clash refl (sym (rw t at e)))
    (λ t. ⊎_elim
    (λ u. or-left (eqb d c) (has d cells) u)
    (λ u. or-right (eqb d c) (has d cells) (up_to-has k d cells u))
    (or-cases (eqb d c) (has d (up_to k cells)) (rw t at e)))

stays : (K : ℕ) (wants rests : ℕ → Bool) (k d : ℕ) (cells t : List ℕ) → has d (walk K wants rests (up_to k cells) t) ≡ true
    → has d (walk K wants rests cells t) ≡ true
stays K wants rests k d [] t e = e
stays K wants rests k d (c ∷ cells) t e =
    by-test (eqb k c)
    (λ u. walk-has K wants rests d (c ∷ cells) t (rw u at e))
    (λ u. stays K wants rests k d cells (cond (takes K wants rests c t) (c ∷ t) t) (rw u at e))

-- What was bled at a sample: cells from 1 on, each once, so that the word has a set bit for each.
module _ (page : Settings) (good : Good page) where
  begins : (count : ℕ) → InPack page.rules.n (start_cell page.rules.n count)
  begins count = start-cell page.rules.n count (let g = good.n in omega arith) good.n.1

  bled-first : (j : ℕ) (h : List Sample) (d : ℕ) → has d (get_or (bleds_after page h) j []) ≡ true → (1 ≤ d) × (d ≤ 16)
  unfolding wishes_after
  bled-first j [] d e = clash refl (sym e)
  bled-first zero (s ∷ h) d e =
      let start = begins (length (wishes_after page h)) in
      let ten = start.ten in
      let q = only-cells page.rules.n page.rules.k (wish_at page s h) (resting page.rules.r (bleds_after page h)) _ d start.first start.last e in
      (q.0, omega arith)
  bled-first (suc j) (s ∷ h) d e = bled-first j h d e

  words-ones : (j : ℕ) (h : List Sample) → ones (get_or (bled_words_after page h) j 0) ≡ length (get_or (bleds_after page h) j [])
  unfolding bled_after bled_word_after wishes_after ones ones_in
  words-ones j [] = refl
  words-ones zero (s ∷ h) =
      let start = begins (length (wishes_after page h)) in
      cells_word-ones (get_or (bleds_after page (s ∷ h)) 0 []) (bled-first 0 (s ∷ h))
      (chosen-once page.rules.n page.rules.k (wish_at page s h) (resting page.rules.r (bleds_after page h)) _ start.first)
  words-ones (suc j) (s ∷ h) = words-ones j h

module _ (bytes : List ℕ) (taken : judged bytes ≡ Accepted) (es : List Event) (j : ℕ) where
  abbrev page : Settings
  page = page_of bytes

  abbrev ws : List (ℕ → Bool)
  ws = wanted bytes es

  good : Good page
  good = page-good bytes taken

  some : 1 ≤ page.rules.n
  some = let g = good.n in omega arith

  starts-are : starts_at bytes es j ≡ by_page page start_at j ws
  starts-are =
      ap₂ start_cell (sym (word-1 bytes taken)) (drop-length (suc j) (samples bytes es) ws (sym (wishes-length page (samples bytes es))))

  rests-are : (k : ℕ) → 1 ≤ k → rests_at bytes es j k ≡ by_page page rested_at j ws k
  rests-are k first =
      rw (shown-words bytes es, ← word-3 bytes taken) (words-last page good k first page.rules.r (suc j) (samples bytes es))

  bled-is : (k : ℕ) → 1 ≤ k → holds_cell (balance_at bytes es j) k ≡ has k (by_page page bled_at j ws)
  bled-is k first = rw (shown-words bytes es) (words-at page good k first j (samples bytes es))

  -- The walk asks only cells of the pack, and of these both say the same of who rests.
  taken-are : (k : ℕ) → taken_then bytes es j k ≡ by_page page taken_at j ws k
  taken-are k =
      let cells = order page.rules.n (by_page page start_at j ws) in
      same-walk (sym (word-1 bytes taken)) (sym (word-2 bytes taken)) starts-are
      ∙ walk-same page.rules.k (wants_at bytes es j) (rests_at bytes es j) (wants_at bytes es j) (by_page page rested_at j ws) (up_to k cells) []
      (λ d e. (refl, rests-are d (order-only page.rules.n (by_page page start_at j ws) d start.first start.last (up_to-has k d cells e)).0))
    where
      start : InPack page.rules.n (by_page page start_at j ws)
      start = start-cell page.rules.n (length (drop (suc j) ws)) some good.n.1

      same-walk : {n n' K K' s s' : ℕ} → n ≡ n' → K ≡ K' → s ≡ s'
          → taken_before n K (wants_at bytes es j) (rests_at bytes es j) s k ≡ taken_before n' K' (wants_at bytes es j) (rests_at bytes es j) s' k
      same-walk en ek es = cc

  -- Who was bled is a cell of the pack.
  bled-cell : (d : ℕ) → has d (by_page page bled_at j ws) ≡ true → 1 ≤ d
  bled-cell d e = (bled-first page good j (samples bytes es) d e).0

  bled-count : ones (balance_at bytes es j) ≡ length (by_page page bled_at j ws)
  bled-count = rw (shown-words bytes es) (words-ones page good j (samples bytes es))

-- ==== "NOTHING IS WASTED: A WANTING CELL THAT ISN'T RESTING IS LEFT OUT ONLY IF A NEIGHBOUR WAS TAKEN OR K WERE TAKEN"

neighbour-in : (k : ℕ) (l : List ℕ) → has_neighbour k l ≡ true → (d : ℕ) × (neighbours k d ≡ true) × (has d l ≡ true)
neighbour-in k [] e = clash refl (sym e)
neighbour-in k (c ∷ l) e =
    ⊎_elim
    (λ u. (c, u, or-left (eqb c c) (has c l) (eq-eqb c c refl)))
    (λ u. let q = neighbour-in k l u in (q.0, q.1, or-right (eqb q.0 c) (has q.0 l) q.2))
    (or-cases (neighbours k c) (has_neighbour k l) e)

module _ (bytes : List ℕ) (taken : judged bytes ≡ Accepted) (es : List Event) (j k : ℕ) (first : 1 ≤ k) (last : k ≤ word_at bytes 1) where
  inside : k ≤ (page_of bytes).rules.n
  inside = rw (word-1 bytes taken) last

  -- At the end of the walk: as the balance shows it.
  pub rounds-no-waste : wants_at bytes es j k ≡ true → rests_at bytes es j k ≡ false → holds_cell (balance_at bytes es j) k ≡ false
      → NeighbourBled bytes es j k ⊎ (ones (balance_at bytes es j) ≡ word_at bytes 2)
  rounds-no-waste wants rests out =
      ⊎_elim
      (λ u.
      let q = neighbour-in k (by_page (page_of bytes) bled_at j (wanted bytes es)) u in
      inl (q.0, q.1, bled-is bytes taken es j q.0 (bled-cell bytes taken es j q.0 q.2) ∙ q.2))
      (λ u. inr (full u (rw (bled-count bytes taken es j) at (demand-3-most bytes taken es j)) (bled-count bytes taken es j) (word-2 bytes taken)))
      (by_page (page_of bytes) left-out k first inside j (wanted bytes es) wants
      (sym (rests-are bytes taken es j k first) ∙ rests)
      (sym (bled-is bytes taken es j k first) ∙ out))
    where
      full : {K c most word : ℕ} → K ≤ c → c ≤ most → word ≡ c → K ≡ most → word ≡ most
      full a b e q = omega arith

  -- And already when the walk reached the cell,
  pub rounds-no-waste-then : wants_at bytes es j k ≡ true → rests_at bytes es j k ≡ false → holds_cell (balance_at bytes es j) k ≡ false
      → (has_neighbour k (taken_then bytes es j k) ≡ true) ⊎ (word_at bytes 2 ≤ length (taken_then bytes es j k))
  rounds-no-waste-then wants rests out =
      rw (taken-are bytes taken es j k, ← word-2 bytes taken)
      (by_page (page_of bytes) left-out-then k first inside j (wanted bytes es) wants
      (sym (rests-are bytes taken es j k first) ∙ rests)
      (sym (bled-is bytes taken es j k first) ∙ out))

  -- since what was taken by then stays taken: it is in the balance.
  pub rounds-taken-stays : j < length (samples bytes es) → (d : ℕ) → 1 ≤ d → has d (taken_then bytes es j k) ≡ true
      → holds_cell (balance_at bytes es j) d ≡ true
  rounds-taken-stays there d from e =
      let ws = wanted bytes es in
      let page = page_of bytes in
      let sample : j < length ws = rw (wishes-length page (samples bytes es)) there in
      bled-is bytes taken es j d from
      ∙ ap (has d) (by_page page bled-at j ws sample)
      ∙ stays page.rules.k (wants_at bytes es j) (by_page page rested_at j ws) k d (order page.rules.n (by_page page start_at j ws)) []
      (rw (taken-are bytes taken es j k) at e)

  -- ==== "AT A CELL'S OWN START TURN, TWO HISTORIES THAT AGREE ON WHETHER IT WANTS AND RESTS AGREE ON WHETHER IT IS BLED, WHATEVER THE
  -- OTHER CELLS READ"

  -- It is bled exactly if it wants and does not rest.
  pub rounds-own-turn-is : starts_at bytes es j ≡ k → holds_cell (balance_at bytes es j) k ≡ wants_at bytes es j k && not (rests_at bytes es j k)
  rounds-own-turn-is turn =
      let good = page-good bytes taken in
      bled-is bytes taken es j k first
      ∙ by_page (page_of bytes) own-start k first inside good.k.0 j (wanted bytes es) (sym (starts-are bytes taken es j) ∙ turn)
      ∙ ap (λ (r : Bool). wants_at bytes es j k && not r) (sym (rests-are bytes taken es j k first))

-- Two histories of one page, of any lengths: es up to its accepted sample j before the latest, and es' up to j'.
pub rounds-own-turn : (bytes : List ℕ) → judged bytes ≡ Accepted → (k : ℕ) → 1 ≤ k → k ≤ word_at bytes 1 → (es es' : List Event) (j j' : ℕ)
    → starts_at bytes es j ≡ k → starts_at bytes es' j' ≡ k
    → wants_at bytes es j k ≡ wants_at bytes es' j' k → rests_at bytes es j k ≡ rests_at bytes es' j' k
    → holds_cell (balance_at bytes es j) k ≡ holds_cell (balance_at bytes es' j') k
rounds-own-turn bytes taken k first last es es' j j' turn turn' wants rests =
    rounds-own-turn-is bytes taken es j k first last turn
    ∙ ap₂ (λ (w r : Bool). w && not r) wants rests
    ∙ sym (rounds-own-turn-is bytes taken es' j' k first last turn')
