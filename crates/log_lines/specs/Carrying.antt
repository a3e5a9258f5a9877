-- What is carried on from one read to the next.
use Rattle.std.specs.Prelude.{ℕ, suc, ◌+◌, ◌-◌, ◌<◌, ◌≤◌, ◌≡◌, refl, Bool, true, false, cond, List, [], ◌∷◌, ◌++◌, leb, ltb, length, get_or, set, take, drop}
use Rattle.std.proofs.Common.{sym, ap, ap₂, ◌∙◌, true≢false, add-one, arith, length-set, length-take, length-drop, take-append-drop, take-suc, take-suc-set, drop-set-lt, drop-drop, get_or-drop, length-take-le, take-take, take_all, take-add, take_at, drop_at, le-leb, ltb-true, ltb-false}
use Rattle.std.proofs.lemmas.Bool.{lt-leb}
use Rattle.laws.specs.Tests.{by-test}

-- How much of a line that did not end is enough: a line over 128 bytes is as good as its first 129.
abbrev pub enough : ℕ
enough = 129

-- the bytes that are carried on: all while lines wait in them, and else the first 129, since a line over 128 bytes is as good as its first 129
abbrev pub kept : Bool → List ℕ → List ℕ
kept true x = take enough x
kept false x = x

-- how many they are
unfoldable pub carried : Bool → ℕ → ℕ
carried done n = cond done (cond (ltb enough n) enough n) n

-- the buffer d with count of its bytes moved from from on to the front; where it has not so many, it stays
unfoldable pub move_down : List ℕ → ℕ → ℕ → List ℕ
move_down d from count = cond (leb (from + count) (length d)) (take count (drop from d) ++ drop count d) d

pub carried-few : (done : Bool) (n : ℕ) → carried done n ≤ n
unfolding carried
carried-few false n = omega arith
carried-few true n =
    by-test (ltb enough n) (λ t. rw t (let k = ltb-true enough n t in omega arith)) (λ t. rw t (omega arith))

-- where no newline is left, at most 129 bytes are carried on
pub carried-little : (done : Bool) (n : ℕ) → done ≡ true → carried done n ≤ 129
unfolding carried
carried-little false n e = absurd (true≢false (sym e))
carried-little true n e =
    by-test (ltb enough n) (λ t. rw t (omega arith)) (λ t. rw t (let k = ltb-false enough n t in omega arith))

kept-take : (done : Bool) (n : ℕ) (x : List ℕ) → take (carried done n) x ≡ kept done (take n x)
unfolding carried
kept-take false n x = refl
kept-take true n x =
    by-test (ltb enough n)
    (λ t. rw t (sym (take-take enough n x (let k = ltb-true enough n t in omega arith))))
    (λ t. rw t (sym (take_all enough (take n x) (let k = ltb-false enough n t in let z = length-take n x in omega arith))))

drop-take : (from n : ℕ) (l : List ℕ) → from ≤ n → n ≤ length l → drop from (take n l) ≡ take (n - from) (drop from l)
drop-take from n l a b =
    let e : n ≡ from + (n - from) = omega arith in
    ap (λ (j : ℕ). drop from (take j l)) e ∙ ap (drop from) (take-add from (n - from) l)
    ∙ drop_at (take from l) (take (n - from) (drop from l)) from (length-take-le from l (omega arith))

-- ---- moving bytes to the front, one by one

pub record Moved (d : List ℕ) (from i : ℕ) (e : List ℕ) : Type 0 where
  pub same : length e ≡ length d
  pub front : take i e ≡ take i (drop from d)
  pub rest : drop i e ≡ drop i d

pub moved-start : (d : List ℕ) (from : ℕ) → Moved d from 0 d
moved-start d from = record { same = refl; front = refl; rest = refl }

pub moved-on : (d : List ℕ) (from i : ℕ) (e : List ℕ) → from + i < length d → Moved d from i e
    → Moved d from (i + 1) (set e i (get_or e (from + i) 0))
moved-on d from i e h m =
    let s : length e ≡ length d = m.same in
    let swap : from + i ≡ i + from = omega arith in
    let v : get_or e (from + i) 0 ≡ get_or (drop from d) i 0 =
    ap (λ (j : ℕ). get_or e j 0) swap ∙ sym (get_or-drop i e from 0) ∙ ap (λ (l : List ℕ). get_or l from 0) m.rest ∙ get_or-drop i d from 0
    ∙ ap (λ (j : ℕ). get_or d j 0) (sym swap) ∙ sym (get_or-drop from d i 0) in
    let len : length (drop from d) ≡ length d - from = length-drop from d in
    record {
      same = length-set e i (get_or e (from + i) 0) ∙ s;
      front = rw (add-one, v) (take-suc-set e i (get_or (drop from d) i 0) (omega arith) ∙ ap (λ (l : List ℕ). l ++ (get_or (drop from d) i 0 ∷ [])) m.front ∙ sym (take-suc (drop from d) i 0 (omega arith)));
      rest = rw add-one (drop-set-lt (suc i) e i (get_or e (from + i) 0) (omega arith) ∙ tail-of i e d m.rest);
    }
  where
    tail-of : (i : ℕ) (a b : List ℕ) → drop i a ≡ drop i b → drop (suc i) a ≡ drop (suc i) b
    tail-of i a b q = let z : suc i ≡ i + 1 = omega arith in rw z (sym (drop-drop 1 i a) ∙ ap (drop 1) q ∙ drop-drop 1 i b)

-- all were moved
pub moved-end : (d : List ℕ) (from count : ℕ) (e : List ℕ) → from + count ≤ length d → Moved d from count e → e ≡ move_down d from count
unfolding move_down
moved-end d from count e h m =
    rw (le-leb (from + count) (length d) h)
    (sym (take-append-drop count e) ∙ ap₂ (λ (a b : List ℕ). a ++ b) m.front m.rest)

-- there were not so many
pub moved-not : (d : List ℕ) (from count : ℕ) → length d < from + count → d ≡ move_down d from count
unfolding move_down
moved-not d from count h = rw (lt-leb (from + count) (length d) h)

-- the front of the buffer, once the rest of the waiting bytes was moved there, is what had to be kept of them
pub moved-kept : (buf : List ℕ) (have used : ℕ) (done : Bool) → have ≤ length buf → used ≤ have
    → take (carried done (have - used)) (move_down buf used (carried done (have - used))) ≡ kept done (drop used (take have buf))
unfolding move_down
moved-kept buf have used done h u =
    let n : ℕ = carried done (have - used) in
    let k = carried-few done (have - used) in
    let room : used + n ≤ length buf = omega arith in
    let len : length (take n (drop used buf)) ≡ n = length-take-le n (drop used buf) (rw length-drop (omega arith)) in
    rw (le-leb (used + n) (length buf) room)
    (take_at (take n (drop used buf)) (drop n buf) n len ∙ kept-take done (have - used) (drop used buf)
    ∙ ap (kept done) (sym (drop-take used have buf u h)))
