-- Bool tests: how a proof goes by what a test said, and what a test built of others says of its parts.
-- Assumes nothing.
use Rattle.std.specs.Prelude.{◌≡◌, refl, Bool, true, false, ◌&&◌, ◌||◌, ◌⊎◌, ℕ, ◌<◌, ◌≤◌, ltb}
use Rattle.std.proofs.Common.{sym, ◌∙◌, true≢false, inl, inr, ltb-true, ltb-false}

-- Go by a test, and keep what it said.
pub by-test {ℓ} : {X : Type ℓ} (b : Bool) → (b ≡ true → X) → (b ≡ false → X) → X
by-test true f g = f refl
by-test false f g = g refl

-- Go by the order of two numbers.
pub by-order {ℓ} : {X : Type ℓ} (n m : ℕ) → (n < m → X) → (m ≤ n → X) → X
by-order n m f g = by-test (ltb n m) (λ t. f (ltb-true n m t)) (λ t. g (ltb-false n m t))

-- A test that is both true and false proves anything.
pub clash {ℓ} : {X : Type ℓ} {b : Bool} → b ≡ true → b ≡ false → X
clash t f = absurd (true≢false (sym t ∙ f))

-- Two tests are equal if each passes where the other does.
pub test-ext : (a b : Bool) → (a ≡ true → b ≡ true) → (b ≡ true → a ≡ true) → a ≡ b
test-ext true b f g = sym (f refl)
test-ext false true f g = g refl
test-ext false false f g = refl

pub and-left : (a b : Bool) → a && b ≡ true → a ≡ true
and-left true b e = refl
and-left false b e = e

pub and-right : (a b : Bool) → a && b ≡ true → b ≡ true
and-right true b e = e
and-right false b e = absurd (true≢false (sym e))

pub or-left : (a b : Bool) → a ≡ true → a || b ≡ true
or-left true b e = refl
or-left false b e = absurd (true≢false (sym e))

pub or-right : (a b : Bool) → b ≡ true → a || b ≡ true
or-right true b e = refl
or-right false b e = e

pub or-cases : (a b : Bool) → a || b ≡ true → (a ≡ true) ⊎ (b ≡ true)
or-cases true b e = inl refl
or-cases false b e = inr e
