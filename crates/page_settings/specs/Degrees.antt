-- Degrees and tenths of a kelvin: a sample reaches a level in whole tenths exactly if it reaches the degrees themselves, and degrees in
-- order are levels in order.
-- Assumes nothing.
use Rattle.std.specs.Prelude.{◌≡◌, true, ℕ, suc, ◌+◌, ◌-◌, ◌*◌, ◌≤◌, leb, ℤ, pos, negsuc, ◌+ℤ◌, ◌*ℤ◌}
use Rattle.std.proofs.Common.{sym, ap, true≢false, arith, lt-ltb, le-ltb, ltb-true, leb-true, le-leb}
use Rattle.std.specs.Int.Signed.{le_z, lt_z}
use Rattle.laws.specs.Tests.{and-left, test-ext}
use Rattle.protections.specs.Direction.{reaches, back_of, in_order}
use Rattle.protections.specs.declared.Direction.{Direction}
use Rattle.protections.specs.declared.Direction.TheVariants.{Above, Below}
use Rattle.page_words.specs.Ranges.{degrees_fit}
use Rattle.page_settings.specs.Settings.{twice_tenths, tenths_at_zero}

-- Degrees in range are -40 at least.
least : (a : ℕ) → degrees_fit (negsuc a) ≡ true → a ≤ 39
unfolding degrees_fit
least a p = leb-true a 39 (and-left (le_z (negsuc 39) (negsuc a)) (le_z (negsuc a) (pos 120)) p)

-- Below 0 degrees: ten times as much and an offset that keeps it above 0; and twice that.
cold : (o a : ℕ) → 400 ≤ o → a ≤ 39 → pos 10 *ℤ negsuc a +ℤ pos o ≡ pos (o - (10 * a + 10))
cold o a g h =
    let e : 10 * suc a ≡ suc (10 * a + 9) = omega arith in
    rw (e, le-ltb o (suc (10 * a + 9)) (omega arith)) (ap pos (omega arith))

cold-twice : (o a : ℕ) → 800 ≤ o → a ≤ 39 → pos 20 *ℤ negsuc a +ℤ pos o ≡ pos (o - (20 * a + 20))
cold-twice o a g h =
    let e : 20 * suc a ≡ suc (20 * a + 19) = omega arith in
    rw (e, le-ltb o (suc (20 * a + 19)) (omega arith)) (ap pos (omega arith))

same-test : (a b c d : ℕ) → (a ≤ b → c ≤ d) → (c ≤ d → a ≤ b) → leb a b ≡ leb c d
same-test a b c d f g = test-ext (leb a b) (leb c d) (λ t. le-leb c d (f (leb-true a b t))) (λ t. le-leb a b (g (leb-true c d t)))

-- A sample of t tenths reaches the level in whole tenths exactly if it reaches the degrees themselves, in both directions.
pub level-exact : (d : Direction) (c : ℤ) (t : ℕ) → degrees_fit c ≡ true
    → reaches d (pos 10 *ℤ c +ℤ pos (tenths_at_zero d)) (pos t) ≡ reaches d (twice_tenths c) (pos (2 * t))
level-exact Above (pos a) t p = same-test (10 * a + 2732) t (20 * a + 5463) (2 * t) (λ h. omega arith) (λ h. omega arith)
level-exact Below (pos a) t p = same-test t (10 * a + 2731) (2 * t) (20 * a + 5463) (λ h. omega arith) (λ h. omega arith)
level-exact Above (negsuc a) t p =
    let h = least a p in
    rw (cold 2732 a (omega arith) h, cold-twice 5463 a (omega arith) h)
    (same-test (2732 - (10 * a + 10)) t (5463 - (20 * a + 20)) (2 * t) (λ q. omega arith) (λ q. omega arith))
level-exact Below (negsuc a) t p =
    let h = least a p in
    rw (cold 2731 a (omega arith) h, cold-twice 5463 a (omega arith) h)
    (same-test t (2731 - (10 * a + 10)) (2 * t) (5463 - (20 * a + 20)) (λ q. omega arith) (λ q. omega arith))

-- Degrees in order are tenths in order, also with an offset more on the greater side.
tenths-less : (o u : ℕ) → 400 ≤ o → o ≤ u → (a b : ℤ) → degrees_fit a ≡ true → degrees_fit b ≡ true → lt_z a b ≡ true
    → lt_z (pos 10 *ℤ a +ℤ pos o) (pos 10 *ℤ b +ℤ pos u) ≡ true
tenths-less o u g w (pos a) (pos b) p q h = lt-ltb (10 * a + o) (10 * b + u) (let k = ltb-true a b h in omega arith)
tenths-less o u g w (pos a) (negsuc b) p q h = absurd (true≢false (sym h))
tenths-less o u g w (negsuc a) (pos b) p q h =
    let k = least a p in
    rw (cold o a g k) (lt-ltb (o - (10 * a + 10)) (10 * b + u) (omega arith))
tenths-less o u g w (negsuc a) (negsuc b) p q h =
    let k = least a p in
    let m = least b q in
    rw (cold o a g k, cold u b (omega arith) m)
    (lt-ltb (o - (10 * a + 10)) (u - (10 * b + 10)) (let n = ltb-true b a h in omega arith))

-- So a trip and a release that are in order as degrees are in order as levels, each in its own direction.
pub tenths-order : (d : Direction) (a b : ℤ) → degrees_fit a ≡ true → degrees_fit b ≡ true → in_order d a b ≡ true
    → in_order d (pos 10 *ℤ a +ℤ pos (tenths_at_zero d)) (pos 10 *ℤ b +ℤ pos (tenths_at_zero (back_of d))) ≡ true
tenths-order Above a b p q h = tenths-less 2731 2732 (omega arith) (omega arith) b a q p h
tenths-order Below a b p q h = tenths-less 2731 2732 (omega arith) (omega arith) a b p q h
