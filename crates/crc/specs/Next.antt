-- Bytes more: a run of bytes may be taken in parts, and one byte more is one step more.
-- Assumes nothing.
use Rattle.std.specs.Prelude.{◌≡◌, refl, List, [], ◌∷◌, ◌++◌, ℕ, ◌+◌, ◌<◌, length, get_or, take}
use Rattle.std.proofs.Common.{sym, ap, ◌∙◌, add-one, take-suc}
use Rattle.crc.specs.CheckByte.{with_byte, remainder, check_byte}

-- Whatever is worked from the first byte to the last.
worked-append : (f : ℕ → List ℕ → ℕ) → ((c : ℕ) → f c [] ≡ c) → ((c b : ℕ) (l : List ℕ) → f c (b ∷ l) ≡ f (with_byte c b) l)
    → (c : ℕ) (l m : List ℕ) → f c (l ++ m) ≡ f (f c l) m
worked-append f none more c [] m = rw (none c)
worked-append f none more c (b ∷ l) m = rw (more c b (l ++ m), more c b l) (worked-append f none more (with_byte c b) l m)

-- What two parts leave, one behind the other, is what the second leaves from what the first left.
pub remainder-append : (c : ℕ) (l m : List ℕ) → remainder c (l ++ m) ≡ remainder (remainder c l) m
unfolding remainder
remainder-append = worked-append remainder (λ c. refl) (λ c b l. refl)

-- Going on from the check byte of a first part over the second gives the check byte of the whole.
pub check-append : (l m : List ℕ) → remainder (check_byte l) m ≡ check_byte (l ++ m)
unfolding check_byte remainder
check-append l m = sym (worked-append remainder (λ c. refl) (λ c b l. refl) 0 l m)

-- One byte more of a run of bytes.
pub remainder-next : (c : ℕ) (s : List ℕ) (i d r : ℕ) → i < length s → d ≡ remainder c (take i s) → r ≡ with_byte d (get_or s i 0)
    → r ≡ remainder c (take (i + 1) s)
unfolding remainder
remainder-next c s i d r h e er =
    rw (add-one, take-suc s i 0 h, worked-append remainder (λ c. refl) (λ c b l. refl) c (take i s) (get_or s i 0 ∷ [])) (er ∙ ap (λ (x : ℕ). with_byte x (get_or s i 0)) e)
