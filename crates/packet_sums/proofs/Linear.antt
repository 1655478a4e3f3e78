-- Functions that are linear in exclusive or. Two of them that agree at each power of two below 2^k agree at each number below 2^k,
-- since such a number is the exclusive or of some of those powers.
-- Assumes nothing.
use Rattle.std.proofs.Common.{◌≡◌, ℕ, zero, suc, ◌-◌, ◌*◌, ◌/◌, ◌%◌, ◌^◌, ◌<◌, cond, T, eqb, get_or, sym, refl, ap, ◌∙◌, subst, ap₂, one-mul, pow-suc, zero-add, arith, eqb→eq}
use native.Mathlib.Decide.{dec_lt}
use lib.Arith.{lt-one}
use lib.Bits.{bit_xor, xor_self, xor_shr, xor_mod, xor_shifted}
use Rattle.laws.specs.Table.{from}
use Rattle.laws.proofs.Entries.{every, every_at}
use Rattle.laws.proofs.Listed.{length_from_lem, get_or-from}
use Rattle.laws.proofs.Xor.{xor_swap, xor_shl}

-- what f gives for the exclusive or of two numbers is the exclusive or of what it gives for each
pub record Linear (f : ℕ → ℕ) : Type 0 where
  pub apart : (x y : ℕ) → f (bit_xor x y) ≡ bit_xor (f x) (f y)

-- ---- what is linear

pub linear_same : Linear (λ x. x)
linear_same = record { apart = λ x y. refl }

pub linear_after : {f g : ℕ → ℕ} → Linear f → Linear g → Linear (λ x. f (g x))
linear_after {f} {g} hf hg = record { apart = λ x y. ap f (hg.apart x y) ∙ hf.apart (g x) (g y) }

pub linear_xor : {f g : ℕ → ℕ} → Linear f → Linear g → Linear (λ x. bit_xor (f x) (g x))
linear_xor {f} {g} hf hg = record { apart = λ x y. ap₂ bit_xor (hf.apart x y) (hg.apart x y) ∙ xor_swap (f x) (f y) (g x) (g y) }

-- moved down by k digits, cut to k digits, moved up by k digits
pub linear_shr : {f : ℕ → ℕ} → Linear f → (k : ℕ) → Linear (λ x. f x / 2 ^ k)
linear_shr {f} h k = record { apart = λ x y. ap (λ (n : ℕ). n / 2 ^ k) (h.apart x y) ∙ xor_shr (f x) (f y) k }

pub linear_mod : {f : ℕ → ℕ} → Linear f → (k : ℕ) → Linear (λ x. f x % 2 ^ k)
linear_mod {f} h k = record { apart = λ x y. ap (λ (n : ℕ). n % 2 ^ k) (h.apart x y) ∙ xor_mod (f x) (f y) k }

pub linear_shl : {f : ℕ → ℕ} → Linear f → (k : ℕ) → Linear (λ x. f x * 2 ^ k)
linear_shl {f} h k = record { apart = λ x y. ap (λ (n : ℕ). n * 2 ^ k) (h.apart x y) ∙ xor_shl k (f x) (f y) }

-- the same for a power of two that is given as a number, and found to be one by a test
unfoldable pub log_of : ℕ → ℕ → ℕ
log_of zero d = 0
log_of (suc k) d = cond (eqb d (2 ^ suc k)) (suc k) (log_of k d)

abbrev pub Power : ℕ → Type 0
Power d = T (eqb d (2 ^ log_of 63 d))

pub linear_div : {f : ℕ → ℕ} → Linear f → (d : ℕ) → Power d → Linear (λ x. f x / d)
linear_div {f} h d p = subst (λ (n : ℕ). Linear (λ x. f x / n)) (sym (eqb→eq d (2 ^ log_of 63 d) p)) (linear_shr h (log_of 63 d))

pub linear_times : {f : ℕ → ℕ} → Linear f → (d : ℕ) → Power d → Linear (λ x. f x * d)
linear_times {f} h d p = subst (λ (n : ℕ). Linear (λ x. f x * n)) (sym (eqb→eq d (2 ^ log_of 63 d) p)) (linear_shl h (log_of 63 d))

-- ---- what follows

pub linear_zero : {f : ℕ → ℕ} → Linear f → f 0 ≡ 0
linear_zero {f} h = h.apart 0 0 ∙ xor_self (f 0)

-- the highest digit of a number below 2^(k+1) is 0 or 1
top_digit : (P : ℕ → Type 0) (k : ℕ) → ((x : ℕ) → x < 2 ^ k → P x) → ((x : ℕ) → x < 2 ^ k → P (bit_xor (2 ^ k) x)) → (x : ℕ) → x < 2 ^ suc k → P x
top_digit P k low high x h = elim (dec_lt x (2 ^ k)) [
  | yes p ↦ low x p
  | no n ↦
      let r : x - 2 ^ k < 2 ^ k = omega (arith, pow-suc 2 k) in
      let e : bit_xor (2 ^ k) (x - 2 ^ k) ≡ x = ap (λ (p : ℕ). bit_xor p (x - 2 ^ k)) (sym (one-mul (2 ^ k))) ∙ xor_shifted 1 k (x - 2 ^ k) r ∙ omega (arith, pow-suc 2 k) in
      subst P e (high (x - 2 ^ k) r)
]

pub linear_agree : {f g : ℕ → ℕ} → Linear f → Linear g → (k : ℕ) → ((i : ℕ) → i < k → f (2 ^ i) ≡ g (2 ^ i)) → (x : ℕ) → x < 2 ^ k → f x ≡ g x
linear_agree {f} {g} hf hg zero e x h = ap f (lt-one h) ∙ linear_zero hf ∙ sym (linear_zero hg) ∙ ap g (sym (lt-one h))
linear_agree {f} {g} hf hg (suc k) e x h =
    let ih : (y : ℕ) → y < 2 ^ k → f y ≡ g y = linear_agree hf hg k (λ i lt. e i (omega arith)) in
    top_digit (λ y. f y ≡ g y) k ih
    (λ y lt. hf.apart (2 ^ k) y ∙ ap₂ bit_xor (e k (omega arith)) (ih y lt) ∙ sym (hg.apart (2 ^ k) y)) x h

-- the same, the powers tried one after the other by a test
abbrev pub Tried : (ℕ → ℕ) → (ℕ → ℕ) → ℕ → Type 0
Tried f g k = T (every (λ i x. eqb (f x) (g x)) 0 (from (λ i. 2 ^ i) 0 k))

pub agree_tried : {f g : ℕ → ℕ} → Linear f → Linear g → (k : ℕ) → Tried f g k → (x : ℕ) → x < 2 ^ k → f x ≡ g x
agree_tried {f} {g} hf hg k t =
    let s = from (λ i. 2 ^ i) 0 k in
    linear_agree hf hg k
    (λ i h. subst (λ (x : ℕ). f x ≡ g x) (get_or-from (λ i. 2 ^ i) 0 k i h ∙ ap (λ (j : ℕ). 2 ^ j) (zero-add i))
    (eqb→eq (f (get_or s i 0)) (g (get_or s i 0)) (every_at (λ i x. eqb (f x) (g x)) s t i (omega (arith, length_from_lem (λ i. 2 ^ i) 0 k)))))
