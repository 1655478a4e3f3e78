-- x times a byte is linear, and the products by the constants of MixColumns are sums of its powers.
-- Assumes nothing.
use mathlib.Core.Path.{◌≡◌, refl, sym, ap, ap₂, ◌∙◌}
use Prim.Native.Nat.{ℕ, zero, suc, ◌*◌, ◌/◌, ◌%◌, ◌<◌}
use native.Mathlib.Omega.{arith}
use lib.Dec.{lit<}
use lib.Bits.{xor_shr, xor_mod}
use Rattle.aes_field.specs.Field.{◌⊕◌, xtime, bit_times, bits_times, ◌•◌}
use Rattle.aes_field.specs.Mix.{mix_byte, inv_mix_byte}
use Rattle.laws.proofs.Xor.{bit_ind, xor_shl}
use Rattle.aes_field.proofs.Sums.{⊕_assoc, ⊕_comm, ⊕_self, zero_⊕, ⊕_zero, ⊕_lt, ⊕_left_comm, ⊕_swap}

pub ruleset sums = (⊕_assoc, ⊕_comm, ⊕_left_comm)

⊕_double : (a b : ℕ) → (a ⊕ b) * 2 ≡ (a * 2) ⊕ (b * 2)
unfolding ◌⊕◌
⊕_double a b = xor_shl 1 a b

⊕_mod : (a b : ℕ) → (a ⊕ b) % 256 ≡ (a % 256) ⊕ (b % 256)
unfolding ◌⊕◌
⊕_mod a b = xor_mod a b 8

⊕_top : (a b : ℕ) → (a ⊕ b) / 128 ≡ (a / 128) ⊕ (b / 128)
unfolding ◌⊕◌
⊕_top a b = xor_shr a b 7

bits27 : (x : ℕ) → x < 2 → (y : ℕ) → y < 2 → (x ⊕ y) * 27 ≡ (x * 27) ⊕ (y * 27)
unfolding ◌⊕◌
bits27 =
    bit_ind (λ x. (y : ℕ) → y < 2 → (x ⊕ y) * 27 ≡ (x * 27) ⊕ (y * 27))
    (bit_ind (λ y. (0 ⊕ y) * 27 ≡ (0 * 27) ⊕ (y * 27)) refl refl)
    (bit_ind (λ y. (1 ⊕ y) * 27 ≡ (1 * 27) ⊕ (y * 27)) refl refl)

pub xtime-⊕ : (a b : ℕ) → a < 256 → b < 256 → xtime (a ⊕ b) ≡ xtime a ⊕ xtime b
unfolding xtime
xtime-⊕ a b ha hb =
    ap₂ ◌⊕◌
    (ap (λ (x : ℕ). x % 256) (⊕_double a b) ∙ ⊕_mod (a * 2) (b * 2))
    (ap (λ (x : ℕ). x * 27) (⊕_top a b) ∙ bits27 (a / 128) (omega arith) (b / 128) (omega arith))
    ∙ ⊕_swap (a * 2 % 256) (b * 2 % 256) (a / 128 * 27) (b / 128 * 27)

pub xtime_lt : {a : ℕ} → a < 256 → xtime a < 256
unfolding xtime
xtime_lt {a} h = ⊕_lt (omega arith) (omega arith)

ruleset no-terms = (zero_⊕, ⊕_zero)

pub times2 : (a : ℕ) → 2 • a ≡ xtime a
unfolding ◌•◌ bits_times
times2 a = simp no-terms

pub times3 : (a : ℕ) → 3 • a ≡ a ⊕ xtime a
unfolding ◌•◌ bits_times
times3 a = simp no-terms

pub times9 : (a : ℕ) → 9 • a ≡ a ⊕ xtime (xtime (xtime a))
unfolding ◌•◌ bits_times
times9 a = simp no-terms

pub times11 : (a : ℕ) → 11 • a ≡ a ⊕ (xtime a ⊕ xtime (xtime (xtime a)))
unfolding ◌•◌ bits_times
times11 a = simp no-terms

pub times13 : (a : ℕ) → 13 • a ≡ a ⊕ (xtime (xtime a) ⊕ xtime (xtime (xtime a)))
unfolding ◌•◌ bits_times
times13 a = simp no-terms

pub times14 : (a : ℕ) → 14 • a ≡ xtime a ⊕ (xtime (xtime a) ⊕ xtime (xtime (xtime a)))
unfolding ◌•◌ bits_times
times14 a = simp no-terms

pub mixed : (a b c d : ℕ) → a < 256 → b < 256 → xtime (a ⊕ b) ⊕ b ⊕ c ⊕ d ≡ mix_byte a b c d
mixed a b c d ha hb = simp (times2, times3, xtime-⊕ a b ha hb, sums)

bit_times-⊕ : (d x y : ℕ) → bit_times d (x ⊕ y) ≡ bit_times d x ⊕ bit_times d y
bit_times-⊕ zero x y = sym (zero_⊕ 0)
bit_times-⊕ (suc d) x y = refl

bit_times_lt : (d : ℕ) {x : ℕ} → x < 256 → bit_times d x < 256
bit_times_lt zero h = lit< tt
bit_times_lt (suc d) h = h

bits_times-⊕ : (n b x y : ℕ) → x < 256 → y < 256 → bits_times n b (x ⊕ y) ≡ bits_times n b x ⊕ bits_times n b y
unfolding bits_times
bits_times-⊕ zero b x y hx hy = sym (zero_⊕ 0)
bits_times-⊕ (suc n) b x y hx hy =
    ap₂ ◌⊕◌ (bit_times-⊕ (b % 2) x y)
    (ap (bits_times n (b / 2)) (xtime-⊕ x y hx hy) ∙ bits_times-⊕ n (b / 2) (xtime x) (xtime y) (xtime_lt hx) (xtime_lt hy))
    ∙ ⊕_swap (bit_times (b % 2) x) (bit_times (b % 2) y) (bits_times n (b / 2) (xtime x)) (bits_times n (b / 2) (xtime y))

bits_times_lt : (n b : ℕ) {x : ℕ} → x < 256 → bits_times n b x < 256
unfolding bits_times
bits_times_lt zero b h = lit< tt
bits_times_lt (suc n) b h = ⊕_lt (bit_times_lt (b % 2) h) (bits_times_lt n (b / 2) (xtime_lt h))

-- the product is linear in its second factor
pub •-⊕ : (k x y : ℕ) → x < 256 → y < 256 → k • (x ⊕ y) ≡ k • x ⊕ k • y
unfolding ◌•◌
•-⊕ k x y hx hy = bits_times-⊕ 8 k x y hx hy

pub •_lt : (k : ℕ) {x : ℕ} → x < 256 → k • x < 256
unfolding ◌•◌
•_lt k h = bits_times_lt 8 k h

pub •-⊕4 : (k w x y z : ℕ) → w < 256 → x < 256 → y < 256 → z < 256 → k • (w ⊕ x ⊕ y ⊕ z) ≡ k • w ⊕ k • x ⊕ k • y ⊕ k • z
•-⊕4 k w x y z hw hx hy hz =
    •-⊕ k (w ⊕ x ⊕ y) z (⊕_lt (⊕_lt hw hx) hy) hz
    ∙ ap (λ (m : ℕ). m ⊕ k • z) (•-⊕ k (w ⊕ x) y (⊕_lt hw hx) hy ∙ ap (λ (m : ℕ). m ⊕ k • y) (•-⊕ k w x hw hx))

pub ⊕_back : (a b : ℕ) → a ⊕ (a ⊕ b) ≡ b
⊕_back a b = sym (⊕_assoc a a b) ∙ ap (λ (x : ℕ). x ⊕ b) (⊕_self a) ∙ zero_⊕ b

-- sixteen terms, row by row and column by column
circle : (a0 b0 c0 d0 a1 b1 c1 d1 a2 b2 c2 d2 a3 b3 c3 d3 : ℕ)
    → (a0 ⊕ b0 ⊕ c0 ⊕ d0) ⊕ (b1 ⊕ c1 ⊕ d1 ⊕ a1) ⊕ (c2 ⊕ d2 ⊕ a2 ⊕ b2) ⊕ (d3 ⊕ a3 ⊕ b3 ⊕ c3)
    ≡ (a0 ⊕ a1 ⊕ a2 ⊕ a3) ⊕ (b0 ⊕ b1 ⊕ b2 ⊕ b3) ⊕ (c0 ⊕ c1 ⊕ c2 ⊕ c3) ⊕ (d0 ⊕ d1 ⊕ d2 ⊕ d3)
circle a0 b0 c0 d0 a1 b1 c1 d1 a2 b2 c2 d2 a3 b3 c3 d3 = simp sums

pub ruleset products = (times2, times3, times9, times11, times13, times14, xtime-⊕)

ruleset cancelling = (sums, ⊕_self, ⊕_back, no-terms)

-- the coefficients of the products of the two matrices, one way and the other: 1 and 0
module _ (v : ℕ) (h : v < 256) where
  forth : (14 • (2 • v) ⊕ 11 • v ⊕ 13 • v ⊕ 9 • (3 • v) ≡ v)
      × (14 • (3 • v) ⊕ 11 • (2 • v) ⊕ 13 • v ⊕ 9 • v ≡ 0)
      × (14 • v ⊕ 11 • (3 • v) ⊕ 13 • (2 • v) ⊕ 9 • v ≡ 0)
      × (14 • v ⊕ 11 • v ⊕ 13 • (3 • v) ⊕ 9 • (2 • v) ≡ 0)
  forth = (
    simp (products, xtime_lt) (simp cancelling),
    simp (products, xtime_lt) (simp cancelling),
    simp (products, xtime_lt) (simp cancelling),
    simp (products, xtime_lt) (simp cancelling),
  )

  -- `simp` looks for the bounds of x v, x x v and x x x v among what is bound
  back : (2 • (14 • v) ⊕ 3 • (9 • v) ⊕ 13 • v ⊕ 11 • v ≡ v)
      × (2 • (11 • v) ⊕ 3 • (14 • v) ⊕ 9 • v ⊕ 13 • v ≡ 0)
      × (2 • (13 • v) ⊕ 3 • (11 • v) ⊕ 14 • v ⊕ 9 • v ≡ 0)
      × (2 • (9 • v) ⊕ 3 • (13 • v) ⊕ 11 • v ⊕ 14 • v ≡ 0)
  back =
      let x₁ = xtime_lt h in
      let x₂ = xtime_lt x₁ in
      let x₃ = xtime_lt x₂ in (
        simp (products, ⊕_lt) (simp cancelling),
        simp (products, ⊕_lt) (simp cancelling),
        simp (products, ⊕_lt) (simp cancelling),
        simp (products, ⊕_lt) (simp cancelling),
      )

pub unmix_mix : (a b c d : ℕ) → a < 256 → b < 256 → c < 256 → d < 256
    → inv_mix_byte (mix_byte a b c d) (mix_byte b c d a) (mix_byte c d a b) (mix_byte d a b c) ≡ a
unmix_mix a b c d ha hb hc hd =
    ap₂ ◌⊕◌ (ap₂ ◌⊕◌ (ap₂ ◌⊕◌
    (•-⊕4 14 (2 • a) (3 • b) c d (•_lt 2 ha) (•_lt 3 hb) hc hd)
    (•-⊕4 11 (2 • b) (3 • c) d a (•_lt 2 hb) (•_lt 3 hc) hd ha))
    (•-⊕4 13 (2 • c) (3 • d) a b (•_lt 2 hc) (•_lt 3 hd) ha hb))
    (•-⊕4 9 (2 • d) (3 • a) b c (•_lt 2 hd) (•_lt 3 ha) hb hc)
    ∙ circle (14 • (2 • a)) (14 • (3 • b)) (14 • c) (14 • d)
    (11 • a) (11 • (2 • b)) (11 • (3 • c)) (11 • d)
    (13 • a) (13 • b) (13 • (2 • c)) (13 • (3 • d))
    (9 • (3 • a)) (9 • b) (9 • c) (9 • (2 • d))
    ∙ ap₂ ◌⊕◌ (ap₂ ◌⊕◌ (ap₂ ◌⊕◌ (forth a ha).0 (forth b hb).1) (forth c hc).2) (forth d hd).3
    ∙ simp no-terms

pub mix_unmix : (a b c d : ℕ) → a < 256 → b < 256 → c < 256 → d < 256
    → mix_byte (inv_mix_byte a b c d) (inv_mix_byte b c d a) (inv_mix_byte c d a b) (inv_mix_byte d a b c) ≡ a
mix_unmix a b c d ha hb hc hd =
    ap₂ ◌⊕◌ (ap₂ ◌⊕◌ (ap₂ ◌⊕◌
    (•-⊕4 2 (14 • a) (11 • b) (13 • c) (9 • d) (•_lt 14 ha) (•_lt 11 hb) (•_lt 13 hc) (•_lt 9 hd))
    (•-⊕4 3 (14 • b) (11 • c) (13 • d) (9 • a) (•_lt 14 hb) (•_lt 11 hc) (•_lt 13 hd) (•_lt 9 ha)))
    refl) refl
    ∙ circle (2 • (14 • a)) (2 • (11 • b)) (2 • (13 • c)) (2 • (9 • d))
    (3 • (9 • a)) (3 • (14 • b)) (3 • (11 • c)) (3 • (13 • d))
    (13 • a) (9 • b) (14 • c) (11 • d)
    (11 • a) (13 • b) (9 • c) (14 • d)
    ∙ ap₂ ◌⊕◌ (ap₂ ◌⊕◌ (ap₂ ◌⊕◌ (back a ha).0 (back b hb).1) (back c hc).2) (back d hd).3
    ∙ simp no-terms
