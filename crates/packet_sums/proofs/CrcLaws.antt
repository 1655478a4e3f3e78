-- The CRC: bounds, lists joined, what a loop from the front has left, and linearity.
-- Assumes nothing.
use Rattle.std.proofs.Common.{◌≡◌, ℕ, zero, suc, ◌*◌, ◌/◌, ◌%◌, ◌<◌, Bool, true, false, cond, eqb, List, [], ◌∷◌, ◌++◌, length, get_or, take, drop, sym, refl, ap, ◌∙◌, ap₂, mod-lt, arith, lit<, take-append-drop, take-suc}
use lib.Bits.{bit_xor, xor_assoc, xor_zero_r, xor_shr, xor_mod, xor_lt}
use lib.ListN.{length-replicate}
use Rattle.laws.specs.Bytes.{xorl, zeros}
use Rattle.laws.proofs.Xor.{bit_ind, xor_swap, xor_shl}
use Rattle.packet_sums.specs.Crc.{polynomial, crc_start, reduce, crc_bit, crc_bits, crc_byte, crc_from, crc_of}
use Rattle.packet_sums.proofs.Linear.{Linear, linear_same, linear_after}

-- ---- clauses

pub crc_nil : (c : ℕ) → crc_from c [] ≡ c
unfolding crc_from
crc_nil c = refl

pub crc_cons : (c b : ℕ) (s : List ℕ) → crc_from c (b ∷ s) ≡ crc_from (crc_byte c b) s
unfolding crc_from
crc_cons c b s = refl

pub crc-append : (c : ℕ) (a b : List ℕ) → crc_from c (a ++ b) ≡ crc_from (crc_from c a) b
unfolding crc_from
crc-append c [] b = refl
crc-append c (x ∷ a) b = crc-append (crc_byte c x) a b

pub crc-take : (s : List ℕ) (c k : ℕ) → k < length s → crc_from c (take (suc k) s) ≡ crc_byte (crc_from c (take k s)) (get_or s k 0)
crc-take s c k h =
    let d = crc_from c (take k s) in
    ap (crc_from c) (take-suc s k 0 h) ∙ crc-append c (take k s) (get_or s k 0 ∷ []) ∙ crc_cons d (get_or s k 0) [] ∙ crc_nil (crc_byte d (get_or s k 0))

pub crc-cut : (s : List ℕ) (c k : ℕ) → crc_from (crc_from c (take k s)) (drop k s) ≡ crc_from c s
crc-cut s c k = sym (crc-append c (take k s) (drop k s)) ∙ ap (crc_from c) (take-append-drop k s)

-- ---- bounds

choice_lt : (t : Bool) (a b : ℕ) → a < 65536 → b < 65536 → cond t a b < 65536
choice_lt true a b ha hb = ha
choice_lt false a b ha hb = hb

reduce_lt : (out c : ℕ) → c < 65536 → reduce out c < 65536
unfolding reduce
reduce_lt out c h = choice_lt (eqb out 0) c (bit_xor c polynomial) h (xor_lt 16 c polynomial h (lit< tt))

pub bit_lt : (c : ℕ) → crc_bit c < 65536
unfolding crc_bit
bit_lt c = reduce_lt (c / 32768 % 2) (c * 2 % 65536) (mod-lt (c * 2) (lit< tt))

pub byte_lt : (c b : ℕ) → crc_byte c b < 65536
unfolding crc_byte crc_bits
byte_lt c b = bit_lt (crc_bits 7 (bit_xor c (b * 256)))

pub from_lt : (s : List ℕ) (c : ℕ) → c < 65536 → crc_from c s < 65536
unfolding crc_from
from_lt [] c h = h
from_lt (b ∷ s) c h = from_lt s (crc_byte c b) (byte_lt c b)

pub crc_lt : (s : List ℕ) → crc_of s < 65536
crc_lt s = from_lt s crc_start (lit< tt)

-- ---- linearity

abbrev Reduced : ℕ → ℕ → Type 0
Reduced s t = (v w : ℕ) → reduce (bit_xor s t) (bit_xor v w) ≡ bit_xor (reduce s v) (reduce t w)

reduce_xor : (s : ℕ) → s < 2 → (t : ℕ) → t < 2 → Reduced s t
unfolding reduce
reduce_xor =
    bit_ind (λ s. (t : ℕ) → t < 2 → Reduced s t)
    (bit_ind (Reduced 0) (λ v w. refl) (λ v w. xor_assoc v w polynomial))
    (bit_ind (Reduced 1)
    (λ v w. xor_swap v w polynomial 0 ∙ ap (bit_xor (bit_xor v polynomial)) (xor_zero_r w))
    (λ v w. sym (xor_zero_r (bit_xor v w)) ∙ xor_swap v w polynomial polynomial))

bit_xor_lem : (x y : ℕ) → crc_bit (bit_xor x y) ≡ bit_xor (crc_bit x) (crc_bit y)
unfolding crc_bit
bit_xor_lem x y =
    ap₂ reduce (ap (λ (n : ℕ). n % 2) (xor_shr x y 15) ∙ xor_mod (x / 32768) (y / 32768) 1)
    (ap (λ (n : ℕ). n % 65536) (xor_shl 1 x y) ∙ xor_mod (x * 2) (y * 2) 16)
    ∙ reduce_xor (x / 32768 % 2) (mod-lt (x / 32768) (lit< tt)) (y / 32768 % 2) (mod-lt (y / 32768) (lit< tt)) (x * 2 % 65536) (y * 2 % 65536)

pub bit_linear : Linear crc_bit
bit_linear = record { apart = bit_xor_lem }

pub bits_linear : (n : ℕ) → Linear (crc_bits n)
unfolding crc_bits
bits_linear zero = linear_same
bits_linear (suc n) = linear_after bit_linear (bits_linear n)

-- in the value so far and the byte together
pub byte_linear : (c d a b : ℕ) → crc_byte (bit_xor c d) (bit_xor a b) ≡ bit_xor (crc_byte c a) (crc_byte d b)
unfolding crc_byte
byte_linear c d a b =
    ap (λ (n : ℕ). crc_bits 8 (bit_xor (bit_xor c d) n)) (xor_shl 8 a b) ∙ ap (crc_bits 8) (xor_swap c d (a * 256) (b * 256))
    ∙ (bits_linear 8).apart (bit_xor c (a * 256)) (bit_xor d (b * 256))

pub crc_linear : (s t : List ℕ) (c d : ℕ) → length s ≡ length t → crc_from (bit_xor c d) (xorl s t) ≡ bit_xor (crc_from c s) (crc_from d t)
unfolding crc_from xorl
crc_linear [] [] c d e = refl
crc_linear [] (b ∷ t) c d e = absurd (omega arith)
crc_linear (a ∷ s) [] c d e = absurd (omega arith)
crc_linear (a ∷ s) (b ∷ t) c d e =
    ap (λ (n : ℕ). crc_from n (xorl s t)) (byte_linear c d a b) ∙ crc_linear s t (crc_byte c a) (crc_byte d b) (omega arith)

xorl-zeros : (s : List ℕ) → xorl (zeros (length s)) s ≡ s
unfolding xorl
xorl-zeros [] = refl
xorl-zeros (b ∷ s) = ap (λ (t : List ℕ). b ∷ t) (xorl-zeros s)

-- the part of the value so far, and the part of the bytes
pub crc_split : (c : ℕ) (s : List ℕ) → crc_from c s ≡ bit_xor (crc_from c (zeros (length s))) (crc_from 0 s)
crc_split c s =
    sym (ap₂ crc_from (xor_zero_r c) (xorl-zeros s)) ∙ crc_linear (zeros (length s)) s c 0 (length-replicate {A = ℕ} (length s) 0)
