-- Bytes as one number: parts put together, bounds, and the CRC of the number's bytes.
-- Assumes nothing.
use Rattle.std.proofs.Common.{◌≡◌, ℕ, zero, suc, ◌+◌, ◌*◌, ◌/◌, ◌%◌, ◌^◌, ◌<◌, List, [], ◌∷◌, length, get_or, take, drop, sym, refl, ap, ◌∙◌, ap₂, add-zero, add-suc, suc-add, arith, pow-add, shl_exact, ◌++◌, subst, drop-drop, lit≤, zero-mul, suc-mul, add_comm}
use native.Mathlib.Numerals.{unary_clauses}
use Rattle.laws.proofs.Listed.{all_listed}
use Rattle.std.specs.Int.{w16, w64, from_be_bytes}
use Rattle.std.specs.Simd.{first_chunks}
use lib.Bits.{bit_or, bit_xor, xor_shr, xor_mod, or_shifted}
use Rattle.laws.specs.Bytes.{Bytes}
use Rattle.packet_sums.specs.Crc.{crc_byte, crc_from}
use Rattle.packet_sums.specs.Word.{word_from, bytes_of, crc_word}
use Rattle.packet_sums.proofs.Linear.{Linear, linear_zero}
use Rattle.packet_sums.proofs.CrcLaws.{crc_nil, crc_cons, crc-append, byte_linear}

-- ---- a number out of its parts

pub word_nil : (a : ℕ) → word_from a [] ≡ a
unfolding word_from
word_nil a = refl

pub word_cons : (a b : ℕ) (s : List ℕ) → word_from a (b ∷ s) ≡ word_from (a * 256 + b) s
unfolding word_from
word_cons a b s = refl

pub word-append : (a : ℕ) (s t : List ℕ) → word_from a (s ++ t) ≡ word_from (word_from a s) t
unfolding word_from
word-append a [] t = refl
word-append a (b ∷ s) t = word-append (a * 256 + b) s t

pub word_lt : (s : List ℕ) (a k : ℕ) → Bytes s → a < 2 ^ k → word_from a s < 2 ^ (k + 8 * length s)
unfolding word_from
word_lt [] a k hb h = simp unary_clauses h
word_lt (b ∷ s) a k hb h =
    let low = hb 0 in
    let e : k + 8 * length (b ∷ s) ≡ k + 8 + 8 * length s = omega arith in
    subst (λ (n : ℕ). word_from (a * 256 + b) s < 2 ^ n) (sym e) (word_lt s (a * 256 + b) (k + 8) (λ i. hb (suc i)) (omega (arith, pow-add 2 k 8)))

-- two bytes as the library reads them, put in below what stands above them
word_pair : (a : ℕ) (s : List ℕ) → length s ≡ 2 → word_from a s ≡ a * 65536 + from_be_bytes w16 s
unfolding word_from
word_pair a [] e = absurd (omega arith)
word_pair a (b ∷ []) e = absurd (omega arith)
word_pair a (b ∷ c ∷ []) e = omega arith
word_pair a (b ∷ c ∷ d ∷ s) e = absurd (omega arith)

pub pair_below : (a p : ℕ) (s : List ℕ) → a < 2 ^ 48 → p < 65536 → p ≡ from_be_bytes w16 s → length s ≡ 2 → bit_or (a * 65536 % 2 ^ 64) p ≡ word_from a s
pair_below a p s ha hp e h =
    ap (λ (n : ℕ). bit_or n p) (shl_exact 48 16 64 ha (lit≤ tt)) ∙ or_shifted a 16 p hp ∙ ap (λ (n : ℕ). a * 65536 + n) e ∙ sym (word_pair a s h)

-- eight bytes
pub word_eight : (s : List ℕ) → length s ≡ 8 → from_be_bytes w64 s ≡ word_from 0 s
unfolding word_from
word_eight s h =
    ap (from_be_bytes w64) (sym (all_listed s 8 h)) ∙ omega arith ∙ ap (word_from 0) (all_listed s 8 h)

-- ---- a list in chunks

pub chunk_at : (n k : ℕ) (s : List ℕ) (i : ℕ) (d : List ℕ) → i < k → get_or (first_chunks n k s) i d ≡ take n (drop (i * n) s)
chunk_at n zero s i d h = absurd (omega arith)
chunk_at n (suc k) s zero d h = ap (λ (m : ℕ). take n (drop m s)) (sym (zero-mul n))
chunk_at n (suc k) s (suc i) d h =
    chunk_at n k (drop n s) i d (omega arith) ∙ ap (take n) (drop-drop (i * n) n s ∙ ap (λ (m : ℕ). drop m s) (add_comm n (i * n) ∙ sym (suc-mul i n)))

-- ---- the CRC of a number's bytes

pub crc-word_zero : (z : ℕ) → crc_word 0 z ≡ 0
unfolding crc_word bytes_of
crc-word_zero z = crc_nil 0

pub crc-word_suc : (n z : ℕ) → crc_word (suc n) z ≡ crc_byte (crc_word n (z / 256)) (z % 256)
unfolding crc_word bytes_of
crc-word_suc n z =
    let s = bytes_of n (z / 256) in
    crc-append 0 s (z % 256 ∷ []) ∙ crc_cons (crc_from 0 s) (z % 256) [] ∙ crc_nil (crc_byte (crc_from 0 s) (z % 256))

crc-word_xor : (n x y : ℕ) → crc_word n (bit_xor x y) ≡ bit_xor (crc_word n x) (crc_word n y)
crc-word_xor zero x y = crc-word_zero (bit_xor x y) ∙ sym (ap₂ bit_xor (crc-word_zero x) (crc-word_zero y))
crc-word_xor (suc n) x y =
    crc-word_suc n (bit_xor x y) ∙ ap₂ (λ (p q : ℕ). crc_byte (crc_word n p) q) (xor_shr x y 8) (xor_mod x y 8)
    ∙ ap (λ (p : ℕ). crc_byte p (bit_xor (x % 256) (y % 256))) (crc-word_xor n (x / 256) (y / 256))
    ∙ byte_linear (crc_word n (x / 256)) (crc_word n (y / 256)) (x % 256) (y % 256)
    ∙ sym (ap₂ bit_xor (crc-word_suc n x) (crc-word_suc n y))

pub crc-word_linear : (n : ℕ) → Linear (crc_word n)
crc-word_linear n = record { apart = crc-word_xor n }

pub crc-word_step : (n a b : ℕ) → b < 256 → crc_word (suc n) (a * 256 + b) ≡ crc_byte (crc_word n a) b
crc-word_step n a b h =
    let q : (a * 256 + b) / 256 ≡ a = omega arith in
    let r : (a * 256 + b) % 256 ≡ b = omega arith in
    crc-word_suc n (a * 256 + b) ∙ ap₂ (λ (x y : ℕ). crc_byte (crc_word n x) y) q r

-- bytes written behind a number are taken in behind its own
pub crc-word-from : (s : List ℕ) (n a : ℕ) → Bytes s → crc_word (n + length s) (word_from a s) ≡ crc_from (crc_word n a) s
crc-word-from [] n a h = ap₂ crc_word (add-zero n) (word_nil a) ∙ sym (crc_nil (crc_word n a))
crc-word-from (b ∷ s) n a h =
    ap₂ crc_word (add-suc n (length s) ∙ sym (suc-add n (length s))) (word_cons a b s) ∙ crc-word-from s (suc n) (a * 256 + b) (λ i. h (suc i))
    ∙ ap (λ (c : ℕ). crc_from c s) (crc-word_step n a b (h 0)) ∙ sym (crc_cons (crc_word n a) b s)

-- a number of two bytes has nothing above them
pub crc-word_two : (n v : ℕ) → v < 65536 → crc_word (suc (suc n)) v ≡ crc_byte (crc_byte 0 (v / 256)) (v % 256)
crc-word_two n v h =
    let z : v / 256 / 256 ≡ 0 = omega arith in
    let m : v / 256 % 256 ≡ v / 256 = omega arith in
    crc-word_suc (suc n) v
    ∙ ap (λ (c : ℕ). crc_byte c (v % 256)) (crc-word_suc n (v / 256) ∙ ap₂ crc_byte (ap (crc_word n) z ∙ linear_zero (crc-word_linear n)) m)
