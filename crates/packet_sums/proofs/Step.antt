-- The steps that the code takes, with no table, are the definition's: both sides are linear, and equal at each power of two. The
-- divisors and factors of the code's shifts are parameters here, and a test decides whether they are right.
-- Assumes nothing.
use Rattle.std.proofs.Common.{◌≡◌, ℕ, suc, ◌+◌, ◌-◌, ◌*◌, ◌/◌, ◌%◌, ◌^◌, ◌<◌, ◌≤◌, List, ◌∷◌, length, sym, ap, ◌∙◌, ap₂, zero-add, arith, lit<}
use lib.Bits.{bit_xor, xor_shr, xor_mod}
use Rattle.laws.specs.Bytes.{Bytes, zeros}
use Rattle.laws.proofs.ByteLists.{bytes-zeros}
use Rattle.packet_sums.specs.Crc.{crc_start, reduce, crc_bit, crc_bits, crc_byte, crc_from, crc_of}
use Rattle.packet_sums.specs.Word.{word_from, bytes_of, crc_word}
use Rattle.packet_sums.proofs.Linear.{Linear, linear_same, linear_after, linear_xor, linear_shr, linear_shl, linear_mod, Power, linear_div, linear_times, Tried, agree_tried}
use Rattle.packet_sums.proofs.CrcLaws.{byte_linear, crc_cons, crc_split}
use Rattle.packet_sums.proofs.WordLaws.{crc-word_zero, crc-word_linear, crc-word-from, crc-word_two}

-- a number and what it is after a shift down, one or several, together
abbrev shifted_once : ℕ → ℕ → ℕ
shifted_once p z = bit_xor z (z / p)

abbrev shifted_twice : ℕ → ℕ → ℕ → ℕ
shifted_twice p q z = bit_xor (shifted_once p z) (z / q)

abbrev shifted_thrice : ℕ → ℕ → ℕ → ℕ → ℕ
shifted_thrice p q r z = bit_xor (shifted_twice p q z) (z / r)

once_linear : (p : ℕ) → Power p → Linear (shifted_once p)
once_linear p hp = linear_xor linear_same (linear_div linear_same p hp)

twice_linear : (p q : ℕ) → Power p → Power q → Linear (shifted_twice p q)
twice_linear p q hp hq = linear_xor (once_linear p hp) (linear_div linear_same q hq)

thrice_linear : (p q r : ℕ) → Power p → Power q → Power r → Linear (shifted_thrice p q r)
thrice_linear p q r hp hq hr = linear_xor (twice_linear p q hp hq) (linear_div linear_same r hr)

-- ---- one byte: v is the value so far with the byte below it

crc_byte_linear : Linear (λ v. crc_byte (v / 256) (v % 256))
crc_byte_linear = record {
  apart = λ x y. ap₂ crc_byte (xor_shr x y 8) (xor_mod x y 8) ∙ byte_linear (x / 256) (y / 256) (x % 256) (y % 256);
}

module _ (p m n : ℕ) where
  abbrev pub shiftByte : ℕ → ℕ → ℕ
  shiftByte c b =
      let q = shifted_once p (bit_xor (c / 256) b) in
      bit_xor (bit_xor (bit_xor (c * 256 % 65536) (q * m % 65536)) (q * n % 65536)) q

  abbrev pub shifted : ℕ → ℕ
  shifted v = shiftByte (v / 256) (v % 256)

  shift-byte-linear : Power p × Power m × Power n → Linear shifted
  shift-byte-linear h =
      let top = linear_shr linear_same 8 in
      let q = linear_after (once_linear p h.0) (linear_xor (linear_shr top 8) (linear_mod linear_same 8)) in
      linear_xor
      (linear_xor (linear_xor (linear_mod (linear_shl top 8) 16) (linear_mod (linear_times q m h.1) 16)) (linear_mod (linear_times q n h.2) 16)) q

  pub shift-byte : Power p × Power m × Power n → Tried shifted (λ v. crc_byte (v / 256) (v % 256)) 24
      → (c b : ℕ) → c < 65536 → b < 256 → shiftByte c b ≡ crc_byte c b
  shift-byte h t c b hc hb =
      let v = c * 256 + b in
      let high : v / 256 ≡ c = omega arith in
      let low : v % 256 ≡ b = omega arith in
      sym (ap₂ shiftByte high low) ∙ agree_tried (shift-byte-linear h) crc_byte_linear 24 t v (omega arith) ∙ ap₂ crc_byte high low

-- ---- eight bytes

abbrev spread : ℕ → ℕ → ℕ → ℕ
spread m n q = bit_xor (bit_xor (q * m % 2 ^ 64) (q * n % 2 ^ 64)) q % 65536

spread_linear : (m n : ℕ) → Power m → Power n → Linear (spread m n)
spread_linear m n hm hn =
    let up = linear_mod (linear_times linear_same m hm) 64 in
    linear_mod (linear_xor (linear_xor up (linear_mod (linear_times linear_same n hn) 64)) linear_same) 16

module _ (a b c d e f g h i m n : ℕ) where
  abbrev pub shiftWord : ℕ → ℕ
  shiftWord z = spread m n (shifted_once i (shifted_twice g h (shifted_thrice d e f (shifted_thrice a b c z))))

  abbrev pub Powers : Type 0
  Powers = (Power a × Power b × Power c) × (Power d × Power e × Power f) × (Power g × Power h) × Power i × (Power m × Power n)

  shift-word-linear : Powers → Linear shiftWord
  shift-word-linear p =
      linear_after (spread_linear m n p.4.0 p.4.1)
      (linear_after (once_linear i p.3)
      (linear_after (twice_linear g h p.2.0 p.2.1)
      (linear_after (thrice_linear d e f p.1.0 p.1.1 p.1.2) (thrice_linear a b c p.0.0 p.0.1 p.0.2))))

  pub shift_word : Powers → Tried shiftWord (crc_word 8) 64 → (z : ℕ) → z < 2 ^ 64 → shiftWord z ≡ crc_word 8 z
  shift_word p t = agree_tried (shift-word-linear p) (crc-word_linear 8) 64 t

-- the value so far, as the two bytes at the top of a number
start_linear : Linear (λ c. crc_byte (crc_byte c 0) 0)
start_linear = record { apart = λ x y. ap (λ (c : ℕ). crc_byte c 0) (byte_linear x y 0 0) ∙ byte_linear (crc_byte x 0) (crc_byte y 0) 0 0 }

on_top : (c : ℕ) → c < 65536 → crc_word 2 c ≡ crc_byte (crc_byte c 0) 0
unfolding crc_word bytes_of crc_from crc_byte crc_bits crc_bit reduce
on_top = agree_tried (crc-word_linear 2) start_linear 16 tt

zeros_behind : (c : ℕ) → word_from c (zeros 6) ≡ c * 2 ^ 48
unfolding word_from
zeros_behind c = omega arith

value_moved_up : (c : ℕ) → c < 65536 → crc_word 8 (c * 2 ^ 48) ≡ crc_from c (zeros 8)
value_moved_up c h =
    let z : List ℕ = zeros 6 in
    ap (crc_word 8) (sym (zeros_behind c)) ∙ crc-word-from z 2 c (bytes-zeros 6) ∙ ap (λ (x : ℕ). crc_from x z) (on_top c h)
    ∙ sym (crc_cons c 0 (0 ∷ z) ∙ crc_cons (crc_byte c 0) 0 z)

pub word_step : (c : ℕ) (s : List ℕ) → c < 65536 → Bytes s → length s ≡ 8 → crc_word 8 (bit_xor (c * 2 ^ 48 % 2 ^ 64) (word_from 0 s)) ≡ crc_from c s
word_step c s h hb e =
    let small : c * 2 ^ 48 % 2 ^ 64 ≡ c * 2 ^ 48 = omega arith in
    ap (λ (x : ℕ). crc_word 8 (bit_xor x (word_from 0 s))) small ∙ (crc-word_linear 8).apart (c * 2 ^ 48) (word_from 0 s)
    ∙ ap₂ bit_xor (value_moved_up c h ∙ ap (λ (n : ℕ). crc_from c (zeros n)) (sym e))
    (ap (λ (n : ℕ). crc_word n (word_from 0 s)) (sym e ∙ sym (zero-add (length s))) ∙ crc-word-from s 0 0 hb ∙ ap (λ (x : ℕ). crc_from x s) (crc-word_zero 0))
    ∙ sym (crc_split c s)

-- the start is the CRC of FFFF from 0
from_ffff : (n : ℕ) → crc_word (suc (suc n)) 0xFFFF ≡ crc_start
unfolding crc_byte crc_bits crc_bit reduce
from_ffff n = crc-word_two n 0xFFFF (lit< tt)

pub word-start : (s : List ℕ) → Bytes s → length s ≤ 6 → crc_word 8 (word_from 0xFFFF s) ≡ crc_of s
word-start s hb h =
    let n = 6 - length s in
    let e : 8 ≡ suc (suc n) + length s = omega arith in
    ap (λ (m : ℕ). crc_word m (word_from 0xFFFF s)) e ∙ crc-word-from s (suc (suc n)) 0xFFFF hb ∙ ap (λ (x : ℕ). crc_from x s) (from_ffff n)
