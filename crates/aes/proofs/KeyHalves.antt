-- A round key as two numbers, two of its words in each: the halves that the code makes are those of the next round key.
-- Assumes nothing.
use mathlib.Core.Path.{◌≡◌, ap, ◌∙◌}
use mathlib.Core.List.{List, [], ◌∷◌, ◌++◌}
use Prim.Native.Nat.{ℕ, ◌*◌, ◌/◌, ◌%◌, ◌^◌, ◌<◌}
use native.Mathlib.Omega.{arith}
use lib.Bits.{bit_xor, xor_zero_r}
use lib.ListN.{get_or}
use Rattle.laws.specs.Bytes.{xorl}
use Rattle.laws.specs.Table.{block_of}
use Rattle.aes_field.specs.Field.{◌⊕◌}
use Rattle.aes_field.specs.Packed.{packed, unpacked}
use Rattle.aes_field.proofs.Packing.{unpacked_xor, placed, empty, drop_bytes, drop-bytes_is, byte}
use Rattle.aes.specs.RoundKey.{key_byte, next_key}
use Rattle.aes.specs.Halves.{key_turn, carry}

-- the first column of l in the second's place
abbrev up : List ℕ → List ℕ
up l = 0 ∷ 0 ∷ 0 ∷ 0 ∷ get_or l 0 0 ∷ get_or l 1 0 ∷ get_or l 2 0 ∷ get_or l 3 0 ∷ []

-- the second column of l in the first's place
abbrev down : List ℕ → List ℕ
down l = get_or l 4 0 ∷ get_or l 5 0 ∷ get_or l 6 0 ∷ get_or l 7 0 ∷ 0 ∷ 0 ∷ 0 ∷ 0 ∷ []

shifted_up : (z : ℕ) → unpacked 8 (z * 2 ^ 32 % 2 ^ 64) ≡ up (unpacked 8 z)
unfolding packed unpacked
shifted_up z =
    placed 0 0 0 0 (z % 256) (z / 256 % 256) (z / 256 / 256 % 256) (z / 256 / 256 / 256 % 256)
    empty empty empty empty (byte z) (byte (z / 256)) (byte (z / 256 / 256)) (byte (z / 256 / 256 / 256)) (z * 2 ^ 32 % 2 ^ 64) (omega arith)

shifted_down : (z : ℕ) → z < 2 ^ 64 → unpacked 8 (z / 2 ^ 32) ≡ down (unpacked 8 z)
unfolding unpacked
shifted_down z h =
    let none : drop_bytes z 8 ≡ 0 = omega arith in
    ap (unpacked 8) (drop-bytes_is z 4)
    ∙ ap (λ (n : ℕ). drop_bytes z 4 % 256 ∷ drop_bytes z 5 % 256 ∷ drop_bytes z 6 % 256 ∷ drop_bytes z 7 % 256 ∷ unpacked 4 n) none

-- a half's first column added to its second
pub carry-packed : (x v : ℕ) → unpacked 8 (bit_xor (bit_xor x v) (bit_xor x v * 2 ^ 32 % 2 ^ 64)) ≡ carry (unpacked 8 x) (unpacked 8 v)
unfolding unpacked xorl carry ◌⊕◌
carry-packed x v =
    let z : ℕ = bit_xor x v in
    unpacked_xor 8 z (z * 2 ^ 32 % 2 ^ 64)
    ∙ ap (xorl (unpacked 8 z)) (shifted_up z)
    ∙ ap (λ (l : List ℕ). xorl l (up l)) (unpacked_xor 8 x v)
    ∙ simp xor_zero_r

-- both halves of the round key after that of x and y
next_halves : (t : List ℕ) (c x y : ℕ)
    → (let a = carry (unpacked 8 x) (key_turn t c (unpacked 8 y)) in a ++ carry (unpacked 8 y) (down a)) ≡ next_key t c (unpacked 8 x ++ unpacked 8 y)
unfolding unpacked key_turn carry block_of key_byte next_key ◌⊕◌
next_halves t c x y = simp xor_zero_r

pub next_made : (t : List ℕ) (c x y v a b : ℕ) → a < 2 ^ 64
    → unpacked 8 v ≡ key_turn t c (unpacked 8 y) → unpacked 8 a ≡ carry (unpacked 8 x) (unpacked 8 v)
    → unpacked 8 b ≡ carry (unpacked 8 y) (unpacked 8 (a / 2 ^ 32))
    → unpacked 8 a ++ unpacked 8 b ≡ next_key t c (unpacked 8 x ++ unpacked 8 y)
next_made t c x y v a b h ev ea eb =
    let one : unpacked 8 a ≡ carry (unpacked 8 x) (key_turn t c (unpacked 8 y)) = ea ∙ ap (carry (unpacked 8 x)) ev in
    ap (λ (l : List ℕ). unpacked 8 a ++ l) (eb ∙ ap (carry (unpacked 8 y)) (shifted_down a h))
    ∙ ap (λ (l : List ℕ). l ++ carry (unpacked 8 y) (down l)) one
    ∙ next_halves t c x y
