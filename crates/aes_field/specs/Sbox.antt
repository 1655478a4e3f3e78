-- FIPS 197, 5.1.1 and 5.3.2: the rule of the S-box and that of its inverse.
-- Assumes nothing.
use Rattle.std.specs.Prelude.{List, ℕ, ◌+◌, ◌-◌, ◌*◌, ◌/◌, ◌%◌, ◌^◌}
use Rattle.laws.specs.Table.{table}
use Rattle.aes_field.specs.Field.{◌⊕◌, inverse}

-- a byte turned k bits to the left: its bit i becomes bit i + k, modulo 8
unfoldable pub rotl : ℕ → ℕ → ℕ
rotl k b = b * 2 ^ k % 256 + b / 2 ^ (8 - k)

-- 5.1.1: bit i of the result is the sum of the bits i, i + 4, i + 5, i + 6 and i + 7, modulo 8, and bit i of 63
unfoldable pub affine : ℕ → ℕ
affine b = b ⊕ rotl 4 b ⊕ rotl 3 b ⊕ rotl 2 b ⊕ rotl 1 b ⊕ 0x63

-- 5.1.1: the inverse, and then the affine map
unfoldable pub sbox : ℕ → ℕ
sbox a = affine (inverse a)

-- 5.3.2: the inverse of the affine map: the bits i + 2, i + 5 and i + 7, and bit i of 05
unfoldable pub inv_affine : ℕ → ℕ
inv_affine b = rotl 6 b ⊕ rotl 3 b ⊕ rotl 1 b ⊕ 0x05

-- 5.3.2: the affine map undone, and then the inverse
unfoldable pub inv_sbox : ℕ → ℕ
inv_sbox b = inverse (inv_affine b)

-- Table 4, SBOX, and table 6, INVSBOX: the byte at place a is the one that a becomes
unfoldable pub SBOX : List ℕ
SBOX = table sbox

unfoldable pub INVSBOX : List ℕ
INVSBOX = table inv_sbox
