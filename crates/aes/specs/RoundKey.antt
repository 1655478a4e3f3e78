-- Four words of the key schedule at a time, as the code makes them; proofs/Expansion shows that they are those of KEYEXPANSION.
-- Assumes nothing.
use mathlib.Core.List.{List}
use Prim.Native.Nat.{ℕ, zero, suc, ◌+◌, ◌*◌, ◌/◌, ◌%◌}
use lib.ListN.{get_or}
use Rattle.laws.specs.Table.{block_of}
use Rattle.aes_field.specs.Field.{◌⊕◌}

-- c at the first byte of a word, 0 at the others
abbrev pub first_only : ℕ → ℕ → ℕ
first_only c zero = c
first_only c (suc i) = 0

-- byte r of word v of the round key after k, where c is the round's constant
unfoldable pub key_byte : List ℕ → ℕ → List ℕ → ℕ → ℕ → ℕ
key_byte t c k zero r = get_or k r 0 ⊕ (get_or t (get_or k (12 + (r + 1) % 4) 0) 0 ⊕ first_only c r)
key_byte t c k (suc v) r = get_or k (4 * suc v + r) 0 ⊕ key_byte t c k v r

-- the round key after k
unfoldable pub next_key : List ℕ → ℕ → List ℕ → List ℕ
next_key t c k = block_of (λ i. key_byte t c k (i / 4) (i % 4))
