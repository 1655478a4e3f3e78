-- A step of CIPHER or of INVCIPHER on the whole state, made on its two halves.
-- Assumes nothing.
use mathlib.Core.Path.{◌≡◌, refl, ap₂}
use mathlib.Core.List.{List, ◌++◌}
use Prim.Native.Nat.{ℕ}
use lib.Bits.{bit_xor}
use Rattle.laws.specs.Bytes.{xorl}
use Rattle.laws.specs.Table.{block_of}
use Rattle.aes_field.specs.Field.{◌⊕◌}
use Rattle.aes_field.specs.Mix.{mix_byte, inv_mix_byte}
use Rattle.aes_field.specs.Packed.{unpacked, columns}
use Rattle.aes_field.proofs.Packing.{unpacked_xor}
use Rattle.aes.specs.State.{sub_bytes, shift_rows, inv_shift_rows, below, mix_columns, inv_mix_columns}
use Rattle.aes.specs.Halves.{rows_shifted, added}

module _ (x y : ℕ) where
  abbrev l : List ℕ
  l = unpacked 8 x

  abbrev m : List ℕ
  m = unpacked 8 y

  pub shift_halves : (t : List ℕ) → rows_shifted t l m l m ++ rows_shifted t m l m l ≡ shift_rows (sub_bytes t (l ++ m))
  unfolding rows_shifted unpacked block_of sub_bytes shift_rows
  shift_halves t = refl

  pub unshift_halves : (t : List ℕ) → rows_shifted t l m m l ++ rows_shifted t m l l m ≡ sub_bytes t (inv_shift_rows (l ++ m))
  unfolding rows_shifted unpacked block_of sub_bytes inv_shift_rows
  unshift_halves t = refl

  pub mix_halves : columns mix_byte l ++ columns mix_byte m ≡ mix_columns (l ++ m)
  unfolding columns unpacked block_of below mix_columns
  mix_halves = refl

  pub unmix_halves : columns inv_mix_byte l ++ columns inv_mix_byte m ≡ inv_mix_columns (l ++ m)
  unfolding columns unpacked block_of below inv_mix_columns
  unmix_halves = refl

  pub add_halves : (a b : ℕ) → unpacked 8 (bit_xor x a) ++ unpacked 8 (bit_xor y b) ≡ added (l ++ m) (unpacked 8 a ++ unpacked 8 b)
  unfolding xorl unpacked block_of added ◌⊕◌
  add_halves a b = ap₂ ◌++◌ (unpacked_xor 8 x a) (unpacked_xor 8 y b)
