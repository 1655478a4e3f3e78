-- The laws of the sum of two bytes.
-- Assumes nothing.
use mathlib.Core.Path.{◌≡◌, refl}
use Prim.Native.Nat.{ℕ, ◌<◌}
use lib.Bits.{xor_assoc, xor_comm, xor_self, xor_zero_r, xor_lt}
use Rattle.laws.proofs.Xor.{xor_left_comm, xor_swap, xor_cancel}
use Rattle.aes_field.specs.Field.{◌⊕◌}

pub ⊕_assoc : (a b c : ℕ) → (a ⊕ b) ⊕ c ≡ a ⊕ (b ⊕ c)
unfolding ◌⊕◌
⊕_assoc a b c = xor_assoc a b c

pub ⊕_comm : (a b : ℕ) → a ⊕ b ≡ b ⊕ a
unfolding ◌⊕◌
⊕_comm a b = xor_comm a b

pub ⊕_self : (a : ℕ) → a ⊕ a ≡ 0
unfolding ◌⊕◌
⊕_self a = xor_self a

pub zero_⊕ : (a : ℕ) → 0 ⊕ a ≡ a
unfolding ◌⊕◌
zero_⊕ a = refl

pub ⊕_zero : (a : ℕ) → a ⊕ 0 ≡ a
unfolding ◌⊕◌
⊕_zero a = xor_zero_r a

pub ⊕_lt : {a b : ℕ} → a < 256 → b < 256 → a ⊕ b < 256
unfolding ◌⊕◌
⊕_lt {a} {b} ha hb = xor_lt 8 a b ha hb

pub ⊕_left_comm : (a b c : ℕ) → a ⊕ (b ⊕ c) ≡ b ⊕ (a ⊕ c)
unfolding ◌⊕◌
⊕_left_comm a b c = xor_left_comm a b c

pub ⊕_swap : (a b c d : ℕ) → (a ⊕ b) ⊕ (c ⊕ d) ≡ (a ⊕ c) ⊕ (b ⊕ d)
unfolding ◌⊕◌
⊕_swap a b c d = xor_swap a b c d

pub ⊕_cancel : (a b : ℕ) → a ⊕ b ⊕ b ≡ a
unfolding ◌⊕◌
⊕_cancel a b = xor_cancel a b
