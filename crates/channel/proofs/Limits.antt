-- What "within limits" comes to: 65,521 bytes of payload plain and 65,519 encrypted, and not one more.
-- Assumes nothing.
use mathlib.Core.Bool.{true, false}
use mathlib.Core.List.{List}
use Prim.Native.Nat.{ℕ, ◌+◌, ◌≤◌}
use native.Mathlib.Omega.{arith}
use lib.ListN.{length}
use Rattle.secure_cipher.proofs.PadLaws.{length-pad_data}
use Rattle.secure_seal.specs.Seal.{data_len_for}

pub plain_within : (x : List ℕ) → length x ≤ 65521 → 14 + data_len_for false x ≤ 65535
unfolding data_len_for
plain_within x h = omega arith

pub plain_most : (x : List ℕ) → 14 + data_len_for false x ≤ 65535 → length x ≤ 65521
unfolding data_len_for
plain_most x h = omega arith

pub encrypted_within : (x : List ℕ) → length x ≤ 65519 → 14 + data_len_for true x ≤ 65535
unfolding data_len_for
encrypted_within x h = omega (arith, length-pad_data x)

pub encrypted_most : (x : List ℕ) → 14 + data_len_for true x ≤ 65535 → length x ≤ 65519
unfolding data_len_for
encrypted_most x h = omega (arith, length-pad_data x)
