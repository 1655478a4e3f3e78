-- A number summed up byte by byte, the first one highest: what one byte more makes of it, and that eight bytes fit 64 bits.
-- Assumes nothing.
use mathlib.Core.Path.{◌≡◌, ap, ◌∙◌, subst}
use mathlib.Core.List.{List}
use Prim.Native.Nat.{ℕ, ◌+◌, ◌*◌, ◌^◌, ◌<◌}
use native.Mathlib.Omega.{arith}
use native.Mathlib.Nat.{lt_of_lt_of_le, pow-le-pow_right, zero-lt-suc, pow-suc}
use native.Mathlib.Numerals.{add-one}
use lib.ListN.{length, drop, get_or}
use Rattle.body_message.specs.Lookup.{all_bits, binary}
use Rattle.body_message.proofs.BadgeLaws.{bits_more}

-- seven bytes leave room for one more
pub room : (a i : ℕ) → a < 256 ^ i → i < 8 → a < 72057594037927936
room a i h k = lt_of_lt_of_le h (pow-le-pow_right {n = 256} (zero-lt-suc 255) {i = i} {j = 7} (omega arith))

pub below_more : (a i b : ℕ) → a < 256 ^ i → b < 256 → a * 256 + b < 256 ^ (i + 1)
below_more a i b h k = rw (add-one, pow-suc) (omega arith)

pub summed_more : (s : List ℕ) (a i b : ℕ) → i < length s → b ≡ get_or s i 0 → b < 256 → binary (a * 256 + b) (all_bits (drop (i + 1) s)) ≡ binary a (all_bits (drop i s))
summed_more s a i b h e k =
    ap (λ (x : ℕ). binary (a * 256 + x) (all_bits (drop (i + 1) s))) e ∙ bits_more a i s h (subst (λ (x : ℕ). x < 256) e k)
