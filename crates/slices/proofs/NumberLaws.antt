-- Numbers in bytes: what was written is read, and what was read is written again, for every width.
-- Assumes nothing.
use mathlib.Core.List.{List, [], ◌∷◌}
use mathlib.Core.Path.{◌≡◌, refl, ap, ap₂, ◌∙◌}
use Prim.Native.Nat.{ℕ, zero, suc, ◌+◌, ◌*◌, ◌/◌, ◌%◌, ◌^◌, ◌<◌}
use native.Mathlib.Nat.{pow-zero, pow-suc}
use native.Mathlib.Omega.{arith}
use lib.ListN.{length}
use Rattle.laws.specs.Bytes.{Bytes}
use Rattle.laws.proofs.ByteLists.{bytes_nil, bytes_cons}
use Rattle.slices.specs.Number.{low_first, low_number}

pub low-length : (w x : ℕ) → length (low_first w x) ≡ w
low-length zero x = refl
low-length (suc w) x = ap suc (low-length w (x / 256))

pub low-bytes : (w x : ℕ) → Bytes (low_first w x)
low-bytes zero x = bytes_nil
low-bytes (suc w) x = bytes_cons (x % 256) (low_first w (x / 256)) (omega arith) (low-bytes w (x / 256))

-- a number that fits the width is read as it was written
pub read-written : (w x : ℕ) → x < 256 ^ w → low_number (low_first w x) ≡ x
read-written zero x h = omega (arith, pow-zero 256)
read-written (suc w) x h =
    let e = pow-suc 256 w in
    let i = read-written w (x / 256) (omega arith) in
    omega arith

-- bytes that were read are written as they stood
pub written_read : (s : List ℕ) → Bytes s → low_first (length s) (low_number s) ≡ s
written_read [] h = refl
written_read (b ∷ s) h =
    let n = low_number s in
    let low = h 0 in
    let q : (b + 256 * n) / 256 ≡ n = omega arith in
    let r : (b + 256 * n) % 256 ≡ b = omega arith in
    ap₂ (λ (x : ℕ) (t : List ℕ). x ∷ t) r (ap (low_first (length s)) q ∙ written_read s (λ i. h (suc i)))
