-- Of a slice the machine holds where it begins and how many bytes it has. So two answers that begin at one place and have the same bytes are one
-- machine value.
-- Assumes nothing.
use mathlib.Core.Path.{◌≡◌, ap}
use mathlib.Core.List.{List, [], ◌∷◌}
use Prim.Native.Nat.{ℕ}
use lib.ListN.{length}
use denote.Ref.{Bor}
use denote.Slice.{slice_val, shr_slice_vals}
use Rattle.slices.specs.Stretch.{Stretch, stretch_of}

-- what an equation on an answer says of each
pub same_place : (r : Bor (List ℕ)) {x : Stretch} → stretch_of r ≡ x → r.ref_ptr ≡ x.0
same_place r e = ap (λ (y : Stretch). y.0) e

pub same_bytes : (r : Bor (List ℕ)) {x : Stretch} → stretch_of r ≡ x → r.now ≡ x.1
same_bytes r e = ap (λ (y : Stretch). y.1) e

pub stretch_settled : (r s : Bor (List ℕ)) → stretch_of r ≡ stretch_of s → (shr_slice_vals r ≡ shr_slice_vals s) × (r.now ≡ s.now)
stretch_settled r s e = (ap (λ (x : Stretch). slice_val x.0 (length x.1) ∷ []) e, same_bytes r e)
