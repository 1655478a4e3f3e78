-- The worked cases of unpadding (docs/RULES.md, 5.5), as one claim.
-- Assumes nothing.
use mathlib.Core.Path.{◌≡◌, refl}
use mathlib.Core.List.{List, [], ◌∷◌, map}
use Prim.Native.Nat.{ℕ}
use lib.ListN.{take}
use Rattle.laws.specs.Answer.{Answer, Answer.given, Answer.refused, and_then}
use Rattle.secure_cipher.specs.Pad.{unpad_from, unpad}

-- the bytes that unpadding leaves
abbrev pub unpadded : List ℕ → Answer (List ℕ)
unpadded l = and_then (unpad l) (λ n. given (take n l))

abbrev pub cases : List (List ℕ)
cases =
    (0x80 ∷ [])
    ∷ (0x41 ∷ 0x80 ∷ 0x00 ∷ [])
    ∷ (0x00 ∷ 0x00 ∷ [])
    ∷ (0x80 ∷ 0x80 ∷ 0x00 ∷ [])
    ∷ []

pub unpadding : map unpadded cases ≡ given [] ∷ given (0x41 ∷ []) ∷ refused 14 [] ∷ given (0x80 ∷ []) ∷ []
unfolding and_then unpad unpad_from
unpadding = refl
