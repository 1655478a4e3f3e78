-- The two paddings, and the one that is taken off again (docs/RULES.md, 5).
-- Assumes nothing.
use Rattle.std.specs.Prelude.{ℕ, zero, suc, ◌-◌, ◌%◌, cond, List, [], ◌∷◌, ◌++◌, ltb, eqb, length, get_or}
use Rattle.laws.specs.Answer.{Answer, Answer.given, Answer.refused, refuse_if}
use Rattle.laws.specs.Bytes.{zeros}

-- 80, and zeros up to a multiple of 16, after n bytes
unfoldable pub tail80 : ℕ → List ℕ
tail80 n = 0x80 ∷ zeros (15 - n % 16)

-- the MAC's padding: nothing where the length is a multiple of 16
unfoldable pub pad_mac : List ℕ → List ℕ
pad_mac l = cond (eqb (length l % 16) 0) l (l ++ tail80 (length l))

-- the data's padding: always
unfoldable pub pad_data : List ℕ → List ℕ
pad_data l = l ++ tail80 (length l)

-- of the first i bytes: zeros are passed over from the end, and the byte found must be 80; how much stands before it
unfoldable pub unpad_from : ℕ → List ℕ → Answer ℕ
unpad_from zero l = refused 14 []
unpad_from (suc i) l =
    let before = unpad_from i l in
    cond (eqb (get_or l i 0) 0) before (cond (eqb (get_or l i 0) 0x80) (given i) (refused 14 []))

unfoldable pub unpad : List ℕ → Answer ℕ
unpad l = unpad_from (length l) l

-- ---- the calls: padded bytes into a buffer of `have` bytes, 18 (need, have)

unfoldable pub fitting : List ℕ → ℕ → Answer (List ℕ)
fitting b have = refuse_if (ltb have (length b)) 18 (length b ∷ have ∷ []) (given b)
