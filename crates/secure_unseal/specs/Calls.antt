-- How often unsealing calls the cipher: from what the frame reads as and how unsealing came out (docs/RULES.md, 9.2 and 9.3).
-- Assumes nothing.
use Rattle.std.specs.Prelude.{ℕ, ◌+◌, ◌-◌, ◌/◌, ◌%◌, cond, ◌||◌, eqb}
use Rattle.laws.specs.Answer.{Answer, Answer.given, Answer.refused}
use Rattle.packet_head.specs.Numbers.{MAC_LEN}
use Rattle.packet_head.specs.Block.{is_encrypted}
use Rattle.packet_head.specs.Trailer.{trailer_len}
use Rattle.packet_parse.specs.Frame.{Fields, type_in}
use Rattle.secure_cipher.specs.Mac.{mac_calls}
use Rattle.secure_unseal.specs.Unseal.{Place}

-- 0 for a success, else the refusal's number
abbrev pub unseal_number : Answer Place → ℕ
unseal_number (given x) = 0
unseal_number (refused n vs) = n

-- what the MAC is over, the body: LEN, less the MAC and the trailer
abbrev pub body_len : Fields → ℕ
body_len p = p.len - MAC_LEN - trailer_len p.ctrl.crc

-- for the data: one for each block of types 17 and 18; none where it has no whole blocks
unfoldable pub data_calls : Fields → ℕ
data_calls p = cond (is_encrypted (type_in p.block)) (cond (eqb (p.data_len % 16) 0) (p.data_len / 16) 0) 0

-- 14: the data's. A success, and 15: the data's and the MAC's. Any other refusal: none
unfoldable pub unseal_calls_of : ℕ → Answer Fields → ℕ
unseal_calls_of n (given p) = cond (eqb n 14) (data_calls p) (cond (eqb n 0 || eqb n 15) (data_calls p + mac_calls (body_len p)) 0)
unseal_calls_of n (refused m vs) = 0
