-- A frame that is read lies within the bytes that were given, and its parts within it.
-- Assumes nothing.
use Rattle.std.proofs.Common.{◌≡◌, ℕ, ◌+◌, ◌-◌, ◌<◌, ◌≤◌, Bool, true, false, List, length, take, arith, length-take-le, ltb-false}
use Rattle.laws.specs.Answer.{Answer.given}
use Rattle.laws.proofs.Answers.{Holds, holds_refuse, holds_choose, holds_then, holds_given, holds_mono}
use Rattle.packet_head.specs.Header.{Control}
use Rattle.packet_head.specs.Block.{has_mac}
use Rattle.packet_head.specs.Trailer.{Tail, mac_len_of, trailer_len}
use Rattle.packet_parse.specs.Frame.{Fields, BlockAt, BlockAt.no_block, BlockAt.block_at, MacAt, MacAt.no_mac, MacAt.mac_from, mac_at_of, fields_of, rest_of, frame_of, parse_of}

-- the block's data lies between the block's first two bytes and the code, which stands before the data
abbrev pub BlockInside : BlockAt → ℕ → Type 0
BlockInside no_block at = at ≡ 6
BlockInside (block_at ty start len) at = (start ≡ 7) × (start + len + 1 ≡ at)

-- the MAC follows the data and ends before the trailer
abbrev pub MacInside : MacAt → ℕ → ℕ → Type 0
MacInside no_mac end len = end < len
MacInside (mac_from at) end len = (at ≡ end) × (at + 4 < len)

-- F lies within n bytes: LEN from 7 to n, and each part inside the frame, one after the other
pub record Inside (n : ℕ) (F : Fields) : Type 0 where
  pub least : 7 ≤ F.len
  pub most : F.len ≤ n
  pub block : BlockInside F.block F.data_start
  pub «data» : F.data_start + F.data_len < F.len
  pub mac : MacInside F.mac (F.data_start + F.data_len) F.len

one_more : (t : Bool) → 1 ≤ trailer_len t
one_more true = omega arith
one_more false = omega arith

mac_within : (mac : Bool) (n at t : ℕ) → 1 ≤ t → at + 1 + mac_len_of mac + t ≤ n
    → MacInside (mac_at_of mac (n - (mac_len_of mac + t))) (at + 1 + (n - (at + 1 + mac_len_of mac + t))) n
mac_within true n at t h k = (omega arith, omega arith)
mac_within false n at t h k = omega arith

rest_inside : (f : List ℕ) (a : ℕ) (c : Control) (b : BlockAt) (at : ℕ) (mac : Bool) → 5 ≤ at → BlockInside b (at + 1) → Holds (Inside (length f)) (rest_of f a c b at mac)
unfolding rest_of
rest_inside f a c b at mac h5 hb =
    holds_refuse _ _ _ _ _ (λ _. holds_refuse _ _ _ _ _ (λ k. holds_then _ _ _ (λ t _. in-it t (ltb-false _ _ k))))
  where
    in-it : (t : Tail) → at + 1 + mac_len_of mac + trailer_len c.crc ≤ length f → Inside (length f) (fields_of f a c b at mac t)
    in-it t k =
        let one = one_more c.crc in
        record {
          least = omega arith;
          most = omega arith;
          block = hb;
          «data» = omega arith;
          mac = mac_within mac (length f) at (trailer_len c.crc) one k;
        }

frame_inside : (f : List ℕ) (a : ℕ) (c : Control) → Holds (Inside (length f)) (frame_of f a c)
unfolding frame_of
frame_inside f a c =
    holds_refuse _ _ _ _ _ (λ _. holds_choose _ _ _ _
    (λ _. holds_then _ _ _ (λ b _. rest_inside f a c (block_at b.type 7 b.data_len) (7 + b.data_len) (has_mac b.type) (omega arith) (omega arith, omega arith)))
    (λ _. rest_inside f a c no_block 5 false (omega arith) (omega arith)))

pub parse_inside : (s : List ℕ) → Holds (Inside (length s)) (parse_of s)
unfolding parse_of
parse_inside s =
    holds_then _ _ _ (λ h _. holds_refuse _ _ _ _ _ (λ k.
    let e : length (take h.len s) ≡ h.len = length-take-le h.len s (ltb-false _ _ k) in
    let l : h.len ≤ length s = ltb-false _ _ k in
    holds_mono (Inside (length (take h.len s))) (Inside (length s)) (frame_of (take h.len s) h.addr h.ctrl)
    (λ F i. record { least = i.least; most = omega (arith, i.most); block = i.block; «data» = i.«data»; mac = i.mac })
    (frame_inside (take h.len s) h.addr h.ctrl)))

-- every accepted frame
pub accepted_inside : (s : List ℕ) (F : Fields) → parse_of s ≡ given F → Inside (length s) F
accepted_inside s F e = holds_given (Inside (length s)) (parse_of s) F (parse_inside s) e
