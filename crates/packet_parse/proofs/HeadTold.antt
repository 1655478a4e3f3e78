-- Of an accepted frame: what its first five bytes say, and that a block stands in it exactly if CTRL has 08 (docs/RULES.md, 3.6).
-- Assumes nothing.
use Rattle.std.proofs.Common.{◌≡◌, ℕ, ◌+◌, ◌/◌, ◌%◌, ◌<◌, Bool, true, false, eqb, List, [], ◌∷◌, map, length, get_or, take, sym, refl, ap, ◌∙◌, arith, length-take-le, ltb-false, eqb-true, leb-false}
use borrow.Author.Tests.{not-false}
use Rattle.laws.specs.Answer.{Answer.given, Answer.refused, refuse_if, and_then}
use Rattle.laws.proofs.Answers.{Holds, holds_refuse, holds_choose, holds_then, holds_given, holds_mono}
use Rattle.packet_head.specs.Header.{Control, control_of}
use Rattle.packet_head.specs.Block.{has_mac}
use Rattle.packet_parse.specs.Driver.{ctrl_said, HeadAnswered}
use Rattle.packet_parse.specs.Frame.{Head, Fields, BlockAt, BlockAt.no_block, BlockAt.block_at, len_of, head_of, rest_of, frame_of, parse_of}

-- whether a block stands in the frame
abbrev pub standing : BlockAt → Bool
standing no_block = false
standing (block_at ty start len) = true

-- whether CTRL, the fifth byte, has 08
abbrev pub has08 : List ℕ → Bool
has08 s = eqb (get_or s 4 0 / 8 % 2) 1

-- what the first five bytes of s say of the frame F
pub record Told (s : List ℕ) (F : Fields) : Type 0 where
  pub som : get_or s 0 0 ≡ 0x53
  pub addr : F.addr ≡ get_or s 1 0
  pub len : F.len ≡ len_of s
  pub low : get_or s 4 0 < 0x10
  pub ctrl : F.ctrl ≡ ctrl_said (get_or s 4 0)
  pub block : standing F.block ≡ has08 s

-- ---- the head

-- worked: the first byte and CTRL both wrong; four bytes; LEN 0102, which is more than is there; LEN 3
abbrev heads : List (List ℕ)
heads =
    (0x54 ∷ 0x05 ∷ 0x08 ∷ 0x00 ∷ 0x14 ∷ [])
    ∷ (0x53 ∷ 0x05 ∷ 0x08 ∷ 0x00 ∷ [])
    ∷ (0x53 ∷ 0x05 ∷ 0x02 ∷ 0x01 ∷ 0x04 ∷ [])
    ∷ (0x53 ∷ 0x05 ∷ 0x03 ∷ 0x00 ∷ 0x04 ∷ [])
    ∷ []

pub worked_heads : map head_of heads
    ≡ refused 2 (0x54 ∷ [])
    ∷ refused 1 (4 ∷ 5 ∷ [])
    ∷ given (record { addr = 0x05; len = 258; ctrl = record { sqn = 0; crc = true; block = false } })
    ∷ given (record { addr = 0x05; len = 3; ctrl = record { sqn = 0; crc = true; block = false } })
    ∷ []
unfolding refuse_if and_then head_of control_of
worked_heads = refl

control-told : (b : ℕ) → Holds (λ c. (b < 0x10) × (c ≡ ctrl_said b)) (control_of b)
unfolding control_of
control-told b =
    holds_refuse _ _ _ _ _ (λ h.
    let k : b < 0x10 = leb-false 16 b h in
    let e : b / 8 ≡ b / 8 % 2 = omega arith in
    (k, λ i. record { sqn = b % 4; crc = eqb (b / 4 % 2) 1; block = eqb (e i) 1 }))

head_read : (s : List ℕ) → Holds (HeadAnswered s) (head_of s)
unfolding head_of
head_read s =
    holds_refuse _ _ _ _ _ (λ k. holds_refuse _ _ _ _ _ (λ m. holds_then _ _ _ (λ c e.
    let g = holds_given _ (control_of (get_or s 4 0)) c (control-told (get_or s 4 0)) e in
    record { five = ltb-false _ _ k; som = eqb-true _ _ (not-false _ m); addr = refl; len = omega arith; low = g.0; ctrl = g.1 })))

-- An answer of `head` is what the first five bytes say.
pub head_answers : (s : List ℕ) (h : Head) → head_of s ≡ given h → HeadAnswered s h
head_answers s h e = holds_given (HeadAnswered s) (head_of s) h (head_read s) e

-- ---- the frame

-- F has what was handed to the tests of the frame f
pub record Kept (f : List ℕ) (a : ℕ) (c : Control) (F : Fields) : Type 0 where
  pub addr : F.addr ≡ a
  pub len : F.len ≡ length f
  pub ctrl : F.ctrl ≡ c
  pub block : standing F.block ≡ c.block

rest_kept : (f : List ℕ) (a : ℕ) (c : Control) (b : BlockAt) (at : ℕ) (mac : Bool) → standing b ≡ c.block → Holds (Kept f a c) (rest_of f a c b at mac)
unfolding rest_of
rest_kept f a c b at mac h = holds_refuse _ _ _ _ _ (λ _. holds_refuse _ _ _ _ _ (λ _. holds_then _ _ _ (λ t _. record { addr = refl; len = refl; ctrl = refl; block = h })))

frame_kept : (f : List ℕ) (a : ℕ) (c : Control) → Holds (Kept f a c) (frame_of f a c)
unfolding frame_of
frame_kept f a c =
    holds_refuse _ _ _ _ _ (λ _. holds_choose _ _ _ _
    (λ e. holds_then _ _ _ (λ b _. rest_kept f a c (block_at b.type 7 b.data_len) (7 + b.data_len) (has_mac b.type) (sym e)))
    (λ e. rest_kept f a c no_block 5 false (sym e)))

told : (s : List ℕ) → Holds (Told s) (parse_of s)
unfolding parse_of
told s =
    holds_then _ _ _ (λ h e. holds_refuse _ _ _ _ _ (λ l.
    let n : length (take h.len s) ≡ h.len = length-take-le h.len s (ltb-false _ _ l) in
    let g = head_answers s h e in
    let l : h.len ≡ len_of s = omega (arith, g.len) in
    holds_mono (Kept (take h.len s) h.addr h.ctrl) (Told s) (frame_of (take h.len s) h.addr h.ctrl)
    (λ F k. record {
      som = g.som;
      addr = k.addr ∙ g.addr;
      len = k.len ∙ n ∙ l;
      low = g.low;
      ctrl = k.ctrl ∙ g.ctrl;
      block = k.block ∙ ap (λ (c : Control). c.block) g.ctrl;
    })
    (frame_kept (take h.len s) h.addr h.ctrl)))

pub accepted-told : (s : List ℕ) (F : Fields) → parse_of s ≡ given F → Told s F
accepted-told s F e = holds_given (Told s) (parse_of s) F (told s) e

-- A block stands in an accepted frame exactly if CTRL has 08.
pub accepted-block : (s : List ℕ) (F : Fields) → parse_of s ≡ given F → standing F.block ≡ has08 s
accepted-block s F e = (accepted-told s F e).block
