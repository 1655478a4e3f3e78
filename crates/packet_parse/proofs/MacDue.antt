-- Of an accepted frame: its block's type is one of the eight, and it has a MAC exactly where that is 15 to 18 (docs/RULES.md, 3.6).
-- Assumes nothing.
use Rattle.std.proofs.Common.{◌≡◌, ℕ, ◌+◌, ◌≤◌, Bool, true, false, leb, List, get_or, take, drop, refl}
use Rattle.laws.specs.Answer.{Answer.given}
use Rattle.laws.proofs.Answers.{Holds, holds_refuse, holds_choose, holds_then, holds_given}
use Rattle.packet_head.specs.Header.{Control}
use Rattle.packet_head.specs.Block.{BlockRead, has_mac, scb_of}
use Rattle.packet_head.proofs.Types.{between_above, type_bounds}
use Rattle.packet_parse.specs.Frame.{Fields, BlockAt, BlockAt.no_block, BlockAt.block_at, MacAt, MacAt.no_mac, MacAt.mac_from, type_in, mac_at_of, rest_of, frame_of, parse_of}

abbrev pub there : MacAt → Bool
there no_mac = false
there (mac_from at) = true

-- the type of a block that stands there is one of the eight
abbrev pub TypeKnown : BlockAt → Type 0
TypeKnown no_block = Unit {0}
TypeKnown (block_at ty start len) = (0x11 ≤ ty) × (ty ≤ 0x18)

abbrev pub Due : Fields → Type 0
Due F = TypeKnown F.block × (there F.mac ≡ has_mac (type_in F.block))

there_at : (m : Bool) (at : ℕ) → there (mac_at_of m at) ≡ m
there_at true at = refl
there_at false at = refl

rest_due : (f : List ℕ) (a : ℕ) (c : Control) (b : BlockAt) (at : ℕ) → TypeKnown b → Holds Due (rest_of f a c b at (has_mac (type_in b)))
unfolding rest_of
rest_due f a c b at k = holds_refuse _ _ _ _ _ (λ _. holds_refuse _ _ _ _ _ (λ _. holds_then _ _ _ (λ t _. (k, there_at (has_mac (type_in b)) _))))

read-type_known : (b : List ℕ) → Holds (λ (r : BlockRead). (0x11 ≤ r.type) × (r.type ≤ 0x18)) (scb_of b)
unfolding scb_of
read-type_known b =
    holds_refuse _ _ _ _ _ (λ _. holds_refuse _ _ _ _ _ (λ _. holds_refuse _ _ _ _ _ (λ _.
    holds_then _ _ _ (λ ty e. type_bounds (get_or b 1 0) ty e))))

frame-due : (f : List ℕ) (a : ℕ) (c : Control) → Holds Due (frame_of f a c)
unfolding frame_of
frame-due f a c =
    holds_refuse _ _ _ _ _ (λ _. holds_choose _ _ _ _
    (λ _. holds_then _ _ _ (λ b e. rest_due f a c (block_at b.type 7 b.data_len) (7 + b.data_len) (holds_given _ (scb_of (drop 5 f)) b (read-type_known (drop 5 f)) e)))
    (λ _. rest_due f a c no_block 5 tt))

parse_due : (s : List ℕ) → Holds Due (parse_of s)
unfolding parse_of
parse_due s = holds_then _ _ _ (λ h _. holds_refuse _ _ _ _ _ (λ _. frame-due (take h.len s) h.addr h.ctrl))

pub accepted-due : (s : List ℕ) (F : Fields) → parse_of s ≡ given F → Due F
accepted-due s F e = holds_given Due (parse_of s) F (parse_due s) e

block-type_one_bound : (b : BlockAt) → TypeKnown b → has_mac (type_in b) ≡ leb 0x15 (type_in b)
block-type_one_bound no_block k = refl
block-type_one_bound (block_at ty start len) k = between_above 0x15 0x18 ty k.1

-- of the block that stands there, if one does, its lower bound alone tells whether a MAC is due
pub accepted_one_bound : (s : List ℕ) (F : Fields) → parse_of s ≡ given F → has_mac (type_in F.block) ≡ leb 0x15 (type_in F.block)
accepted_one_bound s F e = block-type_one_bound F.block (accepted-due s F e).0
