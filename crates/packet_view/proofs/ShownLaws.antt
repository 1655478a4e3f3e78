-- What a view shows: the bytes of an accepted frame at the places that reading found, and nothing after a refusal.
-- The places of an accepted frame lie inside it (`accepted_inside`), so a part never falls back to the empty one.
-- Assumes nothing.
use mathlib.Core.Path.{◌≡◌, refl, ap, ◌∙◌}
use mathlib.Core.List.{List, []}
use Prim.Native.Nat.{ℕ, ◌+◌, ◌≤◌}
use native.Mathlib.Omega.{arith}
use lib.ListN.{length, take, drop}
use denote.Ref.{Bor}
use Rattle.laws.specs.Answer.{Answer, Answer.given, Answer.refused}
use Rattle.slices.specs.Stretch.{stretch_in}
use Rattle.laws.proofs.Answers.{Holds}
use Rattle.laws.proofs.Lists.{part_length}
use Rattle.packet_parse.specs.Frame.{Fields, BlockAt, BlockAt.no_block, BlockAt.block_at, MacAt, MacAt.no_mac, MacAt.mac_from, parse_of}
use Rattle.packet_parse.proofs.Within.{Inside, BlockInside, MacInside, parse_inside, accepted_inside}
use Rattle.slices.specs.Place.{part_of, part_start, part_seen}
use Rattle.packet_view.specs.View.{Span, nowhere, Shown, places_of, viewed, bytes_at, start_at, block_in, data_in, mac_in, block_data_of, payload_of, frame_mac_of, block_data_seen, payload_seen, frame_mac_seen}
use Rattle.packet_view.specs.declared.view.PacketView.{PacketView}
use Rattle.slices.proofs.PlaceLaws.{part_in, start-in}

-- ---- the three parts of an accepted frame lie inside it

-- p of n bytes
abbrev pub PartFits : (Fields → Span) → Type 0
PartFits p = (n : ℕ) (F : Fields) → Inside n F → (p F).at + (p F).len ≤ n

abbrev pub block_part_of : Fields → Span
block_part_of F = block_in F.block

abbrev pub mac_part_of : Fields → Span
mac_part_of F = mac_in F.mac

block_part_fits : (b : BlockAt) (at n : ℕ) → BlockInside b at → at ≤ n → (block_in b).at + (block_in b).len ≤ n
block_part_fits no_block at n h k = omega arith
block_part_fits (block_at ty start len) at n h k = omega (arith, h.1)

mac_part_fits : (m : MacAt) (end len n : ℕ) → MacInside m end len → len ≤ n → (mac_in m).at + (mac_in m).len ≤ n
mac_part_fits no_mac end len n h k = omega arith
mac_part_fits (mac_from at) end len n h k = omega (arith, h.1)

pub block_part_inside : PartFits block_part_of
block_part_inside n F i = block_part_fits F.block F.data_start n i.block (omega (arith, i.«data», i.most))

pub payload_inside : PartFits data_in
payload_inside n F i = omega (arith, i.«data», i.most)

pub mac_part_inside : PartFits mac_part_of
mac_part_inside n F i = mac_part_fits F.mac (F.data_start + F.data_len) F.len n i.mac i.most

-- ---- what the places show

-- q is the place of the part p
pub record PlaceOf (p : Fields → Span) (q : Shown → Span) : Type 0 where
  pub accepted : (F : Fields) → q (places_of (given F)) ≡ p F
  pub refused : (n : ℕ) (vs : List ℕ) → q (places_of (refused n vs)) ≡ nowhere
  pub fits : PartFits p

block_placed : PlaceOf block_part_of (λ x. x.block)
unfolding places_of
block_placed = record { accepted = λ F. refl; refused = λ n vs. refl; fits = block_part_inside }

payload_placed : PlaceOf data_in (λ x. x.payload)
unfolding places_of
payload_placed = record { accepted = λ F. refl; refused = λ n vs. refl; fits = payload_inside }

mac_placed : PlaceOf mac_part_of (λ x. x.mac)
unfolding places_of
mac_placed = record { accepted = λ F. refl; refused = λ n vs. refl; fits = mac_part_inside }

module _ (p : Fields → Span) (q : Shown → Span) (at : PlaceOf p q) where
  place-shows : (s : List ℕ) (x : Answer Fields) → Holds (Inside (length s)) x → part_of s (q (places_of x)).at (q (places_of x)).len ≡ bytes_at s p x
  place-shows s (given F) i = ap (λ (y : Span). part_of s y.at y.len) (at.accepted F) ∙ part_in s (p F).at (p F).len (at.fits (length s) F i)
  place-shows s (refused n vs) i = ap (λ (y : Span). part_of s y.at y.len) (at.refused n vs) ∙ part_in s 0 0 (omega arith)

  -- where it begins
  place-starts : (s : List ℕ) (x : Answer Fields) → Holds (Inside (length s)) x → part_start s (q (places_of x)).at (q (places_of x)).len ≡ start_at p x
  place-starts s (given F) i = ap (λ (y : Span). part_start s y.at y.len) (at.accepted F) ∙ start-in s (p F).at (p F).len (at.fits (length s) F i)
  place-starts s (refused n vs) i = ap (λ (y : Span). part_start s y.at y.len) (at.refused n vs) ∙ start-in s 0 0 (omega arith)

  -- the part of a view of s
  view-shows : (s : Bor (List ℕ)) (w : PacketView) → viewed w ≡ (s, places_of (parse_of s.now))
      → part_seen (viewed w).0 (q (viewed w).1).at (q (viewed w).1).len ≡ stretch_in s (start_at p (parse_of s.now)) (bytes_at s.now p (parse_of s.now))
  view-shows s w e =
      ap (λ (y : Bor (List ℕ) × Shown). part_seen y.0 (q y.1).at (q y.1).len) e
      ∙ (λ i. stretch_in s (place-starts s.now (parse_of s.now) (parse_inside s.now) i) (place-shows s.now (parse_of s.now) (parse_inside s.now) i))

module _ (s : Bor (List ℕ)) (w : PacketView) (e : viewed w ≡ (s, places_of (parse_of s.now))) where
  pub block-data-shown : part_seen w.frame (viewed w).1.block.at (viewed w).1.block.len ≡ block_data_seen s
  unfolding block_data_of
  block-data-shown = view-shows block_part_of (λ x. x.block) block_placed s w e

  pub payload-shown : part_seen w.frame (viewed w).1.payload.at (viewed w).1.payload.len ≡ payload_seen s
  unfolding payload_of
  payload-shown = view-shows data_in (λ x. x.payload) payload_placed s w e

  pub mac-shown : part_seen w.frame (viewed w).1.mac.at (viewed w).1.mac.len ≡ frame_mac_seen s
  unfolding frame_mac_of
  mac-shown = view-shows mac_part_of (λ x. x.mac) mac_placed s w e

-- ---- after a refusal

pub refused_empty : (s : List ℕ) (n : ℕ) (vs : List ℕ) → parse_of s ≡ refused n vs → (block_data_of s ≡ []) × (payload_of s ≡ []) × (frame_mac_of s ≡ [])
unfolding block_data_of payload_of frame_mac_of
refused_empty s n vs e = (ap (bytes_at s block_part_of) e, ap (bytes_at s data_in) e, ap (bytes_at s mac_part_of) e)

-- each is then the frame's empty first part
pub refused-first : (s : Bor (List ℕ)) (n : ℕ) (vs : List ℕ) → parse_of s.now ≡ refused n vs
    → (block_data_seen s ≡ stretch_in s 0 []) × (payload_seen s ≡ stretch_in s 0 []) × (frame_mac_seen s ≡ stretch_in s 0 [])
unfolding block_data_of payload_of frame_mac_of
refused-first s n vs e = (first block_part_of, first data_in, first mac_part_of)
  where
    first : (p : Fields → Span) → stretch_in s (start_at p (parse_of s.now)) (bytes_at s.now p (parse_of s.now)) ≡ stretch_in s 0 []
    first p = ap (λ (x : Answer Fields). stretch_in s (start_at p x) (bytes_at s.now p x)) e

-- ---- of an accepted frame: the bytes there, and all of them

module _ (s : List ℕ) (F : Fields) (e : parse_of s ≡ given F) where
  pub accepted-block-data : block_data_of s ≡ take (block_in F.block).len (drop (block_in F.block).at s)
  unfolding block_data_of
  accepted-block-data = ap (bytes_at s block_part_of) e

  pub accepted-payload : payload_of s ≡ take F.data_len (drop F.data_start s)
  unfolding payload_of
  accepted-payload = ap (bytes_at s data_in) e

  pub accepted-mac : frame_mac_of s ≡ take (mac_in F.mac).len (drop (mac_in F.mac).at s)
  unfolding frame_mac_of
  accepted-mac = ap (bytes_at s mac_part_of) e

  pub block-data-length : length (block_data_of s) ≡ (block_in F.block).len
  block-data-length = ap length accepted-block-data ∙ part_length s _ _ (block_part_inside (length s) F (accepted_inside s F e))

  pub payload-length : length (payload_of s) ≡ F.data_len
  payload-length = ap length accepted-payload ∙ part_length s _ _ (payload_inside (length s) F (accepted_inside s F e))

  pub mac-length : length (frame_mac_of s) ≡ (mac_in F.mac).len
  mac-length = ap length accepted-mac ∙ part_length s _ _ (mac_part_inside (length s) F (accepted_inside s F e))
