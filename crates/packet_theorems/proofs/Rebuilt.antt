-- What was read can be built again: the parts of a frame that is accepted make the same bytes.
-- Assumes nothing.
use mathlib.Core.Path.{◌≡◌, refl, sym, ap, ap₂, ◌∙◌}
use mathlib.Core.List.{List, [], ◌∷◌, ◌++◌, append_assoc, append-nil}
use mathlib.Core.Bool.{Bool, true, false, cond}
use Prim.Native.Nat.{ℕ, ◌-◌, suc, ◌+◌, ◌/◌, ◌%◌, ◌≤◌, ◌<◌}
use native.Mathlib.Numerals.{add-one}
use native.Mathlib.Omega.{arith}
use borrow.Author.Tests.{ltb-false, leb-false, eqb-true, eqb-false, not-false}
use lib.Dec.{eqb}
use lib.ListN.{length, get_or, take, drop, length-drop, take-append-drop, drop_of_length-le}
use lib.Seq.{length-take-le, take-suc, take-add, drop-cons, get_or-drop, get_or-take}
use Rattle.packet_sums.specs.Crc.{crc_of}
use Rattle.laws.specs.Answer.{Answer.given, and_then}
use Rattle.packet_head.specs.Header.{Control, control_of, ctrl_byte}
use Rattle.packet_head.specs.Block.{BlockRead, has_mac, scs_of, scb_of}
use Rattle.packet_head.specs.Trailer.{Tail, trailer_len, mac_len_of}
use Rattle.laws.specs.Bytes.{Bytes}
use Rattle.laws.proofs.ByteLists.{bytes_nil, bytes_cons, bytes_take}
use Rattle.laws.proofs.Answers.{Holds, holds_refuse, holds_choose, holds_then, holds_mono, holds_given}
use Rattle.laws.proofs.Lists.{part_length}
use Rattle.laws.proofs.Listed.{front_listed}
use Rattle.slices.specs.Number.{low_first, low_number}
use Rattle.slices.proofs.NumberLaws.{written_read}
use Rattle.packet_parse.specs.Trailer.{crc_got, trailer_of}
use Rattle.packet_parse.specs.Frame.{Head, Fields, BlockAt, BlockAt.no_block, BlockAt.block_at, MacAt, MacAt.no_mac, MacAt.mac_from, mac_at_of, len_of, head_of, fields_of, rest_of, frame_of, parse_of}
use Rattle.packet_build.specs.Build as made
use Rattle.packet_build.specs.Build.{FrameParts, FrameBlock, FrameBlock.no_scb, FrameBlock.scb, block_bytes, head_bytes, tail_bytes, frame_bytes, covered_bytes, body_bytes, build_of, total_len, sizes_of}
use Rattle.packet_build.proofs.Sizes.{passes, bytes_n_is}

-- ---- the control byte

control_there : (b : ℕ) → Holds (λ c. (ctrl_byte c ≡ b) × (c.sqn ≤ 3)) (control_of b)
unfolding control_of
control_there b =
    holds_refuse _ _ _ _ _ (λ h. (sum (leb-false 16 b h) (eqb (b / 4 % 2) 1) (eqb (b / 8) 1) refl refl, omega arith))
  where
    sum : b < 16 → (t u : Bool) → eqb (b / 4 % 2) 1 ≡ t → eqb (b / 8) 1 ≡ u → b % 4 + cond t 4 0 + cond u 8 0 ≡ b
    sum h true true e f = omega (arith, eqb-true (b / 4 % 2) 1 e, eqb-true (b / 8) 1 f)
    sum h true false e f = omega (arith, eqb-true (b / 4 % 2) 1 e, eqb-false (b / 8) 1 f)
    sum h false true e f = omega (arith, eqb-false (b / 4 % 2) 1 e, eqb-true (b / 8) 1 f)
    sum h false false e f = omega (arith, eqb-false (b / 4 % 2) 1 e, eqb-false (b / 8) 1 f)

-- ---- the trailer

last_one : (f : List ℕ) → 1 ≤ length f → drop (length f - 1) f ≡ get_or f (length f - 1) 0 ∷ []
last_one f h =
    drop-cons f (length f - 1) 0 (omega arith) ∙ ap (λ (r : List ℕ). get_or f (length f - 1) 0 ∷ r) (drop_of_length-le f {i = suc (length f - 1)} (omega arith))

last_two : (f : List ℕ) → 2 ≤ length f → drop (length f - 2) f ≡ get_or f (length f - 2) 0 ∷ get_or f (length f - 1) 0 ∷ []
last_two f h =
    let e : suc (length f - 2) ≡ length f - 1 = omega arith in
    drop-cons f (length f - 2) 0 (omega arith) ∙ ap (λ (n : ℕ). get_or f (length f - 2) 0 ∷ drop n f) e ∙ ap (λ (r : List ℕ). get_or f (length f - 2) 0 ∷ r) (last_one f (omega arith))

-- any two bytes of f
two_bytes : (f : List ℕ) (i j : ℕ) → Bytes f → Bytes (get_or f i 0 ∷ get_or f j 0 ∷ [])
two_bytes f i j b = bytes_cons (get_or f i 0) (get_or f j 0 ∷ []) (b i) (bytes_cons (get_or f j 0) [] (b j) bytes_nil)

trailer_there : (f : List ℕ) (t : Bool) → Bytes f → 2 ≤ length f → Holds (λ x. tail_bytes t (take (length f - trailer_len t) f) ≡ drop (length f - trailer_len t) f) (trailer_of f t)
unfolding trailer_of
trailer_there f true b h =
    holds_refuse _ _ _ _ _ (λ e.
    let lo = get_or f (length f - 2) 0 in
    let hi = get_or f (length f - 1) 0 in
    let q : crc_got f ≡ crc_of (take (length f - 2) f) = eqb-true _ _ (not-false _ e) in
    ap (low_first 2) (sym q) ∙ written_read (lo ∷ hi ∷ []) (two_bytes f (length f - 2) (length f - 1) b) ∙ sym (last_two f h))
trailer_there f false b h =
    holds_refuse _ _ _ _ _ (λ e. ap (λ (x : ℕ). x ∷ []) (sym (eqb-true _ _ (not-false _ e))) ∙ sym (last_one f (omega arith)))

-- ---- the bytes

-- the parts that stand at the places of F in f
abbrev pub frame_block_from : BlockAt → List ℕ → FrameBlock
frame_block_from no_block f = no_scb
frame_block_from (block_at ty start n) f = scb ty (take n (drop start f))

abbrev pub mac_bytes_from : MacAt → List ℕ → List ℕ
mac_bytes_from no_mac f = []
mac_bytes_from (mac_from at) f = take 4 (drop at f)

abbrev pub parts_from : List ℕ → Fields → FrameParts
parts_from f F =
    record {
      addr = F.addr;
      ctrl = F.ctrl;
      block = frame_block_from F.block f;
      code = F.code;
      «data» = take F.data_len (drop F.data_start f);
      mac = mac_bytes_from F.mac f;
    }

-- the header of f
record Headed (f : List ℕ) (a : ℕ) (c : Control) : Type 0 where
  som : get_or f 0 0 ≡ 0x53
  addr : get_or f 1 0 ≡ a
  len : len_of f ≡ length f
  ctrl : ctrl_byte c ≡ get_or f 4 0
  sqn : c.sqn ≤ 3
  enough : 5 ≤ length f
  bytes : Bytes f

head_there : (f : List ℕ) (a : ℕ) (c : Control) → Headed f a c → head_bytes a c (length f) ≡ take 5 f
head_there f a c h =
    let two = two_bytes f 2 3 h.bytes in
    let len = ap (low_first 2) (sym h.len) ∙ written_read (get_or f 2 0 ∷ get_or f 3 0 ∷ []) two in
    let lo : length f % 256 ≡ get_or f 2 0 = ap (λ (l : List ℕ). get_or l 0 0) len in
    let hi : length f / 256 % 256 ≡ get_or f 3 0 = ap (λ (l : List ℕ). get_or l 1 0) len in
    rw (← h.som, ← h.addr, lo, hi, h.ctrl) (front_listed f 5 h.enough)

-- ---- from the code on

record Placed (f : List ℕ) (a : ℕ) (c : Control) (k : BlockAt) (at : ℕ) (mac : Bool) : Type 0 where
  front : head_bytes a c (length f) ++ block_bytes (frame_block_from k f) ≡ take at f
  size : 5 + length (block_bytes (frame_block_from k f)) ≡ at
  flag : made.present (frame_block_from k f) ≡ c.block
  due : made.due (frame_block_from k f) ≡ mac
  small : made.block_n (frame_block_from k f) ≤ 253

-- the data's length, and where it ends
abbrev data_n : List ℕ → ℕ → Bool → Bool → ℕ
data_n f at mac t = length f - (at + 1 + mac_len_of mac + trailer_len t)

mac_there : (f : List ℕ) (at : ℕ) (mac t : Bool) → at + 1 + mac_len_of mac + trailer_len t ≤ length f
    → take (at + 1 + data_n f at mac t) f ++ mac_bytes_from (mac_at_of mac (length f - (mac_len_of mac + trailer_len t))) f ≡ take (length f - trailer_len t) f
mac_there f at true t h =
    let e : length f - (4 + trailer_len t) ≡ at + 1 + data_n f at true t = omega arith in
    let d : at + 1 + data_n f at true t + 4 ≡ length f - trailer_len t = omega arith in
    ap (λ (n : ℕ). take (at + 1 + data_n f at true t) f ++ take 4 (drop n f)) e ∙ sym (take-add (at + 1 + data_n f at true t) 4 f) ∙ ap (λ (n : ℕ). take n f) d
mac_there f at false t h =
    let d : at + 1 + data_n f at false t ≡ length f - trailer_len t = omega arith in
    append-nil _ ∙ ap (λ (n : ℕ). take n f) d

mac-size : (f : List ℕ) (at : ℕ) (mac t : Bool) → at + 1 + mac_len_of mac + trailer_len t ≤ length f
    → length (mac_bytes_from (mac_at_of mac (length f - (mac_len_of mac + trailer_len t))) f) ≡ mac_len_of mac
mac-size f at true t h = part_length f (length f - (4 + trailer_len t)) 4 (omega arith)
mac-size f at false t h = refl

covered_there : (f : List ℕ) (a : ℕ) (c : Control) (k : BlockAt) (at : ℕ) (mac : Bool) (x : Tail) → Placed f a c k at mac → at + 1 + mac_len_of mac + trailer_len c.crc ≤ length f
    → covered_bytes (parts_from f (fields_of f a c k at mac x)) (length f) ≡ take (length f - trailer_len c.crc) f
unfolding body_bytes
covered_there f a c k at mac x p h =
    let n = data_n f at mac c.crc in
    let m = mac_bytes_from (mac_at_of mac (length f - (mac_len_of mac + trailer_len c.crc))) f in
    ap (λ (z : List ℕ). z ++ (get_or f at 0 ∷ []) ++ take n (drop (at + 1) f) ++ m) p.front
    ∙ ap (λ (z : List ℕ). z ++ take n (drop (at + 1) f) ++ m) (sym (take-suc f at 0 (omega arith)) ∙ ap (λ (j : ℕ). take j f) (sym (add-one at)))
    ∙ ap (λ (z : List ℕ). z ++ m) (sym (take-add (at + 1) n f)) ∙ mac_there f at mac c.crc h

-- F's parts make f again
abbrev Again : List ℕ → Fields → Type 0
Again f F = (F.len ≡ length f) × ((have : ℕ) → length f ≤ have → build_of (parts_from f F) have ≡ given f)

built_again : (f : List ℕ) (a : ℕ) (c : Control) (k : BlockAt) (at : ℕ) (mac : Bool) (x : Tail) → Headed f a c → Placed f a c k at mac → at + 1 + mac_len_of mac + trailer_len c.crc ≤ length f
    → tail_bytes c.crc (take (length f - trailer_len c.crc) f) ≡ drop (length f - trailer_len c.crc) f
    → (have : ℕ) → length f ≤ have → build_of (parts_from f (fields_of f a c k at mac x)) have ≡ given f
unfolding build_of and_then frame_bytes
built_again f a c k at mac x h p l t have room =
    let b = frame_block_from k f in
    let n = data_n f at mac c.crc in
    let m = mac_bytes_from (mac_at_of mac (length f - (mac_len_of mac + trailer_len c.crc))) f in
    let ld : length (take n (drop (at + 1) f)) ≡ n = part_length f (at + 1) n (omega arith) in
    let lm : length m ≡ mac_len_of mac = mac-size f at mac c.crc l in
    let most : length f ≤ 65535 = omega (arith, h.len, h.bytes 2, h.bytes 3) in
    let z = sizes_of (parts_from f (fields_of f a c k at mac x)) (length m) have in
    let total : length f ≡ total_len c.crc z = omega (arith, bytes_n_is b, p.size) in
    let e = passes c z (length f)
    (record { sqn = h.sqn; flag = p.flag; macs = lm ∙ ap mac_len_of (sym p.due); total = total; most = most; room = room; small = p.small }) in
    let s = covered_there f a c k at mac x p l in
    rw e (ap given (ap (λ (z : List ℕ). z ++ tail_bytes c.crc z) s ∙ ap (λ (z : List ℕ). take (length f - trailer_len c.crc) f ++ z) t ∙ take-append-drop (length f - trailer_len c.crc) f))

rest_there : (f : List ℕ) (a : ℕ) (c : Control) (k : BlockAt) (at : ℕ) (mac : Bool) → Headed f a c → Placed f a c k at mac → Holds (Again f) (rest_of f a c k at mac)
unfolding rest_of
rest_there f a c k at mac h p =
    holds_refuse _ _ _ _ _ (λ _. holds_refuse _ _ _ _ _ (λ l. holds_then _ _ _ (λ x e. (
      refl,
      built_again f a c k at mac x h p (ltb-false _ _ l)
          (holds_given (λ y. tail_bytes c.crc (take (length f - trailer_len c.crc) f) ≡ drop (length f - trailer_len c.crc) f) (trailer_of f c.crc) x (trailer_there f c.crc h.bytes (omega (arith, h.enough))) e),
    ))))

-- ---- the block

type_there : (b : ℕ) → Holds (λ ty. ty ≡ b) (scs_of b)
unfolding scs_of
type_there b = holds_refuse _ _ _ _ _ (λ h. refl)

record Blocked (g : List ℕ) (b : BlockRead) : Type 0 where
  type : b.type ≡ get_or g 1 0
  size : b.data_len + 2 ≡ get_or g 0 0
  inside : get_or g 0 0 ≤ length g
  two : 2 ≤ length g

block_there : (g : List ℕ) → Holds (Blocked g) (scb_of g)
unfolding scb_of
block_there g =
    holds_refuse _ _ _ _ _ (λ h. holds_refuse _ _ _ _ _ (λ k. holds_refuse _ _ _ _ _ (λ l. holds_then _ _ _ (λ ty e.
    let q : 2 ≤ get_or g 0 0 = ltb-false _ _ k in
    record { type = holds_given (λ y. y ≡ get_or g 1 0) (scs_of (get_or g 1 0)) ty (type_there (get_or g 1 0)) e; size = omega arith; inside = ltb-false _ _ l; two = ltb-false _ _ h }))))

placed_none : (f : List ℕ) (a : ℕ) (c : Control) → Headed f a c → c.block ≡ false → Placed f a c no_block 5 false
placed_none f a c h e = record { front = append-nil _ ∙ head_there f a c h; size = refl; flag = sym e; due = refl; small = omega arith }

placed_block : (f : List ℕ) (a : ℕ) (c : Control) (b : BlockRead) → Headed f a c → c.block ≡ true → Blocked (drop 5 f) b → Placed f a c (block_at b.type 7 b.data_len) (7 + b.data_len) (has_mac b.type)
placed_block f a c b h e k =
    let l = length-drop 5 f in
    let n : length (take b.data_len (drop 7 f)) ≡ b.data_len = part_length f 7 b.data_len (omega (arith, k.size, k.inside)) in
    let byte : get_or (drop 5 f) 0 0 < 256 = rw get_or-drop (h.bytes (5 + 0)) in
    let z : length (take b.data_len (drop 7 f)) + 2 ≡ get_or (drop 5 f) 0 0 = omega (arith, k.size) in
    record {
      front =
          ap₂ (λ (x y : List ℕ). x ++ y) (head_there f a c h)
          (ap₂ (λ (x y : ℕ). x ∷ y ∷ take b.data_len (drop 7 f)) z k.type
          ∙ ap (λ (y : List ℕ). y ++ take b.data_len (drop 7 f)) (front_listed (drop 5 f) 2 k.two))
          ∙ sym (append_assoc (take 5 f) (take 2 (drop 5 f)) (take b.data_len (drop 7 f)))
          ∙ ap (λ (y : List ℕ). y ++ take b.data_len (drop 7 f)) (sym (take-add 5 2 f)) ∙ sym (take-add 7 b.data_len f);
      size = omega arith;
      flag = sym e;
      due = refl;
      small = omega (arith, k.size);
    }

frame_there : (f : List ℕ) (a : ℕ) (c : Control) → (6 ≤ length f → Headed f a c) → Holds (Again f) (frame_of f a c)
unfolding frame_of
frame_there f a c hd =
    holds_refuse _ _ _ _ _ (λ l.
    let q : 6 + trailer_len c.crc ≤ length f = ltb-false _ _ l in
    let h = hd (omega arith) in
    holds_choose _ _ _ _
    (λ e. holds_then _ _ _ (λ b g. rest_there f a c (block_at b.type 7 b.data_len) (7 + b.data_len) (has_mac b.type) h (placed_block f a c b h e (holds_given (Blocked (drop 5 f)) (scb_of (drop 5 f)) b (block_there (drop 5 f)) g))))
    (λ e. rest_there f a c no_block 5 false h (placed_none f a c h e)))

-- ---- the first LEN bytes

-- what the five bytes that were read say of them
record HeadSaid (s : List ℕ) (h : Head) : Type 0 where
  som : get_or s 0 0 ≡ 0x53
  addr : get_or s 1 0 ≡ h.addr
  len : len_of s ≡ h.len
  ctrl : ctrl_byte h.ctrl ≡ get_or s 4 0
  sqn : h.ctrl.sqn ≤ 3

head_said : (s : List ℕ) → Holds (HeadSaid s) (head_of s)
unfolding head_of
head_said s =
    holds_refuse _ _ _ _ _ (λ _. holds_refuse _ _ _ _ _ (λ m. holds_then _ _ _ (λ c e.
    let g = holds_given (λ c. (ctrl_byte c ≡ get_or s 4 0) × (c.sqn ≤ 3)) (control_of (get_or s 4 0)) c (control_there (get_or s 4 0)) e in
    record { som = eqb-true _ _ (not-false _ m); addr = refl; len = refl; ctrl = g.0; sqn = g.1 })))

headed : (s : List ℕ) (h : Head) → Bytes s → head_of s ≡ given h → h.len ≤ length s → 6 ≤ length (take h.len s) → Headed (take h.len s) h.addr h.ctrl
headed s h b e l k =
    let n = h.len in
    let ln : length (take n s) ≡ n = length-take-le n s l in
    let g = holds_given (HeadSaid s) (head_of s) h (head_said s) e in
    record {
      som = get_or-take n s 0 0 (omega arith) ∙ g.som;
      addr = get_or-take n s 1 0 (omega arith) ∙ g.addr;
      len = ap₂ (λ (x y : ℕ). low_number (x ∷ y ∷ [])) (get_or-take n s 2 0 (omega arith)) (get_or-take n s 3 0 (omega arith)) ∙ g.len ∙ sym ln;
      ctrl = g.ctrl ∙ sym (get_or-take n s 4 0 (omega arith));
      sqn = g.sqn;
      enough = omega arith;
      bytes = bytes_take n s b;
    }

-- The parts of a frame that is accepted make the first LEN bytes again, in any buffer that has the room.
abbrev pub Rebuilt : List ℕ → Fields → Type 0
Rebuilt s F = (have : ℕ) → F.len ≤ have → build_of (parts_from (take F.len s) F) have ≡ given (take F.len s)

all : (s : List ℕ) → Bytes s → Holds (Rebuilt s) (parse_of s)
unfolding parse_of
all s b =
    holds_then _ _ _ (λ h e. holds_refuse _ _ _ _ _ (λ l.
    let n = h.len in
    let ln : length (take n s) ≡ n = length-take-le n s (ltb-false _ _ l) in
    holds_mono (Again (take n s)) (Rebuilt s) (frame_of (take n s) h.addr h.ctrl)
    (λ F g have room. let k : F.len ≡ n = g.0 ∙ ln in rw k (g.1 have (omega arith)))
    (frame_there (take n s) h.addr h.ctrl (headed s h b e (ltb-false _ _ l)))))

pub accepted_rebuilds : (s : List ℕ) (F : Fields) → Bytes s → parse_of s ≡ given F
    → (have : ℕ) → F.len ≤ have → build_of (parts_from (take F.len s) F) have ≡ given (take F.len s)
accepted_rebuilds s F b e = holds_given (Rebuilt s) (parse_of s) F (all s b) e
