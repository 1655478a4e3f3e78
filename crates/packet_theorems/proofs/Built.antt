-- A frame that was built is accepted, and reading shows its parts at their places, whatever follows it.
-- Assumes nothing.
use mathlib.Core.Path.{◌≡◌, refl, sym, ap, ap₂, ◌∙◌}
use mathlib.Core.List.{List, [], ◌∷◌, ◌++◌, append_assoc}
use mathlib.Core.Bool.{Bool, true, false, not}
use Prim.Native.Nat.{ℕ, ◌-◌, zero, suc, ◌+◌, ◌/◌, ◌%◌, ◌≤◌}
use native.Mathlib.Omega.{arith}
use borrow.Author.Tests.{le-ltb, eq-eqb}
use lib.Dec.{eqb}
use lib.ListN.{length, get_or, take, drop, length-append}
use lib.Seq.{take_at, get_or_at, get_or-append-add}
use Rattle.packet_sums.specs.Checksum.{checksum_of}
use Rattle.packet_sums.specs.Crc.{crc_of}
use Rattle.packet_sums.proofs.CrcLaws.{crc_lt}
use Rattle.laws.specs.Answer.{Answer.given, refuse_if, and_then}
use Rattle.packet_head.specs.Header.{Control, control_of, ctrl_byte}
use Rattle.packet_head.specs.Block.{has_mac, scs_of, scb_of}
use Rattle.packet_head.specs.Trailer.{Tail, Tail.checksum, Tail.crc, trailer_len, mac_len_of}
use Rattle.laws.proofs.Answers.{holds_given, choose_true, choose_false}
use Rattle.slices.specs.Number.{low_first, low_number}
use Rattle.slices.proofs.NumberLaws.{read-written}
use Rattle.packet_parse.specs.Trailer.{crc_got, sum_got, trailer_of}
use Rattle.packet_parse.specs.Frame.{Fields, BlockAt, BlockAt.no_block, BlockAt.block_at, MacAt, mac_at_of, len_of, head_of, fields_of, rest_of, frame_of, parse_of}
use Rattle.packet_build.specs.Build as made
use Rattle.packet_build.specs.Build.{FrameParts, FrameBlock, FrameBlock.no_scb, FrameBlock.scb, block_bytes, head_bytes, tail_bytes, frame_bytes, covered_bytes, body_bytes, sizes_of, build_of}
use Rattle.packet_build.proofs.Sizes.{Fine, Whole, whole, whole_length, body_length, bytes-length, tail-length}

-- ---- the control byte

control-read_back : (q : ℕ) (t u : Bool) → q ≤ 3 → control_of (ctrl_byte (record { sqn = q; crc = t; block = u })) ≡ given (record { sqn = q; crc = t; block = u })
unfolding control_of refuse_if
control-read_back zero true true h = refl
control-read_back zero true false h = refl
control-read_back zero false true h = refl
control-read_back zero false false h = refl
control-read_back (suc zero) true true h = refl
control-read_back (suc zero) true false h = refl
control-read_back (suc zero) false true h = refl
control-read_back (suc zero) false false h = refl
control-read_back (suc (suc zero)) true true h = refl
control-read_back (suc (suc zero)) true false h = refl
control-read_back (suc (suc zero)) false true h = refl
control-read_back (suc (suc zero)) false false h = refl
control-read_back (suc (suc (suc zero))) true true h = refl
control-read_back (suc (suc (suc zero))) true false h = refl
control-read_back (suc (suc (suc zero))) false true h = refl
control-read_back (suc (suc (suc zero))) false false h = refl
control-read_back (suc (suc (suc (suc q)))) t u h = absurd (omega arith)

-- ---- the trailer

pub tail_of : Bool → List ℕ → Tail
tail_of true x = crc (crc_of x)
tail_of false x = checksum (checksum_of x)

trailer-read_back : (x : List ℕ) (t : Bool) → trailer_of (x ++ tail_bytes t x) t ≡ given (tail_of t x)
unfolding trailer_of tail_of refuse_if
trailer-read_back x true =
    let c = crc_of x in
    let two = low_first 2 c in
    let f = x ++ two in
    let l : length f ≡ length x + 2 = length-append x two in
    let i : length f - 2 ≡ length x = omega arith in
    let j : length f - 1 ≡ length x + 1 = omega arith in
    let lo : get_or f (length f - 2) 0 ≡ c % 256 = ap (λ (n : ℕ). get_or f n 0) i ∙ get_or_at x (c % 256) (c / 256 % 256 ∷ []) 0 (length x) refl in
    let hi : get_or f (length f - 1) 0 ≡ c / 256 % 256 = ap (λ (n : ℕ). get_or f n 0) j ∙ get_or-append-add x two 1 0 in
    let got : crc_got f ≡ c = ap₂ (λ (p q : ℕ). low_number (p ∷ q ∷ [])) lo hi ∙ read-written 2 c (crc_lt x) in
    let want : crc_of (take (length f - 2) f) ≡ c = ap crc_of (ap (λ (n : ℕ). take n f) i ∙ take_at x two (length x) refl) in
    ap₂ (λ (g w : ℕ). refuse_if (not (eqb g w)) 7 (g ∷ w ∷ []) (given (crc g))) got want ∙ rw (eq-eqb c c refl)
trailer-read_back x false =
    let c = checksum_of x in
    let f = x ++ (c ∷ []) in
    let l : length f ≡ length x + 1 = length-append x (c ∷ []) in
    let i : length f - 1 ≡ length x = omega arith in
    let got : sum_got f ≡ c = ap (λ (n : ℕ). get_or f n 0) i ∙ get_or_at x c [] 0 (length x) refl in
    let want : checksum_of (take (length f - 1) f) ≡ c = ap checksum_of (ap (λ (n : ℕ). take n f) i ∙ take_at x (c ∷ []) (length x) refl) in
    ap₂ (λ (g w : ℕ). refuse_if (not (eqb g w)) 8 (g ∷ w ∷ []) (given (checksum g))) got want ∙ rw (eq-eqb c c refl)

-- ---- from the code on

rest_back : (x : List ℕ) (a : ℕ) (c : Control) (k : BlockAt) (at : ℕ) (mac : Bool) → at + 1 + mac_len_of mac ≤ length x
    → rest_of (x ++ tail_bytes c.crc x) a c k at mac ≡ given (fields_of (x ++ tail_bytes c.crc x) a c k at mac (tail_of c.crc x))
unfolding rest_of refuse_if and_then
rest_back x a c k at mac h =
    let f = x ++ tail_bytes c.crc x in
    let l : length f ≡ length x + trailer_len c.crc = length-append x (tail_bytes c.crc x) ∙ ap (λ (n : ℕ). length x + n) (tail-length c.crc x) in
    let h₁ : at + 1 + trailer_len c.crc ≤ length f = omega arith in
    let h₂ : at + 1 + mac_len_of mac + trailer_len c.crc ≤ length f = omega arith in
    rw (le-ltb _ _ h₁, le-ltb _ _ h₂, trailer-read_back x c.crc)

-- ---- the block

block-read_back : (l r : List ℕ) (ty : ℕ) → scs_of ty ≡ given ty → scb_of ((length l + 2) ∷ ty ∷ (l ++ r)) ≡ given (record { type = ty; data_len = length l })
unfolding scb_of refuse_if and_then
block-read_back l r ty e =
    let n : length (l ++ r) ≡ length l + length r = length-append l r in
    let h₁ : 2 ≤ length ((length l + 2) ∷ ty ∷ (l ++ r)) = omega arith in
    let h₂ : 2 ≤ length l + 2 = omega arith in
    let h₃ : length l + 2 ≤ length ((length l + 2) ∷ ty ∷ (l ++ r)) = omega arith in
    let s : length l + 2 - 2 ≡ length l = omega arith in
    rw (le-ltb _ _ h₁, le-ltb _ _ h₂, le-ltb _ _ h₃, e, s)

-- ---- the frame

frame_none : (x : List ℕ) (a : ℕ) (c : Control) → c.block ≡ false → 6 ≤ length x
    → frame_of (x ++ tail_bytes c.crc x) a c ≡ given (fields_of (x ++ tail_bytes c.crc x) a c no_block 5 false (tail_of c.crc x))
unfolding frame_of refuse_if
frame_none x a c e h =
    let f = x ++ tail_bytes c.crc x in
    let l : length f ≡ length x + trailer_len c.crc = length-append x (tail_bytes c.crc x) ∙ ap (λ (n : ℕ). length x + n) (tail-length c.crc x) in
    let h₁ : 6 + trailer_len c.crc ≤ length f = omega arith in
    rw (le-ltb _ _ h₁) (choose_false _ _ _ e ∙ rest_back x a c no_block 5 false (omega arith))

frame-block : (x l r : List ℕ) (ty : ℕ) (a : ℕ) (c : Control) → c.block ≡ true → scs_of ty ≡ given ty
    → drop 5 (x ++ tail_bytes c.crc x) ≡ (length l + 2) ∷ ty ∷ (l ++ r) → 8 + length l + mac_len_of (has_mac ty) ≤ length x
    → frame_of (x ++ tail_bytes c.crc x) a c ≡ given (fields_of (x ++ tail_bytes c.crc x) a c (block_at ty 7 (length l)) (7 + length l) (has_mac ty) (tail_of c.crc x))
unfolding frame_of refuse_if and_then
frame-block x l r ty a c e t d h =
    let f = x ++ tail_bytes c.crc x in
    let n : length f ≡ length x + trailer_len c.crc = length-append x (tail_bytes c.crc x) ∙ ap (λ (n : ℕ). length x + n) (tail-length c.crc x) in
    let h₁ : 6 + trailer_len c.crc ≤ length f = omega arith in
    let k : scb_of (drop 5 f) ≡ given (record { type = ty; data_len = length l }) = ap scb_of d ∙ block-read_back l r ty t in
    rw (le-ltb _ _ h₁, k) (choose_true _ _ _ e ∙ rest_back x a c (block_at ty 7 (length l)) (7 + length l) (has_mac ty) (omega arith))

-- ---- the header

parse_head : (s f : List ℕ) (a : ℕ) (c : Control) → get_or s 0 0 ≡ 0x53 → get_or s 1 0 ≡ a → control_of (get_or s 4 0) ≡ given c → 5 ≤ length s → len_of s ≤ length s → take (len_of s) s ≡ f
    → parse_of s ≡ frame_of f a c
unfolding parse_of head_of refuse_if and_then
parse_head s f a c e₀ e₁ e₄ h l t = rw (le-ltb _ _ h, eq-eqb _ _ e₀, e₄, e₁, le-ltb _ _ l, t)

frame_of_lem : (p : FrameParts) (n : ℕ) (rest : List ℕ) → length (frame_bytes p n) ≡ n → n ≤ 65535 → p.ctrl.sqn ≤ 3 → parse_of (frame_bytes p n ++ rest) ≡ frame_of (frame_bytes p n) p.addr p.ctrl
unfolding frame_bytes body_bytes
frame_of_lem p n rest l m q =
    let f = frame_bytes p n in
    let s = f ++ rest in
    let ls : length s ≡ n + length rest = length-append f rest ∙ ap (λ (k : ℕ). k + length rest) l in
    let six : 6 ≤ n = omega (arith, bytes-length p n) in
    let len : len_of s ≡ n = read-written 2 n (omega arith) in
    parse_head s f p.addr p.ctrl refl refl (control-read_back p.ctrl.sqn p.ctrl.crc p.ctrl.block q) (omega arith) (omega arith) (ap (λ (k : ℕ). take k s) len ∙ take_at f rest n l)

-- ---- the whole

abbrev pub place_of : FrameBlock → BlockAt
place_of no_scb = no_block
place_of (scb ty l) = block_at ty 7 (length l)

-- where the parts of p stand in its frame of n bytes
abbrev pub built_fields : FrameParts → ℕ → Fields
built_fields p n =
    record {
      addr = p.addr;
      ctrl = p.ctrl;
      block = place_of p.block;
      code = p.code;
      data_start = 6 + length (block_bytes p.block);
      data_len = length p.«data»;
      mac = mac_at_of (made.due p.block) (6 + length (block_bytes p.block) + length p.«data»);
      trailer = tail_of p.ctrl.crc (covered_bytes p n);
      len = n;
    }

-- a block's type is one of the eight
abbrev pub Typed : FrameBlock → Type 0
Typed no_scb = Unit {0}
Typed (scb ty l) = scs_of ty ≡ given ty

pub tail_end : (l : List ℕ) (k : ℕ) (d m t : List ℕ) → l ++ (k ∷ []) ++ d ++ m ++ t ≡ l ++ (k ∷ (d ++ (m ++ t)))
tail_end l k d m t = simp append_assoc

abbrev fields_at : ℕ → Control → BlockAt → Tail → ℕ → ℕ → ℕ → MacAt → ℕ → Fields
fields_at a c b t k s n m l = record { addr = a; ctrl = c; block = b; code = k; data_start = s; data_len = n; mac = m; trailer = t; len = l }

pub same_fields : (a : ℕ) (c : Control) (b : BlockAt) (t : Tail) {k k' s s' n n' l l' : ℕ} {m m' : MacAt} → k ≡ k' → s ≡ s' → n ≡ n' → m ≡ m' → l ≡ l'
    → fields_at a c b t k s n m l ≡ fields_at a c b t k' s' n' m' l'
same_fields a c b t ek es en em el = λ i. fields_at a c b t (ek i) (es i) (en i) (em i) (el i)

abbrev mk : ℕ → Control → FrameBlock → ℕ → List ℕ → List ℕ → FrameParts
mk a c b k d m = record { addr = a; ctrl = c; block = b; code = k; «data» = d; mac = m }

places : (a : ℕ) (c : Control) (b : FrameBlock) (k : ℕ) (d m : List ℕ) (n have : ℕ) → Typed b → length (frame_bytes (mk a c b k d m) n) ≡ n
    → Fine c (sizes_of (mk a c b k d m) (length m) have) n
    → frame_of (frame_bytes (mk a c b k d m) n) a c ≡ given (built_fields (mk a c b k d m) n)
unfolding frame_bytes body_bytes
places a c no_scb k d m n have ty l f =
    let p = mk a c no_scb k d m in
    let x = covered_bytes p n in
    let lx : length x ≡ 6 + length d + length m = length-append (body_bytes a c no_scb k d n) m ∙ ap (λ (j : ℕ). j + length m) (body_length a c no_scb k d n) in
    let len : length (x ++ tail_bytes c.crc x) - (6 + trailer_len c.crc) ≡ length d = omega (arith, f.total, f.macs) in
    frame_none x a c (sym f.flag) (omega arith) ∙ ap given (same_fields a c no_block (tail_of c.crc x) refl refl len refl l)
places a c (scb t bl) k d m n have ty l f =
    let p = mk a c (scb t bl) k d m in
    let x = covered_bytes p n in
    let lx : length x ≡ 8 + length bl + length d + length m = length-append (body_bytes a c (scb t bl) k d n) m ∙ omega (arith, body_length a c (scb t bl) k d n) in
    let r = k ∷ (d ++ (m ++ tail_bytes c.crc x)) in
    let e : drop 5 (x ++ tail_bytes c.crc x) ≡ (length bl + 2) ∷ t ∷ (bl ++ r) = ap (λ (z : List ℕ). (length bl + 2) ∷ t ∷ z) (tail_end bl k d m (tail_bytes c.crc x)) in
    let y = x ++ tail_bytes c.crc x in
    let pre : List ℕ = head_bytes a c n ++ ((length bl + 2) ∷ t ∷ bl) in
    let whole : y ≡ pre ++ r = ap (λ (z : List ℕ). head_bytes a c n ++ ((length bl + 2) ∷ t ∷ z)) (tail_end bl k d m (tail_bytes c.crc x)) in
    let code : get_or y (7 + length bl) 0 ≡ k = ap (λ (z : List ℕ). get_or z (7 + length bl) 0) whole ∙ get_or_at pre k (d ++ (m ++ tail_bytes c.crc x)) 0 (7 + length bl) (omega arith) in
    let start : 7 + length bl + 1 ≡ 6 + length (block_bytes (scb t bl)) = omega arith in
    let len : length y - (7 + length bl + 1 + mac_len_of (has_mac t) + trailer_len c.crc) ≡ length d = omega (arith, f.total, f.macs) in
    let mac : length y - (mac_len_of (has_mac t) + trailer_len c.crc) ≡ 6 + length (block_bytes (scb t bl)) + length d = omega (arith, f.total, f.macs) in
    frame-block x bl r t a c (sym f.flag) ty e (omega (arith, f.macs)) ∙ ap given (same_fields a c (block_at t 7 (length bl)) (tail_of c.crc x) code start len (ap (mac_at_of (has_mac t)) mac) l)

-- A frame that was built is read back: it gives the places of the parts it was built from, whatever follows it.
pub built_reads : (p : FrameParts) (have : ℕ) (b rest : List ℕ) → Typed p.block → build_of p have ≡ given b → parse_of (b ++ rest) ≡ given (built_fields p (length b))
built_reads p have b rest ty e =
    let w = holds_given (Whole p have) (build_of p have) b (whole p have) e in
    let f = w.tests in
    let l = whole_length p have w.n f in
    let lb : w.n ≡ length b = sym l ∙ ap length (sym w.bytes) in
    ap (λ (z : List ℕ). parse_of (z ++ rest)) w.bytes ∙ frame_of_lem p w.n rest l f.most f.sqn
    ∙ places p.addr p.ctrl p.block p.code p.«data» p.mac w.n have ty l f ∙ ap (λ (n : ℕ). given (built_fields p n)) lb
