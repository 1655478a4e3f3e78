-- At the places that reading gives stand the parts that were built.
-- Assumes nothing.
use mathlib.Core.Path.{◌≡◌, refl, ap, ◌∙◌}
use mathlib.Core.List.{List, [], ◌∷◌, ◌++◌, append_assoc}
use mathlib.Core.Bool.{Bool, true, false, cond}
use Prim.Native.Nat.{ℕ, ◌+◌}
use native.Mathlib.Omega.{arith}
use lib.ListN.{length, take, drop, length-append}
use lib.Seq.{take_at}
use Rattle.laws.specs.Answer.{Answer.given}
use Rattle.packet_head.specs.Header.{Control}
use Rattle.laws.proofs.Answers.{holds_given}
use Rattle.laws.proofs.Lists.{middle, nothing}
use Rattle.packet_parse.specs.Frame.{parse_of, mac_at_of}
use Rattle.packet_build.specs.Build as made
use Rattle.packet_build.specs.Build.{FrameParts, FrameBlock, FrameBlock.no_scb, FrameBlock.scb, block_bytes, head_bytes, tail_bytes, frame_bytes, covered_bytes, body_bytes, build_of}
use Rattle.packet_build.proofs.Sizes.{Whole, whole}
use Rattle.packet_theorems.proofs.Built.{place_of, built_fields, Typed, tail_end, built_reads}
use Rattle.packet_theorems.proofs.Rebuilt.{frame_block_from, mac_bytes_from, parts_from}

mac-taken : (t : Bool) (q m r : List ℕ) (i : ℕ) → length q ≡ i → length m ≡ cond t 4 0 → mac_bytes_from (mac_at_of t i) (q ++ (m ++ r)) ≡ m
mac-taken true q m r i e f = middle q m r i 4 e f
mac-taken false q m r i e f = nothing m f

block-taken : (a : ℕ) (c : Control) (b : FrameBlock) (k : ℕ) (d m t : List ℕ) (n : ℕ) → frame_block_from (place_of b) (body_bytes a c b k d n ++ m ++ t) ≡ b
unfolding body_bytes
block-taken a c no_scb k d m t n = refl
block-taken a c (scb ty l) k d m t n = ap (scb ty) (ap (take (length l)) (tail_end l k d m t) ∙ take_at l (k ∷ (d ++ (m ++ t))) (length l) refl)

same_parts : (a : ℕ) (c : Control) (k : ℕ) {b b' : FrameBlock} {d d' m m' : List ℕ} → b ≡ b' → d ≡ d' → m ≡ m'
    → ◌≡◌ {A = FrameParts} (record { addr = a; ctrl = c; block = b; code = k; «data» = d; mac = m }) (record { addr = a; ctrl = c; block = b'; code = k; «data» = d'; mac = m' })
same_parts a c k eb ed em = λ i. record { addr = a; ctrl = c; block = eb i; code = k; «data» = ed i; mac = em i }

contents : (p : FrameParts) (n : ℕ) → length p.mac ≡ cond (made.due p.block) 4 0 → parts_from (frame_bytes p n) (built_fields p n) ≡ p
unfolding frame_bytes body_bytes
contents p n lm =
    let q = head_bytes p.addr p.ctrl n ++ block_bytes p.block ++ (p.code ∷ []) in
    let t = tail_bytes p.ctrl.crc (covered_bytes p n) in
    let lq : length q ≡ 6 + length (block_bytes p.block) = simp length-append (omega arith) in
    let f : frame_bytes p n ≡ q ++ (p.«data» ++ (p.mac ++ t)) = append_assoc (q ++ p.«data») p.mac t ∙ append_assoc q p.«data» (p.mac ++ t) in
    let g : frame_bytes p n ≡ q ++ p.«data» ++ (p.mac ++ t) = append_assoc (q ++ p.«data») p.mac t in
    same_parts p.addr p.ctrl p.code
    (block-taken p.addr p.ctrl p.block p.code p.«data» p.mac t n)
    (ap (λ (z : List ℕ). take (length p.«data») (drop (6 + length (block_bytes p.block)) z)) f ∙ middle q p.«data» (p.mac ++ t) _ _ lq refl)
    (ap (mac_bytes_from (mac_at_of (made.due p.block) (6 + length (block_bytes p.block) + length p.«data»))) g ∙ mac-taken (made.due p.block) (q ++ p.«data») p.mac t _ (simp length-append (omega arith)) lm)

-- What was built is accepted, whatever follows it, and what stands at the places that reading shows is what it was built from.
pub built_reads_back : (p : FrameParts) (have : ℕ) (b rest : List ℕ) → Typed p.block → build_of p have ≡ given b
    → (parse_of (b ++ rest) ≡ given (built_fields p (length b))) × (parts_from b (built_fields p (length b)) ≡ p)
built_reads_back p have b rest ty e =
    let w = holds_given (Whole p have) (build_of p have) b (whole p have) e in
    (built_reads p have b rest ty e, ap (λ (z : List ℕ). parts_from z (built_fields p (length b))) w.bytes ∙ contents p w.n w.tests.macs)
