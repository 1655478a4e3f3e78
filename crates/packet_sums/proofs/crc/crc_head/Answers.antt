-- The pairs behind FF FF, and perhaps one byte more.
use Rattle.std.proofs.Common.{get_or-drop, ◌≡◌, ℕ, suc, ◌+◌, ◌*◌, ◌/◌, ◌^◌, ◌<◌, List, [], length, get_or, take, drop, sym, ap, ◌∙◌, ap₂, arith, rules, lit<}
use Rattle.std.specs.Int.{w16, from_be_bytes}
use Rattle.std.proofs.Math.Nat.{pow-le-pow_right}
use lib.Seq.{take_all, take-add}
use lib.ListN.{length-take}
use borrow.Author.Tests.{eqb-true}
use Rattle.laws.proofs.ByteLists.{bytes_take}
use Rattle.laws.proofs.Lists.{part_length, nothing}
use Rattle.packet_sums.specs.Crc.{crc_start, crc_byte, crc_of}
use Rattle.packet_sums.specs.Word.{word_from, crc_word}
use Rattle.packet_sums.proofs.CrcLaws.{crc_nil, crc-take}
use Rattle.packet_sums.proofs.WordLaws.{word_nil, word-append, word_lt, chunk_at, pair_below}
use Rattle.packet_sums.proofs.Step.{word-start}
use Rattle.packet_sums.proofs.crc.crc_head.Goals as goal

pub returns-then-is_empty : goal.returns-then-is_empty
returns-then-is_empty c = let s = c.args.head.now in sym (crc_nil crc_start) ∙ ap crc_of (nothing s (eqb-true (length s) 0 (sym c.is_empty.ensures ∙ c.if-is_empty.true)))

pub loop-pair-init : goal.loop-pair-init
loop-pair-init c = search (rules, word_nil)

pub loop-pair-preserved : goal.loop-pair-preserved
loop-pair-preserved c =
    let l = c.loop-pair in
    let s = c.args.head.now in
    let i = l.pair-index in
    let k = length s / 2 in
    let h : i < k = omega arith in
    let q : get_or c.as_chunks.result.0.now i [] ≡ take 2 (drop (i * 2) s) = ap (λ (cs : List (List ℕ)). get_or cs i []) c.as_chunks.ensures.front ∙ chunk_at 2 k s i [] h in
    let b = λ (j : ℕ). (c.type_inv.head j).fits in
    let small : l.word < 2 ^ 48 = omega (arith, l.invariant, word_lt (take (i * 2) s) 0xFFFF 16 (bytes_take (i * 2) s b) (lit< tt), pow-le-pow_right {n = 2} (lit< tt) {i = 16 + 8 * length (take (i * 2) s)} {j = 48} (omega (arith, length-take (i * 2) s))) in
    pair_below l.word c.from.result (take 2 (drop (i * 2) s)) small (omega arith) (c.from.ensures ∙ c.from_be_bytes.ensures ∙ ap (from_be_bytes w16) q) (part_length s (i * 2) 2 (omega arith))
    ∙ ap (λ (x : ℕ). word_from x (take 2 (drop (i * 2) s))) l.invariant ∙ sym (word-append 0xFFFF (take (i * 2) s) (take 2 (drop (i * 2) s))) ∙ ap (word_from 0xFFFF) (sym (take-add (i * 2) 2 s) ∙ ap (λ (n : ℕ). take n s) (omega arith))

pub returns-in-empty : goal.returns-in-empty
returns-in-empty c =
    let s = c.args.head.now in
    let i = c.loop-pair.pair-index in
    c.crc_word-even.ensures ∙ ap (crc_word 8) (c.loop-pair.invariant ∙ ap (word_from 0xFFFF) (take_all (i * 2) s (omega arith)))
    ∙ word-start s (λ j. (c.type_inv.head j).fits) (omega arith)

pub returns-in-len1-up : goal.returns-in-len1-up
returns-in-len1-up c =
    let s = c.args.head.now in
    let k = c.loop-pair.pair-index * 2 in
    let even : c.crc_word-even.result ≡ crc_of (take k s) =
    c.crc_word-even.ensures ∙ ap (crc_word 8) c.loop-pair.invariant ∙ word-start (take k s) (bytes_take k s (λ j. (c.type_inv.head j).fits)) (omega (arith, length-take k s)) in
    let back : get_or c.as_chunks.result.1.now 0 0 ≡ get_or s k 0 =
    ap (λ (l : List ℕ). get_or l 0 0) c.as_chunks.ensures.back ∙ get_or-drop (length s / 2 * 2) s 0 0 ∙ ap (λ (m : ℕ). get_or s m 0) (omega arith) in
    c.crc_byte.ensures ∙ ap₂ crc_byte even back ∙ sym (crc-take s crc_start k (omega arith)) ∙ ap crc_of (take_all (suc k) s (omega arith))
