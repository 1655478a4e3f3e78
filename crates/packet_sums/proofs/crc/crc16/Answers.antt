-- The head's value, and then a word after the other.
use Rattle.std.proofs.Common.{◌≡◌, ℕ, ◌+◌, ◌*◌, ◌/◌, ◌%◌, ◌^◌, List, [], length, get_or, take, drop, sym, ap, ◌∙◌, ap₂, arith, drop_of_length-le, drop-drop, length-drop}
use Rattle.std.specs.Int.{w64, from_be_bytes}
use lib.Bits.{bit_xor}
use Rattle.laws.proofs.ByteLists.{bytes_take, bytes_drop}
use Rattle.laws.proofs.Lists.{part_length}
use Rattle.packet_sums.specs.Crc.{crc_start, crc_from, crc_of}
use Rattle.packet_sums.specs.Word.{word_from, crc_word}
use Rattle.packet_sums.proofs.CrcLaws.{crc_nil, crc-cut}
use Rattle.packet_sums.proofs.Step.{word_step}
use Rattle.packet_sums.proofs.WordLaws.{word_eight, chunk_at}
use Rattle.packet_sums.proofs.crc.crc16.Goals as goal

pub loop-word-init : goal.loop-word-init
loop-word-init c =
    let s = c.args.bytes.now in
    let r = length s % 8 in
    (omega arith, ap (λ (x : ℕ). crc_from x (drop r s)) (c.crc_head-crc.ensures ∙ ap crc_of c.as_rchunks.ensures.front) ∙ crc-cut s crc_start r)

pub loop-word-preserved : goal.loop-word-preserved
loop-word-preserved c =
    let l = c.loop-word in
    let s = c.args.bytes.now in
    let t : List ℕ = drop (length s % 8) s in
    let i = l.word-index in
    let u : List ℕ = drop (i * 8) t in
    let w : List ℕ = take 8 u in
    let n = length-drop (length s % 8) s in
    let b : length w ≡ 8 = part_length t (i * 8) 8 (omega arith) in
    let q : get_or c.as_rchunks.result.1.now i [] ≡ w = ap (λ (cs : List (List ℕ)). get_or cs i []) c.as_rchunks.ensures.back ∙ chunk_at 8 (length s / 8) t i [] (omega arith) in
    let g : c.from_be_bytes.result ≡ word_from 0 w = c.from_be_bytes.ensures ∙ ap (from_be_bytes w64) q ∙ word_eight w b in
    let e : c.crc_word-crc.result ≡ crc_from l.crc w =
    c.crc_word-crc.ensures ∙ ap₂ (λ (x y : ℕ). crc_word 8 (bit_xor (x * 2 ^ 48 % 2 ^ 64) y)) c.from.ensures g
    ∙ word_step l.crc w l.invariant.0 (bytes_take 8 u (bytes_drop (i * 8) t (bytes_drop (length s % 8) s (λ j. (c.type_inv.bytes j).fits)))) b in
    let m : (i + 1) * 8 ≡ i * 8 + 8 = omega arith in
    (omega arith, ap₂ crc_from e (ap (λ (k : ℕ). drop k t) m ∙ sym (drop-drop 8 (i * 8) t)) ∙ crc-cut u l.crc 8 ∙ l.invariant.1)

pub returns : goal.returns
returns c =
    let s = c.args.bytes.now in
    let t : List ℕ = drop (length s % 8) s in
    let l = c.loop-word in
    let n = length-drop (length s % 8) s in
    sym (crc_nil l.crc) ∙ ap (crc_from l.crc) (sym (drop_of_length-le t {i = l.word-index * 8} (omega arith))) ∙ l.invariant.1
