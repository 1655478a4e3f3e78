-- Each return is a case law of proofs/Tests.
use mathlib.Core.Path.{◌≡◌, sym, ap, ◌∙◌}
use mathlib.Core.Bool.{false}
use mathlib.Core.List.{[], ◌∷◌}
use Prim.Native.Nat.{ℕ, ◌+◌}
use native.Mathlib.Omega.{arith}
use Rattle.laws.specs.Answer.{Answer.given, Answer.refused}
use Rattle.packet_head.specs.Trailer.{mac_len_of}
use Rattle.packet_build.specs.Build.{differ, total_len}
use Rattle.packet_build.specs.Tested.{sizes}
use Rattle.packet_build.proofs.Tests.{encode_refused, differ_as, refused-3, refused-11, refused-17, refused-12, refused-18, all-passed}
use Rattle.std.proofs.lemmas.Result.{err_from_is_err_and}
use Rattle.packet_build.proofs.test.test.Goals as goal

pub returns-in_err-byte : goal.returns-in_err-byte
returns-in_err-byte c =
    let p = err_from_is_err_and c.from_residual.result c.from_residual.ensures.1 in
    rw (p.1, p.2) (encode_refused _ _ c.in_err-byte.field-0.0 c.in_err-byte.ensures)

pub returns-then-z-ctrl : goal.returns-then-z-ctrl
returns-then-z-ctrl c = refused-3 _ _ _ c.in_ok-byte.ensures (sym (differ_as _ _) ∙ c.if-z-ctrl.true)

pub returns-then-z-if_on : goal.returns-then-z-if_on
returns-then-z-if_on c = let agree : let a = c.args in differ a.z.has_block a.ctrl.block ≡ false = sym (differ_as _ _) ∙ c.if-z-ctrl.false in
    refused-11 _ _ _ c.in_ok-byte.ensures (agree) (λ e. omega arith)

pub returns-then-z-gt-MAX_SCB_DATA : goal.returns-then-z-gt-MAX_SCB_DATA
returns-then-z-gt-MAX_SCB_DATA c = let agree : let a = c.args in differ a.z.has_block a.ctrl.block ≡ false = sym (differ_as _ _) ∙ c.if-z-ctrl.false in
    let right-mac : let a = c.args in a.z.mac ≡ mac_len_of a.z.mac_due = omega arith in
    refused-17 _ _ _ c.in_ok-byte.ensures (agree) (right-mac) (omega arith)

pub returns-then-total-gt-MAX_LEN : goal.returns-then-total-gt-MAX_LEN
returns-then-total-gt-MAX_LEN c = let agree : let a = c.args in differ a.z.has_block a.ctrl.block ≡ false = sym (differ_as _ _) ∙ c.if-z-ctrl.false in
    let right-mac : let a = c.args in a.z.mac ≡ mac_len_of a.z.mac_due = omega arith in
    let summed : let a = c.args in 6 + c.if_on-2.result + a.z.block_data + a.z.«data» + a.z.mac + c.trailer_len.result ≡ total_len a.ctrl.crc (sizes a.z) = omega arith in
    let t = summed in
    ap (λ (n : ℕ). refused 12 (n ∷ 65535 ∷ [])) t ∙ refused-12 _ _ _ c.in_ok-byte.ensures (agree) (right-mac) (omega arith) (omega arith)

pub returns-then-have-total : goal.returns-then-have-total
returns-then-have-total c = let agree : let a = c.args in differ a.z.has_block a.ctrl.block ≡ false = sym (differ_as _ _) ∙ c.if-z-ctrl.false in
    let right-mac : let a = c.args in a.z.mac ≡ mac_len_of a.z.mac_due = omega arith in
    let summed : let a = c.args in 6 + c.if_on-2.result + a.z.block_data + a.z.«data» + a.z.mac + c.trailer_len.result ≡ total_len a.ctrl.crc (sizes a.z) = omega arith in
    let t = summed in
    ap (λ (n : ℕ). refused 18 (n ∷ c.args.z.room ∷ [])) t
    ∙ refused-18 _ _ _ c.in_ok-byte.ensures (agree) (right-mac) (omega arith) (omega arith) (omega arith)

pub returns : goal.returns
returns c = let agree : let a = c.args in differ a.z.has_block a.ctrl.block ≡ false = sym (differ_as _ _) ∙ c.if-z-ctrl.false in
    let right-mac : let a = c.args in a.z.mac ≡ mac_len_of a.z.mac_due = omega arith in
    let summed : let a = c.args in 6 + c.if_on-2.result + a.z.block_data + a.z.«data» + a.z.mac + c.trailer_len.result ≡ total_len a.ctrl.crc (sizes a.z) = omega arith in
    let t = summed in
    ap (λ (n : ℕ). given (n, c.in_ok-byte.byte)) t
    ∙ all-passed _ _ _ c.in_ok-byte.ensures (agree) (right-mac) (omega arith) (omega arith) (omega arith)
