-- The tests as the paper has them; then body, MAC and trailer are written one after the other (proofs/Frames).
use Rattle.std.proofs.Common.{◌≡◌, ℕ, length, refl, sym, ap, ◌∙◌, arith}
use Rattle.std.proofs.lemmas.Result.{err_from_is_err_and}
use Rattle.laws.specs.Answer.{Answer, Answer.given}
use Rattle.laws.specs.Buffer.{sized, written}
use Rattle.refusal.specs.Paper.{number_of, values_of}
use Rattle.packet_head.specs.Header.{ctrl_byte}
use Rattle.packet_build.specs.Build.{FrameParts, parts_given, test_of, sizes_of}
use Rattle.packet_build.specs.Tested.{with_ctrl}
use Rattle.packet_build.proofs.Tests.{with_given, with_refused}
use Rattle.packet_build.proofs.Sizes.{fine_parts, bytes-length}
use Rattle.packet_build.proofs.Frames.{build_given, build_refused, mac-fits, covered-written, frame-written}
use Rattle.packet_build.proofs.codec.build.Goals as goal

-- the tests of p, asked with n bytes of MAC, as many as it has
module _ (p : FrameParts) (n have : ℕ) (e : n ≡ length p.mac) where
  asked : {a : Answer (ℕ × ℕ)} → a ≡ with_ctrl p.ctrl (test_of p.ctrl (sizes_of p n have))
      → a ≡ with_ctrl p.ctrl (test_of p.ctrl (sizes_of p (length p.mac) have))
  asked h = h ∙ ap (λ (m : ℕ). with_ctrl p.ctrl (test_of p.ctrl (sizes_of p m have))) e

  passed : (total ctrl : ℕ) → given (total, ctrl) ≡ with_ctrl p.ctrl (test_of p.ctrl (sizes_of p n have))
      → (test_of p.ctrl (sizes_of p (length p.mac) have) ≡ given total) × (ctrl ≡ ctrl_byte p.ctrl)
  passed total ctrl h = with_given p.ctrl (test_of p.ctrl (sizes_of p (length p.mac) have)) total ctrl (asked h)

pub put_body-n-requires : goal.put_body-n-requires
put_body-n-requires c =
    let a = c.args in
    let p = parts_given a.w a.block.now a.«data».now a.mac in
    let t = c.in_ok-tested.tested in
    let k = passed p c.mac_size.result (length a.out.now) c.mac_size.ensures.0 t.total t.ctrl c.in_ok-tested.ensures in
    let f = fine_parts p (length p.mac) (length a.out.now) t.total k.0 in
    let r = mac-fits p a.out.now t.total f _ refl in
    (k.1, f.small, omega arith, omega arith)

pub put_mac-m-requires : goal.put_mac-m-requires
put_mac-m-requires c =
    let a = c.args in
    let p = parts_given a.w a.block.now a.«data».now a.mac in
    let t = c.in_ok-tested.tested in
    let k = passed p c.mac_size.result (length a.out.now) c.mac_size.ensures.0 t.total t.ctrl c.in_ok-tested.ensures in
    let f = fine_parts p (length p.mac) (length a.out.now) t.total k.0 in
    let r = mac-fits p a.out.now t.total f _ c.put_body-n.ensures.value in
    omega arith

pub put_tail-requires : goal.put_tail-requires
put_tail-requires c =
    let a = c.args in
    let p = parts_given a.w a.block.now a.«data».now a.mac in
    let t = c.in_ok-tested.tested in
    let k = passed p c.mac_size.result (length a.out.now) c.mac_size.ensures.0 t.total t.ctrl c.in_ok-tested.ensures in
    let f = fine_parts p (length p.mac) (length a.out.now) t.total k.0 in
    let r = mac-fits p a.out.now t.total f _ c.put_body-n.ensures.value in
    omega arith

pub returns : goal.returns
returns c =
    let a = c.args in
    let o = a.out.now in
    let p = parts_given a.w a.block.now a.«data».now a.mac in
    let t = c.in_ok-tested.tested in
    let k = passed p c.mac_size.result (length o) c.mac_size.ensures.0 t.total t.ctrl c.in_ok-tested.ensures in
    let f = fine_parts p (length p.mac) (length o) t.total k.0 in
    let n = c.put_body-n in
    let m = c.put_mac-m in
    let e = sym (build_given p (length o) t.total k.0) in
    record {
      result_value = ap given (omega (arith, n.ensures.value, m.ensures.value, c.put_tail.ensures.value, bytes-length p t.total)) ∙ ap sized e;
      out_after =
          frame-written p o t.total f _ _ n.result m.result n.ensures.value m.ensures.value
          (covered-written p o t.total f _ _ n.result n.ensures.value n.ensures.out_after m.ensures.out_after) c.put_tail.ensures.out_after
          ∙ ap (written o) e;
    }

pub returns-in_err-tested : goal.returns-in_err-tested
returns-in_err-tested c =
    let a = c.args in
    let o = a.out.now in
    let p = parts_given a.w a.block.now a.«data».now a.mac in
    let x = c.in_err-tested.field-0.0 in
    let h = with_refused p.ctrl (test_of p.ctrl (sizes_of p (length p.mac) (length o))) x (asked p c.mac_size.result (length o) c.mac_size.ensures.0 c.in_err-tested.ensures) in
    let e = sym (build_refused p (length o) (number_of x) (values_of x) h) in
    let q = err_from_is_err_and c.from_residual.result c.from_residual.ensures.1 in
    rw (q.1, q.2) (record { result_value = ap sized e; out_after = ap (written o) e })
