-- The tests as the paper has them, for four bytes of MAC; then the body is written.
use Rattle.std.proofs.Common.{length, sym, ap, ◌∙◌, arith, None}
use Rattle.std.proofs.lemmas.Result.{err_from_is_err_and}
use Rattle.laws.specs.Answer.{Answer.given}
use Rattle.laws.specs.Buffer.{sized, written}
use Rattle.refusal.specs.Paper.{number_of, values_of}
use Rattle.packet_build.specs.Build.{FrameParts, parts_given, test_of, sizes_of}
use Rattle.packet_build.proofs.Tests.{with_given, with_refused}
use Rattle.packet_build.proofs.Sizes.{fine_parts, bytes_n_is, body_length}
use Rattle.packet_build.proofs.Frames.{body_given, body_refused_lem}
use Rattle.packet_build.proofs.codec.build_body.Goals as goal

pub put_body-requires : goal.put_body-requires
put_body-requires c =
    let a = c.args in
    let p : FrameParts = parts_given a.w a.block.now a.«data».now None in
    let t = c.in_ok-tested.tested in
    let k = with_given p.ctrl (test_of p.ctrl (sizes_of p 4 (length a.out.now))) t.total t.ctrl c.in_ok-tested.ensures in
    let f = fine_parts p 4 (length a.out.now) t.total k.0 in
    (k.1, f.small, omega (arith, f.most), omega (arith, f.total, f.room, bytes_n_is p.block))

pub returns : goal.returns
returns c =
    let a = c.args in
    let o = a.out.now in
    let p : FrameParts = parts_given a.w a.block.now a.«data».now None in
    let t = c.in_ok-tested.tested in
    let k = with_given p.ctrl (test_of p.ctrl (sizes_of p 4 (length o))) t.total t.ctrl c.in_ok-tested.ensures in
    let n = c.put_body in
    let e = sym (body_given p (length o) t.total k.0) in
    record {
      result_value = ap given (n.ensures.value ∙ sym (body_length p.addr p.ctrl p.block p.code p.«data» t.total)) ∙ ap sized e;
      out_after = n.ensures.out_after ∙ ap (written o) e;
    }

pub returns-in_err-tested : goal.returns-in_err-tested
returns-in_err-tested c =
    let a = c.args in
    let o = a.out.now in
    let p : FrameParts = parts_given a.w a.block.now a.«data».now None in
    let x = c.in_err-tested.field-0.0 in
    let h = with_refused p.ctrl (test_of p.ctrl (sizes_of p 4 (length o))) x c.in_err-tested.ensures in
    let e = sym (body_refused_lem p (length o) (number_of x) (values_of x) h) in
    let q = err_from_is_err_and c.from_residual.result c.from_residual.ensures.1 in
    rw (q.1, q.2) (record { result_value = ap sized e; out_after = ap (written o) e })
