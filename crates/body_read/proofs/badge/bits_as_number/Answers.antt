-- What is summed up, with the bits of the bytes that are left, is the whole number.
use mathlib.Core.Path.{sym, ◌∙◌}
use native.Mathlib.Omega.{arith}
use Prim.Native.Nat.{◌<◌}
use Rattle.body_message.proofs.BadgeLaws.{bits_end}
use Rattle.body_read.proofs.Summed.{room, below_more, summed_more}
use Rattle.body_read.proofs.badge.bits_as_number.Goals as goal

pub overflow_mul-a : goal.overflow_mul-a
overflow_mul-a c = omega (arith, room c.loop-b.a c.loop-b.b-index c.loop-b.invariant.fits (omega arith))

pub loop-b-preserved : goal.loop-b-preserved
loop-b-preserved c =
    let s = c.args.bytes.now in
    let l = c.loop-b in
    let byte : c.from.result < 256 = omega (arith, c.from.ensures, c.type_inv.bytes l.b-index) in
    record {
      fits = below_more l.a l.b-index c.from.result l.invariant.fits byte;
      whole = summed_more s l.a l.b-index c.from.result (omega arith) c.from.ensures byte ∙ l.invariant.whole;
    }

pub returns : goal.returns
returns c = sym (bits_end c.loop-b.a c.loop-b.b-index c.args.bytes.now (omega arith)) ∙ c.loop-b.invariant.whole
