-- Triple i stands at i times three.
use mathlib.Core.Path.{sym, ap, ◌∙◌}
use mathlib.Core.Option.{some}
use Prim.Native.Nat.{◌*◌, ◌/◌}
use native.Mathlib.Omega.{arith}
use lib.ListN.{length}
use Rattle.body_message.specs.Message.{triple_widths, triple_of, triple_numbers}
use Rattle.body_message.proofs.FieldLaws.{record-in, record-out}
use Rattle.body_read.proofs.Cases.{triple_record, triples_all}
use Rattle.body_read.proofs.lookup.triple_in.Goals as goal

pub returns-then-payload-i : goal.returns-then-payload-i
returns-then-payload-i c = let a = c.args in
    sym (triples_all a.payload.now a.i ∙ record-out triple_widths triple_of triple_numbers (length a.payload.now / 3) a.i a.payload.now (omega arith))

pub returns : goal.returns
returns c = let a = c.args in
    ap some (triple_record a.payload.now (a.i * 3) (omega arith))
    ∙ sym (triples_all a.payload.now a.i ∙ record-in triple_widths triple_of triple_numbers (length a.payload.now / 3) a.i a.payload.now (omega arith))
