-- The MAC's four bytes are copied; where there is none, nothing is written.
use mathlib.Core.Path.{sym}
use native.Mathlib.Omega.{arith}
use Rattle.laws.proofs.Overwrite.{write_nil}
use Rattle.slices.proofs.CopyLaws.{copied_all}
use Rattle.packet_build.proofs.put.put_mac.Goals as goal

pub returns-in-None : goal.returns-in-None
returns-in-None c = rw c.in-None.is (record { value = omega arith; out_after = sym (write_nil _ _) })

pub returns-in-Some : goal.returns-in-Some
returns-in-Some c = let r = rw c.in-Some.is at c.requires in
    rw c.in-Some.is (record { value = omega arith; out_after = copied_all c.args.out.now c.args.at _ c.copy.ensures.out_after (omega arith) })
