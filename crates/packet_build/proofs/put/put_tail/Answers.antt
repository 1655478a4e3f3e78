-- The trailer is taken over what stands before it, then laid behind that.
use mathlib.Core.Path.{◌≡◌, ap, ◌∙◌}
use mathlib.Core.List.{[], ◌∷◌}
use Prim.Native.Nat.{ℕ, ◌+◌, ◌-◌}
use borrow.Author.Rules.{rules}
use native.Mathlib.Omega.{arith}
use lib.ListN.{length}
use Rattle.laws.specs.Over.{write}
use Rattle.laws.proofs.Overwrite.{set-write, part_write}
use Rattle.packet_build.proofs.put.put_tail.Goals as goal

pub returns-then-crc : goal.returns-then-crc
returns-then-crc c = let a = c.args in
    let o = a.out.now in
    let e = c.crc16_le-two.ensures in
    let r = rw c.if-crc.true at c.requires in
    let k : c.copy_from_slice.new.self ≡ c.crc16_le-two.result = search rules in
    let m : length c.copy_from_slice.new.self ≡ a.at + 2 - a.at = ap length (k ∙ e) ∙ omega arith in
    rw c.if-crc.true (record { value = omega arith; out_after = part_write o a.at (a.at + 2 - a.at) _ m ∙ ap (write o a.at) (k ∙ e) })

pub returns-else-crc : goal.returns-else-crc
returns-else-crc c = let a = c.args in
    let o = a.out.now in
    let r = rw c.if-crc.false at c.requires in
    rw c.if-crc.false (record { value = omega arith; out_after = set-write o a.at _ (omega (arith, r)) ∙ ap (λ (v : ℕ). write o a.at (v ∷ [])) c.checksum8.ensures })
