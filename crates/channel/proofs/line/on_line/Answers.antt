-- `on_line` meets its contract: the bytes that were answered, all where there are fewer, none after a refusal (proofs/Calls).
use mathlib.Core.Path.{◌≡◌, sym}
use mathlib.Core.List.{List}
use Prim.Native.Nat.{ℕ}
use native.Mathlib.Nat.{zero-add}
use native.Mathlib.Omega.{arith}
use denote.Ref.{Bor}
use Rattle.slices.specs.Stretch.{Stretch, stretch_in}
use Rattle.channel.proofs.Calls.{line_of, line_whole, line_none}
use Rattle.channel.proofs.line.on_line.Goals as goal

-- what begins at a slice's first byte is its stretch from 0 on
from_front : (s : Bor (List ℕ)) {b c : List ℕ} → b ≡ c → ◌≡◌ {A = Stretch} (s.ref_ptr, b) (stretch_in s 0 c)
from_front s e = λ i. ((s.ref_ptr.0, sym (zero-add s.ref_ptr.1) i), e i)

pub returns-then-n-out : goal.returns-then-n-out
returns-then-n-out c = let a = c.args in
    from_front a.out (line_of a.answer _ a.out.now c.in-Ok.is)

pub returns-else-n-out : goal.returns-else-n-out
returns-else-n-out c = let a = c.args in
    from_front a.out (line_whole a.answer _ a.out.now c.in-Ok.is (omega arith))

pub returns-in-Err : goal.returns-in-Err
returns-in-Err c = let a = c.args in
    from_front a.out (line_none a.answer _ a.out.now c.in-Err.is)
