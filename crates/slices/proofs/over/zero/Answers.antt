-- As many bytes are zeroed as fit: none where the place ends before it starts.
use Rattle.std.proofs.Common.{◌≡◌, ℕ, ◌-◌, length, arith, ap, sym, ◌∙◌}
use Rattle.laws.specs.Bytes.{zeros}
use Rattle.laws.specs.Over.{write}
use Rattle.laws.proofs.Overwrite.{part_write, write_nil}
use Rattle.slices.specs.Place.{fits}
use Rattle.slices.specs.Copy.{zero_of}
use Rattle.slices.proofs.PlaceLaws.{fits_end}
use Rattle.std.proofs.lemmas.Grind.{common_steps}
use Rattle.slices.proofs.over.zero.Goals as goal

pub returns-after-loop-byte : goal.returns-after-loop-byte
unfolding zero_of
returns-after-loop-byte c = let a = c.args in
    let k : fits (length a.out.now) a.at a.n ≡ c.min-end.result - a.at = grind (arith, fits_end) in
    let f : c.loop-byte.byte-items ≡ zeros (c.min-end.result - a.at) = grind (arith, common_steps) in
    grind (arith, common_steps, part_write)

pub returns-else-at-end : goal.returns-else-at-end
unfolding zero_of
returns-else-at-end c = let a = c.args in
    let k : fits (length a.out.now) a.at a.n ≡ 0 = grind (arith, fits_end) in
    sym (ap (λ (m : ℕ). write a.out.now a.at (zeros m)) k ∙ write_nil a.out.now a.at)
