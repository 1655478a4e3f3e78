-- A block from `aes::round::Halves` meets its contract: the bytes of one half, and those of the other behind them.
use mathlib.Core.Path.{ap₂, ◌∙◌}
use mathlib.Core.List.{List, ◌++◌}
use Prim.Native.Nat.{ℕ}
use lib.ListN.{replicate}
use borrow.Rule.Slice.PartMut.{put_mid}
use Rattle.aes_field.specs.Packed.{unpacked}
use Rattle.aes.proofs.round.ArrayU816FromHalves.from.Goals as goal

pub returns : goal.returns
unfolding unpacked
returns c =
    ap₂ (λ (l m : List ℕ). put_mid 8 8 (l ++ replicate 8 0) m)
    (c.copy_from_slice.ensures.after ∙ c.unpack.ensures) (c.copy_from_slice-2.ensures.after ∙ c.unpack-2.ensures)
