-- `secure_cipher::mac::last_mac_block` meets its contract: a list of whole blocks gets nothing added.
use Prim.Native.Nat.{◌-◌}
use mathlib.Core.Path.{◌∙◌}
use native.Mathlib.Omega.{arith}
use lib.ListN.{length}
use Rattle.secure_cipher.proofs.PadLaws.{pad_mac-full, pad_mac_last}
use Rattle.secure_cipher.proofs.mac.last_mac_block.Goals as goal

pub returns-then-s-eq0 : goal.returns-then-s-eq0
returns-then-s-eq0 c =
    let s = c.args.s.now in
    c.block_at.ensures ∙ pad_mac-full s (length s - 16) (omega arith) (omega arith)

pub returns-else-s-eq0 : goal.returns-else-s-eq0
returns-else-s-eq0 c = c.last_data_block.ensures ∙ pad_mac_last c.args.s.now (λ h. omega arith)
