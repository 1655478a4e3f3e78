-- `secure_cipher::cipher::encrypt_blocks` meets its contract: before turn i, i blocks are laid, and the rest is what v leads to.
use Prim.Native.Nat.{ℕ, ◌+◌, ◌*◌}
use mathlib.Core.Path.{◌≡◌}
use mathlib.Core.List.{List}
use lib.ListN.{length}
use Rattle.aes.specs.Lent.{table_bytes, key_bytes}
use Rattle.aes.specs.Ready.{encrypt_key}
use Rattle.secure_cipher.specs.Pad.{pad_data}
use Rattle.secure_cipher.proofs.CbcLoop.{Laid, enc_rest}
use Rattle.secure_cipher.proofs.cipher.encrypt_blocks.Given as goal

abbrev pub invariant-loop-i : goal.invariant-loop-i
invariant-loop-i l =
    let p = pad_data l.data in
    let n = length l.whole + 1 in
    (k : List ℕ) → key_bytes l.k ≡ encrypt_key (table_bytes l.t) k → Laid l.initial.out (l.i * 16) (enc_rest k p n l.i l.v) (enc_rest k p n 0 l.initial.v) l.out
