-- `secure_cipher::cipher::decrypt_blocks` meets its contract: before turn i, i blocks are laid, and the rest is what v leads to.
use Prim.Native.Nat.{ℕ, ◌*◌}
use mathlib.Core.Path.{◌≡◌}
use mathlib.Core.List.{List}
use lib.ListN.{length}
use Rattle.aes.specs.Lent.{key_bytes}
use Rattle.aes.specs.Ready.{encrypt_tables, decrypt_key}
use Rattle.secure_cipher.proofs.CbcLoop.{Laid, dec_rest}
use Rattle.secure_cipher.proofs.cipher.decrypt_blocks.Given as goal

abbrev pub invariant-loop-i : goal.invariant-loop-i
invariant-loop-i l =
    let n = length l.whole in
    (k : List ℕ) → key_bytes l.k ≡ decrypt_key encrypt_tables k → Laid l.initial.out (l.i * 16) (dec_rest k l.ct n l.i l.v) (dec_rest k l.ct n 0 l.initial.v) l.out
