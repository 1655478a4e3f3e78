-- `secure_cipher::mac::chain` meets its contract: the blocks that are left make of v what all make of the first value.
use mathlib.Core.Path.{◌≡◌}
use mathlib.Core.List.{List}
use Prim.Native.Nat.{ℕ}
use lib.ListN.{drop}
use Rattle.aes.specs.Lent.{table_bytes, key_bytes}
use Rattle.aes.specs.Ready.{encrypt_key}
use Rattle.secure_cipher.specs.Parts.{chained}
use Rattle.secure_cipher.proofs.mac.chain.Given as goal

abbrev pub invariant-loop-b : goal.invariant-loop-b
invariant-loop-b l = (k : List ℕ) → key_bytes l.k ≡ encrypt_key (table_bytes l.t) k → chained k l.v (drop l.b-index l.blocks) ≡ chained k l.initial.v l.blocks
