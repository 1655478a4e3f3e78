-- `aes_field::field::pack` meets its contract: std reads back the bytes that it wrote.
use mathlib.Core.Path.{sym, ◌∙◌}
use borrow.Author.Rules.{rules}
use Rattle.std.proofs.lemmas.Nat.{le_bytes_8}
use Rattle.aes_field.proofs.Packing.{le_bytes_unpacked}
use Rattle.aes_field.proofs.field.pack.Goals as goal

pub returns : goal.returns
returns c = sym (le_bytes_unpacked _) ∙ le_bytes_8 c.args.bytes _ (search rules) (search rules) c.from_le_bytes.ensures
