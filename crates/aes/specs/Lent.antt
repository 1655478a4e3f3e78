-- What is lent for a run of blocks, as bytes: the entries of a table, and the round keys of a key made ready.
-- Assumes nothing.
use Rattle.std.specs.Prelude.{List, ℕ}
use Rattle.aes.specs.declared.lent.Tables.{Tables}
use Rattle.aes.specs.declared.lent.Key.{Key}
use Rattle.aes.specs.Halves.{schedule_of}

abbrev pub table_bytes : Tables → List ℕ
table_bytes t = t.entries.now

abbrev pub key_bytes : Key → List ℕ
key_bytes k = schedule_of k.round_keys
