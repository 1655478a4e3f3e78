-- What is summed up, with the bits of the bytes that are left, is the whole number.
use mathlib.Core.Path.{◌≡◌}
use Prim.Native.Nat.{◌^◌, ◌<◌}
use lib.ListN.{drop}
use Rattle.body_message.specs.Lookup.{all_bits, binary}
use Rattle.body_read.proofs.badge.bits_as_number.Given as goal

abbrev pub invariant-loop-b : goal.invariant-loop-b
invariant-loop-b l = record { fits : l.a < 256 ^ l.b-index; whole : binary l.a (all_bits (drop l.b-index l.bytes)) ≡ binary 0 (all_bits l.bytes) }
