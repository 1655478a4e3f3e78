-- A message that is framed within limits and buffers is read as it was sent.
-- Assumes nothing.
use mathlib.Core.Bool.{Bool, true, false}
use mathlib.Core.List.{List, [], append-nil}
use mathlib.Core.Path.{◌≡◌, refl, sym, ap, ◌∙◌}
use Prim.Native.Nat.{ℕ, ◌≤◌}
use native.Mathlib.Omega.{arith}
use lib.ListN.{length, take}
use Rattle.laws.specs.Answer.{Answer.given}
use Rattle.laws.specs.Over.{write}
use Rattle.laws.proofs.Overwrite.{take-write}
use Rattle.packet_head.specs.Block.{has_mac, scs_of}
use Rattle.packet_head.specs.Trailer.{trailer_len, mac_len_of}
use Rattle.packet_parse.specs.Frame.{parse_of}
use Rattle.packet_build.specs.Build.{FrameParts, total_len, test_of, sizes_of, frame_bytes, build_of}
use Rattle.packet_build.proofs.Sizes.{passes}
use Rattle.packet_build.proofs.Frames.{build_given}
use Rattle.packet_view.specs.View.{payload_of}
use Rattle.packet_theorems.proofs.Built.{built_fields}
use Rattle.packet_theorems.proofs.ReadBack.{built_reads_back}
use Rattle.channel.specs.Carried.{Wire, wire_parts, wire_sizes, on_line, carriage, carried, WireFits}

tail_most : (t : Bool) → trailer_len t ≤ 2
tail_most true = omega arith
tail_most false = omega arith

module _ (ty : ℕ) (w : Wire) (x : List ℕ) (known : scs_of ty ≡ given ty) (bare : has_mac ty ≡ false) (small : length x ≤ 32) (h : WireFits w (length x)) where
  abbrev parts : FrameParts
  parts = wire_parts ty w x

  abbrev total : ℕ
  total = total_len w.use_crc (wire_sizes w (length x))

  passed : test_of parts.ctrl (sizes_of parts 0 (length w.out)) ≡ given total
  passed =
      passes parts.ctrl (sizes_of parts 0 (length w.out)) total (record {
        sqn = h.sqn;
        flag = refl;
        macs = ap mac_len_of (sym bare);
        total = refl;
        most = omega (arith, tail_most w.use_crc, h.block);
        room = h.room;
        small = h.block;
      })

  built : build_of parts (length w.out) ≡ given (frame_bytes parts total)
  built = build_given parts (length w.out) total passed

  sent : take (length (frame_bytes parts total)) (write w.out 0 (frame_bytes parts total)) ≡ frame_bytes parts total
  sent = take-write w.out (length (frame_bytes parts total)) (frame_bytes parts total) refl

  reads : parse_of (frame_bytes parts total) ≡ given (built_fields parts (length (frame_bytes parts total)))
  reads = ap parse_of (sym (append-nil (frame_bytes parts total))) ∙ (built_reads_back parts (length w.out) (frame_bytes parts total) [] known built).0

  pub carried-eq : carried ty w x ≡ x
  unfolding carried carriage on_line payload_of
  carried-eq =
      rw (built, sent, reads)
      (ap (λ (p : FrameParts). p.«data») (built_reads_back parts (length w.out) (frame_bytes parts total) [] known built).1)
