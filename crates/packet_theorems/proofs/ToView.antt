-- Built, then read: the view of what `build` wrote shows what `build` was given (docs/RULES.md, 12.2).
-- Assumes nothing.
use Rattle.std.specs.Prelude.{Option, Some, None}
use mathlib.Core.Path.{◌≡◌, refl, sym, ap, subst, ◌∙◌}
use mathlib.Core.List.{List, ◌++◌}
use Prim.Native.Nat.{ℕ, ◌+◌}
use lib.ListN.{length, drop}
use Rattle.laws.specs.Answer.{Answer, Answer.given, Answer.refused}
use Rattle.laws.specs.Buffer.{sized, written}
use Rattle.laws.specs.Over.{write}
use Rattle.laws.proofs.Answers.{given_inj, given-refused}
use Rattle.packet_head.proofs.Types.{type-taken}
use Rattle.packet_parse.specs.Frame.{Fields, type_in, parse_of}
use Rattle.packet_build.specs.Build.{FrameParts, scb_given, parts_given, build_of}
use Rattle.packet_head.specs.declared.scb.ScsType.{ScsType}
use Rattle.packet_build.specs.declared.codec.PacketBuilder.{PacketBuilder}
use Rattle.packet_view.specs.View.{places_of}
use Rattle.packet_theorems.specs.ViewBuild.{type_asked, block_data_asked, ShowsPacket}
use Rattle.packet_theorems.proofs.Built.{Typed, place_of, built_fields}
use Rattle.packet_theorems.proofs.ReadBack.{built_reads_back}
use Rattle.packet_theorems.proofs.Seen.{block_data_in, block-data-seen, payload-seen, mac-seen}

asked_typed : (b : Option ScsType) (l : List ℕ) → Typed (scb_given b l)
asked_typed None l = tt
asked_typed (Some ty) l = type-taken ty

asked_type : (b : Option ScsType) (l : List ℕ) → type_in (place_of (scb_given b l)) ≡ type_asked b
asked_type None l = refl
asked_type (Some ty) l = refl

asked_data : (b : Option ScsType) (l : List ℕ) → block_data_in (scb_given b l) ≡ block_data_asked b l
asked_data None l = refl
asked_data (Some ty) l = refl

-- Bytes b that were built, with any bytes after them, are accepted, and their view shows what was given.
pub built_shows : (w : PacketBuilder) (l d : List ℕ) (m : Option (List ℕ)) (have : ℕ) (b rest : List ℕ) → build_of (parts_given w l d m) have ≡ given b
    → ShowsPacket (b ++ rest) w l d m (length b)
unfolding places_of
built_shows w l d m have b rest e =
    let p = parts_given w l d m in
    let F = built_fields p (length b) in
    let r = built_reads_back p have b rest (asked_typed w.block l) e in
    let k : parse_of (b ++ rest) ≡ given F = r.0 in
    record {
      accepted = ap (λ (x : Answer Fields). (places_of x).outcome) k;
      addr = ap (λ (x : Answer Fields). (places_of x).addr) k;
      ctrl = ap (λ (x : Answer Fields). (places_of x).ctrl) k;
      type = ap (λ (x : Answer Fields). (places_of x).type) k ∙ asked_type w.block l;
      code = ap (λ (x : Answer Fields). (places_of x).code) k;
      len = ap (λ (x : Answer Fields). (places_of x).len) k;
      block = block-data-seen b rest F k refl ∙ ap (λ (q : FrameParts). block_data_in q.block) r.1 ∙ asked_data w.block l;
      payload = payload-seen b rest F k refl ∙ ap (λ (q : FrameParts). q.«data») r.1;
      mac = mac-seen b rest F k refl ∙ ap (λ (q : FrameParts). q.mac) r.1;
    }

-- `build` on a buffer o answers n: the view of the buffer, as it is then, shows what was given.
pub build_then_view : (w : PacketBuilder) (l d : List ℕ) (m : Option (List ℕ)) (o : List ℕ) (n : ℕ) → sized (build_of (parts_given w l d m) (length o)) ≡ given n
    → ShowsPacket (written o (build_of (parts_given w l d m) (length o))) w l d m n
unfolding write
build_then_view w l d m o n e = go (build_of (parts_given w l d m) (length o)) refl e
  where
    go : (x : Answer (List ℕ)) → build_of (parts_given w l d m) (length o) ≡ x → sized x ≡ given n → ShowsPacket (written o x) w l d m n
    go (given b) h k = subst (λ (j : ℕ). ShowsPacket (b ++ drop (0 + length b) o) w l d m j) (given_inj (length b) n k) (built_shows w l d m (length o) b (drop (0 + length b) o) h)
    go (refused c vs) h k = absurd (given-refused (sym k))
