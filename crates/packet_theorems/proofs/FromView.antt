-- Read, then built: what the view of an accepted frame shows builds its first LEN bytes again (docs/RULES.md, 3.6 and 12.2).
-- Assumes nothing.
use Rattle.std.specs.Prelude.{Option, Some, None, Ok}
use mathlib.Core.Path.{◌≡◌, refl, sym, ap, ap₂, ◌∙◌}
use mathlib.Core.Bool.{Bool, cond}
use mathlib.Core.List.{List, [], ◌∷◌, ◌++◌}
use Prim.Native.Nat.{ℕ, ◌≤◌}
use native.Mathlib.Omega.{arith}
use borrow.Author.Tests.{eq-eqb}
use lib.ListN.{length, get_or, take, drop, take-append-drop}
use lib.Seq.{length-take-le}
use denote.Ref.{Bor}
use Rattle.laws.specs.Answer.{Answer, Answer.given, Answer.refused}
use Rattle.laws.specs.Bytes.{Bytes}
use Rattle.laws.proofs.Answers.{given-refused}
use Rattle.laws.proofs.Lists.{nothing}
use Rattle.laws.proofs.Listed.{all_listed}
use Rattle.packet_head.specs.Header.{control}
use Rattle.packet_head.proofs.Types.{type_range}
use Rattle.packet_parse.specs.Frame.{Fields, BlockAt, BlockAt.no_block, BlockAt.block_at, MacAt, MacAt.no_mac, MacAt.mac_from, type_in, parse_of}
use Rattle.packet_parse.proofs.Within.{accepted_inside}
use Rattle.packet_parse.proofs.MacDue.{TypeKnown, accepted-due}
use Rattle.packet_build.specs.Build.{FrameParts, FrameBlock.scb, scb_given, mac_bytes, parts_given, build_of}
use Rattle.packet_head.specs.declared.scb.ScsType.{ScsType}
use Rattle.packet_build.specs.declared.codec.PacketBuilder.{PacketBuilder}
use Rattle.packet_view.specs.View.{Shown, places_of, places_told, viewed, kind_of, block_in, mac_in, block_data_of, payload_of, frame_mac_of}
use Rattle.packet_view.specs.declared.parts.Places.{Places}
use Rattle.packet_view.specs.declared.view.PacketView.{PacketView}
use Rattle.packet_view.proofs.ShownLaws.{accepted-block-data, mac-length}
use Rattle.packet_theorems.specs.ViewBuild.{shown_of, type_asked, block_data_asked, ShowsPacket, block_shown, packet_shown, mac_shown}
use Rattle.packet_theorems.proofs.Rebuilt.{frame_block_from, parts_from, accepted_rebuilds}
use Rattle.packet_theorems.proofs.Seen.{block_data_in, block-data-seen, payload-seen, mac-seen}

-- a view that tells no refusal is of a frame that was accepted
read_as_lem : (x : Answer Fields) → (places_of x).outcome ≡ given tt → (F : Fields) × (x ≡ given F)
unfolding places_of
read_as_lem (given F) h = (F, refl)
read_as_lem (refused n vs) h = absurd (given-refused (sym h))

same_block : (B : BlockAt) (f : List ℕ) (b : Option ScsType) (l : List ℕ) → TypeKnown B → type_in B ≡ type_asked b → block_data_in (frame_block_from B f) ≡ block_data_asked b l
    → frame_block_from B f ≡ scb_given b l
same_block no_block f None l k t d = refl
same_block no_block f (Some ty) l k t d = absurd (omega (arith, (type_range ty).0))
same_block (block_at ty start len) f None l k t d = absurd (omega arith)
same_block (block_at ty start len) f (Some a) l k t d = ap₂ scb t d

-- Whatever is given to `build`, if the view of s shows it, builds the first n bytes of s, in any buffer that has the room.
pub shown_builds : (s : List ℕ) (w : PacketBuilder) (l d : List ℕ) (m : Option (List ℕ)) (n : ℕ) → Bytes s → ShowsPacket s w l d m n → (have : ℕ) → n ≤ have
    → build_of (parts_given w l d m) have ≡ given (take n s)
unfolding places_of
shown_builds s w l d m n b h have room =
    let r = read_as_lem (parse_of s) h.accepted in
    let F = r.0 in
    let e : parse_of s ≡ given F = r.1 in
    let f = take F.len s in
    let rest = drop F.len s in
    let k : F.len ≡ n = sym (ap (λ (x : Answer Fields). (places_of x).len) e) ∙ h.len in
    let cut : f ++ rest ≡ s = take-append-drop F.len s in
    let g : parse_of (f ++ rest) ≡ given F = ap parse_of cut ∙ e in
    let lf : F.len ≡ length f = sym (length-take-le F.len s (accepted_inside s F e).most) in
    let ea : F.addr ≡ w.addr.0 = sym (ap (λ (x : Answer Fields). (places_of x).addr) e) ∙ h.addr in
    let ec : F.ctrl ≡ control w.ctrl = sym (ap (λ (x : Answer Fields). (places_of x).ctrl) e) ∙ h.ctrl in
    let et : type_in F.block ≡ type_asked w.block = sym (ap (λ (x : Answer Fields). (places_of x).type) e) ∙ h.type in
    let ek : F.code ≡ w.code = sym (ap (λ (x : Answer Fields). (places_of x).code) e) ∙ h.code in
    let eb : frame_block_from F.block f ≡ scb_given w.block l =
    same_block F.block f w.block l (accepted-due s F e).0 et (sym (block-data-seen f rest F g lf) ∙ ap block_data_of cut ∙ h.block) in
    let ed : (parts_from f F).«data» ≡ d = sym (payload-seen f rest F g lf) ∙ ap payload_of cut ∙ h.payload in
    let em : (parts_from f F).mac ≡ mac_bytes m = sym (mac-seen f rest F g lf) ∙ ap frame_mac_of cut ∙ h.mac in
    let same : parts_from f F ≡ parts_given w l d m = λ i. record { addr = ea i; ctrl = ec i; block = eb i; code = ek i; «data» = ed i; mac = em i } in
    ap (λ (p : FrameParts). build_of p have) (sym same) ∙ accepted_rebuilds s F b e have (omega arith) ∙ ap (λ (j : ℕ). given (take j s)) k

-- ---- from a view

kind_asked : (k : Option ScsType) → kind_of k ≡ type_asked (block_shown k)
kind_asked None = refl
kind_asked (Some ty) = refl

no_block_data : (B : BlockAt) (s : List ℕ) → TypeKnown B → type_in B ≡ 0 → take (block_in B).len (drop (block_in B).at s) ≡ []
no_block_data no_block s k e = refl
no_block_data (block_at ty start len) s k e = absurd (omega arith)

shown_data : (k : Option ScsType) (l : List ℕ) → (kind_of k ≡ 0 → l ≡ []) → l ≡ block_data_asked (block_shown k) l
shown_data None l h = h refl
shown_data (Some ty) l h = refl

mac_of_length : (m : MacAt) (l : List ℕ) → length l ≡ (mac_in m).len → l ≡ mac_bytes (mac_shown l)
mac_of_length no_mac l e = let z : [] ≡ l = nothing l e in sym z ∙ ap (λ (x : List ℕ). mac_bytes (mac_shown x)) z
mac_of_length (mac_from at) l e =
    sym (all_listed l 4 e)
    ∙ ap (λ (t : Bool). mac_bytes (cond t (Some (get_or l 0 0 ∷ get_or l 1 0 ∷ get_or l 2 0 ∷ get_or l 3 0 ∷ [])) None)) (sym (eq-eqb (length l) 4 e))

-- v is the view of s that `PacketView::parse` gives, and it tells the places p
module _ (s : Bor (List ℕ)) (v : PacketView) (e : viewed v ≡ (s, shown_of s.now)) (p : Places) (done : v.read ≡ Ok p) where
  told : places_told (Ok p) ≡ shown_of s.now
  told = ap places_told (sym done) ∙ ap (λ (y : Bor (List ℕ) × Shown). y.1) e

  -- what `build` can be given from it is what it shows
  pub view-shows-packet : ShowsPacket s.now (packet_shown p) (block_data_of s.now) (payload_of s.now) (mac_shown (frame_mac_of s.now)) p.len
  unfolding places_of
  view-shows-packet =
      let accepted : (shown_of s.now).outcome ≡ given tt = sym (ap (λ (x : Shown). x.outcome) told) in
      let r = read_as_lem (parse_of s.now) accepted in
      let F = r.0 in
      let g : parse_of s.now ≡ given F = r.1 in
      let type : (shown_of s.now).type ≡ kind_of p.block = sym (ap (λ (x : Shown). x.type) told) in
      let et : type_in F.block ≡ kind_of p.block = sym (ap (λ (x : Answer Fields). (places_of x).type) g) ∙ type in
      record {
        accepted = accepted;
        addr = sym (ap (λ (x : Shown). x.addr) told);
        ctrl = sym (ap (λ (x : Shown). x.ctrl) told);
        type = type ∙ kind_asked p.block;
        code = sym (ap (λ (x : Shown). x.code) told);
        len = sym (ap (λ (x : Shown). x.len) told);
        block = shown_data p.block (block_data_of s.now) (λ z. accepted-block-data s.now F g ∙ no_block_data F.block s.now (accepted-due s.now F g).0 (et ∙ z));
        payload = refl;
        mac = mac_of_length F.mac (frame_mac_of s.now) (mac-length s.now F g);
      }

  -- `build` of it gives the first LEN bytes that the view was made of
  pub view-builds : Bytes s.now → (have : ℕ) → p.len ≤ have
      → build_of (parts_given (packet_shown p) (block_data_of s.now) (payload_of s.now) (mac_shown (frame_mac_of s.now))) have ≡ given (take p.len s.now)
  view-builds b have room =
      shown_builds s.now (packet_shown p) (block_data_of s.now) (payload_of s.now) (mac_shown (frame_mac_of s.now)) p.len b view-shows-packet have room
