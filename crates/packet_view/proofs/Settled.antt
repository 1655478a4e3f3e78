-- The places and the view have one reading, so a promise on it settles them. A part of the frame is settled by `stretch_settled` (Stretches).
-- Assumes nothing.
use mathlib.Core.Path.{◌≡◌, refl, ap}
use mathlib.Core.Bool.{cond}
use mathlib.Core.List.{List}
use Prim.Native.Nat.{ℕ}
use lib.Dec.{eqb}
use denote.Ref.{Bor}
use Rattle.laws.proofs.Answers.{one_reading}
use Rattle.std.specs.Prelude.{Option, Some, None, Result, Ok, Err}
use Rattle.refusal.specs.declared.Refusal.{Refusal}
use Rattle.refusal.proofs.OneReading.{told_back, answer_from}
use Rattle.packet_head.specs.declared.trailer.Trailer.{Trailer}
use Rattle.packet_head.specs.declared.scb.ScsType.{ScsType}
use Rattle.packet_head.specs.declared.scb.ScsType.TheVariants.{Scs11, Scs12, Scs13, Scs14, Scs15, Scs16, Scs17, Scs18}
use Rattle.packet_head.proofs.Settled.{control_from, type_from, trailer_from, trailer_back}
use Rattle.packet_view.specs.View.{Shown, kind_of, places_told, viewed}
use Rattle.packet_view.specs.declared.parts.Places.{Places}
use Rattle.packet_view.specs.declared.view.PacketView.{PacketView}

-- ---- the block's kind

abbrev kind_from : ℕ → Option ScsType
kind_from n = cond (eqb n 0) None (Some (type_from n))

present_back : (t : ScsType) → kind_from (kind_of (Some t)) ≡ Some t
present_back Scs11 = refl
present_back Scs12 = refl
present_back Scs13 = refl
present_back Scs14 = refl
present_back Scs15 = refl
present_back Scs16 = refl
present_back Scs17 = refl
present_back Scs18 = refl

kind_back : (k : Option ScsType) → kind_from (kind_of k) ≡ k
kind_back None = refl
kind_back (Some t) = present_back t

-- ---- the places

abbrev places_with : Shown → Option ScsType → Trailer → Places
places_with x k t =
    record {
      addr = record { 0 = x.addr };
      ctrl = control_from x.ctrl;
      block = k;
      code = x.code;
      trailer = t;
      len = x.len;
      block_data = record { at = x.block.at; len = x.block.len };
      payload = record { at = x.payload.at; len = x.payload.len };
      mac = record { at = x.mac.at; len = x.mac.len };
    }

abbrev accepted_from : Shown → Places
accepted_from x = places_with x (kind_from x.type) (trailer_from x.trailer)

accepted_back : (p : Places) → accepted_from (places_told (Ok p)) ≡ p
accepted_back p = λ i. places_with (places_told (Ok p)) (kind_back p.block i) (trailer_back p.trailer i)

abbrev places_from : Shown → Result Places Refusal
places_from x = answer_from (λ done. accepted_from x) x.outcome

places_back : (r : Result Places Refusal) → places_from (places_told r) ≡ r
places_back (Ok p) = ap Ok (accepted_back p)
places_back (Err e) = ap Err (told_back e)

pub places_settled : (p q : Result Places Refusal) → places_told p ≡ places_told q → p ≡ q
places_settled = one_reading places_told places_from places_back

-- what a view tells, likewise
pub told_settled : (p q : Places) → places_told (Ok p) ≡ places_told (Ok q) → p ≡ q
told_settled = one_reading (λ p. places_told (Ok p)) accepted_from accepted_back

-- ---- the view: a frame, and what the places tell

abbrev pub view_with : Bor (List ℕ) → Result Places Refusal → PacketView
view_with s r = record { frame = s; read = r }

view_back : (v : PacketView) → view_with (viewed v).0 (places_from (viewed v).1) ≡ v
view_back v = ap (view_with v.frame) (places_back v.read)

pub view_settled : (v w : PacketView) → viewed v ≡ viewed w → v ≡ w
view_settled = one_reading viewed (λ x. view_with x.0 (places_from x.1)) view_back
