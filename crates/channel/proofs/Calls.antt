-- The two calls that hand a frame over: what their callees promised, put together; and that their promises settle them.
-- Assumes nothing.
use mathlib.Core.Bool.{true}
use mathlib.Core.List.{List, []}
use mathlib.Core.Path.{◌≡◌, refl, sym, ap, ap₂, ◌∙◌}
use Prim.Native.Nat.{ℕ, ◌<◌}
use native.Mathlib.Omega.{arith}
use lib.ListN.{length, take, drop}
use lib.Seq.{take_all}
use Rattle.laws.specs.Answer.{Answer, Answer.given, Answer.refused}
use Rattle.laws.specs.Buffer.{sized, written}
use Rattle.refusal.specs.Reading.{length_answer}
use Rattle.std.specs.Prelude.{Some, None, Result, Ok, Err}
use Rattle.refusal.specs.declared.Refusal.{Refusal}
use Rattle.refusal.proofs.OneReading.{length_settled}
use Rattle.packet_head.specs.Header.{Control, control}
use Rattle.packet_head.specs.Block.{type_of}
use Rattle.packet_head.specs.declared.header.ControlByte.{ControlByte}
use Rattle.packet_parse.specs.Frame.{Fields, parse_of}
use Rattle.packet_build.specs.Build.{FrameBlock.scb, FrameParts, build_of, parts_given}
use Rattle.packet_view.specs.View.{Span, span, Shown, places_of, places_told, bytes_at, data_in, payload_of}
use Rattle.packet_view.specs.declared.parts.Places.{Places}
use Rattle.packet_view.specs.declared.parts.Span as parts
use Rattle.secure_session.specs.declared.session.Session.{Session}
use Rattle.secure_seal.specs.Seal.{SealDone, seal_of, seal_told}
use Rattle.secure_session.specs.declared.session.Processed.{Processed}
use Rattle.secure_unseal.specs.Unseal.{UnsealDone, unseal_of, unseal_told}
use Rattle.secure_unseal.specs.declared.frame.PayloadPlace.{PayloadPlace}
use Rattle.secure_unseal.proofs.Settled.{place_settled}
use Rattle.channel.specs.Carried.{Wire, wire_parts, on_line, Carriage, carriage, wire_of, carriage_told}
use Rattle.channel.specs.Talk.{Send, asked_in, showing, Moved, transfer, transfer_told}
use Rattle.channel.specs.declared.frames.Transferred.{Transferred}
use Rattle.channel.specs.declared.messages.ToCarry.{ToCarry}
use Rattle.channel.specs.declared.messages.CarriedMessage.{CarriedMessage}

-- ---- what is on the line

pub line_of : (x : Result ℕ Refusal) (n : ℕ) (o : List ℕ) → x ≡ Ok n → take n o ≡ on_line (length_answer x) o
unfolding on_line
line_of x n o e = ap (λ (y : Result ℕ Refusal). on_line (length_answer y) o) (sym e)

pub line_whole : (x : Result ℕ Refusal) (n : ℕ) (o : List ℕ) → x ≡ Ok n → length o < n → o ≡ on_line (length_answer x) o
line_whole x n o e h = sym (take_all n o (omega arith)) ∙ line_of x n o e

pub line_none : (x : Result ℕ Refusal) (e : Refusal) (o : List ℕ) → x ≡ Err e → take 0 o ≡ on_line (length_answer x) o
unfolding on_line
line_none x e o p = ap (λ (y : Result ℕ Refusal). on_line (length_answer y) o) (sym p)

-- ---- a sealed frame

module _ (from to : Session) (s : Send) (x : Processed ℕ) (u : Processed PayloadPlace) (o w f : List ℕ) where
  -- what the peer's call makes of it
  abbrev atPeer : UnsealDone → Moved
  atPeer d = record {
    from = x.session;
    to = d.session;
    out = o;
    work = d.work;
    place = d.answer;
    event = record {
      sealed = length_answer x.answer;
      frame = on_line (length_answer x.answer) o;
      seal_calls = x.calls;
      opened = showing (on_line (length_answer x.answer) o) d.work d.answer;
      open_calls = d.steps;
    };
  }

  -- and what both make of what the seal left
  abbrev fromSender : SealDone → Moved
  fromSender d =
      let l = on_line d.answer d.out in
      let y = unseal_of to l s.work in
      record {
        from = d.session;
        to = y.session;
        out = d.out;
        work = y.work;
        place = y.answer;
        event = record { sealed = d.answer; frame = l; seal_calls = d.steps; opened = showing l y.work y.answer; open_calls = y.steps };
      }

  pub transferred-as : seal_told x o ≡ seal_of from (asked_in s) s.out → f ≡ on_line (length_answer x.answer) o → unseal_told u w ≡ unseal_of to f s.work
      → transfer_told (record { sealed = x.answer; seal_calls = x.calls; opened = u.answer; open_calls = u.calls; from = x.session; to = u.session }) o w ≡ transfer from to s
  unfolding transfer
  transferred-as p l q = ap atPeer (q ∙ ap (λ (b : List ℕ). unseal_of to b s.work) l) ∙ ap fromSender p

pub transfer_settled : (r s : Transferred) (o p w x : List ℕ) → transfer_told r o w ≡ transfer_told s p x → (r ≡ s) × (o ≡ p) × (w ≡ x)
transfer_settled r s o p w x e = (
  λ i. record {
    sealed = length_settled r.sealed s.sealed (ap (λ (m : Moved). m.event.sealed) e) i;
    seal_calls = (e i).event.seal_calls;
    opened = place_settled r.opened s.opened (ap (λ (m : Moved). m.place) e) i;
    open_calls = (e i).event.open_calls;
    from = (e i).from;
    to = (e i).to;
  },
  ap (λ (m : Moved). m.out) e,
  ap (λ (m : Moved). m.work) e,
)

-- ---- a message of the handshake

-- what the frame of a message is made of is what `build` is given, with no MAC
pub wire_given : (w : ToCarry) (l o x : List ℕ) (ctrl : ControlByte) → control ctrl ≡ record { sqn = w.sqn.0; crc = w.use_crc; block = true }
    → parts_given (record { addr = w.addr; ctrl = ctrl; block = Some w.ty; code = w.code }) l x None ≡ wire_parts (type_of w.ty) (wire_of w l o) x
wire_given w l o x ctrl e = ap (λ (t : Control). record { addr = w.addr.0; ctrl = t; block = scb (type_of w.ty) l; code = w.code; «data» = x; mac = [] }) e

read_there : (f : List ℕ) (a : Answer Fields) → take (places_of a).payload.len (drop (places_of a).payload.at f) ≡ bytes_at f data_in a
unfolding places_of
read_there f (given F) = refl
read_there f (refused n vs) = refl

pub payload_there : (f : List ℕ) → take (places_of (parse_of f)).payload.len (drop (places_of (parse_of f)).payload.at f) ≡ payload_of f
unfolding payload_of
payload_there f = read_there f (parse_of f)

module _ (ty : ℕ) (w : Wire) (x : List ℕ) (q : FrameParts) (r : Result ℕ Refusal) (p : Result Places Refusal) (t : parts.Span) (o f : List ℕ) (Given-eq : q ≡ wire_parts ty w x) where
  pub carried-as : length_answer r ≡ sized (build_of q (length w.out)) → o ≡ written w.out (build_of q (length w.out))
      → f ≡ on_line (length_answer r) o → places_told p ≡ places_of (parse_of f) → span t ≡ (places_told p).payload
      → carriage_told (record { sent = r; place = t }) o ≡ carriage ty w x
  unfolding carriage
  carried-as hr ho hf hp ht =
      let b : build_of q (length w.out) ≡ build_of (wire_parts ty w x) (length w.out) = ap (λ (t : FrameParts). build_of t (length w.out)) Given-eq in
      let r₁ = hr ∙ ap sized b in
      let o₁ = ho ∙ ap (written w.out) b in
      let l₁ = ap₂ on_line r₁ o₁ in
      let p₁ = ht ∙ ap (λ (s : Shown). s.payload) hp ∙ ap (λ (l : List ℕ). (places_of (parse_of l)).payload) (hf ∙ l₁) in
      let x₁ = ap₂ (λ (l : List ℕ) (t : Span). take t.len (drop t.at l)) l₁ p₁ ∙ payload_there _ in
      (λ i. record { sent = r₁ i; out = o₁ i; place = p₁ i; read = x₁ i })

pub carriage_settled : (r s : CarriedMessage) (o p : List ℕ) → carriage_told r o ≡ carriage_told s p → (r ≡ s) × (o ≡ p)
carriage_settled r s o p e = (
  λ i. record { sent = length_settled r.sent s.sent (ap (λ (c : Carriage). c.sent) e) i; place = record { at = (e i).place.at; len = (e i).place.len } },
  ap (λ (c : Carriage). c.out) e,
)
