-- What comes of a frame between ends that are ready, and of any list of frames: all that shows of it follows from what was agreed.
-- Assumes nothing.
use mathlib.Core.Bool.{Bool, true, false}
use mathlib.Core.List.{List, [], ◌∷◌, ◌++◌}
use mathlib.Core.Path.{◌≡◌, refl, sym, ap, ap₂, ◌∙◌}
use Prim.Native.Nat.{ℕ, ◌+◌, ◌-◌}
use native.Mathlib.Omega.{arith}
use lib.ListN.{length, take}
use lib.Seq.{length-take-le}
use Rattle.laws.specs.Answer.{Answer.given}
use Rattle.laws.specs.Blocks.{Block}
use Rattle.laws.specs.Over.{write}
use Rattle.laws.proofs.Overwrite.{take-write}
use Rattle.packet_head.specs.Trailer.{Tail}
use Rattle.packet_theorems.proofs.Built.{tail_of}
use Rattle.secure_keys.specs.declared.crypto.SessionKeys.{SessionKeys}
use Rattle.secure_keys.proofs.KeysLaws.{GoodKeys}
use Rattle.secure_session.specs.Chain.{send_from, recv_from, sent, received}
use Rattle.secure_session.specs.Session.{is_secure}
use Rattle.secure_session.specs.declared.session.End.{End}
use Rattle.secure_session.specs.declared.session.End.TheVariants.{Controller, Reader}
use Rattle.secure_session.specs.declared.session.Session.{Session}
use Rattle.secure_session.proofs.Shaken.{Ready}
use Rattle.secure_seal.specs.Seal.{Asked, data_len_for, total_of, Sealable, SealedFrame, body_with, sealed_frame, after_seal, seal_of}
use Rattle.secure_seal.proofs.SealLaws.{seals, steps_for, head_with, fields_with, sealed_data, sealed_mac, full_block, frame-length, frame-steps, head-alone, plain-alone, reads-alone}
use Rattle.secure_unseal.specs.Unseal.{unseal_run, after_unseal, unseal_of}
use Rattle.channel.specs.Carried.{on_line}
use Rattle.channel.specs.Talk.{Send, direction_of, asked_in, Event, showing, transfer, turn, talk}
use Rattle.channel.specs.Demand.{SendFits, AllFit, secret_for, secret_len, open_bytes, Each, Arrived, secret_from, Measured}
use Rattle.channel.proofs.Delivered.{place_for, work_for, unseal-run-eq, shown-eq}
use Rattle.channel.proofs.Ends.{ready-same, ready-other}

-- ---- what is open of a sealed frame, without a key

-- how many bytes are open: up to where reading finds the encrypted data or the MAC
open_end_lem : (q : Asked) (t : Tail) (e : Bool) → q.encrypt ≡ e → total_of q - secret_for e q.payload ≡ secret_from e (fields_with q t)
open_end_lem q t true p = rw p (omega arith)
open_end_lem q t false p = omega arith

unfoldable pub open_for : Bool → Asked → List ℕ
open_for true q = head_with q
open_for false q = head_with q ++ q.payload

module _ (k : SessionKeys) (v : List ℕ) (q : Asked) (hk : GoodKeys k) (hv : Block v) (h : Sealable q) where
  open-part : (e : Bool) → q.encrypt ≡ e
      → take (total_of q - secret_for e q.payload) (sealed_frame k v q).bytes ≡ open_for e q
  unfolding open_for
  open-part true p =
      let n : total_of q - secret_for true q.payload ≡ 8 = rw p (omega arith) in
      rw n (head-alone k v q hk hv h)
  open-part false p =
      let n : total_of q - secret_for false q.payload ≡ 8 + length q.payload = rw p (unfold data_len_for in (omega arith)) in
      rw n (plain-alone k v q hk hv h p)

-- ---- what an event is, said without keys, random numbers and encrypted contents
pub record Heard (s : Send) (e : Event) : Type 0 where
  pub arrived : Arrived s e
  pub measured : Measured s e
  pub bytes : open_bytes s e.frame ≡ open_for s.encrypt (asked_in s)
  pub seal_calls : e.seal_calls ≡ steps_for s.encrypt (length s.payload)
  pub open_calls : e.open_calls ≡ steps_for s.encrypt (length s.payload)

module _ (a b : Session) (s : Send) (r : Ready a b) (g : SendFits s) where
  abbrev made : SealedFrame
  made = sealed_frame a.keys (send_from a) (asked_in s)

  made-length : length made.bytes ≡ total_of (asked_in s)
  made-length = frame-length a.keys (send_from a) (asked_in s) r.good r.block g.limits

  line_eq : take (total_of (asked_in s)) (write s.out 0 made.bytes) ≡ made.bytes
  line_eq = take-write s.out (total_of (asked_in s)) made.bytes (sym made-length)

  -- the sender's call
  sealed-eq : seal_of a (asked_in s) s.out
      ≡ record { answer = given (total_of (asked_in s)); session = sent a made.full; out = write s.out 0 made.bytes; steps = made.steps }
  unfolding seal_of after_seal is_secure
  sealed-eq = rw (seals a.state a.keys (send_from a) (asked_in s) s.out (ap is_secure r.sender) g.limits g.room)

  -- the peer's
  opened-eq : unseal_of b made.bytes s.work
      ≡ record {
        answer = given (place_for s.encrypt (length s.payload));
        session = received b made.full;
        work = work_for s.encrypt s.payload s.work;
        steps = steps_for s.encrypt (length s.payload);
      }
  unfolding unseal_of after_unseal
  opened-eq =
      let e : unseal_run b.state b.keys (recv_from b) made.bytes s.work ≡ unseal_run b.state a.keys (send_from a) made.bytes s.work =
      ap₂ (λ (k : SessionKeys) (v : List ℕ). unseal_run b.state k v made.bytes s.work) (sym r.keys) (sym r.start) in
      rw (
        e,
        unseal-run-eq a.keys (send_from a) s.addr s.sqn (direction_of s.who) s.code s.payload s.work
            r.good r.block s.encrypt b.state r.taker g.limits g.work,
      )

  pub transfer-eq : transfer a b s
      ≡ record {
        from = sent a made.full;
        to = received b made.full;
        out = write s.out 0 made.bytes;
        work = work_for s.encrypt s.payload s.work;
        place = given (place_for s.encrypt (length s.payload));
        event = record {
          sealed = given (total_of (asked_in s));
          frame = made.bytes;
          seal_calls = made.steps;
          opened = given s.payload;
          open_calls = steps_for s.encrypt (length s.payload);
        };
      }
  unfolding transfer on_line showing
  transfer-eq =
      rw (
        sealed-eq,
        line_eq,
        opened-eq,
        shown-eq a.keys (send_from a) s.addr s.sqn (direction_of s.who) s.code s.payload s.work
            r.good r.block s.encrypt g.limits g.work,
      )

  -- what is compared ends where reading says
  abbrev tailMade : Tail
  tailMade = tail_of true (body_with (asked_in s) (sealed_data a.keys (send_from a) (asked_in s)) ++ sealed_mac a.keys (send_from a) (asked_in s))

  made_ends : length (open_bytes s made.bytes) ≡ secret_from s.encrypt (fields_with (asked_in s) tailMade)
  made_ends =
      length-take-le (length made.bytes - secret_len s) made.bytes (omega arith)
      ∙ ap (λ (n : ℕ). n - secret_len s) made-length
      ∙ open_end_lem (asked_in s) tailMade s.encrypt refl

  pub transfer-heard : Heard s (transfer a b s).event
  transfer-heard = rw transfer-eq (record {
    arrived = record { sealed = refl; size = made-length; opened = refl };
    measured = record {
      fields = fields_with (asked_in s) tailMade;
      reads = reads-alone a.keys (send_from a) (asked_in s) r.good r.block g.limits;
      ends = made_ends;
    };
    bytes = rw made-length (open-part a.keys (send_from a) (asked_in s) r.good r.block g.limits s.encrypt refl);
    seal_calls = frame-steps a.keys (send_from a) (asked_in s) r.good r.block g.limits;
    open_calls = refl;
  })

  full-ok : Block made.full
  full-ok = full_block a.keys (send_from a) (asked_in s) r.good r.block g.limits

  -- the ends after it, both ways
  pub transfer-same : Ready (transfer a b s).from (transfer a b s).to
  transfer-same = rw transfer-eq (ready-same a b made.full r full-ok)

  pub transfer-other : Ready (transfer a b s).to (transfer a b s).from
  transfer-other = rw transfer-eq (ready-other a b made.full r full-ok)

-- ---- any list of frames

-- this end may send
unfoldable pub ReadyFrom : End → Session → Session → Type 0
ReadyFrom Controller c r = Ready c r
ReadyFrom Reader c r = Ready r c

-- the end that sends next may
unfoldable pub Able : Session → Session → List Send → Type 0
Able c r [] = Unit {0}
Able c r (s ∷ ss) = ReadyFrom s.who c r

pub any_able : (c r : Session) (ss : List Send) → ((w : End) → ReadyFrom w c r) → Able c r ss
unfolding Able
any_able c r [] h = tt
any_able c r (s ∷ ss) h = h s.who

turn_heard : (w : End) (c r : Session) (s : Send) → ReadyFrom w c r → SendFits s → Heard s (turn w c r s).event
unfolding turn ReadyFrom
turn_heard Controller c r s b g = transfer-heard c r s b g
turn_heard Reader c r s b g = transfer-heard r c s b g

-- after a delivered frame either end may send
turn-any : (w v : End) (c r : Session) (s : Send) → ReadyFrom w c r → SendFits s → ReadyFrom v (turn w c r s).controller (turn w c r s).reader
unfolding turn ReadyFrom
turn-any Controller Controller c r s b g = transfer-same c r s b g
turn-any Controller Reader c r s b g = transfer-other c r s b g
turn-any Reader Controller c r s b g = transfer-other r c s b g
turn-any Reader Reader c r s b g = transfer-same r c s b g

pub talk_heard : (c r : Session) (ss : List Send) → Able c r ss → AllFit ss → Each Heard ss (talk c r ss)
unfolding talk Able
talk_heard c r [] b g = tt
talk_heard c r (s ∷ ss) b g = (
  turn_heard s.who c r s b g.0,
  talk_heard (turn s.who c r s).controller (turn s.who c r s).reader ss (any_able _ _ ss (λ w. turn-any s.who w c r s b g.0)) g.1,
)
