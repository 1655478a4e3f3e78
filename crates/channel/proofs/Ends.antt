-- Two ends that are ready stay so: who sent may send again, and the other may answer. Nothing here opens the chain's five names.
-- Assumes nothing.
use mathlib.Core.List.{List}
use mathlib.Core.Path.{◌≡◌, sym, ◌∙◌}
use Prim.Native.Nat.{ℕ}
use Rattle.laws.specs.Blocks.{Block}
use Rattle.secure_session.specs.Chain.{send_from, recv_from, sent, received}
use Rattle.secure_session.specs.declared.session.Session.{Session}
use Rattle.secure_session.proofs.SessionLaws.{send-sent, recv-sent, sent-state, sent-keys, send-received, recv-received, received-state, received-keys}
use Rattle.secure_session.proofs.Shaken.{Ready}

module _ (a b : Session) (m : List ℕ) where
  -- who sent m starts again where the peer's next check does, if it did so before
  send-again : send_from a ≡ recv_from b → send_from (sent a m) ≡ recv_from (received b m)
  send-again h = send-sent a m ∙ sym (recv-received b m)

  send-again-block : Block (send_from a) → Block m → Block (send_from (sent a m))
  send-again-block ha hm = rw (send-sent a m) hm

  module _ (r : Ready a b) (h : Block m) where
    pub ready-same : Ready (sent a m) (received b m)
    ready-same = record {
      sender = sent-state a m ∙ r.sender;
      taker = received-state b m ∙ r.taker;
      keys = sent-keys a m ∙ r.keys ∙ sym (received-keys b m);
      start = send-again r.start;
      good = rw (sent-keys a m) r.good;
      block = send-again-block r.block h;
    }

    pub ready-other : Ready (received b m) (sent a m)
    ready-other = record {
      sender = received-state b m ∙ r.taker;
      taker = sent-state a m ∙ r.sender;
      keys = received-keys b m ∙ sym r.keys ∙ sym (sent-keys a m);
      start = send-received b m ∙ sym (recv-sent a m);
      good = rw (received-keys b m, ← r.keys) r.good;
      block = rw (send-received b m) h;
    }
