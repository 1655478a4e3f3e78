-- Sealed frames between two ends (docs/RULES.md, 8), each delivered as it was sent, once, before the next is sent.
-- Assumes nothing.
use Rattle.std.specs.Prelude.{ℕ, Bool, List, [], ◌∷◌}
use Rattle.laws.specs.Answer.{Answer, Answer.given, Answer.refused}
use Rattle.secure_session.specs.declared.session.End.{End}
use Rattle.secure_session.specs.declared.session.End.TheVariants.{Controller, Reader}
use Rattle.secure_session.specs.declared.session.Session.{Session}
use Rattle.secure_seal.specs.declared.frame.Direction.{Direction}
use Rattle.secure_seal.specs.declared.frame.Direction.TheVariants.{AcuToPd, PdToAcu}
use Rattle.secure_seal.specs.Seal.{Asked, seal_of}
use Rattle.secure_unseal.specs.Unseal.{Place, unseal_of, place_answer}
use Rattle.secure_unseal.specs.Lookup.{payload_shown}
use Rattle.refusal.specs.Reading.{length_answer}
use Rattle.channel.specs.Carried.{on_line}
use Rattle.channel.specs.declared.frames.ToTransfer.{ToTransfer}
use Rattle.channel.specs.declared.frames.Transferred.{Transferred}

-- one frame of a conversation: who sends, what, and the buffers: `out` at the sender, `work` at the peer
pub record Send : Type 0 where
  pub who : End
  pub addr : ℕ
  pub sqn : ℕ
  pub code : ℕ
  pub encrypt : Bool
  pub payload : List ℕ
  pub out : List ℕ
  pub work : List ℕ

-- each end names its own direction
abbrev pub direction_of : End → Direction
direction_of Controller = AcuToPd
direction_of Reader = PdToAcu

abbrev pub asked_in : Send → Asked
asked_in s = record { addr = s.addr; sqn = s.sqn; direction = direction_of s.who; encrypt = s.encrypt; code = s.code; payload = s.payload }

-- what comes of it: what the seal answered, the frame on the line, the payload as the peer is shown it, and both ends' cipher calls
pub record Event : Type 0 where
  pub sealed : Answer ℕ
  pub frame : List ℕ
  pub seal_calls : ℕ
  pub opened : Answer (List ℕ)
  pub open_calls : ℕ

-- the payload, looked up where the unseal said
unfoldable pub showing : List ℕ → List ℕ → Answer Place → Answer (List ℕ)
showing f w (given p) = given (payload_shown p.in_work p.start p.len f w)
showing f w (refused n vs) = refused n vs

-- the sender and the peer after it, both buffers, and where the peer found the payload
pub record Moved : Type 0 where
  pub from : Session
  pub to : Session
  pub out : List ℕ
  pub work : List ℕ
  pub place : Answer Place
  pub event : Event

-- one end seals, and the other unseals what is on the line
unfoldable pub transfer : Session → Session → Send → Moved
transfer from to s =
    let x = seal_of from (asked_in s) s.out in
    let f = on_line x.answer x.out in
    let y = unseal_of to f s.work in
    record {
      from = x.session;
      to = y.session;
      out = x.out;
      work = y.work;
      place = y.answer;
      event = record {
        sealed = x.answer;
        frame = f;
        seal_calls = x.steps;
        opened = showing f y.work y.answer;
        open_calls = y.steps;
      };
    }

-- both ends after it
pub record Turned : Type 0 where
  pub controller : Session
  pub reader : Session
  pub event : Event

unfoldable pub turn : End → Session → Session → Send → Turned
turn Controller c r s = let m = transfer c r s in record { controller = m.from; reader = m.to; event = m.event }
turn Reader c r s = let m = transfer r c s in record { controller = m.to; reader = m.from; event = m.event }

-- any list of frames, from either end in any order; nothing else changes the sessions
unfoldable pub talk : Session → Session → List Send → List Event
talk c r [] = []
talk c r (s ∷ ss) =
    let t = turn s.who c r s in
    t.event ∷ talk t.controller t.reader ss

-- ---- the code's kinds, as the paper has them; `o` and `w` are the buffers in the end

abbrev pub send_of : ToTransfer → List ℕ → List ℕ → List ℕ → Send
send_of t x o w = record { who = t.who; addr = t.addr.0; sqn = t.sqn.0; code = t.code; encrypt = t.encrypt; payload = x; out = o; work = w }

abbrev pub transfer_told : Transferred → List ℕ → List ℕ → Moved
transfer_told r o w =
    record {
      from = r.from;
      to = r.to;
      out = o;
      work = w;
      place = place_answer r.opened;
      event = record {
        sealed = length_answer r.sealed;
        frame = on_line (length_answer r.sealed) o;
        seal_calls = r.seal_calls;
        opened = showing (on_line (length_answer r.sealed) o) w (place_answer r.opened);
        open_calls = r.open_calls;
      };
    }
