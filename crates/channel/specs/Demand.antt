-- Demand 3 (docs/PROMISES.md): two conversations, what they agree on, and what is alike in them then. It is proved in proofs/Demand3.
-- Assumes nothing.
use Rattle.std.specs.Prelude.{ℕ, ◌+◌, ◌-◌, ◌≤◌, Bool, true, false, List, [], ◌∷◌, ◌≡◌, length, take}
use Rattle.laws.specs.Answer.{Answer.given}
use Rattle.packet_head.specs.Numbers.{MAC_LEN, CRC_LEN}
use Rattle.packet_parse.specs.Frame.{Fields, mac_start_of, parse_of}
use Rattle.secure_keys.specs.Keys.{Random}
use Rattle.secure_session.specs.Apart.{Apart}
use Rattle.secure_session.specs.Chain.{send_from, recv_from, sent, received}
use Rattle.secure_session.specs.declared.session.Session.{Session}
use Rattle.secure_seal.specs.Seal.{Sealable, data_len_for, total_of, sealed_frame}
use Rattle.channel.specs.Handshake.{Hand, Wires, WiresFit, shake_in, Succeeded}
use Rattle.channel.specs.Talk.{Send, asked_in, Event, transfer, talk}

-- ---- a conversation: the handshake, then any list of sealed frames
pub record Conversation : Type 0 where
  pub controller : Session
  pub reader : Session
  pub wires : Wires
  pub rnd_a : List ℕ
  pub rnd_b : List ℕ
  pub sends : List Send

abbrev pub hand_of : Conversation → Hand
hand_of t = shake_in t.wires t.controller t.reader t.rnd_a t.rnd_b

abbrev pub events_of : Conversation → List Event
events_of t = talk (hand_of t).controller (hand_of t).reader t.sends

-- ---- its premises

-- a sealed frame within limits and buffers; only encrypted data need the work buffer
pub record SendFits (s : Send) : Type 0 where
  pub limits : Sealable (asked_in s)
  pub room : total_of (asked_in s) ≤ length s.out
  pub work : s.encrypt ≡ true → data_len_for s.encrypt s.payload ≤ length s.work

abbrev pub AllFit : List Send → Type 0
AllFit [] = Unit {0}
AllFit (s ∷ ss) = SendFits s × AllFit ss

pub record Proper (t : Conversation) : Type 0 where
  pub apart : Apart t.controller t.reader
  pub wires : WiresFit t.wires
  pub rnd_a : Random t.rnd_a
  pub rnd_b : Random t.rnd_b
  pub sends : AllFit t.sends

-- ---- what two conversations agree on, frame by frame
pub record Agree (s t : Send) : Type 0 where
  pub who : s.who ≡ t.who
  pub addr : s.addr ≡ t.addr
  pub sqn : s.sqn ≡ t.sqn
  pub code : s.code ≡ t.code
  pub size : length s.payload ≡ length t.payload
  pub encrypt : s.encrypt ≡ t.encrypt
  pub plain : s.encrypt ≡ false → s.payload ≡ t.payload

-- R of the first of each list, of the second of each, and so on; the lists are equally long
abbrev pub Each : {A B : Type 0} → (A → B → Type 0) → List A → List B → Type 0
Each R [] [] = Unit {0}
Each R [] (b ∷ bs) = ⊥
Each R (a ∷ xs) [] = ⊥
Each R (a ∷ xs) (b ∷ bs) = R a b × Each R xs bs

-- ---- what is then so

-- a frame was sealed, at its full length, and its payload opens as it was sent
pub record Arrived (s : Send) (e : Event) : Type 0 where
  pub sealed : e.sealed ≡ given (total_of (asked_in s))
  pub size : length e.frame ≡ total_of (asked_in s)
  pub opened : e.opened ≡ given s.payload

-- encrypted data, four bytes of MAC and two of trailer stand at a sealed frame's end
abbrev pub encrypted_len : Bool → List ℕ → ℕ
encrypted_len true x = data_len_for true x
encrypted_len false x = 0

abbrev pub secret_for : Bool → List ℕ → ℕ
secret_for e x = encrypted_len e x + MAC_LEN + CRC_LEN

abbrev pub secret_len : Send → ℕ
secret_len s = secret_for s.encrypt s.payload

-- all bytes but those
abbrev pub open_bytes : Send → List ℕ → List ℕ
open_bytes s f = take (length f - secret_len s) f

-- what was sent, and what came of it; where each frame arrived there are equally many
abbrev pub besides : List Send → List Event → List (Send × Event)
besides [] es = []
besides (s ∷ ss) [] = []
besides (s ∷ ss) (e ∷ es) = (s, e) ∷ besides ss es

abbrev pub passed_in : Conversation → List (Send × Event)
passed_in t = besides t.sends (events_of t)

-- a frame of the one conversation and its like in the other
pub record Alike (x y : Send × Event) : Type 0 where
  pub size : length x.1.frame ≡ length y.1.frame
  pub bytes : open_bytes x.0 x.1.frame ≡ open_bytes y.0 y.1.frame
  pub seal_calls : x.1.seal_calls ≡ y.1.seal_calls
  pub open_calls : x.1.open_calls ≡ y.1.open_calls

pub record Demand3 (t u : Conversation) : Type 0 where
  pub shook₁ : Succeeded (hand_of t)
  pub shook₂ : Succeeded (hand_of u)
  pub arrived₁ : Each Arrived t.sends (events_of t)
  pub arrived₂ : Each Arrived u.sends (events_of u)
  pub alike : Each Alike (passed_in t) (passed_in u)

-- ---- beside it: the compared bytes are all that stand before the encrypted data, or before the MAC, and not one fewer

-- where those start, as reading the frame tells it
abbrev pub secret_from : Bool → Fields → ℕ
secret_from true F = F.data_start
secret_from false F = mac_start_of F.mac

pub record Measured (s : Send) (e : Event) : Type 0 where
  pub fields : Fields
  pub reads : parse_of e.frame ≡ given fields
  pub ends : length (open_bytes s e.frame) ≡ secret_from s.encrypt fields

-- ---- and of one frame: sealed by one end, then unsealed by the other

-- the payload opens as it was sent, both ends moved by the full MAC of that frame, and whichever sends next starts where the other's check does
pub record RoundTrip (from to : Session) (s : Send) : Type 0 where
  pub opened : (transfer from to s).event.opened ≡ given s.payload
  pub sender : (transfer from to s).from ≡ sent from (sealed_frame from.keys (send_from from) (asked_in s)).full
  pub peer : (transfer from to s).to ≡ received to (sealed_frame from.keys (send_from from) (asked_in s)).full
  pub again : send_from (transfer from to s).from ≡ recv_from (transfer from to s).to
  pub reply : send_from (transfer from to s).to ≡ recv_from (transfer from to s).from
