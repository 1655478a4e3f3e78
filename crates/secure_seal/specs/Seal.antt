-- Sealing (docs/RULES.md, 8.1, 8.2 and 9): a core that knows no session, and the call on a session.
-- Assumes nothing.
use Rattle.std.specs.Prelude.{ℕ, ◌+◌, ◌≤◌, ◌<◌, Bool, true, false, not, List, [], ◌∷◌, ltb, length, take}
use Rattle.std.proofs.Math.Option.{Option, none, some}
use Rattle.laws.specs.Answer.{Answer, Answer.given, Answer.refused, refuse_if}
use Rattle.laws.specs.Bytes.{Bytes, compl}
use Rattle.laws.specs.Over.{write}
use Rattle.packet_head.specs.Numbers.{MAX_SQN, SCB_DATA_AT, CODE_LEN, MAC_LEN, CRC_LEN, MAX_LEN}
use Rattle.packet_head.specs.Header.{Control}
use Rattle.packet_build.specs.Build.{FrameBlock.scb, FrameParts, body_bytes, frame_bytes}
use Rattle.secure_keys.specs.declared.crypto.SessionKeys.{SessionKeys}
use Rattle.refusal.specs.Reading.{length_answer}
use Rattle.secure_cipher.specs.Mac.{mac_of}
use Rattle.secure_cipher.specs.Cbc.{Hidden, hide, hidden_len}
use Rattle.secure_session.specs.Chain.{send_from, sent}
use Rattle.secure_session.specs.Session.{is_secure}
use Rattle.secure_session.specs.declared.session.State.{State}
use Rattle.secure_session.specs.declared.session.Session.{Session}
use Rattle.secure_session.specs.declared.session.Processed.{Processed}
use Rattle.secure_seal.specs.declared.frame.Direction.{Direction}
use Rattle.secure_seal.specs.declared.frame.Direction.TheVariants.{AcuToPd, PdToAcu}
use Rattle.secure_seal.specs.declared.frame.ToSeal.{ToSeal}

-- 15 or 17 from the controller, 16 or 18 from the reader
unfoldable pub type_for : Direction → Bool → ℕ
type_for AcuToPd false = 0x15
type_for PdToAcu false = 0x16
type_for AcuToPd true = 0x17
type_for PdToAcu true = 0x18

-- ---- the frame, from keys, a start value and the fields alone

-- how much data a payload becomes
unfoldable pub data_len_for : Bool → List ℕ → ℕ
data_len_for false x = length x
data_len_for true x = hidden_len x

-- the frame's data: the payload, or the payload enciphered from the complement of the start value
unfoldable pub data_of : Bool → List ℕ → List ℕ → List ℕ → Hidden
data_of false k v x = record { bytes = x; steps = 0 }
data_of true k v x = hide k (compl v) x

-- what `seal` is asked to write
pub record Asked : Type 0 where
  pub addr : ℕ
  pub sqn : ℕ
  pub direction : Direction
  pub encrypt : Bool
  pub code : ℕ
  pub payload : List ℕ

abbrev pub asked_of : ToSeal → List ℕ → Asked
asked_of w x = record { addr = w.addr.0; sqn = w.sqn.0; direction = w.direction; encrypt = w.encrypt; code = w.code; payload = x }

-- what stands before the data, the block's two bytes and the code behind the head; and behind it, MAC and CRC
abbrev pub before_data : ℕ
before_data = SCB_DATA_AT + CODE_LEN

abbrev pub after_data : ℕ
after_data = MAC_LEN + CRC_LEN

abbrev pub total_of : Asked → ℕ
total_of q = before_data + after_data + data_len_for q.encrypt q.payload

-- bytes, a sequence number, and a total within LEN
pub record Sealable (q : Asked) : Type 0 where
  pub addr : q.addr < 256
  pub sqn : q.sqn ≤ MAX_SQN
  pub code : q.code < 256
  pub payload : Bytes q.payload
  pub total : total_of q ≤ MAX_LEN

-- always a CRC and a block, which has no data
abbrev pub sealed_control : ℕ → Control
sealed_control n = record { sqn = n; crc = true; block = true }

abbrev pub parts_with : Asked → List ℕ → List ℕ → FrameParts
parts_with q d mac =
    record { addr = q.addr; ctrl = sealed_control q.sqn; block = scb (type_for q.direction q.encrypt) []; code = q.code; «data» = d; mac = mac }

-- from 53 to the end of data
abbrev pub body_with : Asked → List ℕ → List ℕ
body_with q d = body_bytes q.addr (sealed_control q.sqn) (scb (type_for q.direction q.encrypt) []) q.code d (total_of q)

pub record SealedFrame : Type 0 where
  pub bytes : List ℕ
  pub full : List ℕ
  pub steps : ℕ

-- the data, the MAC over all up to its end, and the frame with the MAC's first bytes
unfoldable pub sealed_frame : SessionKeys → List ℕ → Asked → SealedFrame
sealed_frame k v q =
    let d = data_of q.encrypt k.s_enc v q.payload in
    let m = mac_of k.s_mac1 k.s_mac2 v (body_with q d.bytes) in
    record { bytes = frame_bytes (parts_with q d.bytes (take MAC_LEN m.full)) (total_of q); full = m.full; steps = d.steps + m.steps }

-- ---- the tests of a frame of t bytes, for a buffer of `have`: 10, 12, 18

unfoldable pub frame_test : ℕ → ℕ → ℕ → Answer ℕ
frame_test n t have =
    refuse_if (ltb MAX_SQN n) 10 (n ∷ [])
    (refuse_if (ltb MAX_LEN t) 12 (t ∷ MAX_LEN ∷ [])
    (refuse_if (ltb have t) 18 (t ∷ have ∷ [])
    (given t)))

-- what is answered, the full MAC if the chain moves, the buffer, the steps
pub record SealRun : Type 0 where
  pub answer : Answer ℕ
  pub moved : Option (List ℕ)
  pub out : List ℕ
  pub steps : ℕ

-- a frame that passed them is written; a refusal leaves all as it was
unfoldable pub sealing : SealedFrame → List ℕ → Answer ℕ → SealRun
sealing f o (given t) = record { answer = given t; moved = some f.full; out = write o 0 f.bytes; steps = f.steps }
sealing f o (refused n vs) = record { answer = refused n vs; moved = none; out = o; steps = 0 }

-- 16 comes first
unfoldable pub seal_run : State → SessionKeys → List ℕ → Asked → List ℕ → SealRun
seal_run t k v q o = sealing (sealed_frame k v q) o (refuse_if (not (is_secure t)) 16 [] (frame_test q.sqn (total_of q) (length o)))

-- ---- on a session

pub record SealDone : Type 0 where
  pub answer : Answer ℕ
  pub session : Session
  pub out : List ℕ
  pub steps : ℕ

-- the chain moves by a full MAC that was made
unfoldable pub after_seal : Session → Option (List ℕ) → Session
after_seal s none = s
after_seal s (some m) = sent s m

-- a run, put on a session
abbrev pub sealed_on : Session → SealRun → SealDone
sealed_on s r = record { answer = r.answer; session = after_seal s r.moved; out = r.out; steps = r.steps }

unfoldable pub seal_of : Session → Asked → List ℕ → SealDone
seal_of s q o = sealed_on s (seal_run s.state s.keys (send_from s) q o)

-- ---- the code's answer, as the paper has it; `o` is the buffer in the end

abbrev pub seal_told : Processed ℕ → List ℕ → SealDone
seal_told r o = record { answer = length_answer r.answer; session = r.session; out = o; steps = r.calls }
