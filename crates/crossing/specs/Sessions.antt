-- Sessions as C has them: by value, with numbers for end and state. A call on one that cannot be read answers 16 and hands it back.
-- Assumes nothing.
use Rattle.std.specs.Prelude.{ℕ, List, [], eqb, Result}
use Rattle.laws.specs.Answer.{Answer, Answer.given, Answer.refused, and_then, choose}
use Rattle.refusal.specs.Reading.{answer}
use Rattle.refusal.specs.declared.Refusal.{Refusal}
use Rattle.secure_keys.specs.declared.crypto.SessionKeys.{SessionKeys}
use Rattle.secure_session.specs.declared.session.End.{End}
use Rattle.secure_session.specs.declared.session.End.TheVariants.{Controller, Reader}
use Rattle.secure_session.specs.declared.session.State.{State}
use Rattle.secure_session.specs.declared.session.State.TheVariants.{Disconnected, Challenged, Cryptogrammed, Secure}
use Rattle.secure_session.specs.declared.session.Session.{Session}
use Rattle.secure_session.specs.declared.door.SessionFields.{SessionFields}
use Rattle.secure_session.specs.Chain.{chain_in, chain_out}
use Rattle.secure_session.specs.Session.{end_number, state_number}
use Rattle.secure_session.specs.Door.{door_out, door_in}
use Rattle.secure_session.specs.Handshake.{Step, block_beside}
use Rattle.secure_session.specs.Channel.{keys_beside}
use Rattle.crossing.specs.Answers.{c_yes}
use Rattle.crossing.specs.Ciphers.{c_keys}
use Rattle.crossing.specs.declared.keys.CKeys.{CKeys}
use Rattle.crossing.specs.declared.session.CSession.{CSession}
use Rattle.crossing.specs.declared.session.CStepped.{CStepped}
use Rattle.crossing.specs.declared.session.CSteppedBlock.{CSteppedBlock}
use Rattle.crossing.specs.declared.session.CBlockAnswer.{CBlockAnswer}
use Rattle.crossing.specs.declared.session.CKeysAnswer.{CKeysAnswer}

-- ---- a session that comes in

unfoldable pub end_arg : ℕ → Answer End
end_arg n = choose (eqb n 0) (given Controller) (choose (eqb n 1) (given Reader) (refused 16 []))

unfoldable pub state_arg : ℕ → Answer State
state_arg n =
    choose (eqb n 0) (given Disconnected)
    (choose (eqb n 1) (given Challenged)
    (choose (eqb n 2) (given Cryptogrammed)
    (choose (eqb n 3) (given Secure)
    (refused 16 []))))

abbrev pub keys_arg : CKeys → SessionKeys
keys_arg k = record { s_enc = k.s_enc; s_mac1 = k.s_mac1; s_mac2 = k.s_mac2 }

-- What C holds, as a session has it. C's fields and a session's meet here and in `c_fields` alone; the wipe (`c_wiped` of `ffi`) writes
-- all of C's fields a third time, since a session that cannot be read can be wiped too.
abbrev pub fields_arg : CSession → End → State → SessionFields
fields_arg c e t =
    record { end = e; state = t; scbk = c.scbk; rnd_a = c.rnd_a; rnd_b = c.rnd_b; cuid = c.cuid; keys = keys_arg c.keys; chain = chain_in c.chain }

abbrev pub session_with : CSession → End → State → Session
session_with c e t = door_in (fields_arg c e t)

-- 16 where end is above 1 or state above 3
unfoldable pub session_arg : CSession → Answer Session
session_arg c = and_then (end_arg c.end) (λ e. and_then (state_arg c.state) (λ t. given (session_with c e t)))

-- ---- a session that goes out

abbrev pub c_fields : SessionFields → CSession
c_fields f =
    record { end = end_number f.end; state = state_number f.state; scbk = f.scbk; rnd_a = f.rnd_a; rnd_b = f.rnd_b; cuid = f.cuid; keys = c_keys f.keys; chain = chain_out f.chain }

abbrev pub c_session : Session → CSession
c_session s = c_fields (door_out s)

-- ---- answers

abbrev pub c_stepped : Step (Unit {0}) → CStepped
c_stepped d = record { answer = c_yes d.answer; session = c_session d.session }

abbrev pub c_stepped_block : Step (List ℕ) → CSteppedBlock
c_stepped_block d = record { answer = c_yes d.answer; block = block_beside d.answer; session = c_session d.session }

abbrev pub c_block_answer : Answer (List ℕ) → CBlockAnswer
c_block_answer x = record { answer = c_yes x; block = block_beside x }

abbrev pub c_keys_answer : Answer SessionKeys → CKeysAnswer
c_keys_answer x = record { answer = c_yes x; keys = c_keys (keys_beside x) }

-- ---- the code's kinds

abbrev pub end_read : Result End Refusal → Answer End
end_read r = answer (λ e. e) r

abbrev pub state_read : Result State Refusal → Answer State
state_read r = answer (λ t. t) r

abbrev pub taken : Result Session Refusal → Answer Session
taken r = answer (λ s. s) r
