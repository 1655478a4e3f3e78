-- The calls on a session that C hands in: of one that can be read, the call's answer; another answers 16 and comes back as it was.
-- Assumes nothing.
use Rattle.std.specs.Prelude.{ℕ, List}
use Rattle.laws.specs.Answer.{Answer, Answer.given, Answer.refused, and_then}
use Rattle.laws.specs.Bytes.{zeros}
use Rattle.refusal.specs.declared.Refusal.{Refusal}
use Rattle.secure_keys.specs.declared.crypto.SessionKeys.{SessionKeys}
use Rattle.secure_cipher.specs.Cbc.{Done, cipher_stop}
use Rattle.secure_session.specs.declared.session.Session.{Session}
use Rattle.secure_session.specs.Session.{no_keys}
use Rattle.secure_session.specs.Handshake.{Step}
use Rattle.crossing.specs.declared.session.CSession.{CSession}
use Rattle.crossing.specs.declared.session.CStepped.{CStepped}
use Rattle.crossing.specs.declared.session.CSteppedBlock.{CSteppedBlock}
use Rattle.crossing.specs.declared.session.CBlockAnswer.{CBlockAnswer}
use Rattle.crossing.specs.declared.cipher.CCiphered.{CCiphered}
use Rattle.crossing.specs.declared.session.CKeysAnswer.{CKeysAnswer}
use Rattle.crossing.specs.Answers.{c_refused, c_refusal}
use Rattle.crossing.specs.Ciphers.{c_keys}
use Rattle.crossing.specs.Sessions.{session_arg, c_stepped, c_stepped_block, c_block_answer, c_keys_answer}

-- what comes of a session that can be read, and of one that cannot
unfoldable pub reading : {B : Type 0} → Answer Session → (Session → B) → (ℕ → List ℕ → B) → B
reading (given s) f g = f s
reading (refused n vs) f g = g n vs

-- everything zero but the byte that says which end it is
abbrev pub c_wiped : CSession → CSession
c_wiped c =
    record { end = c.end; state = 0; scbk = zeros 16; rnd_a = zeros 8; rnd_b = zeros 8; cuid = zeros 8; keys = c_keys no_keys; chain = zeros 16 }

-- ---- the calls on what C hands in: one form for each kind of answer

unfoldable pub stepped_arg : CSession → (Session → Step (Unit {0})) → CStepped
stepped_arg c f = reading (session_arg c) (λ s. c_stepped (f s)) (λ n vs. record { answer = c_refused n vs; session = c })

unfoldable pub stepped_block_arg : CSession → (Session → Step (List ℕ)) → CSteppedBlock
stepped_block_arg c f =
    reading (session_arg c) (λ s. c_stepped_block (f s)) (λ n vs. record { answer = c_refused n vs; block = zeros 16; session = c })

unfoldable pub block_answer_arg : CSession → (Session → Answer (List ℕ)) → CBlockAnswer
block_answer_arg c f = c_block_answer (and_then (session_arg c) f)

unfoldable pub keys_answer_arg : CSession → (Session → Answer SessionKeys) → CKeysAnswer
keys_answer_arg c f = c_keys_answer (and_then (session_arg c) f)

-- `o` is the buffer as it came
unfoldable pub done_arg : CSession → List ℕ → (Session → Done) → Done
done_arg c o f = reading (session_arg c) f (λ n vs. cipher_stop n vs o)

abbrev pub no_step : CSession → Refusal → CStepped
no_step c e = record { answer = c_refusal e; session = c }

abbrev pub no_stepped_block : CSession → Refusal → CSteppedBlock
no_stepped_block c e = record { answer = c_refusal e; block = zeros 16; session = c }

abbrev pub no_ciphered : Refusal → CCiphered
no_ciphered e = record { answer = c_refusal e; calls = 0 }
