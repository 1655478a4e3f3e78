-- The calls of the handshake, at both ends (docs/RULES.md, 7): each answers, and leaves a session.
-- Assumes nothing.
use Rattle.std.specs.Prelude.{ℕ, cond, List, [], Result, ⊤}
use Rattle.laws.specs.Answer.{Answer, Answer.given, Answer.refused}
use Rattle.laws.specs.Bytes.{zeros, eql}
use Rattle.refusal.specs.Reading.{answer, outcome_answer}
use Rattle.refusal.specs.declared.Refusal.{Refusal}
use Rattle.secure_keys.specs.Keys.{derive, client_of, server_of, first_of}
use Rattle.secure_session.specs.Session.{is_at, reset, with_step, secured}
use Rattle.secure_session.specs.declared.session.End.TheVariants.{Controller, Reader}
use Rattle.secure_session.specs.declared.session.State.TheVariants.{Disconnected, Challenged, Cryptogrammed}
use Rattle.secure_session.specs.declared.session.Session.{Session}
use Rattle.secure_session.specs.declared.session.Stepped.{Stepped}

-- what a call answers, and the session after it
pub record Step (A : Type 0) : Type 0 where
  pub answer : Answer A
  pub session : Session

-- another state or end: 16, session unchanged
abbrev pub wrong_state : {A : Type 0} → Session → Step A
wrong_state s = record { answer = refused 16 []; session = s }

-- a wrong cryptogram or first chain value: 15 and the reset
abbrev wrong_cryptogram : {A : Type 0} → Session → Step A
wrong_cryptogram s = record { answer = refused 15 []; session = reset s }

-- ---- the controller's end

-- from Disconnected: RND.A is kept
unfoldable pub challenge_of : Session → List ℕ → Step (Unit {0})
challenge_of s a =
    cond (is_at Controller Disconnected s)
    (record { answer = given tt; session = with_step s Challenged a s.rnd_b s.cuid s.keys })
    (wrong_state s)

-- from Challenged: the keys are derived, and the client cryptogram must be right
unfoldable pub receive_ccrypt_of : Session → List ℕ → List ℕ → List ℕ → Step (Unit {0})
receive_ccrypt_of s u b c =
    let k = derive s.scbk s.rnd_a in
    cond (is_at Controller Challenged s)
    (cond (eql (client_of k.s_enc s.rnd_a b) c)
    (record { answer = given tt; session = with_step s Cryptogrammed s.rnd_a b u k })
    (wrong_cryptogram s))
    (wrong_state s)

-- the server cryptogram and the first chain value that a session's keys and random numbers give
abbrev pub server_for : Session → List ℕ
server_for s = server_of s.keys.s_enc s.rnd_a s.rnd_b

abbrev pub first_for : Session → List ℕ
first_for s = first_of s.keys.s_mac1 s.keys.s_mac2 (server_for s)

-- in Cryptogrammed; the session stays
unfoldable pub server_cryptogram_of : Session → Answer (List ℕ)
server_cryptogram_of s = cond (is_at Controller Cryptogrammed s) (given (server_for s)) (refused 16 [])

unfoldable pub initial_rmac_of : Session → Answer (List ℕ)
initial_rmac_of s = cond (is_at Controller Cryptogrammed s) (given (first_for s)) (refused 16 [])

-- from Cryptogrammed: the first chain value must be right
unfoldable pub confirm_of : Session → List ℕ → Step (Unit {0})
confirm_of s m =
    cond (is_at Controller Cryptogrammed s)
    (cond (eql (first_for s) m)
    (record { answer = given tt; session = secured s (first_for s) })
    (wrong_cryptogram s))
    (wrong_state s)

-- ---- the reader's end

-- from Disconnected: takes RND.A and RND.B, derives the keys, answers the client cryptogram
unfoldable pub receive_challenge_of : Session → List ℕ → List ℕ → Step (List ℕ)
receive_challenge_of s a b =
    let k = derive s.scbk a in
    cond (is_at Reader Disconnected s)
    (record { answer = given (client_of k.s_enc a b); session = with_step s Challenged a b s.cuid k })
    (wrong_state s)

-- from Challenged: a right server cryptogram makes it Secure and is answered by the first chain value
unfoldable pub receive_scrypt_of : Session → List ℕ → Step (List ℕ)
receive_scrypt_of s c =
    cond (is_at Reader Challenged s)
    (cond (eql (server_for s) c)
    (record { answer = given (first_for s); session = secured s (first_for s) })
    (wrong_cryptogram s))
    (wrong_state s)

-- ---- the code's answers, as the paper has them

abbrev pub stepped : Stepped ⊤ → Step (Unit {0})
stepped r = record { answer = outcome_answer r.answer tt; session = r.session }

abbrev pub stepped_block : Stepped (List ℕ) → Step (List ℕ)
stepped_block r = record { answer = answer (λ b. b) r.answer; session = r.session }

abbrev pub block_answer : Result (List ℕ) Refusal → Answer (List ℕ)
block_answer r = answer (λ b. b) r

-- the block of an answer: zeros beside a refusal
abbrev pub block_beside : Answer (List ℕ) → List ℕ
block_beside (given b) = b
block_beside (refused n vs) = zeros 16
