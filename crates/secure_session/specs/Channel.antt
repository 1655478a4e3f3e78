-- The calls of a session that is Secure (docs/RULES.md, 7).
-- Assumes nothing.
use Rattle.std.specs.Prelude.{ℕ, cond, List, [], take, Result}
use Rattle.laws.specs.Answer.{Answer, Answer.given, Answer.refused}
use Rattle.laws.specs.Bytes.{compl, eql}
use Rattle.refusal.specs.Reading.{answer}
use Rattle.refusal.specs.declared.Refusal.{Refusal}
use Rattle.packet_head.specs.Numbers.{MAC_LEN}
use Rattle.secure_keys.specs.declared.crypto.SessionKeys.{SessionKeys}
use Rattle.secure_cipher.specs.Mac.{Mac, mac_of}
use Rattle.secure_cipher.specs.Cbc.{Done, cipher_stop, encrypt_of, decrypt_of}
use Rattle.secure_session.specs.Chain.{send_from, recv_from, sent, received}
use Rattle.secure_session.specs.Session.{is_secure, no_keys}
use Rattle.secure_session.specs.Handshake.{Step, wrong_state}
use Rattle.secure_session.specs.declared.session.Session.{Session}

abbrev pub session_mac : Session → List ℕ → List ℕ → Mac
session_mac s v l = mac_of s.keys.s_mac1 s.keys.s_mac2 v l

-- the MAC of bytes that are sent, in full; the chain moves
unfoldable pub make_mac : Session → List ℕ → Step (List ℕ)
make_mac s l =
    let m = (session_mac s (send_from s) l).full in
    cond (is_secure s.state) (record { answer = given m; session = sent s m }) (wrong_state s)

-- the four bytes of MAC that came with bytes: the chain moves if they are right, else 15
unfoldable pub verify_of : Session → List ℕ → List ℕ → Step (Unit {0})
verify_of s l wire =
    let m = (session_mac s (recv_from s) l).full in
    cond (is_secure s.state)
    (cond (eql (take MAC_LEN m) wire) (record { answer = given tt; session = received s m }) (record { answer = refused 15 []; session = s }))
    (wrong_state s)

-- the derived keys, and the chain value that a MAC sent next starts from
unfoldable pub keys_of : Session → Answer SessionKeys
keys_of s = cond (is_secure s.state) (given s.keys) (refused 16 [])

unfoldable pub last_other_mac_of : Session → Answer (List ℕ)
last_other_mac_of s = cond (is_secure s.state) (given (send_from s)) (refused 16 [])

-- a payload enciphered, and encrypted data opened, from the complement of the chain value; 16, then as the calls alone
unfoldable pub seal_data_of : Session → List ℕ → List ℕ → Done
seal_data_of s x o = cond (is_secure s.state) (encrypt_of s.keys.s_enc (compl (send_from s)) x o) (cipher_stop 16 [] o)

unfoldable pub open_data_of : Session → List ℕ → List ℕ → Done
open_data_of s c o = cond (is_secure s.state) (decrypt_of s.keys.s_enc (compl (recv_from s)) c o) (cipher_stop 16 [] o)

-- ---- the code's answer, as the paper has it

abbrev pub keys_answer : Result SessionKeys Refusal → Answer SessionKeys
keys_answer r = answer (λ k. k) r

-- the keys of an answer: zeros beside a refusal
abbrev pub keys_beside : Answer SessionKeys → SessionKeys
keys_beside (given k) = k
keys_beside (refused n vs) = no_keys
