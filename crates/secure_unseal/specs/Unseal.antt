-- Unsealing (docs/RULES.md, 8.3, 8.4 and 9): the MAC's check and the data's opening, two functions that know nothing of each other; a
-- core that knows no session; and the call on a session.
-- Assumes nothing.
use Rattle.std.specs.Prelude.{ℕ, ◌+◌, Bool, true, false, cond, List, [], ◌∷◌, ltb, length, take, drop, Result}
use Rattle.std.proofs.Math.Option.{Option, none, some}
use Rattle.laws.specs.Answer.{Answer, Answer.given, Answer.refused}
use Rattle.laws.specs.Bytes.{compl, eql}
use Rattle.refusal.specs.Reading.{answer}
use Rattle.refusal.specs.declared.Refusal.{Refusal}
use Rattle.packet_head.specs.Numbers.{MAC_LEN}
use Rattle.packet_head.specs.Block.{has_mac, is_encrypted}
use Rattle.packet_parse.specs.Frame.{Fields, type_in, mac_start_of, parse_of}
use Rattle.secure_keys.specs.declared.crypto.SessionKeys.{SessionKeys}
use Rattle.secure_cipher.specs.Mac.{mac_of}
use Rattle.secure_cipher.specs.Cbc.{Opening, reveal, opened_into, wiped}
use Rattle.secure_session.specs.Chain.{recv_from, received}
use Rattle.secure_session.specs.Session.{is_secure}
use Rattle.secure_session.specs.declared.session.State.{State}
use Rattle.secure_session.specs.declared.session.Session.{Session}
use Rattle.secure_session.specs.declared.session.Processed.{Processed}
use Rattle.secure_unseal.specs.declared.frame.PayloadPlace.{PayloadPlace}

-- ---- the MAC's check

pub record Checked : Type 0 where
  pub right : Bool
  pub full : List ℕ
  pub steps : ℕ

-- the MAC over all that stands before it, from the start value v; its first four bytes against those of the frame
unfoldable pub check : SessionKeys → List ℕ → List ℕ → ℕ → Checked
check k v f at =
    let m = mac_of k.s_mac1 k.s_mac2 v (take at f) in
    record { right = eql (take MAC_LEN m.full) (take MAC_LEN (drop at f)); full = m.full; steps = m.steps }

-- ---- the data's opening, from the complement of the start value v

unfoldable pub open_data : SessionKeys → List ℕ → List ℕ → Fields → Opening
open_data k v f p = reveal k.s_enc (compl v) (take p.data_len (drop p.data_start f))

-- ---- the tests: what is answered, the full MAC if the chain moves, the work buffer, the steps

-- where an opened payload stands: in the work buffer or in the frame, its start and its length
pub record Place : Type 0 where
  pub in_work : Bool
  pub start : ℕ
  pub len : ℕ

pub record UnsealRun : Type 0 where
  pub answer : Answer Place
  pub moved : Option (List ℕ)
  pub work : List ℕ
  pub steps : ℕ

-- a refusal before anything is done
abbrev pub unseal_stop : ℕ → List ℕ → List ℕ → UnsealRun
unseal_stop n vs w = record { answer = refused n vs; moved = none; work = w; steps = 0 }

-- types 15 and 16: 15; the work buffer stays
unfoldable pub unseal_plain : Checked → Fields → List ℕ → UnsealRun
unseal_plain c p w =
    cond c.right
    (record { answer = given (record { in_work = false; start = p.data_start; len = p.data_len }); moved = some c.full; work = w; steps = c.steps })
    (record { answer = refused 15 []; moved = none; work = w; steps = c.steps })

-- types 17 and 18, after the opening answered: 14, then 15, which leave zeros over the length n of the encrypted data
unfoldable pub unseal_opened : Checked → ℕ → Opening → Answer ℕ → List ℕ → UnsealRun
unseal_opened c n o (given l) w =
    cond c.right
    (record { answer = given (record { in_work = true; start = 0; len = l }); moved = some c.full; work = opened_into n o (given l) w; steps = o.steps + c.steps })
    (record { answer = refused 15 []; moved = none; work = wiped n w; steps = o.steps + c.steps })
unseal_opened c n o (refused m vs) w = record { answer = refused m vs; moved = none; work = wiped n w; steps = o.steps }

-- 18 (need, have), then the opening and the check
unfoldable pub unseal_hidden : Checked → Opening → Fields → List ℕ → UnsealRun
unseal_hidden c o p w =
    cond (ltb (length w) p.data_len) (unseal_stop 18 (p.data_len ∷ length w ∷ []) w) (unseal_opened c p.data_len o o.answer w)

-- no block, or type 11 to 14: 13
unfoldable pub unseal_parsed : SessionKeys → List ℕ → List ℕ → Answer Fields → List ℕ → UnsealRun
unseal_parsed k v f (given p) w =
    let c = check k v f (mac_start_of p.mac) in
    cond (has_mac (type_in p.block))
    (cond (is_encrypted (type_in p.block)) (unseal_hidden c (open_data k v f p) p w) (unseal_plain c p w))
    (unseal_stop 13 [] w)
unseal_parsed k v f (refused n vs) w = unseal_stop n vs w

-- 16, 1 to 8, 13, 18, 14, 15
unfoldable pub unseal_run : State → SessionKeys → List ℕ → List ℕ → List ℕ → UnsealRun
unseal_run t k v f w = cond (is_secure t) (unseal_parsed k v f (parse_of f) w) (unseal_stop 16 [] w)

-- ---- on a session

pub record UnsealDone : Type 0 where
  pub answer : Answer Place
  pub session : Session
  pub work : List ℕ
  pub steps : ℕ

-- the chain moves by a full MAC that was found right
unfoldable pub after_unseal : Session → Option (List ℕ) → Session
after_unseal s none = s
after_unseal s (some m) = received s m

-- a run, put on a session
abbrev pub unsealed_on : Session → UnsealRun → UnsealDone
unsealed_on s r = record { answer = r.answer; session = after_unseal s r.moved; work = r.work; steps = r.steps }

unfoldable pub unseal_of : Session → List ℕ → List ℕ → UnsealDone
unseal_of s f w = unsealed_on s (unseal_run s.state s.keys (recv_from s) f w)

-- ---- the code's answer, as the paper has it; `w` is the work buffer in the end

abbrev pub place : PayloadPlace → Place
place p = record { in_work = p.in_work; start = p.start; len = p.len }

abbrev pub place_answer : Result PayloadPlace Refusal → Answer Place
place_answer r = answer place r

abbrev pub unseal_told : Processed PayloadPlace → List ℕ → UnsealDone
unseal_told r w = record { answer = place_answer r.answer; session = r.session; work = w; steps = r.calls }
