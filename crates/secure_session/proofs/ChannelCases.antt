-- The same of the calls of a session that is Secure: from what a call tested and made, what its definition comes to.
-- Assumes nothing.
use mathlib.Core.Bool.{Bool, true, false}
use mathlib.Core.List.{List, []}
use mathlib.Core.Path.{◌≡◌}
use Prim.Native.Nat.{ℕ}
use lib.ListN.{take}
use Rattle.laws.specs.Answer.{Answer.given, Answer.refused}
use Rattle.laws.specs.Bytes.{compl, eql}
use Rattle.secure_cipher.specs.Cbc.{Done, encrypt_of, decrypt_of}
use Rattle.secure_session.specs.Channel.{session_mac, make_mac, verify_of, keys_of, last_other_mac_of, seal_data_of, open_data_of}
use Rattle.secure_session.specs.Chain.{send_from, recv_from, sent, received}
use Rattle.secure_session.specs.Session.{is_secure}
use Rattle.secure_session.specs.declared.session.Session.{Session}
use Rattle.secure_session.proofs.Cases.{step_done, step_no}

module _ (s : Session) {i : Bool} (hi : i ≡ is_secure s.state) where
  -- another state
  module _ (n : i ≡ false) where
    pub last-no : refused 16 [] ≡ last_other_mac_of s
    unfolding last_other_mac_of
    last-no = rw (← hi, n)

  module _ (t : i ≡ true) where
    pub mac-done : (l : List ℕ) {v m : List ℕ} {n : Session} → v ≡ send_from s → m ≡ (session_mac s v l).full → n ≡ sent s m → step_done m n ≡ make_mac s l
    unfolding make_mac
    mac-done l hv hm h = rw (← hi, t, ← hv, ← hm, h)

    module _ (l w : List ℕ) {v m : List ℕ} {e : Bool} (hv : v ≡ recv_from s) (hm : m ≡ (session_mac s v l).full) (he : e ≡ eql (take 4 m) w) where
      pub verify-done : {n : Session} → e ≡ true → n ≡ received s m → step_done tt n ≡ verify_of s l w
      unfolding verify_of
      verify-done y h = rw (← hi, t, ← hv, ← hm, ← he, y, h)

      pub verify-wrong : e ≡ false → step_no 15 s ≡ verify_of s l w
      unfolding verify_of
      verify-wrong y = rw (← hi, t, ← hv, ← hm, ← he, y)

    pub keys-done : given s.keys ≡ keys_of s
    unfolding keys_of
    keys-done = rw (← hi, t)

    pub last_done : {v : List ℕ} → v ≡ send_from s → given v ≡ last_other_mac_of s
    unfolding last_other_mac_of
    last_done h = rw (← hi, t, h)

    module _ (x o : List ℕ) {v c : List ℕ} {d : Done} (hc : c ≡ compl v) where
      pub seal-done : v ≡ send_from s → d ≡ encrypt_of s.keys.s_enc c x o → d ≡ seal_data_of s x o
      unfolding seal_data_of
      seal-done hv h = rw (← hi, t, ← hv, ← hc) h

      pub open_done : v ≡ recv_from s → d ≡ decrypt_of s.keys.s_enc c x o → d ≡ open_data_of s x o
      unfolding open_data_of
      open_done hv h = rw (← hi, t, ← hv, ← hc) h
