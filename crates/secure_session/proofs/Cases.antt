-- The handshake's cases: from what a call tested and made, what its definition comes to.
-- Assumes nothing.
use mathlib.Core.Bool.{Bool, true, false}
use mathlib.Core.List.{List, []}
use mathlib.Core.Path.{◌≡◌}
use Prim.Native.Nat.{ℕ}
use Rattle.laws.specs.Answer.{Answer.given, Answer.refused}
use Rattle.laws.specs.Bytes.{eql}
use Rattle.secure_keys.specs.Keys.{derive, client_of, first_of}
use Rattle.secure_keys.specs.declared.crypto.SessionKeys.{SessionKeys}
use Rattle.secure_session.specs.Handshake.{Step, challenge_of, receive_ccrypt_of, server_for, server_cryptogram_of, initial_rmac_of, confirm_of, receive_challenge_of, receive_scrypt_of}
use Rattle.secure_session.specs.Session.{is_at, reset, with_step, secured}
use Rattle.secure_session.specs.declared.session.End.TheVariants.{Controller, Reader}
use Rattle.secure_session.specs.declared.session.Session.{Session}
use Rattle.secure_session.specs.declared.session.State.TheVariants.{Disconnected, Challenged, Cryptogrammed}

abbrev pub step_done : {A : Type 0} → A → Session → Step A
step_done a s = record { answer = given a; session = s }

abbrev pub step_no : {A : Type 0} → ℕ → Session → Step A
step_no n s = record { answer = refused n []; session = s }

module _ (s : Session) (a : List ℕ) {i : Bool} (hi : i ≡ is_at Controller Disconnected s) where
  pub challenge-done : {n : Session} → i ≡ true → n ≡ with_step s Challenged a s.rnd_b s.cuid s.keys → step_done tt n ≡ challenge_of s a
  unfolding challenge_of
  challenge-done t h = rw (← hi, t, h)

module _ (s : Session) (u b c : List ℕ) {i : Bool} (hi : i ≡ is_at Controller Challenged s) where
  module _ {k : SessionKeys} {w : List ℕ} {e : Bool} (t : i ≡ true) (hk : k ≡ derive s.scbk s.rnd_a)
      (hw : w ≡ client_of k.s_enc s.rnd_a b) (he : e ≡ eql w c) where
    pub ccrypt-wrong : {n : Session} → e ≡ false → n ≡ reset s → step_no 15 n ≡ receive_ccrypt_of s u b c
    unfolding receive_ccrypt_of
    ccrypt-wrong y h = rw (← hi, t, ← hk, ← hw, ← he, y, h)

module _ (s : Session) {i : Bool} (hi : i ≡ is_at Controller Cryptogrammed s) where
  pub server-done : {m : List ℕ} → i ≡ true → m ≡ server_for s → given m ≡ server_cryptogram_of s
  unfolding server_cryptogram_of
  server-done t h = rw (← hi, t, h)

  module _ {v : List ℕ} (t : i ≡ true) (hv : v ≡ server_for s) where
    pub rmac-done : {m : List ℕ} → m ≡ first_of s.keys.s_mac1 s.keys.s_mac2 v → given m ≡ initial_rmac_of s
    unfolding initial_rmac_of
    rmac-done h = rw (← hi, t, h, hv)

module _ (s : Session) (c : List ℕ) {i : Bool} (hi : i ≡ is_at Controller Cryptogrammed s) where
  module _ {v m : List ℕ} {e : Bool} (t : i ≡ true) (hv : v ≡ server_for s)
      (hm : m ≡ first_of s.keys.s_mac1 s.keys.s_mac2 v) (he : e ≡ eql m c) where
    pub confirm-done : {n : Session} → e ≡ true → n ≡ secured s m → step_done tt n ≡ confirm_of s c
    unfolding confirm_of
    confirm-done y h = rw (← hi, t, ← hv, ← hm, ← he, y, h)

module _ (s : Session) (a b : List ℕ) {i : Bool} (hi : i ≡ is_at Reader Disconnected s) where
  pub asked-done : {k : SessionKeys} {w : List ℕ} {n : Session} → i ≡ true → k ≡ derive s.scbk a → w ≡ client_of k.s_enc a b
      → n ≡ with_step s Challenged a b s.cuid k → step_done w n ≡ receive_challenge_of s a b
  unfolding receive_challenge_of
  asked-done t hk hw h = rw (← hi, t, ← hk, ← hw, h)

module _ (s : Session) (c : List ℕ) {i : Bool} (hi : i ≡ is_at Reader Challenged s) where
  module _ {v : List ℕ} {e : Bool} (t : i ≡ true) (hv : v ≡ server_for s) (he : e ≡ eql v c) where
    pub scrypt-done : {m : List ℕ} {n : Session} → e ≡ true → m ≡ first_of s.keys.s_mac1 s.keys.s_mac2 v
        → n ≡ secured s m → step_done m n ≡ receive_scrypt_of s c
    unfolding receive_scrypt_of
    scrypt-done y hm h = rw (← hi, t, ← hv, ← he, y, ← hm, h)
