-- Head, data, MAC and CRC, written one after the other, are the frame.
-- Assumes nothing.
use Rattle.std.specs.Prelude.{Ok}
use mathlib.Core.Path.{◌≡◌, sym, ap, ap₂, ◌∙◌}
use mathlib.Core.Bool.{Bool, true, false}
use mathlib.Core.List.{List, [], ◌∷◌, ◌++◌}
use Prim.Native.Nat.{ℕ, ◌+◌, ◌-◌, ◌≤◌}
use native.Mathlib.Omega.{arith}
use lib.ListN.{length, take, get_or, length-append}
use lib.Seq.{length-take-le}
use borrow.Rule.Slice.PartMut.{put_mid}
use Rattle.laws.specs.Answer.{Answer.given}
use Rattle.laws.specs.Bytes.{compl}
use Rattle.laws.specs.Over.{write}
use Rattle.laws.proofs.Overwrite.{write-write, take-write, part_write}
use Rattle.laws.proofs.Listed.{front_listed}
use Rattle.slices.specs.Number.{low_first}
use Rattle.packet_sums.specs.Crc.{crc_of}
use Rattle.packet_build.specs.Build.{FrameBlock.scb, body_bytes, tail_bytes, frame_bytes}
use Rattle.packet_build.proofs.Sizes.{body_length}
use Rattle.secure_keys.specs.declared.crypto.SessionKeys.{SessionKeys}
use Rattle.secure_cipher.specs.Mac.{mac_calls}
use Rattle.secure_cipher.proofs.CbcLaws.{steps-hide}
use Rattle.secure_cipher.proofs.MacLaws.{mac-counted}
use Rattle.secure_session.specs.Channel.{session_mac}
use Rattle.secure_session.specs.Chain.{send_from, sent}
use Rattle.secure_session.specs.declared.session.Session.{Session}
use Rattle.secure_seal.specs.Seal.{type_for, data_len_for, data_of, Asked, total_of, sealed_control, parts_with, body_with, sealed_frame}
use Rattle.secure_seal.specs.Parts.{Put}
use Rattle.secure_seal.proofs.SealLaws.{sealed_data}

pub head_bytes_lem : (a b total v sqn k t code : ℕ) (l : List ℕ) → a ≡ b → l ≡ low_first 2 total → v ≡ sqn → k ≡ t
    → 0x53 ∷ a ∷ get_or l 0 0 ∷ get_or l 1 0 ∷ (v + 12) ∷ 2 ∷ k ∷ code ∷ [] ≡ body_bytes b (sealed_control sqn) (scb t []) code [] total
unfolding body_bytes
head_bytes_lem a b total v sqn k t code l ea el ev ek =
    let e : v + 12 ≡ sqn + 4 + 8 = omega arith in
    rw (ea, el, e, ek)

-- the first four bytes of f, and the CRC of all before it, laid one after the other
pub end_written : (o o₁ o₂ f c : List ℕ) (end : ℕ) → length f ≡ 16
    → o₁ ≡ write o end (get_or f 0 0 ∷ get_or f 1 0 ∷ get_or f 2 0 ∷ get_or f 3 0 ∷ []) → c ≡ low_first 2 (crc_of (take (end + 4) o₁)) → o₂ ≡ write o₁ (end + 4) c
    → o₂ ≡ write (write o end (take 4 f)) (end + 4) (tail_bytes true (take (end + 4) (write o end (take 4 f))))
end_written o o₁ o₂ f c end n e₁ ec e₂ =
    let w : o₁ ≡ write o end (take 4 f) = e₁ ∙ ap (write o end) (front_listed f 4 (omega arith)) in
    e₂ ∙ ap₂ (λ (x t : List ℕ). write x (end + 4) t) w (ec ∙ ap (λ (x : List ℕ). tail_bytes true (take (end + 4) x)) w)

-- ---- the whole: y is the data, m the MAC

module _ (s : Session) (q : Asked) (o o₁ y : List ℕ) (t total : ℕ) (et : total ≡ total_of q) (room : total ≤ length o)
    (ey : y ≡ sealed_data s.keys (send_from s) q) (ly : length y ≡ data_len_for q.encrypt q.payload)
    (e₁ : o₁ ≡ write o 0 (body_bytes q.addr (sealed_control q.sqn) (scb t []) q.code [] total)) (ek : t ≡ type_for q.direction q.encrypt) where
  abbrev k : SessionKeys
  k = s.keys

  abbrev v : List ℕ
  v = send_from s

  length-body : length (body_with q (sealed_data k v q)) ≡ total - 6
  length-body =
      omega (arith, body_length q.addr (sealed_control q.sqn) (scb (type_for q.direction q.encrypt) []) q.code (sealed_data k v q) (total_of q), ap length (sym ey))

  body-joined : body_bytes q.addr (sealed_control q.sqn) (scb t []) q.code [] total ++ y ≡ body_with q (sealed_data k v q)
  unfolding body_bytes
  body-joined = rw (et, ek, ey)

  body-written : put_mid 8 (total - 6 - 8) o₁ y ≡ write o 0 (body_with q (sealed_data k v q))
  body-written =
      let l = body_length q.addr (sealed_control q.sqn) (scb t []) q.code [] total in
      part_write o₁ 8 (total - 6 - 8) y (omega arith) ∙ ap (λ (x : List ℕ). write x 8 y) e₁
      ∙ write-write o 0 (body_bytes q.addr (sealed_control q.sqn) (scb t []) q.code [] total) 8 y (omega arith) (omega arith) ∙ ap (write o 0) body-joined

  body-seen : take (total - 6) (put_mid 8 (total - 6 - 8) o₁ y) ≡ body_with q (sealed_data k v q)
  body-seen = ap (take (total - 6)) body-written ∙ take-write o (total - 6) (body_with q (sealed_data k v q)) (sym length-body)

  -- the MAC f that was made of it, by h + n calls in all, and the session s₂ that is left
  module _ (f o₃ : List ℕ) (s₂ : Session) (n h : ℕ) (lf : length f ≡ 16) (eh : h ≡ (data_of q.encrypt k.s_enc v q.payload).steps) (en : n ≡ mac_calls (total - 6))
      (em : f ≡ (session_mac s v (take (total - 6) (put_mid 8 (total - 6 - 8) o₁ y))).full)
      (es : s₂ ≡ sent s (session_mac s v (take (total - 6) (put_mid 8 (total - 6 - 8) o₁ y))).full)
      (e₃ : o₃ ≡ write (write (put_mid 8 (total - 6 - 8) o₁ y) (total - 6) (take 4 f)) (total - 6 + 4)
      (tail_bytes true (take (total - 6 + 4) (write (put_mid 8 (total - 6 - 8) o₁ y) (total - 6) (take 4 f))))) where
    mac-laid : write (put_mid 8 (total - 6 - 8) o₁ y) (total - 6) (take 4 f) ≡ write o 0 (body_with q (sealed_data k v q) ++ take 4 f)
    mac-laid =
        ap (λ (x : List ℕ). write x (total - 6) (take 4 f)) body-written
        ∙ write-write o 0 (body_with q (sealed_data k v q)) (total - 6) (take 4 f) (omega (arith, length-body)) (omega (arith, length-body, length-take-le 4 f (omega arith)))

    ended : o₃ ≡ write o 0 (frame_bytes (parts_with q (sealed_data k v q) (take 4 f)) (total_of q))
    unfolding frame_bytes
    ended =
        let b = body_with q (sealed_data k v q) ++ take 4 f in
        let l : length b ≡ total - 6 + 4 = length-append (body_with q (sealed_data k v q)) (take 4 f) ∙ omega (arith, length-body, length-take-le 4 f (omega arith)) in
        e₃ ∙ ap (λ (x : List ℕ). write x (total - 6 + 4) (tail_bytes true (take (total - 6 + 4) x))) mac-laid
        ∙ ap (λ (x : List ℕ). write (write o 0 b) (total - 6 + 4) (tail_bytes true x)) (take-write o (total - 6 + 4) b (sym l))
        ∙ write-write o 0 b (total - 6 + 4) (tail_bytes true b) (omega arith) (omega arith)

    counted-mac : n ≡ (session_mac s v (body_with q (sealed_data k v q))).steps
    counted-mac = en ∙ ap mac_calls (sym length-body) ∙ mac-counted k.s_mac1 k.s_mac2 v (body_with q (sealed_data k v q))

    pub frame-put : Put s q o o₃ (record { answer = Ok total; calls = h + n; session = s₂ })
    unfolding sealed_frame
    frame-put =
        let e : f ≡ (session_mac s v (body_with q (sealed_data k v q))).full = em ∙ ap (λ (l : List ℕ). (session_mac s v l).full) body-seen in
        record {
          told = ap given et;
          here = ended ∙ ap (λ (x : List ℕ). write o 0 (frame_bytes (parts_with q (sealed_data k v q) (take 4 x)) (total_of q))) e;
          moved = es ∙ ap (λ (l : List ℕ). sent s (session_mac s v l).full) body-seen;
          counted = ap₂ (λ (x z : ℕ). x + z) eh counted-mac;
        }

-- the calls are few
pub data_steps : (e : Bool) (k v x : List ℕ) → (data_of e k v x).steps ≤ length x + 1
unfolding data_of
data_steps false k v x = omega arith
data_steps true k v x = omega (arith, steps-hide k (compl v) x)

pub mac_few : (n : ℕ) → mac_calls n ≤ n + 1
unfolding mac_calls
mac_few n = omega arith
