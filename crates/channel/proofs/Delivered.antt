-- One sealed frame from one end to the other: it opens as it was sent. Over keys and a start value; no session here.
-- Assumes nothing.
use mathlib.Core.Bool.{Bool, true, false}
use mathlib.Core.List.{List}
use mathlib.Core.Option.{some}
use mathlib.Core.Path.{◌≡◌, refl, sym, ap, ◌∙◌}
use Prim.Native.Nat.{ℕ, ◌+◌, ◌/◌, ◌≤◌}
use native.Mathlib.Omega.{arith}
use lib.ListN.{length, take, drop}
use Rattle.laws.specs.Answer.{Answer.given}
use Rattle.laws.specs.Blocks.{Block}
use Rattle.laws.specs.Bytes.{compl}
use Rattle.laws.proofs.BlockLists.{block-compl}
use Rattle.secure_keys.specs.declared.crypto.SessionKeys.{SessionKeys}
use Rattle.secure_keys.proofs.KeysLaws.{GoodKeys}
use Rattle.secure_cipher.specs.Pad.{pad_data}
use Rattle.secure_cipher.specs.Mac.{Mac, mac_of}
use Rattle.secure_cipher.specs.Cbc.{Hidden, reveal, laid}
use Rattle.secure_cipher.proofs.PadLaws.{length-pad_data, pad_data_front}
use Rattle.secure_cipher.proofs.MacLaws.{mac-steps}
use Rattle.secure_cipher.proofs.CbcLaws.{reveal-hide}
use Rattle.secure_session.specs.Session.{is_secure}
use Rattle.secure_session.specs.declared.session.State.{State}
use Rattle.secure_session.specs.declared.session.State.TheVariants.{Secure}
use Rattle.secure_seal.specs.declared.frame.Direction.{Direction}
use Rattle.secure_seal.specs.Seal.{Asked, Sealable, data_len_for, sealed_frame}
use Rattle.secure_seal.proofs.SealLaws.{steps_for, type-mac, type_encrypted, payload-fits, plain-len, hidden_len_lem, plain_data, hidden_data, length-body, data-alone, body-alone, mac-alone, reads-alone}
use Rattle.secure_unseal.specs.Unseal.{Place, UnsealRun, unseal_run}
use Rattle.secure_unseal.specs.Lookup.{payload_shown}
use Rattle.secure_unseal.proofs.UnsealLaws.{plain-opens, hidden-opens, plain_shown, hidden_shown}

-- ---- what an unseal of n payload bytes leaves: where they stand, and the work buffer
unfoldable pub place_for : Bool → ℕ → Place
place_for false n = record { in_work = false; start = 8; len = n }
place_for true n = record { in_work = true; start = 0; len = n }

unfoldable pub work_for : Bool → List ℕ → List ℕ → List ℕ
work_for false x w = w
work_for true x w = laid (length x) (data_len_for true x) (pad_data x) w

-- whether encrypted or not is a parameter of its own, so that it can be gone through
module _ (k : SessionKeys) (v : List ℕ) (addr sqn : ℕ) (dir : Direction) (code : ℕ) (x w : List ℕ) (hk : GoodKeys k) (hv : Block v) where
  abbrev asked : Bool → Asked
  asked e = record { addr = addr; sqn = sqn; direction = dir; encrypt = e; code = code; payload = x }

  abbrev frame : Bool → List ℕ
  frame e = (sealed_frame k v (asked e)).bytes

  abbrev opened : Bool → UnsealRun
  opened e = record { answer = given (place_for e (length x)); moved = some (sealed_frame k v (asked e)).full; work = work_for e x w; steps = steps_for e (length x) }

  -- the peer's MAC is the sender's, and stands in the frame
  abbrev Made : Bool → Mac
  Made e = mac_of k.s_mac1 k.s_mac2 v (take (8 + data_len_for e x) (frame e))

  made-full : (e : Bool) → Sealable (asked e) → (Made e).full ≡ (sealed_frame k v (asked e)).full
  unfolding sealed_frame
  made-full e h = ap (λ (b : List ℕ). (mac_of k.s_mac1 k.s_mac2 v b).full) (body-alone k v (asked e) hk hv h)

  made_steps : (e : Bool) → Sealable (asked e) → (Made e).steps ≡ (8 + data_len_for e x + 15) / 16
  made_steps e h =
      mac-steps k.s_mac1 k.s_mac2 v (take (8 + data_len_for e x) (frame e))
      ∙ ap (λ (n : ℕ). (n + 15) / 16) (ap length (body-alone k v (asked e) hk hv h) ∙ length-body k v (asked e) hk hv h)

  made-right : (e : Bool) → Sealable (asked e) → take 4 (Made e).full ≡ take 4 (drop (8 + data_len_for e x) (frame e))
  made-right e h = ap (take 4) (made-full e h) ∙ sym (mac-alone k v (asked e) hk hv h)

  -- the encrypted data are the payload's
  revealed : Sealable (asked true)
      → reveal k.s_enc (compl v) (take (data_len_for true x) (drop 8 (frame true))) ≡ record { answer = given (length x); text = pad_data x; steps = length x / 16 + 1 }
  revealed h =
      ap (reveal k.s_enc (compl v)) (data-alone k v (asked true) hk hv h ∙ ap (λ (d : Hidden). d.bytes) (hidden_data k.s_enc v x))
      ∙ reveal-hide k.s_enc (compl v) x hk.enc (block-compl v hv.size) h.payload

  pub unseal-run-eq : (e : Bool) (s : State) → s ≡ Secure → Sealable (asked e) → (e ≡ true → data_len_for e x ≤ length w) → unseal_run s k v (frame e) w ≡ opened e
  unfolding is_secure place_for work_for
  unseal-run-eq false s hs h hw =
      plain-opens s k v (frame false) _ w (ap is_secure hs) (reads-alone k v (asked false) hk hv h) (type-mac dir false) (made-right false h) (type_encrypted dir false)
      ∙ (λ i. record {
        answer = given (record { in_work = false; start = 8; len = plain-len x i });
        moved = some (made-full false h i);
        work = w;
        steps = (made_steps false h ∙ ap (λ (n : ℕ). (8 + n + 15) / 16) (plain-len x)) i;
      })
  unseal-run-eq true s hs h hw =
      let m : length x / 16 + 1 + (Made true).steps ≡ steps_for true (length x) = omega (arith, made_steps true h, hidden_len_lem x) in
      hidden-opens s k v (frame true) _ w (ap is_secure hs) (reads-alone k v (asked true) hk hv h) (type-mac dir true) (made-right true h) _ _ _ (type_encrypted dir true) (hw refl) (revealed h)
      ∙ (λ i. record { answer = given (record { in_work = true; start = 0; len = length x }); moved = some (made-full true h i); work = laid (length x) (data_len_for true x) (pad_data x) w; steps = m i })

  -- ---- the payload shown is the payload sent
  pub shown-eq : (e : Bool) → Sealable (asked e) → (e ≡ true → data_len_for e x ≤ length w)
      → payload_shown (place_for e (length x)).in_work (place_for e (length x)).start (place_for e (length x)).len (frame e) (work_for e x w) ≡ x
  unfolding place_for work_for
  shown-eq false h hw =
      ap (λ (n : ℕ). payload_shown false 8 n (frame false) w) (sym (plain-len x)) ∙ plain_shown (frame false) w _ (reads-alone k v (asked false) hk hv h)
      ∙ data-alone k v (asked false) hk hv h ∙ plain_data k.s_enc v x
  shown-eq true h hw =
      hidden_shown (frame true) w (pad_data x) (length x) (data_len_for true x) (omega (arith, length-pad_data x)) (payload-fits true x) (hw refl) ∙ pad_data_front x
