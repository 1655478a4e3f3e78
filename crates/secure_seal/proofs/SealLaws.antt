-- What sealing makes: how long the frame is, its cipher calls, what stands where in it; and reading it shows its parts.
-- Assumes nothing.
use mathlib.Core.Path.{◌≡◌, refl, sym, ap, ◌∙◌}
use mathlib.Core.Bool.{Bool, true, false}
use mathlib.Core.List.{List, [], ◌∷◌, ◌++◌, append_assoc, append-nil}
use mathlib.Core.Option.{some}
use Prim.Native.Nat.{ℕ, zero, suc, ◌+◌, ◌*◌, ◌/◌, ◌≤◌, ◌<◌}
use native.Mathlib.Omega.{arith}
use borrow.Author.Tests.{le-ltb}
use lib.ListN.{length, take, drop}
use lib.Seq.{take_at, length-take-le}
use Rattle.laws.specs.Answer.{Answer.given, refuse_if}
use Rattle.laws.specs.Bytes.{Bytes, compl}
use Rattle.laws.specs.Blocks.{Block}
use Rattle.laws.specs.Over.{write}
use Rattle.laws.proofs.ByteLists.{bytes-append, bytes_nil}
use Rattle.laws.proofs.Lists.{middle}
use Rattle.laws.proofs.BlockLists.{block-compl}
use Rattle.packet_head.specs.Block.{has_mac, is_encrypted, scs_of}
use Rattle.packet_head.specs.Trailer.{Tail}
use Rattle.packet_parse.specs.Frame.{Fields, BlockAt.block_at, MacAt.mac_from, parse_of}
use Rattle.packet_build.specs.Build.{head_bytes, body_bytes, frame_bytes, tail_bytes, build_of, test_of}
use Rattle.packet_build.proofs.Sizes.{passes, bytes-length}
use Rattle.packet_build.proofs.Frames.{build_given}
use Rattle.packet_theorems.proofs.Built.{tail_of}
use Rattle.packet_theorems.proofs.ReadBack.{built_reads_back}
use Rattle.secure_keys.specs.declared.crypto.SessionKeys.{SessionKeys}
use Rattle.secure_keys.proofs.KeysLaws.{GoodKeys}
use Rattle.secure_cipher.specs.Cbc.{hide}
use Rattle.secure_cipher.proofs.PadLaws.{length-pad_data}
use Rattle.secure_cipher.proofs.CbcLaws.{length-hide, bytes-hide, steps-hide}
use Rattle.secure_cipher.proofs.MacLaws.{mac-block, mac-steps}
use Rattle.secure_session.specs.Session.{is_secure}
use Rattle.secure_session.specs.declared.session.State.{State}
use Rattle.secure_seal.specs.Seal.{type_for, data_len_for, data_of, Asked, total_of, Sealable, sealed_control, parts_with, body_with, sealed_frame, frame_test, sealing, seal_run}
use Rattle.secure_seal.specs.declared.frame.Direction.{Direction}
use Rattle.secure_seal.specs.declared.frame.Direction.TheVariants.{AcuToPd, PdToAcu}

-- the calls for n bytes: 2q + 1 with q = n / 16 + 1, or 8 + n over 16, rounded up
abbrev pub steps_for : Bool → ℕ → ℕ
steps_for true n = 2 * (n / 16 + 1) + 1
steps_for false n = (8 + n + 15) / 16

-- ---- the types

pub type-mac : (d : Direction) (e : Bool) → has_mac (type_for d e) ≡ true
unfolding type_for
type-mac AcuToPd false = refl
type-mac AcuToPd true = refl
type-mac PdToAcu false = refl
type-mac PdToAcu true = refl

pub type_encrypted : (d : Direction) (e : Bool) → is_encrypted (type_for d e) ≡ e
unfolding type_for
type_encrypted AcuToPd false = refl
type_encrypted AcuToPd true = refl
type_encrypted PdToAcu false = refl
type_encrypted PdToAcu true = refl

pub type_known : (d : Direction) (e : Bool) → scs_of (type_for d e) ≡ given (type_for d e)
unfolding type_for scs_of refuse_if
type_known AcuToPd false = refl
type_known AcuToPd true = refl
type_known PdToAcu false = refl
type_known PdToAcu true = refl

pub type_byte : (d : Direction) (e : Bool) → type_for d e < 256
unfolding type_for
type_byte AcuToPd false = omega arith
type_byte AcuToPd true = omega arith
type_byte PdToAcu false = omega arith
type_byte PdToAcu true = omega arith

-- ---- the data

pub payload-fits : (e : Bool) (x : List ℕ) → length x ≤ data_len_for e x
unfolding data_len_for
payload-fits false x = omega arith
payload-fits true x = omega (arith, length-pad_data x)

module _ (k v x : List ℕ) (hk : Block k) (hv : Block v) (hx : Bytes x) where
  pub data-length : (e : Bool) → length (data_of e k v x).bytes ≡ data_len_for e x
  unfolding data_of data_len_for
  data-length false = refl
  data-length true = length-hide k (compl v) x hk (block-compl v hv.size) hx ∙ sym (length-pad_data x)

  pub data-bytes : (e : Bool) → Bytes (data_of e k v x).bytes
  unfolding data_of
  data-bytes false = hx
  data-bytes true = bytes-hide k (compl v) x hk (block-compl v hv.size) hx

pub plain-len : (x : List ℕ) → data_len_for false x ≡ length x
unfolding data_len_for
plain-len x = refl

pub hidden_len_lem : (x : List ℕ) → data_len_for true x ≡ (length x / 16 + 1) * 16
unfolding data_len_for
hidden_len_lem x = length-pad_data x

pub plain_data : (k v x : List ℕ) → (data_of false k v x).bytes ≡ x
unfolding data_of
plain_data k v x = refl

pub hidden_data : (k v x : List ℕ) → data_of true k v x ≡ hide k (compl v) x
unfolding data_of
hidden_data k v x = refl

steps-total : (e : Bool) (k v x : List ℕ) (m : ℕ) → m ≡ (8 + data_len_for e x + 15) / 16 → (data_of e k v x).steps + m ≡ steps_for e (length x)
unfolding data_of data_len_for
steps-total false k v x m h = omega arith
steps-total true k v x m h = omega (arith, steps-hide k (compl v) x, length-pad_data x)

-- ---- the frame

-- the eight bytes before the data
abbrev pub head_with : Asked → List ℕ
head_with q = head_bytes q.addr (sealed_control q.sqn) (total_of q) ++ (2 ∷ type_for q.direction q.encrypt ∷ q.code ∷ [])

pub body_head : (q : Asked) (d : List ℕ) → body_with q d ≡ head_with q ++ d
unfolding body_bytes
body_head q d = refl

head_is_bytes : (q : Asked) → Sealable q → Bytes (head_with q)
head_is_bytes q h zero = omega arith
head_is_bytes q h (suc zero) = h.addr
head_is_bytes q h (suc (suc zero)) = omega arith
head_is_bytes q h (suc (suc (suc zero))) = omega (arith, h.total)
head_is_bytes q h (suc (suc (suc (suc zero)))) = omega (arith, h.sqn)
head_is_bytes q h (suc (suc (suc (suc (suc zero))))) = omega arith
head_is_bytes q h (suc (suc (suc (suc (suc (suc zero)))))) = type_byte q.direction q.encrypt
head_is_bytes q h (suc (suc (suc (suc (suc (suc (suc zero))))))) = h.code
head_is_bytes q h (suc (suc (suc (suc (suc (suc (suc (suc i)))))))) = bytes_nil i

-- what reading shows of it: t is the trailer
abbrev pub fields_with : Asked → Tail → Fields
fields_with q t =
    record {
      addr = q.addr;
      ctrl = sealed_control q.sqn;
      block = block_at (type_for q.direction q.encrypt) 7 0;
      code = q.code;
      data_start = 8;
      data_len = data_len_for q.encrypt q.payload;
      mac = mac_from (8 + data_len_for q.encrypt q.payload);
      trailer = t;
      len = total_of q;
    }

tests_pass : (sqn n have : ℕ) → sqn ≤ 3 → 14 + n ≤ 65535 → 14 + n ≤ have → test_of (sealed_control sqn) (record { has_block = true; mac_due = true; mac = 4; block_data = 0; «data» = n; room = have }) ≡ given (14 + n)
tests_pass sqn n have h m r =
    passes (sealed_control sqn) _ (14 + n)
    (record { sqn = h; flag = refl; macs = refl; total = omega arith; most = m; room = r; small = omega arith })

-- its data, and the four bytes of its MAC
abbrev pub sealed_data : SessionKeys → List ℕ → Asked → List ℕ
sealed_data k v q = (data_of q.encrypt k.s_enc v q.payload).bytes

abbrev pub sealed_mac : SessionKeys → List ℕ → Asked → List ℕ
sealed_mac k v q = take 4 (sealed_frame k v q).full

module _ (k : SessionKeys) (v : List ℕ) (q : Asked) (hk : GoodKeys k) (hv : Block v) (hq : Sealable q) where
  pub sealed-data-length : length (sealed_data k v q) ≡ data_len_for q.encrypt q.payload
  sealed-data-length = data-length k.s_enc v q.payload hk.enc hv hq.payload q.encrypt

  body_is_bytes : Bytes (body_with q (sealed_data k v q))
  body_is_bytes =
      rw (body_head q (sealed_data k v q))
      (bytes-append (head_with q) (sealed_data k v q) (head_is_bytes q hq) (data-bytes k.s_enc v q.payload hk.enc hv hq.payload q.encrypt))

  pub full_block : Block (sealed_frame k v q).full
  unfolding sealed_frame
  full_block = mac-block k.s_mac1 k.s_mac2 v (body_with q (sealed_data k v q)) hk.mac₁ hk.mac₂ hv body_is_bytes

  pub sealed-mac-length : length (sealed_mac k v q) ≡ 4
  sealed-mac-length = length-take-le 4 (sealed_frame k v q).full (omega (arith, full_block.size))

  pub length-body : length (body_with q (sealed_data k v q)) ≡ 8 + data_len_for q.encrypt q.payload
  length-body = rw (body_head q (sealed_data k v q)) (omega (arith, sealed-data-length))

  pub frame-length : length (sealed_frame k v q).bytes ≡ total_of q
  unfolding sealed_frame
  frame-length = bytes-length (parts_with q (sealed_data k v q) (sealed_mac k v q)) (total_of q) ∙ omega (arith, sealed-data-length, sealed-mac-length)

  pub frame-steps : (sealed_frame k v q).steps ≡ steps_for q.encrypt (length q.payload)
  unfolding sealed_frame
  frame-steps =
      steps-total q.encrypt k.s_enc v q.payload _
      (mac-steps k.s_mac1 k.s_mac2 v (body_with q (sealed_data k v q)) ∙ ap (λ (n : ℕ). (n + 15) / 16) length-body)

  -- body, MAC and CRC, and the head and the data of the body
  frame-shape : (rest : List ℕ) → (sealed_frame k v q).bytes ++ rest ≡ body_with q (sealed_data k v q) ++ (sealed_mac k v q ++ (tail_bytes true (body_with q (sealed_data k v q) ++ sealed_mac k v q) ++ rest))
  unfolding sealed_frame frame_bytes
  frame-shape rest =
      append_assoc (body_with q (sealed_data k v q) ++ sealed_mac k v q) (tail_bytes true (body_with q (sealed_data k v q) ++ sealed_mac k v q)) rest
      ∙ append_assoc (body_with q (sealed_data k v q)) (sealed_mac k v q) (tail_bytes true (body_with q (sealed_data k v q) ++ sealed_mac k v q) ++ rest)

  body-shape : (rest : List ℕ) → body_with q (sealed_data k v q) ++ rest ≡ head_with q ++ (sealed_data k v q ++ rest)
  body-shape rest = rw (body_head q (sealed_data k v q)) (append_assoc (head_with q) (sealed_data k v q) rest)

  -- what stands where, whatever follows the frame
  pub head-part : (rest : List ℕ) → take 8 ((sealed_frame k v q).bytes ++ rest) ≡ head_with q
  head-part rest = ap (take 8) (frame-shape rest ∙ body-shape _)

  pub data-part : (rest : List ℕ) → take (data_len_for q.encrypt q.payload) (drop 8 ((sealed_frame k v q).bytes ++ rest)) ≡ sealed_data k v q
  data-part rest =
      ap (λ (l : List ℕ). take (data_len_for q.encrypt q.payload) (drop 8 l)) (frame-shape rest ∙ body-shape _)
      ∙ middle (head_with q) (sealed_data k v q) _ 8 _ refl sealed-data-length

  pub body-part : (rest : List ℕ) → take (8 + data_len_for q.encrypt q.payload) ((sealed_frame k v q).bytes ++ rest) ≡ body_with q (sealed_data k v q)
  body-part rest = ap (take (8 + data_len_for q.encrypt q.payload)) (frame-shape rest) ∙ take_at (body_with q (sealed_data k v q)) _ _ length-body

  pub mac-part : (rest : List ℕ) → take 4 (drop (8 + data_len_for q.encrypt q.payload) ((sealed_frame k v q).bytes ++ rest)) ≡ sealed_mac k v q
  mac-part rest =
      ap (λ (l : List ℕ). take 4 (drop (8 + data_len_for q.encrypt q.payload) l)) (frame-shape rest)
      ∙ middle (body_with q (sealed_data k v q)) (sealed_mac k v q) _ _ 4 length-body sealed-mac-length

  -- building accepts it, and so does reading
  pub frame-built : (have : ℕ) → total_of q ≤ have → build_of (parts_with q (sealed_data k v q) (sealed_mac k v q)) have ≡ given (sealed_frame k v q).bytes
  unfolding sealed_frame
  frame-built have h =
      build_given (parts_with q (sealed_data k v q) (sealed_mac k v q)) have (total_of q)
      (rw (type-mac q.direction q.encrypt, sealed-mac-length, sealed-data-length) (tests_pass q.sqn (data_len_for q.encrypt q.payload) have hq.sqn hq.total h))

  pub frame-reads : (rest : List ℕ) → parse_of ((sealed_frame k v q).bytes ++ rest) ≡ given (fields_with q (tail_of true (body_with q (sealed_data k v q) ++ sealed_mac k v q)))
  frame-reads rest =
      (built_reads_back (parts_with q (sealed_data k v q) (sealed_mac k v q)) (total_of q) (sealed_frame k v q).bytes rest (type_known q.direction q.encrypt) (frame-built (total_of q) (omega arith))).0
      ∙ ap given (rw (frame-length, sealed-data-length, type-mac q.direction q.encrypt))

  -- a plain frame shows its payload
  pub plain-part : (rest : List ℕ) → q.encrypt ≡ false → take (8 + length q.payload) ((sealed_frame k v q).bytes ++ rest) ≡ head_with q ++ q.payload
  plain-part rest e =
      let n : data_len_for q.encrypt q.payload ≡ length q.payload = ap (λ (b : Bool). data_len_for b q.payload) e ∙ plain-len q.payload in
      let d : sealed_data k v q ≡ q.payload = ap (λ (b : Bool). (data_of b k.s_enc v q.payload).bytes) e ∙ plain_data k.s_enc v q.payload in
      ap (λ (m : ℕ). take (8 + m) ((sealed_frame k v q).bytes ++ rest)) (sym n) ∙ body-part rest ∙ body_head q (sealed_data k v q) ∙ ap (λ (l : List ℕ). head_with q ++ l) d

  -- the same of the frame alone
  pub head-alone : take 8 (sealed_frame k v q).bytes ≡ head_with q
  head-alone = rw append-nil at (head-part [])

  pub data-alone : take (data_len_for q.encrypt q.payload) (drop 8 (sealed_frame k v q).bytes) ≡ sealed_data k v q
  data-alone = rw append-nil at (data-part [])

  pub body-alone : take (8 + data_len_for q.encrypt q.payload) (sealed_frame k v q).bytes ≡ body_with q (sealed_data k v q)
  body-alone = rw append-nil at (body-part [])

  pub mac-alone : take 4 (drop (8 + data_len_for q.encrypt q.payload) (sealed_frame k v q).bytes) ≡ sealed_mac k v q
  mac-alone = rw append-nil at (mac-part [])

  pub reads-alone : parse_of (sealed_frame k v q).bytes ≡ given (fields_with q (tail_of true (body_with q (sealed_data k v q) ++ sealed_mac k v q)))
  reads-alone = rw append-nil at (frame-reads [])

  pub plain-alone : q.encrypt ≡ false → take (8 + length q.payload) (sealed_frame k v q).bytes ≡ head_with q ++ q.payload
  plain-alone e = rw append-nil at (plain-part [] e)

-- ---- what is within limits and buffers is sealed
pub seals : (t : State) (k : SessionKeys) (v : List ℕ) (q : Asked) (o : List ℕ) → is_secure t ≡ true → Sealable q → total_of q ≤ length o
    → seal_run t k v q o
    ≡ record {
      answer = given (total_of q);
      moved = some (sealed_frame k v q).full;
      out = write o 0 (sealed_frame k v q).bytes;
      steps = (sealed_frame k v q).steps;
    }
unfolding seal_run sealing frame_test refuse_if
seals t k v q o hs h ho = rw (hs, le-ltb 3 q.sqn h.sqn, le-ltb 65535 (total_of q) h.total, le-ltb (length o) (total_of q) ho)
