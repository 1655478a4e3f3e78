-- The premises of demand 3 can be met: two conversations that differ in keys, random numbers and encrypted contents. Two frames from
-- each end, one of them encrypted, and twice the same end twice in a row; the reader's have the reply flag. The second pair of ends is
-- not fresh.
-- Assumes nothing.
use mathlib.Core.Bool.{true, false, false≢true}
use mathlib.Core.List.{List, [], ◌∷◌, map}
use mathlib.Core.Path.{◌≡◌, refl, sym, ap, ◌∙◌}
use Prim.Native.Nat.{ℕ, ◌+◌, ◌*◌, ◌/◌, ◌≤◌, ◌<◌}
use native.Mathlib.Omega.{arith}
use lib.ListN.{length, replicate, get_or, length-replicate}
use Rattle.laws.specs.Bytes.{Exactly, zeros}
use Rattle.laws.proofs.ByteLists.{bytes-replicate}
use Rattle.secure_cipher.proofs.PadLaws.{length-pad_data}
use Rattle.secure_session.specs.Chain.{chain_in}
use Rattle.secure_session.specs.Session.{fresh}
use Rattle.secure_session.specs.Apart.{Apart}
use Rattle.secure_session.specs.declared.session.End.{End}
use Rattle.secure_session.specs.declared.session.End.TheVariants.{Controller, Reader}
use Rattle.secure_session.specs.declared.session.Session.{Session}
use Rattle.secure_session.specs.declared.session.State.TheVariants.{Disconnected}
use Rattle.secure_seal.specs.Seal.{data_len_for, total_of}
use Rattle.secure_seal.proofs.SealLaws.{plain-len, hidden_len_lem}
use Rattle.channel.specs.Carried.{Wire, WireFits}
use Rattle.channel.specs.Handshake.{Wires, WiresFit}
use Rattle.channel.specs.Talk.{Send, asked_in, Event}
use Rattle.channel.specs.Demand.{Conversation, events_of, SendFits, AllFit, Proper, Agree, Each, Demand3}
use Rattle.channel.proofs.Demand3.{each_sized, calls_told, calls-counted, demand3}

-- the reader's address, with the reply flag on what it sends itself
addr_from : End → ℕ
addr_from Controller = 5
addr_from Reader = 0x85

addr_byte : (e : End) → addr_from e < 256
unfolding addr_from
addr_byte Controller = omega arith
addr_byte Reader = omega arith

-- ---- the handshake's frames
wire : End → ℕ → Wire
wire e code = record { addr = addr_from e; sqn = 0; use_crc = true; block = 1 ∷ []; code = code; out = zeros 64 }

wire_fits : (e : End) (code n : ℕ) → n ≤ 32 → WireFits (wire e code) n
unfolding wire
wire_fits e code n h = record { sqn = omega arith; block = omega arith; room = omega arith }

wires : Wires
wires = record { chlng = wire Controller 0x76; ccrypt = wire Reader 0x76; scrypt = wire Controller 0x77; rmac = wire Reader 0x78 }

wires_fit : WiresFit wires
unfolding wires
wires_fit = record {
  chlng = wire_fits Controller 0x76 8 (omega arith);
  ccrypt = wire_fits Reader 0x76 32 (omega arith);
  scrypt = wire_fits Controller 0x77 16 (omega arith);
  rmac = wire_fits Reader 0x78 16 (omega arith);
}

-- ---- the sealed frames: n bytes x
plain_send : End → ℕ → ℕ → Send
plain_send e n x = record { who = e; addr = addr_from e; sqn = 1; code = 0x60; encrypt = false; payload = replicate n x; out = zeros 64; work = [] }

hidden : End → ℕ → ℕ → Send
hidden e n x = record { who = e; addr = addr_from e; sqn = 2; code = 0x53; encrypt = true; payload = replicate n x; out = zeros 64; work = zeros 32 }

plain_send_fits : (e : End) (n x : ℕ) → n ≤ 16 → x < 256 → SendFits (plain_send e n x)
unfolding plain_send data_len_for
plain_send_fits e n x h hx =
    let l = length-replicate {A = ℕ} n x in
    record {
      limits = record { addr = addr_byte e; sqn = omega arith; code = omega arith; payload = bytes-replicate n x hx; total = omega arith };
      room = omega arith;
      work = λ p. absurd (false≢true p);
    }

hidden_fits : (e : End) (n x : ℕ) → n ≤ 16 → x < 256 → SendFits (hidden e n x)
unfolding hidden data_len_for
hidden_fits e n x h hx =
    let l = length-replicate {A = ℕ} n x in
    let m = length-pad_data (replicate n x) in
    record {
      limits = record { addr = addr_byte e; sqn = omega arith; code = omega arith; payload = bytes-replicate n x hx; total = omega arith };
      room = omega arith;
      work = λ p. omega arith;
    }

-- x is what stands in the encrypted payloads
sends : ℕ → List Send
sends x = hidden Controller 16 x ∷ plain_send Controller 0 9 ∷ plain_send Reader 8 9 ∷ hidden Reader 3 x ∷ []

-- ---- the ends

-- Disconnected, with the key k and y in every other byte
used : End → List ℕ → ℕ → Session
used e k y = record {
  end = e;
  state = Disconnected;
  scbk = k;
  rnd_a = replicate 8 y;
  rnd_b = replicate 8 y;
  cuid = replicate 8 y;
  keys = record { s_enc = replicate 16 y; s_mac1 = replicate 16 y; s_mac2 = replicate 16 y };
  chain = chain_in (replicate 16 y);
}

-- between these ends; a and b are the random numbers' bytes, x stands in the encrypted payloads
between : Session → Session → ℕ → ℕ → ℕ → Conversation
between c r a b x = record { controller = c; reader = r; wires = wires; rnd_a = replicate 8 a; rnd_b = replicate 8 b; sends = sends x }

pub one : Conversation
one = between (fresh Controller (replicate 16 0x30) (zeros 8)) (fresh Reader (replicate 16 0x30) (replicate 8 1)) 2 3 7

pub other : Conversation
other = between (used Controller (replicate 16 0x31) 0xAA) (used Reader (replicate 16 0x31) 0xBB) 4 5 8

-- ---- the premises

sends_fit : (x : ℕ) → x < 256 → AllFit (sends x)
unfolding sends
sends_fit x h = (
  hidden_fits Controller 16 x (omega arith) h,
  (plain_send_fits Controller 0 9 (omega arith) (omega arith), (plain_send_fits Reader 8 9 (omega arith) (omega arith), (hidden_fits Reader 3 x (omega arith) h, tt))),
)

filled : (n x : ℕ) → x < 256 → Exactly n (replicate n x)
filled n x h = record { size = length-replicate {A = ℕ} n x; bytes = bytes-replicate n x h }

between_proper : (c r : Session) (a b x : ℕ) → Apart c r → a < 256 → b < 256 → x < 256 → Proper (between c r a b x)
unfolding between
between_proper c r a b x h ha hb hx = record { apart = h; wires = wires_fit; rnd_a = filled 8 a ha; rnd_b = filled 8 b hb; sends = sends_fit x hx }

pub one_proper : Proper one
unfolding one fresh
one_proper =
    let key = filled 16 0x30 (omega arith) in
    between_proper _ _ 2 3 7 (record { controller = refl; reader = refl; controller_state = refl; reader_state = refl; one_key = refl; key = key; cuid = refl })
    (omega arith) (omega arith) (omega arith)

pub other_proper : Proper other
unfolding other used
other_proper =
    let key = filled 16 0x31 (omega arith) in
    between_proper _ _ 4 5 8 (record { controller = refl; reader = refl; controller_state = refl; reader_state = refl; one_key = refl; key = key; cuid = refl })
    (omega arith) (omega arith) (omega arith)

agree_self : (s : Send) → Agree s s
agree_self s = record { who = refl; addr = refl; sqn = refl; code = refl; size = refl; encrypt = refl; plain = λ p. refl }

hidden_agree : (e : End) (n x y : ℕ) → Agree (hidden e n x) (hidden e n y)
unfolding hidden
hidden_agree e n x y = record {
  who = refl;
  addr = refl;
  sqn = refl;
  code = refl;
  size = length-replicate {A = ℕ} n x ∙ sym (length-replicate {A = ℕ} n y);
  encrypt = refl;
  plain = λ p. absurd (false≢true (sym p));
}

pub samples_agree : Each Agree one.sends other.sends
unfolding one other between sends
samples_agree = (hidden_agree Controller 16 7 8, (agree_self (plain_send Controller 0 9), (agree_self (plain_send Reader 8 9), (hidden_agree Reader 3 7 8, tt))))

-- ---- they differ, and yet
-- what is sent first
abbrev opening : List Send → List ℕ
opening [] = []
opening (s ∷ ss) = s.payload

first_byte : {x y : ℕ} (a b : List ℕ) → get_or a 0 0 ≡ x → get_or b 0 0 ≡ y → (x ≡ y → ⊥) → a ≡ b → ⊥
first_byte a b p q n e = n (sym p ∙ ap (λ (l : List ℕ). get_or l 0 0) e ∙ q)

pub record Differ (t u : Conversation) : Type 0 where
  pub key : t.controller.scbk ≡ u.controller.scbk → ⊥
  pub rnd_a : t.rnd_a ≡ u.rnd_a → ⊥
  pub rnd_b : t.rnd_b ≡ u.rnd_b → ⊥
  pub contents : opening t.sends ≡ opening u.sends → ⊥

pub samples_differ : Differ one other
unfolding one other between fresh used sends hidden
samples_differ = record {
  key = first_byte _ _ refl refl (λ (e : 0x30 ≡ 0x31). omega arith);
  rnd_a = first_byte _ _ refl refl (λ (e : 2 ≡ 4). omega arith);
  rnd_b = first_byte _ _ refl refl (λ (e : 3 ≡ 5). omega arith);
  contents = first_byte (replicate 16 7) (replicate 16 8) refl refl (λ (e : 7 ≡ 8). omega arith);
}

pub met : Demand3 one other
met = demand3 one other one_proper other_proper samples_agree

-- ---- what it comes to here: 46 and 30 bytes encrypted, 14 and 22 plain, in both
abbrev pub lengths_in : Conversation → List ℕ
lengths_in t = map (λ (e : Event). length e.frame) (events_of t)

sent-sized : (x : ℕ) → map (λ (s : Send). total_of (asked_in s)) (sends x) ≡ 46 ∷ 14 ∷ 22 ∷ 30 ∷ []
unfolding sends hidden plain_send
sent-sized x =
    let n : (k : ℕ) → data_len_for true (replicate k x) ≡ (k / 16 + 1) * 16 = λ k. hidden_len_lem (replicate k x) ∙ ap (λ (m : ℕ). (m / 16 + 1) * 16) (length-replicate {A = ℕ} k x) in
    let p : (k : ℕ) → data_len_for false (replicate k 9) ≡ k = λ k. plain-len (replicate k 9) ∙ length-replicate {A = ℕ} k 9 in
    rw (n 16, p 0, p 8, n 3)

pub met_lengths : (lengths_in one ≡ 46 ∷ 14 ∷ 22 ∷ 30 ∷ []) × (lengths_in other ≡ 46 ∷ 14 ∷ 22 ∷ 30 ∷ [])
unfolding one other between
met_lengths = (each_sized one.sends (events_of one) met.arrived₁ ∙ sent-sized 7, each_sized other.sends (events_of other) met.arrived₂ ∙ sent-sized 8)

-- 5 and 3 calls encrypted, 1 and 1 plain, sealing and unsealing; in the other conversation they are the same
abbrev calls_sent : List (ℕ × ℕ)
calls_sent = (5, 5) ∷ (1, 1) ∷ (1, 1) ∷ (3, 3) ∷ []

pub met_calls : (map calls_told (events_of one) ≡ calls_sent) × (map calls_told (events_of other) ≡ calls_sent)
unfolding one other between sends hidden plain_send
met_calls = (calls-counted one one_proper, calls-counted other other_proper)
