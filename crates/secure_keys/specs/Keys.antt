-- Session keys, cryptograms, the first chain value, and the old way to make a reader's key (docs/RULES.md, 7).
-- Assumes nothing.
use Rattle.std.specs.Prelude.{ℕ, List, ◌∷◌, ◌++◌, take}
use Rattle.laws.specs.Bytes.{Exactly, zeros, compl}
use Rattle.aes.specs.Cipher.{E}
use Rattle.secure_keys.specs.declared.crypto.SessionKeys.{SessionKeys}

-- a random number of the handshake, RND.A or RND.B: eight bytes
abbrev pub Random : List ℕ → Type 0
Random a = Exactly 8 a

-- 01, a tag, the first six bytes of RND.A, eight zeros
abbrev pub template : ℕ → List ℕ → List ℕ
template tag rnd_a = 0x01 ∷ tag ∷ (take 6 rnd_a ++ zeros 8)

-- S-ENC, S-MAC1, S-MAC2: SCBK enciphers 01 82, 01 01, 01 02
unfoldable pub derive : List ℕ → List ℕ → SessionKeys
derive scbk rnd_a =
    record { s_enc = E scbk (template 0x82 rnd_a); s_mac1 = E scbk (template 0x01 rnd_a); s_mac2 = E scbk (template 0x02 rnd_a) }

unfoldable pub client_of : List ℕ → List ℕ → List ℕ → List ℕ
client_of sEnc rnd_a rnd_b = E sEnc (rnd_a ++ rnd_b)

unfoldable pub server_of : List ℕ → List ℕ → List ℕ → List ℕ
server_of sEnc rnd_a rnd_b = E sEnc (rnd_b ++ rnd_a)

-- S-MAC2 of S-MAC1 of the server cryptogram
unfoldable pub first_of : List ℕ → List ℕ → List ℕ → List ℕ
first_of sMac1 sMac2 server = E sMac2 (E sMac1 server)

-- the master key enciphers the cUID and its complement
unfoldable pub legacy_of : List ℕ → List ℕ → List ℕ
legacy_of mk cuid = E mk (cuid ++ compl cuid)
