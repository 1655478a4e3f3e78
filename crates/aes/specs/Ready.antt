-- What a run of blocks under one key goes by, as it is known outside: the tables, which all keys share, the key made ready, and a
-- block under them. All of it is shut, and `enciphers` and `deciphers` (proofs/Laws) are all that a caller knows of it. Today a key
-- made ready is the whole key schedule of FIPS 197, 5.2.
-- Assumes nothing.
use Rattle.std.specs.Prelude.{List, ℕ}
use Rattle.aes_field.specs.Sbox.{SBOX, INVSBOX}
use Rattle.aes.specs.KeyExpansion.{key_expansion}
use Rattle.aes.specs.Cipher.{cipher, inv_cipher}

unfoldable pub encrypt_tables : List ℕ
encrypt_tables = SBOX

unfoldable pub decrypt_tables : List ℕ
decrypt_tables = INVSBOX

-- the key k made ready for enciphering, and for deciphering, with the tables t of enciphering
unfoldable pub encrypt_key : List ℕ → List ℕ → List ℕ
encrypt_key t k = key_expansion t k

unfoldable pub decrypt_key : List ℕ → List ℕ → List ℕ
decrypt_key t k = key_expansion t k

-- the block b under w, a key made ready, with the tables t of the direction
unfoldable pub enciphered : List ℕ → List ℕ → List ℕ → List ℕ
enciphered t w b = cipher t w b

unfoldable pub deciphered : List ℕ → List ℕ → List ℕ → List ℕ
deciphered t w b = inv_cipher t w b
