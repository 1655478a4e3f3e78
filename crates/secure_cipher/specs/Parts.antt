-- What the parts of the calls promise each other; nothing here is owed to a caller.
-- Assumes nothing.
use Rattle.std.specs.Prelude.{ℕ, ◌≡◌, List, [], ◌∷◌, length}
use Rattle.laws.specs.Answer.{Answer.refused}
use Rattle.laws.specs.Blocks.{flat}
use Rattle.laws.specs.Over.{write}
use Rattle.laws.specs.Bytes.{xorl}
use Rattle.aes.specs.Cipher.{E}
use Rattle.secure_cipher.specs.Cbc.{Done, CbcRun, wiped}

-- the value after blocks that are chained under one key, from v on
unfoldable pub chained : List ℕ → List ℕ → List (List ℕ) → List ℕ
chained k v [] = v
chained k v (b ∷ bs) = chained k (E k (xorl v b)) bs

-- the blocks of a run, n bytes, at the front of the buffer, and the run's steps counted
pub record Deciphered (r : CbcRun) (n : ℕ) (before after : List ℕ) (steps : ℕ) : Type 0 where
  pub size : length (flat r.out) ≡ n
  pub here : after ≡ write before 0 (flat r.out)
  pub counted : steps ≡ r.steps

-- 14 after so many steps, with n bytes wiped
abbrev pub bad_padding : ℕ → List ℕ → ℕ → Done
bad_padding n o steps = record { answer = refused 14 []; out = wiped n o; steps = steps }
