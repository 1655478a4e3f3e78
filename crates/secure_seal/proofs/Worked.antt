-- The paper's worked sizes and calls (docs/RULES.md, 8.1, 9.2 and 10.2), for every payload of so many bytes.
-- Assumes nothing.
use mathlib.Core.Path.{◌≡◌, refl, ap, ◌∙◌}
use mathlib.Core.Bool.{Bool, true, false}
use mathlib.Core.List.{List, [], ◌∷◌, map}
use Prim.Native.Nat.{ℕ, ◌+◌, ◌*◌, ◌/◌}
use lib.ListN.{length}
use Rattle.laws.specs.Blocks.{Block}
use Rattle.secure_keys.specs.declared.crypto.SessionKeys.{SessionKeys}
use Rattle.secure_keys.proofs.KeysLaws.{GoodKeys}
use Rattle.secure_seal.specs.Seal.{Asked, data_len_for, Sealable, sealed_frame}
use Rattle.secure_seal.proofs.SealLaws.{steps_for, plain-len, hidden_len_lem, frame-length, frame-steps}

-- the length of the frame and the calls for n bytes, encrypted or plain
abbrev pub size_for : Bool → ℕ → ℕ × ℕ
size_for true n = (14 + (n / 16 + 1) * 16, steps_for true n)
size_for false n = (14 + n, steps_for false n)

total_for : (e : Bool) (x : List ℕ) → 14 + data_len_for e x ≡ (size_for e (length x)).0
total_for true x = ap (λ (n : ℕ). 14 + n) (hidden_len_lem x)
total_for false x = ap (λ (n : ℕ). 14 + n) (plain-len x)

steps_for_lem : (e : Bool) (n : ℕ) → steps_for e n ≡ (size_for e n).1
steps_for_lem true n = refl
steps_for_lem false n = refl

-- of every frame that is sealed
pub frame-sized : (k : SessionKeys) (v : List ℕ) (q : Asked) → GoodKeys k → Block v → Sealable q
    → (length (sealed_frame k v q).bytes ≡ (size_for q.encrypt (length q.payload)).0) × ((sealed_frame k v q).steps ≡ (size_for q.encrypt (length q.payload)).1)
frame-sized k v q hk hv hq = (
  frame-length k v q hk hv hq ∙ total_for q.encrypt q.payload,
  frame-steps k v q hk hv hq ∙ steps_for_lem q.encrypt (length q.payload),
)

-- 0, 15 and 16 bytes encrypted, 8 and 9 plain
pub worked_sizes : map (λ (c : Bool × ℕ). size_for c.0 c.1) ((true, 0) ∷ (true, 15) ∷ (true, 16) ∷ (false, 8) ∷ (false, 9) ∷ [])
    ≡ (30, 3) ∷ (30, 3) ∷ (46, 5) ∷ (22, 1) ∷ (23, 2) ∷ []
worked_sizes = refl

-- the largest payloads, and one byte more
pub worked_limits : map (λ (c : Bool × ℕ). (size_for c.0 c.1).0) ((false, 65521) ∷ (false, 65522) ∷ (true, 65519) ∷ (true, 65520) ∷ [])
    ≡ 65535 ∷ 65536 ∷ 65534 ∷ 65550 ∷ []
worked_limits = refl
