-- Two keys made ready are equal where their bytes are. By its type a key has eleven round keys, each of two numbers below 2 to the 64.
-- Assumes nothing.
use mathlib.Core.Path.{◌≡◌, refl, sym, ap, ap₂, subst, ◌∙◌}
use mathlib.Core.List.{List, [], ◌∷◌}
use Prim.Native.Nat.{ℕ, ◌^◌, ◌<◌}
use native.Mathlib.Omega.{arith}
use lib.ListN.{length, take, drop}
use Rattle.std.proofs.Math.Nat.{ℕ_set}
use Rattle.aes_field.specs.Packed.{packed, unpacked}
use Rattle.aes_field.proofs.Packing.{packed-unpacked}
use Rattle.aes.specs.declared.round.Halves.{Halves}
use Rattle.aes.specs.declared.lent.Key.{Key}
use Rattle.aes.specs.Halves.{halves_bytes, schedule_of}
use Rattle.aes.specs.Lent.{key_bytes}

abbrev pub AreHalves : List Halves → Type 0
AreHalves [] = Unit {0}
AreHalves (k ∷ ks) = ((k.first < 2 ^ 64) × (k.second < 2 ^ 64)) × AreHalves ks

same_halves : (k j : Halves) → (k.first < 2 ^ 64) × (k.second < 2 ^ 64) → (j.first < 2 ^ 64) × (j.second < 2 ^ 64) → halves_bytes k ≡ halves_bytes j → k ≡ j
unfolding unpacked
same_halves k j h i e =
    ap₂ (λ (x y : ℕ). record { first = x; second = y })
    (sym (packed-unpacked 8 k.first h.0) ∙ ap (λ (l : List ℕ). packed (take 8 l)) e ∙ packed-unpacked 8 j.first i.0)
    (sym (packed-unpacked 8 k.second h.1) ∙ ap (λ (l : List ℕ). packed (drop 8 l)) e ∙ packed-unpacked 8 j.second i.1)

same_keys : (ks js : List Halves) → length ks ≡ length js → AreHalves ks → AreHalves js → schedule_of ks ≡ schedule_of js → ks ≡ js
unfolding unpacked
same_keys [] [] l h i e = refl
same_keys [] (j ∷ js) l h i e = absurd (omega (arith, l))
same_keys (k ∷ ks) [] l h i e = absurd (omega (arith, l))
same_keys (k ∷ ks) (j ∷ js) l h i e =
    ap₂ (λ (x : Halves) (xs : List Halves). x ∷ xs)
    (same_halves k j h.0 i.0 (ap (take 16) e))
    (same_keys ks js (omega (arith, l)) h.1 i.1 (ap (drop 16) e))

-- what a key has beside its round keys is a fact, and any two proofs of it are equal
same_key : (k j : Key) → k.round_keys ≡ j.round_keys → k ≡ j
same_key k j e =
    subst (λ (ks : List Halves). (h : length (schedule_of ks) ≡ 176) → k ≡ record { round_keys = ks; size = h }) e
    (λ h i. record { round_keys = k.round_keys; size = ℕ_set _ _ k.size h i }) j.size

pub key_settled : (k j : Key) → (length k.round_keys ≡ 11) × AreHalves k.round_keys → (length j.round_keys ≡ 11) × AreHalves j.round_keys
    → key_bytes k ≡ key_bytes j → k ≡ j
key_settled k j h i e = same_key k j (same_keys k.round_keys j.round_keys (h.0 ∙ sym i.0) h.1 i.1 e)
