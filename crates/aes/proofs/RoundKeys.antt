-- Round keys, one after the other: which bytes of the key schedule each of them is.
-- Assumes nothing.
use mathlib.Core.Path.{◌≡◌, refl, sym, ap, ◌∙◌}
use mathlib.Core.List.{List, [], ◌∷◌}
use Prim.Native.Nat.{ℕ, ◌+◌, ◌*◌, ◌<◌, ◌≤◌}
use native.Mathlib.Omega.{arith}
use lib.ListN.{length, get_or, take}
use lib.Seq.{ext_get_or, length-take-le}
use Rattle.std.proofs.lemmas.List.Concat.{get_or-flat_map}
use Rattle.laws.proofs.Listed.{length_block_of, get_or_block_of}
use Rattle.aes_field.specs.Packed.{unpacked}
use Rattle.aes.specs.declared.round.Halves.{Halves}
use Rattle.aes.specs.Halves.{halves_bytes, schedule_of, round_key}

pub length-halves_bytes : (k : Halves) → length (halves_bytes k) ≡ 16
unfolding unpacked
length-halves_bytes k = refl

pub length-schedule_of : (ks : List Halves) → length (schedule_of ks) ≡ 16 * length ks
unfolding unpacked
length-schedule_of [] = refl
length-schedule_of (k ∷ ks) = omega (arith, length-schedule_of ks)

pub length-first_keys : (ks : List Halves) (r : ℕ) → r ≤ length ks → length (schedule_of (take r ks)) ≡ 16 * r
length-first_keys ks r h = length-schedule_of (take r ks) ∙ ap (λ (n : ℕ). 16 * n) (length-take-le r ks h)

pub key_of : (ks : List Halves) (r : ℕ) (d : Halves) → r < length ks → halves_bytes (get_or ks r d) ≡ round_key (schedule_of ks) r
unfolding round_key
key_of ks r d h =
    let k : Halves = get_or ks r d in
    let at : ℕ → ℕ = λ i. get_or (schedule_of ks) (16 * r + i) 0 in
    ext_get_or 0 (halves_bytes k) (round_key (schedule_of ks) r) (length-halves_bytes k ∙ sym (length_block_of at))
    (λ i lt.
    let here : i < 16 = omega (arith, length-halves_bytes k, lt) in
    sym (ap (λ (n : ℕ). get_or (schedule_of ks) (n + i) 0) (sym (length-first_keys ks r (omega arith))) ∙ get_or-flat_map halves_bytes ks r i d 0 h lt)
    ∙ sym (get_or_block_of at i here))

pub eleven_keys : (ks : List Halves) → length ks ≡ 11 → length (schedule_of ks) ≡ 176
eleven_keys ks h = omega (arith, length-schedule_of ks, h)
