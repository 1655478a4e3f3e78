-- The two calls agree: given the MAC, building answers as the first call did, and its first bytes are those of the first call.
-- Assumes nothing.
use mathlib.Core.Path.{◌≡◌, refl, ap, ◌∙◌}
use mathlib.Core.List.{List, ◌++◌}
use Prim.Native.Nat.{ℕ}
use lib.ListN.{length}
use Rattle.laws.specs.Answer.{Answer, Answer.given, Answer.refused, and_then}
use Rattle.packet_build.specs.Build.{FrameParts, body_bytes, tail_bytes, frame_bytes, build_of, body_of, test_of, sizes_of}

-- the parts, with this MAC
abbrev pub with_mac : FrameParts → List ℕ → FrameParts
with_mac p m = record { addr = p.addr; ctrl = p.ctrl; block = p.block; code = p.code; «data» = p.«data»; mac = m }

-- a first call's answer, completed by the MAC and the trailer
abbrev pub completed : FrameParts → List ℕ → Answer (List ℕ) → Answer (List ℕ)
completed p m (given b) = given (b ++ m ++ tail_bytes p.ctrl.crc (b ++ m))
completed p m (refused n vs) = refused n vs

then_completed : (p : FrameParts) (m : List ℕ) (a : Answer ℕ)
    → and_then a (λ n. given (frame_bytes (with_mac p m) n))
    ≡ completed p m (and_then a (λ n. given (body_bytes p.addr p.ctrl p.block p.code p.«data» n)))
unfolding and_then frame_bytes
then_completed p m (given n) = refl
then_completed p m (refused n vs) = refl

pub two_calls : (p : FrameParts) (have : ℕ) (m : List ℕ) → length m ≡ 4 → build_of (with_mac p m) have ≡ completed p m (body_of p have)
unfolding build_of body_of
two_calls p have m h =
    ap (λ (k : ℕ). and_then (test_of p.ctrl (sizes_of p k have)) (λ n. given (frame_bytes (with_mac p m) n))) h
    ∙ then_completed p m (test_of p.ctrl (sizes_of p 4 have))
