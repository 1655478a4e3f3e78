-- From the tests to a call's answer, and from the parts written one after the other to the whole frame.
-- Assumes nothing.
use mathlib.Core.Path.{◌≡◌, ap, ap₂, ◌∙◌}
use mathlib.Core.List.{List}
use Prim.Native.Nat.{ℕ, ◌+◌, ◌≤◌}
use native.Mathlib.Omega.{arith}
use lib.ListN.{length, take}
use Rattle.laws.specs.Answer.{Answer.given, Answer.refused}
use Rattle.laws.specs.Over.{write}
use Rattle.laws.proofs.Answers.{then_given, then_refused}
use Rattle.laws.proofs.Overwrite.{write-write, take-write}
use Rattle.packet_head.specs.Trailer.{trailer_len}
use Rattle.packet_build.specs.Build.{FrameParts, block_bytes, body_bytes, covered_bytes, tail_bytes, frame_bytes, build_of, body_of, test_of, sizes_of}
use Rattle.packet_build.proofs.Sizes.{FineParts, bytes_n_is, body_length, covered_length, tail-length}

-- ---- the answers

pub build_given : (p : FrameParts) (have n : ℕ) → test_of p.ctrl (sizes_of p (length p.mac) have) ≡ given n
    → build_of p have ≡ given (frame_bytes p n)
unfolding build_of
build_given p have n e = then_given _ n _ e

pub build_refused : (p : FrameParts) (have n : ℕ) (vs : List ℕ) → test_of p.ctrl (sizes_of p (length p.mac) have) ≡ refused n vs
    → build_of p have ≡ refused n vs
unfolding build_of
build_refused p have n vs e = then_refused _ n vs _ e

pub body_given : (p : FrameParts) (have n : ℕ) → test_of p.ctrl (sizes_of p 4 have) ≡ given n
    → body_of p have ≡ given (body_bytes p.addr p.ctrl p.block p.code p.«data» n)
unfolding body_of
body_given p have n e = then_given _ n _ e

pub body_refused_lem : (p : FrameParts) (have n : ℕ) (vs : List ℕ) → test_of p.ctrl (sizes_of p 4 have) ≡ refused n vs
    → body_of p have ≡ refused n vs
unfolding body_of
body_refused_lem p have n vs e = then_refused _ n vs _ e

-- ---- body, MAC and trailer, written into o one after the other

module _ (p : FrameParts) (o : List ℕ) (total : ℕ) (f : FineParts p (length p.mac) (length o) total) where
  pub mac-fits : (n : ℕ) → n ≡ 6 + length (block_bytes p.block) + length p.«data» → n + length p.mac + trailer_len p.ctrl.crc ≤ length o
  mac-fits n e = omega (arith, f.total, f.room, bytes_n_is p.block)

  pub covered-written : (o₁ o₂ : List ℕ) (n : ℕ) → n ≡ 6 + length (block_bytes p.block) + length p.«data»
      → o₁ ≡ write o 0 (body_bytes p.addr p.ctrl p.block p.code p.«data» total) → o₂ ≡ write o₁ n p.mac
      → o₂ ≡ write o 0 (covered_bytes p total)
  covered-written o₁ o₂ n e w₁ w₂ =
      let body = body_bytes p.addr p.ctrl p.block p.code p.«data» total in
      let l = body_length p.addr p.ctrl p.block p.code p.«data» total in
      let r = mac-fits n e in
      w₂ ∙ ap (λ (x : List ℕ). write x n p.mac) w₁ ∙ write-write o 0 body n p.mac (omega arith) (omega arith)

  pub frame-written : (o₂ o₃ : List ℕ) (n m : ℕ) → n ≡ 6 + length (block_bytes p.block) + length p.«data» → m ≡ n + length p.mac
      → o₂ ≡ write o 0 (covered_bytes p total) → o₃ ≡ write o₂ m (tail_bytes p.ctrl.crc (take m o₂))
      → o₃ ≡ write o 0 (frame_bytes p total)
  unfolding frame_bytes
  frame-written o₂ o₃ n m e₁ e₂ w₂ w₃ =
      let covered = covered_bytes p total in
      let l = covered_length p total in
      let r = mac-fits n e₁ in
      let t = tail-length p.ctrl.crc covered in
      let seen : take m o₂ ≡ covered = ap (take m) w₂ ∙ take-write o m covered (omega arith) in
      w₃ ∙ ap₂ (λ (x y : List ℕ). write x m (tail_bytes p.ctrl.crc y)) w₂ seen
      ∙ write-write o 0 covered m (tail_bytes p.ctrl.crc covered) (omega arith) (omega arith)
