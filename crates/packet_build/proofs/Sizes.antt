-- What the tests leave of a frame that was built, and how long its parts are.
-- Assumes nothing.
use mathlib.Core.Path.{◌≡◌, refl, sym, ap, ◌∙◌}
use mathlib.Core.Bool.{Bool, true, false, cond}
use mathlib.Core.List.{List}
use Prim.Native.Nat.{ℕ, ◌+◌, ◌≤◌}
use native.Mathlib.Omega.{arith}
use borrow.Author.Tests.{le-ltb, eq-eqb, ltb-false, eqb-true, not-false}
use lib.ListN.{length, length-append}
use Rattle.laws.specs.Answer.{Answer.given, refuse_if}
use Rattle.laws.proofs.Answers.{Holds, holds_refuse, holds_then, holds_given}
use Rattle.packet_head.specs.Header.{Control}
use Rattle.packet_head.specs.Trailer.{trailer_len, mac_len_of}
use Rattle.packet_build.specs.Build.{FrameBlock, FrameBlock.no_scb, FrameBlock.scb, FrameParts, present, block_n, block_bytes, body_bytes, covered_bytes, tail_bytes, frame_bytes, differ, FrameSizes, test_of, total_len, sizes_of, build_of}

-- ---- lengths

pub bytes_n_is : (b : FrameBlock) → length (block_bytes b) ≡ cond (present b) 2 0 + block_n b
bytes_n_is no_scb = refl
bytes_n_is (scb ty l) = omega arith

pub tail-length : (t : Bool) (l : List ℕ) → length (tail_bytes t l) ≡ trailer_len t
tail-length true l = refl
tail-length false l = refl

pub body_length : (a : ℕ) (c : Control) (b : FrameBlock) (k : ℕ) (d : List ℕ) (n : ℕ) → length (body_bytes a c b k d n) ≡ 6 + length (block_bytes b) + length d
unfolding body_bytes
body_length a c b k d n = simp length-append (omega arith)

pub covered_length : (p : FrameParts) (n : ℕ) → length (covered_bytes p n) ≡ 6 + length (block_bytes p.block) + length p.«data» + length p.mac
covered_length p n =
    let body = body_bytes p.addr p.ctrl p.block p.code p.«data» n in
    omega (arith, length-append body p.mac, body_length p.addr p.ctrl p.block p.code p.«data» n)

pub bytes-length : (p : FrameParts) (n : ℕ) → length (frame_bytes p n) ≡ 6 + length (block_bytes p.block) + length p.«data» + length p.mac + trailer_len p.ctrl.crc
unfolding frame_bytes
bytes-length p n =
    length-append (covered_bytes p n) (tail_bytes p.ctrl.crc (covered_bytes p n))
    ∙ omega (arith, covered_length p n, tail-length p.ctrl.crc (covered_bytes p n))

-- ---- what holds once every test has passed

differ_false : (a b : Bool) → differ a b ≡ false → a ≡ b
differ_false true true e = refl
differ_false true false e = e
differ_false false true e = sym e
differ_false false false e = refl

pub record Fine (c : Control) (z : FrameSizes) (n : ℕ) : Type 0 where
  pub sqn : c.sqn ≤ 3
  pub flag : z.has_block ≡ c.block
  pub macs : z.mac ≡ mac_len_of z.mac_due
  pub total : n ≡ total_len c.crc z
  pub most : n ≤ 65535
  pub room : n ≤ z.room
  pub small : z.block_data ≤ 253

pub fine : (c : Control) (z : FrameSizes) → Holds (Fine c z) (test_of c z)
unfolding test_of
fine c z =
    holds_refuse _ _ _ _ _ (λ q. holds_refuse _ _ _ _ _ (λ t. holds_refuse _ _ _ _ _ (λ e.
    holds_refuse _ _ _ _ _ (λ s. holds_refuse _ _ _ _ _ (λ m. holds_refuse _ _ _ _ _ (λ r.
    record {
      sqn = ltb-false _ _ q;
      flag = differ_false z.has_block c.block t;
      macs = eqb-true _ _ (not-false _ e);
      total = refl;
      most = ltb-false _ _ m;
      room = ltb-false _ _ r;
      small = ltb-false _ _ s;
    }))))))

-- and the other way round: the tests pass where these hold
same_off : (a b : Bool) → a ≡ b → differ a b ≡ false
same_off true b e = rw (← e)
same_off false b e = rw (← e)

pub passes : (c : Control) (z : FrameSizes) (n : ℕ) → Fine c z n → test_of c z ≡ given n
unfolding test_of refuse_if
passes c z n f =
    let h₅ : total_len c.crc z ≤ 65535 = omega (arith, f.total, f.most) in
    let h₆ : total_len c.crc z ≤ z.room = omega (arith, f.total, f.room) in
    rw (le-ltb _ _ f.sqn, same_off _ _ f.flag, eq-eqb _ _ f.macs, le-ltb _ _ f.small, le-ltb _ _ h₅, le-ltb _ _ h₆) (ap given (sym f.total))

-- the same of parts that are to have `mac` bytes of MAC
abbrev pub FineParts : FrameParts → ℕ → ℕ → ℕ → Type 0
FineParts p mac have n = Fine p.ctrl (sizes_of p mac have) n

pub fine_parts : (p : FrameParts) (mac have n : ℕ) → test_of p.ctrl (sizes_of p mac have) ≡ given n → FineParts p mac have n
fine_parts p mac have n e =
    holds_given (FineParts p mac have) (test_of p.ctrl (sizes_of p mac have)) n (fine p.ctrl (sizes_of p mac have)) e

-- of a frame that was built
pub record Whole (p : FrameParts) (have : ℕ) (b : List ℕ) : Type 0 where
  pub n : ℕ
  pub bytes : b ≡ frame_bytes p n
  pub tests : FineParts p (length p.mac) have n

pub whole : (p : FrameParts) (have : ℕ) → Holds (Whole p have) (build_of p have)
unfolding build_of
whole p have = holds_then _ _ _ (λ n e. record { n = n; bytes = refl; tests = fine_parts p (length p.mac) have n e })

-- LEN counts all
pub whole_length : (p : FrameParts) (have n : ℕ) → FineParts p (length p.mac) have n → length (frame_bytes p n) ≡ n
whole_length p have n f = omega (arith, f.total, bytes-length p n, bytes_n_is p.block)
