-- The checksum of all bytes but the last, from that of all.
-- Assumes nothing.
use Rattle.std.proofs.Common.{◌≡◌, ℕ, ◌+◌, ◌-◌, ◌%◌, ◌^◌, ◌≤◌, List, length, get_or, take, drop, sym, ap, ◌∙◌, arith, take-append-drop}
use lib.Seq.{drop-length}
use Rattle.packet_sums.specs.Checksum.{sum_of, checksum_of}
use Rattle.packet_sums.proofs.SumLaws.{sum_nil, sum-append, sum_drop}

module _ (f : List ℕ) (h : 1 ≤ length f) where
  split : sum_of f ≡ sum_of (take (length f - 1) f) + get_or f (length f - 1) 0
  split =
      let last : sum_of (drop (length f - 1 + 1) f) ≡ 0 =
      ap (λ (i : ℕ). sum_of (drop i f)) (let e : length f - 1 + 1 ≡ length f = omega arith in e) ∙ ap sum_of (drop-length f) ∙ sum_nil in
      ap sum_of (sym (take-append-drop (length f - 1) f)) ∙ sum-append (take (length f - 1) f) (drop (length f - 1) f)
      ∙ omega (arith, sum_drop f (length f - 1) (omega arith), last)

  without-last : (get_or f (length f - 1) 0 + checksum_of f) % 2 ^ 8 ≡ checksum_of (take (length f - 1) f)
  unfolding checksum_of
  without-last = omega (arith, split)

  -- s is the sum over all, and r what is left of it without the last byte
  pub whole_sum : {r s : ℕ} → r ≡ (get_or f (length f - 1) 0 + s) % 2 ^ 8 → s ≡ checksum_of f → r ≡ checksum_of (take (length f - 1) f)
  whole_sum e k = e ∙ ap (λ (x : ℕ). (get_or f (length f - 1) 0 + x) % 2 ^ 8) k ∙ without-last
