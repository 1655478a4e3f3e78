-- Each kind of body: named by its code; a message put together of its parts has them. A line for each kind.
-- Assumes nothing.
use mathlib.Core.Path.{◌≡◌, refl, sym, ap, ◌∙◌}
use mathlib.Core.Bool.{Bool, true, false, ◌&&◌}
use mathlib.Core.List.{List, [], ◌∷◌}
use Prim.Native.Nat.{ℕ, ◌/◌, ◌%◌}
use native.Mathlib.Omega.{arith}
use borrow.Author.Tests.{eqb-true}
use lib.Dec.{eqb, leb}
use lib.ListN.{length}
use Rattle.laws.specs.Answer.{Answer.given, choose}
use Rattle.laws.specs.Bytes.{Bytes}
use Rattle.laws.proofs.Answers.{given_inj, given-refused}
use Rattle.laws.proofs.Lists.{nothing}
use Rattle.laws.proofs.Listed.{all_listed}
use Rattle.body_message.specs.Message.{Kind, Kind.ACK, Kind.NAK, Kind.PDID, Kind.PDCAP, Kind.LSTATR, Kind.RAW, Kind.KEYPAD, kinds, code, widths, whole_records, follows, message_of, message_kind, message_numbers, message_rest, triple_widths, triple_of, triple_numbers}
use Rattle.body_message.specs.Body.{kind_named}
use Rattle.body_message.proofs.FieldLaws.{laid-records}

-- ---- named by its code

pub kind_code : (ks : List Kind) (c : ℕ) (k : Kind) → kind_named ks c ≡ given k → code k ≡ c
unfolding kind_named choose
kind_code [] c k e = absurd (given-refused (sym e))
kind_code (j ∷ ks) c k e = by (eqb (code j) c) refl (kind_code ks c k) e
  where
    by : (b : Bool) → eqb (code j) c ≡ b → (kind_named ks c ≡ given k → code k ≡ c) → choose b (given j) (kind_named ks c) ≡ given k → code k ≡ c
    by true h g f = ap code (sym (given_inj j k f)) ∙ eqb-true (code j) c h
    by false h g f = g f

pub kind_found : (k : Kind) → kind_named kinds (code k) ≡ given k
unfolding kind_named choose
kind_found ACK = refl
kind_found NAK = refl
kind_found PDID = refl
kind_found PDCAP = refl
kind_found LSTATR = refl
kind_found RAW = refl
kind_found KEYPAD = refl

-- ---- put together and taken apart

pub kind_back : (k : Kind) (vs t : List ℕ) → message_kind (message_of k vs t) ≡ k
kind_back ACK vs t = refl
kind_back NAK vs t = refl
kind_back PDID vs t = refl
kind_back PDCAP vs t = refl
kind_back LSTATR vs t = refl
kind_back RAW vs t = refl
kind_back KEYPAD vs t = refl

pub numbers_back : (k : Kind) (vs t : List ℕ) → length vs ≡ length (widths k) → message_numbers (message_of k vs t) ≡ vs
numbers_back ACK vs t h = all_listed vs 0 h
numbers_back NAK vs t h = all_listed vs 1 h
numbers_back PDID vs t h = all_listed vs 9 h
numbers_back PDCAP vs t h = all_listed vs 0 h
numbers_back LSTATR vs t h = all_listed vs 2 h
numbers_back RAW vs t h = all_listed vs 3 h
numbers_back KEYPAD vs t h = all_listed vs 2 h

no_bytes : (t : List ℕ) → eqb (length t) 0 ≡ true → [] ≡ t
no_bytes t h = nothing t (eqb-true (length t) 0 h)

-- both tests passed
pub and_true : (a b : Bool) → a && b ≡ true → (a ≡ true) × (b ≡ true)
and_true true b e = (refl, e)
and_true false b e = (e, cc)

no_part : (w n : ℕ) → whole_records w n ≡ true → n % w ≡ 0
no_part w n h = eqb-true (n % w) 0 (and_true (leb 1 n) (eqb (n % w) 0) h).1

pub rest_back : (k : Kind) (vs t : List ℕ) → Bytes t → follows k vs (length t) ≡ true → message_rest (message_of k vs t) ≡ t
rest_back ACK vs t b h = no_bytes t h
rest_back NAK vs t b h = refl
rest_back PDID vs t b h = no_bytes t h
rest_back PDCAP vs t b h =
    laid-records triple_widths triple_of triple_numbers (λ v e. all_listed v 3 e) (length t / 3) t b (omega (arith, no_part 3 (length t) h))
rest_back LSTATR vs t b h = no_bytes t h
rest_back RAW vs t b h = refl
rest_back KEYPAD vs t b h = refl
