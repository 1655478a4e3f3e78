-- What C asks to have sealed: an SQN above 3 is refused as sealing refuses it, and what is asked is what C said.
-- Assumes nothing.
use Prim.Native.Nat.{ℕ}
use mathlib.Core.Path.{◌≡◌}
use mathlib.Core.Bool.{Bool, true, false}
use mathlib.Core.List.{List, [], ◌∷◌}
use lib.Dec.{ltb}
use Rattle.laws.specs.Answer.{Answer, Answer.given, Answer.refused, refuse_if}
use Rattle.laws.proofs.Answers.{given_inj}
use Rattle.packet_head.specs.Header.{sqn_of}
use Rattle.secure_seal.specs.Seal.{asked_of, frame_test}
use Rattle.secure_seal.specs.declared.frame.ToSeal.{ToSeal}
use Rattle.crossing.specs.Sealing.{direction_arg, asked_arg}
use Rattle.crossing.specs.declared.seal.CToSeal.{CToSeal}

-- refused here, it is refused by the tests of the frame
sqn-tested : (b : Bool) (n m : ℕ) (vs : List ℕ) (x : Answer ℕ) → refused m vs ≡ refuse_if b 10 (n ∷ []) (given n) → refused m vs ≡ refuse_if b 10 (n ∷ []) x
unfolding refuse_if
sqn-tested true n m vs x e = e
sqn-tested false n m vs x e = cc

pub sqn-refused : (n m t have : ℕ) (vs : List ℕ) → refused m vs ≡ sqn_of n → refused m vs ≡ frame_test n t have
unfolding sqn_of frame_test
sqn-refused n m t have vs e = sqn-tested (ltb 3 n) n m vs _ e

sqn_kept : (b : Bool) (n m : ℕ) → given m ≡ refuse_if b 10 (n ∷ []) (given n) → m ≡ n
unfolding refuse_if
sqn_kept true n m e = cc
sqn_kept false n m e = given_inj m n e

pub asked_same : (p : CToSeal) (x : List ℕ) (w : ToSeal) → w.addr.0 ≡ p.addr → given w.sqn.0 ≡ sqn_of p.sqn → w.direction ≡ direction_arg p.from_reader
    → w.encrypt ≡ p.encrypt → w.code ≡ p.code → asked_of w x ≡ asked_arg p x
unfolding sqn_of
asked_same p x w ea en ed ee ec = rw (ea, sqn_kept _ p.sqn w.sqn.0 en, ed, ee, ec)
