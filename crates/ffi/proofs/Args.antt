-- What is built once the arguments have made a packet, and what is refused where they do not.
-- Assumes nothing.
use Rattle.std.specs.Prelude.{Option, Some, None, Ok, Err}
use Prim.Native.Nat.{ℕ}
use mathlib.Core.Path.{◌≡◌, refl, sym, ap, ◌∙◌}
use mathlib.Core.Bool.{Bool, true, false, cond}
use mathlib.Core.List.{List, [], ◌∷◌}
use Rattle.laws.proofs.Answers.{then_given, then_refused}
use Rattle.refusal.specs.Paper.{refusal_of}
use Rattle.refusal.specs.declared.Refusal.{Refusal}
use Rattle.packet_build.specs.Build.{FrameParts, build_of, body_of, mac_bytes, parts_given}
use Rattle.packet_build.specs.declared.codec.PacketBuilder.{PacketBuilder}
use Rattle.crossing.specs.declared.build.CMac.{CMac}
use Rattle.crossing.specs.declared.build.CPacket.{CPacket}
use Rattle.crossing.specs.Building.{AskedMeets, parts_arg, mac_arg, given_arg}
use Rattle.ffi.specs.Building.{build_arg, body_arg}

-- whatever MAC was given, some kind of it has these bytes
kind_bytes : (t : Bool) (l : List ℕ) → cond t l [] ≡ mac_bytes (cond t (Some l) None)
kind_bytes true l = refl
kind_bytes false l = refl

mac-bytes : (m : CMac) → mac_arg m ≡ mac_bytes (given_arg m)
mac-bytes m = kind_bytes m.given (m.b0 ∷ m.b1 ∷ m.b2 ∷ m.b3 ∷ [])

module _ (p : CPacket) (l d : List ℕ) (have : ℕ) where
  module _ (w : PacketBuilder) (h : AskedMeets (Ok w) p) where
    pub build-asked : (c : CMac) (m : Option (List ℕ)) → mac_bytes m ≡ mac_arg c → build_of (parts_given w l d m) have ≡ build_arg p l d (mac_arg c) have
    unfolding build_arg
    build-asked c m e = sym (then_given _ _ (λ (q : FrameParts). build_of q have) (ap (parts_arg p l d) (sym e) ∙ sym (h l d m)))

    pub body-asked : body_of (parts_given w l d None) have ≡ body_arg p l d have
    unfolding body_arg
    body-asked = sym (then_given _ _ (λ (q : FrameParts). body_of q have) (sym (h l d None)))

  module _ (e : Refusal) (h : AskedMeets (Err e) p) where
    pub build-refused : (c : CMac) → refusal_of e ≡ build_arg p l d (mac_arg c) have
    unfolding build_arg
    build-refused c =
        sym (then_refused _ _ _ (λ (q : FrameParts). build_of q have) (ap (parts_arg p l d) (mac-bytes c) ∙ sym (h l d (given_arg c))))

    pub body-refused : refusal_of e ≡ body_arg p l d have
    unfolding body_arg
    body-refused = sym (then_refused _ _ _ (λ (q : FrameParts). body_of q have) (sym (h l d None)))
