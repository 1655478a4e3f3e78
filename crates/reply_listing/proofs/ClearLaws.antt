-- The reply in a frame by its tests: the address byte, then the MAC.
-- Assumes nothing.
use mathlib.Core.Path.{◌≡◌, sym, ap, ap₂, ◌∙◌}
use mathlib.Core.Bool.{Bool, true, false, cond}
use mathlib.Core.List.{List}
use Prim.Native.Nat.{ℕ}
use lib.Dec.{leb}
use Rattle.packet_head.specs.Numbers.{REPLY_FLAG}
use Rattle.packet_parse.specs.Frame.{Fields, MacAt, MacAt.mac_from}
use Rattle.body_message.specs.Body.{read_of}
use Rattle.reply_listing.specs.InClear.{Reply.no_reply, Reply.sealed, unless_sealed, reply_in}

module _ (F : Fields) (s : List ℕ) {b : Bool} (e : b ≡ leb REPLY_FLAG F.addr) where
  pub reply-none : b ≡ false → no_reply ≡ reply_in (record { fields = F; payload = s })
  unfolding reply_in
  reply-none h = ap (λ (t : Bool). cond t (unless_sealed F.mac (read_of F.code s)) no_reply) (sym h ∙ e)

  by-mac : (m : MacAt) → b ≡ true → F.mac ≡ m → unless_sealed m (read_of F.code s) ≡ reply_in (record { fields = F; payload = s })
  unfolding reply_in
  by-mac m h k = ap₂ (λ (t : Bool) (x : MacAt). cond t (unless_sealed x (read_of F.code s)) no_reply) (sym h ∙ e) (sym k)

  pub reply-sealed : {at : ℕ} → b ≡ true → F.mac ≡ mac_from at → sealed ≡ reply_in (record { fields = F; payload = s })
  reply-sealed {at} h k = by-mac (mac_from at) h k
