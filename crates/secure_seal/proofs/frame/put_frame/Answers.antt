-- `secure_seal::frame::put_frame` meets its contract: its parts are written one after the other (proofs/FrameWritten).
use mathlib.Core.Path.{◌≡◌, refl, ◌∙◌}
use Prim.Native.Nat.{◌+◌, ◌-◌, ◌≤◌}
use native.Mathlib.Omega.{arith}
use lib.ListN.{length, take, drop}
use borrow.Rule.Slice.PartMut.{put_mid}
use Rattle.laws.proofs.Lists.{part_length}
use Rattle.secure_session.specs.Chain.{send_from}
use Rattle.secure_session.proofs.SecureLaws.{mac_there, mac-not-refused}
use Rattle.secure_seal.specs.Seal.{data_len_for, asked_of}
use Rattle.secure_seal.proofs.FrameWritten.{frame-put, data_steps, mac_few}
use Rattle.secure_seal.proofs.SealLaws.{payload-fits}
use borrow.Author.Rules.{rules}
use Rattle.secure_seal.proofs.frame.put_frame.Goals as goal

pub overflow_add-result : goal.overflow_add-result
overflow_add-result c = let a = c.args in
    let d : c.put_data-hidden.result ≤ length a.«data».now + 1 =
    rw c.put_data-hidden.ensures.1 (data_steps a.w.encrypt a.secure.session.keys.s_enc (send_from a.secure.session) a.«data».now) in
    let e : c.mac_calls.result ≤ a.total + 1 = grind (arith, mac_few) in
    omega (arith, d, e, payload-fits a.w.encrypt a.«data».now, c.requires.1, c.requires.2)

pub returns-in_default : goal.returns-in_default
returns-in_default c =
    let a = c.args in
    absurd (mac-not-refused a.secure.session a.secure.secure _ _ c.mac-made.ensures c.in_default.is)

pub returns : goal.returns
returns c =
    let f = c.in-Ok.full in
    let lf : length f ≡ 16 = search rules in
    let a = c.args in
    let t = a.total in
    let o₁ = c.put_head.new.out in
    let y = c.put_data-hidden.new.out in
    let l₁ : length o₁ ≡ length a.out.now = omega arith in
    let g : length y ≡ length (take (t - 6 - 8) (drop 8 o₁)) = search rules in
    let ly : length y ≡ data_len_for a.w.encrypt a.«data».now =
    g ∙ part_length o₁ 8 (t - 6 - 8) (omega (arith, l₁, c.requires.1, c.requires.3)) ∙ omega (arith, c.requires.1) in
    let made = mac_there a.secure.session a.secure.secure (take (t - 6) (put_mid 8 (t - 6 - 8) o₁ y)) c.mac-made.result c.mac-made.ensures c.in-Ok.is in
    frame-put a.secure.session (asked_of a.w a.«data».now) a.out.now o₁ y _ t c.requires.1 c.requires.3 c.put_data-hidden.ensures.0 ly c.put_head.ensures refl
    f _ _ c.mac_calls.result c.put_data-hidden.result lf c.put_data-hidden.ensures.1 c.mac_calls.ensures made.0 made.1 c.put_end.ensures
