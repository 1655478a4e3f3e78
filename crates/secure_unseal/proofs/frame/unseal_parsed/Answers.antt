-- `unseal_parsed` meets its contract: the block's type decides, and where it has a MAC the frame has room for it.
use native.Mathlib.Omega.{arith}
use Rattle.std.specs.Prelude.{Option, Some}
use mathlib.Core.Bool.{Bool, true, false}
use mathlib.Core.Path.{◌≡◌, sym, ap, ◌∙◌}
use Prim.Native.Nat.{ℕ, ◌+◌, ◌≤◌}
use mathlib.Core.List.{List}
use lib.ListN.{length}
use Rattle.laws.specs.Answer.{Answer.given}
use Rattle.packet_head.specs.Block.{type_of, has_mac, is_encrypted}
use Rattle.packet_parse.specs.Frame.{Fields, type_in, mac_start_of, parse_of, fields, block_place}
use Rattle.packet_parse.specs.declared.codec.BlockPart.{BlockPart}
use Rattle.secure_session.specs.Chain.{recv_from}
use Rattle.secure_unseal.specs.Unseal.{check, open_data, unseal_plain, unseal_hidden, unsealed_on}
use Rattle.secure_unseal.proofs.Cases.{stops, parsed-no, parsed-hidden, parsed-plain}
use Rattle.secure_unseal.proofs.Inside.{mac-inside, data-inside}
use Rattle.secure_unseal.proofs.frame.unseal_parsed.Goals as goal

-- what the code's test said of the type it took out of the block
type-tested : (test : ℕ → Bool) {p : Option BlockPart} {b : BlockPart} {x y : Bool} → p ≡ Some b → x ≡ test (type_of b.ty) → x ≡ y → test (type_in (block_place p)) ≡ y
type-tested test e r t = ap (λ (q : Option BlockPart). test (type_in (block_place q))) e ∙ sym r ∙ t

inside : (f : List ℕ) (p : Fields) {n : ℕ} → parse_of f ≡ given p → n ≡ mac_start_of p.mac → has_mac (type_in p.block) ≡ true → n + 4 ≤ length f
inside f p h e d = omega (arith, e, mac-inside f p h d)

pub invariant_of-sealed : goal.invariant_of-sealed
invariant_of-sealed c =
    let a = c.args in
    let mac-due : has_mac (type_in (fields a.p).block) ≡ true = type-tested has_mac c.in-Some.is c.has_mac.ensures c.if-not-has_mac.false in
    record { mac_inside = inside a.frame.now (fields a.p) c.requires c.mac_start-mac_at.ensures mac-due; data_inside = data-inside a.frame.now (fields a.p) c.requires; bytes = λ i. omega (arith, c.type_inv.frame i) }

pub invariant_of-sealed-else-is_encrypted : goal.invariant_of-sealed-else-is_encrypted
invariant_of-sealed-else-is_encrypted c =
    let a = c.args in
    let mac-due : has_mac (type_in (fields a.p).block) ≡ true = type-tested has_mac c.in-Some.is c.has_mac.ensures c.if-not-has_mac.false in
    record { mac_inside = inside a.frame.now (fields a.p) c.requires c.mac_start-mac_at.ensures mac-due; data_inside = data-inside a.frame.now (fields a.p) c.requires; bytes = λ i. omega (arith, c.type_inv.frame i) }

pub returns-in_default : goal.returns-in_default
returns-in_default c =
    let a = c.args in
    stops c.stopped.ensures
    (parsed-no a.secure.session.keys (recv_from a.secure.session) a.frame.now (fields a.p) a.work.now (ap (λ (b : Option BlockPart). has_mac (type_in (block_place b))) c.in_default.is))

pub returns-then-is_encrypted : goal.returns-then-is_encrypted
returns-then-is_encrypted c =
    let mac-due : has_mac (type_in (fields c.args.p).block) ≡ true = type-tested has_mac c.in-Some.is c.has_mac.ensures c.if-not-has_mac.false in
    let a = c.args in
    let f = fields a.p in
    let k = a.secure.session.keys in
    let v = recv_from a.secure.session in
    let y : is_encrypted (type_in f.block) ≡ true = type-tested is_encrypted c.in-Some.is c.is_encrypted.ensures c.if-is_encrypted.true in
    c.unseal_hidden.ensures
    ∙ ap (unsealed_on a.secure.session)
    (ap (λ (n : ℕ). unseal_hidden (check k v a.frame.now n) (open_data k v a.frame.now f) f a.work.now) c.mac_start-mac_at.ensures
    ∙ parsed-hidden k v a.frame.now f a.work.now (mac-due) y)

pub returns-else-is_encrypted : goal.returns-else-is_encrypted
returns-else-is_encrypted c =
    let mac-due : has_mac (type_in (fields c.args.p).block) ≡ true = type-tested has_mac c.in-Some.is c.has_mac.ensures c.if-not-has_mac.false in
    let a = c.args in
    let f = fields a.p in
    let k = a.secure.session.keys in
    let v = recv_from a.secure.session in
    let y : is_encrypted (type_in f.block) ≡ false = type-tested is_encrypted c.in-Some.is c.is_encrypted.ensures c.if-is_encrypted.false in
    c.unseal_plain.ensures a.work.now
    ∙ ap (unsealed_on a.secure.session)
    (ap (λ (n : ℕ). unseal_plain (check k v a.frame.now n) f a.work.now) c.mac_start-mac_at.ensures ∙ parsed-plain k v a.frame.now f a.work.now (mac-due) y)

pub returns-then-not-has_mac : goal.returns-then-not-has_mac
returns-then-not-has_mac c =
    let a = c.args in
    stops c.stopped-then-not-has_mac.ensures
    (parsed-no a.secure.session.keys (recv_from a.secure.session) a.frame.now (fields a.p) a.work.now (type-tested has_mac c.in-Some.is c.has_mac.ensures c.if-not-has_mac.true))
