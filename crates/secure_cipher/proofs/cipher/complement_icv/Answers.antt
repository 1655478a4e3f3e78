-- `secure_cipher::cipher::complement_icv` meets its contract: byte by byte.
use Rattle.std.proofs.Common.{◌≡◌, ◌-◌, ◌<◌, get_or, sym, ◌∙◌, arith, rules}
use lib.Seq.{ext_get_or}
use Rattle.laws.specs.Bytes.{compl}
use Rattle.laws.proofs.ByteLists.{length-compl, get_or-compl}
use Rattle.secure_cipher.proofs.cipher.complement_icv.Goals as goal

pub returns : goal.returns
returns c =
    let a = c.args.other_mac in
    let m = c.map.ensures.items in
    ext_get_or 0 c.map.result (compl a) (omega (arith, m.long, length-compl a))
    (λ k h.
    let lt : k < 16 = omega (arith, m.long) in
    let p = m.at k 0 0 lt in
    let q = p.2 in
    let e : get_or c.map.result k 0 ≡ 255 - get_or a k 0 = search rules in
    e ∙ sym (get_or-compl a k (omega arith)))
