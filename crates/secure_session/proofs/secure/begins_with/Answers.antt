-- `secure_session::secure::begins_with` meets its contract: two numbers are equal where their bytes are.
use mathlib.Core.Path.{◌≡◌}
use native.Mathlib.Omega.{arith}
use mir.Syntax.{w8}
use lib.ListN.{length}
use borrow.Author.Rules.{rules, elem_Fits}
use Rattle.secure_session.proofs.Four.{four_begins}
use Rattle.secure_session.proofs.secure.begins_with.Goals as goal

pub returns : goal.returns
returns c =
    let g = c.well_formed.0.1.1.0.1 in
    let h = c.well_formed.1.0 in
    let f = c.args.m.full in
    let w = c.args.four in
    let n : length f ≡ 16 = g.0.1 in
    four_begins f w (omega (arith, n)) (search rules) (λ i. (elem_Fits w8 w8 f _ i g.1 tt).fits) (λ i. (elem_Fits w8 w8 w h.0 i h.1.1 tt).fits)
    _ _ c.from_le_bytes.ensures c.from_le_bytes-2.ensures
