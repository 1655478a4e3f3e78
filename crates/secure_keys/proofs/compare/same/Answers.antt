-- What is gathered over the pairs of bytes tells whether the slices are equal.
use Rattle.std.proofs.Common.{◌≡◌, ℕ, eqb, length, sym, ap, ◌∙◌, rules}
use Rattle.std.specs.List.{fold, zip}
use Rattle.std.proofs.lemmas.Iterator.{YieldsList-from_slice, YieldsList-from_zip}
use Rattle.std.proofs.lemmas.Iterator.Consumers.{YieldsList-at, fold_from_yields_List}
use borrow.Author.Tests.{ne_eqb}
use Rattle.secure_keys.proofs.Alike.{gathered, alike, eql_lengths}
use Rattle.secure_keys.proofs.compare.same.Goals as goal

pub returns-then-a-b : goal.returns-then-a-b
returns-then-a-b c =
    let a = c.args.a.now in
    let b = c.args.b.now in
    let e : c.fold.result ≡ fold gathered 0 (zip a b) = fold_from_yields_List _ gathered 0 _ c.fold.ensures.ran
    (YieldsList-from_zip {w = λ y. y.now} (YieldsList-at c.zip.ensures.first (YieldsList-from_slice a c.iter.ensures.rest)) (YieldsList-from_slice b c.zip.ensures.second.0))
    (λ d p r q k. search rules) in
    ap (λ (n : ℕ). eqb n 0) e ∙ alike a b 0 c.if-a-b.true

pub returns-else-a-b : goal.returns-else-a-b
returns-else-a-b c = ne_eqb (length c.args.a.now) (length c.args.b.now) c.if-a-b.false ∙ eql_lengths c.args.a.now c.args.b.now (λ e. c.if-a-b.false (sym e))
