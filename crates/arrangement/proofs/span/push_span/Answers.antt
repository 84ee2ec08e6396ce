use Rattle.std.proofs.Common.{subst, sym}
use Rattle.std.specs.Prelude.{All}
use Rattle.std.proofs.lemmas.List.Elements.{All-push}
use Rattle.arrangement.specs.Spans.{IsSpan}
use Rattle.arrangement.proofs.span.push_span.Goals as goal

pub returns-in_ok-push-clause-spans : goal.returns-in_ok-push-clause-spans
returns-in_ok-push-clause-spans g c = λ all.
    let span = c.in-Some.span in
    let is = c.in-Some.ensures in
    subst (All (λ s. IsSpan g.W.Whole.numbers s.segment s.left.point s.right.point)) (sym c.in_ok-push.ensures.items)
    (All-push (λ s. IsSpan g.W.Whole.numbers s.segment s.left.point s.right.point) c.args.spans.now.items span all
    (subst (λ u. IsSpan g.W.Whole.numbers u span.left.point span.right.point) (sym is.1) is.2))
