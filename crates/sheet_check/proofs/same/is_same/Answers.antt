use Rattle.std.proofs.Common.{◌≡◌, ap, sym, ◌∙◌}
use Rattle.std.specs.Ordering.{is_eq}
use Rattle.plane.specs.Points.{point_order}
use Rattle.plane.proofs.Order.{equal_of_same, same_of_equal}
use Rattle.sheet_check.proofs.SameLemmas.{is_equal}
use Rattle.sheet_check.proofs.same.is_same.Goals as goal

pub returns : goal.returns
returns g c =
    let K = g.W.Whole.numbers.ring in
    let is : c.is_eq.result ≡ is_eq (point_order K c.args.p c.args.q) = cc in (
      λ yes. same_of_equal K c.args.p c.args.q (is_equal (point_order K c.args.p c.args.q) (sym is ∙ yes)),
      λ same. is ∙ ap is_eq (equal_of_same K c.args.p c.args.q same),
    )
