use Rattle.std.proofs.Common.{◌≡◌, ◌∙◌, ap, sym}
use Rattle.scaled_plane.specs.declared.point.Pair.{Pair}
use Rattle.flat_fold.proofs.MotionLaws.{pair_is}
use Rattle.flat_fold.proofs.Tests.{both_true, and_true}
use Rattle.flat_fold.proofs.agreement.placed_alike.Goals as goal

pub placed-p-requires : goal.placed-p-requires
placed-p-requires g c = c.requires.first

pub placed-q-requires : goal.placed-q-requires
placed-q-requires g c = c.requires.second

pub returns : goal.returns
returns g c = (
  λ e. let both = both_true c.same.result c.same-2.result e in
      sym c.placed-p.ensures ∙ pair_is g.N.Exact.numbers.field c.placed-p.result c.placed-q.result (c.same.ensures.0 both.0) (c.same-2.ensures.0 both.1) ∙ c.placed-q.ensures,
  λ e. let whole : c.placed-p.result ≡ c.placed-q.result = c.placed-p.ensures ∙ e ∙ sym c.placed-q.ensures in
      and_true c.same.result c.same-2.result (c.same.ensures.1 (ap (λ (w : Pair g.row.N.Denot). w.x) whole)) (c.same-2.ensures.1 (ap (λ (w : Pair g.row.N.Denot). w.y) whole)),
)
