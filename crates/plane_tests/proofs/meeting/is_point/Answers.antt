use Rattle.std.proofs.Common.{◌≡◌, ◌∙◌, sym, refl}
use Rattle.std.specs.declared.cmp.Ordering.TheVariants.{Less, Equal, Greater}
use Rattle.plane.proofs.Order.{equal_of_same, same_of_equal}
use Rattle.plane_tests.proofs.meeting.is_point.Goals as goal

pub returns-in-Less : goal.returns-in-Less
returns-in-Less g c = (
  λ h. absurd (cc),
  λ same.
      let other : Less ≡ Equal = sym c.in-Less.is ∙ c.compare_points.ensures ∙ equal_of_same g.W.Whole.numbers.ring c.args.s.from c.args.s.to same in absurd (cc),
)

pub returns-in-Equal : goal.returns-in-Equal
returns-in-Equal g c = (
  λ h. same_of_equal g.W.Whole.numbers.ring c.args.s.from c.args.s.to (sym c.compare_points.ensures ∙ c.in-Equal.is),
  λ same. refl,
)

pub returns-in-Greater : goal.returns-in-Greater
returns-in-Greater g c = (
  λ h. absurd (cc),
  λ same.
      let other : Greater ≡ Equal = sym c.in-Greater.is ∙ c.compare_points.ensures ∙ equal_of_same g.W.Whole.numbers.ring c.args.s.from c.args.s.to same in absurd (cc),
)
