use Rattle.std.proofs.Common.{refl, rules}
use Rattle.std.specs.Prelude.{int_div}
use Rattle.std.specs.Int.{w128}
use Rattle.std.proofs.lemmas.Int.{to_z-of_z}
use Rattle.rational.proofs.Reduced.{scaled_within}
use Rattle.rational.proofs.field.RationalExact.scale.Goals as goal

pub returns-clause-some : goal.returns-clause-some
returns-clause-some c =
    let x = c.args.self in
    let h = rw (to_z-of_z w128 x.a (search rules), to_z-of_z w128 x.q (search rules), to_z-of_z w128 c.args.common c.ranges.common) at c.in_ok-a.ensures in
    (λ e. record { divides = h.0.0; within = scaled_within x.a (int_div c.args.common x.q) h.0.1 }, λ s. refl)
