use Rattle.std.proofs.Common.{◌≡◌, refl, Option, Some, None, IsSome, IfSome, subst, sym, ℤ}
use Rattle.std.specs.Int.{w128}
use Rattle.std.proofs.lemmas.Int.{to_z-of_z}
use Rattle.algebra.specs.Surd.{Surd}
use Rattle.exact_number.specs.Scaling.{IsWhole, IsScalable, scaled}
use Rattle.exact_number.proofs.generic.scaled_whole.Goals as goal

-- what holds of each answer, since the answer comes only where P holds
where_some : {T : Type 0} (r : Option T) (P : Type 0) (Q R : T → Type 0) → (IsSome r → P) → ((x : T) → P → Q x → R x) → IfSome r Q → IfSome r R
where_some (Some x) P Q R p h q = h x (p refl) q
where_some None P Q R p h q = tt

pub returns-clause-value : goal.returns-clause-value
returns-clause-value g c =
    let handed = to_z-of_z w128 c.args.common c.ranges.common in
    let total = g.N.Exact.numbers.mul c.args.x (g.N.Exact.numbers.int c.args.common) in
    where_some c.scale.result (IsScalable (g.N.Exact.parts c.args.x) c.args.common) (λ w. g.N.Ring.Whole.pair w ≡ scaled (g.N.Exact.parts c.args.x) c.args.common)
    (λ w. IsWhole (g.N.Exact.parts total) (g.N.Ring.Whole.pair w)) (rw handed at c.scale.ensures.some).0
    (λ w h e. subst (λ (v : Surd ℤ). IsWhole (g.N.Exact.parts total) v) (sym e) (c.scaling_laws.ensures.scaled c.args.x c.args.common h)) (rw handed at c.scale.ensures.value)

pub returns-clause-some : goal.returns-clause-some
returns-clause-some g c = rw (to_z-of_z w128 c.args.common c.ranges.common) at c.scale.ensures.some
