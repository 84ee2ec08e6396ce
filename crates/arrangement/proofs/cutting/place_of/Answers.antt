use Rattle.std.proofs.Common.{map, subst, sym}
use Rattle.arrangement.specs.Covers.{IsPlaceOf}
use Rattle.arrangement.specs.Found.{Has}
use Rattle.arrangement.proofs.Searching.{none_missed, place_found}
use Rattle.arrangement.proofs.cutting.place_of.Goals as goal

pub unreachable-requires : goal.unreachable-requires
unreachable-requires g c =
    let v = c.vertex_at.result in
    none_missed g.W.Whole.numbers.ring (λ v. v.point) (λ v. v.is_point) c.args.vertices.now c.requires.sorted v c.in-Err.field-0
    (subst (Has g.W.Whole.numbers.ring (map (λ v. v.point) c.args.vertices.now)) (sym c.vertex_at.ensures) c.requires.has) c.in-Err.ensures.position

pub returns : goal.returns
returns g c =
    let v = c.vertex_at.result in
    subst (λ p. IsPlaceOf g.W.Whole.numbers.ring (map (λ v. v.point) c.args.vertices.now) p c.in-Ok.place) c.vertex_at.ensures
    (place_found g.W.Whole.numbers.ring (λ v. v.point) (λ v. v.is_point) c.args.vertices.now v.point c.in-Ok.place v c.in-Ok.ensures.bound (c.in-Ok.ensures.ok v))
