use Rattle.std.proofs.Common.{map}
use Rattle.scaled_plane.proofs.DrawnSizes.{scaled_point}
use Rattle.arrangement.proofs.Joining.{ends_of}
use Rattle.arrangement.proofs.Searching.{all_points}
use Rattle.arrangement.proofs.cutting.cut_of.Goals as goal

pub returns-clause-ends : goal.returns-clause-ends
returns-clause-ends g c =
    let N = g.W.Whole.numbers in
    let s = c.args.s in
    ends_of N.ring (map (λ v. v.point) c.args.vertices.now) (all_points N.ring (λ v. v.point) (λ v. v.is_point) c.args.vertices.now) c.requires.sorted s
    (scaled_point N s.from c.requires.usable.from) (scaled_point N s.to c.requires.usable.to)
    c.place_of-from.result c.place_of-to.result c.min.result c.max.result c.requires.usable.proper c.place_of-from.ensures c.place_of-to.ensures c.min.ensures c.max.ensures
