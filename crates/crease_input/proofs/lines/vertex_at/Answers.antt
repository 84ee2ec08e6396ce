use Rattle.std.proofs.Common.{◌∙◌, ap, map}
use Rattle.crease_input.specs.Points.{is_at}
use Rattle.crease_input.proofs.Points.{place_map, keys_with}
use Rattle.crease_input.proofs.lines.vertex_at.Goals as goal

pub returns-in-Ok-clause-place : goal.returns-in-Ok-clause-place
returns-in-Ok-clause-place g c =
    c.in-Ok.ensures.index
    ∙ place_map (is_at g.N.Exact.parts c.args.point) (λ k. k.point) c.args.corners.now.keys

pub returns-in-Ok-clause-points : goal.returns-in-Ok-clause-points
returns-in-Ok-clause-points g c =
    ap (map (λ k. k.point)) c.in-Ok.ensures.keys
    ∙ keys_with g.N.Exact.parts (λ k. k.point) c.args.corners.now.keys (record { point = c.args.point })
