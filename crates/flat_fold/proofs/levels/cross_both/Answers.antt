use Rattle.std.proofs.Common.{◌≡◌, ◌∙◌, ap, sym, List, ◌<◌, length, arith}
use Rattle.scaled_plane.specs.declared.drawing.Edge.{Edge}
use Rattle.flat_fold.specs.Computed.{exact}
use Rattle.flat_fold.specs.Faces.{edge_at}
use Rattle.flat_fold.proofs.Walks.{leads-back}
use Rattle.flat_fold.proofs.FoldingLaws.{leads-in_range}
use Rattle.flat_fold.proofs.RoundLaws.{both_ways, unreached-crossed}
use Rattle.flat_fold.proofs.EdgeReads.{as_crosses, grew_at, still_at}
use Rattle.flat_fold.proofs.levels.cross_both.Goals as goal

pub cross-there-requires-clause-apart : goal.cross-there-requires-clause-apart
cross-there-requires-clause-apart g c =
    λ same. c.requires.foldable.apart c.args.e c.args.faces.first c.args.faces.second c.requires.crossing.0 (sym c.edge-edge.ensures.from ∙ same ∙ c.edge-edge.ensures.to)

pub cross-back-requires-clause-apart : goal.cross-back-requires-clause-apart
cross-back-requires-clause-apart g c =
    λ same. c.requires.foldable.apart c.args.e c.args.faces.first c.args.faces.second c.requires.crossing.0 (sym c.edge-edge.ensures.from ∙ same ∙ c.edge-edge.ensures.to)

pub cross-there-requires-clause-from_in : goal.cross-there-requires-clause-from_in
cross-there-requires-clause-from_in g c =
    let edges = c.args.sheet.now.ends.edges in
    let faces = c.args.sheet.now.faces in
    let f = c.args.faces.first in
    let h = c.args.faces.second in
    let there = c.requires.crossing.0 in
    let within : f < length faces = leads-in_range edges faces c.args.e f h there in
    let all : length c.args.reached.now ≡ length faces = c.requires.all in
    omega (arith, within, all)

pub cross-there-requires-clause-to_in : goal.cross-there-requires-clause-to_in
cross-there-requires-clause-to_in g c =
    let edges = c.args.sheet.now.ends.edges in
    let faces = c.args.sheet.now.faces in
    let f = c.args.faces.first in
    let h = c.args.faces.second in
    let there = c.requires.crossing.0 in
    let within : h < length faces = leads-in_range edges faces c.args.e h f (leads-back edges faces c.args.e f h there) in
    let all : length c.args.reached.now ≡ length faces = c.requires.all in
    omega (arith, within, all)

pub cross-back-requires-clause-from_in : goal.cross-back-requires-clause-from_in
cross-back-requires-clause-from_in g c =
    let edges = c.args.sheet.now.ends.edges in
    let faces = c.args.sheet.now.faces in
    let f = c.args.faces.first in
    let h = c.args.faces.second in
    let there = c.requires.crossing.0 in
    let within : h < length faces = leads-in_range edges faces c.args.e h f (leads-back edges faces c.args.e f h there) in
    let all : length c.args.reached.now ≡ length faces = c.requires.all in
    let kept : length c.cross-there.new.reached ≡ length c.args.reached.now = c.cross-there.auto.reached in
    omega (arith, within, all, kept)

pub cross-back-requires-clause-to_in : goal.cross-back-requires-clause-to_in
cross-back-requires-clause-to_in g c =
    let edges = c.args.sheet.now.ends.edges in
    let faces = c.args.sheet.now.faces in
    let f = c.args.faces.first in
    let h = c.args.faces.second in
    let there = c.requires.crossing.0 in
    let within : f < length faces = leads-in_range edges faces c.args.e f h there in
    let all : length c.args.reached.now ≡ length faces = c.requires.all in
    let kept : length c.cross-there.new.reached ≡ length c.args.reached.now = c.cross-there.auto.reached in
    omega (arith, within, all, kept)

pub returns-clause-round : goal.returns-clause-round
returns-clause-round g c =
    let edges = c.args.sheet.now.ends.edges in
    let faces = c.args.sheet.now.faces in
    let coords = c.args.sheet.now.ends.coords in
    let K = exact g.N.Exact.numbers in
    let n = c.args.level in
    let f = c.args.faces.first in
    let h = c.args.faces.second in
    let old = c.args.reached.now in
    let mid = c.cross-there.new.reached in
    let new = c.cross-back.new.reached in
    let there = c.requires.crossing.0 in
    let f_in : f < length faces = leads-in_range edges faces c.args.e f h there in
    let h_in : h < length faces = leads-in_range edges faces c.args.e h f (leads-back edges faces c.args.e f h there) in
    let all : length old ≡ length faces = c.requires.all in
    let f_old : f < length old = omega (arith, f_in, all) in
    let h_old : h < length old = omega (arith, h_in, all) in
    let E = c.edge-edge.ensures in
    (both_ways K coords edges faces n c.args.e f h old mid new c.cross-there.result c.cross-back.result f_old h_old c.requires.round c.requires.crossing
    (as_crosses K n f h old mid c.cross-there.result _ _ _ _ _ _ E.letter E.from E.to c.cross-there.ensures)
    (as_crosses K n h f mid new c.cross-back.result _ _ _ _ _ _ E.letter E.from E.to c.cross-back.ensures)).0

pub returns-clause-grew : goal.returns-clause-grew
returns-clause-grew g c =
    let edges = c.args.sheet.now.ends.edges in
    let faces = c.args.sheet.now.faces in
    let coords = c.args.sheet.now.ends.coords in
    let K = exact g.N.Exact.numbers in
    let n = c.args.level in
    let f = c.args.faces.first in
    let h = c.args.faces.second in
    let old = c.args.reached.now in
    let mid = c.cross-there.new.reached in
    let new = c.cross-back.new.reached in
    let there = c.requires.crossing.0 in
    let f_in : f < length faces = leads-in_range edges faces c.args.e f h there in
    let h_in : h < length faces = leads-in_range edges faces c.args.e h f (leads-back edges faces c.args.e f h there) in
    let all : length old ≡ length faces = c.requires.all in
    let kept : length mid ≡ length old = c.cross-there.auto.reached in
    let h_old : h < length old = omega (arith, h_in, all) in
    let f_mid : f < length mid = omega (arith, f_in, all, kept) in
    grew_at c.cross-there.result c.cross-back.result _ _ _
    (unreached-crossed K n _ _ _ f h old mid c.cross-there.result h_old c.cross-there.ensures)
    (unreached-crossed K n _ _ _ h f mid new c.cross-back.result f_mid c.cross-back.ensures)

pub returns-clause-still : goal.returns-clause-still
returns-clause-still g c e =
    let edges = c.args.sheet.now.ends.edges in
    let faces = c.args.sheet.now.faces in
    let coords = c.args.sheet.now.ends.coords in
    let K = exact g.N.Exact.numbers in
    let n = c.args.level in
    let f = c.args.faces.first in
    let h = c.args.faces.second in
    let old = c.args.reached.now in
    let mid = c.cross-there.new.reached in
    let new = c.cross-back.new.reached in
    still_at K n f h h f _ _ _ old mid new c.cross-there.result c.cross-back.result e c.cross-there.ensures c.cross-back.ensures
