use Rattle.std.proofs.Common.{◌≡◌, subst, ℕ, Option, Some, inl, inr}
use Rattle.scaled_plane.specs.declared.point.Pair.{Pair}
use Rattle.scaled_plane.specs.Scaling.{IsScaledWith}
use Rattle.flat_fold.specs.declared.sides.Side.{Side}
use Rattle.flat_fold.specs.EdgeSides.{Begins, IsSide}
use Rattle.flat_fold.specs.Faces.{edge_at}
use Rattle.flat_fold.proofs.EdgeLaws.{holds-alike}
use Rattle.flat_fold.proofs.SideLaws.{begins-along, begins-corner}
use Rattle.flat_fold.proofs.folded.Folded.edge_ends.Goals as goal

pub piece_ends-requires-clause-corner : goal.piece_ends-requires-clause-corner
piece_ends-requires-clause-corner g c =
    let faces = c.args.self.now.sheet.faces in
    let edge = edge_at c.args.self.now.sheet.ends.edges c.args.edge in
    let begins : Begins c.args.self.now.sheet.faces c.in-Some.left.face c.in-Some.left.corner (edge_at c.args.self.now.sheet.ends.edges c.args.edge).from (edge_at c.args.self.now.sheet.ends.edges c.args.edge).to
    = subst (λ (o : Option Side). IsSide faces edge.from edge.to o) c.in-Some.is c.sides_of-sides.ensures.sides.left in
    begins-corner faces c.in-Some.left.face c.in-Some.left.corner edge.from edge.to begins

pub piece_ends-to-requires-clause-corner : goal.piece_ends-to-requires-clause-corner
piece_ends-to-requires-clause-corner g c =
    let faces = c.args.self.now.sheet.faces in
    let edge = edge_at c.args.self.now.sheet.ends.edges c.args.edge in
    let begins : Begins c.args.self.now.sheet.faces c.in-Some-right.right.face c.in-Some-right.right.corner (edge_at c.args.self.now.sheet.ends.edges c.args.edge).to (edge_at c.args.self.now.sheet.ends.edges c.args.edge).from
    = subst (λ (o : Option Side). IsSide faces edge.to edge.from o) c.in-Some-right.is c.sides_of-sides.ensures.sides.right in
    begins-corner faces c.in-Some-right.right.face c.in-Some-right.right.corner edge.to edge.from begins

pub returns-in-Some : goal.returns-in-Some
returns-in-Some g c f has =
    let faces = c.args.self.now.sheet.faces in
    let edges = c.args.self.now.sheet.ends.edges in
    let edge = edge_at c.args.self.now.sheet.ends.edges c.args.edge in
    let side = c.in-Some.left in
    let begins : Begins c.args.self.now.sheet.faces c.in-Some.left.face c.in-Some.left.corner (edge_at c.args.self.now.sheet.ends.edges c.args.edge).from (edge_at c.args.self.now.sheet.ends.edges c.args.edge).to
    = subst (λ (o : Option Side). IsSide faces edge.from edge.to o) c.in-Some.is c.sides_of-sides.ensures.sides.left in
    holds-alike c.args.self.now.sheet.ends faces c.piece_ends.ensures.sheet g.N.Exact.numbers.field c.args.self.now.maps c.piece_ends.ensures.folded.folding.maps_are
    (λ (a : Pair g.row.N.Denot). IsScaledWith g.N.Exact.parts g.N.Ring.Whole.numbers c.args.self.now.scaled.common a c.piece_ends.result.0)
    (λ (a : Pair g.row.N.Denot). IsScaledWith g.N.Exact.parts g.N.Ring.Whole.numbers c.args.self.now.scaled.common a c.piece_ends.result.1)
    c.args.edge side.face f c.requires.edge c.requires.uncut
    (inl (begins-along faces edges side.face side.corner edge.from edge.to begins)) has
    (c.piece_ends.ensures.ends edge.from edge.to begins)

pub returns-in-Some-right : goal.returns-in-Some-right
returns-in-Some-right g c f has =
    let faces = c.args.self.now.sheet.faces in
    let edges = c.args.self.now.sheet.ends.edges in
    let edge = edge_at c.args.self.now.sheet.ends.edges c.args.edge in
    let side = c.in-Some-right.right in
    let begins : Begins c.args.self.now.sheet.faces c.in-Some-right.right.face c.in-Some-right.right.corner (edge_at c.args.self.now.sheet.ends.edges c.args.edge).to (edge_at c.args.self.now.sheet.ends.edges c.args.edge).from
    = subst (λ (o : Option Side). IsSide faces edge.to edge.from o) c.in-Some-right.is c.sides_of-sides.ensures.sides.right in
    let both = c.piece_ends-to.ensures.ends edge.to edge.from begins in
    holds-alike c.args.self.now.sheet.ends faces c.piece_ends-to.ensures.sheet g.N.Exact.numbers.field c.args.self.now.maps c.piece_ends-to.ensures.folded.folding.maps_are
    (λ (a : Pair g.row.N.Denot). IsScaledWith g.N.Exact.parts g.N.Ring.Whole.numbers c.args.self.now.scaled.common a c.piece_ends-to.result.1)
    (λ (a : Pair g.row.N.Denot). IsScaledWith g.N.Exact.parts g.N.Ring.Whole.numbers c.args.self.now.scaled.common a c.piece_ends-to.result.0)
    c.args.edge side.face f c.requires.edge c.requires.uncut
    (inr (begins-along faces edges side.face side.corner edge.to edge.from begins)) has
    (both.1, both.0)
