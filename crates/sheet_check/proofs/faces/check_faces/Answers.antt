use Rattle.std.proofs.Common.{length, List, subst, sym}
use Rattle.scaled_plane.specs.declared.drawing.Face.{Face}
use Rattle.scaled_plane.specs.Walks.{AreFaces}
use Rattle.sheet_check.specs.Listed.{AreRight}
use Rattle.sheet_check.proofs.CornerLemmas.{few_listed, listed_within, own_pieces}
use Rattle.sheet_check.proofs.FaceWalks.{walks_apart}
use Rattle.sheet_check.proofs.faces.check_faces.Goals as goal

pub check_walks-requires-clause-walked : goal.check_walks-requires-clause-walked
check_walks-requires-clause-walked g c =
    subst (λ (walks : List Face). AreFaces g.W.Whole.numbers.ring c.args.points.now c.args.edges.now walks) (sym c.as_slice.ensures) c.requires.walked

pub pieces_of-requires-clause-few_corners : goal.pieces_of-requires-clause-few_corners
pieces_of-requires-clause-few_corners g c =
    let right : AreRight c.args.walks.now.faces c.args.faces.now = subst (λ (walks : List Face). AreRight walks c.args.faces.now) c.as_slice.ensures c.in_ok-check_walks.ensures.right in
    few_listed (length c.args.points.now) c.args.walks.now.faces c.requires.within c.args.faces.now right

pub check_shapes-requires-clause-corners : goal.check_shapes-requires-clause-corners
check_shapes-requires-clause-corners g c =
    let right : AreRight c.args.walks.now.faces c.args.faces.now = subst (λ (walks : List Face). AreRight walks c.args.faces.now) c.as_slice.ensures c.in_ok-check_walks.ensures.right in
    listed_within (length c.args.points.now) c.args.walks.now.faces c.requires.within c.args.faces.now right

pub check_shapes-requires-clause-own : goal.check_shapes-requires-clause-own
check_shapes-requires-clause-own g c =
    let walks = c.args.walks.now.faces in
    let right : AreRight walks c.args.faces.now = subst (λ (ws : List Face). AreRight ws c.args.faces.now) c.as_slice.ensures c.in_ok-check_walks.ensures.right in
    own_pieces walks c.args.faces.now (walks_apart g.W.Whole.numbers.ring c.args.points.now c.args.edges.now walks c.requires.walked) right

pub check_whole-requires-clause-own : goal.check_whole-requires-clause-own
check_whole-requires-clause-own g c =
    let walks = c.args.walks.now.faces in
    let right : AreRight walks c.args.faces.now = subst (λ (ws : List Face). AreRight ws c.args.faces.now) c.as_slice.ensures c.in_ok-check_walks.ensures.right in
    own_pieces walks c.args.faces.now (walks_apart g.W.Whole.numbers.ring c.args.points.now c.args.edges.now walks c.requires.walked) right
