use Rattle.std.proofs.Common.{◌≡◌, ℕ, List, sym, subst}
use Rattle.scaled_plane.specs.Lists.{IsRotation}
use Rattle.flat_fold.specs.Faces.{corners_at}
use Rattle.sheet_check.proofs.ListingLemmas.{corners_read, no_walk, other_walk}
use Rattle.sheet_check.proofs.listing.walk_round.Goals as goal

pub returns-in-None-get : goal.returns-in-None-get
returns-in-None-get c =
    let piece = c.in-Some.piece in
    no_walk c.args.walks.now c.requires.apart c.args.corners.now piece.0 piece.1 c.in-Some.ensures c.args.pieces.now c.requires.known (sym c.in-None-get.ensures.value)

pub bounds-walks-walk : goal.bounds-walks-walk
bounds-walks-walk c =
    let piece = c.in-Some.piece in
    let there = c.requires.known.only piece.0 piece.1 c.in-Some-get.side.now (sym c.in-Some-get.ensures.value) in
    there.is_face

pub returns-then-is_rotation : goal.returns-then-is_rotation
returns-then-is_rotation c =
    let walks = c.args.walks.now in
    let piece = c.in-Some.piece in
    let walk = c.in-Some-get.side.now.face in
    let there = c.requires.known.only piece.0 piece.1 c.in-Some-get.side.now (sym c.in-Some-get.ensures.value) in
    let corners_are : c.as_slice.result.now ≡ corners_at walks walk
    = corners_read walks walk c.index-walks-walk.result c.as_slice.result.now there.is_face c.as_slice.ensures in
    (there.is_face, subst (λ (cs : List ℕ). IsRotation c.args.corners.now cs) corners_are c.if-is_rotation.ensures.rotated)

pub returns-else-is_rotation : goal.returns-else-is_rotation
returns-else-is_rotation c =
    let walks = c.args.walks.now in
    let piece = c.in-Some.piece in
    let walk = c.in-Some-get.side.now.face in
    let there = c.requires.known.only piece.0 piece.1 c.in-Some-get.side.now (sym c.in-Some-get.ensures.value) in
    let corners_are : c.as_slice.result.now ≡ corners_at walks walk
    = corners_read walks walk c.index-walks-walk.result c.as_slice.result.now there.is_face c.as_slice.ensures in
    other_walk walks c.requires.apart c.args.corners.now piece.0 piece.1 c.in-Some.ensures c.args.pieces.now c.requires.known c.in-Some-get.side.now (sym c.in-Some-get.ensures.value)
    (λ r. c.if-is_rotation.ensures.other (subst (λ (cs : List ℕ). IsRotation c.args.corners.now cs) (sym corners_are) r))
