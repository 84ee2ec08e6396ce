use Rattle.std.proofs.Common.{◌≡◌, ◌<◌, ℕ, List, length, ap, sym, subst, below_more}
use Rattle.std.specs.Prelude.{Contains, slice_index}
use Rattle.flat_fold.specs.Faces.{corners_at}
use Rattle.sheet_check.specs.Bent.{IsBentPlace, IsFirstBentPlace}
use Rattle.sheet_check.proofs.ListingLemmas.{corners_read}
use Rattle.sheet_check.proofs.convex.first_bent.Goals as goal

pub first_bent_place-requires-clause-corners : goal.first_bent_place-requires-clause-corners
first_bent_place-requires-clause-corners g c =
    let faces = c.args.faces.now in
    let face = c.loop-face.face in
    let corners_are : c.as_slice-corners.result.now ≡ corners_at faces face
    = corners_read faces face c.index-faces-face.result c.as_slice-corners.result.now c.loop-face-test.true c.as_slice-corners.ensures in
    subst (λ (cs : List ℕ). (z : ℕ) → Contains cs z → z < length c.args.vertices.now) (sym corners_are) (λ z. c.requires.corners face z)

pub returns-in-Some : goal.returns-in-Some
returns-in-Some g c =
    let faces = c.args.faces.now in
    let face = c.loop-face.face in
    let corners_are : c.as_slice-corners.result.now ≡ corners_at faces face
    = corners_read faces face c.index-faces-face.result c.as_slice-corners.result.now c.loop-face-test.true c.as_slice-corners.ensures in
    record {
      in_range = c.loop-face-test.true;
      place = c.in-Some.place;
      bent = subst (λ (cs : List ℕ). IsFirstBentPlace g.W.Whole.numbers.ring c.args.vertices.now cs c.in-Some.place) corners_are c.in-Some.ensures;
      is = ap (λ (cs : List ℕ). slice_index cs c.in-Some.place) (sym corners_are);
      before = c.loop-face.invariant;
    }

pub loop-face-preserved : goal.loop-face-preserved
loop-face-preserved g c =
    let faces = c.args.faces.now in
    let face = c.loop-face.face in
    let corners_are : c.as_slice-corners.result.now ≡ corners_at faces face
    = corners_read faces face c.index-faces-face.result c.as_slice-corners.result.now c.loop-face-test.true c.as_slice-corners.ensures in
    below_more _ _ c.loop-face.invariant (λ k. subst (λ (cs : List ℕ). ¬ IsBentPlace g.W.Whole.numbers.ring c.args.vertices.now cs k) corners_are (c.in-None.ensures k))
