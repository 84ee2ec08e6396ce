use Rattle.std.proofs.Common.{◌≡◌, List, ℕ, subst}
use Rattle.flat_fold.specs.Faces.{corners_at}
use Rattle.sheet_check.specs.Listed.{Lists}
use Rattle.sheet_check.proofs.ListingLemmas.{corners_read, listed_by, wrong_by}
use Rattle.sheet_check.proofs.listing.first_wrong.Goals as goal

pub returns-then-not-list : goal.returns-then-not-list
returns-then-not-list c =
    let walks = c.args.walks.now in
    let faces = c.args.faces.now in
    let face = c.loop-face.face in
    let corners_are : c.as_slice.result.now ≡ corners_at faces face
    = corners_read faces face c.index-faces-face.result c.as_slice.result.now c.loop-face-test.true c.as_slice.ensures in
    wrong_by walks faces c.requires.apart face c.loop-face-test.true c.loop-face.marks c.list.new.marks c.list.result c.if-not-list.true c.loop-face.invariant
    (subst (λ (cs : List ℕ). Lists walks cs c.loop-face.marks c.list.new.marks c.list.result) corners_are c.list.ensures)

pub loop-face-preserved : goal.loop-face-preserved
loop-face-preserved c =
    let walks = c.args.walks.now in
    let faces = c.args.faces.now in
    let face = c.loop-face.face in
    let corners_are : c.as_slice.result.now ≡ corners_at faces face
    = corners_read faces face c.index-faces-face.result c.as_slice.result.now c.loop-face-test.true c.as_slice.ensures in
    listed_by walks faces c.requires.apart face c.loop-face-test.true c.loop-face.marks c.list.new.marks c.list.result c.if-not-list.false c.loop-face.invariant
    (subst (λ (cs : List ℕ). Lists walks cs c.loop-face.marks c.list.new.marks c.list.result) corners_are c.list.ensures)
