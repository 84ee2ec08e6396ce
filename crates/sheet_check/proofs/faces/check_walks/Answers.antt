use Rattle.std.proofs.Common.{◌≡◌, ◌<◌, ◌≤◌, ℕ, List, length, ap, sym, subst, arith}
use Rattle.std.specs.Prelude.{slice_index}
use Rattle.flat_fold.specs.Faces.{corners_at}
use Rattle.sheet_check.specs.declared.listing.Listing.{Listing}
use Rattle.sheet_check.specs.declared.listing.Listing.TheVariants.{Complete, Missing, Wrong}
use Rattle.sheet_check.specs.Listed.{IsListing}
use Rattle.sheet_check.proofs.CornerLemmas.{few_corners}
use Rattle.sheet_check.proofs.FaceFlaws.{long_enough, walks_missing, walks_passed, walks_wrong}
use Rattle.sheet_check.proofs.FaceWalks.{walks_apart}
use Rattle.sheet_check.proofs.ListingLemmas.{corners_read}
use Rattle.sheet_check.proofs.faces.check_walks.Goals as goal

pub list_all-requires-clause-apart : goal.list_all-requires-clause-apart
list_all-requires-clause-apart g c = walks_apart g.W.Whole.numbers.ring c.args.points.now c.args.edges.now c.args.walks.now c.requires.walked

pub list_all-requires-clause-few_walks : goal.list_all-requires-clause-few_walks
list_all-requires-clause-few_walks g c = c.requires.within.0

pub list_all-requires-clause-few_corners : goal.list_all-requires-clause-few_corners
list_all-requires-clause-few_corners g c = few_corners (length c.args.points.now) c.args.walks.now c.requires.within

pub returns-in-Wrong-clause-refused : goal.returns-in-Wrong-clause-refused
returns-in-Wrong-clause-refused g c =
    let walks = c.args.walks.now in
    let faces = c.args.faces.now in
    let listing : IsListing walks faces (Wrong c.in-Wrong.face) = subst (λ (l : Listing). IsListing walks faces l) c.in-Wrong.is c.in_ok-face.ensures in
    walks_wrong g.W.Whole.numbers.ring c.args.points.now c.args.edges.now faces walks c.requires.walked c.requires.before c.in-Wrong.face listing

pub bounds-corners-0 : goal.bounds-corners-0
bounds-corners-0 g c =
    let walks = c.args.walks.now in
    let faces = c.args.faces.now in
    let walk = c.in-Missing.walk in
    let listing : IsListing walks faces (Missing walk) = subst (λ (l : Listing). IsListing walks faces l) c.in-Missing.is c.in_ok-face.ensures in
    let there = listing.1.0.in_range in
    let corners_are : c.as_slice-corners.result.now ≡ corners_at walks walk
    = corners_read walks walk c.index-walks-walk.result c.as_slice-corners.result.now there c.as_slice-corners.ensures in
    let two : 2 ≤ length c.as_slice-corners.result.now
    = subst (λ (cs : List ℕ). 2 ≤ length cs) (sym corners_are) (long_enough g.W.Whole.numbers.ring c.args.points.now c.args.edges.now faces walks c.requires.walked c.requires.before walk there) in
    omega (arith, two)

pub bounds-corners-1 : goal.bounds-corners-1
bounds-corners-1 g c =
    let walks = c.args.walks.now in
    let faces = c.args.faces.now in
    let walk = c.in-Missing.walk in
    let listing : IsListing walks faces (Missing walk) = subst (λ (l : Listing). IsListing walks faces l) c.in-Missing.is c.in_ok-face.ensures in
    let there = listing.1.0.in_range in
    let corners_are : c.as_slice-corners.result.now ≡ corners_at walks walk
    = corners_read walks walk c.index-walks-walk.result c.as_slice-corners.result.now there c.as_slice-corners.ensures in
    let two : 2 ≤ length c.as_slice-corners.result.now
    = subst (λ (cs : List ℕ). 2 ≤ length cs) (sym corners_are) (long_enough g.W.Whole.numbers.ring c.args.points.now c.args.edges.now faces walks c.requires.walked c.requires.before walk there) in
    let inside : 1 < length c.as_slice-corners.result.now = omega (arith, two) in
    inside

pub returns-in-Missing-clause-refused : goal.returns-in-Missing-clause-refused
returns-in-Missing-clause-refused g c =
    let walks = c.args.walks.now in
    let faces = c.args.faces.now in
    let walk = c.in-Missing.walk in
    let corners = c.as_slice-corners.result.now in
    let listing : IsListing walks faces (Missing walk) = subst (λ (l : Listing). IsListing walks faces l) c.in-Missing.is c.in_ok-face.ensures in
    let corners_are : corners ≡ corners_at walks walk
    = corners_read walks walk c.index-walks-walk.result corners listing.1.0.in_range c.as_slice-corners.ensures in
    walks_missing g.W.Whole.numbers.ring c.args.points.now c.args.edges.now faces walks c.requires.walked c.requires.before listing.0 walk (slice_index corners 0) (slice_index corners 1) listing.1
    (ap (λ (cs : List ℕ). slice_index cs 0) corners_are) (ap (λ (cs : List ℕ). slice_index cs 1) corners_are)

pub returns-in-Complete-clause-passed : goal.returns-in-Complete-clause-passed
returns-in-Complete-clause-passed g c =
    let walks = c.args.walks.now in
    let faces = c.args.faces.now in
    let listing : IsListing walks faces Complete = subst (λ (l : Listing). IsListing walks faces l) c.in-Complete.is c.in_ok-face.ensures in
    walks_passed g.W.Whole.numbers.ring c.args.points.now c.args.edges.now faces walks c.requires.walked c.requires.before listing.0 listing.1
