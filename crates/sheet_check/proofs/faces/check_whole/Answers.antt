use Rattle.std.proofs.Common.{◌≡◌, ◌<◌, ℕ, List, Option, None, Some, length, subst}
use Rattle.std.specs.Prelude.{slice_index}
use Rattle.scaled_plane.specs.Scaling.{IsFirstOf}
use Rattle.sheet_check.specs.Labels.{HasOther}
use Rattle.sheet_check.specs.Passed.{HasNoneBefore}
use Rattle.sheet_check.specs.Twice.{IsLeastTwice}
use Rattle.sheet_check.proofs.CornerLemmas.{walk_within}
use Rattle.sheet_check.proofs.FaceFlaws.{pinched_first, pinched_passed, severed_first, severed_passed}
use Rattle.sheet_check.proofs.SeverLemmas.{crossings_in_range, severed, severed_back}
use Rattle.sheet_check.proofs.TwiceLemmas.{pinched, pinched_back}
use Rattle.sheet_check.proofs.faces.check_whole.Goals as goal

pub least_twice-requires : goal.least_twice-requires
least_twice-requires g c =
    walk_within g.W.Whole.numbers.ring c.args.points.now c.args.edges.now (length c.args.points.now) c.requires.ends c.args.outer.now c.requires.outer.walk

pub labels_of-requires-clause-faces : goal.labels_of-requires-clause-faces
labels_of-requires-clause-faces g c =
    crossings_in_range c.args.faces.now c.requires.own c.args.edges.now c.args.pieces.now c.requires.known g.W.Whole.numbers.ring c.args.points.now

pub returns-in-Some-clause-refused : goal.returns-in-Some-clause-refused
returns-in-Some-clause-refused g c =
    let K = g.W.Whole.numbers.ring in
    let points = c.args.points.now in
    let edges = c.args.edges.now in
    let faces = c.args.faces.now in
    let outer = c.args.outer.now in
    let twice : IsLeastTwice outer (length outer) (Some c.in-Some.vertex) = subst (λ (found : Option ℕ). IsLeastTwice outer (length outer) found) c.in-Some.is c.in_ok-vertex.ensures in
    pinched_first K points edges faces c.in-Some.vertex c.requires.before
    (pinched K points edges faces outer c.requires.outer c.in-Some.vertex twice.0, λ v less has. twice.1 v less (pinched_back K points edges faces outer c.requires.outer v has))

pub returns-in-Some-first_other-clause-refused : goal.returns-in-Some-first_other-clause-refused
returns-in-Some-first_other-clause-refused g c =
    let K = g.W.Whole.numbers.ring in
    let points = c.args.points.now in
    let edges = c.args.edges.now in
    let faces = c.args.faces.now in
    let outer = c.args.outer.now in
    let pieces = c.args.pieces.now in
    let labels = c.in_ok-labels.labels.items in
    let face = c.in-Some-first_other.face in
    let once : IsLeastTwice outer (length outer) None = subst (λ (found : Option ℕ). IsLeastTwice outer (length outer) found) c.in-None.is c.in_ok-vertex.ensures in
    let whole : HasNoneBefore K points edges faces 10
    = pinched_passed K points edges faces c.requires.before (λ v has. once v (pinched_back K points edges faces outer c.requires.outer v has)) in
    let first : IsFirstOf (HasOther labels) face = subst (λ (ls : List ℕ). IsFirstOf (HasOther ls) face) c.as_slice.ensures.value c.in-Some-first_other.ensures in
    severed_first K points edges faces face whole (
      severed faces c.requires.own edges pieces c.requires.known K points labels c.in_ok-labels.ensures face first.0,
      λ f less has. first.1 f less (severed_back faces c.requires.own edges pieces c.requires.known K points labels c.in_ok-labels.ensures f has),
    )

pub returns-clause-passed : goal.returns-clause-passed
returns-clause-passed g c =
    let K = g.W.Whole.numbers.ring in
    let points = c.args.points.now in
    let edges = c.args.edges.now in
    let faces = c.args.faces.now in
    let outer = c.args.outer.now in
    let pieces = c.args.pieces.now in
    let labels = c.in_ok-labels.labels.items in
    let once : IsLeastTwice outer (length outer) None = subst (λ (found : Option ℕ). IsLeastTwice outer (length outer) found) c.in-None.is c.in_ok-vertex.ensures in
    let whole : HasNoneBefore K points edges faces 10
    = pinched_passed K points edges faces c.requires.before (λ v has. once v (pinched_back K points edges faces outer c.requires.outer v has)) in
    let alike : (f : ℕ) → f < length labels → slice_index labels f ≡ slice_index labels 0
    = subst (λ (ls : List ℕ). (f : ℕ) → f < length ls → slice_index ls f ≡ slice_index ls 0) c.as_slice.ensures.value c.in-None-first_other.ensures in
    severed_passed K points edges faces whole
    (λ f has. (let other = severed_back faces c.requires.own edges pieces c.requires.known K points labels c.in_ok-labels.ensures f has in other.1 (alike f other.0)))
