use Rattle.std.proofs.Common.{◌≡◌, ◌<◌, ◌+◌, ℕ, List, Some, length, sym, subst, ◌∙◌}
use Rattle.flat_fold.specs.Faces.{edge_at}
use Rattle.sheet_check.specs.Labels.{AreLabelled, crossing_of}
use Rattle.sheet_check.proofs.LabelLemmas.{labelled_more, labelled_past, own_labelled}
use Rattle.sheet_check.proofs.sever.merge_all.Goals as goal
use Rattle.sheet_check.proofs.sever.merge_all.Goals.{in-Some, in-None}

pub loop-edge-init : goal.loop-edge-init
loop-edge-init c = own_labelled c.args.pieces.now c.args.edges.now c.args.labels.now c.requires.own

pub loop-edge-preserved : goal.loop-edge-preserved
loop-edge-preserved c =
    let pieces = c.args.pieces.now in
    let edges = c.args.edges.now in
    let n = c.loop-edge.edge in
    let count : ℕ = length c.args.labels.now in
    let old = c.loop-edge.labels in
    elim c.match-crossing.branch [
      | in-Some w ↦
          let is : crossing_of pieces (edge_at edges n) ≡ Some (w.in-Some.first, w.in-Some.second) = sym c.crossing.ensures ∙ w.in-Some.is in
          let both = c.requires.faces (edge_at edges n) w.in-Some.first w.in-Some.second is in
          subst (λ (labels : List ℕ). AreLabelled pieces edges (n + 1) count labels) (sym w.labels-is)
          (labelled_more pieces edges n count c.loop-edge-test.true old c.loop-edge.invariant w.in-Some.first w.in-Some.second is both.0 both.1
          (λ e f g. c.requires.faces (edge_at edges e) f g) w.merge.new.labels w.merge.ensures)
      | in-None w ↦
          subst (λ (labels : List ℕ). AreLabelled pieces edges (n + 1) count labels) (sym w.labels-is)
          (labelled_past pieces edges n count c.loop-edge-test.true old c.loop-edge.invariant (sym c.crossing.ensures ∙ w.in-None.is))
    ]

pub merge-requires-clause-first : goal.merge-requires-clause-first
merge-requires-clause-first c =
    let edges = c.args.edges.now in
    let is : crossing_of c.args.pieces.now (edge_at edges c.loop-edge.edge) ≡ Some (c.in-Some.first, c.in-Some.second) = sym c.crossing.ensures ∙ c.in-Some.is in
    let both = c.requires.faces (edge_at edges c.loop-edge.edge) c.in-Some.first c.in-Some.second is in
    subst (λ (count : ℕ). c.in-Some.first < count) (sym c.loop-edge.invariant.long) both.0

pub merge-requires-clause-second : goal.merge-requires-clause-second
merge-requires-clause-second c =
    let edges = c.args.edges.now in
    let is : crossing_of c.args.pieces.now (edge_at edges c.loop-edge.edge) ≡ Some (c.in-Some.first, c.in-Some.second) = sym c.crossing.ensures ∙ c.in-Some.is in
    let both = c.requires.faces (edge_at edges c.loop-edge.edge) c.in-Some.first c.in-Some.second is in
    subst (λ (count : ℕ). c.in-Some.second < count) (sym c.loop-edge.invariant.long) both.1
