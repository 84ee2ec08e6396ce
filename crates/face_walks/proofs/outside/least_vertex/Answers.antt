use Rattle.std.proofs.Common.{◌≡◌, ℕ, ◌+◌, ◌<◌, length, true, false, sym, ap, subst, ◌∙◌, arith}
use Rattle.std.proofs.lemmas.List.{get_or_default}
use Rattle.plane.specs.declared.point.Point.{Point}
use Rattle.plane.specs.Points.{origin, point_order}
use Rattle.scaled_plane.specs.Drawn.{IsDrawn}
use Rattle.scaled_plane.specs.Pieces.{point_at}
use Rattle.face_walks.specs.Outside.{IsLeastPoint}
use Rattle.face_walks.proofs.Outsides.{least_kept, least_taken}
use Rattle.face_walks.proofs.outside.least_vertex.Goals as goal
use Rattle.face_walks.proofs.outside.least_vertex.Goals.{then-is_before, else-is_before}

pub is_before-requires-clause-first : goal.is_before-requires-clause-first
is_before-requires-clause-first g c =
    let read : c.index-vertices-i.result ≡ point_at g.W.Whole.numbers.ring c.args.vertices.now c.loop-i.i
    = c.index-vertices-i.is ∙ get_or_default c.args.vertices.now c.loop-i.i c.index-vertices-i.result (origin g.W.Whole.numbers.ops) c.loop-i-test.true in
    subst (λ (p : Point g.row.W.Denot). IsDrawn g.W.Whole.numbers p) (sym read) (c.requires.drawn c.loop-i.i c.loop-i-test.true)

pub is_before-requires-clause-second : goal.is_before-requires-clause-second
is_before-requires-clause-second g c =
    let inside : c.loop-i.least < length c.args.vertices.now = omega arith in
    let read : c.index-vertices-least.result ≡ point_at g.W.Whole.numbers.ring c.args.vertices.now c.loop-i.least
    = c.index-vertices-least.is ∙ get_or_default c.args.vertices.now c.loop-i.least c.index-vertices-least.result (origin g.W.Whole.numbers.ops) inside in
    subst (λ (p : Point g.row.W.Denot). IsDrawn g.W.Whole.numbers p) (sym read) (c.requires.drawn c.loop-i.least inside)

pub loop-i-preserved : goal.loop-i-preserved
loop-i-preserved g c =
    let K = g.W.Whole.numbers.ring in
    let vertices = c.args.vertices.now in
    let inside : c.loop-i.least < length vertices = omega arith in
    let first : c.index-vertices-i.result ≡ point_at K vertices c.loop-i.i
    = c.index-vertices-i.is ∙ get_or_default vertices c.loop-i.i c.index-vertices-i.result (origin g.W.Whole.numbers.ops) c.loop-i-test.true in
    let second : c.index-vertices-least.result ≡ point_at K vertices c.loop-i.least
    = c.index-vertices-least.is ∙ get_or_default vertices c.loop-i.least c.index-vertices-least.result (origin g.W.Whole.numbers.ops) inside in
    let order : point_order K c.index-vertices-i.result c.index-vertices-least.result ≡ point_order K (point_at K vertices c.loop-i.i) (point_at K vertices c.loop-i.least)
    = ap (λ (p : Point g.row.W.Denot). point_order K p c.index-vertices-least.result) first ∙ ap (λ (p : Point g.row.W.Denot). point_order K (point_at K vertices c.loop-i.i) p) second in
    elim c.if-is_before.branch [
      | then-is_before w ↦
          subst (λ (l : ℕ). IsLeastPoint K vertices (c.loop-i.i + 1) l) (sym w.least-is)
          (least_taken K vertices c.requires.points c.requires.different c.loop-i.i c.loop-i.least c.loop-i.invariant c.loop-i-test.true
          (sym order ∙ c.is_before.ensures.0 w.if-is_before.true))
      | else-is_before w ↦
          subst (λ (l : ℕ). IsLeastPoint K vertices (c.loop-i.i + 1) l) (sym w.least-is)
          (least_kept K vertices c.requires.points c.requires.different c.loop-i.i c.loop-i.least c.loop-i.invariant c.loop-i-test.true
          (λ less. let no : true ≡ false = sym (c.is_before.ensures.1 (order ∙ less)) ∙ w.if-is_before.false in cc))
    ]
