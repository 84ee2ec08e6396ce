use Rattle.std.proofs.Common.{◌≡◌, ◌∙◌, ℕ, ℤ, List, ap, inl, inr, length, of_z, rules, subst, sym, to_z}
use Rattle.std.specs.Int.{w128}
use Rattle.std.proofs.lemmas.Int.{to_z-of_z}
use Rattle.std.proofs.lemmas.Result.{IfErr-weaker, err_from_is_err_and}
use Rattle.std.proofs.lemmas.Slice.Zip.{AllZip-long}
use Rattle.std.specs.Prelude.{Contains}
use Rattle.plane.specs.declared.point.Point.{Point}
use Rattle.scaled_plane.specs.Drawn.{IsDrawn}
use Rattle.scaled_plane.specs.Scaling.{IsFirstOf}
use Rattle.drawing_repair.specs.Repaired.{AreFoundWithin, IsRefusal, IsWideDrawn}
use Rattle.drawing_repair.specs.declared.answer.RepairFault.TheVariants.{TooWide, Memory}
use Rattle.drawing_repair.specs.declared.answer.Stage.TheVariants.{Drawn}
use Rattle.drawing_repair.proofs.Exact.{drawn_coords}
use Rattle.drawing_repair.proofs.Found.{found_walks}
use Rattle.drawing_repair.proofs.repair.repair_ends.Goals as goal

pub returns-in_err-scaled-clause-refused : goal.returns-in_err-scaled-clause-refused
returns-in_err-scaled-clause-refused g c =
    let p = err_from_is_err_and c.from_residual.result c.from_residual.ensures.1 in
    rw (p.1, p.2) (elim c.in_err-scaled.ensures.refused [ inl m ↦ inl m | inr h ↦ inr (h c.args.faces) ])

pub exact_points-requires-clause-drawn : goal.exact_points-requires-clause-drawn
exact_points-requires-clause-drawn g c =
    subst (λ (ps : List (Point g.row.N-Ring.Denot)). (p : Point g.row.N-Ring.Denot) → Contains ps p → IsDrawn g.N.Ring.Whole.numbers p) (sym c.as_slice.ensures)
    (λ p there. (c.in_ok-scaled.ensures.cut.well_set.points p there).1)

pub returns-in_err-coords-clause-refused : goal.returns-in_err-coords-clause-refused
returns-in_err-coords-clause-refused g c =
    let numbers = g.N.Ring.Whole.numbers in
    let scaled = c.in_ok-scaled.scaled in
    let cut = c.in_ok-scaled.ensures.cut in
    let is = to_z-of_z w128 scaled.common (search rules) in
    let p = err_from_is_err_and c.from_residual-in_err-coords.result c.from_residual-in_err-coords.ensures.1 in
    rw (p.1, p.2) (elim c.in_err-coords.ensures.too_wide [
      | inl m ↦ inl m
      | inr h ↦ inr (subst (IsRefusal g.N.Exact.parts numbers c.args.flat c.args.ends.now c.args.faces) (sym h.1) (
        scaled,
        c.in_ok-scaled.drawing.vertices,
        cut.cut,
        cut.few,
        subst (λ (z : ℤ). IsFirstOf (IsWideDrawn numbers c.in_ok-scaled.drawing.vertices z) h.0) is
            (subst (λ (ps : List (Point g.row.N-Ring.Denot)). IsFirstOf (IsWideDrawn numbers ps (to_z w128 (of_z w128 scaled.common))) h.0) c.as_slice.ensures h.2),
      ))
    ])

-- what is too wide would be a refusal, which narrow coordinates rule out
pub returns-in_err-coords-clause-narrow : goal.returns-in_err-coords-clause-narrow
returns-in_err-coords-clause-narrow g c = λ narrow.
    let no = c.vertices_can_be_written.ensures.narrow c.args.flat c.args.ends.now c.args.faces in
    IfErr-weaker c.from_residual-in_err-coords.result _ _ (λ fault refused v wide. elim refused [
      | inl m ↦ let memory : TooWide v Drawn ≡ Memory m.0 = sym wide ∙ m.1 in cc
      | inr h ↦ no v narrow (subst (IsRefusal g.N.Exact.parts g.N.Ring.Whole.numbers c.args.flat c.args.ends.now c.args.faces) wide h)
    ]) (returns-in_err-coords-clause-refused g c)

pub returns-in_err-faces-clause-refused : goal.returns-in_err-faces-clause-refused
returns-in_err-faces-clause-refused g c =
    let numbers = g.N.Ring.Whole.numbers in
    let scaled = c.in_ok-scaled.scaled in
    let drawing = c.in_ok-scaled.drawing in
    let cut = c.in_ok-scaled.ensures.cut in
    let is = to_z-of_z w128 scaled.common (search rules) in
    let coords = drawn_coords _ numbers c.as_slice.result.now drawing.vertices _ scaled.common c.in_ok-coords.coords c.as_slice.ensures is c.in_ok-coords.ensures.coords in
    let p = err_from_is_err_and c.from_residual-in_err-faces.result c.from_residual-in_err-faces.ensures.1 in
    rw (p.1, p.2) (elim c.in_err-faces.ensures.parted [
      | inl m ↦ inl m
      | inr h ↦ inr (subst (IsRefusal g.N.Exact.parts numbers c.args.flat c.args.ends.now c.args.faces) (sym h.1) (
        scaled,
        drawing.vertices,
        record { coords = c.in_ok-coords.coords; edges = drawing.edges },
        h.2,
        record { cut = cut.cut; few = cut.few; coords = coords; pieces = cut.pieces },
        h.3,
      ))
    ])

pub returns-clause-regions : goal.returns-clause-regions
returns-clause-regions g c = λ found e.
    let numbers = g.N.Ring.Whole.numbers in
    let scaled = c.in_ok-scaled.scaled in
    let drawing = c.in_ok-scaled.drawing in
    let cut = c.in_ok-scaled.ensures.cut in
    let is = to_z-of_z w128 scaled.common (search rules) in
    let coords = drawn_coords _ numbers c.as_slice.result.now drawing.vertices _ scaled.common c.in_ok-coords.coords c.as_slice.ensures is c.in_ok-coords.ensures.coords in
    let walks = found_walks numbers.ring drawing.vertices drawing.edges c.args.faces c.in_ok-faces.faces c.in_ok-faces.ensures.faces found e in
    (scaled, drawing.vertices, record { cut = cut.cut; few = cut.few; coords = coords; pieces = cut.pieces }, walks.0, walks.1, c.in_ok-faces.ensures.regions found e)

pub returns-clause-within : goal.returns-clause-within
returns-clause-within g c =
    let long : length c.in_ok-coords.coords ≡ length c.as_slice.result.now
    = AllZip-long _ c.as_slice.result.now c.in_ok-coords.coords c.in_ok-coords.ensures.coords in
    subst (λ (n : ℕ). AreFoundWithin n c.in_ok-faces.faces) (sym (long ∙ ap length c.as_slice.ensures)) c.in_ok-faces.ensures.within
