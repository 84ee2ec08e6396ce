use Rattle.std.proofs.Common.{◌≡◌, ◌≤◌, map, length, sym, ◌∙◌, ap, subst}
use Rattle.std.specs.Prelude.{All, zip}
use Rattle.std.specs.List.{AllByRecursion, AllZip}
use Rattle.frame_lines.specs.Lines.{line_of}
use Rattle.frame_lines.proofs.Agree.{kinds}
use Rattle.crease_input.specs.Files.{AreDrawingLines, AreNineTexts}
use Rattle.crease_input.specs.Lines.{IsEdgeWithin}
use Rattle.crease_input.proofs.EdgeLines.{if_ok, lines_are, pairs_within, points_count, two_axes}
use Rattle.crease_input.proofs.segments.drawing_lines.Goals as goal

pub lines_of-requires-clause-axes : goal.lines_of-requires-clause-axes
lines_of-requires-clause-axes g c =
    two_axes c.as_slice-4.result.now c.in_ok-points.ensures.0 (c.as_slice-4.ensures ∙ c.in_ok-points.ensures.2)

pub lines_of-requires-clause-within : goal.lines_of-requires-clause-within
lines_of-requires-clause-within g c =
    let count : length c.as_slice-4.result.now ≡ length c.args.ends.now.coords =
    points_count (AreNineTexts g.N.Exact.ROOT g.N.Exact.parts) c.args.ends.now.coords c.as_slice.result.now c.in_ok-points.ensures.0
    c.as_slice-4.result.now c.as_slice.ensures c.in_ok-points.ensures.1 (c.as_slice-4.ensures ∙ c.in_ok-points.ensures.2) in
    pairs_within (length c.as_slice-4.result.now) c.args.ends.now.edges c.deref.result.now
    (c.deref.ensures.value ∙ c.in_ok-pairs.ensures ∙ ap (map (λ e. (e.from, e.to))) c.as_slice-2.ensures)
    (subst (λ n. AllByRecursion (IsEdgeWithin n) c.args.ends.now.edges) (sym count) c.requires.edges)

pub returns-clause-lines : goal.returns-clause-lines
returns-clause-lines g c =
    if_ok (λ lines. lines ≡ map (line_of c.as_slice-4.result.now) (zip c.deref.result.now c.deref-2.result.now))
    (AreDrawingLines g.N.Exact.ROOT g.N.Exact.parts c.args.ends.now) c.lines_of.result
    (λ lines is. (
      c.in_ok-points.ensures.0,
      subst (λ ps. AllZip (AreNineTexts g.N.Exact.ROOT g.N.Exact.parts) ps c.in_ok-points.ensures.0) c.as_slice.ensures c.in_ok-points.ensures.1,
      lines_are c.in_ok-points.ensures.0 c.as_slice-4.result.now c.args.ends.now.edges c.deref.result.now c.deref-2.result.now lines
          (c.as_slice-4.ensures ∙ c.in_ok-points.ensures.2)
          (c.deref.ensures.value ∙ c.in_ok-pairs.ensures ∙ ap (map (λ e. (e.from, e.to))) c.as_slice-2.ensures)
          (c.deref-2.ensures.value ∙ c.in_ok-letters.ensures ∙ ap (map (λ e. e.letter)) c.as_slice-3.ensures) is,
    ))
    c.lines_of.ensures.lines

pub returns-clause-kinds : goal.returns-clause-kinds
returns-clause-kinds g c =
    if_ok (λ lines. lines ≡ map (line_of c.as_slice-4.result.now) (zip c.deref.result.now c.deref-2.result.now))
    (All (λ line. line.kind ≤ 4)) c.lines_of.result
    (λ lines is. kinds c.as_slice-4.result.now (zip c.deref.result.now c.deref-2.result.now) lines is)
    c.lines_of.ensures.lines
