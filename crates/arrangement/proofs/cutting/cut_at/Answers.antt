use Rattle.std.proofs.Common.{◌≡◌, ◌∙◌, ap, arith, map, slice_index_or, sym}
use Rattle.std.specs.Ordering.{is_eq}
use Rattle.plane.specs.Lines.{line, side, value}
use Rattle.scaled_plane.proofs.DrawnSizes.{scaled_point}
use Rattle.scaled_plane.specs.Pieces.{point_at}
use Rattle.arrangement.proofs.Joining.{last_now, last_still, level_of, off_of, on_by_line}
use Rattle.arrangement.proofs.Knowing.{step_off, step_on}
use Rattle.arrangement.proofs.Listed.{seen_within}
use Rattle.arrangement.proofs.Searching.{all_points, seen}
use Rattle.arrangement.proofs.cutting.cut_at.Goals as goal

pub returns-then-not-goes_through-clause-last : goal.returns-then-not-goes_through-clause-last
returns-then-not-goes_through-clause-last g c =
    let N = g.W.Whole.numbers in
    let P = map (λ v. v.point) c.args.vertices.now in
    let s = c.args.cut.now.segment in
    let item = seen N.ring (λ v. v.point) (λ v. v.is_point) c.args.vertices.now c.args.place c.index-vertices-place.result c.requires.in_range in
    let told : c.goes_through.result ≡ is_eq (side N.ring s.from s.to (point_at N.ring P c.args.place))
    = c.goes_through.ensures ∙ ap (λ l. is_eq (N.sign (value N.ops l (slice_index_or c.args.vertices.now c.args.place c.index-vertices-place.result).point))) c.requires.line ∙ ap (λ p. is_eq (N.sign (value N.ops (line N.ops s.from s.to) p))) (sym item) in
    let off = off_of N.ring P s c.args.place c.goes_through.result told c.if-not-goes_through.true in
    last_still N.ring P s c.args.place c.args.last off c.requires.last

pub returns-then-not-goes_through-clause-covers : goal.returns-then-not-goes_through-clause-covers
returns-then-not-goes_through-clause-covers g c = λ segments before.
    let N = g.W.Whole.numbers in
    let P = map (λ v. v.point) c.args.vertices.now in
    let s = c.args.cut.now.segment in
    let item = seen N.ring (λ v. v.point) (λ v. v.is_point) c.args.vertices.now c.args.place c.index-vertices-place.result c.requires.in_range in
    let told : c.goes_through.result ≡ is_eq (side N.ring s.from s.to (point_at N.ring P c.args.place))
    = c.goes_through.ensures ∙ ap (λ l. is_eq (N.sign (value N.ops l (slice_index_or c.args.vertices.now c.args.place c.index-vertices-place.result).point))) c.requires.line ∙ ap (λ p. is_eq (N.sign (value N.ops (line N.ops s.from s.to) p))) (sym item) in
    let off = off_of N.ring P s c.args.place c.goes_through.result told c.if-not-goes_through.true in
    step_off N.ring P segments s c.args.place c.args.covers.now off before

pub returns-clause-last : goal.returns-clause-last
returns-clause-last g c =
    let N = g.W.Whole.numbers in
    let P = map (λ v. v.point) c.args.vertices.now in
    let s = c.args.cut.now.segment in
    let item = seen N.ring (λ v. v.point) (λ v. v.is_point) c.args.vertices.now c.args.place c.index-vertices-place.result c.requires.in_range in
    let told : c.goes_through.result ≡ is_eq (side N.ring s.from s.to (point_at N.ring P c.args.place))
    = c.goes_through.ensures ∙ ap (λ l. is_eq (N.sign (value N.ops l (slice_index_or c.args.vertices.now c.args.place c.index-vertices-place.result).point))) c.requires.line ∙ ap (λ p. is_eq (N.sign (value N.ops (line N.ops s.from s.to) p))) (sym item) in
    let level = level_of N.ring P s c.args.place c.goes_through.result told c.if-not-goes_through.false in
    let on = on_by_line N.ring P (all_points N.ring (λ v. v.point) (λ v. v.is_point) c.args.vertices.now) c.requires.sorted s (scaled_point N s.from c.requires.usable.from) (scaled_point N s.to c.requires.usable.to)
    c.args.cut.now.ends c.requires.ends c.args.place (let x = c.requires.begun in omega (arith, x)) c.requires.within level in
    last_now N.ring P s c.args.place on

pub returns-clause-covers : goal.returns-clause-covers
returns-clause-covers g c = λ segments before.
    let N = g.W.Whole.numbers in
    let P = map (λ v. v.point) c.args.vertices.now in
    let s = c.args.cut.now.segment in
    let item = seen N.ring (λ v. v.point) (λ v. v.is_point) c.args.vertices.now c.args.place c.index-vertices-place.result c.requires.in_range in
    let told : c.goes_through.result ≡ is_eq (side N.ring s.from s.to (point_at N.ring P c.args.place))
    = c.goes_through.ensures ∙ ap (λ l. is_eq (N.sign (value N.ops l (slice_index_or c.args.vertices.now c.args.place c.index-vertices-place.result).point))) c.requires.line ∙ ap (λ p. is_eq (N.sign (value N.ops (line N.ops s.from s.to) p))) (sym item) in
    let level = level_of N.ring P s c.args.place c.goes_through.result told c.if-not-goes_through.false in
    let on = on_by_line N.ring P (all_points N.ring (λ v. v.point) (λ v. v.is_point) c.args.vertices.now) c.requires.sorted s (scaled_point N s.from c.requires.usable.from) (scaled_point N s.to c.requires.usable.to)
    c.args.cut.now.ends c.requires.ends c.args.place (let x = c.requires.begun in omega (arith, x)) c.requires.within level in
    step_on N.ring P segments s c.args.place c.args.last c.args.cut.now.ends c.args.covers.now c.cover_piece.new.covers c.requires.usable.proper
    (seen_within (λ v. v.point) c.args.vertices.now c.args.place c.requires.in_range) on c.requires.last c.requires.ends c.in_ok-cover_piece.ensures.here c.in_ok-cover_piece.ensures.others before
