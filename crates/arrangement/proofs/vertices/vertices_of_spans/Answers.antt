use Rattle.std.proofs.Common.{map, subst, sym, arith, []}
use Rattle.std.specs.Prelude.{Contains}
use Rattle.std.proofs.lemmas.Result.{err_from_is_err_and}
use Rattle.plane.specs.declared.point.Point.{Point}
use Rattle.scaled_plane.specs.Pieces.{AreVertices, IsEndOfOne}
use Rattle.scaled_plane.specs.Drawn.{IsDrawn, IsScaledPoint}
use Rattle.arrangement.specs.Found.{Grows, IsEndIn, IsCrossedIn}
use Rattle.arrangement.proofs.Growing.{ends_kept, grows_not}
use Rattle.arrangement.proofs.AllFound.{come_from, found_vertices, found_drawn, ends_scaled, many_vertices}
use Rattle.arrangement.proofs.Sweeping.{usable_in}
use Rattle.arrangement.proofs.vertices.vertices_of_spans.Goals as goal

pub returns-in_err-cross_all-clause-too_many : goal.returns-in_err-cross_all-clause-too_many
returns-in_err-cross_all-clause-too_many g c =
    let N = g.W.Whole.numbers in
    let xs = map (λ s. s.segment) c.args.spans.now in
    let usable = usable_in N (λ s. s.segment) (λ s. s.left.point) (λ s. s.right.point) c.args.spans.now c.requires.spans in
    let ends = map (λ v. v.point) c.add_ends.new.found.keys in
    let points = map (λ v. v.point) c.cross_all.new.found.keys in
    let begun : Grows N.ring (IsEndIn N.ring xs) [] ends
    = subst (λ ks. Grows N.ring (IsEndIn N.ring xs) (map (λ v. v.point) ks) ends) c.new-found.ensures.empty c.add_ends.ensures.grows in
    let p = err_from_is_err_and c.from_residual-in_err-cross_all.result c.from_residual-in_err-cross_all.ensures.1 in
    rw (p.1, p.2) (λ e vertices all. (let many = c.in_err-cross_all.ensures.too_many e in
    let most = many_vertices N xs usable points vertices (come_from N xs usable ends points begun c.cross_all.ensures.grows) many.sorted all in
    let more = many.more in
    omega (arith, more, most)))

pub returns-in_err-add_ends-clause-too_many : goal.returns-in_err-add_ends-clause-too_many
returns-in_err-add_ends-clause-too_many g c =
    let N = g.W.Whole.numbers in
    let xs = map (λ s. s.segment) c.args.spans.now in
    let usable = usable_in N (λ s. s.segment) (λ s. s.left.point) (λ s. s.right.point) c.args.spans.now c.requires.spans in
    let ends = map (λ v. v.point) c.add_ends.new.found.keys in
    let begun : Grows N.ring (IsEndIn N.ring xs) [] ends
    = subst (λ ks. Grows N.ring (IsEndIn N.ring xs) (map (λ v. v.point) ks) ends) c.new-found.ensures.empty c.add_ends.ensures.grows in
    let p = err_from_is_err_and c.from_residual.result c.from_residual.ensures.1 in
    rw (p.1, p.2) (λ e vertices all. (let many = c.in_err-add_ends.ensures.too_many e in
    let most = many_vertices N xs usable ends vertices (come_from N xs usable ends ends begun (grows_not N.ring (IsCrossedIn N.ring xs) ends)) many.sorted all in
    let more = many.more in
    omega (arith, more, most)))

pub returns-clause-vertices : goal.returns-clause-vertices
returns-clause-vertices g c =
    let N = g.W.Whole.numbers in
    let xs = map (λ s. s.segment) c.args.spans.now in
    let usable = usable_in N (λ s. s.segment) (λ s. s.left.point) (λ s. s.right.point) c.args.spans.now c.requires.spans in
    let ends = map (λ v. v.point) c.add_ends.new.found.keys in
    let points = map (λ v. v.point) c.cross_all.new.found.keys in
    let begun : Grows N.ring (IsEndIn N.ring xs) [] ends
    = subst (λ ks. Grows N.ring (IsEndIn N.ring xs) (map (λ v. v.point) ks) ends) c.new-found.ensures.empty c.add_ends.ensures.grows in
    subst (λ ks. AreVertices N.ring xs (map (λ v. v.point) ks)) (sym c.in_ok-vertices.ensures.same)
    (found_vertices N xs usable points (come_from N xs usable ends points begun c.cross_all.ensures.grows)
    c.in_ok-vertices.ensures.sorted
    (λ s there. ends_kept N.ring (IsCrossedIn N.ring xs) ends points s c.cross_all.ensures.grows (c.in_ok-add_ends.ensures.has s there))
    c.in_ok-cross_all.ensures.has)

pub returns-clause-drawn : goal.returns-clause-drawn
returns-clause-drawn g c =
    let N = g.W.Whole.numbers in
    let xs = map (λ s. s.segment) c.args.spans.now in
    let usable = usable_in N (λ s. s.segment) (λ s. s.left.point) (λ s. s.right.point) c.args.spans.now c.requires.spans in
    let ends = map (λ v. v.point) c.add_ends.new.found.keys in
    let points = map (λ v. v.point) c.cross_all.new.found.keys in
    let begun : Grows N.ring (IsEndIn N.ring xs) [] ends
    = subst (λ ks. Grows N.ring (IsEndIn N.ring xs) (map (λ v. v.point) ks) ends) c.new-found.ensures.empty c.add_ends.ensures.grows in
    subst (λ ks. (p : Point g.row.W.Denot) → Contains (map (λ v. v.point) ks) p → IsDrawn N p) (sym c.in_ok-vertices.ensures.same)
    (found_drawn N xs usable points (come_from N xs usable ends points begun c.cross_all.ensures.grows))

pub returns-clause-scaled_ends : goal.returns-clause-scaled_ends
returns-clause-scaled_ends g c =
    let N = g.W.Whole.numbers in
    let xs = map (λ s. s.segment) c.args.spans.now in
    let usable = usable_in N (λ s. s.segment) (λ s. s.left.point) (λ s. s.right.point) c.args.spans.now c.requires.spans in
    let ends = map (λ v. v.point) c.add_ends.new.found.keys in
    let points = map (λ v. v.point) c.cross_all.new.found.keys in
    let begun : Grows N.ring (IsEndIn N.ring xs) [] ends
    = subst (λ ks. Grows N.ring (IsEndIn N.ring xs) (map (λ v. v.point) ks) ends) c.new-found.ensures.empty c.add_ends.ensures.grows in
    subst (λ ks. (p : Point g.row.W.Denot) → Contains (map (λ v. v.point) ks) p → IsEndOfOne N.ring xs p → IsScaledPoint N p) (sym c.in_ok-vertices.ensures.same)
    (ends_scaled N xs usable ends points begun c.cross_all.ensures.grows c.in_ok-add_ends.ensures.has)
