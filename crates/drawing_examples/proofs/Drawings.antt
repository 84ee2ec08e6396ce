-- Drawings over the whole numbers, by tests that compute.
use mathlib.Core.Path.{◌≡◌}
use mathlib.Core.Bool.{Bool, true}
use mathlib.Core.List.{List}
use Prim.Native.Nat.{ℕ}
use lib.IntN.{ℤ}
use Rattle.std.specs.Prelude.{◌&&◌}
use Rattle.algebra.proofs.Integers.{integers}
use Rattle.plane.specs.declared.point.Point.{Point}
use Rattle.plane.specs.Points.{point_order}
use Rattle.scaled_plane.specs.declared.point.Segment.{Segment}
use Rattle.scaled_plane.specs.declared.drawing.Edge.{Edge}
use Rattle.scaled_plane.specs.Pieces.{edge_order}
use Rattle.drawing_examples.specs.Examples.{AreCutInto, FollowAs}
use Rattle.drawing_examples.proofs.Lists.{and_first, and_second}
use Rattle.drawing_examples.proofs.Cutting.{are_vertices, cuts_listed, ends_listed, points, sorted, vertices_only}
use Rattle.drawing_examples.proofs.Following.{table_fits, table_is}
use Rattle.drawing_examples.proofs.Covering.{are_pieces, are_lines, edges_listed, edges_only, lines_match}

module _ (segments : List (Segment ℤ)) (vertices : List (Point ℤ)) where
  abbrev pub vertices_fit : Bool
  vertices_fit =
      points integers segments vertices
      && (sorted (point_order integers) vertices && (ends_listed integers segments vertices && (cuts_listed integers segments vertices && vertices_only integers segments vertices)))

  abbrev pub pieces_fit : List Edge → Bool
  pieces_fit edges = sorted edge_order edges && (edges_only integers segments vertices edges && edges_listed integers segments vertices edges)

pub are_cut_into : {segments : List (Segment ℤ)} {vertices : List (Point ℤ)} {edges : List Edge} {lines : List (ℕ × ℕ)}
    → vertices_fit segments vertices ≡ true → pieces_fit segments vertices edges ≡ true → lines_match integers segments vertices edges lines ≡ true → AreCutInto segments vertices edges lines
are_cut_into {segments} {vertices} {edges} {lines} h k l =
    let a = points integers segments vertices in
    let b = sorted (point_order integers) vertices in
    let c = ends_listed integers segments vertices in
    let d = cuts_listed integers segments vertices in
    let e = vertices_only integers segments vertices in
    let all_points : a ≡ true = and_first a (b && (c && (d && e))) h in
    let rest : (b && (c && (d && e))) ≡ true = and_second a (b && (c && (d && e))) h in
    let order : b ≡ true = and_first b (c && (d && e)) rest in
    let others : (c && (d && e)) ≡ true = and_second b (c && (d && e)) rest in
    let ends : c ≡ true = and_first c (d && e) others in
    let last : (d && e) ≡ true = and_second c (d && e) others in
    let cuts : d ≡ true = and_first d e last in
    let only : e ≡ true = and_second d e last in
    let s = sorted edge_order edges in
    let t = edges_only integers segments vertices edges in
    let u = edges_listed integers segments vertices edges in
    let pieces : (t && u) ≡ true = and_second s (t && u) k in
    record {
      vertices_are = are_vertices integers segments vertices all_points order ends cuts only;
      pieces_are = are_pieces integers segments vertices all_points ends cuts only edges (and_first s (t && u) k) (and_first t u pieces) (and_second t u pieces);
      lines_are = are_lines integers segments vertices all_points edges lines l;
    }

pub follow_as : {vertices : List (Point ℤ)} {edges : List Edge} {table : List (ℕ × ℕ × ℕ)} → table_fits integers vertices edges table ≡ true → FollowAs vertices edges table
follow_as {vertices} {edges} {table} h = record { each = table_is integers vertices edges table h }
