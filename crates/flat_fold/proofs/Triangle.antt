-- A triangle is foldable.
use Rattle.std.proofs.Common.{◌≡◌, sym, subst, ℕ, List, [], ◌<◌, length, arith}
use Prim.Native.Nat.{zero, suc}
use Rattle.algebra.specs.OrderedField.{OrderedField}
use Rattle.scaled_plane.specs.declared.point.Pair.{Pair}
use Rattle.flat_fold.specs.Faces.{edge_at, IsPassable, LiesAlong, IsSevered}
use Rattle.flat_fold.specs.Folding.{IsFoldable}
use Rattle.flat_fold.specs.Triangle.{triangle_edges, triangle_faces}
use Rattle.flat_fold.proofs.FoldingLaws.{in_range}

impassable : (e : ℕ) → ¬ IsPassable (edge_at triangle_edges e).letter
impassable zero h = h
impassable (suc zero) h = h
impassable (suc (suc zero)) h = h
impassable (suc (suc (suc e))) h = h

ends_below : (e : ℕ) → e < 3 → ((edge_at triangle_edges e).from < 3) × ((edge_at triangle_edges e).to < 3)
ends_below zero h = (omega arith, omega arith)
ends_below (suc zero) h = (omega arith, omega arith)
ends_below (suc (suc zero)) h = (omega arith, omega arith)
ends_below (suc (suc (suc e))) h = absurd (omega arith)

one : (u v f g : ℕ) → LiesAlong triangle_edges triangle_faces f u v → LiesAlong triangle_edges triangle_faces g u v → f ≡ g
one u v f g h k =
    let below_f : f < 1 = in_range triangle_edges triangle_faces f u v h in
    let below_g : g < 1 = in_range triangle_edges triangle_faces g u v k in
    omega arith

joined : (f : ℕ) → f < 1 → ¬ IsSevered triangle_edges triangle_faces f
joined f h severed =
    let zero_f : 0 ≡ f = omega arith in
    severed ([], zero_f)

pub triangle-foldable : {A : Type 0} (F : OrderedField A) (coords : List (Pair A)) → length coords ≡ 3 → IsFoldable F coords triangle_edges triangle_faces
triangle-foldable F coords three =
    record {
      apart = λ e f g l. absurd (impassable e l.passable);
      one_face = one;
      some_face = omega arith;
      reached = joined;
      ends = λ e h. subst (λ (n : ℕ). ((edge_at triangle_edges e).from < n) × ((edge_at triangle_edges e).to < n)) (sym three) (ends_below e h);
    }
