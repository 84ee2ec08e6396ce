-- a repaired drawing can be written as a file
use Rattle.std.proofs.Common.{◌≡◌, ℕ, suc, List, [], ◌∷◌, length, refl, ap, arith, None}
use Rattle.std.specs.Prelude.{ℤ, Contains, Option, Some}
use Rattle.std.specs.List.{AllByRecursion}
use Rattle.algebra.specs.LowestTerms.{Parts}
use Rattle.algebra.specs.Surd.{Surd}
use Rattle.algebra.specs.WholeSurds.{SurdNumbers}
use Rattle.arrangement.proofs.Zipped.{few_edges}
use Rattle.plane.specs.declared.point.Point.{Point}
use Rattle.plane.proofs.Members.{in_head, in_tail}
use Rattle.scaled_plane.specs.Exact.{IsNarrow}
use Rattle.scaled_plane.specs.declared.drawing.Edge.{Edge}
use Rattle.scaled_plane.specs.declared.drawing.Ends.{Ends}
use Rattle.scaled_plane.specs.declared.drawing.Face.{Face}
use Rattle.scaled_plane.specs.declared.point.Pair.{Pair}
use Rattle.drawing_repair.specs.Repaired.{AreExact, AreFoundWithin, IsRepaired}
use Rattle.drawing_repair.specs.declared.answer.Repaired.{Repaired}
use Rattle.drawing_repair.specs.declared.options.Faces.{Faces}
use Rattle.drawing_repair.specs.declared.options.Flat.{Flat}
use Rattle.number_rules.specs.ExactText.{AreShort}
use Rattle.crease_input.specs.Files.{AreFacesWithin, HasShortParts, IsFileable}
use Rattle.crease_input.specs.Lines.{IsEdgeWithin}

short : (p : Parts) → IsNarrow p → AreShort p
short p narrow = record { a = narrow.a_within; b = narrow.b_within; q = narrow.q_within }

found_within : (n : ℕ) (found : Option (List Face)) → AreFoundWithin n found → AreFacesWithin n found
found_within n None within = tt
found_within n (Some faces) within = within

all_of : {X : Type 0} (P : X → Type 0) (xs : List X) → ((x : X) → Contains xs x → P x) → AllByRecursion P xs
all_of P [] each = tt
all_of P (x ∷ xs) each = (each x (in_head x xs), all_of P xs (λ y c. each y (in_tail x xs y c)))

module _ {N W : Type 0} {k : ℕ} {surd : W → Surd ℤ} (parts : N → Parts)
    (numbers : SurdNumbers k surd) where
  short_coords : (common : ℤ) (points : List (Point W)) (coords : List (Pair N))
      → AreExact parts numbers points common coords → AllByRecursion (HasShortParts parts) coords
  short_coords common [] [] all = tt
  short_coords common [] (c ∷ coords) all = absurd all
  short_coords common (p ∷ points) [] all = absurd all
  short_coords common (p ∷ points) (c ∷ coords) all =
      ((short (parts c.x) all.0.x_narrow, short (parts c.y) all.0.y_narrow), short_coords common points coords all.1)

  as_many : (common : ℤ) (points : List (Point W)) (coords : List (Pair N))
      → AreExact parts numbers points common coords → length coords ≡ length points
  as_many common [] [] all = refl
  as_many common [] (c ∷ coords) all = absurd all
  as_many common (p ∷ points) [] all = absurd all
  as_many common (p ∷ points) (c ∷ coords) all = ap suc (as_many common points coords all.1)

  module _ (flat : Flat) (ends : Ends N) (faces : Faces) (answer : Repaired N) where
    pub fileable : IsRepaired parts numbers flat ends faces answer
        → AreFoundWithin (length answer.ends.coords) answer.faces
        → IsFileable parts answer.ends answer.faces None
    fileable repaired within =
        let drawn = repaired.2 in
        let count : length answer.ends.coords ≡ length repaired.1 =
        as_many repaired.0.common repaired.1 answer.ends.coords drawn.coords in
        let inside : (e : Edge) → Contains answer.ends.edges e → IsEdgeWithin (length answer.ends.coords) e =
        (λ e c. let is = drawn.pieces.only e c in
        let x = is.in_order in let y = is.in_range in (omega (arith, x, y, count), omega (arith, y, count))) in
        let most = few_edges answer.ends.edges drawn.pieces.sorted
        (λ e c. let is = drawn.pieces.only e c in let x = is.in_order in let y = is.in_range in let z = drawn.few in
        (omega (arith, x, y, z), omega (arith, y, z))) in
        record {
          coords = short_coords repaired.0.common repaired.1 answer.ends.coords drawn.coords;
          few_vertices = let few = drawn.few in omega (arith, few, count);
          few_edges = omega (arith, most);
          edges = all_of (IsEdgeWithin (length answer.ends.coords)) answer.ends.edges inside;
          faces_fit = found_within (length answer.ends.coords) answer.faces within;
          orders_fit = tt;
        }
