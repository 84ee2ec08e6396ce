-- answers that say less of the vertices of a frame, and what they say of sizes
use Rattle.std.proofs.Common.{◌≡◌, ℕ, ◌<◌, ◌≤◌, List, [], ◌∷◌, Bool, Option, Some, None, Result, Ok, Err}
use Rattle.std.specs.List.{AllByRecursion, AllZip}
use Rattle.algebra.specs.LowestTerms.{Parts}
use Rattle.fold_keys.specs.declared.value.Entry.{Entry}
use Rattle.number_rules.specs.ExactText.{AreShort}
use Rattle.number_rules.specs.OneReading.{ReadsText}
use Rattle.number_rules.specs.Rows.{denominator_of}
use Rattle.number_rules.specs.declared.decimal.Decimal.{Decimal}
use Rattle.number_rules.specs.declared.unread.Row.{Row}
use Rattle.number_rules.specs.declared.unread.Unread.{Unread}
use Rattle.scaled_plane.specs.declared.drawing.Ends.{Ends}
use Rattle.scaled_plane.specs.declared.drawing.Face.{Face}
use Rattle.scaled_plane.specs.declared.point.Pair.{Pair}
use Rattle.crease_input.specs.Files.{HasShortParts}
use Rattle.crease_input.specs.Lines.{Answers, place_of_axis}
use Rattle.crease_input.specs.Frames.{AnswersFrame, HasNoPoint, IsFirstWithout, IsVertex, Vertex, answers_by, texts_by, vertices_of}
use Rattle.crease_input.specs.Readings.{ReadsFrame}
use Rattle.crease_input.specs.declared.fault.InputFault.{InputFault}
use Rattle.crease_input.specs.declared.fault.InputFault.TheVariants as faults
use Rattle.crease_input.proofs.OneReading.{unread_by}
use Rattle.crease_input.proofs.Short.{number_short}

module _ {N : Type 0} (k : ℕ) (parts : N → Parts) (more less : List ℕ → Result N Unread → Type 0)
    (weakens : (t : List ℕ) (r : Result N Unread) → more t r → less t r) where
  by_text : (exact : Option (List ℕ × List ℕ)) (t : List ℕ) (r : Result N Unread) → answers_by k parts more exact t r
      → answers_by k parts less exact t r
  by_text None t r a = weakens t r a
  by_text (Some texts) t r a = a

  vertex_by : (v : Vertex) (p : Pair N) → IsVertex k parts more v p → IsVertex k parts less v p
  vertex_by v p is = record {
    flat = is.flat;
    told = (by_text v.exact (texts_by v.exact v.point).0 (Ok p.x) is.told.0, by_text v.exact (texts_by v.exact v.point).1 (Ok p.y) is.told.1);
    fresh = is.fresh;
  }

  untold_by : (v : Vertex) (place : ℕ) (fault : InputFault) → HasNoPoint k parts more v place fault
      → HasNoPoint k parts less v place fault
  untold_by v place (faults.Missing key) is = is
  untold_by v place (faults.TooMany what) is = is
  untold_by v place (faults.NotFlat w) is = is
  untold_by v place (faults.Unread w axis cause) is = (
    is.0,
    is.1,
    unread_by (answers_by k parts more v.exact) (answers_by k parts less v.exact) (by_text v.exact)
        ((texts_by v.exact v.point).0 ∷ (texts_by v.exact v.point).1 ∷ []) (place_of_axis axis) cause is.2,
  )
  untold_by v place (faults.Stale w) is = (
    is.0,
    is.1,
    is.2,
    (by_text v.exact (texts_by v.exact v.point).0 (Ok is.2.x) is.3.0, by_text v.exact (texts_by v.exact v.point).1 (Ok is.2.y) is.3.1),
    is.4,
  )
  untold_by v place (faults.Memory e) is = is

  vertices_by : (vertices : List Vertex) (coords : List (Pair N)) → AllZip (IsVertex k parts more) vertices coords
      → AllZip (IsVertex k parts less) vertices coords
  vertices_by [] [] are = tt
  vertices_by [] (p ∷ ps) are = absurd are
  vertices_by (v ∷ vs) [] are = absurd are
  vertices_by (v ∷ vs) (p ∷ ps) are = (vertex_by v p are.0, vertices_by vs ps are.1)

  points_by : (vertices : List Vertex) → AllByRecursion (λ v. (p : Pair N) × IsVertex k parts more v p) vertices
      → AllByRecursion (λ v. (p : Pair N) × IsVertex k parts less v p) vertices
  points_by [] all = tt
  points_by (v ∷ vs) all = ((all.0.0, vertex_by v all.0.0 all.0.1), points_by vs all.1)

  first_by : (vertices : List Vertex) (fault : InputFault) → IsFirstWithout k parts more vertices fault
      → IsFirstWithout k parts less vertices fault
  first_by vertices fault is = record {
    before = is.before;
    vertex = is.vertex;
    after = is.after;
    split = is.split;
    points = points_by is.before is.points;
    none = untold_by is.vertex _ fault is.none;
  }

  frame_by : (faces : Bool) (entries : List Entry) (r : Result (Ends N × List Face) InputFault)
      → AnswersFrame k parts more faces entries r → AnswersFrame k parts less faces entries r
  frame_by faces entries (Ok drawn) is = record {
    whole = is.whole;
    few = is.few;
    coords = vertices_by (vertices_of entries) drawn.0.coords is.coords;
    edges = is.edges;
    faces = is.faces;
  }
  frame_by faces entries (Err (faults.Memory e)) is = tt
  frame_by faces entries (Err (faults.Missing key)) is = is
  frame_by faces entries (Err (faults.TooMany what)) is = is
  frame_by faces entries (Err (faults.NotFlat v)) is = (is.0, is.1, first_by (vertices_of entries) (faults.NotFlat v) is.2)
  frame_by faces entries (Err (faults.Unread v axis cause)) is =
      (is.0, is.1, first_by (vertices_of entries) (faults.Unread v axis cause) is.2)
  frame_by faces entries (Err (faults.Stale v)) is = (is.0, is.1, first_by (vertices_of entries) (faults.Stale v) is.2)

-- by the rule's row alone
pub frame_by_row : {N : Type 0} (k : ℕ) (parts : N → Parts) (row : Row) (gives : Decimal → Result N Unread → Type 0)
    (faces : Bool) (entries : List Entry) (r : Result (Ends N × List Face) InputFault)
    → AnswersFrame k parts (Answers k parts row gives) faces entries r → ReadsFrame k parts row faces entries r
frame_by_row k parts row gives faces entries r is =
    frame_by k parts (Answers k parts row gives) (ReadsText k parts row) (λ t s a. (a.decimal, (a.of_text, a.by_row)))
    faces entries r is

-- ---- sizes

module _ {N : Type 0} (k : ℕ) (parts : N → Parts) (row : Row) (gives : Decimal → Result N Unread → Type 0)
    (three : k ≤ 3) (some : 0 < denominator_of row) (most : denominator_of row ≤ 1000000) where
  abbrev rule : List ℕ → Result N Unread → Type 0
  rule = Answers k parts row gives

  short_text : (exact : Option (List ℕ × List ℕ)) (t : List ℕ) (x : N) → answers_by k parts rule exact t (Ok x)
      → AreShort (parts x)
  short_text None t x a = number_short k parts row gives three some most t x a
  short_text (Some texts) t x a = a.1

  pub coords_short : (vertices : List Vertex) (coords : List (Pair N)) → AllZip (IsVertex k parts rule) vertices coords
      → AllByRecursion (HasShortParts parts) coords
  coords_short [] [] are = tt
  coords_short [] (p ∷ ps) are = absurd are
  coords_short (v ∷ vs) [] are = absurd are
  coords_short (v ∷ vs) (p ∷ ps) are = (
    (short_text v.exact (texts_by v.exact v.point).0 p.x are.0.told.0, short_text v.exact (texts_by v.exact v.point).1 p.y are.0.told.1),
    coords_short vs ps are.1,
  )
