-- the steps of `repair`: why each stops
use Rattle.std.proofs.Common.{◌≡◌, ◌⊎◌, ℕ, ◌<◌, ◌≤◌, ◌^◌, List, [], ◌∷◌, length, false, Result, Ok, Err, Option, Some, None, codes, inl, inr, refl, subst, arith}
use Rattle.std.specs.Prelude.{ℤ}
use Rattle.std.specs.List.{AllByRecursion}
use Rattle.std.proofs.lemmas.List.Elements.{All-from_recursion}
use Rattle.std.proofs.lemmas.Bool.{cases_lt}
use Rattle.algebra.specs.LowestTerms.{Parts}
use Rattle.algebra.specs.Surd.{Surd}
use Rattle.algebra.specs.WholeSurds.{SurdNumbers}
use Rattle.cp_lines.specs.declared.line.CpLine.{CpLine}
use Rattle.crease_input.specs.Frames.{AreWithin, IsReadablePoint}
use Rattle.crease_input.specs.Lines.{IsEdgeWithin, IsWithin}
use Rattle.crease_input.specs.Readings.{ReadsEnds, ReadsFrame}
use Rattle.crease_input.specs.declared.fault.Counted.TheVariants.{Segments}
use Rattle.crease_input.specs.declared.fault.InputFault.{InputFault}
use Rattle.crease_input.specs.declared.fault.InputFault.TheVariants as faults
use Rattle.drawing_repair.specs.Kept.{AreInRange}
use Rattle.drawing_repair.specs.Repaired.{HasBoundedRegions, IsRepaired}
use Rattle.drawing_repair.specs.declared.answer.Repaired.{Repaired}
use Rattle.drawing_repair.specs.declared.options.Faces.{Faces}
use Rattle.fold_frames.specs.Answers.{IsEffective}
use Rattle.fold_frames.specs.Effects.{FrameInEffect}
use Rattle.fold_frames.specs.Parents.{value_at}
use Rattle.fold_keys.specs.Trees.{tree_of_file}
use Rattle.fold_keys.specs.declared.value.FoldFile.{FoldFile}
use Rattle.fold_keys.specs.declared.value.Value.{Value}
use Rattle.fold_keys.specs.declared.value.Value.TheVariants as values
use Rattle.frame_lines.specs.Lines.{points_in, points_of}
use Rattle.json_tree.specs.Tree.{HasLengthsUpTo}
use Rattle.number_rules.specs.declared.unread.Row.{Row}
use Rattle.scaled_plane.specs.declared.drawing.Edge.{Edge}
use Rattle.scaled_plane.specs.declared.drawing.Ends.{Ends}
use Rattle.scaled_plane.specs.declared.drawing.Face.{Face}
use Rattle.fold_commands.specs.Frames.{HasShortTexts}
use Rattle.fold_commands.specs.Repairs.{HasEnds, HaveDrawing, LacksEnds, faces_of}
use Rattle.fold_commands.specs.Status.{of_input}
use Rattle.fold_commands.specs.Steps.{IsStop}
use Rattle.fold_commands.specs.declared.given.Given.TheVariants as given
use Rattle.fold_commands.specs.declared.status.Status.{Status}
use Rattle.fold_commands.specs.declared.status.Status.TheVariants.{Memory}
use Rattle.fold_commands.specs.declared.words.RepairOptions.{RepairOptions}

-- the status is want of memory, or one with which a step may stop, as it does
abbrev pub Stops : (Status → Type 0) → Status → Type 0
Stops stops status = (status ≡ Memory) ⊎ (IsStop status × stops status)

-- ---- lines

same_fault : {T : Type 0} (e f : InputFault) → (let r : Result T InputFault = Err e in r ≡ Err f) → e ≡ f
same_fault e f same = cc

module _ {N : Type 0} (k : ℕ) (parts : N → Parts) (row : Row) (lines : List CpLine) where
  abbrev Refuses : InputFault → Type 0
  Refuses fault =
      (length lines ≤ 2048 → ReadsEnds k parts row lines (Err fault))
      → (let r : Result (Ends N) InputFault = Err fault in 2048 < length lines → r ≡ Err (faults.TooMany Segments))
      → Stops (LacksEnds k parts row (given.Lines lines)) (of_input fault)

  pub lines_stop : (fault : InputFault) → Refuses fault
  lines_stop (faults.Unread vertex axis cause) few many = elim (cases_lt 2048 (length lines)) [
    | inl more ↦ let no = many more in cc
    | inr less ↦ inr (tt, (faults.Unread vertex axis cause, inr (less, (vertex, axis, cause, refl, few less)), refl))
  ]
  lines_stop (faults.TooMany what) few many = elim (cases_lt 2048 (length lines)) [
    | inl more ↦ let same : faults.TooMany what ≡ faults.TooMany Segments = same_fault (faults.TooMany what) (faults.TooMany Segments) (many more) in inr (tt, (faults.TooMany what, inl (more, same), refl))
    | inr less ↦ absurd (few less)
  ]
  lines_stop (faults.Memory e) few many = inl refl
  lines_stop (faults.Missing key) few many = elim (cases_lt 2048 (length lines)) [
    | inl more ↦ let no = many more in cc
    | inr less ↦ absurd (few less)
  ]
  lines_stop (faults.NotFlat vertex) few many = elim (cases_lt 2048 (length lines)) [
    | inl more ↦ let no = many more in cc
    | inr less ↦ absurd (few less)
  ]
  lines_stop (faults.Stale vertex) few many = elim (cases_lt 2048 (length lines)) [
    | inl more ↦ let no = many more in cc
    | inr less ↦ absurd (few less)
  ]

-- ---- frames, where they are read

module _ {N : Type 0} (k : ℕ) (parts : N → Parts) (row : Row) (frame : FrameInEffect) where
  pub frame_stops : (fault : InputFault)
      → (let r : Result (Ends N × List Face) InputFault = Err fault in ReadsFrame k parts row false frame.entries r)
      → Stops (LacksEnds k parts row (given.Frame frame)) (of_input fault)
  frame_stops (faults.Missing key) h = inr (tt, (faults.Missing key, h, refl))
  frame_stops (faults.TooMany what) h = inr (tt, (faults.TooMany what, h, refl))
  frame_stops (faults.NotFlat vertex) h = inr (tt, (faults.NotFlat vertex, h, refl))
  frame_stops (faults.Unread vertex axis cause) h = inr (tt, (faults.Unread vertex axis cause, h, refl))
  frame_stops (faults.Stale vertex) h = inr (tt, (faults.Stale vertex, h, refl))
  frame_stops (faults.Memory e) h = inl refl

module _ {N : Type 0} (k : ℕ) (parts : N → Parts) (row : Row) (lines : List CpLine) (ends : Ends N) where
  pub lines_go : (length lines ≤ 2048 → ReadsEnds k parts row lines (Ok ends))
      → (let r : Result (Ends N) InputFault = Ok ends in 2048 < length lines → r ≡ Err (faults.TooMany Segments))
      → HasEnds k parts row (given.Lines lines) ends
  lines_go few many = elim (cases_lt 2048 (length lines)) [
    | inl more ↦ let no = many more in cc
    | inr less ↦ (less, few less)
  ]

  pub few_of_lines : (length lines ≤ 2048 → ReadsEnds k parts row lines (Ok ends))
      → (let r : Result (Ends N) InputFault = Ok ends in 2048 < length lines → r ≡ Err (faults.TooMany Segments))
      → IsWithin lines ends → length ends.coords < 2 ^ 32
  few_of_lines few many within = let count = (lines_go few many).0 in let most = within.vertices in omega (arith, count, most)

  pub few_edges_of_lines : (length lines ≤ 2048 → ReadsEnds k parts row lines (Ok ends))
      → (let r : Result (Ends N) InputFault = Ok ends in 2048 < length lines → r ≡ Err (faults.TooMany Segments))
      → IsWithin lines ends → length ends.edges ≤ 2048
  few_edges_of_lines few many within =
      let count = (lines_go few many).0 in let same = within.edges in omega (arith, count, same)

in_range : {X : Type 0} (vertices : List X) (edges : List Edge)
    → AllByRecursion (IsEdgeWithin (length vertices)) edges → AreInRange vertices edges
in_range vertices edges each =
    All-from_recursion (λ e. (e.from < length vertices) × (e.to < length vertices)) edges each

pub in_range_of_lines : {N : Type 0} (lines : List CpLine) (ends : Ends N) → IsWithin lines ends
    → AreInRange ends.coords ends.edges
in_range_of_lines lines ends within = in_range ends.coords ends.edges within.each

pub in_range_of_frame : {N : Type 0} (ends : Ends N) (faces : List Face) → AreWithin (ends, faces)
    → AreInRange ends.coords ends.edges
in_range_of_frame ends faces within = in_range ends.coords ends.edges within.each_edge

-- ---- the drawing

module _ {N W : Type 0} {root : ℕ} {surd : W → Surd ℤ} (k : ℕ) (parts : N → Parts)
    (numbers : SurdNumbers root surd) (options : RepairOptions) (ends : Ends N) where
  pub drawing_goes : (faces : Faces) → faces ≡ faces_of options → (answer : Repaired N)
      → IsRepaired parts numbers options.flat ends faces answer
      → HasBoundedRegions parts numbers options.flat ends answer
      → HaveDrawing k parts numbers options ends answer
  drawing_goes faces asked answer is regions =
      (subst (λ f. IsRepaired parts numbers options.flat ends f answer) asked is, regions)

-- ---- frames

shorter : (most : ℕ) → most ≤ 16777216 → (texts : List (List ℕ)) → AllByRecursion (λ text. length text ≤ most) texts
    → IsReadablePoint texts
shorter most few [] short = tt
shorter most few (text ∷ texts) short = (let s = short.0 in omega (arith, s, few), shorter most few texts short.1)

readable_points : (most : ℕ) → most ≤ 16777216 → (points : List (List (List ℕ)))
    → AllByRecursion (AllByRecursion (λ text. length text ≤ most)) points → AllByRecursion IsReadablePoint points
readable_points most few [] short = tt
readable_points most few (point ∷ points) short =
    (shorter most few point short.0, readable_points most few points short.1)

-- the texts of a frame's coordinates are short enough to be read by their values
pub readable : (file : FoldFile) (k : ℕ) (frame : FrameInEffect) → IsEffective file.frames k frame
    → HasShortTexts (tree_of_file file)
    → ((most : ℕ) → HasLengthsUpTo most (tree_of_file file) → (points : List (List (List ℕ)))
    → value_at frame.entries (codes "vertices_coords") ≡ Some (values.Coords points)
    → AllByRecursion (AllByRecursion (λ text. length text ≤ most)) points)
    → AllByRecursion IsReadablePoint (points_of frame.entries)
readable file k frame is short law = at (value_at frame.entries (codes "vertices_coords")) refl
  where
    at : (o : Option Value) → value_at frame.entries (codes "vertices_coords") ≡ o
        → AllByRecursion IsReadablePoint (points_in o)
    at None e = tt
    at (Some (values.Coords points)) e =
        readable_points short.0 short.1 points (law short.0 short.2 points e)
    at (Some value) e = tt
