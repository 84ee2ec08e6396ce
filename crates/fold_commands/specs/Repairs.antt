-- what `repair` makes of what it read: a drawing as vertices, pieces and faces
use Rattle.std.specs.Prelude.{◌≡◌, ◌⊎◌, ℕ, ℤ, ◌<◌, ◌≤◌, List, [], ◌∷◌, ◌==◌, length, codes, Bool, true, false, Option, Some, None, IfSome}
use Rattle.std.specs.List.{AllByRecursion, flat_map, position_or_len}
use Rattle.algebra.specs.LowestTerms.{Parts}
use Rattle.algebra.specs.Surd.{Surd}
use Rattle.algebra.specs.WholeSurds.{SurdNumbers}
use Rattle.cp_lines.specs.Print as cp_form
use Rattle.crease_input.specs.Files.{AreDrawingLines}
use Rattle.crease_input.specs.Frames.{IsReadablePoint}
use Rattle.crease_input.specs.Lines.{IsReadable}
use Rattle.crease_input.specs.Readings.{HasDrawing, HasNoDrawing, HaveEnds, HaveUnread}
use Rattle.crease_input.specs.Roots.{root_of}
use Rattle.crease_input.specs.declared.fault.Counted.TheVariants.{Segments}
use Rattle.crease_input.specs.declared.fault.InputFault.{InputFault}
use Rattle.crease_input.specs.declared.fault.InputFault.TheVariants as faults
use Rattle.drawing_repair.specs.Repaired.{HasBoundedRegions, IsRefusal, IsRepaired}
use Rattle.drawing_repair.specs.declared.answer.Repaired.{Repaired}
use Rattle.drawing_repair.specs.declared.answer.RepairFault.{RepairFault}
use Rattle.drawing_repair.specs.declared.answer.RepairFault.TheVariants.{TooWide}
use Rattle.drawing_repair.specs.declared.answer.Stage.{Stage}
use Rattle.drawing_repair.specs.declared.answer.Stage.TheVariants.{Input as OfInput}
use Rattle.drawing_repair.specs.declared.options.Faces.{Faces}
use Rattle.drawing_repair.specs.declared.options.Faces.TheVariants.{Skip}
use Rattle.fold_frames.specs.Answers.{IsEffective}
use Rattle.fold_frames.specs.Counts.{misfit_in_effect}
use Rattle.fold_frames.specs.Effects.{FrameInEffect}
use Rattle.fold_keys.specs.declared.value.FoldFile.{FoldFile}
use Rattle.frame_lines.specs.Lines.{points_of}
use Rattle.json_tree.specs.declared.tree.Json.{Json}
use Rattle.number_rules.specs.OneReading.{IsRow}
use Rattle.number_rules.specs.declared.unread.Row.{Row}
use Rattle.number_rules.specs.declared.unread.Row.TheVariants as rows
use Rattle.rational.specs.Rationals.{rational_parts}
use Rattle.rational.specs.WholeNumbers as rationals
use Rattle.scaled_plane.specs.declared.drawing.Edge.{Edge}
use Rattle.scaled_plane.specs.declared.drawing.Ends.{Ends}
use Rattle.scaled_plane.specs.declared.drawing.Face.{Face}
use Rattle.fold_commands.specs.Drawings.{NeverStops, WritesFile}
use Rattle.fold_commands.specs.Fields.{parts_over_three, parts_over_two, whole_over_three, whole_over_two}
use Rattle.fold_commands.specs.Frames.{HasCounts, HasMisfit, HasNoFrame, HasUnevenLists, IsReadFrom}
use Rattle.fold_commands.specs.Status.{of_input, of_repair}
use Rattle.fold_commands.specs.Steps.{Answers, IsOne, Outcome, Then}
use Rattle.fold_commands.specs.declared.given.Given.{Given}
use Rattle.fold_commands.specs.declared.given.Given.TheVariants as given
use Rattle.fold_commands.specs.declared.input.Input.{Input}
use Rattle.fold_commands.specs.declared.input.Input.TheVariants as input
use Rattle.fold_commands.specs.declared.number_option.NumberChoice.{NumberChoice}
use Rattle.fold_commands.specs.declared.number_option.NumberChoice.TheVariants.{Exact, Grid, RootTwo, RootThree}
use Rattle.fold_commands.specs.declared.status.Status.{Status}
use Rattle.fold_commands.specs.declared.words.Format.{Format}
use Rattle.fold_commands.specs.declared.words.Format.TheVariants.{Fold, Cp}
use Rattle.fold_commands.specs.declared.words.RepairOptions.{RepairOptions}

-- ---- vertices and edges

module _ {N : Type 0} (k : ℕ) (parts : N → Parts) (row : Row) where
  -- what was read has no vertices and edges, for this cause: there are more lines than are computed
  -- with, or a coordinate isn't read; or what a frame lacks
  abbrev pub HasNoEnds : Given → InputFault → Type 0
  HasNoEnds (given.Lines lines) fault =
      ((2048 < length lines) × (fault ≡ faults.TooMany Segments))
      ⊎ ((length lines ≤ 2048) × HaveUnread k parts row lines fault)
  HasNoEnds (given.Frame frame) fault = HasNoDrawing k parts row false frame.entries fault

  -- and the status names why
  abbrev pub LacksEnds : Given → Status → Type 0
  LacksEnds read status =
      (fault : InputFault) × HasNoEnds read fault × (status ≡ of_input fault)

  -- these are the vertices and edges of what was read
  abbrev pub HasEnds : Given → Ends N → Type 0
  HasEnds (given.Lines lines) ends =
      (length lines ≤ 2048) × HaveEnds k parts row lines ends
  HasEnds (given.Frame frame) ends =
      (faces : List Face) × HasDrawing k parts row false frame.entries (ends, faces)

-- ---- what is written

module _ {N : Type 0} (k : ℕ) (parts : N → Parts) where
  -- a line for each edge
  abbrev pub WritesEdges : Ends N → Outcome
  WritesEdges ends =
      Then NeverStops (AreDrawingLines k parts ends) (λ lines. Answers (cp_form.printed_form lines))

  -- a repaired drawing, as a file or as lines
  abbrev pub WritesRepaired : Format → Repaired N → Outcome
  WritesRepaired Fold answer =
      WritesFile k parts (codes "creasePattern") answer.ends answer.faces None
  WritesRepaired Cp answer = WritesEdges answer.ends

-- ---- the drawing

-- faces are looked for where they are written
abbrev pub faces_for : Format → Faces → Faces
faces_for Fold faces = faces
faces_for Cp faces = Skip

abbrev pub faces_of : RepairOptions → Faces
faces_of options = faces_for options.to options.faces

-- the number of the first end that is this vertex: edge i has the ends 2 i and 2 i + 1
abbrev pub end_of : List Edge → ℕ → ℕ
end_of edges vertex =
    position_or_len (λ v. v == vertex) (flat_map (λ e. e.from ∷ e.to ∷ []) edges)

-- a vertex of lines is told by its first end, while their coordinates are still those that were given
abbrev pub name_in : Given → List Edge → Stage → ℕ → ℕ
name_in (given.Lines lines) edges OfInput vertex = end_of edges vertex
name_in read edges stage vertex = vertex

abbrev pub named_by : Given → List Edge → RepairFault → RepairFault
named_by read edges (TooWide vertex stage) = TooWide (name_in read edges stage vertex) stage
named_by read edges fault = fault

module _ {N W : Type 0} {root : ℕ} {surd : W → Surd ℤ} (k : ℕ) (parts : N → Parts)
    (numbers : SurdNumbers root surd) (options : RepairOptions) where
  -- the segments have no drawing, and the status names why
  abbrev pub LackDrawing : Given → Ends N → Status → Type 0
  LackDrawing read ends status =
      (fault : RepairFault)
      × IsRefusal parts numbers options.flat ends (faces_of options) fault
      × (status ≡ of_repair (named_by read ends.edges fault))

  -- this is their drawing; the faces that are looked for are its bounded regions
  abbrev pub HaveDrawing : Ends N → Repaired N → Type 0
  HaveDrawing ends answer =
      IsRepaired parts numbers options.flat ends (faces_of options) answer
      × HasBoundedRegions parts numbers options.flat ends answer

  -- the segments between ends become a drawing, which is written
  abbrev pub RepairsEnds : Given → Ends N → Outcome
  RepairsEnds read ends =
      Then (LackDrawing read ends) (HaveDrawing ends) (WritesRepaired k parts options.to)

  -- what was read is read by a row of the table of rules
  abbrev pub RepairsRead : Row → Given → Outcome
  RepairsRead row read =
      Then (LacksEnds k parts row read) (HasEnds k parts row read) (RepairsEnds read)

-- what was read is repaired in one way at most, by each row
abbrev pub IsRepairedOnce : {N W : Type 0} {root : ℕ} {surd : W → Surd ℤ} (k : ℕ) (parts : N → Parts)
    → SurdNumbers root surd → Type 0
IsRepairedOnce k parts numbers =
    (options : RepairOptions) (row : Row) → IsRow k row → (read : Given)
    → IsOne (RepairsRead k parts numbers options row read)

-- ---- the numbers

-- the same by each choice of numbers
abbrev pub RepairsBy : NumberChoice → RepairOptions → Given → Outcome
RepairsBy Exact options =
    RepairsRead 1 rational_parts rationals.whole_numbers options rows.Exact
RepairsBy (Grid n) options =
    RepairsRead 1 rational_parts rationals.whole_numbers options (rows.Grid n.value)
RepairsBy (RootTwo n) options =
    RepairsRead 2 parts_over_two whole_over_two options (rows.Root n.value)
RepairsBy (RootThree n) options =
    RepairsRead 3 parts_over_three whole_over_three options (rows.Root n.value)

-- exact texts, over √3 or else over √2, are read as they stand, and no rule reads them
abbrev pub RepairsExact : Bool → RepairOptions → Given → Outcome
RepairsExact true options =
    RepairsRead 3 parts_over_three whole_over_three options rows.Exact
RepairsExact false options = RepairsRead 2 parts_over_two whole_over_two options rows.Exact

abbrev pub RepairsOver : ℕ → RepairOptions → Given → Outcome
RepairsOver root options = RepairsExact (root == 3) options

abbrev pub RepairsWith : Option ℕ → RepairOptions → Given → Outcome
RepairsWith None options = RepairsBy options.number options
RepairsWith (Some root) options = RepairsOver root options

-- ---- from the input on

-- an effective frame is refused where its lists don't agree
abbrev pub RepairsFrame : RepairOptions → FrameInEffect → Outcome
RepairsFrame options frame =
    Then (HasUnevenLists frame) (HasCounts frame)
    (λ counts. RepairsWith (root_of frame.entries) options (given.Frame frame))

-- the frame with this number, if there is one
abbrev pub RepairsFile : RepairOptions → FoldFile → Outcome
RepairsFile options file =
    Then (HasNoFrame file options.frame) (IsEffective file.frames options.frame)
    (RepairsFrame options)

-- a tree is refused at its first misfit
abbrev pub RepairsTree : RepairOptions → Json → Outcome
RepairsTree options tree = Then (HasMisfit tree) (IsReadFrom tree) (RepairsFile options)

abbrev pub Repairs : RepairOptions → Input → Outcome
Repairs options (input.Fold tree) = RepairsTree options tree
Repairs options (input.Cp lines) = RepairsBy options.number options (given.Lines lines)

-- ---- what reading asks for

-- what was read can be read as numbers over √k: each text is short enough to be read by its value,
-- and a frame's lists agree and its exact texts, where it has any, are over that root
abbrev pub IsReadyAt : ℕ → Given → Type 0
IsReadyAt k (given.Lines lines) = AllByRecursion IsReadable lines
IsReadyAt k (given.Frame frame) =
    (misfit_in_effect frame ≡ None) × IfSome (root_of frame.entries) (λ root. root ≡ k)
    × AllByRecursion IsReadablePoint (points_of frame.entries)
