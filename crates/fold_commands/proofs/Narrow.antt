-- from the outcome of `repair` to the coordinates of a drawing that is too wide to write
use Rattle.std.proofs.Common.{◌≡◌, ℕ, ℤ, List, Bool, true, false, inl, inr, refl, subst, Option, Some, None}
use Rattle.std.specs.Prelude.{◌==◌}
use Rattle.algebra.specs.LowestTerms.{Parts}
use Rattle.algebra.specs.Surd.{Surd}
use Rattle.algebra.specs.WholeSurds.{SurdNumbers}
use Rattle.scaled_plane.specs.declared.drawing.Edge.{Edge}
use Rattle.scaled_plane.specs.declared.drawing.Ends.{Ends}
use Rattle.crease_input.specs.Roots.{root_of}
use Rattle.crease_input.specs.declared.fault.InputFault.{InputFault}
use Rattle.crease_input.specs.declared.fault.InputFault.TheVariants as faults
use Rattle.drawing_repair.specs.Narrow.{AreNarrow}
use Rattle.drawing_repair.specs.Repaired.{IsRefusal}
use Rattle.drawing_repair.specs.declared.answer.Repaired.{Repaired}
use Rattle.drawing_repair.specs.declared.answer.RepairFault.{RepairFault}
use Rattle.drawing_repair.specs.declared.answer.RepairFault.TheVariants as drawing
use Rattle.drawing_repair.specs.declared.answer.Stage.TheVariants as repairing
use Rattle.fold_frames.specs.Answers.{IsEffective}
use Rattle.fold_frames.specs.declared.fault.FrameFault.{FrameFault}
use Rattle.fold_frames.specs.declared.fault.FrameFault.TheVariants as frames
use Rattle.number_rules.specs.declared.unread.Row.{Row}
use Rattle.number_rules.specs.declared.unread.Row.TheVariants as rows
use Rattle.rational.specs.Rationals.{rational_parts}
use Rattle.rational.specs.WholeNumbers as rationals
use Rattle.fold_commands.specs.Fields.{parts_over_three, parts_over_two, whole_over_three, whole_over_two}
use Rattle.fold_commands.specs.Frames.{HasCounts, HasMisfit, HasNoFrame, HasUnevenLists, IsReadFrom}
use Rattle.fold_commands.specs.Narrow.{HasWide, HasWideBy, HasWideCoordinates, HasWideExact, HasWideWith, HasWritableVertices, NarrowVerticesAreWritable, RefusesNoNarrow}
use Rattle.fold_commands.specs.Outcome.{AreRead, AreUnread, Does, HasOutcome, IsOutcome}
use Rattle.fold_commands.specs.Repairs.{HasEnds, LacksEnds, Repairs, RepairsBy, RepairsEnds, RepairsExact, RepairsFile, RepairsFrame, RepairsRead, RepairsWith, WritesRepaired, faces_of, named_by}
use Rattle.fold_commands.specs.Status.{IsFailure, of_frame, of_input, of_repair}
use Rattle.fold_commands.specs.Words.{AreRefused, AreWordsOf}
use Rattle.fold_commands.specs.declared.given.Given.{Given}
use Rattle.fold_commands.specs.declared.given.Given.TheVariants as given
use Rattle.fold_commands.specs.declared.input.Input.{Input}
use Rattle.fold_commands.specs.declared.input.Input.TheVariants as input
use Rattle.fold_commands.specs.declared.number_option.NumberChoice.{NumberChoice}
use Rattle.fold_commands.specs.declared.number_option.NumberChoice.TheVariants.{Exact, Grid, RootTwo, RootThree}
use Rattle.fold_commands.specs.declared.status.NumberCause.TheVariants.{TooWide}
use Rattle.fold_commands.specs.declared.status.Stage.TheVariants.{Drawn}
use Rattle.fold_commands.specs.declared.status.Status.{Status}
use Rattle.fold_commands.specs.declared.status.Status.TheVariants.{Number}
use Rattle.fold_commands.specs.declared.words.Command.TheVariants.{Repair}
use Rattle.fold_commands.specs.declared.words.Format.{Format}
use Rattle.fold_commands.specs.declared.words.Format.TheVariants.{Fold, Cp}
use Rattle.fold_commands.specs.declared.words.RepairOptions.{RepairOptions}
use Rattle.fold_commands.proofs.Decide.{one_command, refused_words}
use Rattle.fold_commands.proofs.Regions.{went_past}

abbrev wide : ℕ → Status
wide vertex = Number (TooWide vertex Drawn)

-- ---- nothing else has this status

input_apart : (fault : InputFault) (vertex : ℕ) → ¬ (wide vertex ≡ of_input fault)
input_apart (faults.TooMany what) vertex e = cc
input_apart (faults.Unread v axis cause) vertex e = cc
input_apart (faults.Missing key) vertex e = cc
input_apart (faults.NotFlat v) vertex e = cc
input_apart (faults.Stale v) vertex e = cc
input_apart (faults.Memory error) vertex e = cc

frame_apart : (fault : FrameFault) (vertex : ℕ) → ¬ (wide vertex ≡ of_frame fault)
frame_apart (frames.NoFrame frame) vertex e = cc
frame_apart (frames.ParentRange frame) vertex e = cc
frame_apart (frames.ParentLoop frame) vertex e = cc
frame_apart (frames.Memory error) vertex e = cc

unread_apart : (format : Format) (bytes : List ℕ) (vertex : ℕ) → ¬ AreUnread format bytes (wide vertex)
unread_apart format bytes vertex (inl many) = let e = many.1 in cc
unread_apart Fold bytes vertex (inr fault) = let e = fault.1.2 in cc
unread_apart Cp bytes vertex (inr fault) = let e = fault.1.2 in cc

refused_apart : (words : List (List ℕ)) (vertex : ℕ) → ¬ AreRefused words (wide vertex)
refused_apart words vertex refused = elim (refused_words words (wide vertex) refused) [ inl e ↦ cc | inr e ↦ cc ]

-- it names a vertex of the drawing that is too wide
fault_is : (read : Given) (edges : List Edge) (fault : RepairFault) (vertex : ℕ) → wide vertex ≡ of_repair (named_by read edges fault)
    → (v : ℕ) × (fault ≡ drawing.TooWide v repairing.Drawn)
fault_is read edges (drawing.TooWide v repairing.Input) vertex e = absurd (cc)
fault_is read edges (drawing.TooWide v repairing.Drawn) vertex e = (v, refl)
fault_is read edges drawing.TooMany vertex e = absurd (cc)
fault_is read edges (drawing.Parted v) vertex e = absurd (cc)
fault_is read edges (drawing.Memory error) vertex e = absurd (cc)

module _ {N W : Type 0} {root : ℕ} {surd : W → Surd ℤ} (k : ℕ) (parts : N → Parts)
    (numbers : SurdNumbers root surd) (options : RepairOptions) (vertex : ℕ) (text : List ℕ) where
  written_apart : (to : Format) (answer : Repaired N) → ¬ WritesRepaired k parts to answer (wide vertex) text
  written_apart Fold answer (inl never) = never.0
  written_apart Fold answer (inr shows) = let e = shows.2.0 in cc
  written_apart Cp answer (inl never) = never.0
  written_apart Cp answer (inr shows) = let e = shows.2.0 in cc

  -- what can be written isn't refused with it
  never_wide : (read : Given) (ends : Ends N) → HasWritableVertices parts numbers ends → ¬ RepairsEnds k parts numbers options read ends (wide vertex) text
  never_wide read ends writable (inl stop) =
      let v = fault_is read ends.edges stop.0.0 vertex stop.0.2 in
      writable options.flat (faces_of options) v.0 (subst (IsRefusal parts numbers options.flat ends (faces_of options)) v.1 stop.0.1)
  never_wide read ends writable (inr drawn) = written_apart options.to drawn.0 drawn.2

  ends_read : (row : Row) (read : Given) → RepairsRead k parts numbers options row read (wide vertex) text
      → (ends : Ends N) × HasEnds k parts row read ends × RepairsEnds k parts numbers options read ends (wide vertex) text
  ends_read row read h =
      went_past (LacksEnds k parts row read) (HasEnds k parts row read) (RepairsEnds k parts numbers options read) (wide vertex) text (λ stop. input_apart stop.0 vertex stop.2) h

  read_never : ((ends : Ends N) → HasWritableVertices parts numbers ends) → (row : Row) (read : Given) → ¬ RepairsRead k parts numbers options row read (wide vertex) text
  read_never writable row read h = let ends = ends_read row read h in never_wide read ends.0 (writable ends.0) ends.2

  read_wide : ((ends : Ends N) → AreNarrow parts ends.coords → HasWritableVertices parts numbers ends) → (row : Row) (read : Given)
      → RepairsRead k parts numbers options row read (wide vertex) text → HasWide k parts row read
  read_wide writable row read h =
      let ends = ends_read row read h in (ends.0, ends.1, λ narrow. never_wide read ends.0 (writable ends.0 narrow) ends.2)

module _ (writable : NarrowVerticesAreWritable) (options : RepairOptions) (vertex : ℕ) (text : List ℕ) where
  by_choice : (read : Given) (choice : NumberChoice) → RepairsBy choice options read (wide vertex) text → HasWideBy choice read
  by_choice read Exact h = read_never 1 rational_parts rationals.whole_numbers options vertex text writable.rational rows.Exact read h
  by_choice read (Grid n) h = read_never 1 rational_parts rationals.whole_numbers options vertex text writable.rational (rows.Grid n.value) read h
  by_choice read (RootTwo n) h = read_wide 2 parts_over_two whole_over_two options vertex text writable.over_two (rows.Root n.value) read h
  by_choice read (RootThree n) h = read_wide 3 parts_over_three whole_over_three options vertex text writable.over_three (rows.Root n.value) read h

  by_root : (read : Given) (b : Bool) → RepairsExact b options read (wide vertex) text → HasWideExact b read
  by_root read true h = read_wide 3 parts_over_three whole_over_three options vertex text writable.over_three rows.Exact read h
  by_root read false h = read_wide 2 parts_over_two whole_over_two options vertex text writable.over_two rows.Exact read h

  by_texts : (read : Given) (o : Option ℕ) → RepairsWith o options read (wide vertex) text → HasWideWith o options.number read
  by_texts read None h = by_choice read options.number h
  by_texts read (Some root) h = by_root read (root == 3) h

  of_input_read : (spelled : Input) → Repairs options spelled (wide vertex) text → HasWideCoordinates options spelled
  of_input_read (input.Cp lines) h = by_choice (given.Lines lines) options.number h
  of_input_read (input.Fold tree) h =
      let file = went_past (HasMisfit tree) (IsReadFrom tree) (RepairsFile options) (wide vertex) text (λ stop. let e = stop.2 in cc) h in
      let frame = went_past (HasNoFrame file.0 options.frame) (IsEffective file.0.frames options.frame) (RepairsFrame options) (wide vertex) text
      (λ stop. frame_apart stop.0 vertex stop.2) file.2 in
      let counts = went_past (HasUnevenLists frame.0) (HasCounts frame.0)
      (λ c. RepairsWith (root_of frame.0.entries) options (given.Frame frame.0)) (wide vertex) text (λ stop. let e = stop.2 in cc) frame.2 in
      (file.0, file.1, (frame.0, frame.1, by_texts (given.Frame frame.0) (root_of frame.0.entries) counts.2))

  of_bytes : (words : List (List ℕ)) (bytes : List ℕ) → AreWordsOf words (Repair options) → IsOutcome words bytes (wide vertex) text
      → (spelled : Input) × AreRead options.from bytes spelled × HasWideCoordinates options spelled
  of_bytes words bytes meant h =
      let command = went_past (AreRefused words) (AreWordsOf words) (λ c. Does c bytes) (wide vertex) text (refused_apart words vertex) h in
      let same : command.0 ≡ Repair options = one_command words command.0 (Repair options) command.1 meant in
      let spelled = went_past (AreUnread options.from bytes) (AreRead options.from bytes) (Repairs options) (wide vertex) text
      (unread_apart options.from bytes vertex) (subst (λ c. Does c bytes (wide vertex) text) same command.2) in
      (spelled.0, spelled.1, of_input_read spelled.0 spelled.2)

pub refuses_no_narrow : NarrowVerticesAreWritable → (words : List (List ℕ)) (left before after : Option (List ℕ)) (status : Status)
    → HasOutcome words left before after status → RefusesNoNarrow words left status
refuses_no_narrow writable words left before after status has options vertex meant is = elim has.2.0 [
  | inl failed ↦ absurd (subst IsFailure is failed)
  | inr shown ↦
      let read = of_bytes writable options vertex shown.0 words has.0 meant (subst (λ s. IsOutcome words has.0 s shown.0) is shown.1) in
      (has.0, has.1, read.0, read.1, read.2)
]
