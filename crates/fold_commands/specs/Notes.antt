-- what is said of a status
use Rattle.std.specs.Prelude.{◌≡◌, ◌⊎◌, ℕ, List, [], ◌∷◌, ◌++◌, codes}
use Rattle.std.specs.Fmt.{decimal}
use Rattle.std.specs.declared.option.Option.{Option}
use Rattle.std.specs.declared.option.Option.TheVariants.{None, Some}
use Rattle.fold_base.specs.Outside.{Gains, Rose}
use Rattle.fold_commands.specs.Crossings.{no_message}
use Rattle.fold_commands.specs.Status.{IsAnswer}
use Rattle.cp_lines.specs.FaultText as cp
use Rattle.json_read.specs.FaultText as json
use Rattle.fold_keys.specs.FaultText as keys
use Rattle.fold_commands.specs.declared.status.Status.{Status}
use Rattle.fold_commands.specs.declared.status.Status.TheVariants.{Done, No, Text, Shape, Sheet, Number, Words}
use Rattle.fold_commands.specs.declared.status.Status.TheVariants.{Read, Write, Limit, Memory}
use Rattle.fold_commands.specs.declared.status.TextFault.{TextFault}
use Rattle.fold_commands.specs.declared.status.TextFault.TheVariants.{Json, Cp}
use Rattle.fold_commands.specs.declared.status.ShapeCause.{ShapeCause}
use Rattle.fold_commands.specs.declared.status.ShapeCause.TheVariants.{Key, NoFrame, ParentRange, ParentLoop, OrdersDiffer, NotFlat, Stale}
use Rattle.fold_commands.specs.declared.status.SheetCause.{SheetCause}
use Rattle.fold_commands.specs.declared.status.NumberCause.{NumberCause}
use Rattle.fold_commands.specs.declared.status.NumberCause.TheVariants.{NumberPast, TooWide, Unread}
use Rattle.crease_input.specs.declared.fault.Axis.{Axis}
use Rattle.crease_input.specs.declared.fault.Axis.TheVariants.{X, Y}
use Rattle.crease_input.specs.declared.fault.Counted.{Counted}
use Rattle.crease_input.specs.declared.fault.Counted.TheVariants.{Faces, Segments, Vertices}
use Rattle.fold_commands.specs.declared.status.Stage.{Stage}
use Rattle.fold_commands.specs.declared.status.Stage.TheVariants.{Drawn, Folded, Input}
use Rattle.number_rules.specs.declared.unread.Unread.{Unread as UnreadCause}
use Rattle.number_rules.specs.declared.unread.Unread.TheVariants.{Far, Fine, NoRoot, ExactText}
use Rattle.fold_commands.specs.declared.status.SheetCause.TheVariants.{Check, Missing, NoOrder, OrderClash}
use Rattle.scaled_plane.specs.declared.sheet.SheetFlaw.{SheetFlaw}
use Rattle.scaled_plane.specs.declared.sheet.SheetFlaw.TheVariants.{SameVertex, Loose, NotPlane, Parted, EmptySheet, FaceWrong, FaceMissing, NotConvex, BorderWrong, Pinched, Severed}
use Rattle.fold_commands.specs.declared.status.WordsCause.{WordsCause}
use Rattle.fold_commands.specs.declared.status.WordsCause.TheVariants.{Refused, Value}
use Rattle.fold_commands.specs.declared.status.Limit.{Limit as AnyLimit}
use Rattle.fold_commands.specs.declared.status.Limit.TheVariants.{TooLong, TooMany}

-- what is said of a text that isn't of its format
abbrev pub text_message : TextFault → List ℕ
text_message (Json fault) = json.fault_text fault
text_message (Cp fault) = cp.fault_text fault

-- what is said of what isn't as the command asks for
abbrev pub shape_message : ShapeCause → List ℕ
shape_message (Key fault) = keys.fault_text fault
shape_message (NoFrame frame) = codes "no frame " ++ decimal frame
shape_message (ParentRange frame) = codes "parent range " ++ decimal frame
shape_message (ParentLoop frame) = codes "parent loop " ++ decimal frame
shape_message OrdersDiffer = codes "orders differ"
shape_message (NotFlat vertex) = codes "not flat " ++ decimal vertex
shape_message (Stale vertex) = codes "stale " ++ decimal vertex

-- what is said of what keeps a drawing from being a sheet
abbrev pub flaw_message : SheetFlaw → List ℕ
flaw_message (SameVertex low high) =
    codes "same vertex " ++ decimal low ++ codes " " ++ decimal high
flaw_message (Loose vertex) = codes "loose " ++ decimal vertex
flaw_message (NotPlane low high) =
    codes "not plane " ++ decimal low ++ codes " " ++ decimal high
flaw_message (Parted vertex) = codes "parted " ++ decimal vertex
flaw_message EmptySheet = codes "empty sheet"
flaw_message (FaceWrong face) = codes "face wrong " ++ decimal face
flaw_message (FaceMissing from to) =
    codes "face missing " ++ decimal from ++ codes " " ++ decimal to
flaw_message (NotConvex face vertex) =
    codes "not convex " ++ decimal face ++ codes " " ++ decimal vertex
flaw_message (BorderWrong edge) = codes "border wrong " ++ decimal edge
flaw_message (Pinched vertex) = codes "pinched " ++ decimal vertex
flaw_message (Severed face) = codes "severed " ++ decimal face

-- what is said of a frame that is no sheet
abbrev pub sheet_message : SheetCause → List ℕ
sheet_message (Missing key) = codes "missing " ++ key
sheet_message (Check flaw) = flaw_message flaw
sheet_message (OrderClash first second) =
    codes "order clash " ++ decimal first ++ codes " " ++ decimal second
sheet_message (NoOrder low high) = codes "no order " ++ decimal low ++ codes " " ++ decimal high

-- why a coordinate isn't read
abbrev pub unread_words : UnreadCause → List ℕ
unread_words Far = codes "far"
unread_words Fine = codes "fine"
unread_words NoRoot = codes "no root"
unread_words ExactText = codes "exact text"

abbrev pub axis_name : Axis → List ℕ
axis_name X = codes "x"
axis_name Y = codes "y"

-- which coordinates are too wide
abbrev pub stage_name : Stage → List ℕ
stage_name Input = codes "input"
stage_name Drawn = codes "drawn"
stage_name Folded = codes "folded"

-- what is said of numbers that can't be computed with
abbrev pub number_message : NumberCause → List ℕ
number_message (Unread vertex axis cause) =
    codes "unread " ++ decimal vertex ++ codes " " ++ axis_name axis ++ codes ": " ++ unread_words cause
number_message (TooWide vertex stage) = codes "too wide " ++ decimal vertex ++ codes " " ++ stage_name stage
number_message (NumberPast face None) = codes "number past face " ++ decimal face
number_message (NumberPast face (Some vertex)) =
    codes "number past face " ++ decimal face ++ codes " vertex " ++ decimal vertex

-- what is said of words that are refused
abbrev pub words_message : WordsCause → List ℕ
words_message Refused = codes "words refused"
words_message Value = codes "words value"

abbrev pub counted_name : Counted → List ℕ
counted_name Vertices = codes "vertices"
counted_name Segments = codes "segments"
counted_name Faces = codes "faces"

-- what is said of input that is past a limit
abbrev pub limit_message : AnyLimit → List ℕ
limit_message TooLong = codes "too long"
limit_message (TooMany what) = codes "too many " ++ counted_name what

-- what is said of a status; of an answer nothing is put
abbrev pub message : Status → List ℕ
message Done = codes "done"
message (No cause) = no_message cause
message (Text fault) = text_message fault
message (Shape cause) = shape_message cause
message (Sheet cause) = sheet_message cause
message (Number cause) = number_message cause
message (Words cause) = words_message cause
message Read = codes "read failed"
message Write = codes "write failed"
message (Limit limit) = limit_message limit
message Memory = codes "memory"

-- the line on a status
abbrev pub note_line : Status → List ℕ
note_line status = codes "fold_program: " ++ message status ++ 10 ∷ []

-- these bytes were gained, or a front of them
abbrev pub GainsFront : Option (List ℕ) → Option (List ℕ) → List ℕ → Type 0
GainsFront before after bytes =
    (front : List ℕ) × (rest : List ℕ) × (bytes ≡ front ++ rest) × Gains before after front

-- notes get at most the line on the status, and nothing on an answer; where they don't fail, they
-- get it whole or nothing of it
pub record IsNoted {E : Type 0} (written : E → Option (List ℕ)) (faults : E → ℕ) (old new : E)
    (status : Status) : Type 0 where
  pub quiet : IsAnswer status → new ≡ old
  pub line : GainsFront (written old) (written new) (note_line status)
  pub whole : ¬ (Rose (faults old) (faults new))
      → (new ≡ old) ⊎ Gains (written old) (written new) (note_line status)
