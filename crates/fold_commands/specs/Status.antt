-- what the program ends with
use Rattle.std.specs.Prelude.{◌≡◌, ◌≢◌, ◌⊎◌, ℕ, Result, Ok, Err}
use Rattle.clap.specs.Values.{kind_of}
use Rattle.clap.specs.declared.error.Error.{Error}
use Rattle.clap.specs.declared.error.kind.ErrorKind.TheVariants.{OutOfMemory}
use Rattle.fold_base.specs.declared.pieces.ReadFault.{ReadFault}
use Rattle.fold_base.specs.declared.pieces.ReadFault.TheVariants as read
use Rattle.cp_lines.specs.declared.fault.CpReadFault.{CpReadFault}
use Rattle.cp_lines.specs.declared.fault.CpReadFault.TheVariants as cp
use Rattle.json_read.specs.declared.fault.JsonReadFault.{JsonReadFault}
use Rattle.json_read.specs.declared.fault.JsonReadFault.TheVariants as json
use Rattle.fold_frames.specs.declared.fault.FrameFault.{FrameFault}
use Rattle.fold_frames.specs.declared.fault.FrameFault.TheVariants as frames
use Rattle.frame_lines.specs.declared.fault.LinesFault.{LinesFault}
use Rattle.frame_lines.specs.declared.fault.LinesFault.TheVariants as lines
use Rattle.crease_input.specs.declared.fault.InputFault.{InputFault}
use Rattle.crease_input.specs.declared.fault.InputFault.TheVariants as input
use Rattle.crease_input.specs.declared.fault.Counted.TheVariants.{Vertices}
use Rattle.drawing_repair.specs.declared.answer.RepairFault.{RepairFault}
use Rattle.drawing_repair.specs.declared.answer.RepairFault.TheVariants as repair
use Rattle.drawing_repair.specs.declared.answer.Stage.{Stage as RepairStage}
use Rattle.drawing_repair.specs.declared.answer.Stage.TheVariants as repairing
use Rattle.folded_form.specs.declared.fault.FormFault.{FormFault}
use Rattle.folded_form.specs.declared.fault.FormFault.TheVariants as form
use Rattle.layer_judge.specs.declared.answer.JudgeFault.{JudgeFault}
use Rattle.layer_judge.specs.declared.answer.JudgeFault.TheVariants as judge
use Rattle.fold_keys.specs.declared.fault.FoldFault.{FoldFault}
use Rattle.fold_keys.specs.declared.fault.FoldFault.TheVariants as keys
use Rattle.fold_commands.specs.declared.status.Status.{Status}
use Rattle.fold_commands.specs.declared.status.Status.TheVariants.{Done, No, Text, Shape, Sheet, Number, Words}
use Rattle.fold_commands.specs.declared.status.Status.TheVariants.{Read, Write, Limit, Memory}
use Rattle.fold_commands.specs.declared.status.TextFault.TheVariants.{Json, Cp}
use Rattle.fold_commands.specs.declared.status.ShapeCause.TheVariants.{Key, NoFrame, ParentRange, ParentLoop, NotFlat, Stale}
use Rattle.fold_commands.specs.declared.status.SheetCause.TheVariants.{Check, Missing, NoOrder, OrderClash}
use Rattle.fold_commands.specs.declared.status.NoCause.TheVariants.{Unclosed}
use Rattle.fold_commands.specs.declared.status.NumberCause.TheVariants.{NumberPast, TooWide, Unread}
use Rattle.fold_commands.specs.declared.status.Stage.{Stage}
use Rattle.fold_commands.specs.declared.status.Stage.TheVariants.{Input, Drawn, Folded}
use Rattle.scaled_plane.specs.declared.sheet.SheetFlaw.TheVariants.{Parted}
use Rattle.fold_commands.specs.declared.status.WordsCause.TheVariants.{Refused}
use Rattle.fold_commands.specs.declared.status.Limit.TheVariants.{TooLong, TooMany}

-- the exit status of the process
abbrev pub code_of : Status → ℕ
code_of Done = 0
code_of (No cause) = 1
code_of (Text fault) = 2
code_of (Shape cause) = 3
code_of (Sheet cause) = 4
code_of (Number cause) = 5
code_of (Words cause) = 6
code_of Read = 7
code_of Write = 8
code_of (Limit limit) = 9
code_of Memory = 10

-- a text goes to the sink
abbrev pub IsAnswer : Status → Type 0
IsAnswer Done = Unit {0}
IsAnswer (No cause) = Unit {0}
IsAnswer _ = ⊥

-- the outside or the memory failed, which no words and bytes decide
abbrev pub IsFailure : Status → Type 0
IsFailure Read = Unit {0}
IsFailure Write = Unit {0}
IsFailure Memory = Unit {0}
IsFailure _ = ⊥

-- the status of what went well so far, or else of the error
abbrev pub status_of : {X : Type 0} → Result X Status → Status
status_of (Ok value) = Done
status_of (Err status) = status

-- the status where the input can't be had whole
abbrev pub of_read : ReadFault → Status
of_read read.Failed = Read
of_read read.TooLong = Limit TooLong
of_read (read.Memory error) = Memory

-- the status where the input isn't read as JSON text
abbrev pub of_json : JsonReadFault → Status
of_json (json.Text fault) = Text (Json fault)
of_json (json.Memory error) = Memory

-- the status where the input isn't read as CP text
abbrev pub of_cp : CpReadFault → Status
of_cp (cp.Text fault) = Text (Cp fault)
of_cp (cp.Memory error) = Memory

-- the status where a tree isn't read as a FOLD file
abbrev pub of_keys : FoldFault → Status
of_keys (keys.Shape fault) = Shape (Key fault)
of_keys (keys.Memory error) = Memory

-- the status where a frame has no effective frame
abbrev pub of_frame : FrameFault → Status
of_frame (frames.NoFrame frame) = Shape (NoFrame frame)
of_frame (frames.ParentRange frame) = Shape (ParentRange frame)
of_frame (frames.ParentLoop frame) = Shape (ParentLoop frame)
of_frame (frames.Memory error) = Memory

-- the status where a frame has no lines
abbrev pub of_lines : LinesFault → Status
of_lines (lines.Missing key) = Sheet (Missing key)
of_lines (lines.NotFlat vertex) = Shape (NotFlat vertex)
of_lines (lines.Memory error) = Memory

-- the status where what is read has no vertices and edges
abbrev pub of_input : InputFault → Status
of_input (input.Missing key) = Sheet (Missing key)
of_input (input.TooMany what) = Limit (TooMany what)
of_input (input.NotFlat vertex) = Shape (NotFlat vertex)
of_input (input.Unread vertex axis cause) = Number (Unread vertex axis cause)
of_input (input.Stale vertex) = Shape (Stale vertex)
of_input (input.Memory error) = Memory

-- which coordinates of a repaired drawing are too wide
abbrev pub of_stage : RepairStage → Stage
of_stage repairing.Input = Input
of_stage repairing.Drawn = Drawn

-- the status where segments have no drawing
abbrev pub of_repair : RepairFault → Status
of_repair (repair.TooWide vertex stage) = Number (TooWide vertex (of_stage stage))
of_repair repair.TooMany = Limit (TooMany Vertices)
of_repair (repair.Parted vertex) = Sheet (Check (Parted vertex))
of_repair (repair.Memory error) = Memory

-- the status where a drawing has no folded form
abbrev pub of_form : FormFault → Status
of_form (form.TooWide vertex) = Number (TooWide vertex Input)
of_form (form.Flaw flaw) = Sheet (Check flaw)
of_form (form.NumberPast face vertex) = Number (NumberPast face vertex)
of_form (form.Unclosed edge) = No (Unclosed edge)
of_form (form.FoldedTooWide vertex) = Number (TooWide vertex Folded)
of_form (form.Memory error) = Memory

-- the status where orders don't rank the faces
abbrev pub of_judge : JudgeFault → Status
of_judge (judge.OrderClash first second) = Sheet (OrderClash first second)
of_judge (judge.NoOrder low high) = Sheet (NoOrder low high)
of_judge (judge.Memory error) = Memory

-- the status where `clap` doesn't take the words: want of memory is no fault of theirs
abbrev pub IsOfWords : Error → Status → Type 0
IsOfWords error status = ((kind_of error ≡ OutOfMemory) × (status ≡ Memory))
    ⊎ ((kind_of error ≢ OutOfMemory) × (status ≡ Words Refused))
