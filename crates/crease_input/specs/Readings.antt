-- what a row of the table of rules reads of lines and of frames, whatever function reads by it
use Rattle.std.specs.Prelude.{◌≡◌, ℕ, Bool, List, Result, Ok}
use Rattle.algebra.specs.LowestTerms.{Parts}
use Rattle.cp_lines.specs.declared.line.CpLine.{CpLine}
use Rattle.number_rules.specs.OneReading.{ReadsText}
use Rattle.number_rules.specs.declared.unread.Row.{Row}
use Rattle.number_rules.specs.declared.unread.Unread.{Unread}
use Rattle.fold_keys.specs.declared.value.Entry.{Entry}
use Rattle.scaled_plane.specs.declared.drawing.Ends.{Ends}
use Rattle.scaled_plane.specs.declared.drawing.Face.{Face}
use Rattle.crease_input.specs.Frames.{AnswersFrame, IsDrawn, IsUndrawn}
use Rattle.crease_input.specs.Lines.{AnswersEnds, IsUnreadAt, coordinates_of, place_of}
use Rattle.crease_input.specs.declared.fault.Axis.{Axis}
use Rattle.crease_input.specs.declared.fault.InputFault.{InputFault}
use Rattle.crease_input.specs.declared.fault.InputFault.TheVariants as faults

module _ {N : Type 0} (k : ℕ) (parts : N → Parts) (row : Row) (lines : List CpLine) where
  -- the vertices and edges of lines, or the first coordinate that isn't read
  abbrev pub ReadsEnds : Result (Ends N) InputFault → Type 0
  ReadsEnds r = AnswersEnds parts (ReadsText k parts row) lines r

  -- lines have these vertices and edges
  abbrev pub HaveEnds : Ends N → Type 0
  HaveEnds ends = ReadsEnds (Ok ends)

  -- lines have none: the fault names the first coordinate that isn't read
  abbrev pub HaveUnread : InputFault → Type 0
  HaveUnread fault =
      (vertex : ℕ) × (axis : Axis) × (cause : Unread) × (fault ≡ faults.Unread vertex axis cause)
      × IsUnreadAt (ReadsText k parts row) (coordinates_of lines) (place_of vertex axis) cause

module _ {N : Type 0} (k : ℕ) (parts : N → Parts) (row : Row) (faces : Bool) (entries : List Entry) where
  -- the vertices, edges and faces of a frame, or why it has none
  abbrev pub ReadsFrame : Result (Ends N × List Face) InputFault → Type 0
  ReadsFrame r = AnswersFrame k parts (ReadsText k parts row) faces entries r

  -- the frame has these vertices, edges and faces
  abbrev pub HasDrawing : Ends N × List Face → Type 0
  HasDrawing drawn = IsDrawn k parts (ReadsText k parts row) faces entries drawn

  -- it has none, for this cause
  abbrev pub HasNoDrawing : InputFault → Type 0
  HasNoDrawing fault = IsUndrawn k parts (ReadsText k parts row) faces entries fault
