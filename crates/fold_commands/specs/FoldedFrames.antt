-- what is made of a frame that is a sheet, once it is folded
use Rattle.std.specs.Prelude.{◌≡◌, ℕ, ℤ, List, [], ◌∷◌, ◌++◌, ◌==◌, length, codes, Bool, true, false, Option, Some, None}
use Rattle.algebra.specs.LowestTerms.{Parts}
use Rattle.algebra.specs.NumberField.{NumberField}
use Rattle.algebra.specs.Surd.{Surd}
use Rattle.algebra.specs.WholeSurds.{SurdNumbers}
use Rattle.crease_input.specs.Files.{AreOrdersWithin}
use Rattle.crease_input.specs.Frames.{corners_of}
use Rattle.crease_input.specs.Readings.{HasDrawing, HasNoDrawing}
use Rattle.crease_input.specs.declared.fault.InputFault.{InputFault}
use Rattle.flat_fold.specs.Computed.{exact}
use Rattle.flat_fold.specs.Folded.{Layout}
use Rattle.fold_frames.specs.Effects.{FrameInEffect}
use Rattle.fold_frames.specs.Parents.{value_at}
use Rattle.fold_keys.specs.Trees.{tree_of_file}
use Rattle.fold_keys.specs.declared.value.Entry.{Entry}
use Rattle.fold_keys.specs.declared.value.FaceOrder.{FaceOrder}
use Rattle.fold_keys.specs.declared.value.Value.{Value}
use Rattle.fold_keys.specs.declared.value.Value.TheVariants as values
use Rattle.folded_form.specs.Forms.{HasNoForm, IsFoldedFrom}
use Rattle.form_file.specs.Files.{IsFoldedFile}
use Rattle.folded_form.specs.declared.fault.FormFault.{FormFault}
use Rattle.folded_layers.specs.Sheets.{folded_sheet}
use Rattle.frame_lines.specs.Lines.{lacking}
use Rattle.json_tree.specs.PrintedForm as json_form
use Rattle.layer_judge.specs.Judging.{IsOfOrders, IsVerdict, RefusesOrders, layer_orders}
use Rattle.layer_judge.specs.declared.answer.JudgeFault.{JudgeFault}
use Rattle.layer_judge.specs.declared.answer.Verdict.{Verdict as AnyVerdict}
use Rattle.layer_judge.specs.declared.answer.Verdict.TheVariants.{Fits, Crosses}
use Rattle.number_rules.specs.OneReading.{IsRow}
use Rattle.number_rules.specs.declared.unread.Row.{Row}
use Rattle.number_rules.specs.declared.unread.Row.TheVariants as rows
use Rattle.rational.specs.Rationals.{rational_numbers, rational_parts}
use Rattle.rational.specs.WholeNumbers as rationals
use Rattle.scaled_plane.specs.declared.drawing.Ends.{Ends}
use Rattle.scaled_plane.specs.declared.drawing.Face.{Face}
use Rattle.fold_commands.specs.Drawings.{NeverStops}
use Rattle.fold_commands.specs.Fields.{numbers_over_three, numbers_over_two, parts_over_three, parts_over_two, whole_over_three, whole_over_two}
use Rattle.fold_commands.specs.Status.{of_form, of_input, of_judge}
use Rattle.fold_commands.specs.Steps.{Answers, IsOne, Outcome, StopsWith, Then}
use Rattle.fold_commands.specs.declared.aim.Aim.{Aim}
use Rattle.fold_commands.specs.declared.aim.Aim.TheVariants.{Form, Verdict}
use Rattle.fold_commands.specs.declared.number_option.NumberChoice.{NumberChoice}
use Rattle.fold_commands.specs.declared.number_option.NumberChoice.TheVariants.{Exact, Grid, RootTwo, RootThree}
use Rattle.fold_commands.specs.declared.status.NoCause.TheVariants.{Crossing}
use Rattle.fold_commands.specs.declared.status.Status.{Status}
use Rattle.fold_commands.specs.declared.status.Status.TheVariants.{No}

-- ---- orders of faces

-- the orders of its faces that a frame has
abbrev pub orders_in : Option Value → Option (List FaceOrder)
orders_in (Some (values.Orders orders)) = Some orders
orders_in value = None

abbrev pub orders_of : List Entry → Option (List FaceOrder)
orders_of entries = orders_in (value_at entries (codes "faceOrders"))

-- orders that aren't given are none
abbrev pub given_orders : Option (List FaceOrder) → List FaceOrder
given_orders None = []
given_orders (Some orders) = orders

-- where the frame has faces, the orders are of these
abbrev pub AreOfFaces : List Entry → Option (List FaceOrder) → Type 0
AreOfFaces entries orders =
    lacking entries (codes "faces_vertices") ≡ None
    → AreOrdersWithin (length (corners_of entries)) orders

-- ---- the sheet

-- the frame has no vertices, edges and faces, and the status names why
module _ {N : Type 0} (k : ℕ) (parts : N → Parts) (row : Row) where
  abbrev pub LacksDrawing : FrameInEffect → Status → Type 0
  LacksDrawing frame status =
      (fault : InputFault) × HasNoDrawing k parts row true frame.entries fault × (status ≡ of_input fault)

module _ {N W : Type 0} {root : ℕ} {surd : W → Surd ℤ} (k : ℕ) (parts : N → Parts)
    (field : NumberField k parts) (numbers : SurdNumbers root surd) where
  -- the drawing doesn't fold, and the status names the first reason
  abbrev pub LacksForm : Ends N × List Face → Status → Type 0
  LacksForm drawing status =
      (fault : FormFault) × HasNoForm parts (exact field) numbers drawing fault × (status ≡ of_form fault)

  -- this is the drawing folded
  abbrev pub HasLayout : Ends N × List Face → Layout N W → Type 0
  HasLayout drawing layout = IsFoldedFrom parts (exact field) numbers drawing layout

  -- ---- its folded form

  -- the file of the folded sheet, with the orders of its faces, in a line
  abbrev pub WritesForm : Option (List FaceOrder) → Layout N W → Outcome
  WritesForm orders layout =
      Then NeverStops (IsFoldedFile k parts layout orders)
      (λ file. Answers (json_form.printed_form (tree_of_file file) ++ 10 ∷ []))

  -- ---- its layers

  -- the orders don't rank the faces, and the status names where
  abbrev pub LackOrder : List FaceOrder → Layout N W → Status → Type 0
  LackOrder orders layout status =
      (fault : JudgeFault) × IsOfOrders fault
      × RefusesOrders numbers.ring (folded_sheet numbers.ring layout) (layer_orders orders) fault
      × (status ≡ of_judge fault)

  -- this is how the layers lie by the orders
  abbrev pub HaveVerdict : List FaceOrder → Layout N W → AnyVerdict → Type 0
  HaveVerdict orders layout verdict =
      IsVerdict numbers.ring (folded_sheet numbers.ring layout) (layer_orders orders) verdict

  -- the answer is yes, or no with the crossing
  abbrev pub AnswersVerdict : AnyVerdict → Outcome
  AnswersVerdict Fits = Answers (codes "yes" ++ 10 ∷ [])
  AnswersVerdict (Crosses crossing) = StopsWith (No (Crossing crossing))

  abbrev pub JudgesLayers : List FaceOrder → Layout N W → Outcome
  JudgesLayers orders layout =
      Then (LackOrder orders layout) (HaveVerdict orders layout) AnswersVerdict

  -- ---- what becomes of it

  abbrev pub MakesOf : Aim → Option (List FaceOrder) → Layout N W → Outcome
  MakesOf Form orders = WritesForm orders
  MakesOf Verdict orders = JudgesLayers (given_orders orders)

  abbrev pub FoldsDrawing : Aim → Option (List FaceOrder) → Ends N × List Face → Outcome
  FoldsDrawing aim orders drawing =
      Then (LacksForm drawing) (HasLayout drawing) (MakesOf aim orders)

  -- the frame is read by a row of the table of rules
  abbrev pub FoldsRead : Aim → Option (List FaceOrder) → Row → FrameInEffect → Outcome
  FoldsRead aim orders row frame =
      Then (LacksDrawing k parts row frame) (HasDrawing k parts row true frame.entries)
      (FoldsDrawing aim orders)

-- what is made of a frame is one thing at most, by each row
abbrev pub IsFoldedOnce : {N W : Type 0} {root : ℕ} {surd : W → Surd ℤ} (k : ℕ) (parts : N → Parts)
    → NumberField k parts → SurdNumbers root surd → Type 0
IsFoldedOnce k parts field numbers =
    (aim : Aim) (orders : Option (List FaceOrder)) (row : Row) → IsRow k row
    → (frame : FrameInEffect) → IsOne (FoldsRead k parts field numbers aim orders row frame)

-- ---- the numbers

module _ (aim : Aim) (orders : Option (List FaceOrder)) where
  -- the same by each choice of numbers
  abbrev pub FoldsBy : NumberChoice → FrameInEffect → Outcome
  FoldsBy Exact =
      FoldsRead 1 rational_parts rational_numbers rationals.whole_numbers aim orders rows.Exact
  FoldsBy (Grid n) =
      FoldsRead 1 rational_parts rational_numbers rationals.whole_numbers aim orders (rows.Grid n.value)
  FoldsBy (RootTwo n) =
      FoldsRead 2 parts_over_two numbers_over_two whole_over_two aim orders (rows.Root n.value)
  FoldsBy (RootThree n) =
      FoldsRead 3 parts_over_three numbers_over_three whole_over_three aim orders (rows.Root n.value)

  -- exact texts, over √3 or else over √2, are read as they stand, and no rule reads them
  abbrev pub FoldsExact : Bool → FrameInEffect → Outcome
  FoldsExact true =
      FoldsRead 3 parts_over_three numbers_over_three whole_over_three aim orders rows.Exact
  FoldsExact false =
      FoldsRead 2 parts_over_two numbers_over_two whole_over_two aim orders rows.Exact

  abbrev pub FoldsOver : ℕ → FrameInEffect → Outcome
  FoldsOver root = FoldsExact (root == 3)

  abbrev pub FoldsWith : Option ℕ → NumberChoice → FrameInEffect → Outcome
  FoldsWith None number = FoldsBy number
  FoldsWith (Some root) number = FoldsOver root
