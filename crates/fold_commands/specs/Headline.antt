-- what `judge` says yes to
use Rattle.std.specs.Prelude.{◌≡◌, ◌⊎◌, ◌↔◌, ℕ, ℤ, ◌≤◌, ◌==◌, List, Bool, true, false, Option, Some, None, length, codes}
use Rattle.algebra.specs.LowestTerms.{Parts}
use Rattle.algebra.specs.NumberField.{NumberField}
use Rattle.algebra.specs.OrderedRing.{OrderedRing}
use Rattle.algebra.specs.Surd.{Surd}
use Rattle.algebra.specs.WholeSurds.{SurdNumbers}
use Rattle.fold_base.specs.declared.outside.TheConstants.{MOST_BYTES}
use Rattle.fold_base.specs.Outside.{Rose}
use Rattle.crease_input.specs.Readings.{HasDrawing}
use Rattle.crease_input.specs.Roots.{root_of}
use Rattle.flat_fold.specs.Computed.{exact}
use Rattle.flat_fold.specs.Folded.{IsFolded, Layout}
use Rattle.flat_fold.specs.Folding.{AllFits}
use Rattle.flat_fold.specs.Sheets.{FormSheet}
use Rattle.fold_frames.specs.Answers.{IsEffective}
use Rattle.fold_frames.specs.Counts.{misfit_in_effect}
use Rattle.fold_frames.specs.Effects.{FrameInEffect}
use Rattle.fold_frames.specs.Parents.{value_at}
use Rattle.fold_keys.specs.Shape.{misfit_of_file}
use Rattle.fold_keys.specs.Trees.{tree_of_file}
use Rattle.fold_keys.specs.Writable.{IsWritable}
use Rattle.fold_keys.specs.declared.value.FaceOrder.{FaceOrder}
use Rattle.fold_keys.specs.declared.value.FoldFile.{FoldFile}
use Rattle.folded_layers.specs.Sheets.{folded_sheet}
use Rattle.json_tree.specs.Spells.{Spells}
use Rattle.layer_judge.specs.Judging.{layer_orders}
use Rattle.layer_judge.specs.declared.answer.Verdict.TheVariants.{Fits}
use Rattle.layers.specs.Orders.{Above, NoClash, RanksOverlaps}
use Rattle.layers.specs.Points.{IsLayered}
use Rattle.number_rules.specs.declared.unread.Row.{Row}
use Rattle.number_rules.specs.declared.unread.Row.TheVariants as rows
use Rattle.rational.specs.Rationals.{rational_numbers, rational_parts}
use Rattle.rational.specs.WholeNumbers as rationals
use Rattle.scaled_plane.specs.declared.drawing.Ends.{Ends}
use Rattle.scaled_plane.specs.declared.drawing.Face.{Face}
use Rattle.fold_commands.specs.Fields.{numbers_over_three, numbers_over_two, parts_over_three, parts_over_two, whole_over_three, whole_over_two}
use Rattle.fold_commands.specs.FoldedFrames.{HasLayout, HaveVerdict, given_orders, orders_of}
use Rattle.fold_commands.specs.Words.{ArePlainWordsOf}
use Rattle.fold_commands.specs.declared.number_option.NumberChoice.{NumberChoice}
use Rattle.fold_commands.specs.declared.number_option.NumberChoice.TheVariants.{Exact, Grid, RootTwo, RootThree}
use Rattle.fold_commands.specs.declared.status.Status.{Status}
use Rattle.fold_commands.specs.declared.status.Status.TheVariants.{Done, Memory}
use Rattle.fold_commands.specs.declared.words.Command.TheVariants.{Judge}
use Rattle.fold_commands.specs.declared.words.JudgeOptions.{JudgeOptions}

-- the bytes are a FOLD text, and this is the file that it is: they are no more than a text may have
-- and spell the file's tree, in which no key has a misfit
pub record IsFoldText (bytes : List ℕ) (file : FoldFile) : Type 0 where
  pub few : length bytes ≤ MOST_BYTES
  pub spells : Spells bytes (tree_of_file file)
  pub no_misfit : misfit_of_file (tree_of_file file) ≡ None
  pub is_file : IsWritable file

-- the frame of this number with all that it inherits, whose lists agree
pub record IsFrame (file : FoldFile) (number : ℕ) (frame : FrameInEffect) : Type 0 where
  pub in_effect : IsEffective file.frames number frame
  pub agrees : misfit_in_effect frame ≡ None

module _ {N W : Type 0} {root : ℕ} {surd : W → Surd ℤ} (k : ℕ) (parts : N → Parts)
    (field : NumberField k parts) (numbers : SurdNumbers root surd) where
  -- the drawing is a sheet that folds flat, and this is how it lies then: its vertices, scaled to
  -- whole numbers, are plane with its edges, and its faces are their walks; no number leaves its
  -- range; each walk of faces that closes comes back to where it began; and what is folded can be
  -- scaled again
  pub record FoldsFlat (drawing : Ends N × List Face) (layout : Layout N W) : Type 0 where
    pub is_sheet : FormSheet parts numbers drawing.0 drawing.1
    pub fits : AllFits (exact field) drawing.0.coords drawing.0.edges drawing.1
    pub of_drawing : layout.sheet ≡ record { ends = drawing.0; faces = drawing.1 }
    pub folded : IsFolded parts (exact field).field numbers layout

  -- the orders contradict each other nowhere and rank each two faces that overlap; and by them the
  -- faces make one pile at each generic point, nothing crosses a crease or a join at a seam point,
  -- and the letters of the creases are true
  pub record LayersLie (orders : List FaceOrder) (layout : Layout N W) : Type 0 where
    pub one_way : NoClash (Above (folded_sheet numbers.ring layout) (layer_orders orders))
    pub ranked : RanksOverlaps numbers.ring (folded_sheet numbers.ring layout) (Above (folded_sheet numbers.ring layout) (layer_orders orders))
    pub layered : IsLayered numbers.ring (folded_sheet numbers.ring layout) (Above (folded_sheet numbers.ring layout) (layer_orders orders))

  -- the frame, read by a row of the table of rules, folds flat with its layers as they are ordered
  pub record FoldsAsOrdered (orders : List FaceOrder) (row : Row) (frame : FrameInEffect) : Type 0 where
    pub drawing : Ends N × List Face
    pub is_read : HasDrawing k parts row true frame.entries drawing
    pub layout : Layout N W
    pub flat : FoldsFlat drawing layout
    pub lie : LayersLie orders layout

  -- a verdict says that the layers fit exactly where they lie by the orders
  abbrev pub HasTrueVerdicts : Type 0
  HasTrueVerdicts = (drawing : Ends N × List Face) (layout : Layout N W) → HasLayout k parts field numbers drawing layout
      → (orders : List FaceOrder) → HaveVerdict k parts field numbers orders layout Fits ↔ LayersLie orders layout

module _ (orders : List FaceOrder) where
  -- the same by each choice of numbers
  abbrev pub FoldsAsOrderedBy : NumberChoice → FrameInEffect → Type 0
  FoldsAsOrderedBy Exact =
      FoldsAsOrdered 1 rational_parts rational_numbers rationals.whole_numbers orders rows.Exact
  FoldsAsOrderedBy (Grid n) =
      FoldsAsOrdered 1 rational_parts rational_numbers rationals.whole_numbers orders (rows.Grid n.value)
  FoldsAsOrderedBy (RootTwo n) =
      FoldsAsOrdered 2 parts_over_two numbers_over_two whole_over_two orders (rows.Root n.value)
  FoldsAsOrderedBy (RootThree n) =
      FoldsAsOrdered 3 parts_over_three numbers_over_three whole_over_three orders (rows.Root n.value)

  -- and by the root of the exact texts that the frame has
  abbrev pub FoldsAsOrderedOver : Bool → FrameInEffect → Type 0
  FoldsAsOrderedOver true =
      FoldsAsOrdered 3 parts_over_three numbers_over_three whole_over_three orders rows.Exact
  FoldsAsOrderedOver false =
      FoldsAsOrdered 2 parts_over_two numbers_over_two whole_over_two orders rows.Exact

  abbrev pub FoldsAsOrderedWith : Option ℕ → NumberChoice → FrameInEffect → Type 0
  FoldsAsOrderedWith None number = FoldsAsOrderedBy number
  FoldsAsOrderedWith (Some root) number = FoldsAsOrderedOver (root == 3)

-- over each of the numbers
pub record HaveTrueVerdicts : Type 0 where
  pub rational : HasTrueVerdicts 1 rational_parts rational_numbers rationals.whole_numbers
  pub over_two : HasTrueVerdicts 2 parts_over_two numbers_over_two whole_over_two
  pub over_three : HasTrueVerdicts 3 parts_over_three numbers_over_three whole_over_three

-- the bytes are a FOLD text whose chosen frame is a sheet that folds flat; the frame with the orders
-- has the same faces, and the layers can lie as it orders them
pub record IsFoldableText (options : JudgeOptions) (bytes : List ℕ) : Type 0 where
  pub file : FoldFile
  pub is_text : IsFoldText bytes file
  pub frame : FrameInEffect
  pub is_frame : IsFrame file options.frame frame
  pub ordered : FrameInEffect
  pub is_ordered : IsFrame file options.orders ordered
  pub same_faces : value_at frame.entries (codes "faces_vertices") ≡ value_at ordered.entries (codes "faces_vertices")
  pub folds : FoldsAsOrderedWith (given_orders (orders_of ordered.entries)) (root_of frame.entries) options.number frame

-- Words of the plain form that ask for the judge, about bytes that are all that was left: done means
-- that they are foldable; and where they are, it's done, unless reading, writing or memory failed.
abbrev pub JudgesFoldable : List (List ℕ) → Option (List ℕ) → (read read' written written' : ℕ) → Status → Type 0
JudgesFoldable words left read read' written written' status =
    (options : JudgeOptions) (bytes : List ℕ) → ArePlainWordsOf words (Judge options) → left ≡ Some bytes
    → (status ≡ Done → IsFoldableText options bytes)
    × (IsFoldableText options bytes → ¬ Rose read read' → ¬ Rose written written' → (status ≡ Done) ⊎ (status ≡ Memory))
