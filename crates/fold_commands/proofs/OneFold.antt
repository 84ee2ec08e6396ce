-- what is made of a frame that is folded is one thing at most
use Rattle.std.proofs.Common.{◌≡◌, ℕ, ℤ, List, inl, inr, refl, sym, ◌∙◌, ap, codes, Bool, true, false, Option, Some, None}
use Rattle.std.specs.Prelude.{◌==◌}
use Rattle.algebra.specs.LowestTerms.{Parts}
use Rattle.algebra.specs.NumberField.{NumberField}
use Rattle.algebra.specs.OrderedRing.{OrderedRing}
use Rattle.algebra.specs.Surd.{Surd}
use Rattle.algebra.specs.WholeSurds.{SurdNumbers}
use Rattle.crease_input.specs.Readings.{HasDrawing, HasNoDrawing}
use Rattle.crease_input.specs.declared.fault.InputFault.{InputFault}
use Rattle.flat_fold.specs.Computed.{exact}
use Rattle.flat_fold.specs.Folded.{Layout}
use Rattle.fold_frames.specs.Effects.{FrameInEffect}
use Rattle.fold_keys.specs.declared.value.Entry.{Entry}
use Rattle.fold_keys.specs.declared.value.FaceOrder.{FaceOrder}
use Rattle.fold_keys.specs.declared.value.FoldFile.{FoldFile}
use Rattle.folded_form.specs.Forms.{HasNoForm, IsFoldedFrom}
use Rattle.form_file.specs.Files.{IsFoldedFile}
use Rattle.folded_form.specs.declared.fault.FormFault.{FormFault}
use Rattle.folded_layers.specs.Sheets.{folded_sheet}
use Rattle.layer_judge.specs.Judging.{IsOfOrders, IsVerdict, RefusesOrders, layer_orders}
use Rattle.layer_judge.specs.declared.answer.JudgeFault.{JudgeFault}
use Rattle.layer_judge.specs.declared.answer.Verdict.{Verdict as AnyVerdict}
use Rattle.layer_judge.specs.declared.answer.Verdict.TheVariants.{Fits, Crosses}
use Rattle.layers.specs.Orders.{LayerOrder}
use Rattle.layers.specs.Sheets.{FoldedSheet}
use Rattle.number_rules.specs.OneReading.{IsRow}
use Rattle.number_rules.specs.declared.unread.Row.{Row}
use Rattle.number_rules.specs.declared.unread.Row.TheVariants as rows
use Rattle.rational.specs.Rationals.{rational_numbers, rational_parts}
use Rattle.rational.specs.WholeNumbers as rationals
use Rattle.scaled_plane.specs.declared.drawing.Ends.{Ends}
use Rattle.scaled_plane.specs.declared.drawing.Face.{Face}
use Rattle.fold_commands.specs.Fields.{numbers_over_three, numbers_over_two, parts_over_three, parts_over_two, whole_over_three, whole_over_two}
use Rattle.fold_commands.specs.FoldedFrames.{AnswersVerdict, FoldsBy, FoldsDrawing, FoldsExact, FoldsRead, FoldsWith, HasLayout, HaveVerdict, IsFoldedOnce, JudgesLayers, LackOrder, LacksDrawing, LacksForm, MakesOf, WritesForm, given_orders}
use Rattle.fold_commands.specs.Status.{of_form, of_input, of_judge}
use Rattle.fold_commands.specs.Steps.{IsOne}
use Rattle.fold_commands.specs.declared.aim.Aim.{Aim}
use Rattle.fold_commands.specs.declared.aim.Aim.TheVariants.{Form, Verdict}
use Rattle.fold_commands.specs.declared.number_option.NumberChoice.{NumberChoice}
use Rattle.fold_commands.specs.declared.number_option.NumberChoice.TheVariants.{Exact, Grid, RootTwo, RootThree}
use Rattle.fold_commands.proofs.Chain.{IsStep, one_answer, one_stop, one_then}
use Rattle.fold_commands.proofs.Drawn.{exact_row, grid_row, root_row}

module _ {N W : Type 0} {root : ℕ} {surd : W → Surd ℤ} (k : ℕ) (parts : N → Parts)
    (field : NumberField k parts) (numbers : SurdNumbers root surd) where
  -- what the crates below say of frames, of folded sheets and their files, and of verdicts
  pub record HaveOneFold : Type 0 where
    pub frame : (row : Row) → IsRow k row → (faces : Bool) (entries : List Entry) (a b : Ends N × List Face)
        → HasDrawing k parts row faces entries a → HasDrawing k parts row faces entries b → a ≡ b
    pub frame_cause : (row : Row) → IsRow k row → (faces : Bool) (entries : List Entry) (e f : InputFault)
        → HasNoDrawing k parts row faces entries e → HasNoDrawing k parts row faces entries f → e ≡ f
    pub frames_apart : (row : Row) → IsRow k row → (faces : Bool) (entries : List Entry) (a : Ends N × List Face) (f : InputFault)
        → HasDrawing k parts row faces entries a → ¬ HasNoDrawing k parts row faces entries f
    pub layout : (drawing : Ends N × List Face) (a b : Layout N W) → IsFoldedFrom parts (exact field) numbers drawing a
        → IsFoldedFrom parts (exact field) numbers drawing b → a ≡ b
    pub reason : (drawing : Ends N × List Face) (e f : FormFault) → HasNoForm parts (exact field) numbers drawing e
        → HasNoForm parts (exact field) numbers drawing f → e ≡ f
    pub layouts_apart : (drawing : Ends N × List Face) (a : Layout N W) (f : FormFault)
        → IsFoldedFrom parts (exact field) numbers drawing a → ¬ HasNoForm parts (exact field) numbers drawing f
    pub file : (layout : Layout N W) (orders : Option (List FaceOrder)) (f g : FoldFile)
        → IsFoldedFile k parts layout orders f → IsFoldedFile k parts layout orders g → f ≡ g
    pub verdict : (K : OrderedRing W) (sheet : FoldedSheet W) (orders : List LayerOrder) (v w : AnyVerdict)
        → IsVerdict K sheet orders v → IsVerdict K sheet orders w → v ≡ w
    pub refusal : (K : OrderedRing W) (sheet : FoldedSheet W) (orders : List LayerOrder) (e f : JudgeFault)
        → IsOfOrders e → IsOfOrders f → RefusesOrders K sheet orders e → RefusesOrders K sheet orders f → e ≡ f
    pub verdicts_apart : (K : OrderedRing W) (sheet : FoldedSheet W) (orders : List LayerOrder) (v : AnyVerdict) (f : JudgeFault)
        → IsVerdict K sheet orders v → IsOfOrders f → ¬ RefusesOrders K sheet orders f

  module _ (have : HaveOneFold) where
    one_verdict : (v : AnyVerdict) → IsOne (AnswersVerdict k parts field numbers v)
    one_verdict Fits = one_answer _
    one_verdict (Crosses crossing) = one_stop _

    one_judged : (orders : List FaceOrder) (layout : Layout N W) → IsOne (JudgesLayers k parts field numbers orders layout)
    one_judged orders layout =
        let K = numbers.ring in
        let sheet = folded_sheet numbers.ring layout in
        one_then _ _ _ (record {
          one_stop = λ s t p q. p.3 ∙ ap of_judge (have.refusal K sheet (layer_orders orders) p.0 q.0 p.1 q.1 p.2 q.2) ∙ sym q.3;
          one_value = λ v w p q. have.verdict K sheet (layer_orders orders) v w p q;
          apart = λ s v p q. have.verdicts_apart K sheet (layer_orders orders) v p.0 q p.1 p.2;
        }) (λ v h. one_verdict v)

    one_written : (orders : Option (List FaceOrder)) (layout : Layout N W) → IsOne (WritesForm k parts field numbers orders layout)
    one_written orders layout =
        one_then _ _ _ (record {
          one_stop = λ s t p q. absurd p;
          one_value = λ f g p q. have.file layout orders f g p q;
          apart = λ s f p q. p;
        }) (λ file h. one_answer _)

    one_made : (aim : Aim) (orders : Option (List FaceOrder)) (layout : Layout N W) → IsOne (MakesOf k parts field numbers aim orders layout)
    one_made Form orders layout = one_written orders layout
    one_made Verdict orders layout = one_judged (given_orders orders) layout

    one_drawn : (aim : Aim) (orders : Option (List FaceOrder)) (drawing : Ends N × List Face)
        → IsOne (FoldsDrawing k parts field numbers aim orders drawing)
    one_drawn aim orders drawing =
        one_then _ _ _ (record {
          one_stop = λ s t p q. p.2 ∙ ap of_form (have.reason drawing p.0 q.0 p.1 q.1) ∙ sym q.2;
          one_value = λ a b p q. have.layout drawing a b p q;
          apart = λ s a p q. have.layouts_apart drawing a p.0 q p.1;
        }) (λ layout h. one_made aim orders layout)

    one_read : (aim : Aim) (orders : Option (List FaceOrder)) (row : Row) → IsRow k row → (frame : FrameInEffect)
        → IsOne (FoldsRead k parts field numbers aim orders row frame)
    one_read aim orders row is frame =
        one_then _ _ _ (record {
          one_stop = λ s t p q. p.2 ∙ ap of_input (have.frame_cause row is true frame.entries p.0 q.0 p.1 q.1) ∙ sym q.2;
          one_value = λ a b p q. have.frame row is true frame.entries a b p q;
          apart = λ s a p q. have.frames_apart row is true frame.entries a p.0 q p.1;
        }) (λ drawing h. one_drawn aim orders drawing)

  pub folded_once : HaveOneFold → IsFoldedOnce k parts field numbers
  folded_once have = λ aim orders row is frame. one_read have aim orders row is frame

-- ---- by each choice of numbers

pub record HaveOneFolds : Type 0 where
  pub rational : IsFoldedOnce 1 rational_parts rational_numbers rationals.whole_numbers
  pub over_two : IsFoldedOnce 2 parts_over_two numbers_over_two whole_over_two
  pub over_three : IsFoldedOnce 3 parts_over_three numbers_over_three whole_over_three

module _ (have : HaveOneFolds) (aim : Aim) (orders : Option (List FaceOrder)) where
  one_by : (choice : NumberChoice) (frame : FrameInEffect) → IsOne (FoldsBy aim orders choice frame)
  one_by Exact frame = have.rational aim orders rows.Exact (exact_row 1) frame
  one_by (Grid n) frame = have.rational aim orders (rows.Grid n.value) (grid_row 1 n) frame
  one_by (RootTwo n) frame = have.over_two aim orders (rows.Root n.value) (root_row 2 n (inl refl)) frame
  one_by (RootThree n) frame = have.over_three aim orders (rows.Root n.value) (root_row 3 n (inr refl)) frame

  one_over : (b : Bool) (frame : FrameInEffect) → IsOne (FoldsExact aim orders b frame)
  one_over true frame = have.over_three aim orders rows.Exact (exact_row 3) frame
  one_over false frame = have.over_two aim orders rows.Exact (exact_row 2) frame

  pub one_folded_with : (o : Option ℕ) (choice : NumberChoice) (frame : FrameInEffect) → IsOne (FoldsWith aim orders o choice frame)
  one_folded_with None choice frame = one_by choice frame
  one_folded_with (Some root) choice frame = one_over (root == 3) frame
