-- the steps of `fold` and `judge`: why each stops
use Rattle.std.proofs.Common.{◌≡◌, ◌⊎◌, ℕ, ℤ, ◌<◌, ◌≤◌, List, [], ◌∷◌, length, true, Some, Result, Err, inl, inr, refl, sym, subst}
use Rattle.std.specs.Prelude.{All}
use Rattle.std.specs.List.{AllByRecursion}
use Rattle.std.proofs.lemmas.List.Elements.{All-from_recursion}
use Rattle.std.proofs.lemmas.List.FromFn.{length-map-range_with_len}
use Rattle.algebra.specs.LowestTerms.{Parts}
use Rattle.algebra.specs.NumberField.{NumberField}
use Rattle.algebra.specs.Surd.{Surd}
use Rattle.algebra.specs.WholeSurds.{SurdNumbers}
use Rattle.crease_input.specs.Files.{AreOrdersWithin, IsOrderWithin}
use Rattle.crease_input.specs.Frames.{AreWithin}
use Rattle.crease_input.specs.Readings.{ReadsFrame}
use Rattle.crease_input.specs.declared.fault.InputFault.{InputFault}
use Rattle.crease_input.specs.declared.fault.InputFault.TheVariants as faults
use Rattle.flat_fold.specs.Computed.{exact}
use Rattle.flat_fold.specs.Folded.{Layout}
use Rattle.fold_frames.specs.Effects.{FrameInEffect}
use Rattle.fold_keys.specs.declared.value.FaceOrder.{FaceOrder}
use Rattle.folded_form.specs.Forms.{NamesReason}
use Rattle.folded_form.specs.declared.fault.FormFault.{FormFault}
use Rattle.sheet_check.specs.Refused.{AreSheetSizes}
use Rattle.folded_form.specs.declared.fault.FormFault.TheVariants as form
use Rattle.folded_layers.specs.Sheets.{folded_face, folded_sheet}
use Rattle.layer_judge.specs.Judging.{IsOrderOf, RefusesOrders, layer_orders}
use Rattle.layer_judge.specs.declared.answer.JudgeFault.{JudgeFault}
use Rattle.layer_judge.specs.declared.answer.JudgeFault.TheVariants as judge
use Rattle.number_rules.specs.declared.unread.Row.{Row}
use Rattle.scaled_plane.specs.declared.drawing.Ends.{Ends}
use Rattle.scaled_plane.specs.declared.drawing.Face.{Face}
use Rattle.fold_commands.specs.FoldedFrames.{LackOrder, LacksDrawing, LacksForm}
use Rattle.fold_commands.specs.Status.{of_form, of_input, of_judge}
use Rattle.fold_commands.proofs.Repairing.{Stops}

module _ {N : Type 0} (k : ℕ) (parts : N → Parts) (row : Row) (frame : FrameInEffect) where
  pub drawing_stops : (fault : InputFault)
      → (let r : Result (Ends N × List Face) InputFault = Err fault in ReadsFrame k parts row true frame.entries r)
      → Stops (LacksDrawing k parts row frame) (of_input fault)
  drawing_stops (faults.Memory e) h = inl refl
  drawing_stops (faults.Missing key) h = inr (tt, (faults.Missing key, h, refl))
  drawing_stops (faults.TooMany what) h = inr (tt, (faults.TooMany what, h, refl))
  drawing_stops (faults.NotFlat vertex) h = inr (tt, (faults.NotFlat vertex, h, refl))
  drawing_stops (faults.Unread vertex axis cause) h = inr (tt, (faults.Unread vertex axis cause, h, refl))
  drawing_stops (faults.Stale vertex) h = inr (tt, (faults.Stale vertex, h, refl))

-- what is within the limits of frames is within those of sheets
pub sheet_sizes : {N : Type 0} (ends : Ends N) (faces : List Face) → AreWithin (ends, faces) → AreSheetSizes ends faces
sheet_sizes ends faces within = record {
  few_vertices = within.vertices;
  few_edges = within.edges;
  few_faces = within.faces;
  each_edge = within.each_edge;
}

module _ {N W : Type 0} {root : ℕ} {surd : W → Surd ℤ} (k : ℕ) (parts : N → Parts)
    (field : NumberField k parts) (numbers : SurdNumbers root surd) where
  pub form_stops : (drawing : Ends N × List Face) (fault : FormFault) → NamesReason parts (exact field) numbers drawing fault
      → Stops (LacksForm k parts field numbers drawing) (of_form fault)
  form_stops drawing (form.Memory e) h = inl refl
  form_stops drawing (form.TooWide vertex) h = inr (tt, (form.TooWide vertex, h, refl))
  form_stops drawing (form.Flaw flaw) h = inr (tt, (form.Flaw flaw, h, refl))
  form_stops drawing (form.NumberPast face vertex) h = inr (tt, (form.NumberPast face vertex, h, refl))
  form_stops drawing (form.Unclosed edge) h = inr (tt, (form.Unclosed edge, h, refl))
  form_stops drawing (form.FoldedTooWide vertex) h = inr (tt, (form.FoldedTooWide vertex, h, refl))

  pub orders_stop : (orders : List FaceOrder) (layout : Layout N W) (fault : JudgeFault)
      → RefusesOrders numbers.ring (folded_sheet numbers.ring layout) (layer_orders orders) fault
      → Stops (LackOrder k parts field numbers orders layout) (of_judge fault)
  orders_stop orders layout (judge.Memory e) h = inl refl
  orders_stop orders layout (judge.OrderClash first second) h = inr (tt, (judge.OrderClash first second, tt, h, refl))
  orders_stop orders layout (judge.NoOrder low high) h = inr (tt, (judge.NoOrder low high, tt, h, refl))

-- orders of the faces of a sheet are of those of the sheet folded
each_named : (n m : ℕ) → n ≡ m → (orders : List FaceOrder) → AllByRecursion (IsOrderWithin n) orders → AllByRecursion (IsOrderOf m) orders
each_named n m same [] all = tt
each_named n m same (o ∷ orders) all =
    let h = all.0 in (
      record {
        first_within = subst (λ k. o.first < k) same h.first;
        second_within = subst (λ k. o.second < k) same h.second;
        side_low = h.side.0;
        side_high = h.side.1;
      },
      each_named n m same orders all.1,
    )

pub orders_named : {N W : Type 0} {root : ℕ} {surd : W → Surd ℤ} (numbers : SurdNumbers root surd) (layout : Layout N W) (orders : List FaceOrder)
    → AreOrdersWithin (length layout.sheet.faces) (Some orders)
    → All (IsOrderOf (length (folded_sheet numbers.ring layout).faces)) orders
orders_named numbers layout orders within =
    All-from_recursion (IsOrderOf (length (folded_sheet numbers.ring layout).faces)) orders
    (each_named (length layout.sheet.faces) (length (folded_sheet numbers.ring layout).faces)
    (sym (length-map-range_with_len (folded_face numbers.ring layout) 0 (length layout.sheet.faces))) orders within.1)
