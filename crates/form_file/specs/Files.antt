-- the file of a folded sheet
use Rattle.std.specs.Prelude.{ℕ, ℤ, List, codes, Option, Some}
use Rattle.algebra.specs.LowestTerms.{Parts}
use Rattle.algebra.specs.Surd.{Surd}
use Rattle.algebra.specs.WholeSurds.{SurdNumbers}
use Rattle.crease_input.specs.Files.{IsDrawingFile}
use Rattle.flat_fold.specs.Computed.{ComputedField}
use Rattle.flat_fold.specs.EdgeImages.{AreEdgeImages}
use Rattle.flat_fold.specs.Folded.{Layout}
use Rattle.fold_keys.specs.declared.value.FaceOrder.{FaceOrder}
use Rattle.fold_keys.specs.declared.value.FoldFile.{FoldFile}
use Rattle.folded_form.specs.Forms.{IsFoldedFrom}
use Rattle.scaled_plane.specs.declared.drawing.Edge.{Edge}
use Rattle.scaled_plane.specs.declared.drawing.Ends.{Ends}
use Rattle.scaled_plane.specs.declared.drawing.Face.{Face}

-- the images are its vertices, the images of edges its edges, its faces are told by the images of
-- their corners, and their orders are these
abbrev pub IsFoldedFile : {N W : Type 0} (k : ℕ) (parts : N → Parts) → Layout N W
    → Option (List FaceOrder) → FoldFile → Type 0
IsFoldedFile k parts layout orders file =
    (edges : List Edge) × AreEdgeImages layout edges
    × IsDrawingFile k parts (codes "foldedForm") (record { coords = layout.images; edges = edges })
    (Some layout.corners) orders file

-- the drawing folds, and this is the file of it folded, with these orders of its faces
abbrev pub HasForm : {N W : Type 0} {root : ℕ} {surd : W → Surd ℤ} (k : ℕ) (parts : N → Parts)
    → ComputedField N → SurdNumbers root surd → Ends N × List Face → Option (List FaceOrder)
    → FoldFile → Type 0
HasForm {N = N} {W = W} k parts K numbers drawing orders file =
    (layout : Layout N W) × IsFoldedFrom parts K numbers drawing layout
    × IsFoldedFile k parts layout orders file
