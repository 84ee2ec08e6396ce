-- a folded sheet has one file, and so has a drawing
use Rattle.std.proofs.Common.{◌≡◌, ◌∙◌, sym, subst, ℕ, ℤ, List, codes, Option, Some}
use Rattle.algebra.specs.LowestTerms.{Parts}
use Rattle.algebra.specs.Surd.{Surd}
use Rattle.algebra.specs.WholeSurds.{SurdNumbers}
use Rattle.crease_input.specs.Files.{IsDrawingFile}
use Rattle.flat_fold.specs.Computed.{ComputedField}
use Rattle.flat_fold.specs.Folded.{Layout}
use Rattle.fold_keys.specs.declared.value.FaceOrder.{FaceOrder}
use Rattle.fold_keys.specs.declared.value.FoldFile.{FoldFile}
use Rattle.folded_form.specs.Forms.{IsFoldedFrom}
use Rattle.form_file.specs.Files.{HasForm, IsFoldedFile}
use Rattle.scaled_plane.specs.declared.drawing.Edge.{Edge}
use Rattle.scaled_plane.specs.declared.drawing.Ends.{Ends}
use Rattle.scaled_plane.specs.declared.drawing.Face.{Face}

module _ {N W : Type 0} (k : ℕ) (parts : N → Parts)
    (once : (class : List ℕ) (ends : Ends N) (faces : Option (List Face)) (orders : Option (List FaceOrder)) (f g : FoldFile)
    → IsDrawingFile k parts class ends faces orders f → IsDrawingFile k parts class ends faces orders g → f ≡ g) where
  -- a folded sheet has one file
  pub same_file : (layout : Layout N W) (orders : Option (List FaceOrder)) (f g : FoldFile) → IsFoldedFile k parts layout orders f → IsFoldedFile k parts layout orders g → f ≡ g
  same_file layout orders f g h i =
      let edges : h.0 ≡ i.0 = h.1 ∙ sym i.1 in
      once (codes "foldedForm") (record { coords = layout.images; edges = h.0 }) (Some layout.corners) orders f g h.2
      (subst (λ (es : List Edge). IsDrawingFile k parts (codes "foldedForm") (record { coords = layout.images; edges = es }) (Some layout.corners) orders g) (sym edges) i.2)

  -- .. and so has a drawing
  pub same_form : {root : ℕ} {surd : W → Surd ℤ} (K : ComputedField N) (numbers : SurdNumbers root surd) (drawing : Ends N × List Face)
      → ((layout other : Layout N W) → IsFoldedFrom parts K numbers drawing layout → IsFoldedFrom parts K numbers drawing other → layout ≡ other)
      → (orders : Option (List FaceOrder)) (f g : FoldFile) → HasForm k parts K numbers drawing orders f → HasForm k parts K numbers drawing orders g → f ≡ g
  same_form K numbers drawing one orders f g h i =
      let same : h.0 ≡ i.0 = one h.0 i.0 h.1 i.1 in
      same_file h.0 orders f g h.2 (subst (λ (layout : Layout N W). IsFoldedFile k parts layout orders g) (sym same) i.2)
