-- the drawing of a folded sheet can be written as a file
use Rattle.std.proofs.Common.{◌≡◌, ◌∙◌, ap, sym, subst, ℕ, ℤ, ◌+◌, ◌*◌, ◌^◌, ◌<◌, ◌≤◌, List, [], length, Option, Some, Result, Ok, Err, codes, IfOk, inl, inr, arith}
use Rattle.std.specs.Prelude.{slice_index_or}
use Rattle.std.specs.List.{AllByRecursion}
use Rattle.std.proofs.lemmas.Bool.{cases_lt}
use Rattle.std.proofs.lemmas.List.{get_or_default}
use Rattle.algebra.specs.LowestTerms.{Parts}
use Rattle.algebra.specs.NumberField.{HoldsNumbers}
use Rattle.algebra.specs.OrderedField.{OrderedField}
use Rattle.algebra.specs.Surd.{Surd}
use Rattle.algebra.specs.WholeSurds.{SurdNumbers}
use Rattle.crease_input.specs.Files.{AreFacesWithin, AreOrdersWithin, HasCornersWithin, IsDrawingFile, IsFileable}
use Rattle.fold_keys.specs.declared.value.FaceOrder.{FaceOrder}
use Rattle.fold_keys.specs.declared.value.FoldFile.{FoldFile}
use Rattle.form_file.specs.Files.{IsFoldedFile}
use Rattle.std.specs.declared.alloc.AllocError.{AllocError}
use Rattle.flat_fold.specs.EdgeImages.{AreEdgeImages}
use Rattle.flat_fold.specs.Faces.{corners_at}
use Rattle.flat_fold.specs.Folded.{IsFolded, Layout}
use Rattle.flat_fold.specs.Images.{origin_at}
use Rattle.flat_fold.specs.Sheets.{FormSheet, Pattern}
use Rattle.flat_fold.specs.declared.images.Origin.{Origin}
use Rattle.flat_fold.proofs.EdgeImageLaws.{all-at}
use Rattle.flat_fold.proofs.ImageLaws.{corner-face, rising}
use Rattle.flat_fold.proofs.SheetLaws as sheets
use Rattle.scaled_plane.specs.declared.drawing.Edge.{Edge}
use Rattle.scaled_plane.specs.declared.drawing.Face.{Face}
use Rattle.scaled_plane.specs.declared.point.Pair.{Pair}
use Rattle.form_file.proofs.Short.{short_scaled}

module _ {N W : Type 0} {j root : ℕ} {surd : W → Surd ℤ} (parts : N → Parts) (holds : HoldsNumbers j parts) (F : OrderedField N) (numbers : SurdNumbers root surd)
    (layout : Layout N W) (sheet : FormSheet parts numbers layout.sheet.ends layout.sheet.faces) (folded : IsFolded parts F numbers layout) where
  abbrev coords : List (Pair N)
  coords = layout.sheet.ends.coords

  abbrev faces : List Face
  faces = layout.sheet.faces

  abbrev origin : ℕ → Origin
  origin i = origin_at layout.origins i

  -- an image is of a vertex, given by a face
  face_few : (i : ℕ) → i < length layout.images → (origin i).face < 512
  face_few i l =
      let given = (folded.folding.images_are.each i l).given in
      let within : (origin i).face < length faces = corner-face faces (origin i).face (origin i).vertex given.corner in
      omega (arith, within, sheet.few_faces)

  vertex_few : (i : ℕ) → i < length layout.images → (origin i).vertex < 16384
  vertex_few i l =
      let corner = (folded.folding.images_are.each i l).given.corner in
      let face : (origin i).face < length faces = corner-face faces (origin i).face (origin i).vertex corner in
      let within : slice_index_or (corners_at faces (origin i).face) corner.0 (origin i).vertex < length coords
      = sheets.corners-in_range layout.sheet.ends faces sheet (origin i).face corner.0 (origin i).vertex face corner.1 in
      let is : slice_index_or (corners_at faces (origin i).face) corner.0 (origin i).vertex ≡ (origin i).vertex = corner.2 in
      omega (arith, within, is, sheet.few_vertices)

  abbrev key : ℕ → ℕ
  key i = (origin i).vertex * 512 + (origin i).face

  rises : (i j : ℕ) → i < j → j < length layout.images → key i < key j
  rises i j less l =
      let face : (origin i).face < 512 = face_few i (omega (arith, less, l)) in
      elim (folded.folding.images_are.in_order i j less l) [
        | inl before ↦ omega (arith, before, face)
        | inr both ↦ let x = both.0 in let y = both.1 in omega (arith, x, y)
      ]

  -- there are at most as many images as vertices times faces
  pub images_few : length layout.images < 2 ^ 32
  images_few = elim (cases_lt 8388608 (length layout.images)) [
    | inl more ↦ (
        let last : 8388608 ≤ key 8388608 = rising key (length layout.images) rises 8388608 more in
        let face : (origin 8388608).face < 512 = face_few 8388608 more in
        let vertex : (origin 8388608).vertex < 16384 = vertex_few 8388608 more in
        absurd (omega (arith, last, face, vertex))
        )
    | inr few ↦ omega (arith, few)
  ]

  face_fits : (f : ℕ) → f < length faces → HasCornersWithin (length layout.images) (slice_index_or layout.corners f (record { corners = [] }))
  face_fits f l =
      let long : length (corners_at layout.corners f) ≡ length (corners_at faces f) = folded.corners_are.all_corners f in
      let few : length (corners_at faces f) ≤ 4096 = sheets.few-corners layout.sheet.ends faces sheet f l in (
        omega (arith, long, few),
        all-at (λ i. i < length layout.images) (corners_at layout.corners f) 0
            (λ k less. (folded.corners_are.each f k l (let e : length (corners_at layout.corners f) ≡ length (corners_at faces f) = long in omega (arith, less, e))).within),
      )

  pub faces_fit : AreFacesWithin (length layout.images) (Some layout.corners)
  faces_fit =
      let long : length layout.corners ≡ length faces = folded.corners_are.all_faces in (
        omega (arith, long, sheet.few_faces),
        all-at (HasCornersWithin (length layout.images)) layout.corners (record { corners = [] })
            (λ f less. face_fits f (omega (arith, less, long))),
      )

  -- with images of the edges between the images, and orders of the faces that are there
  pub fileable : (edges : List Edge) (orders : Option (List FaceOrder)) → length edges ≤ 4096
      → AllByRecursion (λ (e : Edge). (e.from < length layout.images) × (e.to < length layout.images)) edges
      → AreOrdersWithin (length faces) orders
      → IsFileable parts (record { coords = layout.images; edges = edges }) (Some layout.corners) orders
  fileable edges orders few within orders_fit = record {
    coords = short_scaled parts holds numbers layout.images layout.scaled folded.scaled_is;
    few_vertices = images_few;
    few_edges = omega (arith, few);
    edges = within;
    faces_fit = faces_fit;
    orders_fit = subst (λ n. AreOrdersWithin n orders) (sym folded.corners_are.all_faces) orders_fit;
  }

-- ---- as the code counts corners

module _ {N : Type 0} (given sheet : Pattern N) (same : given ≡ sheet) where
  module _ (faces : List Face) (are : faces ≡ given.faces) (f : ℕ) (within : f < length sheet.faces) (face : Face) (at : face ≡ slice_index_or faces f face)
      (count : ℕ) (is : count ≡ length face.corners) where
    pub count-is : count ≡ length (corners_at sheet.faces f)
    count-is =
        let all : faces ≡ sheet.faces = are ∙ ap (λ (p : Pattern N). p.faces) same in
        let there : face ≡ slice_index_or sheet.faces f (record { corners = [] })
        = at ∙ ap (λ (fs : List Face). slice_index_or fs f face) all ∙ get_or_default sheet.faces f face (record { corners = [] }) within in
        is ∙ ap (λ (x : Face). length x.corners) there

  pub count-few : {W : Type 0} {parts : N → Parts} {root : ℕ} {surd : W → Surd ℤ} {numbers : SurdNumbers root surd} → FormSheet parts numbers given.ends given.faces
      → (faces : List Face) → faces ≡ given.faces → (f : ℕ) → f < length sheet.faces → (face : Face) → face ≡ slice_index_or faces f face
      → (count : ℕ) → count ≡ length face.corners → count ≤ 4096
  count-few {W} {parts} {root} {surd} {numbers} form faces are f within face at count is =
      let here : FormSheet parts numbers sheet.ends sheet.faces = subst (λ (p : Pattern N). FormSheet parts numbers p.ends p.faces) same form in
      let few : length (corners_at sheet.faces f) ≤ 4096 = sheets.few-corners sheet.ends sheet.faces here f within in
      let long : count ≡ length (corners_at sheet.faces f) = count-is faces are f within face at count is in
      omega (arith, few, long)

-- ---- the file of the drawing is that of the folded sheet

module _ {N W : Type 0} (k : ℕ) (parts : N → Parts) (layout : Layout N W) (edges : List Edge) (images : AreEdgeImages layout edges) (coords : List (Pair N)) (are : coords ≡ layout.images)
    (faces : List Face) (by_images : faces ≡ layout.corners) (orders : Option (List FaceOrder)) where
  pub filed : (r : Result FoldFile AllocError) → IfOk r (λ file. IsDrawingFile k parts (codes "foldedForm") (record { coords = coords; edges = edges }) (Some faces) orders file)
      → IfOk r (IsFoldedFile k parts layout orders)
  filed (Err error) h = tt
  filed (Ok file) h = (
    edges,
    images,
    subst (λ (cs : List (Pair N)). IsDrawingFile k parts (codes "foldedForm") (record { coords = cs; edges = edges }) (Some layout.corners) orders file) are
        (subst (λ (fs : List Face). IsDrawingFile k parts (codes "foldedForm") (record { coords = coords; edges = edges }) (Some fs) orders file) by_images h),
  )
