-- The images of edges are few, and have their ends among the images.
use Rattle.std.proofs.Common.{◌≡◌, ◌∙◌, ap, sym, refl, subst, ℕ, zero, suc, List, [], ◌∷◌, ◌++◌, ◌<◌, ◌≤◌, ◌+◌, ◌*◌, length, map, Bool, true, false, Option, Some, None, Result, Ok, Err, IfOk, arith, length-append}
use Rattle.std.specs.Prelude.{slice_index_or, drop, IfSome, nat_eq, nat_lt, ◌&&◌, if◌then◌else◌}
use Rattle.std.specs.List.{AllByRecursion}
use Rattle.std.specs.declared.alloc.AllocError.{AllocError}
use Rattle.std.proofs.lemmas.List.{length-map}
use Rattle.fold_base.specs.declared.letter.Letter.{Letter}
use Rattle.scaled_plane.specs.Walks.{pieces_on_to, pieces_round}
use Rattle.scaled_plane.specs.declared.drawing.Edge.{Edge}
use Rattle.scaled_plane.specs.declared.drawing.Face.{Face}
use Rattle.flat_fold.specs.declared.sides.Side.{Side}
use Rattle.flat_fold.specs.declared.sides.Sides.{Sides}
use Rattle.flat_fold.specs.EdgeImages.{IsCornerOf, along, both, edge_images, end_images, image_of, images_of, swapped}
use Rattle.flat_fold.specs.EdgeSides.{IsSide, KnowsSides, sides_at}
use Rattle.flat_fold.specs.Faces.{corners_at, edge_at}
use Rattle.flat_fold.proofs.SideLaws.{begins-corner, length-pieces}

either : {X : Type 0} (P : X → Type 0) (b : Bool) (x y : X) → P x → P y → P (if b then x else y)
either P true x y h k = h
either P false x y h k = k

at-place : {X : Type 0} (P : X → Type 0) (xs : List X) (i : ℕ) (d : X) → i < length xs → AllByRecursion P xs → P (slice_index_or xs i d)
at-place P [] i d l h = absurd (omega (arith, l))
at-place P (x ∷ xs) zero d l h = h.0
at-place P (x ∷ xs) (suc i) d l h = at-place P xs i d (omega (arith, l)) h.1

all-append : {X : Type 0} (P : X → Type 0) (xs ys : List X) → AllByRecursion P xs → AllByRecursion P ys → AllByRecursion P (xs ++ ys)
all-append P [] ys h k = k
all-append P (x ∷ xs) ys h k = (h.0, all-append P xs ys h.1 k)

module _ (corners : List Face) where
  -- ---- at most two of each edge

  few-ends : (left right : Option Side) → length (end_images corners left right) ≤ 2
  few-ends None None = omega arith
  few-ends (Some l) None = omega arith
  few-ends None (Some r) = omega arith
  few-ends (Some l) (Some r) =
      either (λ (ps : List (ℕ × ℕ)). length ps ≤ 2) (nat_lt r.face l.face) (both (swapped (along corners r)) (along corners l)) (both (along corners l) (swapped (along corners r)))
      (few-both (swapped (along corners r)) (along corners l)) (few-both (along corners l) (swapped (along corners r)))
    where
      few-both : (p q : ℕ × ℕ) → length (both p q) ≤ 2
      few-both p q = either (λ (ps : List (ℕ × ℕ)). length ps ≤ 2) (nat_eq p.0 q.0 && nat_eq p.1 q.1) (p ∷ []) (p ∷ q ∷ []) (omega arith) (omega arith)

  pub few-images : (edges : List Edge) (sides : List Sides) → length (edge_images corners edges sides) ≤ 2 * length edges
  few-images [] sides = omega arith
  few-images (edge ∷ edges) [] = omega arith
  few-images (edge ∷ edges) (s ∷ sides) =
      let here : length (images_of corners edge.letter s) ≡ length (end_images corners s.left s.right) = length-map (end_images corners s.left s.right) (image_of edge.letter) in
      let most : length (end_images corners s.left s.right) ≤ 2 = few-ends s.left s.right in
      let rest : length (edge_images corners edges sides) ≤ 2 * length edges = few-images edges sides in
      let all : length (images_of corners edge.letter s ++ edge_images corners edges sides) ≡ length (images_of corners edge.letter s) + length (edge_images corners edges sides)
      = length-append (images_of corners edge.letter s) (edge_images corners edges sides) in
      omega (arith, here, most, rest, all)

  -- ---- their ends are images

  module _ (n : ℕ) where
    abbrev IsIn : ℕ × ℕ → Type 0
    IsIn p = (p.0 < n) × (p.1 < n)

    abbrev pub HasEnds : Edge → Type 0
    HasEnds image = (image.from < n) × (image.to < n)

    on-within : (first : ℕ) (xs : List ℕ) → first < n → AllByRecursion (λ c. c < n) xs → AllByRecursion IsIn (pieces_on_to first xs)
    on-within first [] f h = tt
    on-within first (u ∷ []) f h = ((h.0, f), tt)
    on-within first (u ∷ (v ∷ rest)) f h = ((h.0, h.1.0), on-within first (v ∷ rest) f h.1)

    round-within : (xs : List ℕ) → AllByRecursion (λ c. c < n) xs → AllByRecursion IsIn (pieces_round xs)
    round-within [] h = tt
    round-within (u ∷ rest) h = on-within u (u ∷ rest) h.0 h

    module _ (within : (f : ℕ) → f < length corners → AllByRecursion (λ c. c < n) (corners_at corners f)) where
      along-within : (side : Side) → IsCornerOf corners side → IsIn (along corners side)
      along-within side is =
          let long = length-pieces (corners_at corners side.face) in
          let l = is.1 in
          at-place IsIn (pieces_round (corners_at corners side.face)) side.corner (0, 0) (omega (arith, long, l)) (round-within (corners_at corners side.face) (within side.face is.0))

      both-within : (p q : ℕ × ℕ) → IsIn p → IsIn q → AllByRecursion IsIn (both p q)
      both-within p q h k = either (λ (ps : List (ℕ × ℕ)). AllByRecursion IsIn ps) (nat_eq p.0 q.0 && nat_eq p.1 q.1) (p ∷ []) (p ∷ q ∷ []) (h, tt) (h, (k, tt))

      ends-within : (left right : Option Side) → IfSome left (IsCornerOf corners) → IfSome right (IsCornerOf corners) → AllByRecursion IsIn (end_images corners left right)
      ends-within None None h k = tt
      ends-within (Some l) None h k = (along-within l h, tt)
      ends-within None (Some r) h k = (let at = along-within r k in (at.1, at.0), tt)
      ends-within (Some l) (Some r) h k =
          let there = along-within l h in
          let back : IsIn (swapped (along corners r)) = let at = along-within r k in (at.1, at.0) in
          either (λ (ps : List (ℕ × ℕ)). AllByRecursion IsIn ps) (nat_lt r.face l.face) (both (swapped (along corners r)) (along corners l)) (both (along corners l) (swapped (along corners r)))
          (both-within (swapped (along corners r)) (along corners l) back there) (both-within (along corners l) (swapped (along corners r)) there back)

      images-within : (letter : Letter) (ps : List (ℕ × ℕ)) → AllByRecursion IsIn ps → AllByRecursion HasEnds (map (image_of letter) ps)
      images-within letter [] h = tt
      images-within letter (p ∷ ps) h = (h.0, images-within letter ps h.1)

      pub all-within : (edges : List Edge) (sides : List Sides)
          → ((e : ℕ) → e < length sides → IfSome (sides_at sides e).left (IsCornerOf corners) × IfSome (sides_at sides e).right (IsCornerOf corners))
          → AllByRecursion HasEnds (edge_images corners edges sides)
      all-within [] sides h = tt
      all-within (edge ∷ edges) [] h = tt
      all-within (edge ∷ edges) (s ∷ sides) h =
          let here = h 0 (omega arith) in
          all-append HasEnds (images_of corners edge.letter s) (edge_images corners edges sides)
          (images-within edge.letter (end_images corners s.left s.right) (ends-within s.left s.right here.0 here.1))
          (all-within edges sides (λ e l. h (suc e) (omega (arith, l))))

-- ---- the corners at which pieces begin

module _ (faces corners : List Face) (long : length corners ≡ length faces) (alike : (f : ℕ) → length (corners_at corners f) ≡ length (corners_at faces f)) where
  pub side-corner : (u v : ℕ) (o : Option Side) → IsSide faces u v o → IfSome o (IsCornerOf corners)
  side-corner u v None h = tt
  side-corner u v (Some side) h =
      let corner : side.corner < length (corners_at faces side.face) = begins-corner faces side.face side.corner u v h in
      let same : length (corners_at corners side.face) ≡ length (corners_at faces side.face) = alike side.face in
      let face : side.face < length faces = h.is_face in
      (omega (arith, face, long), omega (arith, corner, same))

  pub fit-sides : (edges : List Edge) (sides : List Sides) → KnowsSides faces edges sides → (edges' : List Edge) (sides' : List Sides) (corners' : List Face) → edges' ≡ edges → sides' ≡ sides → corners' ≡ corners
      → (e : ℕ) → e < length edges' → IfSome (sides_at sides' e).left (IsCornerOf corners') × IfSome (sides_at sides' e).right (IsCornerOf corners')
  fit-sides edges sides known edges' sides' corners' es ss cs e l =
      let within : e < length edges = subst (λ (xs : List Edge). e < length xs) es l in
      let has = known.each e within in
      subst (λ (t : List Sides). IfSome (sides_at t e).left (IsCornerOf corners') × IfSome (sides_at t e).right (IsCornerOf corners')) (sym ss)
      (subst (λ (t : List Face). IfSome (sides_at sides e).left (IsCornerOf t) × IfSome (sides_at sides e).right (IsCornerOf t)) (sym cs)
      (side-corner (edge_at edges e).from (edge_at edges e).to (sides_at sides e).left has.left, side-corner (edge_at edges e).to (edge_at edges e).from (sides_at sides e).right has.right))

-- ---- what is answered

module _ (corners : List Face) (edges : List Edge) (sides : List Sides) where
  abbrev Gives : Result (List Edge) AllocError → Type 0
  Gives r = IfOk r (λ images. images ≡ edge_images corners edges sides)

  pub few-answered : length edges ≤ 2048 → (r : Result (List Edge) AllocError) → Gives r → IfOk r (λ images. length images ≤ 4096)
  few-answered few (Err error) h = tt
  few-answered few (Ok images) h =
      let most : length (edge_images corners edges sides) ≤ 2 * length edges = few-images corners edges sides in
      let same : length images ≡ length (edge_images corners edges sides) = ap (λ (xs : List Edge). length xs) h in
      omega (arith, most, same, few)

  pub within-answered : (n : ℕ) → ((f : ℕ) → f < length corners → AllByRecursion (λ c. c < n) (corners_at corners f))
      → ((e : ℕ) → e < length sides → IfSome (sides_at sides e).left (IsCornerOf corners) × IfSome (sides_at sides e).right (IsCornerOf corners))
      → (r : Result (List Edge) AllocError) → Gives r → IfOk r (AllByRecursion (λ image. (image.from < n) × (image.to < n)))
  within-answered n within fit (Err error) h = tt
  within-answered n within fit (Ok images) h =
      subst (λ (xs : List Edge). AllByRecursion (HasEnds corners n) xs) (sym h) (all-within corners n within edges sides fit)

-- what holds at each place holds of all
pub all-at : {X : Type 0} (P : X → Type 0) (xs : List X) (d : X) → ((i : ℕ) → i < length xs → P (slice_index_or xs i d)) → AllByRecursion P xs
all-at P [] d h = tt
all-at P (x ∷ xs) d h = (h 0 (omega arith), all-at P xs d (λ i l. h (suc i) (omega (arith, l))))

-- .. so the corners of faces by their images are images
pub corners-within : (corners faces : List Face) (n : ℕ) → length corners ≡ length faces → ((f : ℕ) → length (corners_at corners f) ≡ length (corners_at faces f))
    → ((f k : ℕ) → f < length faces → k < length (corners_at faces f) → slice_index_or (corners_at corners f) k 0 < n)
    → (f : ℕ) → f < length corners → AllByRecursion (λ c. c < n) (corners_at corners f)
corners-within corners faces n long alike each f l =
    all-at (λ c. c < n) (corners_at corners f) 0 (λ k m. each f k (omega (arith, l, long)) (let same : length (corners_at corners f) ≡ length (corners_at faces f) = alike f in omega (arith, m, same)))
