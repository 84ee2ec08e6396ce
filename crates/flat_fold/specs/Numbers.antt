-- How images are numbered: vertex by vertex, and of each vertex face by face, a number for each place that is new.
use Rattle.std.specs.Prelude.{◌≡◌, ◌⊎◌, ℕ, ℤ, List, [], ◌∷◌, ◌++◌, ◌<◌, ◌≤◌, ◌+◌, ◌^◌, pos, length, Option, Some, None, slice_index_or}
use Rattle.std.specs.Ordering.{nat_cmp, int_cmp, ordering_then}
use Rattle.std.specs.declared.cmp.Ordering.{Ordering}
use Rattle.std.specs.declared.cmp.Ordering.TheVariants.{Equal}
use Rattle.algebra.specs.LowestTerms.{Parts}
use Rattle.algebra.specs.OrderedField.{OrderedField}
use Rattle.scaled_plane.specs.declared.point.Pair.{Pair}
use Rattle.flat_fold.specs.declared.images.LaidVertex.{LaidVertex}
use Rattle.flat_fold.specs.declared.images.Origin.{Origin}
use Rattle.scaled_plane.specs.declared.drawing.Face.{Face}
use Rattle.flat_fold.specs.declared.motion.Motion.{Motion}
use Rattle.flat_fold.specs.Computed.{ComputedField, Fits}
use Rattle.flat_fold.specs.Faces.{corners_at}
use Rattle.flat_fold.specs.Images.{origin_at, image_at, IsBefore, IsNumberOf, Gives, AreImages}
use Rattle.flat_fold.specs.Places.{laid_order, laying_by}

-- an entry of the map of places
abbrev pub laid_vertex : {A : Type 0} → (ℕ × ℕ) × Pair A → LaidVertex A
laid_vertex e = record { vertex = e.0.0; face = e.0.1; place = e.1 }

abbrev pub PlaceKey : Type 0
PlaceKey = ℕ × (ℤ × ℤ × ℤ) × (ℤ × ℤ × ℤ)

abbrev parts_order : ℤ × ℤ × ℤ → ℤ × ℤ × ℤ → Ordering
parts_order p q = ordering_then (ordering_then (int_cmp p.0 q.0) (int_cmp p.1 q.1)) (int_cmp p.2 q.2)

abbrev pub place_order : PlaceKey → PlaceKey → Ordering
place_order p q = ordering_then (ordering_then (nat_cmp p.0 q.0) (parts_order p.1 q.1)) (parts_order p.2 q.2)

-- a vertex and a place, by the parts of its coordinates
abbrev pub place_key : {A : Type 0} → (A → Parts) → ℕ → Pair A → PlaceKey
place_key parts v a = (v, ((parts a.x).a, (parts a.x).b, (parts a.x).q), ((parts a.y).a, (parts a.y).b, (parts a.y).q))

-- a map, after x is put at the key k
pub record Puts {Q X : Type 0} (order : Q → Q → Ordering) (old new : Q → Option X) (k : Q) (x : X) : Type 0 where
  pub here : new k ≡ Some x
  pub apart : (q : Q) → ¬ (order k q ≡ Equal) → new q ≡ old q

module _ {A : Type 0} (parts : A → Parts) where
  -- the vertex has an image at this place already
  pub record IsKnown (at : LaidVertex A) (known known' : PlaceKey → Option ℕ) (origins origins' : List Origin) (images images' : List (Pair A)) (i : ℕ) : Type 0 where
    pub found : known (place_key parts at.vertex at.place) ≡ Some i
    pub same_known : (q : PlaceKey) → known' q ≡ known q
    pub same_origins : origins' ≡ origins
    pub same_images : images' ≡ images

  -- it has none, and the next number is its image's
  pub record IsAdded (at : LaidVertex A) (known known' : PlaceKey → Option ℕ) (origins origins' : List Origin) (images images' : List (Pair A)) (i : ℕ) : Type 0 where
    pub absent : known (place_key parts at.vertex at.place) ≡ None
    pub number : i ≡ length images
    pub put : Puts place_order known known' (place_key parts at.vertex at.place) i
    pub more_origins : origins' ≡ origins ++ record { vertex = at.vertex; face = at.face } ∷ []
    pub more_images : images' ≡ images ++ at.place ∷ []

-- whose image it may be
abbrev pub origin_of : {A : Type 0} → LaidVertex A → Origin
origin_of at = record { vertex = at.vertex; face = at.face }

module _ {A : Type 0} (F : OrderedField A) (laid : List (LaidVertex A)) where
  abbrev pub laid_at : ℕ → LaidVertex A
  laid_at j = slice_index_or laid j (record { vertex = 0; face = 0; place = record { x = F.int (pos 0); y = F.int (pos 0) } })

  -- by the vertex, then by the face
  abbrev pub AreInOrder : Type 0
  AreInOrder = (i j : ℕ) → i < j → j < length laid → IsBefore (origin_of (laid_at i)) (origin_of (laid_at j))

  -- the first n laid vertices have their images numbered
  pub record AreNumberedTo (parts : A → Parts) (n : ℕ) (known : PlaceKey → Option ℕ) (numbers : ℕ × ℕ → Option ℕ) (origins : List Origin) (images : List (Pair A)) : Type 0 where
    pub long : length origins ≡ length images
    pub few : length images ≤ n
    pub known_is : (v : ℕ) (a : Pair A) (i : ℕ) → known (place_key parts v a) ≡ Some i → IsNumberOf F origins images i v a
    pub from : (i : ℕ) → i < length images → (j : ℕ) × (j < n) × (origin_of (laid_at j) ≡ origin_at origins i) × ((laid_at j).place ≡ image_at F images i)
    pub least : (i j : ℕ) → i < length images → j < n → (laid_at j).vertex ≡ (origin_at origins i).vertex → (laid_at j).place ≡ image_at F images i → (origin_at origins i).face ≤ (laid_at j).face
    pub all : (j : ℕ) → j < n → (i : ℕ) × (numbers ((laid_at j).vertex, (laid_at j).face) ≡ Some i) × (known (place_key parts (laid_at j).vertex (laid_at j).place) ≡ Some i)
    pub in_order : (i j : ℕ) → i < j → j < length images → IsBefore (origin_at origins i) (origin_at origins j)

  -- all of them have
  pub record AreNumbered (numbers : ℕ × ℕ → Option ℕ) (origins : List Origin) (images : List (Pair A)) : Type 0 where
    pub long : length origins ≡ length images
    pub few : length images ≤ length laid
    pub from : (i : ℕ) → i < length images → (j : ℕ) × (j < length laid) × (origin_of (laid_at j) ≡ origin_at origins i) × ((laid_at j).place ≡ image_at F images i)
    pub least : (i j : ℕ) → i < length images → j < length laid → (laid_at j).vertex ≡ (origin_at origins i).vertex → (laid_at j).place ≡ image_at F images i → (origin_at origins i).face ≤ (laid_at j).face
    pub all : (j : ℕ) → j < length laid → (i : ℕ) × (numbers ((laid_at j).vertex, (laid_at j).face) ≡ Some i) × IsNumberOf F origins images i (laid_at j).vertex (laid_at j).place
    pub in_order : (i j : ℕ) → i < j → j < length images → IsBefore (origin_at origins i) (origin_at origins j)

-- the number of each vertex's image by each face
pub record AreKnownNumbers {A : Type 0} (F : OrderedField A) (coords : List (Pair A)) (faces : List Face) (maps : List (Motion A)) (numbers : ℕ × ℕ → Option ℕ) (origins : List Origin) (images : List (Pair A)) : Type 0 where
  pub each : (f v : ℕ) (a : Pair A) → Gives F coords faces maps f v a → (i : ℕ) × (numbers (v, f) ≡ Some i) × IsNumberOf F origins images i v a

-- everything is laid without overflow, and these are the images with their numbers
pub record AreLaid {A : Type 0} (K : ComputedField A) (coords : List (Pair A)) (faces : List Face) (maps : List (Motion A)) (numbers : ℕ × ℕ → Option ℕ) (origins : List Origin) (images : List (Pair A)) : Type 0 where
  pub fits : (f k : ℕ) → f < length faces → k < length (corners_at faces f) → Fits (laying_by K coords faces maps f k)
  pub images_are : AreImages K.field coords faces maps origins images
  pub known : AreKnownNumbers K.field coords faces maps numbers origins images
  pub few : length images < 2 ^ 32
