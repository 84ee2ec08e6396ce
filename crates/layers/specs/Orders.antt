-- Which face is above which, by a list of orders of two faces.
use Rattle.std.specs.Prelude.{◌≡◌, ◌⊎◌, ℕ, ◌<◌, Bool, true, false, List, Contains, Some, slice_get}
use Rattle.std.specs.Ordering.{ordering_reverse}
use Rattle.std.specs.declared.cmp.Ordering.{Ordering}
use Rattle.std.specs.declared.cmp.Ordering.TheVariants.{Less, Greater}
use Rattle.algebra.specs.OrderedRing.{OrderedRing}
use Rattle.layers.specs.Sheets.{FoldedFace, FoldedSheet, Overlap}

-- On which side of the other face a face lies: `Greater` for the side to which the other's normal
-- points, `Less` for its back, and `Equal` where nothing is said. The normal of a face that isn't
-- turned points up.
pub record LayerOrder : Type 0 where
  pub face : ℕ
  pub other : ℕ
  pub normal_side : Ordering

-- the same seen from above, where the normal of a turned face points down
abbrev pub seen_from_above : Bool → Ordering → Ordering
seen_from_above false s = s
seen_from_above true s = ordering_reverse s

-- the order, which is one of two different faces, says that f is above g
pub record Says {A : Type 0} (sheet : FoldedSheet A) (order : LayerOrder) (f g : ℕ) : Type 0 where
  pub different : ¬ (f ≡ g)
  pub other : FoldedFace A
  pub is_other : slice_get sheet.faces order.other ≡ Some other
  pub says : (order.face ≡ f) × (order.other ≡ g) × (seen_from_above other.turned order.normal_side ≡ Greater)
      ⊎ (order.face ≡ g) × (order.other ≡ f) × (seen_from_above other.turned order.normal_side ≡ Less)

-- some order says so
pub record Above {A : Type 0} (sheet : FoldedSheet A) (orders : List LayerOrder) (f g : ℕ) : Type 0 where
  pub order : LayerOrder
  pub is_order : Contains orders order
  pub says : Says sheet order f g

-- the orders at two places of the list say opposite things of two faces
pub record Opposed {A : Type 0} (sheet : FoldedSheet A) (orders : List LayerOrder) (i j : ℕ) : Type 0 where
  pub upper : ℕ
  pub lower : ℕ
  pub first : LayerOrder
  pub is_first : slice_get orders i ≡ Some first
  pub first_says : Says sheet first upper lower
  pub second : LayerOrder
  pub is_second : slice_get orders j ≡ Some second
  pub second_says : Says sheet second lower upper

module _ (above : ℕ → ℕ → Type 0) where
  -- no face is above another and below it
  abbrev pub NoClash : Type 0
  NoClash = (f g : ℕ) → above f g → ¬ above g f

  -- f is above one of g and h and below the other
  abbrev pub LiesBetween : ℕ → ℕ → ℕ → Type 0
  LiesBetween f g h = above f g × above h f ⊎ above f h × above g f

  -- exactly one of the faces h and k is between f and g
  abbrev pub OneBetween : ℕ → ℕ → ℕ → ℕ → Type 0
  OneBetween h k f g = LiesBetween h f g × ¬ LiesBetween k f g ⊎ ¬ LiesBetween h f g × LiesBetween k f g

-- each is above every later one
abbrev pub Descending : {X : Type 0} → (X → X → Type 0) → List X → Type 0
Descending above xs = (i j : ℕ) → i < j → (f g : _) → slice_get xs i ≡ Some f → slice_get xs j ≡ Some g → above f g

module _ {A : Type 0} (K : OrderedRing A) (sheet : FoldedSheet A) (above : ℕ → ℕ → Type 0) where
  -- of two faces that overlap, one is above the other
  abbrev pub RanksOverlaps : Type 0
  RanksOverlaps = (f g : ℕ) → ¬ (f ≡ g) → Overlap K sheet f g → above f g ⊎ above g f

  -- two faces that overlap, neither above the other, the lesser id first
  pub record Unranked (f g : ℕ) : Type 0 where
    pub ordered : f < g
    pub overlap : Overlap K sheet f g
    pub not_above : ¬ above f g
    pub not_below : ¬ above g f
