-- Faces that are listed, and the walks that they go round.
use Rattle.std.specs.Prelude.{◌≡◌, ◌⊎◌, ℕ, ◌<◌, List, [], Bool, true, false, Contains, length, slice_index_or, slice_set}
use Rattle.scaled_plane.specs.declared.drawing.Face.{Face}
use Rattle.scaled_plane.specs.Lists.{IsRotation}
use Rattle.scaled_plane.specs.Walks.{pieces_round}
use Rattle.scaled_plane.specs.Scaling.{IsFirstOf}
use Rattle.flat_fold.specs.Faces.{corners_at}
use Rattle.sheet_check.specs.declared.listing.Listing.{Listing}
use Rattle.sheet_check.specs.declared.listing.Listing.TheVariants.{Wrong, Missing, Complete}

-- the corners go round the walk at this place
abbrev pub GoRound : List Face → List ℕ → ℕ → Type 0
GoRound walks corners w = (w < length walks) × IsRotation corners (corners_at walks w)

abbrev pub GoRoundNone : List Face → List ℕ → Type 0
GoRoundNone walks corners = (w : ℕ) → w < length walks → ¬ IsRotation corners (corners_at walks w)

-- each walk has a corner; each directed piece belongs to one walk at most, and no walk is another one begun elsewhere
pub record AreApart (walks : List Face) : Type 0 where
  pub some : (w : ℕ) → w < length walks → ¬ (corners_at walks w ≡ [])
  pub piece : (u v f g : ℕ) → Contains (pieces_round (corners_at walks f)) (u, v) → Contains (pieces_round (corners_at walks g)) (u, v) → f ≡ g
  pub rotation : (f g : ℕ) → f < length walks → g < length walks → IsRotation (corners_at walks f) (corners_at walks g) → f ≡ g

-- the walk at this place is marked
abbrev pub is_marked : List Bool → ℕ → Bool
is_marked marks w = slice_index_or marks w false

-- the walk that the corners go round is marked now and wasn't before; or there is none such, and nothing changes
abbrev pub Lists : List Face → List ℕ → List Bool → List Bool → Bool → Type 0
Lists walks corners old new true = (w : ℕ) × GoRound walks corners w × (is_marked old w ≡ false) × (new ≡ slice_set old w true)
Lists walks corners old new false = GoRoundNone walks corners ⊎ ((w : ℕ) × GoRound walks corners w × (is_marked old w ≡ true))

module _ (walks faces : List Face) where
  -- the face goes round no walk, or round that of an earlier face
  pub record IsWrong (f : ℕ) : Type 0 where
    pub in_range : f < length faces
    pub wrong : GoRoundNone walks (corners_at faces f) ⊎ ((g : ℕ) × (g < f) × IsRotation (corners_at faces f) (corners_at faces g))

  -- none of the first n faces is wrong, and the walks that these go round are marked
  pub record AreListed (n : ℕ) (marks : List Bool) : Type 0 where
    pub as_many : length marks ≡ length walks
    pub only : (w : ℕ) → is_marked marks w ≡ true → (g : ℕ) × (g < n) × IsRotation (corners_at faces g) (corners_at walks w)
    pub every : (g : ℕ) → g < n → (w : ℕ) × GoRound walks (corners_at faces g) w × (is_marked marks w ≡ true)
    pub right : (g : ℕ) → g < n → ¬ IsWrong g

  -- no face goes round the walk
  pub record IsMissing (w : ℕ) : Type 0 where
    pub in_range : w < length walks
    pub missing : (f : ℕ) → f < length faces → ¬ IsRotation (corners_at faces f) (corners_at walks w)

  -- each face goes round a walk, and no two round one
  pub record AreRight : Type 0 where
    pub every : (g : ℕ) → g < length faces → (w : ℕ) × GoRound walks (corners_at faces g) w
    pub right : (g : ℕ) → ¬ IsWrong g

  -- what becomes of the faces
  abbrev pub IsListing : Listing → Type 0
  IsListing (Wrong f) = IsFirstOf IsWrong f
  IsListing (Missing w) = AreRight × IsFirstOf IsMissing w
  IsListing Complete = AreRight × ((w : ℕ) → ¬ IsMissing w)

-- no two of the faces have one directed piece
abbrev pub OwnPieces : List Face → Type 0
OwnPieces faces = (u v f g : ℕ) → Contains (pieces_round (corners_at faces f)) (u, v) → Contains (pieces_round (corners_at faces g)) (u, v) → f ≡ g
