-- from which frames a frame inherits
use Rattle.std.specs.Prelude.{◌≡◌, ◌≢◌, ◌≤◌, ◌<◌, ℕ, List, [], ◌∷◌, ◌++◌, true, Option, Some, None, AllPairs, find, option_map, option_and_then, slice_get, length, codes}
use Rattle.std.specs.Str.{bytes_eq}
use Rattle.fold_keys.specs.declared.value.Entry.{Entry}
use Rattle.fold_keys.specs.declared.value.Frame.{Frame}
use Rattle.fold_keys.specs.declared.value.Value.{Value}
use Rattle.fold_keys.specs.declared.value.Value.TheVariants as values

-- the value of the first entry with this key
abbrev pub value_at : List Entry → List ℕ → Option Value
value_at entries key = option_map (λ e. e.value) (find (λ e. bytes_eq e.key key) entries)

abbrev pub parent_by : Option Value → Option Value → Option ℕ
parent_by (Some (values.Truth true)) (Some (values.Id parent)) = Some parent
parent_by inherit parent = None

-- the number of the frame from which a frame inherits, if it does
abbrev pub parent_of : Frame → Option ℕ
parent_of frame =
    parent_by (value_at frame.entries (codes "frame_inherit"))
    (value_at frame.entries (codes "frame_parent"))

-- the number of the parent of the frame with this number
abbrev pub parent_at : List Frame → ℕ → Option ℕ
parent_at frames k = option_and_then parent_of (slice_get frames k)

-- each of these frames, from `frame` on, inherits from the next, and the last from `to`
abbrev pub IsPath : List Frame → ℕ → List ℕ → ℕ → Type 0
IsPath frames frame [] to = frame ≡ to
IsPath frames frame (f ∷ path) to =
    (f ≡ frame) × (next : ℕ) × (parent_at frames frame ≡ Some next) × IsPath frames next path to

-- frame k and all from which it inherits, each before its parent
abbrev pub IsWay : List Frame → ℕ → List ℕ → Type 0
IsWay frames k way =
    (path : List ℕ) × (last : ℕ) × (way ≡ path ++ last ∷ []) × IsPath frames k path last
    × (last < length frames) × (parent_at frames last ≡ None)

-- parents lead from frame k to f, which inherits from a number that no frame has
abbrev pub LeavesAt : List Frame → ℕ → ℕ → Type 0
LeavesAt frames k f =
    (path : List ℕ) × (parent : ℕ) × IsPath frames k path f × (parent_at frames f ≡ Some parent)
    × (length frames ≤ parent)

-- parents lead from frame k to f and from f to itself, and meet no frame twice before
abbrev pub ReturnsAt : List Frame → ℕ → ℕ → Type 0
ReturnsAt frames k f =
    (path : List ℕ) × (round : List ℕ) × IsPath frames k path f × IsPath frames f round f
    × (0 < length round) × AllPairs (λ g h. g ≢ h) (path ++ round)
