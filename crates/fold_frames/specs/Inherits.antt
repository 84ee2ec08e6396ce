-- what a frame inherits
use Rattle.std.specs.Prelude.{◌≡◌, ℕ, List, [], ◌∷◌, Bool, false, Some, None, slice_get, filter, not, map, codes, ◌||◌}
use Rattle.std.specs.List.{AllByRecursion, starts_with}
use Rattle.std.specs.Option.{option_map_or}
use Rattle.std.specs.Str.{bytes_eq}
use Rattle.std.proofs.Math.Dec.{eqb}
use Rattle.indexmap.specs.IndexMap.{insert_all}
use Rattle.fold_keys.specs.declared.value.Entry.{Entry}
use Rattle.fold_keys.specs.declared.value.Frame.{Frame}
use Rattle.fold_keys.specs.declared.value.Value.{Value}
use Rattle.fold_frames.specs.Parents.{value_at, IsPath}

-- no effective frame has this key
abbrev pub is_left_out : List ℕ → Bool
is_left_out key =
    starts_with eqb key (codes "file_")
    || (bytes_eq key (codes "frame_parent") || bytes_eq key (codes "frame_inherit"))

-- entries as keys with their values
abbrev pub pairs : List Entry → List (List ℕ × Value)
pairs entries = map (λ e. (e.key, e.value)) entries

-- what entries give to an effective frame
abbrev pub given : List Entry → List (List ℕ × Value)
given entries = pairs (filter (λ e. not (is_left_out e.key)) entries)

-- the entries of the frame with this number
abbrev pub entries_at : List Frame → ℕ → List Entry
entries_at frames f = option_map_or (λ frame. frame.entries) (slice_get frames f) []

-- what the first of these frames has, where each inherits from the next: the keys of the next in
-- their order, with the values that the frame gives in their places, and then its own new keys
abbrev pub inherited : List Frame → List ℕ → List (List ℕ × Value)
inherited frames [] = []
inherited frames (f ∷ way) =
    insert_all bytes_eq (inherited frames way) (given (entries_at frames f))

-- frame k has this key with this value, by itself or from a frame that parents lead to, if no frame
-- before that one gives the key
abbrev pub HasInEffect : List Frame → ℕ → List ℕ → Value → Type 0
HasInEffect frames k key value =
    (path : List ℕ) × (f : ℕ) × IsPath frames k path f
    × (value_at (entries_at frames f) key ≡ Some value)
    × AllByRecursion (λ g. value_at (entries_at frames g) key ≡ None) path
    × (is_left_out key ≡ false)
