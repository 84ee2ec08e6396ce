-- over which root a frame's exact texts are
use Rattle.std.specs.Prelude.{ℕ, List, [], ◌∷◌, ◌==◌, Option, count_by, option_map, codes, if◌then◌else◌}
use Rattle.fold_frames.specs.Parents.{value_at}
use Rattle.fold_keys.specs.declared.value.Entry.{Entry}
use Rattle.fold_keys.specs.declared.value.Value.{Value}
use Rattle.fold_keys.specs.declared.value.Value.TheVariants as values

-- a text with three commas is one over the root of 3
abbrev pub root_of_text : List ℕ → ℕ
root_of_text text = if count_by (λ b. b == 44) text == 3 then 3 else 2

-- the root is told by the first text of the first vertex, and is that of 2 where there is none
abbrev pub root_of_points : List (List ℕ × List ℕ) → ℕ
root_of_points [] = 2
root_of_points (point ∷ points) = root_of_text point.0

abbrev pub root_of_value : Value → ℕ
root_of_value (values.Exact points) = root_of_points points
root_of_value value = 2

-- the root of the exact texts among entries, where they have any
abbrev pub root_of : List Entry → Option ℕ
root_of entries = option_map root_of_value (value_at entries (codes "fx:vertices_coords"))
