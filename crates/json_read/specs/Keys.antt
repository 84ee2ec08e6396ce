-- a look for a key among the members of an object
use Rattle.std.specs.Prelude.{ℕ, Bool, false, ◌||◌, List, slice_get}
use Rattle.std.specs.BTreeMap as map
use Rattle.std.specs.BTreeSet.{contains_text}
use Rattle.std.specs.Option.{option_map_or}
use Rattle.std.specs.Ordering.{nat_cmp}
use Rattle.std.specs.Str.{bytes_eq}
use Rattle.json_tree.specs.declared.tree.Member.{Member}
use Rattle.json_read.specs.Fnv.{fnv_1a}
use Rattle.json_read.specs.declared.key_index.KeyIndex.{KeyIndex}

-- the member at this place has the key
abbrev pub stands_at : List Member → ℕ → List ℕ → Bool
stands_at members place key = option_map_or (λ member. bytes_eq member.key key) (slice_get members place) false

-- the member at the place of the key's hash has the key, or the key is one of the others
abbrev pub finds : KeyIndex → List Member → List ℕ → Bool
finds index members key = option_map_or (λ place. stands_at members place key) (map.get nat_cmp index.places (fnv_1a key)) false || contains_text index.others key
