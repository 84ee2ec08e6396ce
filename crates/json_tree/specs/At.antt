-- what stands at a step into a tree
use Rattle.std.specs.Prelude.{ℕ, List, Option, None, option_map, find, slice_get}
use Rattle.std.specs.Str.{bytes_eq}
use Rattle.json_tree.specs.declared.tree.Json.{Json, Json-F, out-Json}
use Rattle.json_tree.specs.declared.tree.Json.TheOpen as layers
use Rattle.json_tree.specs.declared.tree.Member.{Member}
use Rattle.json_tree.specs.declared.access.Step.{Step}
use Rattle.json_tree.specs.declared.access.Step.TheVariants.{Key, Place}

-- the value of the first member with this key
abbrev pub value_of : List Member → List ℕ → Option Json
value_of members key = option_map (λ m. m.value) (find (λ m. bytes_eq m.key key) members)

-- the element, or the value of the member, that the step names, if there is one
abbrev pub value_in : Json-F Json Member → Step → Option Json
value_in (layers.Object members) (Key key) = value_of members key.now
value_in (layers.List items) (Place place) = slice_get items place
value_in layer step = None

abbrev pub value_at : Json → Step → Option Json
value_at tree step = value_in (out-Json tree) step
