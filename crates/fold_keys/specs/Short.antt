-- what is asked of a tree that is read: lists that ids can count, and a version that can be read
use Rattle.std.specs.Prelude.{◌≡◌, ◌<◌, ◌≤◌, ◌^◌, length, codes}
use Rattle.std.specs.List.{AllByRecursion}
use Rattle.json_tree.specs.declared.tree.Json.{Json, Json-F, out-Json}
use Rattle.json_tree.specs.declared.tree.Json.TheFolds.{every-Json}
use Rattle.json_tree.specs.declared.tree.Json.TheOpen as layers
use Rattle.json_tree.specs.declared.tree.Member.{Member}

-- the list, if it is one, has fewer elements than ids can count
abbrev pub HasShortList : Json-F Json Member → Type 0
HasShortList (layers.List items) = length items < 2 ^ 32
HasShortList layer = Unit {0}

-- the number, if it is one, has a text that can be read by its value
abbrev pub HasShortNumber : Json-F Json Member → Type 0
HasShortNumber (layers.Number text) = length text ≤ 16777216
HasShortNumber layer = Unit {0}

-- so has every list in the tree
abbrev pub HasShortLists : Json → Type 0
HasShortLists tree = every-Json HasShortList (λ m. Unit {0}) tree

-- so has the number at the version of the file
abbrev pub HasShortSpecLayer : Json-F Json Member → Type 0
HasShortSpecLayer (layers.Object members) =
    AllByRecursion (λ m. m.key ≡ codes "file_spec" → HasShortNumber (out-Json m.value)) members
HasShortSpecLayer layer = Unit {0}

abbrev pub HasShortSpec : Json → Type 0
HasShortSpec tree = HasShortSpecLayer (out-Json tree)
