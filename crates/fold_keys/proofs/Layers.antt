-- what the tests on trees say of a tree by its variant
use Rattle.std.proofs.Common.{◌≡◌, ◌∙◌, List, Option, sym, ap}
use Rattle.json_tree.specs.declared.tree.Json.{Json, out-roll-Json}
use Rattle.json_tree.specs.declared.tree.Json.TheViews as trees
use Rattle.json_tree.specs.declared.tree.Json.TheOpen as layers
use Rattle.fold_keys.specs.Reading.{first_misfit}
use Rattle.fold_keys.specs.Shape.{of_list, of_list_layer}
use Rattle.fold_keys.specs.declared.fault.ShapeKind.{ShapeKind}

pub of_list-List : (misfit : Json → Option ShapeKind) (items : List Json)
    → of_list misfit (trees.List items) ≡ first_misfit misfit items
of_list-List misfit items =
    ap (of_list misfit) (sym (trees.rolls-List items))
    ∙ ap (of_list_layer misfit) (out-roll-Json (layers.List items))
