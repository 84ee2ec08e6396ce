use Rattle.std.proofs.Common.{◌∙◌, None, sym, ap}
use Rattle.fold_keys.specs.Shape.{of_list}
use Rattle.fold_keys.proofs.Along.{none_along}
use Rattle.fold_keys.proofs.Layers.{of_list-List}
use Rattle.fold_keys.proofs.reading.read_trees.Goals as goal

pub returns-in-List : goal.returns-in-List
returns-in-List c = (
  sym c.in-List.is,
  ap (of_list (λ item. None)) c.in-List.is
      ∙ of_list-List (λ item. None) c.in-List.items ∙ none_along 0 c.in-List.items,
)
