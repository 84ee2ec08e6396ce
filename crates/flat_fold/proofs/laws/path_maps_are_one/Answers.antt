use Rattle.flat_fold.proofs.OnePathMaps.{none-past, one-disagreeing, one-map_past, one-path_maps}
use Rattle.flat_fold.proofs.laws.path_maps_are_one.Goals as goal

pub returns-clause-maps : goal.returns-clause-maps
returns-clause-maps g c = λ K coords edges faces foldable maps others a b. one-path_maps K coords edges faces foldable maps others a b

pub returns-clause-either : goal.returns-clause-either
returns-clause-either g c = λ K coords edges faces foldable maps f a. none-past K coords edges faces foldable maps f a

pub returns-clause-past : goal.returns-clause-past
returns-clause-past g c = λ K coords edges faces f h a b. one-map_past K coords edges faces f h a b

pub returns-clause-disagreeing : goal.returns-clause-disagreeing
returns-clause-disagreeing g c = λ K coords edges faces d e a b. one-disagreeing K coords edges faces d e a b
