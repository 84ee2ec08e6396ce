use Rattle.flat_fold.proofs.OneFolding.{one-corners, one-face_past, one-folding, one-place_past}
use Rattle.flat_fold.proofs.laws.one_folding.Goals as goal

pub returns-clause-folding : goal.returns-clause-folding
returns-clause-folding g c = λ F coords edges faces foldable maps origins images maps' origins' images' a b. one-folding F coords edges faces foldable maps origins images maps' origins' images' a b

pub returns-clause-corners : goal.returns-clause-corners
returns-clause-corners g c = λ F coords faces maps origins images a numbers others h k. one-corners F coords faces maps origins images a numbers others h k

pub returns-clause-past : goal.returns-clause-past
returns-clause-past g c = λ K coords edges faces f k i j h l. (one-face_past K coords edges faces f k i j h l, one-place_past K coords edges faces f k i j h l)
