use Prim.Native.Nat.{ℕ}
use mathlib.Core.List.{[]}
use Rattle.regions.proofs.Bounded.{regions_of_walks, bounded_faces, listed_faces}
use Rattle.regions.proofs.Empty.{no_walk, one_region_unbounded}
use Rattle.regions.proofs.Pieces.{place, bounded_of}
use Rattle.regions.proofs.faces_are_bounded_regions.Goals as goal

pub returns-clause-walks : goal.returns-clause-walks
returns-clause-walks g c = λ K vertices edges e h here. regions_of_walks K vertices edges h e here

pub returns-clause-faces : goal.returns-clause-faces
returns-clause-faces g c = λ K vertices edges e h here joined. bounded_faces K vertices edges h e here joined

pub returns-clause-listed : goal.returns-clause-listed
returns-clause-listed g c = λ K vertices edges e faces h here joined are. listed_faces K vertices edges h e here joined faces are

pub returns-clause-empty : goal.returns-clause-empty
returns-clause-empty g c = λ K vertices p hp b. one_region_unbounded K (λ (v : ℕ). place K vertices [] v) p hp (bounded_of K vertices [] p b)

pub returns-clause-no_walks : goal.returns-clause-no_walks
returns-clause-no_walks g c = λ K vertices corners. no_walk K vertices corners
