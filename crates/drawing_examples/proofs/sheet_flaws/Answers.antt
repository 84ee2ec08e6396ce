use Rattle.std.proofs.Common.{arith, refl, inl, inr, [], ◌∷◌, pos}
use lib.Dec.{ltb}
use Rattle.fold_base.specs.declared.letter.Letter.TheVariants.{Border, Mountain, Valley}
use Rattle.algebra.proofs.Integers.{integers}
use Rattle.drawing_examples.specs.Examples.{at, edge, face}
use Rattle.drawing_examples.proofs.Flaws.{is_loose, is_parted, meet_beside, no_face_has, no_walk, severed}
use Rattle.drawing_examples.proofs.Walking.{face_is, outer_is}
use Rattle.plane.proofs.Members.{in_head}
use Rattle.drawing_examples.proofs.sheet_flaws.Goals as goal

pub returns-clause-same_vertex : goal.returns-clause-same_vertex
returns-clause-same_vertex c = (omega arith, omega arith, record { same_x = refl; same_y = refl })

pub returns-clause-loose : goal.returns-clause-loose
returns-clause-loose c = (omega arith, is_loose (edge 0 1 Mountain ∷ []) 2 refl)

pub returns-clause-edges_cross : goal.returns-clause-edges_cross
returns-clause-edges_cross c = (
  edge 0 3 Mountain,
  edge 1 2 Valley,
  refl,
  refl,
  inr (
    omega arith,
    meet_beside integers (at (pos 0) (pos 0) ∷ at (pos 0) (pos 2) ∷ at (pos 2) (pos 0) ∷ at (pos 2) (pos 2) ∷ []) (edge 0 3 Mountain) (edge 1 2 Valley) (at (pos 1) (pos 1))
        refl refl refl refl refl refl refl refl refl refl refl,
  ),
)

pub returns-clause-edge_ends_alike : goal.returns-clause-edge_ends_alike
returns-clause-edge_ends_alike c = (edge 0 0 Mountain, edge 0 0 Mountain, refl, refl, inl (refl, refl))

pub returns-clause-parted : goal.returns-clause-parted
returns-clause-parted c = (omega arith, is_parted (edge 0 1 Border ∷ edge 2 3 Border ∷ []) (λ v. ltb v 2) 0 2 refl refl refl)

pub returns-clause-empty_sheet : goal.returns-clause-empty_sheet
returns-clause-empty_sheet c = λ corners h. no_walk integers [] corners h.walk

pub returns-clause-face_twice : goal.returns-clause-face_twice
returns-clause-face_twice c = (
  1 ∷ 2 ∷ 0 ∷ [],
  (face (1 ∷ 2 ∷ 0 ∷ []), refl, refl),
  inr (0, omega arith, 0 ∷ 1 ∷ 2 ∷ [], (face (0 ∷ 1 ∷ 2 ∷ []), refl, refl), (1 ∷ 2 ∷ [], 0 ∷ [], refl, refl)),
)

pub returns-clause-turns_back : goal.returns-clause-turns_back
returns-clause-turns_back c = (
  0 ∷ 1 ∷ [],
  (face (0 ∷ 1 ∷ []), refl, refl),
  ([], 1 ∷ [], record { is = refl; b = 1; d = 1; others = []; to_d = []; ends_in_b = refl; begins_with_d = refl; bent = inl refl }, λ sooner later z l. absurd (omega (arith, l))),
)

pub returns-clause-bent_inwards : goal.returns-clause-bent_inwards
returns-clause-bent_inwards c = (
  2 ∷ 3 ∷ 0 ∷ 1 ∷ [],
  (face (2 ∷ 3 ∷ 0 ∷ 1 ∷ []), refl, refl),
  (
    [],
    3 ∷ 0 ∷ 1 ∷ [],
    record { is = refl; b = 1; d = 3; others = 3 ∷ 0 ∷ []; to_d = 0 ∷ 1 ∷ []; ends_in_b = refl; begins_with_d = refl; bent = inr (3, (1, omega arith, refl), refl) },
    λ sooner later z l. absurd (omega (arith, l)),
  ),
)

pub returns-clause-border_without_face : goal.returns-clause-border_without_face
returns-clause-border_without_face c = (edge 0 1 Border, refl, inl (refl, λ h. no_face_has h.0 (edge 0 1 Border) h.1))

pub returns-clause-severed : goal.returns-clause-severed
returns-clause-severed c = (omega arith, λ reached. let e = severed (face (0 ∷ 1 ∷ 2 ∷ []) ∷ face (2 ∷ 1 ∷ 3 ∷ []) ∷ []) reached in omega (arith, e))

pub returns-clause-face_missing : goal.returns-clause-face_missing
returns-clause-face_missing c = (
  2 ∷ [],
  face_is integers (at (pos 0) (pos 0) ∷ at (pos 1) (pos 0) ∷ at (pos 0) (pos 1) ∷ []) (edge 0 1 Border ∷ edge 0 2 Border ∷ edge 1 2 Border ∷ [])
      (0 ∷ 1 ∷ 2 ∷ []) 2 (omega arith) refl refl refl,
  λ f corners h. let none = h.1 in absurd (cc),
)

pub returns-clause-pinched : goal.returns-clause-pinched
returns-clause-pinched c = (
  0 ∷ [],
  2 ∷ [],
  [],
  outer_is integers (at (pos 0) (pos 0) ∷ at (pos 1) (pos 0) ∷ at (pos 2) (pos 0) ∷ []) (edge 0 1 Border ∷ edge 1 2 Border ∷ [])
      (0 ∷ 1 ∷ 2 ∷ 1 ∷ []) 0 1 refl refl refl (in_head (0, 1) ((1, 2) ∷ (2, 1) ∷ (1, 0) ∷ [])),
)
