-- What the faults of the steps become, and when they come.
use Rattle.std.proofs.Common.{◌≡◌, ◌⊎◌, ℕ, inl, inr, refl}
use Rattle.scaled_plane.specs.declared.scaled.ScaleFault.{ScaleFault}
use Rattle.scaled_plane.specs.declared.scaled.ScaleFault.TheVariants as scaling
use Rattle.arrangement.specs.declared.fault.PieceFault.{PieceFault}
use Rattle.arrangement.specs.declared.fault.PieceFault.TheVariants as cutting
use Rattle.face_walks.specs.declared.answer.WalkFault.{WalkFault}
use Rattle.face_walks.specs.declared.answer.WalkFault.TheVariants as walking
use Rattle.drawing_repair.specs.Faults.{of_cutting, of_scaling, of_walking}
use Rattle.drawing_repair.specs.Repaired.{IsMemory}
use Rattle.drawing_repair.specs.declared.answer.RepairFault.{RepairFault}
use Rattle.drawing_repair.specs.declared.answer.RepairFault.TheVariants.{TooWide, TooMany, Parted}
use Rattle.drawing_repair.specs.declared.answer.Stage.TheVariants.{Input}

pub after_scaling : (fault : ScaleFault) (P : ℕ → Type 0) (Q : RepairFault → Type 0) → ((v : ℕ) → fault ≡ scaling.TooWide v → P v)
    → ((v : ℕ) → P v → Q (TooWide v Input)) → IsMemory (of_scaling fault) ⊎ Q (of_scaling fault)
after_scaling (scaling.TooWide v) P Q h j = inr (j v (h v refl))
after_scaling (scaling.Memory error) P Q h j = inl (error, refl)

pub after_cutting : (fault : PieceFault) (P : Type 0) (Q : RepairFault → Type 0) → (fault ≡ cutting.TooMany → P)
    → (P → Q TooMany) → IsMemory (of_cutting fault) ⊎ Q (of_cutting fault)
after_cutting cutting.TooMany P Q h j = inr (j (h refl))
after_cutting (cutting.Memory error) P Q h j = inl (error, refl)

pub after_walking : (fault : WalkFault) (P : ℕ → Type 0) (Q : RepairFault → Type 0) → ((v : ℕ) → fault ≡ walking.Parted v → P v)
    → ((v : ℕ) → P v → Q (Parted v)) → IsMemory (of_walking fault) ⊎ Q (of_walking fault)
after_walking (walking.Parted v) P Q h j = inr (j v (h v refl))
after_walking (walking.Memory error) P Q h j = inl (error, refl)
