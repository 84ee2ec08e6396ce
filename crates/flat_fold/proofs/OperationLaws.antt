-- The operations compute the maps.
use Rattle.std.proofs.Common.{◌≡◌, refl, Bool, true, false}
use Rattle.scaled_plane.specs.declared.point.Pair.{Pair}
use Rattle.flat_fold.specs.declared.motion.Motion.{Motion}
use Rattle.flat_fold.specs.Computed.{ComputedField, at_hand, ◌>>=◌}
use Rattle.flat_fold.specs.Motions.{place, composed, reflection}
use Rattle.flat_fold.specs.Operations.{turning, placing, composing, mirroring, reflecting}

module _ {A : Type 0} (K : ComputedField A) where
  placing_at : (t : Bool) (c s p r : A) (a : Pair A) → let m : Motion A = record { c = c; s = s; p = p; r = r; turned = t } in (placing K m a).value ≡ place K.field m a
  unfolding at_hand ◌>>=◌ turning placing composing mirroring reflecting
  placing_at false c s p r a = refl
  placing_at true c s p r a = refl

  pub placing-value : (m : Motion A) (a : Pair A) → (placing K m a).value ≡ place K.field m a
  placing-value m a = placing_at m.turned m.c m.s m.p m.r a

  composing_at : (t : Bool) (c s p r : A) (n : Motion A) → let m : Motion A = record { c = c; s = s; p = p; r = r; turned = t } in (composing K m n).value ≡ composed K.field m n
  unfolding at_hand ◌>>=◌ turning placing composing mirroring reflecting
  composing_at false c s p r n = refl
  composing_at true c s p r n = refl

  pub composing-value : (m n : Motion A) → (composing K m n).value ≡ composed K.field m n
  composing-value m n = composing_at m.turned m.c m.s m.p m.r n

  pub reflecting-value : (a b : Pair A) → (reflecting K a b).value ≡ reflection K.field a b
  unfolding at_hand ◌>>=◌ turning placing composing mirroring reflecting
  reflecting-value a b = refl
