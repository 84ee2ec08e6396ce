-- The operations in which a sheet is folded, in the order in which they are done.
use Rattle.std.specs.Prelude.{Bool, true, false, not, if◌then◌else◌}
use Rattle.scaled_plane.specs.declared.point.Pair.{Pair}
use Rattle.flat_fold.specs.declared.motion.Motion.{Motion}
use Rattle.flat_fold.specs.Computed.{Computed, ComputedField, at_hand, ◌>>=◌, sum, difference, product, quotient}

module _ {A : Type 0} (K : ComputedField A) where
  -- the difference of two numbers, or their sum
  abbrev pub combining : Bool → A → A → Computed A
  combining true x y = difference K x y
  combining false x y = sum K x y

  -- a direction, as m turns it
  unfoldable pub turning : Motion A → Pair A → Computed (Pair A)
  turning m d = do
    cx ← product K m.c d.x
    sy ← product K m.s d.y
    sx ← product K m.s d.x
    cy ← product K m.c d.y
    x ← combining (not m.turned) cx sy
    y ← combining m.turned sx cy
    at_hand (record { x = x; y = y })

  -- the place that m gives a point
  unfoldable pub placing : Motion A → Pair A → Computed (Pair A)
  placing m a = do
    way ← turning m a
    x ← sum K way.x m.p
    y ← sum K way.y m.r
    at_hand (record { x = x; y = y })

  -- m, composed on the inside by n
  unfoldable pub composing : Motion A → Motion A → Computed (Motion A)
  composing m n = do
    way ← turning m (record { x = n.c; y = n.s })
    at ← placing m (record { x = n.p; y = n.r })
    at_hand (record { c = way.x; s = way.y; p = at.x; r = at.y; turned = (if m.turned then not n.turned else n.turned) })

  -- the mirror's turn, and its way from a point of it
  unfoldable pub mirroring : A → A → Pair A → Computed (Motion A)
  mirroring c s a = do
    cx ← product K c a.x
    sy ← product K s a.y
    along ← sum K cx sy
    p ← difference K a.x along
    sx ← product K s a.x
    cy ← product K c a.y
    across ← difference K sx cy
    r ← difference K a.y across
    at_hand (record { c = c; s = s; p = p; r = r; turned = true })

  -- the reflection in the line from a to b
  unfoldable pub reflecting : Pair A → Pair A → Computed (Motion A)
  reflecting a b = do
    u ← difference K b.x a.x
    v ← difference K b.y a.y
    uu ← product K u u
    vv ← product K v v
    n ← sum K uu vv
    k ← difference K uu vv
    c ← quotient K k n
    uv ← product K u v
    w ← sum K uv uv
    s ← quotient K w n
    mirroring c s a
