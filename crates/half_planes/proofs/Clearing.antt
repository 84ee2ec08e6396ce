-- What a line asks alone and with the others, by the sign of what it has of y.
use Rattle.std.proofs.Common.{◌≡◌, List, ◌↔◌}
use Rattle.std.specs.List.{All}
use Rattle.std.specs.declared.cmp.Ordering.TheVariants.{Less, Equal, Greater}
use Rattle.algebra.specs.OrderedRing.{OrderedRing}
use Rattle.half_planes.specs.Bounds.{Place, Holds}
use Rattle.half_planes.specs.Elimination.{level, AsksWith, Clears}
use Rattle.plane.specs.declared.point.Line.{Line}

module _ {A : Type 0} (K : OrderedRing A) (lines : List (Line A)) (l : Line A) (p : Place A) where
  pub asks_nothing : K.sign l.b ≡ Less → Clears K lines l p
  asks_nothing e = record { alone = λ flat. absurd (cc); with_each = λ lower. absurd (cc) }

  pub asks_alone : K.sign l.b ≡ Equal → (Holds K (level l) p ↔ Clears K lines l p)
  asks_alone e = (λ holds. record { alone = λ flat. holds; with_each = λ lower. absurd (cc) }, λ clears. clears.alone e)

  pub asks_with_each : K.sign l.b ≡ Greater → (All (λ u. AsksWith K l u p) lines ↔ Clears K lines l p)
  asks_with_each e = (λ all. record { alone = λ flat. absurd (cc); with_each = λ lower. all }, λ clears. clears.with_each e)
