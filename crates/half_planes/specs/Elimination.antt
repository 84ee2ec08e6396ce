-- Half-planes without y: what they ask of x alone.
use Rattle.std.specs.Prelude.{◌≡◌, List, All}
use Rattle.std.specs.declared.cmp.Ordering.TheVariants.{Less, Equal, Greater}
use Rattle.algebra.specs.Ring.{Operations}
use Rattle.algebra.specs.OrderedRing.{OrderedRing}
use Rattle.plane.specs.declared.point.Line.{Line}
use Rattle.half_planes.specs.Bounds.{Place, Holds}
use Rattle.half_planes.specs.declared.bound.Bound.{Bound}

-- what a line without y asks
abbrev pub level : {A : Type 0} → Line A → Bound A
level l = record { slope = l.a; offset = l.c }

-- what a line that bounds y from below and one that bounds it from above ask together
abbrev pub under : {A : Type 0} → Operations A → Line A → Line A → Bound A
under ops l u = record {
  slope = ops.sub (ops.mul l.b u.a) (ops.mul l.a u.b);
  offset = ops.sub (ops.mul l.b u.c) (ops.mul l.c u.b);
}

module _ {A : Type 0} (K : OrderedRing A) where
  -- what a lower bound on y asks together with a line that is an upper one
  abbrev pub AsksWith : Line A → Line A → Place A → Type 0
  AsksWith l u p = K.sign u.b ≡ Less → Holds K (under K.ops l u) p

  -- what the line asks, alone and with each of the lines
  pub record Clears (lines : List (Line A)) (l : Line A) (p : Place A) : Type 0 where
    pub alone : K.sign l.b ≡ Equal → Holds K (level l) p
    pub with_each : K.sign l.b ≡ Greater → All (λ u. AsksWith l u p) lines

  -- what all the lines ask
  abbrev pub IsShadow : List (Line A) → Place A → Type 0
  IsShadow lines p = All (λ l. Clears lines l p) lines
