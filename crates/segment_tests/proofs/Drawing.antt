-- where two segments cross is a drawn point
use mathlib.Core.Logic.{inr}
use mathlib.Core.Path.{subst}
use Prim.Native.Nat.{ℕ}
use Rattle.std.specs.Prelude.{ℤ}
use Rattle.algebra.specs.Surd.{Surd}
use Rattle.algebra.specs.WholeSurds.{SurdNumbers}
use Rattle.plane.specs.Points.{IsPoint}
use Rattle.plane.proofs.Crossings.{parallel_apart}
use Rattle.scaled_plane.specs.declared.point.Segment.{Segment}
use Rattle.scaled_plane.specs.Drawn.{IsScaledSegment}
use Rattle.segment_tests.specs.Meets.{CrossesInDrawn, IsMeet}
use Rattle.segment_tests.specs.declared.answer.Meet.{Meet}
use Rattle.segment_tests.specs.declared.answer.Meet.TheVariants.{Apart, Touches, Crosses, Along}

pub crosses_in_drawn : {A : Type 0} {k : ℕ} {surd : A → Surd ℤ} (numbers : SurdNumbers k surd) (s t : Segment A) (answer : Meet A)
    → IsScaledSegment numbers s → IsScaledSegment numbers t → IsMeet numbers.ring s t answer → CrossesInDrawn numbers answer
crosses_in_drawn numbers s t Apart scaled other met = tt
crosses_in_drawn numbers s t (Touches q) scaled other met = tt
crosses_in_drawn numbers s t (Crosses q) scaled other met = inr (record {
  a = s.from;
  b = s.to;
  c = t.from;
  d = t.to;
  a_scaled = scaled.from;
  b_scaled = scaled.to;
  c_scaled = other.from;
  d_scaled = other.to;
  not_parallel = parallel_apart numbers.ring s.from s.to t.from t.to (subst (IsPoint numbers.ring) met.3 met.0.point);
  is = met.3;
})
crosses_in_drawn numbers s t (Along p q) scaled other met = tt
