-- Whole numbers as numbers of the field, and scaled points as places times the common denominator.
use Rattle.std.proofs.Common.{◌≡◌, ◌∙◌, ap, sym, subst, refl, ℕ, ℤ, zero, suc, pos, List, ◌<◌, ◌≤◌, ◌^◌, length, arith}
use Prim.Native.Nat.{◌∣◌}
use Rattle.std.specs.Prelude.{unsigned_abs}
use Rattle.std.specs.declared.cmp.Ordering.TheVariants.{Greater}
use Rattle.std.proofs.lemmas.List.Elements.{Contains-get_or}
use Rattle.algebra.specs.LowestTerms.{Parts}
use Rattle.algebra.specs.Order.{int_sign}
use Rattle.algebra.specs.OrderedField.{OrderedField}
use Rattle.algebra.specs.Surd.{Surd}
use Rattle.algebra.specs.SurdSize.{larger_part}
use Rattle.algebra.specs.WholeSurds.{SurdNumbers}
use Rattle.exact_number.specs.Scaling.{IsScalable, IsWhole, scaled}
use Rattle.plane.specs.Points.{origin}
use Rattle.scaled_plane.specs.declared.point.Pair.{Pair}
use Rattle.scaled_plane.specs.declared.point.Scaled.{Scaled}
use Rattle.scaled_plane.specs.Pieces.{point_at}
use Rattle.scaled_plane.specs.Scaling.{IsScaledOf, IsScaledWith}
use Rattle.flat_fold.specs.Folding.{point}
use Rattle.flat_fold.proofs.FoldedLaws.{scaled-at}
use Rattle.folded_layers.proofs.Embeddings.{Embeds, vector}
use Rattle.folded_layers.proofs.Placed.{scaled_up}

module _ {N : Type 0} (parts : N → Parts) (F : OrderedField N) {W : Type 0} {k : ℕ} {surd : W → Surd ℤ} (numbers : SurdNumbers k surd) where
  -- each whole number is a number of the field, which adds, multiplies and has its sign as it does; a number times a common
  -- denominator is the whole number that it is scaled to
  pub record AreNumbers : Type 0 where
    pub once : (x y : N) → parts x ≡ parts y → x ≡ y
    pub exists : (w : W) → (x : N) × IsWhole (parts x) (surd w)
    pub one : IsWhole (parts (F.int (pos 1))) (surd (numbers.int (pos 1)))
    pub sum : (x y : N) (v w : W) → IsWhole (parts x) (surd v) → IsWhole (parts y) (surd w) → IsWhole (parts (F.add x y)) (surd (numbers.add v w))
    pub difference : (x y : N) (v w : W) → IsWhole (parts x) (surd v) → IsWhole (parts y) (surd w) → IsWhole (parts (F.sub x y)) (surd (numbers.sub v w))
    pub product : (x y : N) (v w : W) → IsWhole (parts x) (surd v) → IsWhole (parts y) (surd w) → IsWhole (parts (F.mul x y)) (surd (numbers.mul v w))
    pub sign : (x : N) (w : W) → IsWhole (parts x) (surd w) → F.sign x ≡ numbers.sign w
    pub scales : (x : N) (common : ℤ) → IsScalable (parts x) common → IsWhole (parts (F.mul x (F.int common))) (scaled (parts x) common)

  module _ (are : AreNumbers) where
    abbrev pub number : W → N
    number w = (are.exists w).0

    is_number : (x : N) (w : W) → IsWhole (parts x) (surd w) → number w ≡ x
    is_number x w is = are.once (number w) x ((are.exists w).1 ∙ sym is)

    pub embeds : Embeds numbers.ring F.ring number
    embeds = record {
      add_is = λ x y. is_number (F.add (number x) (number y)) (numbers.add x y) (are.sum (number x) (number y) x y (are.exists x).1 (are.exists y).1);
      sub_is = λ x y. is_number (F.sub (number x) (number y)) (numbers.sub x y) (are.difference (number x) (number y) x y (are.exists x).1 (are.exists y).1);
      mul_is = λ x y. is_number (F.mul (number x) (number y)) (numbers.mul x y) (are.product (number x) (number y) x y (are.exists x).1 (are.exists y).1);
      one_is = is_number (F.int (pos 1)) (numbers.int (pos 1)) are.one;
      sign_is = λ x. are.sign (number x) x (are.exists x).1;
    }

    -- a scaled coordinate as a number of the field
    scaled_number : (x : N) (w : W) (m : ℕ) → surd w ≡ scaled (parts x) (pos m) → unsigned_abs (parts x).q ∣ m → larger_part (surd w) ≤ 2 ^ 22 → number w ≡ F.mul x (F.int (pos m))
    scaled_number x w m is divides within =
        is_number (F.mul x (F.int (pos m))) w (subst (λ (s : Surd ℤ). IsWhole (parts (F.mul x (F.int (pos m)))) s) (sym is)
        (are.scales x (pos m) (record { divides = divides; within = subst (λ (s : Surd ℤ). larger_part s ≤ 2 ^ 22) is within })))

    module _ (coords : List (Pair N)) (answer : Scaled W) (is : IsScaledOf parts numbers coords answer) where
      -- each point is its place times the common denominator
      pub vector-scaled : (i : ℕ) → i < length coords
          → vector numbers.ring F.ring number embeds (point_at numbers.ring answer.points i) ≡ scaled_up F (F.int (pos is.m)) (point F coords i)
      vector-scaled i within = λ t. record { x = x_is t; y = y_is t; w = w_is t }
        where
          at : IsScaledWith parts numbers (pos is.m) (point F coords i) (point_at numbers.ring answer.points i)
          at = subst (λ (c : ℤ). IsScaledWith parts numbers c (point F coords i) (point_at numbers.ring answer.points i)) is.is
              (scaled-at parts F numbers coords answer is i (origin numbers.ops) within)

          multiple : (unsigned_abs (parts (point F coords i).x).q ∣ is.m) × (unsigned_abs (parts (point F coords i).y).q ∣ is.m)
          multiple = is.denominator.multiple (point F coords i) (Contains-get_or coords i (record { x = F.int (pos 0); y = F.int (pos 0) }) within)

          x_is : number (point_at numbers.ring answer.points i).x ≡ F.mul (point F coords i).x (F.int (pos is.m))
          x_is = scaled_number (point F coords i).x (point_at numbers.ring answer.points i).x is.m at.x multiple.0 at.x_within

          y_is : number (point_at numbers.ring answer.points i).y ≡ F.mul (point F coords i).y (F.int (pos is.m))
          y_is = scaled_number (point F coords i).y (point_at numbers.ring answer.points i).y is.m at.y multiple.1 at.y_within

          w_is : number (point_at numbers.ring answer.points i).w ≡ F.int (pos 1)
          w_is = ap number at.w ∙ embeds.one_is

      pub common-positive : F.sign (F.int (pos is.m)) ≡ Greater
      common-positive = F.sign_int (pos is.m) ∙ above is.m is.denominator.positive
        where
          above : (m : ℕ) → 0 < m → int_sign (pos m) ≡ Greater
          above zero l = absurd (omega (arith, l))
          above (suc m) l = refl
