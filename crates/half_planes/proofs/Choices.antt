-- The steps of narrowing, on absent and present bounds.
use Rattle.std.proofs.Common.{◌≡◌, refl, sym, subst, true, false, Option, Some, IfSome, ◌↔◌, Bool, IsTrue}
use Rattle.std.specs.Bool.{◌==◌}
use Rattle.std.specs.Ordering.{ordering_index}
use Rattle.std.specs.declared.cmp.Ordering.{Ordering}
use Rattle.std.specs.declared.cmp.Ordering.TheVariants.{Less, Equal, Greater}
use Rattle.algebra.specs.OrderedRing.{OrderedRing}
use Rattle.half_planes.specs.Bounds.{Place, IsPlace, Holds, IsLower, IsUpper, gap, Lies}
use Rattle.half_planes.specs.declared.bound.Bound.{Bound}
use Rattle.half_planes.proofs.Bounds.{gap_from_place}
use Rattle.half_planes.proofs.Tightest.{follows, tighter_follows}

pub same_by_index : (s t : Ordering) → (ordering_index s == ordering_index t) ≡ true → s ≡ t
same_by_index Less Less h = refl
same_by_index Less Equal h = absurd (cc)
same_by_index Less Greater h = absurd (cc)
same_by_index Equal Less h = absurd (cc)
same_by_index Equal Equal h = refl
same_by_index Equal Greater h = absurd (cc)
same_by_index Greater Less h = absurd (cc)
same_by_index Greater Equal h = absurd (cc)
same_by_index Greater Greater h = refl

same_index : (s : Ordering) → (ordering_index s == ordering_index s) ≡ true
same_index Less = refl
same_index Equal = refl
same_index Greater = refl

pub other_by_index : (s t : Ordering) → (ordering_index s == ordering_index t) ≡ false → ¬ (s ≡ t)
other_by_index s t h e =
    let same : (ordering_index s == ordering_index t) ≡ true = subst (λ (r : Ordering). (ordering_index s == ordering_index r) ≡ true) e (same_index s) in
    cc

pub same_by_test : (b : Bool) (s t : Ordering) → b ≡ (ordering_index s == ordering_index t) → (IsTrue b ↔ (s ≡ t))
same_by_test true s t h = (λ _. same_by_index s t (sym h), λ e. refl)
same_by_test false s t h = (λ no. absurd (cc), λ e. absurd (other_by_index s t (sym h) e))

module _ {A : Type 0} (K : OrderedRing A) where
  module _ (o : Option (Bound A)) (old new : Bound A) (e : o ≡ Some old) (sloped : ¬ (K.sign new.slope ≡ Equal))
      (one_side : IfSome o (λ f. K.sign f.slope ≡ K.sign new.slope)) where
    side : K.sign old.slope ≡ K.sign new.slope
    side = let P : Option (Bound A) → Type 0 = λ o. IfSome o (λ f. K.sign f.slope ≡ K.sign new.slope) in subst P e one_side

    pub old_side : K.sign old.slope ≡ K.sign new.slope
    old_side = side

    with_old : (f : Bound A) (p : Place A) → (Holds K f p ↔ (Holds K old p × Holds K new p)) → (Holds K f p ↔ (IfSome o (λ g. Holds K g p) × Holds K new p))
    with_old f p h =
        let P : Option (Bound A) → Type 0 = λ o. Holds K f p ↔ (IfSome o (λ g. Holds K g p) × Holds K new p) in subst P (sym e) h

    pub both_by_new : K.sign (gap K.ops new old) ≡ K.sign new.slope → (p : Place A) → IsPlace K p → (Holds K new p ↔ (IfSome o (λ g. Holds K g p) × Holds K new p))
    both_by_new tighter p h =
        with_old new p (λ holds. (tighter_follows K (K.sign new.slope) sloped new old refl side tighter p h holds, holds), λ both. both.1)

    pub both_by_old : ¬ (K.sign (gap K.ops new old) ≡ K.sign new.slope) → (p : Place A) → IsPlace K p → (Holds K old p ↔ (IfSome o (λ g. Holds K g p) × Holds K new p))
    both_by_old not_tighter p h =
        with_old old p (λ holds. (holds, follows K (K.sign new.slope) sloped old new side refl not_tighter p h holds), λ both. both.0)

  pub none_between : (lower upper : Option (Bound A)) (f g : Bound A) → lower ≡ Some f → upper ≡ Some g → IfSome lower (IsLower K) → IfSome upper (IsUpper K)
      → ¬ (K.sign (gap K.ops f g) ≡ Greater) → (p : Place A) → IsPlace K p → ¬ Lies K lower upper p
  none_between lower upper f g e k hf hg no_gap p h lies =
      let P : Option (Bound A) → Type 0 = λ o. IfSome o (IsLower K) in
      let Q : Option (Bound A) → Type 0 = λ o. IfSome o (IsUpper K) in
      let R : Option (Bound A) → Type 0 = λ o. IfSome o (λ f. Holds K f p) in
      no_gap (gap_from_place K f g p h (subst P e hf) (subst Q k hg) (subst R e lies.above) (subst R k lies.below))
