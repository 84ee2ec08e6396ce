-- The faces with a point inside can be found and listed.
use mathlib.Core.Path.{◌≡◌, refl, sym, subst}
use mathlib.Core.List.{List, [], ◌∷◌}
use mathlib.Core.Logic.{◌⊎◌, inl, inr, ◌↔◌}
use Prim.Native.Nat.{ℕ, zero, suc, ◌<◌}
use lib.ListN.{length}
use Rattle.std.proofs.Common.{arith}
use Rattle.std.proofs.lemmas.Bool.{cases_order}
use Rattle.std.specs.Prelude.{Option, Some, None, Contains}
use Rattle.std.specs.List.{slice_get}
use Rattle.std.specs.declared.cmp.Ordering.{Ordering}
use Rattle.std.specs.declared.cmp.Ordering.TheVariants.{Less, Equal, Greater}
use Rattle.algebra.specs.OrderedRing.{OrderedRing}
use Rattle.plane.specs.declared.point.Point.{Point}
use Rattle.plane.proofs.Members.{in_cons, in_tail, in_nil}
use Rattle.layers.proofs.Places.{is_head, at_place, stands_at}
use Rattle.layers.proofs.Tournament.{Distinct, IsTournament, Listed, listed, descending_of_chain, no_cycle}
use Rattle.layers.specs.Pieces.{Piece, pieces_round, side_of}
use Rattle.plane.specs.Points.{IsPoint}
use Rattle.layers.specs.Orders.{NoClash, RanksOverlaps}
use Rattle.layers.specs.Points.{IsOrderly}
use Rattle.layers.specs.Sheets.{FoldedFace, FoldedSheet, inner_side, IsInside}

pub same_ordering : (o u : Ordering) → (o ≡ u) ⊎ ¬ (o ≡ u)
same_ordering Less Less = inl refl
same_ordering Less Equal = inr (λ e. cc)
same_ordering Less Greater = inr (λ e. cc)
same_ordering Equal Less = inr (λ e. cc)
same_ordering Equal Equal = inl refl
same_ordering Equal Greater = inr (λ e. cc)
same_ordering Greater Less = inr (λ e. cc)
same_ordering Greater Equal = inr (λ e. cc)
same_ordering Greater Greater = inl refl

pub below_length : {X : Type 0} (xs : List X) (k : ℕ) (x : X) → slice_get xs k ≡ Some x → k < length xs
below_length [] k x e = cc
below_length (y ∷ ys) zero x e = omega arith
below_length (y ∷ ys) (suc k) x e = let h = below_length ys k x e in omega arith

module _ {A : Type 0} (K : OrderedRing A) where
  abbrev AllOn : Ordering → List (Piece A) → Point A → Type 0
  AllOn o ss p = (k : ℕ) (s : Piece A) → slice_get ss k ≡ Some s → side_of K s p ≡ o

  all_on : (o : Ordering) (ss : List (Piece A)) (p : Point A) → AllOn o ss p ⊎ ¬ AllOn o ss p
  all_on o [] p = inl (λ k s e. cc)
  all_on o (s ∷ ss) p = with_both (same_ordering (side_of K s p) o) (all_on o ss p)
    where
      with_both : (side_of K s p ≡ o) ⊎ ¬ (side_of K s p ≡ o) → AllOn o ss p ⊎ ¬ AllOn o ss p → AllOn o (s ∷ ss) p ⊎ ¬ AllOn o (s ∷ ss) p
      with_both (inr n) r = inr (λ h. n (h zero s refl))
      with_both (inl e) (inr n) = inr (λ h. n (λ k t g. h (suc k) t g))
      with_both (inl e) (inl r) = inl at
        where
          at : AllOn o (s ∷ ss) p
          at zero t g = let same : s ≡ t = cc in subst (λ (u : Piece A). side_of K u p ≡ o) same e
          at (suc k) t g = r k t g

  module _ (sheet : FoldedSheet A) (p : Point A) where
    pub is_inside : (f : ℕ) → IsInside K sheet f p ⊎ ¬ IsInside K sheet f p
    is_inside f = at (slice_get sheet.faces f) refl
      where
        found : (face : FoldedFace A) → slice_get sheet.faces f ≡ Some face → AllOn (inner_side face.turned) (pieces_round face.corners) p ⊎ ¬ AllOn (inner_side face.turned) (pieces_round face.corners) p → IsInside K sheet f p ⊎ ¬ IsInside K sheet f p
        found face e (inl h) = inl (record { face = face; is = e; within = λ s j. h j.0 s (stands_at (pieces_round face.corners) s j) })
        found face e (inr n) = inr (λ i. let a = i.is in let same : i.face ≡ face = cc in n (subst (λ (x : FoldedFace A). AllOn (inner_side x.turned) (pieces_round x.corners) p) same (λ k s h. i.within s (at_place (pieces_round i.face.corners) k s h))))

        at : (o : Option (FoldedFace A)) → slice_get sheet.faces f ≡ o → IsInside K sheet f p ⊎ ¬ IsInside K sheet f p
        at None e = inr (λ i. let a = i.is in cc)
        at (Some face) e = found face e (all_on (inner_side face.turned) (pieces_round face.corners) p)

    record StackBelow (n : ℕ) : Type 0 where
      faces : List ℕ
      distinct : Distinct faces
      same : (f : ℕ) → Contains faces f ↔ (f < n) × IsInside K sheet f p

    stack_below : (n : ℕ) → StackBelow n
    stack_below zero = record { faces = []; distinct = tt; same = λ f. ((λ h. absurd (in_nil f h)), (λ h. let l = h.0 in absurd (omega arith))) }
    stack_below (suc n) = more (stack_below n) (is_inside n)
      where
        more : StackBelow n → IsInside K sheet n p ⊎ ¬ IsInside K sheet n p → StackBelow (suc n)
        more r (inl i) = record {
          faces = n ∷ r.faces;
          distinct = ((λ h. let l = ((r.same n).0 h).0 in omega arith), r.distinct);
          same = λ f. (
            (λ h. elim (in_cons n r.faces f h) [
              | inl e ↦ (omega arith, subst (λ k. IsInside K sheet k p) e i)
              | inr j ↦ let l = ((r.same f).0 j).0 in (omega arith, ((r.same f).0 j).1)
            ]),
            (λ h. let l = h.0 in elim (cases_order f n) [
              | inl e ↦ is_head n r.faces f (sym e)
              | inr o ↦ elim o [ inl lt ↦ in_tail n r.faces f ((r.same f).1 (lt, h.1)) | inr gt ↦ absurd (omega arith) ]
            ]),
          );
        }
        more r (inr k) = record {
          faces = r.faces;
          distinct = r.distinct;
          same = λ f. (
            (λ h. let l = ((r.same f).0 h).0 in (omega arith, ((r.same f).0 h).1)),
            (λ h. let l = h.0 in elim (cases_order f n) [
              | inl e ↦ absurd (k (subst (λ x. IsInside K sheet x p) e h.1))
              | inr o ↦ elim o [ inl lt ↦ (r.same f).1 (lt, h.1) | inr gt ↦ absurd (omega arith) ]
            ]),
          );
        }

    pub record Stack : Type 0 where
      pub faces : List ℕ
      pub distinct : Distinct faces
      pub same : (f : ℕ) → Contains faces f ↔ IsInside K sheet f p

    pub the_stack : Stack
    the_stack = of (stack_below (length sheet.faces))
      where
        of : StackBelow (length sheet.faces) → Stack
        of r = record {
          faces = r.faces;
          distinct = r.distinct;
          same = λ f. ((λ h. ((r.same f).0 h).1), (λ i. (r.same f).1 (below_length sheet.faces f i.face i.is, i)));
        }

-- three faces with the point inside aren't ranked in a ring
abbrev NoRing : {A : Type 0} → OrderedRing A → FoldedSheet A → (ℕ → ℕ → Type 0) → Point A → Type 0
NoRing K sheet above p = (f g h : ℕ) → IsInside K sheet f p → IsInside K sheet g p → IsInside K sheet h p → above f g → above g h → ¬ above h f

module _ {A : Type 0} (K : OrderedRing A) (sheet : FoldedSheet A) (above : ℕ → ℕ → Type 0) (one_way : NoClash above) where
  pub no_ring : (p : Point A) → IsOrderly K sheet above p → NoRing K sheet above p
  no_ring p o f g h i j k = no_cycle above one_way o.layers o.descending f g h ((o.are_stack f).1 i) ((o.are_stack g).1 j) ((o.are_stack h).1 k)

  module _ (ranks : RanksOverlaps K sheet above) (p : Point A) (ip : IsPoint K p) (acyclic : NoRing K sheet above p) where
    tournament : IsTournament above (λ f. IsInside K sheet f p)
    tournament = record {
      one_way = λ a b i j. one_way a b;
      total = λ a b i j n. ranks a b n (record { point = p; is_point = ip; in_first = i; in_second = j });
      acyclic = acyclic;
    }

    pub ordered_stack : IsOrderly K sheet above p
    ordered_stack = of (the_stack K sheet p)
      where
        of : Stack K sheet p → IsOrderly K sheet above p
        of r = put (listed above tournament r.faces r.distinct (λ f h. (r.same f).0 h))
          where
            put : Listed above tournament r.faces → IsOrderly K sheet above p
            put l = record {
              layers = l.layers;
              are_stack = λ f. ((λ h. (r.same f).0 ((l.same f).0 h)), (λ h. (l.same f).1 ((r.same f).1 h)));
              descending = descending_of_chain above l.layers l.chain;
            }
