-- A segment enters half-planes exactly where their lines leave some of its points.
use Rattle.std.proofs.Common.{◌≡◌, ◌∙◌, ap, sym, [], ◌∷◌, ◌↔◌, subst, pos, List, get_or}
use Rattle.std.proofs.lemmas.List.Elements.{All-contains, Contains-get_or}
use Rattle.std.specs.declared.cmp.Ordering.TheVariants.{Greater}
use Rattle.algebra.specs.OrderedRing.{OrderedRing}
use Rattle.algebra.proofs.Solvers.{reads, ring, sign_of_multiple}
use Rattle.plane.specs.declared.point.Point.{Point}
use Rattle.plane.specs.declared.point.Line.{Line}
use Rattle.plane.specs.Points.{combination, IsPoint}
use Rattle.plane.specs.Lines.{value, IsAbove}
use Rattle.plane.specs.Segments.{IsBetween}
use Rattle.plane.proofs.Lines.{once, value_multiple}
use Rattle.plane.proofs.OnSegments.{point_between}
use Rattle.half_planes.specs.Bounds.{Place, IsPlace, Holds}
use Rattle.half_planes.specs.Along.{along, divided, IsInside}
use Rattle.half_planes.specs.HalfPlanes.{Enters}
use Rattle.half_planes.specs.declared.bound.Bound.{Bound}

module _ {A : Type 0} (K : OrderedRing A) where
  value_along : (l : Line A) (p q : Point A) (at : Place A)
      → K.add (K.mul (value K.ops l p) at.x) (K.mul (value K.ops l q) at.weight) ≡ value K.ops l (divided K.ops p q at)
  value_along l p q at =
      ring K (l.a ∷ l.b ∷ l.c ∷ p.x ∷ p.y ∷ p.w ∷ q.x ∷ q.y ∷ q.w ∷ at.x ∷ at.weight ∷ [])
      (search reads depth 40 fits 50000) (search reads depth 40 fits 50000) tt

  pub along_same : (b : Bound A) (l : Line A) (p q : Point A) → b ≡ along K.ops l p q → (at : Place A) → (Holds K b at ↔ IsAbove K l (divided K.ops p q at))
  along_same b l p q e at =
      let P : Bound A → Type 0 = λ c. Holds K c at ↔ IsAbove K l (divided K.ops p q at) in
      subst P (sym e) (λ h. ap K.sign (sym (value_along l p q at)) ∙ h, λ h. ap K.sign (value_along l p q at) ∙ h)

  pub holds_alike : (b f : Bound A) → b ≡ f → (at : Place A) → Holds K f at → Holds K b at
  holds_alike b f e at h = let P : Bound A → Type 0 = λ c. Holds K c at in subst P (sym e) h

  is_first : (at : Place A) → K.add (K.mul (K.int (pos 1)) at.x) (K.mul (K.int (pos 0)) at.weight) ≡ at.x
  is_first at = ring K (at.x ∷ at.weight ∷ []) (search reads depth 20) (search reads depth 20) tt

  as_it_stands : (p q : Point A) (s t : A) → K.sign s ≡ Greater → K.sign t ≡ Greater → IsBetween K p q (combination K.ops s p t q)
  as_it_stands p q s t hs ht = record {
    factor = K.int (pos 1);
    from_share = s;
    to_share = t;
    factor_positive = K.sign_int (pos 1);
    from_positive = hs;
    to_positive = ht;
    is = sym (once K (combination K.ops s p t q));
  }

  same_side : (l : Line A) (p q r : Point A) (on : IsBetween K p q r) → K.sign (value K.ops l (combination K.ops on.from_share p on.to_share q)) ≡ K.sign (value K.ops l r)
  same_side l p q r on =
      ap K.sign (ap (value K.ops l) (sym on.is) ∙ value_multiple K l on.factor r) ∙ sign_of_multiple K on.factor (value K.ops l r) on.factor_positive

  module _ (lines : List (Line A)) (p q : Point A) (hp : IsPoint K p) (hq : IsPoint K q) where
    pub entered : ((at : Place A) × IsPlace K at × IsInside K p q lines at) ↔ Enters K p q lines
    entered = (
      λ t. let on : IsBetween K p q (divided K.ops p q t.0) = as_it_stands p q t.0.x t.0.weight (ap K.sign (sym (is_first t.0)) ∙ t.2.positive) t.1 in (
        divided K.ops p q t.0,
        point_between K p q (divided K.ops p q t.0) hp hq on,
        on,
        λ l there. All-contains (λ m. IsAbove K m (divided K.ops p q t.0)) lines l t.2.inside there,
      ),
      λ e. let on : IsBetween K p q e.0 = e.2 in (
        record { x = on.from_share; weight = on.to_share },
        on.to_positive,
        record {
          positive = ap K.sign (is_first (record { x = on.from_share; weight = on.to_share })) ∙ on.from_positive;
          inside = λ k d within. same_side (get_or lines k d) p q e.0 on ∙ e.3 (get_or lines k d) (Contains-get_or lines k d within);
        },
      ),
    )
