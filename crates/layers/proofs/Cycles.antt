-- Three faces share a point exactly where they share a generic one.
use mathlib.Core.List.{List, ◌++◌}
use mathlib.Core.Logic.{inl, inr}
use Prim.Native.Nat.{ℕ}
use Rattle.algebra.specs.OrderedRing.{OrderedRing}
use Rattle.plane.specs.declared.point.Point.{Point}
use Rattle.plane.specs.declared.point.Line.{Line}
use Rattle.plane.specs.Lines.{LiesIn}
use Rattle.layers.proofs.FoldedFacts.{FoldedFacts}
use Rattle.std.proofs.lemmas.List.Elements.{Contains-append_left as in_left, Contains-append_right as in_right, Contains-append_cases as in_either}
use Rattle.layers.proofs.Faces.{borders, inside_lies, lies_inside, GenericPoint, generic_point}
use Rattle.layers.specs.Sheets.{FoldedSheet}
use Rattle.layers.specs.Crossings.{CycleOccurs}
use Rattle.layers.specs.Listing.{CycleListed}

module _ {A : Type 0} (K : OrderedRing A) where
  pub lies_in_both : (ms ns : List (Line A)) (p : Point A) → LiesIn K ms p → LiesIn K ns p → LiesIn K (ms ++ ns) p
  lies_in_both ms ns p h k m i = elim (in_either ms ns m i) [ inl a ↦ h m a | inr b ↦ k m b ]

  pub lies_in_left : (ms ns : List (Line A)) (p : Point A) → LiesIn K (ms ++ ns) p → LiesIn K ms p
  lies_in_left ms ns p h m i = h m (in_left ms ns m i)

  pub lies_in_right : (ms ns : List (Line A)) (p : Point A) → LiesIn K (ms ++ ns) p → LiesIn K ns p
  lies_in_right ms ns p h m i = h m (in_right ms ns m i)

  module _ (sheet : FoldedSheet A) (folded : FoldedFacts K sheet) (above : ℕ → ℕ → Type 0) where
    pub cycle_occurs : (f g h : ℕ) → CycleListed K sheet above f g h → CycleOccurs K sheet above f g h
    cycle_occurs f g h c = of (generic_point K sheet folded (ls ++ (bs ++ cs)) o.point o.is_point (lies_in_both ls (bs ++ cs) o.point (inside_lies K sheet o.in_first) (lies_in_both bs cs o.point (inside_lies K sheet o.in_second) (inside_lies K sheet o.in_third))))
      where
        open c use {overlap as o}

        ls : List (Line A)
        ls = borders K o.in_first.face

        bs : List (Line A)
        bs = borders K o.in_second.face

        cs : List (Line A)
        cs = borders K o.in_third.face

        of : GenericPoint K sheet folded (ls ++ (bs ++ cs)) → CycleOccurs K sheet above f g h
        of r = record {
          least = c.least;
          around = c.around;
          point = r.point;
          is_point = r.is_point;
          is_generic = r.is_generic;
          in_first = lies_inside K sheet f o.in_first.face r.point o.in_first.is (lies_in_left ls (bs ++ cs) r.point r.lies);
          in_second = lies_inside K sheet g o.in_second.face r.point o.in_second.is (lies_in_left bs cs r.point (lies_in_right ls (bs ++ cs) r.point r.lies));
          in_third = lies_inside K sheet h o.in_third.face r.point o.in_third.is (lies_in_right bs cs r.point (lies_in_right ls (bs ++ cs) r.point r.lies));
        }

  module _ (sheet : FoldedSheet A) (above : ℕ → ℕ → Type 0) where
    pub cycle_listed : (f g h : ℕ) → CycleOccurs K sheet above f g h → CycleListed K sheet above f g h
    cycle_listed f g h c = record {
      least = c.least;
      around = c.around;
      overlap = record { point = c.point; is_point = c.is_point; in_first = c.in_first; in_second = c.in_second; in_third = c.in_third };
    }
