-- Tests on points and segments, and what they decide.
use mathlib.Core.Path.{◌≡◌, refl, sym, ap, ◌∙◌}
use mathlib.Core.Bool.{Bool, true, false}
use mathlib.Core.List.{[], ◌∷◌}
use Rattle.std.proofs.lemmas.Bool.Decides.{Decides-and, Decides-not, Decides-like}
use Rattle.std.specs.Bool.{Decides}
use Rattle.std.specs.Prelude.{◌&&◌, ◌||◌, not, IsTrue}
use Rattle.std.specs.Ordering.{is_le, is_lt, is_eq, ordering_reverse}
use Rattle.std.specs.declared.cmp.Ordering.{Ordering}
use Rattle.std.specs.declared.cmp.Ordering.TheVariants.{Less, Equal, Greater}
use Rattle.algebra.specs.OrderedRing.{OrderedRing}
use Rattle.algebra.proofs.Solvers.{reads, ring, sign_of_multiple}
use Rattle.plane.specs.declared.point.Point.{Point}
use Rattle.plane.specs.declared.point.Line.{Line}
use Rattle.plane.specs.Points.{IsPoint, IsSamePoint, point_order}
use Rattle.plane.specs.Lines.{side, value}
use Rattle.plane.specs.Segments.{IsOn, IsBetween}
use Rattle.plane.proofs.Along.{between_of_on, on_of_between}
use Rattle.plane.proofs.Lines.{from_x, from_y, from_x_itself, from_y_itself, same_by_lines, lines_of_same, same_turned}
use Rattle.plane.proofs.OnSegments.{on_turned, sign_between, between_is_on, between_turned, on_is_between}
use Rattle.plane.proofs.Order.{order_turned, same_of_equal, equal_of_same}
use Rattle.plane.proofs.Shares.{side_of_on}
use Rattle.plane.proofs.Signs.{zero_is}
use Rattle.scaled_plane.specs.declared.point.Segment.{Segment}
use Rattle.scaled_plane.specs.Pieces.{Covers, IsProper}

pub equal_decides : (o : Ordering) → Decides (is_eq o) (o ≡ Equal)
equal_decides Less = (λ h. absurd (cc), λ h. absurd (cc))
equal_decides Equal = (λ h. refl, λ h. refl)
equal_decides Greater = (λ h. absurd (cc), λ h. absurd (cc))

pub less_decides : (o : Ordering) → Decides (is_lt o) (o ≡ Less)
less_decides Less = (λ h. refl, λ h. refl)
less_decides Equal = (λ h. absurd (cc), λ h. absurd (cc))
less_decides Greater = (λ h. absurd (cc), λ h. absurd (cc))

pub true_decides : (b : Bool) → Decides b (IsTrue b)
true_decides b = (λ h. h, λ h. h)

module _ {A : Type 0} (K : OrderedRing A) where
  abbrev pub is_same : Point A → Point A → Bool
  is_same p q = is_eq (point_order K p q)

  pub same_decides : (p q : Point A) → Decides (is_same p q) (IsSamePoint K p q)
  same_decides p q =
      Decides-like (is_same p q) (same_of_equal K p q) (equal_of_same K p q) (equal_decides (point_order K p q))

  -- p stands on the line ab, from a to b in point order
  abbrev pub stands : Point A → Point A → Point A → Bool
  stands a b p = is_eq (side K a b p) && (is_le (point_order K a p) && is_le (point_order K p b))

  abbrev pub lies : Point A → Point A → Point A → Bool
  lies a b p = (is_lt (point_order K a b) && stands a b p) || (is_lt (point_order K b a) && stands b a p)

  module _ (a b p : Point A) (ha : IsPoint K a) (hb : IsPoint K b) (hp : IsPoint K p) where
    stands_decides : point_order K a b ≡ Less → Decides (stands a b p) (IsOn K a b p)
    stands_decides first =
        Decides-like (stands a b p)
        (λ h. on_of_between K a b p ha hb hp h.0 h.1 first)
        (λ h. (side_of_on K h, between_of_on K a b p ha hb hp first h))
        (Decides-and (is_eq (side K a b p)) (is_le (point_order K a p) && is_le (point_order K p b)) (equal_decides (side K a b p))
        (Decides-and (is_le (point_order K a p)) (is_le (point_order K p b)) (true_decides (is_le (point_order K a p))) (true_decides (is_le (point_order K p b)))))

  lies_by : (a b p : Point A) → IsPoint K a → IsPoint K b → IsPoint K p → ¬ IsSamePoint K a b → (o : Ordering) → point_order K a b ≡ o → Decides (lies a b p) (IsOn K a b p)
  lies_by a b p ha hb hp n Less e =
      let back : point_order K b a ≡ Greater = order_turned K a b ∙ ap ordering_reverse e in
      rw (e, back) (simple_left (stands a b p) (stands_decides a b p ha hb hp e))
    where
      simple_left : (x : Bool) → Decides x (IsOn K a b p) → Decides ((true && x) || (false && stands b a p)) (IsOn K a b p)
      simple_left true d = d
      simple_left false d = d
  lies_by a b p ha hb hp n Equal e = absurd (n (same_of_equal K a b e))
  lies_by a b p ha hb hp n Greater e =
      let back : point_order K b a ≡ Less = order_turned K a b ∙ ap ordering_reverse e in
      rw (e, back) (simple_right (stands b a p) (stands_decides b a p hb ha hp back))
    where
      simple_right : (x : Bool) → Decides x (IsOn K b a p) → Decides ((false && stands a b p) || (true && x)) (IsOn K a b p)
      simple_right true d = (λ h. on_turned K (d.0 refl), λ h. refl)
      simple_right false d = (λ h. absurd (cc), λ h. d.1 (on_turned K h))

  pub lies_decides : (a b p : Point A) → IsPoint K a → IsPoint K b → IsPoint K p → ¬ IsSamePoint K a b → Decides (lies a b p) (IsOn K a b p)
  lies_decides a b p ha hb hp n = lies_by a b p ha hb hp n (point_order K a b) refl

  -- ---- covered

  abbrev pub covers : Segment A → Point A → Point A → Bool
  covers s p q = not (is_same s.from s.to) && (lies s.from s.to p && lies s.from s.to q)

  module _ (s : Segment A) (p q : Point A) (hs : IsPoint K s.from) (ht : IsPoint K s.to) (hp : IsPoint K p) (hq : IsPoint K q) where
    covers_by : (b : Bool) → is_same s.from s.to ≡ b → Decides (covers s p q) (Covers K s p q)
    covers_by true e =
        rw e (λ h. absurd (cc), λ h. absurd (h.proper ((same_decides s.from s.to).0 e)))
    covers_by false e =
        let proper : IsProper K s = λ h. let no = (same_decides s.from s.to).1 h in absurd (cc) in
        Decides-like (covers s p q) (λ h. record { proper = proper; first = h.1.0; second = h.1.1 }) (λ h. (proper, (h.first, h.second)))
        (Decides-and (not (is_same s.from s.to)) (lies s.from s.to p && lies s.from s.to q) (Decides-not (is_same s.from s.to) (same_decides s.from s.to))
        (Decides-and (lies s.from s.to p) (lies s.from s.to q) (lies_decides s.from s.to p hs ht hp proper) (lies_decides s.from s.to q hs ht hq proper)))

    pub covers_decides : Decides (covers s p q) (Covers K s p q)
    covers_decides = covers_by (is_same s.from s.to) refl

  -- ---- between

  -- a line that is zero at p and at a point between p and q is zero at q
  zero_at_end : (l : Line A) {p q r : Point A} → IsBetween K p q r → K.sign (value K.ops l p) ≡ Equal → K.sign (value K.ops l r) ≡ Equal → K.sign (value K.ops l q) ≡ Equal
  zero_at_end l {p} {q} {r} h at_p at_r =
      sym (sign_of_multiple K h.to_share (value K.ops l q) h.to_positive)
      ∙ ap K.sign (ring K (h.from_share ∷ h.to_share ∷ value K.ops l q ∷ []) (search reads depth 40 fits 50000) (search reads depth 40 fits 50000) tt)
      ∙ sym (ap (λ v. K.sign (K.add (K.mul h.from_share v) (K.mul h.to_share (value K.ops l q)))) (zero_is K at_p))
      ∙ sym (sign_between K l h) ∙ at_r

  pub not_first : {p q r : Point A} → ¬ IsSamePoint K p q → IsBetween K p q r → ¬ IsSamePoint K p r
  not_first {p} {q} {r} n h same =
      let at_r = lines_of_same K same in
      n (same_by_lines K (zero_at_end (from_x K p) h (from_x_itself K p) at_r.0, zero_at_end (from_y K p) h (from_y_itself K p) at_r.1))

  abbrev pub between : Point A → Point A → Point A → Bool
  between p q r = lies p q r && (not (is_same r p) && not (is_same r q))

  pub between_decides : (p q r : Point A) → IsPoint K p → IsPoint K q → IsPoint K r → ¬ IsSamePoint K p q → Decides (between p q r) (IsBetween K p q r)
  between_decides p q r hp hq hr n =
      Decides-like (between p q r) (λ h. on_is_between K h.0 h.1.0 h.1.1)
      (λ h. (between_is_on K h, (λ e. not_first n h (same_turned K e), λ e. not_first (λ f. n (same_turned K f)) (between_turned K h) (same_turned K e))))
      (Decides-and (lies p q r) (not (is_same r p) && not (is_same r q)) (lies_decides p q r hp hq hr n)
      (Decides-and (not (is_same r p)) (not (is_same r q)) (Decides-not (is_same r p) (same_decides r p)) (Decides-not (is_same r q) (same_decides r q))))
