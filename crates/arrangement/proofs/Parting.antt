-- Two different pieces meet in ends alone.
use mathlib.Core.Path.{◌≡◌, refl, sym, ◌∙◌}
use mathlib.Core.List.{List}
use mathlib.Core.Logic.{◌⊎◌, inl, inr}
use Rattle.std.specs.declared.cmp.Ordering.{Ordering}
use Rattle.std.specs.declared.cmp.Ordering.TheVariants.{Less, Equal, Greater}
use Rattle.algebra.specs.OrderedRing.{OrderedRing}
use Rattle.plane.specs.declared.point.Point.{Point}
use Rattle.plane.specs.Points.{IsPoint, IsSamePoint}
use Rattle.plane.specs.Lines.{side}
use Rattle.plane.specs.Segments.{IsBetween, IsEnd, IsOn, MeetInEnds}
use Rattle.plane.specs.Directions.{AreParallel, direction, turn}
use Rattle.plane.proofs.Along.{between_of_on}
use Rattle.plane.proofs.Lines.{same_turned}
use Rattle.plane.proofs.OnSegments.{between_is_on, on_between, on_is_between}
use Rattle.plane.proofs.Order.{order_chain, order_same_right}
use Rattle.plane.proofs.Shares.{side_of_on}
use Rattle.scaled_plane.specs.declared.point.Segment.{Segment}
use Rattle.scaled_plane.specs.Pieces.{IsPiece}
use Rattle.arrangement.proofs.OnLines.{Before, Upto, apart, between_on_line, on_other_line, order_of_between, then_upto, three_orders, upto_then}

module _ {A : Type 0} (K : OrderedRing A) where
  decided_same : (p q : Point A) → IsSamePoint K p q ⊎ (¬ IsSamePoint K p q)
  decided_same p q = elim (three_orders K p q) [
    | inl less ↦ inr (λ e. apart_by less e)
    | inr (inl e) ↦ inl e
    | inr (inr more) ↦ inr (λ e. apart_by more (same_turned K e))
  ]
    where
      apart_by : {a b : Point A} → Before K a b → ¬ IsSamePoint K a b
      apart_by {a} {b} less e = apart K a b less e

  parallel_decided : (a b c d : Point A) → AreParallel K a b c d ⊎ (¬ AreParallel K a b c d)
  parallel_decided a b c d = by_cases (K.sign (turn K.ops (direction K.ops a b) (direction K.ops c d))) refl
    where
      by_cases : (o : Ordering) → K.sign (turn K.ops (direction K.ops a b) (direction K.ops c d)) ≡ o → AreParallel K a b c d ⊎ (¬ AreParallel K a b c d)
      by_cases Less e = inr (λ h. absurd (let no : Less ≡ Equal = sym e ∙ h in cc))
      by_cases Equal e = inl e
      by_cases Greater e = inr (λ h. absurd (let no : Greater ≡ Equal = sym e ∙ h in cc))

  module _ (segments : List (Segment A))
      (p q c d : Point A) (first : IsPiece K segments p q) (second : IsPiece K segments c d) (different : ¬ (IsSamePoint K c p × IsSamePoint K q d)) where
    hp : IsPoint K p
    hp = first.first.0

    hq : IsPoint K q
    hq = first.second.0

    hc : IsPoint K c
    hc = second.first.0

    hd : IsPoint K d
    hd = second.second.0

    -- the segments of two pieces along one line, of which a common point lies between the ends of the first
    module _ (x : Point A) (hx : IsPoint K x) (between : IsBetween K p q x) (on : IsOn K c d x) where
      abbrev s : Segment A
      s = first.covered.0

      abbrev t : Segment A
      t = second.covered.0

      on_s : IsOn K s.from s.to x
      on_s = on_between K s.from s.to p q x first.covered.2.first first.covered.2.second (between_is_on K between)

      on_t : IsOn K t.from t.to x
      on_t = on_between K t.from t.to c d x second.covered.2.first second.covered.2.second on

      stands : Before K p x × Before K x q
      stands = order_of_between K p q x hp hq hx first.in_order between

      within : Upto K c x × Upto K x d
      within = between_of_on K c d x hc hd hx second.in_order on

      module _ (parallel : AreParallel K s.from s.to t.from t.to) where
        on_line : (y : Point A) → IsOn K t.from t.to y → side K s.from s.to y ≡ Equal
        on_line y h = on_other_line K s.from s.to t.from t.to x y hx second.covered.2.proper parallel (side_of_on K on_s) (side_of_on K on_t) (side_of_on K h)

        p_on : side K s.from s.to p ≡ Equal
        p_on = side_of_on K first.covered.2.first

        q_on : side K s.from s.to q ≡ Equal
        q_on = side_of_on K first.covered.2.second

        c_on : side K s.from s.to c ≡ Equal
        c_on = on_line c second.covered.2.first

        d_on : side K s.from s.to d ≡ Equal
        d_on = on_line d second.covered.2.second

        -- c isn't beyond p, nor d before q, since neither lies between p and q
        c_before : Before K p c → ⊥
        c_before less =
            first.nothing_between c second.first
            (between_on_line K s.from s.to p q c hp hq hc first.covered.2.proper p_on q_on c_on less (upto_then K c x q hc hx hq within.0 stands.1))

        d_after : Before K d q → ⊥
        d_after less =
            first.nothing_between d second.second
            (between_on_line K s.from s.to p q d hp hq hd first.covered.2.proper p_on q_on d_on (then_upto K p x d hp hx hd stands.0 within.1) less)

        -- and so p and q are c and d, since neither lies between these
        one_piece : ⊥
        one_piece = elim (three_orders K c p) [
          | inr (inr less) ↦ c_before less
          | inl less ↦ second.nothing_between p first.first
              (between_on_line K s.from s.to c d p hc hd hp first.covered.2.proper c_on d_on p_on less (order_chain K p x d hp hx hd stands.0 x_first))
          | inr (inl e) ↦ elim (three_orders K q d) [
            | inr (inr less) ↦ d_after less
            | inr (inl f) ↦ different (e, f)
            | inl less ↦ second.nothing_between q first.second
                (between_on_line K s.from s.to c d q hc hd hq first.covered.2.proper c_on d_on q_on (upto_then K c x q hc hx hq within.0 stands.1) less)
          ]
        ]
          where
            x_first : Before K x d
            x_first = elim (three_orders K q d) [
              | inl less ↦ order_chain K x q d hx hq hd stands.1 less
              | inr (inl f) ↦ sym (order_same_right K q d x hq hd f) ∙ stands.1
              | inr (inr less) ↦ absurd (d_after less)
            ]

      none : ⊥
      none = elim (parallel_decided s.from s.to t.from t.to) [
        | inl h ↦ one_piece h
        | inr n ↦ first.nothing_between x (hx, inr (s, t, first.covered.1, second.covered.1, first.covered.2.proper, second.covered.2.proper, n, (on_s, on_t))) between
      ]

    -- a common point is an end of the first
    pub end_of_first : (x : Point A) → IsPoint K x → IsOn K p q x → IsOn K c d x → IsEnd K p q x
    end_of_first x hx h k = elim (decided_same x p) [
      | inl e ↦ inl e
      | inr n ↦ elim (decided_same x q) [
        | inl e ↦ inr e
        | inr m ↦ absurd (none x hx (on_is_between K h n m) k)
      ]
    ]

  -- two pieces that aren't one meet in common ends alone
  pub pieces_apart : (segments : List (Segment A)) (p q c d : Point A) → IsPiece K segments p q → IsPiece K segments c d → ¬ (IsSamePoint K p c × IsSamePoint K q d) → MeetInEnds K p q c d
  pieces_apart segments p q c d first second different x hx h k = (
    end_of_first segments p q c d first second (λ e. different (same_turned K e.0, e.1)) x hx h k,
    end_of_first segments c d p q second first (λ e. different (e.0, same_turned K e.1)) x hx k h,
  )
