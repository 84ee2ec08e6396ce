-- A point near a given one, on none of finitely many lines: the plane's lemma, for lists by recursion.
use mathlib.Core.Path.{◌≡◌, sym, subst}
use mathlib.Core.List.{List, [], ◌∷◌}
use mathlib.Core.Logic.{inl, inr}
use Rattle.std.specs.declared.cmp.Ordering.TheVariants.{Equal}
use Rattle.algebra.specs.OrderedRing.{OrderedRing}
use Rattle.plane.specs.declared.point.Point.{Point}
use Rattle.plane.specs.declared.point.Line.{Line}
use Rattle.plane.specs.Points.{IsPoint}
use Rattle.std.specs.Prelude.{Contains}
use Rattle.plane.specs.Lines.{value, IsAbove, LiesIn}
use Rattle.plane.proofs.Members.{in_cons, in_head, in_tail, in_nil}
use Rattle.plane.proofs.Density.{general_point}

module _ {A : Type 0} (K : OrderedRing A) where
  abbrev pub AllAbove : List (Line A) → Point A → Type 0
  AllAbove [] p = Unit {0}
  AllAbove (L ∷ Ls) p = IsAbove K L p × AllAbove Ls p

  -- a line, and a point where it isn't zero
  pub record Witnessed : Type 0 where
    pub functional : Line A
    pub witness : Point A
    pub point : IsPoint K witness
    pub differs : ¬ (K.sign (value K.ops functional witness) ≡ Equal)

  abbrev pub NoneZero : List Witnessed → Point A → Type 0
  NoneZero [] p = Unit {0}
  NoneZero (w ∷ ws) p = (¬ (K.sign (value K.ops w.functional p) ≡ Equal)) × NoneZero ws p

  lies : (Ls : List (Line A)) (p : Point A) → AllAbove Ls p → LiesIn K Ls p
  lies [] p h l i = absurd (in_nil l i)
  lies (L ∷ Ls) p h l i = elim (in_cons L Ls l i) [ inl e ↦ subst (λ m. IsAbove K m p) e h.0 | inr j ↦ lies Ls p h.1 l j ]

  all_above : (Ls : List (Line A)) (p : Point A) → LiesIn K Ls p → AllAbove Ls p
  all_above [] p h = tt
  all_above (L ∷ Ls) p h = (h L (in_head L Ls), all_above Ls p (λ l i. h l (in_tail L Ls l i)))

  abbrev lines_of : List Witnessed → List (Line A)
  lines_of [] = []
  lines_of (w ∷ ws) = w.functional ∷ lines_of ws

  none_zero : (ws : List Witnessed) (p : Point A) → ((l : Line A) → Contains (lines_of ws) l → ¬ (K.sign (value K.ops l p) ≡ Equal)) → NoneZero ws p
  none_zero [] p h = tt
  none_zero (w ∷ ws) p h = (h w.functional (in_head w.functional (lines_of ws)), none_zero ws p (λ l i. h l (in_tail w.functional (lines_of ws) l i)))

  witnesses : (ws : List Witnessed) (l : Line A) → Contains (lines_of ws) l → (v : Point A) × IsPoint K v × ¬ (K.sign (value K.ops l v) ≡ Equal)
  witnesses [] l i = absurd (in_nil l i)
  witnesses (w ∷ ws) l i = elim (in_cons w.functional (lines_of ws) l i) [
    | inl e ↦ (w.witness, w.point, λ z. w.differs (subst (λ m. K.sign (value K.ops m w.witness) ≡ Equal) (sym e) z))
    | inr j ↦ witnesses ws l j
  ]

  -- where these lines are above zero at p, they are so at a point where none of those is zero
  pub general : (ws : List Witnessed) (Ls : List (Line A)) (p : Point A) → IsPoint K p → AllAbove Ls p
      → (q : Point A) × IsPoint K q × AllAbove Ls q × NoneZero ws q
  general ws Ls p hp h =
      let r : (q : Point A) × IsPoint K q × LiesIn K Ls q × ((l : Line A) → Contains (lines_of ws) l → ¬ (K.sign (value K.ops l q) ≡ Equal))
      = general_point K (lines_of ws) Ls p hp (lies Ls p h) (witnesses ws) in
      (r.0, r.1, all_above Ls r.0 r.2, none_zero ws r.0 r.3)
