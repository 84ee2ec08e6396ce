-- A ring of points that goes round a point one way has some of them on each side of every line
-- through that point.
use Rattle.std.proofs.Common.{◌≡◌, ◌∙◌, ap, refl, sym, List, [], ◌∷◌, IsTrue, Bool, true, false}
use lib.IntN.{pos}
use Rattle.std.specs.Prelude.{Contains}
use Rattle.std.specs.declared.cmp.Ordering.{Ordering}
use Rattle.std.specs.declared.cmp.Ordering.TheVariants.{Less, Equal, Greater}
use Rattle.std.specs.Ordering.{is_ge, is_le}
use Rattle.algebra.specs.OrderedRing.{OrderedRing}
use Rattle.algebra.proofs.Solvers.{reads, ring, sign_from, known, no_sign, any_sign, given, sum, product, negated, positive, at_zero, not_negative, not_positive, sign_of_multiple}
use Rattle.plane.specs.declared.point.Point.{Point}
use Rattle.plane.specs.declared.point.Line.{Line}
use Rattle.plane.specs.Points.{IsPoint}
use Rattle.plane.specs.Lines.{value}
use Rattle.plane.proofs.Signs.{zero_sign, positive_product}
use Rattle.plane.proofs.Members.{in_head, in_tail}
use Rattle.layers.specs.Pieces.{Piece, pieces_on_to, pieces_round}
use Rattle.layers.specs.Sheets.{FoldedFace, IsInsideFace}
use Rattle.layers.proofs.Faces.{inward_line, inward_sign}

module _ {A : Type 0} (K : OrderedRing A) where
  abbrev NotNegative : A → Type 0
  NotNegative a = IsTrue (is_ge (K.sign a))

  sum_not_negative : (a b x y : A) → NotNegative a → NotNegative x → NotNegative b → NotNegative y → NotNegative (K.add (K.mul a x) (K.mul b y))
  sum_not_negative a b x y ha hx hb hy =
      sign_from K (a ∷ b ∷ x ∷ y ∷ []) (known not_negative (search reads depth 40 fits 50000) ha (known not_negative (search reads depth 40 fits 50000) hx (known not_negative (search reads depth 40 fits 50000) hb (known not_negative (search reads depth 40 fits 50000) hy no_sign))))
      not_negative (search reads depth 40 fits 50000) (sum (product (given 0) (given 1)) (product (given 2) (given 3))) tt tt

  sum_positive : (a b x y : A) → NotNegative a → NotNegative x → K.sign b ≡ Greater → K.sign y ≡ Greater → K.sign (K.add (K.mul a x) (K.mul b y)) ≡ Greater
  sum_positive a b x y ha hx hb hy =
      sign_from K (a ∷ b ∷ x ∷ y ∷ []) (known not_negative (search reads depth 40 fits 50000) ha (known not_negative (search reads depth 40 fits 50000) hx (known positive (search reads depth 40 fits 50000) hb (known positive (search reads depth 40 fits 50000) hy no_sign))))
      positive (search reads depth 40 fits 50000) (sum (product (given 0) (given 1)) (product (given 2) (given 3))) tt tt

  sum_nothing : (a b x y : A) → K.sign a ≡ Equal → K.sign b ≡ Equal → K.sign (K.add (K.mul a x) (K.mul b y)) ≡ Equal
  sum_nothing a b x y ha hb =
      sign_from K (a ∷ b ∷ x ∷ y ∷ []) (known at_zero (search reads depth 40 fits 50000) ha (known at_zero (search reads depth 40 fits 50000) hb (known any_sign {a = x} (search reads depth 40 fits 50000) tt (known any_sign {a = y} (search reads depth 40 fits 50000) tt no_sign))))
      at_zero (search reads depth 40 fits 50000) (sum (product (given 0) (given 2)) (product (given 1) (given 3))) tt tt

  -- what a number that isn't negative multiplies to something positive is positive
  other_positive : (a b : A) → NotNegative a → K.sign (K.mul a b) ≡ Greater → K.sign b ≡ Greater
  other_positive a b ha h = at (K.sign b) refl
    where
      not_above : IsTrue (is_le (K.sign b)) → IsTrue (is_le (K.sign (K.mul a b)))
      not_above hb =
          sign_from K (a ∷ b ∷ []) (known not_negative (search reads depth 40 fits 50000) ha (known not_positive (search reads depth 40 fits 50000) hb no_sign)) not_positive (search reads depth 40 fits 50000) (product (given 0) (given 1)) tt tt

      at : (o : Ordering) → K.sign b ≡ o → K.sign b ≡ Greater
      at Less e = let le : IsTrue (is_le (K.sign b)) = cc in let n : IsTrue (is_le (K.sign (K.mul a b))) = not_above le in absurd (cc)
      at Equal e = let le : IsTrue (is_le (K.sign b)) = cc in let n : IsTrue (is_le (K.sign (K.mul a b))) = not_above le in absurd (cc)
      at Greater e = e

  negated_positive : (a : A) → NotNegative a → ¬ (K.sign (K.neg a) ≡ Greater)
  negated_positive a ha h =
      let le : IsTrue (is_le (K.sign (K.neg a))) = sign_from K (a ∷ []) (known not_negative (search reads depth 20) ha no_sign) not_positive (search reads depth 20) (negated (given 0)) tt tt in
      absurd (cc)

  -- how far one goes round from each point to another, and how high each stands
  module _ (turn : Point A → Point A → A) (height : Point A → A) (turned : (a b : Point A) → turn b a ≡ K.neg (turn a b)) (nothing : (a : Point A) → turn a a ≡ K.int (pos 0))
      (exchange : (a b c : Point A) → K.mul (height b) (turn a c) ≡ K.add (K.mul (height c) (turn a b)) (K.mul (height a) (turn b c))) where
    abbrev Goes : Piece A → Type 0
    Goes s = K.sign (turn s.from s.to) ≡ Greater

    abbrev Stands : Point A → Type 0
    Stands v = NotNegative (height v)

    -- from the first point on no point is reached by less than a half turn, so that the last one doesn't lead on to the first
    goes_on : (first : Point A) → ((q r : Point A) → Stands q → Stands r → NotNegative (turn first q) → K.sign (turn q r) ≡ Greater → NotNegative (turn first r))
        → (q : Point A) (rest : List (Point A)) → ((v : Point A) → Contains (q ∷ rest) v → Stands v) → NotNegative (turn first q)
        → ((s : Piece A) → Contains (pieces_on_to first (q ∷ rest)) s → Goes s) → ⊥
    goes_on first step q [] stand reached goes =
        negated_positive (turn first q) reached (ap K.sign (sym (turned first q)) ∙ goes (record { from = q; to = first }) (in_head (record { from = q; to = first }) []))
    goes_on first step q (r ∷ rest) stand reached goes =
        let s : Piece A = record { from = q; to = r } in
        goes_on first step r rest (λ v i. stand v (in_tail q (r ∷ rest) v i))
        (step q r (stand q (in_head q (r ∷ rest))) (stand r (in_tail q (r ∷ rest) r (in_head r rest))) reached (goes s (in_head s (pieces_on_to first (r ∷ rest)))))
        (λ t i. goes t (in_tail s (pieces_on_to first (r ∷ rest)) t i))

    itself : (a : Point A) → NotNegative (turn a a)
    itself a = let z : K.sign (turn a a) ≡ Equal = zero_sign K (turn a a) (nothing a) in cc

    no_turn : (a : Point A) → ¬ (K.sign (turn a a) ≡ Greater)
    no_turn a h = let z : K.sign (turn a a) ≡ Equal = zero_sign K (turn a a) (nothing a) in absurd (cc)

    -- the first stands above zero
    step_high : (first : Point A) → K.sign (height first) ≡ Greater → (q r : Point A) → Stands q → Stands r → NotNegative (turn first q) → K.sign (turn q r) ≡ Greater → NotNegative (turn first r)
    step_high first high q r hq hr reached goes =
        let above : K.sign (turn first r) ≡ Greater = other_positive (height q) (turn first r) hq
        (ap K.sign (exchange first q r) ∙ sum_positive (height r) (height first) (turn first q) (turn q r) hr reached high goes) in
        cc

    -- the first stands at zero, and the second above it
    step_flat : (first second : Point A) → K.sign (height first) ≡ Equal → K.sign (height second) ≡ Greater → K.sign (turn first second) ≡ Greater
        → (q r : Point A) → Stands q → Stands r → NotNegative (turn first q) → K.sign (turn q r) ≡ Greater → NotNegative (turn first r)
    step_flat first second flat high goes_first q r hq hr reached goes =
        let whole : NotNegative (K.mul (height second) (turn first r)) = rw (exchange first second r) (flat_sum (height r) (height first) (turn first second) (turn second r) hr flat goes_first) in
        rw (sym (sign_of_multiple K (height second) (turn first r) high)) whole
      where
        flat_sum : (a b x y : A) → NotNegative a → K.sign b ≡ Equal → K.sign x ≡ Greater → NotNegative (K.add (K.mul a x) (K.mul b y))
        flat_sum a b x y ha hb hx =
            sign_from K (a ∷ b ∷ x ∷ y ∷ []) (known not_negative (search reads depth 40 fits 50000) ha (known at_zero (search reads depth 40 fits 50000) hb (known positive (search reads depth 40 fits 50000) hx (known any_sign {a = y} (search reads depth 40 fits 50000) tt no_sign))))
            not_negative (search reads depth 40 fits 50000) (sum (product (given 0) (given 2)) (product (given 1) (given 3))) tt tt

    -- the second can't stand at zero too, where some point stands above it
    second_high : (first second u : Point A) → K.sign (height first) ≡ Equal → K.sign (turn first second) ≡ Greater → K.sign (height u) ≡ Greater → Stands second → K.sign (height second) ≡ Greater
    second_high first second u flat goes high stands = at (K.sign (height second)) refl
      where
        at : (o : Ordering) → K.sign (height second) ≡ o → K.sign (height second) ≡ Greater
        at Less e = absurd (cc)
        at Equal e =
            let none : K.sign (K.mul (height u) (turn first second)) ≡ Equal = ap K.sign (exchange first u second) ∙ sum_nothing (height second) (height first) (turn first u) (turn u second) e flat in
            let some : K.sign (K.mul (height u) (turn first second)) ≡ Greater = positive_product K (height u) (turn first second) high goes in
            absurd (cc)
        at Greater e = e

    -- no ring of points that stand at zero or above, and not all at zero, goes round
    pub never_round : (first : Point A) (rest : List (Point A)) (u : Point A) → ((v : Point A) → Contains (first ∷ rest) v → Stands v) → K.sign (height u) ≡ Greater
        → ((s : Piece A) → Contains (pieces_round (first ∷ rest)) s → Goes s) → ⊥
    never_round first rest u stand high goes = at (K.sign (height first)) refl rest stand goes
      where
        at : (o : Ordering) → K.sign (height first) ≡ o → (rest : List (Point A)) → ((v : Point A) → Contains (first ∷ rest) v → Stands v)
            → ((s : Piece A) → Contains (pieces_on_to first (first ∷ rest)) s → Goes s) → ⊥
        at Less e rest stand goes = let h : Stands first = stand first (in_head first rest) in absurd (cc)
        at Greater e rest stand goes = goes_on first (step_high first e) first rest stand (itself first) goes
        at Equal e [] stand goes = no_turn first (goes (record { from = first; to = first }) (in_head (record { from = first; to = first }) []))
        at Equal e (second ∷ rest) stand goes =
            let s : Piece A = record { from = first; to = second } in
            let on : K.sign (turn first second) ≡ Greater = goes s (in_head s (pieces_on_to first (second ∷ rest))) in
            goes_on first (step_flat first second e (second_high first second u e on high (stand second (in_tail first (second ∷ rest) second (in_head second rest)))) on)
            first (second ∷ rest) stand (itself first) goes

  -- ---- the corners of a face round a point inside it

  module _ (l : Line A) (p : Point A) where
    -- how far a point lies on the left of the parallel to l through p
    abbrev height_over : Point A → A
    height_over v = K.sub (K.mul (value K.ops l v) p.w) (K.mul (value K.ops l p) v.w)

    abbrev turn_by : Bool → Point A → Point A → A
    turn_by t a b = value K.ops (inward_line K t (record { from = a; to = b })) p

    turned_by : (t : Bool) (a b : Point A) → turn_by t b a ≡ K.neg (turn_by t a b)
    turned_by false a b = ring K (a.x ∷ a.y ∷ a.w ∷ b.x ∷ b.y ∷ b.w ∷ p.x ∷ p.y ∷ p.w ∷ []) (search reads depth 40 fits 50000) (search reads depth 40 fits 50000) tt
    turned_by true a b = ring K (a.x ∷ a.y ∷ a.w ∷ b.x ∷ b.y ∷ b.w ∷ p.x ∷ p.y ∷ p.w ∷ []) (search reads depth 40 fits 50000) (search reads depth 40 fits 50000) tt

    nothing_by : (t : Bool) (a : Point A) → turn_by t a a ≡ K.int (pos 0)
    nothing_by false a = ring K (a.x ∷ a.y ∷ a.w ∷ p.x ∷ p.y ∷ p.w ∷ []) (search reads depth 40 fits 50000) (search reads depth 40 fits 50000) tt
    nothing_by true a = ring K (a.x ∷ a.y ∷ a.w ∷ p.x ∷ p.y ∷ p.w ∷ []) (search reads depth 40 fits 50000) (search reads depth 40 fits 50000) tt

    exchange_by : (t : Bool) (a b c : Point A) → K.mul (height_over b) (turn_by t a c) ≡ K.add (K.mul (height_over c) (turn_by t a b)) (K.mul (height_over a) (turn_by t b c))
    exchange_by false a b c =
        ring K (l.a ∷ l.b ∷ l.c ∷ a.x ∷ a.y ∷ a.w ∷ b.x ∷ b.y ∷ b.w ∷ c.x ∷ c.y ∷ c.w ∷ p.x ∷ p.y ∷ p.w ∷ []) (search reads depth 60 fits 100000) (search reads depth 60 fits 100000) tt
    exchange_by true a b c =
        ring K (l.a ∷ l.b ∷ l.c ∷ a.x ∷ a.y ∷ a.w ∷ b.x ∷ b.y ∷ b.w ∷ c.x ∷ c.y ∷ c.w ∷ p.x ∷ p.y ∷ p.w ∷ []) (search reads depth 60 fits 100000) (search reads depth 60 fits 100000) tt

    difference_not_negative : (x y u v : A) → NotNegative x → K.sign u ≡ Greater → IsTrue (is_le (K.sign y)) → K.sign v ≡ Greater → NotNegative (K.sub (K.mul x u) (K.mul y v))
    difference_not_negative x y u v hx hu hy hv =
        sign_from K (x ∷ y ∷ u ∷ v ∷ []) (known not_negative (search reads depth 40 fits 50000) hx (known positive (search reads depth 40 fits 50000) hu (known not_positive (search reads depth 40 fits 50000) hy (known positive (search reads depth 40 fits 50000) hv no_sign))))
        not_negative (search reads depth 40 fits 50000) (sum (product (given 0) (given 1)) (product (negated (given 2)) (given 3))) tt tt

    difference_positive : (x y u v : A) → K.sign x ≡ Greater → K.sign u ≡ Greater → IsTrue (is_le (K.sign y)) → K.sign v ≡ Greater → K.sign (K.sub (K.mul x u) (K.mul y v)) ≡ Greater
    difference_positive x y u v hx hu hy hv =
        sign_from K (x ∷ y ∷ u ∷ v ∷ []) (known positive (search reads depth 40 fits 50000) hx (known positive (search reads depth 40 fits 50000) hu (known not_positive (search reads depth 40 fits 50000) hy (known positive (search reads depth 40 fits 50000) hv no_sign))))
        positive (search reads depth 40 fits 50000) (sum (product (given 0) (given 1)) (product (negated (given 2)) (given 3))) tt tt

    -- where no corner lies on the right of a line, and one on its left, a point inside lies on its left
    pub inside_above : (face : FoldedFace A) (u : Point A) → IsPoint K p → IsInsideFace K face p → ((v : Point A) → Contains face.corners v → IsPoint K v)
        → ((v : Point A) → Contains face.corners v → NotNegative (value K.ops l v)) → Contains face.corners u → K.sign (value K.ops l u) ≡ Greater
        → K.sign (value K.ops l p) ≡ Greater
    inside_above face u ip inside points right there left = at (K.sign (value K.ops l p)) refl
      where
        never : IsTrue (is_le (K.sign (value K.ops l p))) → (corners : List (Point A)) → ((v : Point A) → Contains corners v → IsPoint K v)
            → ((v : Point A) → Contains corners v → NotNegative (value K.ops l v)) → Contains corners u
            → ((s : Piece A) → Contains (pieces_round corners) s → K.sign (value K.ops (inward_line K face.turned s) p) ≡ Greater) → ⊥
        never below [] points right there inward = absurd (Rattle.plane.proofs.Members.in_nil u there)
        never below (first ∷ rest) points right there inward =
            never_round (turn_by face.turned) height_over (turned_by face.turned) (nothing_by face.turned) (exchange_by face.turned) first rest u
            (λ v i. difference_not_negative (value K.ops l v) (value K.ops l p) p.w v.w (right v i) ip below (points v i))
            (difference_positive (value K.ops l u) (value K.ops l p) p.w u.w left ip below (points u there))
            inward

        inward : (s : Piece A) → Contains (pieces_round face.corners) s → K.sign (value K.ops (inward_line K face.turned s) p) ≡ Greater
        inward s i = inward_sign K face.turned s p (inside s i)

        at : (o : Ordering) → K.sign (value K.ops l p) ≡ o → K.sign (value K.ops l p) ≡ Greater
        at Less e = let below : IsTrue (is_le (K.sign (value K.ops l p))) = cc in absurd (never below face.corners points right there inward)
        at Equal e = let below : IsTrue (is_le (K.sign (value K.ops l p))) = cc in absurd (never below face.corners points right there inward)
        at Greater e = e
