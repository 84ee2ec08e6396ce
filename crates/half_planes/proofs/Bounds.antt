-- What bounds on one number ask together: which of two is the tighter, and a place between a lower and an upper one.
use Rattle.std.proofs.Common.{◌≡◌, ◌∙◌, ap, [], ◌∷◌, pos, Option, Some, None, IsTrue, subst}
use Rattle.std.specs.declared.cmp.Ordering.{Ordering}
use Rattle.std.specs.declared.cmp.Ordering.TheVariants.{Equal, Greater}
use Rattle.std.specs.Ordering.{ordering_reverse, is_ge, is_le}
use Rattle.algebra.specs.OrderedRing.{OrderedRing}
use Rattle.algebra.proofs.Solvers.{reads, sign_from, sign_from_multiple, known, no_sign, positive, negative, not_negative, not_positive, at_zero, unknown, variable, given, sum, product, negated, sign_neg}
use Rattle.half_planes.specs.Bounds.{Place, IsPlace, Holds, IsLower, IsUpper, gap, LeaveRoom, Lies}
use Rattle.half_planes.specs.declared.bound.Bound.{Bound}

absurd_sign : {s : Ordering} → s ≡ Greater → IsTrue (is_le s) → ⊥
absurd_sign {s} e h = let P : Ordering → Type 0 = λ t. IsTrue (is_le t) in let impossible : IsTrue (is_le Greater) = subst P e h in cc

module _ {A : Type 0} (K : OrderedRing A) where
  module _ (f g : Bound A) (p : Place A) (h : IsPlace K p) where
    -- of two lower bounds the second follows from the first, where its end lies no higher
    pub lower_follows : IsLower K f → IsLower K g → IsTrue (is_ge (K.sign (gap K.ops f g))) → Holds K f p → Holds K g p
    lower_follows hf hg apart holds =
        sign_from_multiple K (f.slope ∷ f.offset ∷ g.slope ∷ g.offset ∷ p.x ∷ p.weight ∷ [])
        (known positive (search reads depth 20) hg (known positive (search reads depth 40 fits 50000) holds
        (known not_negative (search reads depth 40 fits 50000) apart (known positive (search reads depth 20) h no_sign))))
        positive (search reads depth 20) hf (search reads depth 40 fits 50000)
        (sum (product (given 0) (given 1)) (product (given 2) (given 3))) tt tt

    -- and of two upper bounds, where its end lies no lower
    pub upper_follows : IsUpper K f → IsUpper K g → IsTrue (is_le (K.sign (gap K.ops f g))) → Holds K f p → Holds K g p
    upper_follows hf hg apart holds =
        let turned : K.sign (K.neg f.slope) ≡ Greater = sign_neg K f.slope ∙ ap ordering_reverse hf in
        sign_from_multiple K (f.slope ∷ f.offset ∷ g.slope ∷ g.offset ∷ p.x ∷ p.weight ∷ [])
        (known negative (search reads depth 20) hg (known positive (search reads depth 40 fits 50000) holds
        (known not_positive (search reads depth 40 fits 50000) apart (known positive (search reads depth 20) h no_sign))))
        positive (search reads depth 20) turned (search reads depth 40 fits 50000)
        (sum (product (negated (given 0)) (given 1)) (product (negated (given 2)) (given 3))) tt tt

    -- a lower and an upper bound that hold at one place leave a gap
    pub gap_from_place : IsLower K f → IsUpper K g → Holds K f p → Holds K g p → K.sign (gap K.ops f g) ≡ Greater
    gap_from_place hf hg holds_f holds_g =
        sign_from_multiple K (f.slope ∷ f.offset ∷ g.slope ∷ g.offset ∷ p.x ∷ p.weight ∷ [])
        (known positive (search reads depth 20) hf (known negative (search reads depth 20) hg
        (known positive (search reads depth 40 fits 50000) holds_f (known positive (search reads depth 40 fits 50000) holds_g no_sign))))
        positive (search reads depth 20) h (search reads depth 40 fits 50000)
        (sum (product (given 0) (given 3)) (product (negated (given 1)) (given 2))) tt tt

  -- a bound without slope holds at all places, or at none
  pub flat_holds : (f : Bound A) → K.sign f.slope ≡ Equal → K.sign f.offset ≡ Greater → (p : Place A) → IsPlace K p → Holds K f p
  flat_holds f flat offset p h =
      sign_from K (f.slope ∷ f.offset ∷ p.x ∷ p.weight ∷ [])
      (known at_zero (search reads depth 20) flat (known positive (search reads depth 20) offset (known positive (search reads depth 20) h no_sign)))
      positive (search reads depth 40 fits 50000) (sum (product (given 0) (unknown (variable 2))) (product (given 1) (given 2))) tt tt

  pub flat_fails : (f : Bound A) → K.sign f.slope ≡ Equal → IsTrue (is_le (K.sign f.offset)) → (p : Place A) → IsPlace K p → ¬ Holds K f p
  flat_fails f flat offset p h holds =
      let not_above : IsTrue (is_le (K.sign (K.add (K.mul f.slope p.x) (K.mul f.offset p.weight))))
      = sign_from K (f.slope ∷ f.offset ∷ p.x ∷ p.weight ∷ [])
      (known at_zero (search reads depth 20) flat (known not_positive (search reads depth 20) offset (known positive (search reads depth 20) h no_sign)))
      not_positive (search reads depth 40 fits 50000) (sum (product (given 0) (unknown (variable 2))) (product (given 1) (given 2))) tt tt in
      absurd_sign holds not_above

  -- the place halfway, as it were, between the ends of a lower and an upper bound: the mediant
  abbrev pub mediant : Bound A → Bound A → Place A
  mediant f g = record { x = K.sub g.offset f.offset; weight = K.sub f.slope g.slope }

  abbrev pub beyond : Bound A → Place A
  beyond f = record { x = K.sub (K.int (pos 1)) f.offset; weight = f.slope }

  abbrev pub before : Bound A → Place A
  before g = record { x = K.sub g.offset (K.int (pos 1)); weight = K.neg g.slope }

  -- a place that lies between two bounds
  pub record Found (lower upper : Option (Bound A)) : Type 0 where
    pub place : Place A
    pub is_place : IsPlace K place
    pub lies : Lies K lower upper place

  module _ (f g : Bound A) (hf : IsLower K f) (hg : IsUpper K g) where
    mediant_is_place : IsPlace K (mediant f g)
    mediant_is_place =
        sign_from K (f.slope ∷ g.slope ∷ []) (known positive (search reads depth 20) hf (known negative (search reads depth 20) hg no_sign))
        positive (search reads depth 20) (sum (given 0) (negated (given 1))) tt tt

    module _ (apart : K.sign (gap K.ops f g) ≡ Greater) where
      mediant_above : Holds K f (mediant f g)
      mediant_above =
          sign_from K (f.slope ∷ f.offset ∷ g.slope ∷ g.offset ∷ []) (known positive (search reads depth 40 fits 50000) apart no_sign)
          positive (search reads depth 40 fits 50000) (given 0) tt tt

      mediant_below : Holds K g (mediant f g)
      mediant_below =
          sign_from K (f.slope ∷ f.offset ∷ g.slope ∷ g.offset ∷ []) (known positive (search reads depth 40 fits 50000) apart no_sign)
          positive (search reads depth 40 fits 50000) (given 0) tt tt

  beyond_holds : (f : Bound A) → IsLower K f → Holds K f (beyond f)
  beyond_holds f h =
      sign_from K (f.slope ∷ f.offset ∷ []) (known positive (search reads depth 20) h no_sign)
      positive (search reads depth 40 fits 50000) (given 0) tt tt

  before_holds : (g : Bound A) → IsUpper K g → Holds K g (before g)
  before_holds g h =
      sign_from K (g.slope ∷ g.offset ∷ []) (known negative (search reads depth 20) h no_sign)
      positive (search reads depth 40 fits 50000) (negated (given 0)) tt tt

  before_is_place : (g : Bound A) → IsUpper K g → IsPlace K (before g)
  before_is_place g h = sign_neg K g.slope ∙ ap ordering_reverse h

  -- between bounds that leave room there's a place
  pub found : (lower upper : Option (Bound A)) → LeaveRoom K lower upper → Found lower upper
  found None None room = record {
    place = record { x = K.int (pos 0); weight = K.int (pos 1) };
    is_place = K.sign_int (pos 1);
    lies = record { above = tt; below = tt };
  }
  found (Some f) None room = record {
    place = beyond f;
    is_place = room.from_below;
    lies = record { above = beyond_holds f room.from_below; below = tt };
  }
  found None (Some g) room = record {
    place = before g;
    is_place = before_is_place g room.from_above;
    lies = record { above = tt; below = before_holds g room.from_above };
  }
  found (Some f) (Some g) room = record {
    place = mediant f g;
    is_place = mediant_is_place f g room.from_below room.from_above;
    lies = record {
      above = mediant_above f g room.from_below room.from_above room.apart;
      below = mediant_below f g room.from_below room.from_above room.apart;
    };
  }
