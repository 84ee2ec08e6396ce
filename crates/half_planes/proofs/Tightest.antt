-- A list of bounds on one number, of which each two leave a gap, has a place at which all of them hold.
use Rattle.std.proofs.Common.{◌≡◌, ◌∙◌, ap, refl, sym, List, [], ◌∷◌, Option, Some, None, IsTrue, ◌⊎◌, inl, inr, get_or}
use Rattle.std.specs.List.{All}
use Rattle.std.specs.declared.cmp.Ordering.{Ordering}
use Rattle.std.specs.declared.cmp.Ordering.TheVariants.{Less, Equal, Greater}
use Rattle.std.specs.Ordering.{ordering_reverse, is_ge, is_le}
use Rattle.std.proofs.lemmas.List.Elements.{All-nil, All-cons, All-head, All-tail}
use Rattle.algebra.specs.OrderedRing.{OrderedRing}
use Rattle.algebra.proofs.Solvers.{reads, ring, sign_neg}
use Rattle.half_planes.specs.Bounds.{Place, IsPlace, Holds, IsLower, IsUpper, gap}
use Rattle.half_planes.specs.declared.bound.Bound.{Bound}
use Rattle.half_planes.proofs.Bounds.{lower_follows, upper_follows, flat_holds, Found, found}

not_greater_turned : (t : Ordering) → ¬ (t ≡ Greater) → IsTrue (is_ge (ordering_reverse t))
not_greater_turned Less h = refl
not_greater_turned Equal h = refl
not_greater_turned Greater h = absurd (h refl)

not_less_turned : (t : Ordering) → ¬ (t ≡ Less) → IsTrue (is_le (ordering_reverse t))
not_less_turned Less h = absurd (h refl)
not_less_turned Equal h = refl
not_less_turned Greater h = refl

other_way : (s : Ordering) → ¬ (s ≡ Equal) → ¬ (ordering_reverse s ≡ s)
other_way Less h e = cc
other_way Equal h e = h refl
other_way Greater h e = cc

module _ {A : Type 0} (K : OrderedRing A) where
  gap_turned : (f g : Bound A) → gap K.ops f g ≡ K.neg (gap K.ops g f)
  gap_turned f g =
      ring K (f.slope ∷ f.offset ∷ g.slope ∷ g.offset ∷ []) (search reads depth 40 fits 50000) (search reads depth 40 fits 50000) tt

  pub gap_sign_turned : (f g : Bound A) → K.sign (gap K.ops f g) ≡ ordering_reverse (K.sign (gap K.ops g f))
  gap_sign_turned f g = ap K.sign (gap_turned f g) ∙ sign_neg K (gap K.ops g f)

  -- of two bounds on one side the second follows from the first, unless it's the tighter one
  pub follows : (s : Ordering) → ¬ (s ≡ Equal) → (f g : Bound A) → K.sign f.slope ≡ s → K.sign g.slope ≡ s → ¬ (K.sign (gap K.ops g f) ≡ s)
      → (p : Place A) → IsPlace K p → Holds K f p → Holds K g p
  follows Less sloped f g hf hg not_tighter p h = upper_follows K f g p h hf hg (rw (gap_sign_turned f g) (not_less_turned (K.sign (gap K.ops g f)) not_tighter))
  follows Equal sloped f g hf hg not_tighter p h = absurd (sloped refl)
  follows Greater sloped f g hf hg not_tighter p h = lower_follows K f g p h hf hg (rw (gap_sign_turned f g) (not_greater_turned (K.sign (gap K.ops g f)) not_tighter))

  -- and the first one is the tighter one then
  pub tighter_follows : (s : Ordering) → ¬ (s ≡ Equal) → (f g : Bound A) → K.sign f.slope ≡ s → K.sign g.slope ≡ s → K.sign (gap K.ops f g) ≡ s
      → (p : Place A) → IsPlace K p → Holds K f p → Holds K g p
  tighter_follows s sloped f g hf hg tighter =
      follows s sloped f g hf hg (λ e. other_way s sloped (sym (ap ordering_reverse tighter) ∙ sym (gap_sign_turned g f) ∙ e))

  pub same_or_not : (s t : Ordering) → (s ≡ t) ⊎ (¬ (s ≡ t))
  same_or_not Less Less = inl refl
  same_or_not Less Equal = inr (λ e. cc)
  same_or_not Less Greater = inr (λ e. cc)
  same_or_not Equal Less = inr (λ e. cc)
  same_or_not Equal Equal = inl refl
  same_or_not Equal Greater = inr (λ e. cc)
  same_or_not Greater Less = inr (λ e. cc)
  same_or_not Greater Equal = inr (λ e. cc)
  same_or_not Greater Greater = inl refl

  -- things that ask something of a number, of each of which something is known
  module _ {X : Type 0} (asks : X → Bound A) (Known : X → Type 0) where
    -- of the bounds on one side this one is the tightest
    pub record Tightest (s : Ordering) (xs : List X) : Type 0 where
      pub one : X
      pub is_known : Known one
      pub side : K.sign (asks one).slope ≡ s
      pub others : (p : Place A) → IsPlace K p → Holds K (asks one) p → All (λ x. K.sign (asks x).slope ≡ s → Holds K (asks x) p) xs

    abbrev HasTightest : Ordering → List X → Type 0
    HasTightest s xs = All (λ x. ¬ (K.sign (asks x).slope ≡ s)) xs ⊎ Tightest s xs

    module _ (s : Ordering) (sloped : ¬ (s ≡ Equal)) where
      first_of_side : (x : X) (xs : List X) → Known x → K.sign (asks x).slope ≡ s → All (λ y. ¬ (K.sign (asks y).slope ≡ s)) xs → Tightest s (x ∷ xs)
      first_of_side x xs is_known side none = record {
        one = x;
        is_known = is_known;
        side = side;
        others = λ p h holds. All-cons (λ y. K.sign (asks y).slope ≡ s → Holds K (asks y) p) x xs (λ e. holds) (λ k d within e. absurd (none k d within e));
      }

      other_side : (x : X) (xs : List X) → ¬ (K.sign (asks x).slope ≡ s) → Tightest s xs → Tightest s (x ∷ xs)
      other_side x xs off t = record {
        one = t.one;
        is_known = t.is_known;
        side = t.side;
        others = λ p h holds. All-cons (λ y. K.sign (asks y).slope ≡ s → Holds K (asks y) p) x xs (λ e. absurd (off e)) (t.others p h holds);
      }

      of_two : (x : X) (xs : List X) → Known x → K.sign (asks x).slope ≡ s → (t : Tightest s xs)
          → (K.sign (gap K.ops (asks x) (asks t.one)) ≡ s) ⊎ (¬ (K.sign (gap K.ops (asks x) (asks t.one)) ≡ s)) → Tightest s (x ∷ xs)
      of_two x xs is_known side t (inl tighter) = record {
        one = x;
        is_known = is_known;
        side = side;
        others = λ p h holds. All-cons (λ y. K.sign (asks y).slope ≡ s → Holds K (asks y) p) x xs (λ e. holds)
            (t.others p h (tighter_follows s sloped (asks x) (asks t.one) side t.side tighter p h holds));
      }
      of_two x xs is_known side t (inr not_tighter) = record {
        one = t.one;
        is_known = t.is_known;
        side = t.side;
        others = λ p h holds. All-cons (λ y. K.sign (asks y).slope ≡ s → Holds K (asks y) p) x xs
            (λ e. follows s sloped (asks t.one) (asks x) t.side side not_tighter p h holds) (t.others p h holds);
      }

      with_one : (x : X) (xs : List X) → Known x → (K.sign (asks x).slope ≡ s) ⊎ (¬ (K.sign (asks x).slope ≡ s)) → HasTightest s xs → HasTightest s (x ∷ xs)
      with_one x xs is_known (inl side) (inl none) = inr (first_of_side x xs is_known side none)
      with_one x xs is_known (inl side) (inr t) = inr (of_two x xs is_known side t (same_or_not (K.sign (gap K.ops (asks x) (asks t.one))) s))
      with_one x xs is_known (inr off) (inl none) = inl (All-cons (λ y. ¬ (K.sign (asks y).slope ≡ s)) x xs off none)
      with_one x xs is_known (inr off) (inr t) = inr (other_side x xs off t)

      pub tightest : (xs : List X) → All Known xs → HasTightest s xs
      tightest [] all_known = inl (All-nil (λ x. ¬ (K.sign (asks x).slope ≡ s)))
      tightest (x ∷ xs) all_known =
          with_one x xs (All-head Known x xs all_known) (same_or_not (K.sign (asks x).slope) s) (tightest xs (All-tail Known x xs all_known))

    -- a place at which all hold
    pub record Common (xs : List X) : Type 0 where
      pub place : Place A
      pub is_place : IsPlace K place
      pub all_hold : All (λ x. Holds K (asks x) place) xs

    module _ (xs : List X) (all_known : All Known xs)
        (flat : (x : X) → Known x → K.sign (asks x).slope ≡ Equal → K.sign (asks x).offset ≡ Greater)
        (apart : (x y : X) → Known x → Known y → IsLower K (asks x) → IsUpper K (asks y) → K.sign (gap K.ops (asks x) (asks y)) ≡ Greater) where
      by_side : (s : Ordering) (x : X) → Known x → K.sign (asks x).slope ≡ s → (p : Place A) → IsPlace K p
          → (K.sign (asks x).slope ≡ Greater → Holds K (asks x) p) → (K.sign (asks x).slope ≡ Less → Holds K (asks x) p) → Holds K (asks x) p
      by_side Less x is_known e p h from_below from_above = from_above e
      by_side Equal x is_known e p h from_below from_above = flat_holds K (asks x) e (flat x is_known e) p h
      by_side Greater x is_known e p h from_below from_above = from_below e

      common_at : (lower upper : Option (Bound A)) (f : Found K lower upper)
          → All (λ x. K.sign (asks x).slope ≡ Greater → Holds K (asks x) f.place) xs
          → All (λ x. K.sign (asks x).slope ≡ Less → Holds K (asks x) f.place) xs → Common xs
      common_at lower upper f from_below from_above = record {
        place = f.place;
        is_place = f.is_place;
        all_hold = λ k d within. by_side (K.sign (asks (get_or xs k d)).slope) (get_or xs k d) (all_known k d within) refl f.place f.is_place
            (from_below k d within) (from_above k d within);
      }

      none_there : (s : Ordering) (p : Place A) → All (λ x. ¬ (K.sign (asks x).slope ≡ s)) xs → All (λ x. K.sign (asks x).slope ≡ s → Holds K (asks x) p) xs
      none_there s p none k d within e = absurd (none k d within e)

      from_tightest : HasTightest Greater xs → HasTightest Less xs → Common xs
      from_tightest (inl no_lower) (inl no_upper) =
          let f : Found K None None = found K None None (record { from_below = tt; from_above = tt; apart = tt }) in
          common_at None None f (none_there Greater f.place no_lower) (none_there Less f.place no_upper)
      from_tightest (inr l) (inl no_upper) =
          let f : Found K (Some (asks l.one)) None = found K (Some (asks l.one)) None (record { from_below = l.side; from_above = tt; apart = tt }) in
          common_at _ _ f (l.others f.place f.is_place f.lies.above) (none_there Less f.place no_upper)
      from_tightest (inl no_lower) (inr u) =
          let f : Found K None (Some (asks u.one)) = found K None (Some (asks u.one)) (record { from_below = tt; from_above = u.side; apart = tt }) in
          common_at _ _ f (none_there Greater f.place no_lower) (u.others f.place f.is_place f.lies.below)
      from_tightest (inr l) (inr u) =
          let f : Found K (Some (asks l.one)) (Some (asks u.one))
          = found K (Some (asks l.one)) (Some (asks u.one)) (record { from_below = l.side; from_above = u.side; apart = apart l.one u.one l.is_known u.is_known l.side u.side }) in
          common_at _ _ f (l.others f.place f.is_place f.lies.above) (u.others f.place f.is_place f.lies.below)

      pub common : Common xs
      common = from_tightest (tightest Greater (λ e. cc) xs all_known) (tightest Less (λ e. cc) xs all_known)
