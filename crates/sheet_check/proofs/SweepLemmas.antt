-- Pairs of spans that were tested, from left to right.
use mathlib.Core.Path.{◌≡◌, refl, sym, ap, subst, ◌∙◌}
use mathlib.Core.List.{List, [], ◌∷◌, ◌++◌}
use mathlib.Core.Bool.{false, true}
use Rattle.std.proofs.Common.{inl, inr, arith, ℕ, ◌<◌, ◌≤◌, ◌+◌, length}
use Rattle.std.specs.Prelude.{◌⊎◌, ◌≢◌, ℤ, ⊤, All, AllPairs, Contains, MatchOption, Option, Some, None, drop, slice_index_or, take}
use Rattle.std.specs.Ordering.{is_le}
use Rattle.std.proofs.lemmas.Bool.{cases_lt}
use Rattle.std.proofs.lemmas.List.{get_or_default, take-append-drop, take_more}
use Rattle.std.proofs.lemmas.List.Elements.{All-append, All-contains, All-push}
use Rattle.algebra.specs.OrderedRing.{OrderedRing}
use Rattle.algebra.specs.Surd.{Surd}
use Rattle.algebra.specs.WholeSurds.{SurdNumbers}
use Rattle.plane.specs.declared.point.Point.{Point}
use Rattle.plane.specs.Points.{IsPoint}
use Rattle.scaled_plane.specs.declared.point.Segment.{Segment}
use Rattle.scaled_plane.specs.Counts.{left_end, right_end, x_order}
use Rattle.scaled_plane.proofs.DrawnSizes.{scaled_point}
use Rattle.arrangement.proofs.Looping.{in_rest, read_in, rest_in}
use Rattle.arrangement.proofs.Sharing.{Upto, between_x, end_point, up_chain}
use Rattle.arrangement.proofs.Sweeping.{pairs_first}
use Rattle.sheet_check.specs.Spans.{AreTested, AreTestedBefore, ComesFrom, IsBefore, IsReachedBy, IsSpan, MeetBeside, MeetTwo, MeetsOne, pair_of}

-- a pair that comes before the one that was found reaches no less
pub reached_less : (found : Option (ℕ × ℕ)) (pair : ℕ × ℕ) → MatchOption found ⊤ (IsBefore pair) → (p : ℕ × ℕ) → IsReachedBy found p → IsReachedBy (Some pair) p
reached_less None pair h p k = absurd k
reached_less (Some q) pair (inl a) p (inl b) = inl (omega (arith, a, b))
reached_less (Some q) pair (inl a) p (inr b) = inl (let e = b.0 in omega (arith, a, e))
reached_less (Some q) pair (inr a) p (inl b) = inl (let e = a.0 in omega (arith, e, b))
reached_less (Some q) pair (inr a) p (inr b) = inr (a.0 ∙ b.0, (let less = a.1 in let le = b.1 in omega (arith, less, le)))

pub reached_itself : (pair : ℕ × ℕ) → IsReachedBy (Some pair) pair
reached_itself pair = inr (refl, omega arith)

pub all_more : {X : Type 0} (P : X → Type 0) (xs : List X) (i : ℕ) (x : X) → i < length xs → x ≡ slice_index_or xs i x → All P (take i xs) → P x → All P (take (i + 1) xs)
all_more P xs i x less is all here = subst (All P) (sym (take_more xs i x less ∙ ap (λ z. take i xs ++ z ∷ []) (sym is))) (All-push P (take i xs) x all here)

pub all_weaker : {X : Type 0} (P Q : X → Type 0) (xs : List X) → ((x : X) → P x → Q x) → All P xs → All Q xs
all_weaker P Q xs f all k d less = f (slice_index_or xs k d) (all k d less)

pub all_of_parts : {X : Type 0} (P : X → Type 0) (xs : List X) (n : ℕ) → All P (take n xs) → All P (drop n xs) → All P xs
all_of_parts P xs n front back = subst (All P) (take-append-drop n xs) (All-append P (take n xs) (drop n xs) front back)

-- one answer after another
pub comes_on : (before found later : Option (ℕ × ℕ)) (P : ℕ × ℕ → Type 0) → ComesFrom before P found → ComesFrom found P later → ComesFrom before P later
comes_on before found later P h (inl e) = subst (ComesFrom before P) (sym e) h
comes_on before found later P h (inr new) = inr new

pub comes_weaker : (before found : Option (ℕ × ℕ)) (P Q : ℕ × ℕ → Type 0) → ((p : ℕ × ℕ) → P p → Q p) → ComesFrom before P found → ComesFrom before Q found
comes_weaker before found P Q f (inl e) = inl e
comes_weaker before found P Q f (inr new) = inr (new.0, new.1, f new.0 new.2)

-- a span that begins behind the end of another has no point in common with it
pub far_meets : {A : Type 0} {k : ℕ} {surd : A → Surd ℤ} (numbers : SurdNumbers k surd) (s t : Segment A) (left right other_left other_right : Point A)
    → IsSpan numbers s left right → IsSpan numbers t other_left other_right → is_le (x_order numbers.ring other_left right) ≡ false → ¬ MeetBeside numbers.ring s t
far_meets {A = A} numbers s t left right other_left other_right hs ht far m = absurd (let yes : is_le (x_order K other_left right) ≡ true
    = subst (λ q. Upto K q right) (sym ht.left_is) (subst (Upto K (left_end K t)) (sym hs.right_is)
    (up_chain K (left_end K t) m.0 (right_end K s) (end_point K (is_le (x_order K t.from t.to)) t.from t.to hc hd) m.1.0 (end_point K (is_le (x_order K s.from s.to)) s.to s.from hb ha)
    (between_x K t m.0 hc hd m.1.0 m.1.2).0 (between_x K s m.0 ha hb m.1.0 m.1.1).1)) in cc)
  where
    K : OrderedRing A
    K = numbers.ring

    ha : IsPoint numbers.ring s.from
    ha = scaled_point numbers s.from hs.scaled.from

    hb : IsPoint numbers.ring s.to
    hb = scaled_point numbers s.to hs.scaled.to

    hc : IsPoint numbers.ring t.from
    hc = scaled_point numbers t.from ht.scaled.from

    hd : IsPoint numbers.ring t.to
    hd = scaled_point numbers t.to ht.scaled.to

module _ {A : Type 0} (K : OrderedRing A) {V : Type 0} (segment : V → Segment A) (edge : V → ℕ) (spans : List V) where
  -- the first of the rest, with all that come after it
  module _ (place : ℕ) (s : V) (less : place < length spans) (is : s ≡ slice_index_or spans place s) (rest : List V) (rest_is : rest ≡ drop (place + 1) spans) where
    pub two_of : AllPairs (λ x y. edge x ≢ edge y) spans → (p : ℕ × ℕ) → MeetsOne K segment edge s rest p → MeetTwo K segment edge spans p
    two_of different p m =
        let there : Contains (drop (place + 1) spans) m.0 = subst (λ ts. Contains ts m.0) rest_is m.1 in (
          s,
          m.0,
          read_in spans place s less is,
          rest_in spans (place + 1) m.0 there,
          All-contains (λ y. edge s ≢ edge y) (drop (place + 1) spans) m.0 (pairs_first (λ x y. edge x ≢ edge y) spans place s less is different) there,
          m.2,
          m.3,
        )

    pub tested_more : (found later : Option (ℕ × ℕ)) → ((p : ℕ × ℕ) → IsReachedBy found p → IsReachedBy later p) → AreTestedBefore K segment edge place found spans
        → All (AreTested K segment edge later s) rest → AreTestedBefore K segment edge (place + 1) later spans
    tested_more found later kept before all = λ i j d first order within. by_cases i j d first order within (cases_lt i place)
      where
        by_cases : (i j : ℕ) (d : V) → i < place + 1 → i < j → j < length spans → (i < place) ⊎ (place ≤ i)
            → AreTested K segment edge later (slice_index_or spans i d) (slice_index_or spans j d)
        by_cases i j d first order within (inl earlier) = λ m. kept (pair_of edge (slice_index_or spans i d) (slice_index_or spans j d)) (before i j d earlier order within m)
        by_cases i j d first order within (inr upto) =
            let same : place ≡ i = omega (arith, first, upto) in
            let next : place + 1 ≤ j = omega (arith, order, upto) in
            let all_rest : All (AreTested K segment edge later s) (drop (place + 1) spans) = subst (All (AreTested K segment edge later s)) rest_is all in
            let here : AreTested K segment edge later s (slice_index_or spans j d)
            = All-contains (AreTested K segment edge later s) (drop (place + 1) spans) (slice_index_or spans j d) all_rest (in_rest spans (place + 1) j d next within) in
            subst (λ x. AreTested K segment edge later x (slice_index_or spans j d)) (is ∙ get_or_default spans place s d less ∙ ap (λ n. slice_index_or spans n d) same) here
