-- Two lists in one order that have the same elements are one list.
use Rattle.std.proofs.Common.{◌≡◌, ◌∙◌, inl, inr, refl, subst, sym}
use Rattle.std.proofs.lemmas.List.Elements.{All-contains, All-from_recursion}
use Rattle.std.specs.Cmp.{IsTotalOrder}
use Rattle.std.specs.List.{AllByRecursion, AllZip}
use Rattle.std.specs.List.Sorted.{IsStrictlySortedBy}
use Rattle.std.specs.Ordering.{ordering_reverse}
use Rattle.std.specs.Prelude.{List, [], ◌∷◌, Contains}
use Rattle.std.specs.declared.cmp.Ordering.{Ordering}
use Rattle.std.specs.declared.cmp.Ordering.TheVariants.{Less, Greater}
use Rattle.plane.proofs.Members.{in_cons, in_head, in_nil, in_tail}
use Rattle.scaled_plane.specs.Lists.{IsListOf}

-- what an order has to do with what counts as one, among the elements that are good
pub record IsOrderOf {X : Type 0} (order : X → X → Ordering) (Same : X → X → Type 0) (Good : X → Type 0) : Type 0 where
  pub turned : (x y : X) → Same x y → Same y x
  pub through : (x y z : X) → Good y → Same x y → Same y z → Same x z
  pub respects : (x y z : X) → Good x → Good y → Same x y → order z y ≡ Less → order z x ≡ Less
  pub apart : (x y : X) → order x y ≡ Less → ¬ Same x y
  pub one_way : (x y : X) → Good x → Good y → order x y ≡ Less → ¬ (order y x ≡ Less)

module _ {X : Type 0} (order : X → X → Ordering) (Same : X → X → Type 0) (Good : X → Type 0) (of : IsOrderOf order Same Good) where
  abbrev Has : List X → X → Type 0
  Has ys x = (y : X) × Contains ys y × Same x y

  abbrev AreGood : List X → Type 0
  AreGood xs = (x : X) → Contains xs x → Good x

  abbrev Comes : X → List X → Type 0
  Comes x xs = AllByRecursion (λ w. order x w ≡ Less) xs

  after_head : (x : X) (xs : List X) (z : X) → Comes x xs → Contains xs z → order x z ≡ Less
  after_head x xs z a c = All-contains (λ w. order x w ≡ Less) xs z (All-from_recursion (λ w. order x w ≡ Less) xs a) c

  heads : (x : X) (xs : List X) (y : X) (ys : List X) → Comes x xs → Comes y ys → AreGood (x ∷ xs) → AreGood (y ∷ ys) → Has (y ∷ ys) x → Has (x ∷ xs) y → Same x y
  heads x xs y ys above below gx gy h k =
      elim (in_cons y ys h.0 h.1) [
        | inl e ↦ subst (Same x) (sym e) h.2
        | inr c ↦ elim (in_cons x xs k.0 k.1) [
          | inl e ↦ of.turned y x (subst (Same y) (sym e) k.2)
          | inr d ↦
              let up = of.respects x h.0 y (gx x (in_head x xs)) (gy h.0 (in_tail y ys h.0 c)) h.2 (after_head y ys h.0 below c) in
              let down = of.respects y k.0 x (gy y (in_head y ys)) (gx k.0 (in_tail x xs k.0 d)) k.2 (after_head x xs k.0 above d) in
              absurd (of.one_way x y (gx x (in_head x xs)) (gy y (in_head y ys)) down up)
        ]
      ]

  tails : (x : X) (xs : List X) (y : X) (ys : List X) → Comes x xs → Good y → Same x y → ((z : X) → Contains (x ∷ xs) z → Has (y ∷ ys) z) → (z : X) → Contains xs z → Has ys z
  tails x xs y ys above good same has z c =
      let h = has z (in_tail x xs z c) in
      elim (in_cons y ys h.0 h.1) [
        | inl e ↦ absurd (of.apart x z (after_head x xs z above c) (of.through x y z good same (of.turned z y (subst (Same z) (sym e) h.2))))
        | inr d ↦ (h.0, d, h.2)
      ]

  pub one_list : (xs ys : List X) → IsStrictlySortedBy order xs → IsStrictlySortedBy order ys → AreGood xs → AreGood ys
      → ((x : X) → Contains xs x → Has ys x) → ((y : X) → Contains ys y → Has xs y) → AllZip Same xs ys
  unfolding IsStrictlySortedBy
  one_list [] [] sx sy gx gy has back = tt
  one_list [] (y ∷ ys) sx sy gx gy has back = absurd (let h = back y (in_head y ys) in in_nil h.0 h.1)
  one_list (x ∷ xs) [] sx sy gx gy has back = absurd (let h = has x (in_head x xs) in in_nil h.0 h.1)
  one_list (x ∷ xs) (y ∷ ys) sx sy gx gy has back =
      let same = heads x xs y ys sx.0 sy.0 gx gy (has x (in_head x xs)) (back y (in_head y ys)) in (
        same,
        one_list xs ys sx.1 sy.1 (λ z c. gx z (in_tail x xs z c)) (λ z c. gy z (in_tail y ys z c))
            (tails x xs y ys sx.0 (gy y (in_head y ys)) same has)
            (tails y ys x xs sy.0 (gx x (in_head x xs)) (of.turned x y same) back),
      )

module _ {X : Type 0} (order : X → X → Ordering) (total : IsTotalOrder order) where
  less_not_less : (o p : Ordering) → o ≡ ordering_reverse p → o ≡ Less → ¬ (p ≡ Less)
  less_not_less o p e h k = absurd (let no : Less ≡ Greater = sym h ∙ e ∙ reversed p k in cc)
    where
      reversed : (q : Ordering) → q ≡ Less → ordering_reverse q ≡ Greater
      reversed q r = rw r refl

  one_way : (x y : X) → order x y ≡ Less → ¬ (order y x ≡ Less)
  one_way x y h = less_not_less (order x y) (order y x) (total.antisymm x y) h

  -- a total order, where what counts as one is equal
  pub order_of_equals : IsOrderOf order (λ x y. x ≡ y) (λ x. Unit {0})
  order_of_equals = record {
    turned = λ x y e. sym e;
    through = λ x y z good e f. e ∙ f;
    respects = λ x y z good also e h. subst (λ w. order z w ≡ Less) (sym e) h;
    apart = λ x y h e. one_way x y h (subst (λ w. order w x ≡ Less) e (subst (λ w. order x w ≡ Less) (sym e) h));
    one_way = λ x y good also h. one_way x y h;
  }

  -- what P holds of and what Q holds of are the same, and so are their lists
  pub same_list : (P Q : X → Type 0) (xs ys : List X) → ((x : X) → P x → Q x) → ((x : X) → Q x → P x)
      → IsListOf order (λ x y. x ≡ y) P xs → IsListOf order (λ x y. x ≡ y) Q ys → AllZip (λ x y. x ≡ y) xs ys
  same_list P Q xs ys to from all also =
      one_list order (λ x y. x ≡ y) (λ x. Unit {0}) order_of_equals xs ys all.sorted also.sorted (λ x c. tt) (λ y c. tt)
      (λ x c. also.every x (to x (all.only x c))) (λ y c. all.every y (from y (also.only y c)))

-- lists that agree element by element
pub equal_lists : {X : Type 0} (xs ys : List X) → AllZip (λ x y. x ≡ y) xs ys → xs ≡ ys
equal_lists [] [] h = refl
equal_lists [] (y ∷ ys) h = absurd h
equal_lists (x ∷ xs) [] h = absurd h
equal_lists (x ∷ xs) (y ∷ ys) h = let rest = equal_lists xs ys h.1 in let first = h.0 in cc
