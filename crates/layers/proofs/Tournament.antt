-- A list of different things, of which one of each two is above the other, without a cycle of
-- three, can be listed so that each is above each later one.
use mathlib.Core.Path.{◌≡◌, refl, sym, subst}
use mathlib.Core.List.{List, [], ◌∷◌}
use mathlib.Core.Logic.{◌⊎◌, inl, inr, ◌↔◌}
use Prim.Native.Nat.{ℕ, zero, suc, ◌<◌}
use Rattle.std.proofs.Common.{arith}
use Rattle.std.proofs.lemmas.Bool.{cases_order}
use Rattle.std.specs.Prelude.{Some, Contains}
use Rattle.std.specs.List.{slice_get}
use Rattle.plane.proofs.Members.{in_cons, in_head, in_tail, in_nil}
use Rattle.layers.proofs.Places.{is_head, at_place, stands_at}
use Rattle.layers.specs.Orders.{Descending}

-- different things, by recursion
abbrev pub Distinct : {X : Type 0} → List X → Type 0
Distinct [] = Unit {0}
Distinct (x ∷ xs) = (¬ Contains xs x) × Distinct xs

module _ {X : Type 0} (above : X → X → Type 0) where
  -- each is above every later one, by recursion
  abbrev pub Chain : List X → Type 0
  Chain [] = Unit {0}
  Chain (x ∷ xs) = ((y : X) → Contains xs y → above x y) × Chain xs

  chain_at : (xs : List X) → Chain xs → (i j : ℕ) → i < j → (f g : X) → slice_get xs i ≡ Some f → slice_get xs j ≡ Some g → above f g
  chain_at [] c i j h f g e d = cc
  chain_at (x ∷ xs) c zero zero h f g e d = absurd (omega arith)
  chain_at (x ∷ xs) c zero (suc j) h f g e d = let same : x ≡ f = cc in subst (λ y. above y g) same (c.0 g (at_place xs j g d))
  chain_at (x ∷ xs) c (suc i) zero h f g e d = absurd (omega arith)
  chain_at (x ∷ xs) c (suc i) (suc j) h f g e d = chain_at xs c.1 i j (omega arith) f g e d

  pub descending_of_chain : (xs : List X) → Chain xs → Descending above xs
  descending_of_chain xs c = chain_at xs c

  pub chain_of_descending : (xs : List X) → Descending above xs → Chain xs
  chain_of_descending [] d = tt
  chain_of_descending (x ∷ xs) d = ((λ y h. d zero (suc h.0) (omega arith) x y refl (stands_at xs y h)), chain_of_descending xs (λ i j h. d (suc i) (suc j) (omega arith)))

  -- `above` on the things with S: never both ways, one of each two, and no cycle of three
  pub record IsTournament (S : X → Type 0) : Type 0 where
    pub one_way : (a b : X) → S a → S b → above a b → ¬ above b a
    pub total : (a b : X) → S a → S b → ¬ (a ≡ b) → above a b ⊎ above b a
    pub acyclic : (a b c : X) → S a → S b → S c → above a b → above b c → ¬ above c a

  module _ {S : X → Type 0} (t : IsTournament S) where
    over : (a b c : X) → S a → S b → S c → above a b → above b c → above a c
    over a b c sa sb sc ab bc =
        elim (t.total a c sa sc (λ e. t.one_way a b sa sb ab (subst (above b) (sym e) bc))) [ inl ac ↦ ac | inr ca ↦ absurd (t.acyclic a b c sa sb sc ab bc ca) ]

    record Inserted (x : X) (ys : List X) : Type 0 where
      zs : List X
      chain : Chain zs
      x_in : Contains zs x
      kept : (z : X) → Contains ys z → Contains zs z
      only : (z : X) → Contains zs z → (x ≡ z) ⊎ Contains ys z

    insert : (x : X) (ys : List X) → S x → ((y : X) → Contains ys y → S y) → ¬ Contains ys x → Chain ys → Inserted x ys
    insert x [] sx sy n c = record { zs = x ∷ []; chain = ((λ y h. absurd (in_nil y h)), tt); x_in = in_head x []; kept = λ z h. absurd (in_nil z h); only = λ z h. in_cons x [] z h }
    insert x (y ∷ ys) sx sy n c = go (t.total x y sx (sy y (in_head y ys)) (λ e. n (is_head y ys x (sym e)))) (insert x ys sx (λ z h. sy z (in_tail y ys z h)) (λ h. n (in_tail y ys x h)) c.1)
      where
        go : above x y ⊎ above y x → Inserted x ys → Inserted x (y ∷ ys)
        go (inl xy) r = record {
          zs = x ∷ (y ∷ ys);
          chain = ((λ z h. elim (in_cons y ys z h) [ inl e ↦ subst (above x) e xy | inr k ↦ over x y z sx (sy y (in_head y ys)) (sy z h) xy (c.0 z k) ]), c);
          x_in = in_head x (y ∷ ys);
          kept = λ z h. in_tail x (y ∷ ys) z h;
          only = λ z h. in_cons x (y ∷ ys) z h;
        }
        go (inr yx) r = record {
          zs = y ∷ r.zs;
          chain = ((λ z h. elim (r.only z h) [ inl e ↦ subst (above y) e yx | inr k ↦ c.0 z k ]), r.chain);
          x_in = in_tail y r.zs x r.x_in;
          kept = λ z h. elim (in_cons y ys z h) [ inl e ↦ is_head y r.zs z e | inr k ↦ in_tail y r.zs z (r.kept z k) ];
          only = λ z h. elim (in_cons y r.zs z h) [ inl e ↦ inr (is_head y ys z e) | inr k ↦ elim (r.only z k) [ inl e ↦ inl e | inr i ↦ inr (in_tail y ys z i) ] ];
        }

    pub record Listed (xs : List X) : Type 0 where
      pub layers : List X
      pub same : (z : X) → Contains layers z ↔ Contains xs z
      pub chain : Chain layers

    pub listed : (xs : List X) → Distinct xs → ((x : X) → Contains xs x → S x) → Listed xs
    listed [] d s = record { layers = []; same = λ z. ((λ h. h), (λ h. h)); chain = tt }
    listed (x ∷ xs) d s = go (listed xs d.1 (λ y h. s y (in_tail x xs y h)))
      where
        put : (r : Listed xs) → Inserted x r.layers → Listed (x ∷ xs)
        put r i = record {
          layers = i.zs;
          same = λ z. (
            (λ h. elim (i.only z h) [ inl e ↦ is_head x xs z e | inr k ↦ in_tail x xs z ((r.same z).0 k) ]),
            (λ h. elim (in_cons x xs z h) [ inl e ↦ subst (Contains i.zs) e i.x_in | inr k ↦ i.kept z ((r.same z).1 k) ]),
          );
          chain = i.chain;
        }

        go : Listed xs → Listed (x ∷ xs)
        go r = put r (insert x r.layers (s x (in_head x xs)) (λ y h. s y (in_tail x xs y ((r.same y).0 h))) (λ h. d.0 ((r.same x).0 h)) r.chain)

  -- conversely, where things can be so listed, there is no cycle of three
  pub no_cycle : ((a b : X) → above a b → ¬ above b a) → (xs : List X) → Descending above xs → (a b c : X) → Contains xs a → Contains xs b → Contains xs c → above a b → above b c → ¬ above c a
  no_cycle one xs d a b c ia ib ic ab bc ca =
      let i : ia.0 < ib.0 = earlier a b ia ib ab in
      let j : ib.0 < ic.0 = earlier b c ib ic bc in
      let k : ic.0 < ia.0 = earlier c a ic ia ca in
      omega arith
    where
      earlier : (x y : X) (ix : Contains xs x) (iy : Contains xs y) → above x y → ix.0 < iy.0
      earlier x y ix iy xy = elim (cases_order ix.0 iy.0) [
        | inl e ↦ let f : slice_get xs iy.0 ≡ Some x = subst (λ k. slice_get xs k ≡ Some x) e (stands_at xs x ix) in let g = stands_at xs y iy in let same : x ≡ y = cc in absurd (one x x (subst (above x) (sym same) xy) (subst (above x) (sym same) xy))
        | inr o ↦ elim o [ inl lt ↦ lt | inr gt ↦ absurd (one x y xy (d iy.0 ix.0 gt y x (stands_at xs y iy) (stands_at xs x ix))) ]
      ]
