-- An ordered ring within another: its determinants, sides and sums of multiples are there what they are here.
use Rattle.std.proofs.Common.{◌≡◌, ◌∙◌, ap, ap₂, sym, [], ◌∷◌, pos}
use Rattle.std.specs.declared.cmp.Ordering.TheVariants.{Equal}
use Rattle.algebra.specs.OrderedRing.{OrderedRing}
use Rattle.algebra.proofs.Solvers.{ring_from, multiple, no_equation, reads}
use Rattle.plane.specs.declared.point.Point.{Point}
use Rattle.plane.specs.Lines.{determinant, side}
use Rattle.folded_layers.proofs.Balances.{AreBalanced}

-- each number of K as one of F, by the same operations and with the same sign
pub record Embeds {W N : Type 0} (K : OrderedRing W) (F : OrderedRing N) (number : W → N) : Type 0 where
  pub add_is : (x y : W) → number (K.add x y) ≡ F.add (number x) (number y)
  pub sub_is : (x y : W) → number (K.sub x y) ≡ F.sub (number x) (number y)
  pub mul_is : (x y : W) → number (K.mul x y) ≡ F.mul (number x) (number y)
  pub one_is : number (K.int (pos 1)) ≡ F.int (pos 1)
  pub sign_is : (x : W) → F.sign (number x) ≡ K.sign x

module _ {W N : Type 0} (K : OrderedRing W) (F : OrderedRing N) (number : W → N) (embeds : Embeds K F number) where
  abbrev pub vector : Point W → Point N
  vector p = record { x = number p.x; y = number p.y; w = number p.w }

  crossed : (a b c d : W) → number (K.sub (K.mul a b) (K.mul c d)) ≡ F.sub (F.mul (number a) (number b)) (F.mul (number c) (number d))
  crossed a b c d = embeds.sub_is (K.mul a b) (K.mul c d) ∙ ap₂ F.sub (embeds.mul_is a b) (embeds.mul_is c d)

  times : (a b : W) (c : N) → number a ≡ c → number (K.mul a b) ≡ F.mul c (number b)
  times a b c e = embeds.mul_is a b ∙ ap (λ (z : N). F.mul z (number b)) e

  determinant_is : (p q r : Point W) → number (determinant K.ops p q r) ≡ determinant F.ops (vector p) (vector q) (vector r)
  determinant_is p q r =
      embeds.add_is _ _
      ∙ ap₂ F.add
      (embeds.add_is _ _ ∙ ap₂ F.add (times _ r.x _ (crossed p.y q.w p.w q.y)) (times _ r.y _ (crossed p.w q.x p.x q.w)))
      (times _ r.w _ (crossed p.x q.y p.y q.x))

  pub side_is : (p q r : Point W) → side K p q r ≡ side F (vector p) (vector q) (vector r)
  side_is p q r = sym (embeds.sign_is (determinant K.ops p q r)) ∙ ap F.sign (determinant_is p q r)

  -- a sum of two multiples
  multiples_are : (s t a b : W) → number (K.add (K.mul s a) (K.mul t b)) ≡ F.add (F.mul (number s) (number a)) (F.mul (number t) (number b))
  multiples_are s t a b = embeds.add_is (K.mul s a) (K.mul t b) ∙ ap₂ F.add (embeds.mul_is s a) (embeds.mul_is t b)

  -- numbers that are one there are one here
  pub one_number : (x y : W) → number x ≡ number y → x ≡ y
  one_number x y e =
      let zero : F.sub (number x) (number y) ≡ F.int (pos 0)
      = ring_from F (number x ∷ number y ∷ []) (multiple (F.int (pos 1)) (search reads depth 40 fits 50000) (search reads depth 40 fits 50000) (search reads depth 40 fits 50000) e no_equation)
      (search reads depth 40 fits 50000) (search reads depth 40 fits 50000) tt in
      let level : K.sign (K.sub x y) ≡ Equal = sym (embeds.sign_is (K.sub x y)) ∙ ap F.sign (embeds.sub_is x y ∙ zero) ∙ F.sign_int (pos 0) in
      ring_from K (x ∷ y ∷ []) (multiple (K.int (pos 1)) (search reads depth 40 fits 50000) (search reads depth 40 fits 50000) (search reads depth 40 fits 50000) (K.sign_zero (K.sub x y) level) no_equation)
      (search reads depth 40 fits 50000) (search reads depth 40 fits 50000) tt

  module _ (s t u v : W) (a b p q : Point W) where
    pub balanced_there : AreBalanced K s t u v a b p q → AreBalanced F (number s) (number t) (number u) (number v) (vector a) (vector b) (vector p) (vector q)
    balanced_there e = record {
      x = sym (multiples_are s t a.x b.x) ∙ ap number e.x ∙ multiples_are u v p.x q.x;
      y = sym (multiples_are s t a.y b.y) ∙ ap number e.y ∙ multiples_are u v p.y q.y;
      w = sym (multiples_are s t a.w b.w) ∙ ap number e.w ∙ multiples_are u v p.w q.w;
    }

    pub balanced_here : AreBalanced F (number s) (number t) (number u) (number v) (vector a) (vector b) (vector p) (vector q) → AreBalanced K s t u v a b p q
    balanced_here e = record {
      x = one_number _ _ (multiples_are s t a.x b.x ∙ e.x ∙ sym (multiples_are u v p.x q.x));
      y = one_number _ _ (multiples_are s t a.y b.y ∙ e.y ∙ sym (multiples_are u v p.y q.y));
      w = one_number _ _ (multiples_are s t a.w b.w ∙ e.w ∙ sym (multiples_are u v p.w q.w));
    }
