-- Upright segments side by side share no x.
use mathlib.Core.Path.{◌≡◌, refl, ap, ap₂, ◌∙◌}
use mathlib.Core.List.{List, [], ◌∷◌}
use mathlib.Core.Bool.{Bool, true, false}
use Prim.Native.Nat.{ℕ, zero, suc, ◌<◌, ◌≤◌}
use lib.IntN.{ℤ, pos}
use Rattle.std.proofs.Common.{arith}
use Rattle.std.proofs.lemmas.Int.{ints}
use Rattle.std.specs.Prelude.{◌&&◌, if◌then◌else◌, cond, count_by, filter, ◌-ℤ◌, ◌*ℤ◌, ◌<ℤ◌}
use Rattle.std.specs.Ordering.{is_le, is_ne}
use Rattle.std.specs.declared.cmp.Ordering.TheVariants.{Greater}
use Rattle.std.proofs.lemmas.List.Sums.{sum_by-cons}
use Rattle.algebra.specs.Order.{int_sign}
use Rattle.algebra.proofs.Integers.{integers}
use Rattle.algebra.proofs.LowestForms.{greater_of_positive}
use Rattle.algebra.proofs.Solvers.{reads_integers, ring}
use Rattle.plane.specs.declared.point.Point.{Point}
use Rattle.plane.specs.Points.{point_order}
use Rattle.scaled_plane.specs.declared.point.Segment.{Segment}
use Rattle.scaled_plane.specs.Counts.{left_end, pairs_sharing_x, right_end, share_x, tests_for, x_order}
use Rattle.drawing_examples.specs.Examples.{at, upright, uprights}

by_weight : (a b : ℤ) → (a *ℤ pos 1) -ℤ (b *ℤ pos 1) ≡ a -ℤ b
by_weight a b = ring integers (a ∷ b ∷ []) (search reads_integers depth 20) (search reads_integers depth 20) tt

right_of : (m n : ℕ) (p q : Point ℤ) → m < n → p.x ≡ pos n → p.w ≡ pos 1 → q.x ≡ pos m → q.w ≡ pos 1 → x_order integers p q ≡ Greater
right_of m n p q less px pw qx qw =
    let apart : pos 0 <ℤ (pos n -ℤ pos m) = omega (arith, ints, less) in
    ap₂ (λ (a b : ℤ). int_sign (a -ℤ b)) (ap₂ (λ (a b : ℤ). a *ℤ b) px qw) (ap₂ (λ (a b : ℤ). a *ℤ b) qx pw)
    ∙ ap int_sign (by_weight (pos n) (pos m)) ∙ greater_of_positive (pos n -ℤ pos m) apart

end_x : (b : Bool) (y z : ℤ) (n : ℕ) → (if b then at (pos n) y else at (pos n) z).x ≡ pos n
end_x true y z n = refl
end_x false y z n = refl

end_w : (b : Bool) (y z : ℤ) (n : ℕ) → (if b then at (pos n) y else at (pos n) z).w ≡ pos 1
end_w true y z n = refl
end_w false y z n = refl

first_false : (a b : Bool) → a ≡ false → (a && b) ≡ false
first_false true b h = absurd (cc)
first_false false b h = refl

apart : (m n : ℕ) → m < n → share_x integers (upright n) (upright m) ≡ false
apart m n less =
    let b = is_le (x_order integers (upright n).from (upright n).to) in
    let c = is_le (x_order integers (upright m).from (upright m).to) in
    first_false (is_le (x_order integers (left_end integers (upright n)) (right_end integers (upright m)))) (is_le (x_order integers (left_end integers (upright m)) (right_end integers (upright n))))
    (ap is_le (right_of m n (left_end integers (upright n)) (right_end integers (upright m)) less
    (end_x b (pos 0) (pos 1) n) (end_w b (pos 0) (pos 1) n) (end_x c (pos 1) (pos 0) m) (end_w c (pos 1) (pos 0) m)))

abbrev differs : Segment ℤ → Bool
differs s = is_ne (point_order integers s.from s.to)

passed_over : (q : Segment ℤ → Bool) (x : Segment ℤ) (xs : List (Segment ℤ)) (b : Bool) → q x ≡ false → count_by q xs ≡ 0 → count_by q (cond b (x ∷ xs) xs) ≡ 0
passed_over q x xs true e h =
    let here : ◌≡◌ {A = ℕ} (cond (q x) 1 0) 0 = ap (λ b. cond b 1 0) e in
    let step = sum_by-cons (λ y. cond (q y) 1 0) x xs in
    omega (arith, step, here, h)
passed_over q x xs false e h = h

none_beside : (m n : ℕ) → m ≤ n → count_by (share_x integers (upright n)) (filter differs (uprights m)) ≡ 0
none_beside zero n h = refl
none_beside (suc m) n h =
    passed_over (share_x integers (upright n)) (upright m) (filter differs (uprights m)) (differs (upright m)) (apart m n (omega (arith, h))) (none_beside m n (omega (arith, h)))

one_more : (x : Segment ℤ) (xs : List (Segment ℤ)) (b : Bool) → count_by (share_x integers x) xs ≡ 0 → pairs_sharing_x integers xs ≡ 0 → pairs_sharing_x integers (cond b (x ∷ xs) xs) ≡ 0
one_more x xs true h k = omega (arith, h, k)
one_more x xs false h k = k

pub none_tested : (n : ℕ) → tests_for integers (uprights n) ≡ 0
none_tested zero = refl
none_tested (suc n) = one_more (upright n) (filter differs (uprights n)) (differs (upright n)) (none_beside n n (omega arith)) (none_tested n)
