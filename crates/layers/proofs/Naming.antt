-- The order in which crossings are named is total, and tells different crossings apart.
use mathlib.Core.Path.{◌≡◌, refl, subst}
use Rattle.std.specs.Cmp.{IsTotalOrder}
use Rattle.std.specs.Ordering.{nat_cmp}
use Rattle.std.specs.declared.cmp.Ordering.{Ordering}
use Rattle.std.specs.declared.cmp.Ordering.TheVariants.{Less, Equal, Greater}
use Rattle.std.proofs.lemmas.Cmp.{nat_list_cmp_total}
use Rattle.std.proofs.lemmas.Map.Lookups.{exact_bytes}
use Rattle.layers.specs.declared.crossing.Strand.TheVariants.{Face, Edge}
use Rattle.layers.specs.declared.crossing.Crossing.{Crossing}
use Rattle.layers.specs.declared.crossing.Crossing.TheVariants.{Cycle, Through, Creases, Joined, Letter}
use Rattle.layers.specs.Crossings.{crossing_order, key}

pub crossings_total : IsTotalOrder crossing_order
crossings_total = record {
  antisymm = λ x y. nat_list_cmp_total.antisymm (key x) (key y);
  trans = λ x y z. nat_list_cmp_total.trans (key x) (key y) (key z);
  congr = λ x y z. nat_list_cmp_total.congr (key x) (key y) (key z);
}

same_key : (c d : Crossing) → key c ≡ key d → c ≡ d
same_key (Cycle f g h) (Cycle a b c) e = cc
same_key (Cycle x y z) (Through u v) h = cc
same_key (Cycle x y z) (Creases u v) h = cc
same_key (Cycle x y z) (Joined u v) h = cc
same_key (Cycle x y z) (Letter u) h = cc
same_key (Through x y) (Cycle u v w) h = cc
same_key (Through e (Face f)) (Through d (Face g)) h = cc
same_key (Through e (Face f)) (Through d (Edge g)) h = cc
same_key (Through e (Edge f)) (Through d (Face g)) h = cc
same_key (Through e (Edge f)) (Through d (Edge g)) h = cc
same_key (Through x y) (Creases u v) h = cc
same_key (Through x y) (Joined u v) h = cc
same_key (Through x y) (Letter u) h = cc
same_key (Creases x y) (Cycle u v w) h = cc
same_key (Creases x y) (Through u v) h = cc
same_key (Creases e d) (Creases f g) h = cc
same_key (Creases x y) (Joined u v) h = cc
same_key (Creases x y) (Letter u) h = cc
same_key (Joined x y) (Cycle u v w) h = cc
same_key (Joined x y) (Through u v) h = cc
same_key (Joined x y) (Creases u v) h = cc
same_key (Joined e (Face f)) (Joined d (Face g)) h = cc
same_key (Joined e (Face f)) (Joined d (Edge g)) h = cc
same_key (Joined e (Edge f)) (Joined d (Face g)) h = cc
same_key (Joined e (Edge f)) (Joined d (Edge g)) h = cc
same_key (Joined x y) (Letter u) h = cc
same_key (Letter x) (Cycle u v w) h = cc
same_key (Letter x) (Through u v) h = cc
same_key (Letter x) (Creases u v) h = cc
same_key (Letter x) (Joined u v) h = cc
same_key (Letter e) (Letter d) h = cc

pub same_crossing : (c d : Crossing) → crossing_order c d ≡ Equal → c ≡ d
same_crossing c d h = same_key c d (exact_bytes (key c) (key d) h)

pub order_itself : (c d : Crossing) → c ≡ d → crossing_order c d ≡ Equal
order_itself c d e = subst (λ x. crossing_order c x ≡ Equal) e (at (crossing_order c c) (crossings_total.antisymm c c))
  where
    at : (o : Ordering) → o ≡ Rattle.std.specs.Ordering.ordering_reverse o → o ≡ Equal
    at Less h = cc
    at Equal h = refl
    at Greater h = cc
