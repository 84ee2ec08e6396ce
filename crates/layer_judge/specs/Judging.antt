-- The verdict on a folded sheet whose layers are ordered, and what keeps orders from having one.
use Rattle.std.specs.Prelude.{◌≡◌, ℕ, ◌<◌, pos, negsuc, ◌≤ℤ◌, List, map, Option, Some, None}
use Rattle.std.specs.Ordering.{int_cmp}
use Rattle.std.specs.declared.cmp.Ordering.TheVariants.{Less}
use Rattle.algebra.specs.OrderedRing.{OrderedRing}
use Rattle.fold_keys.specs.declared.value.FaceOrder.{FaceOrder}
use Rattle.layers.specs.declared.crossing.Crossing.{Crossing}
use Rattle.layers.specs.Sheets.{FoldedSheet}
use Rattle.layers.specs.Orders.{LayerOrder, Above, NoClash, Opposed, RanksOverlaps, Unranked}
use Rattle.layers.specs.Crossings.{Occurs, crossing_order}
use Rattle.layer_judge.specs.declared.answer.Verdict.{Verdict}
use Rattle.layer_judge.specs.declared.answer.Verdict.TheVariants.{Fits, Crosses}
use Rattle.layer_judge.specs.declared.answer.JudgeFault.{JudgeFault}
use Rattle.layer_judge.specs.declared.answer.JudgeFault.TheVariants.{OrderClash, NoOrder, Memory}

-- an order as it stands in a file: the first face lies on the side of the second to which that one's
-- normal points (1), on its back (-1), or nothing is said (0)
abbrev pub as_layer_order : FaceOrder → LayerOrder
as_layer_order order = record { face = order.first; other = order.second; normal_side = int_cmp order.side (pos 0) }

abbrev pub layer_orders : List FaceOrder → List LayerOrder
layer_orders = map as_layer_order

-- the order is one of so many faces, and its side is 1, 0 or -1
pub record IsOrderOf (faces : ℕ) (order : FaceOrder) : Type 0 where
  pub first_within : order.first < faces
  pub second_within : order.second < faces
  pub side_low : negsuc 0 ≤ℤ order.side
  pub side_high : order.side ≤ℤ pos 1

module _ {A : Type 0} (sheet : FoldedSheet A) (orders : List LayerOrder) where
  -- the orders at the places i and j say opposite things; no two do of which the second stands before
  -- j, and none before i does so with j
  pub record IsFirstClash (i j : ℕ) : Type 0 where
    pub before : i < j
    pub opposed : Opposed sheet orders i j
    pub none_sooner : (k l : ℕ) → k < l → l < j → ¬ Opposed sheet orders k l
    pub none_earlier : (k : ℕ) → k < i → ¬ Opposed sheet orders k j

module _ {A : Type 0} (K : OrderedRing A) (sheet : FoldedSheet A) (orders : List LayerOrder) where
  -- the orders contradict each other nowhere, and rank each two faces that overlap
  pub record RankFaces : Type 0 where
    pub no_clash : NoClash (Above sheet orders)
    pub ranked : RanksOverlaps K sheet (Above sheet orders)

  -- the crossing occurs at some point, and none that is named before it does
  pub record IsFirstCrossing (c : Crossing) : Type 0 where
    pub occurs : Occurs K sheet (Above sheet orders) c
    pub none_before : (d : Crossing) → crossing_order d c ≡ Less → ¬ Occurs K sheet (Above sheet orders) d

  -- no crossing occurs, or the one that is named is the first
  abbrev pub IsAnswer : Verdict → Type 0
  IsAnswer Fits = (c : Crossing) → ¬ Occurs K sheet (Above sheet orders) c
  IsAnswer (Crosses c) = IsFirstCrossing c

  -- the orders rank the faces, and this is what they come to
  pub record IsVerdict (verdict : Verdict) : Type 0 where
    pub rank : RankFaces
    pub answer : IsAnswer verdict

  -- the orders contradict each other nowhere, and these are the first two faces that overlap with no
  -- order
  pub record IsFirstUnranked (low high : ℕ) : Type 0 where
    pub no_clash : NoClash (Above sheet orders)
    pub unranked : Unranked K sheet (Above sheet orders) low high
    pub none_lower : (f : ℕ) → f < low → (g : ℕ) → ¬ Unranked K sheet (Above sheet orders) f g
    pub none_between : (g : ℕ) → g < high → ¬ Unranked K sheet (Above sheet orders) low g

  -- why there's no verdict; if memory was refused, nothing is said of the orders
  abbrev pub RefusesOrders : JudgeFault → Type 0
  RefusesOrders (OrderClash first second) = IsFirstClash sheet orders first second
  RefusesOrders (NoOrder low high) = IsFirstUnranked low high
  RefusesOrders (Memory error) = Unit {0}

-- the fault is one of the orders, and not want of memory
abbrev pub IsOfOrders : JudgeFault → Type 0
IsOfOrders (OrderClash first second) = Unit {0}
IsOfOrders (NoOrder low high) = Unit {0}
IsOfOrders (Memory error) = ⊥
