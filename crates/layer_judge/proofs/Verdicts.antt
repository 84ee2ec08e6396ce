-- The verdict, from what stands by the list.
use Rattle.std.proofs.Common.{◌≡◌, refl, ℕ, ◌<◌, List}
use Rattle.std.specs.Prelude.{◌↔◌}
use Rattle.std.specs.declared.cmp.Ordering.TheVariants.{Less}
use Rattle.algebra.specs.OrderedRing.{OrderedRing}
use Rattle.layers.specs.declared.crossing.Crossing.{Crossing}
use Rattle.layers.specs.Sheets.{FoldedSheet}
use Rattle.layers.specs.Orders.{LayerOrder, Above, NoClash, Opposed, RanksOverlaps, Unranked}
use Rattle.layers.specs.Points.{IsLayered}
use Rattle.layers.specs.Crossings.{Occurs, crossing_order}
use Rattle.layers.specs.Listing.{IsListed}
use Rattle.layer_judge.specs.declared.answer.Verdict.{Verdict}
use Rattle.layer_judge.specs.declared.answer.Verdict.TheVariants.{Fits, Crosses}
use Rattle.layer_judge.specs.Judging.{IsFirstUnranked, IsVerdict, RankFaces}

module _ {A : Type 0} (K : OrderedRing A) (sheet : FoldedSheet A) (orders : List LayerOrder) (agree : (i j : ℕ) → i < j → ¬ Opposed sheet orders i j)
    (one_way : ((i j : ℕ) → i < j → ¬ Opposed sheet orders i j) ↔ NoClash (Above sheet orders)) where
  pub first_unranked : (f g : ℕ) → Unranked K sheet (Above sheet orders) f g × ((h : ℕ) → h < f → (k : ℕ) → ¬ Unranked K sheet (Above sheet orders) h k) × ((k : ℕ) → k < g → ¬ Unranked K sheet (Above sheet orders) f k)
      → IsFirstUnranked K sheet orders f g
  first_unranked f g r = record { no_clash = one_way.0 agree; unranked = r.0; none_lower = r.1; none_between = r.2 }

  module _ (none : (f g : ℕ) → ¬ Unranked K sheet (Above sheet orders) f g)
      (ranked : ((f g : ℕ) → ¬ Unranked K sheet (Above sheet orders) f g) ↔ RanksOverlaps K sheet (Above sheet orders)) where
    rank : RankFaces K sheet orders
    rank = record { no_clash = one_way.0 agree; ranked = ranked.0 none }

    module _ (kinds : (c : Crossing) → IsListed K sheet (Above sheet orders) c ↔ Occurs K sheet (Above sheet orders) c) where
      pub fits_verdict : ((c : Crossing) → ¬ IsListed K sheet (Above sheet orders) c) → IsVerdict K sheet orders Fits
      fits_verdict clear = record { rank = rank; answer = λ c o. clear c ((kinds c).1 o) }

      pub crosses_verdict : (c : Crossing) → IsListed K sheet (Above sheet orders) c × ((d : Crossing) → crossing_order d c ≡ Less → ¬ IsListed K sheet (Above sheet orders) d) → IsVerdict K sheet orders (Crosses c)
      crosses_verdict c r = record { rank = rank; answer = record { occurs = (kinds c).0 r.0; none_before = λ d less o. r.1 d less ((kinds d).1 o) } }

    module _ (whole : NoClash (Above sheet orders) → RanksOverlaps K sheet (Above sheet orders)
        → ((c : Crossing) → ¬ IsListed K sheet (Above sheet orders) c) ↔ IsLayered K sheet (Above sheet orders)) where
      pub fits_layered : ((c : Crossing) → ¬ IsListed K sheet (Above sheet orders) c) → Fits ≡ Fits ↔ IsLayered K sheet (Above sheet orders)
      fits_layered clear = ((λ e. (whole (one_way.0 agree) (ranked.0 none)).0 clear), (λ l. refl))

      pub crosses_layered : (c : Crossing) → IsListed K sheet (Above sheet orders) c → Crosses c ≡ Fits ↔ IsLayered K sheet (Above sheet orders)
      crosses_layered c listed = ((λ e. cc), (λ l. absurd ((whole (one_way.0 agree) (ranked.0 none)).1 l c listed)))
