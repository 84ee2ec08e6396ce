-- The directed pieces of one walk have one region at their left.
use Prim.Native.Nat.{ℕ}
use mathlib.Core.Path.{◌≡◌, sym, subst}
use mathlib.Core.List.{List}
use Rattle.algebra.specs.OrderedRing.{OrderedRing}
use Rattle.plane.specs.declared.point.Point.{Point}
use Rattle.regions.proofs.Drawings.{Piece, piece, IsDirected, IsPlane}
use Rattle.regions.proofs.Regions.{middle_of, LeftAt, LeftOf, OneRegion}
use Rattle.plane.proofs.Nearby.{Closer}
use Rattle.regions.proofs.Walks.{ComesBefore, Follows, same, onward, back, OneWalk}
use Rattle.regions.proofs.InnerPoints.{left_one_region, some_left, middle_inner}
use Rattle.regions.proofs.Tracing.{region_then, region_back, corner}

module _ {A : Type 0} (K : OrderedRing A) (place : ℕ → Point A) (ps : List Piece) (plane : IsPlane K place ps) where
  abbrev pub Inner : Piece → Point A → Type 0
  Inner d m = Closer K (place d.tail) (place d.head) m

  abbrev pub Left : Piece → Point A → Point A → Type 0
  Left d m p = LeftAt K place ps (place d.tail) (place d.head) m p

  corner_at : (d : Piece) (t w : ℕ) → t ≡ d.head → IsDirected ps d → ((x : ℕ) → IsDirected ps (piece d.head x) → ¬ ComesBefore K place d.head d.tail x w)
      → (m n p q : Point A) → Inner d m → Left d m p → IsDirected ps (piece t w) → Inner (piece t w) n → Left (piece t w) n q → OneRegion K place ps p q
  corner_at d t w e hd next m n p q c l =
      subst (λ t. IsDirected ps (piece t w) → Inner (piece t w) n → Left (piece t w) n q → OneRegion K place ps p q) (sym e)
      (λ he i k. corner K place ps plane d.head d.tail w hd he next c i l k)

  pub next_region : {d f : Piece} → Follows K place ps d f → {m n p q : Point A} → Inner d m → Inner f n → Left d m p → Left f n q → OneRegion K place ps p q
  next_region {d} {f} h {m} {n} {p} {q} c i l k = corner_at d f.tail f.head h.turns_at h.before h.next m n p q c l h.after i k

  pub walk_region : {d e : Piece} → IsDirected ps d → OneWalk K place ps d e → {m n p q : Point A} → Inner d m → Inner e n → Left d m p → Left e n q → OneRegion K place ps p q
  walk_region {d} hd same c i l k = left_one_region K place ps plane d hd c i l k
  walk_region {d} hd (onward {e = f} h w) c i l k =
      let r : (r : Point A) × Left f (middle_of K place f) r = some_left K place ps plane f h.after (middle_inner K place ps plane f h.after) in
      region_then K place ps (next_region h c (middle_inner K place ps plane f h.after) l r.1) (walk_region h.after w (middle_inner K place ps plane f h.after) i r.1 k)
  walk_region {d} hd (back {e = f} h w) c i l k =
      let r : (r : Point A) × Left f (middle_of K place f) r = some_left K place ps plane f h.before (middle_inner K place ps plane f h.before) in
      region_then K place ps (region_back K place ps (next_region h (middle_inner K place ps plane f h.before) c r.1 l)) (walk_region h.before w (middle_inner K place ps plane f h.before) i r.1 k)

  directed_after : {d e : Piece} → IsDirected ps d → OneWalk K place ps d e → IsDirected ps e
  directed_after hd same = hd
  directed_after hd (onward h w) = directed_after h.after w
  directed_after hd (back h w) = directed_after h.before w

  pub one_region : (d e : Piece) → IsDirected ps d → OneWalk K place ps d e → (p q : Point A) → LeftOf K place ps d p → LeftOf K place ps e q → OneRegion K place ps p q
  one_region d e hd w p q l k = walk_region hd w (middle_inner K place ps plane d hd) (middle_inner K place ps plane e (directed_after hd w)) l k
