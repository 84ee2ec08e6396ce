-- What keeps small drawings from being sheets.
use mathlib.Core.Path.{◌≡◌, refl, sym, subst, ◌∙◌}
use mathlib.Core.Bool.{Bool, true, false}
use mathlib.Core.List.{List, [], ◌∷◌}
use mathlib.Core.Logic.{inl, inr}
use Prim.Native.Nat.{ℕ}
use Rattle.std.proofs.lemmas.Bool.Decides.{Decides-eqb}
use Rattle.std.specs.Prelude.{◌&&◌, ◌||◌, not, Contains, nat_eq}
use Rattle.algebra.specs.OrderedRing.{OrderedRing}
use Rattle.plane.specs.declared.point.Point.{Point}
use Rattle.plane.specs.Points.{IsPoint, IsSamePoint}
use Rattle.plane.specs.Segments.{IsEnd}
use Rattle.plane.proofs.Members.{in_nil}
use Rattle.scaled_plane.specs.declared.drawing.Edge.{Edge}
use Rattle.scaled_plane.specs.declared.drawing.Face.{Face}
use Rattle.scaled_plane.specs.Lists.{IsReached, begun, gone_on}
use Rattle.scaled_plane.specs.Pieces.{point_at}
use Rattle.scaled_plane.specs.Sheets.{AreBeside, HasSide, MeetBesideEnds}
use Rattle.scaled_plane.specs.Walks.{AreJoined, IsDirectedPiece, IsWalk}
use Rattle.scaled_plane.specs.WellSet.{HasEnd}
use Rattle.drawing_examples.proofs.Cutting.{not_is}
use Rattle.drawing_examples.proofs.Lists.{and_first, and_second, every, every_of}
use Rattle.drawing_examples.proofs.Tests.{is_same, lies, lies_decides, same_decides}

pub is_loose : (edges : List Edge) (v : ℕ) → every (λ e. not (nat_eq e.from v) && not (nat_eq e.to v)) edges ≡ true → (e : Edge) → Contains edges e → ¬ HasEnd e v
is_loose edges v h e i end =
    let both = every_of (λ e. not (nat_eq e.from v) && not (nat_eq e.to v)) edges h e i in
    elim end [
      | inl f ↦ not_is (nat_eq e.from v) (and_first (not (nat_eq e.from v)) (not (nat_eq e.to v)) both) ((Decides-eqb e.from v).1 f)
      | inr f ↦ not_is (nat_eq e.to v) (and_second (not (nat_eq e.from v)) (not (nat_eq e.to v)) both) ((Decides-eqb e.to v).1 f)
    ]

-- ---- a common point that isn't an end of both

module _ {A : Type 0} (K : OrderedRing A) where
  off_end : (a b p : Point A) → is_same K p a ≡ false → is_same K p b ≡ false → ¬ IsEnd K a b p
  off_end a b p f g (inl e) = let no_end : true ≡ false = sym ((same_decides K p a).1 e) ∙ f in absurd (cc)
  off_end a b p f g (inr e) = let no_end : true ≡ false = sym ((same_decides K p b).1 e) ∙ g in absurd (cc)

  pub meet_beside : (vertices : List (Point A)) (e f : Edge) (p : Point A) → IsPoint K (point_at K vertices e.from) → IsPoint K (point_at K vertices e.to)
      → IsPoint K (point_at K vertices f.from) → IsPoint K (point_at K vertices f.to) → IsPoint K p
      → is_same K (point_at K vertices e.from) (point_at K vertices e.to) ≡ false → is_same K (point_at K vertices f.from) (point_at K vertices f.to) ≡ false
      → lies K (point_at K vertices e.from) (point_at K vertices e.to) p ≡ true → lies K (point_at K vertices f.from) (point_at K vertices f.to) p ≡ true
      → is_same K p (point_at K vertices e.from) ≡ false → is_same K p (point_at K vertices e.to) ≡ false → MeetBesideEnds K vertices e f
  meet_beside vertices e f p ha hb hc hd hp proper_e proper_f on_e on_f off_from off_to =
      let a = point_at K vertices e.from in
      let b = point_at K vertices e.to in
      let c = point_at K vertices f.from in
      let d = point_at K vertices f.to in (
        p,
        (hp, (lies_decides K a b p ha hb hp (apart a b proper_e)).0 on_e, (lies_decides K c d p hc hd hp (apart c d proper_f)).0 on_f),
        λ ends. off_end a b p off_from off_to ends.0,
      )
    where
      apart : (a b : Point A) → is_same K a b ≡ false → ¬ IsSamePoint K a b
      apart a b h e = let both_ways : true ≡ false = sym ((same_decides K a b).1 e) ∙ h in absurd (cc)

-- ---- parted

-- what edges lead to from a set that they don't leave is in the set
module _ (edges : List Edge) (within : ℕ → Bool) (kept : (u v : ℕ) → IsDirectedPiece edges u v → within u ≡ true → within v ≡ true) where
  pub stays_within : {u v : ℕ} → within u ≡ true → AreJoined edges u v → within v ≡ true
  stays_within h begun = h
  stays_within h (gone_on w reached step) = kept w _ step (stays_within h reached)

pub same_sides : (edges : List Edge) (within : ℕ → Bool) → every (λ e. (not (within e.from) || within e.to) && (not (within e.to) || within e.from)) edges ≡ true
    → (u v : ℕ) → IsDirectedPiece edges u v → within u ≡ true → within v ≡ true
same_sides edges within h u v piece inside =
    let e = piece.0 in
    let both = every_of (λ e. (not (within e.from) || within e.to) && (not (within e.to) || within e.from)) edges h e piece.1 in
    elim piece.2 [
      | inl ends ↦ subst (λ (x : ℕ). within x ≡ true) ends.1 (then (within e.from) (within e.to) (and_first (not (within e.from) || within e.to) (not (within e.to) || within e.from) both) (subst (λ (x : ℕ). within x ≡ true) (sym ends.0) inside))
      | inr ends ↦ subst (λ (x : ℕ). within x ≡ true) ends.0 (then (within e.to) (within e.from) (and_second (not (within e.from) || within e.to) (not (within e.to) || within e.from) both) (subst (λ (x : ℕ). within x ≡ true) (sym ends.1) inside))
    ]
  where
    then : (a b : Bool) → (not a || b) ≡ true → a ≡ true → b ≡ true
    then true b h e = h
    then false b h e = absurd (cc)

pub is_parted : (edges : List Edge) (within : ℕ → Bool) (u v : ℕ) → every (λ e. (not (within e.from) || within e.to) && (not (within e.to) || within e.from)) edges ≡ true
    → within u ≡ true → within v ≡ false → ¬ AreJoined edges u v
is_parted edges within u v h inside outside joined =
    let both_ways : true ≡ false = sym (stays_within edges within (same_sides edges within h) inside joined) ∙ outside in absurd (cc)

-- ---- no edge, no face

pub no_piece : (u v : ℕ) → ¬ IsDirectedPiece [] u v
no_piece u v h = in_nil h.0 h.1

pub no_walk : {A : Type 0} (K : OrderedRing A) (vertices : List (Point A)) (corners : List ℕ) → ¬ IsWalk K vertices [] corners
no_walk K vertices [] h = h.follow
no_walk K vertices (u ∷ []) h = no_piece u u h.follow.0.1.piece
no_walk K vertices (u ∷ v ∷ rest) h = no_piece u v (first_piece u v rest h)
  where
    first_piece : (u v : ℕ) (rest : List ℕ) → IsWalk K vertices [] (u ∷ v ∷ rest) → IsDirectedPiece [] u v
    first_piece u v [] h = h.follow.0.1.piece
    first_piece u v (w ∷ rest) h = h.follow.0.1.piece

pub no_face_has : (f : ℕ) (e : Edge) → ¬ HasSide [] f e
no_face_has f e h = let none = h.1.1 in cc

pub not_beside : (faces : List Face) (f g : ℕ) → ¬ AreBeside faces [] f g
not_beside faces f g h = in_nil h.0 h.1

pub severed : (faces : List Face) → {v : ℕ} → IsReached (AreBeside faces []) 0 v → v ≡ 0
severed faces begun = refl
severed faces (gone_on w reached step) = absurd (not_beside faces w _ step)
