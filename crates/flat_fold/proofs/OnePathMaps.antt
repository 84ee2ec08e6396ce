-- There is one answer on path maps, and one least edge that disagrees.
use Rattle.std.proofs.Common.{◌≡◌, ◌∙◌, ap, sym, refl, subst, ℕ, zero, suc, List, [], ◌∷◌, ◌<◌, length, inl, inr, ◌⊎◌, arith}
use Rattle.std.specs.Prelude.{slice_index_or}
use Rattle.std.proofs.lemmas.Bool.{cases_lt}
use Rattle.scaled_plane.specs.declared.drawing.Edge.{Edge}
use Rattle.scaled_plane.specs.declared.drawing.Face.{Face}
use Rattle.scaled_plane.specs.declared.point.Pair.{Pair}
use Rattle.flat_fold.specs.declared.motion.Motion.{Motion}
use Rattle.flat_fold.specs.Computed.{Computed, ComputedField, Fits}
use Rattle.flat_fold.specs.Folding.{IsFirstDisagreeing, IsFirstMapPast, IsFoldable, IsPathMap}
use Rattle.flat_fold.specs.Folding.IsPathMap.{first, next}
use Rattle.flat_fold.specs.PathMaps.{ArePathMaps}
use Rattle.flat_fold.proofs.FoldingLaws.{leads-in_range, one-side}
use Rattle.flat_fold.proofs.PathMaps.{one-path_map}
use Rattle.flat_fold.proofs.Walks.{leads-back}

-- lists that are as long, and alike at each place, are one
same_by_places : {X : Type 0} (xs ys : List X) → length xs ≡ length ys → ((i : ℕ) (d : X) → i < length xs → slice_index_or xs i d ≡ slice_index_or ys i d) → xs ≡ ys
same_by_places [] [] long same = refl
same_by_places [] (y ∷ ys) long same = absurd (omega (arith, long))
same_by_places (x ∷ xs) [] long same = absurd (omega (arith, long))
same_by_places (x ∷ xs) (y ∷ ys) long same =
    let head : x ≡ y = same 0 x (omega arith) in
    let rest : xs ≡ ys = same_by_places xs ys (omega (arith, long)) (λ i d l. same (suc i) d (omega (arith, l))) in
    λ i. head i ∷ rest i

-- of two numbers neither is before the other
pub neither_before : (m n : ℕ) → ¬ (m < n) → ¬ (n < m) → m ≡ n
neither_before m n a b = elim (cases_lt m n) [
  | inl less ↦ absurd (a less)
  | inr more ↦ elim (cases_lt n m) [ inl less ↦ absurd (b less) | inr most ↦ omega (arith, more, most) ]
]

module _ {A : Type 0} (K : ComputedField A) (coords : List (Pair A)) (edges : List Edge) (faces : List Face) where
  pub one-map_past : (f g : ℕ) → IsFirstMapPast K coords edges faces f → IsFirstMapPast K coords edges faces g → f ≡ g
  one-map_past f g a b = neither_before f g (λ less. a.past (b.least f a.map less a.is_map)) (λ less. b.past (a.least g b.map less b.is_map))

  pub one-disagreeing : (d e : ℕ) → IsFirstDisagreeing K coords edges faces d → IsFirstDisagreeing K coords edges faces e → d ≡ e
  one-disagreeing d e a b = neither_before d e (λ less. b.least d less a.disagrees) (λ less. a.least e less b.disagrees)

  module _ (foldable : IsFoldable K.field coords edges faces) where
    one : {f g : ℕ} {m n : Computed (Motion A)} → IsPathMap K coords edges faces f m → IsPathMap K coords edges faces g n → f ≡ g → m ≡ n
    one = one-path_map K coords edges faces (one-side edges faces foldable.one_face)

    -- only faces have path maps
    pub map-in_range : {f : ℕ} {m : Computed (Motion A)} → IsPathMap K coords edges faces f m → f < length faces
    map-in_range first = foldable.some_face
    map-in_range (next {f} {g} {e} entry before) = leads-in_range edges faces e f g (leads-back edges faces e g f entry.leads)

    pub one-path_maps : (maps others : List (Motion A)) → ArePathMaps K coords edges faces maps → ArePathMaps K coords edges faces others → maps ≡ others
    one-path_maps maps others a b =
        same_by_places maps others (a.long ∙ sym b.long)
        (λ f d l.
        let within : f < length faces = subst (λ (n : ℕ). f < n) a.long l in
        let m = a.each f d within in
        let n = b.each f d within in
        m.3 ∙ ap (λ (c : Computed (Motion A)). c.value) (one m.1 n.1 refl) ∙ sym n.3)

    -- where all path maps are given, none overflows
    pub none-past : (maps : List (Motion A)) (f : ℕ) → ArePathMaps K coords edges faces maps → ¬ IsFirstMapPast K coords edges faces f
    none-past maps f a past =
        let m = a.each f past.map.value (map-in_range past.is_map) in
        past.past (subst (λ (c : Computed (Motion A)). Fits c) (one m.1 past.is_map refl) m.2)
