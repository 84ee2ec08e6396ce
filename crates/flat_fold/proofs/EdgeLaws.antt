-- The faces of an edge lay its ends alike, unless the paper is cut there.
use Rattle.std.proofs.Common.{◌≡◌, ◌∙◌, ap, sym, subst, refl, ℕ, zero, suc, List, [], ◌∷◌, ◌++◌, ◌<◌, length, Some, Option, ℤ, ◌⊎◌, inl, inr, arith}
use Rattle.std.specs.Prelude.{slice_get, slice_index_or}
use Rattle.std.specs.List.{Contains}
use Rattle.std.proofs.lemmas.Bool.{cases_eq}
use Rattle.algebra.specs.LowestTerms.{Parts}
use Rattle.algebra.specs.OrderedField.{OrderedField}
use Rattle.algebra.specs.Surd.{Surd}
use Rattle.algebra.specs.WholeSurds.{SurdNumbers}
use Rattle.fold_base.specs.declared.letter.Letter.{Letter}
use Rattle.fold_base.specs.declared.letter.Letter.TheVariants.{Border, Mountain, Valley, Flat, Unassigned, Cut, Join}
use Rattle.scaled_plane.specs.declared.point.Pair.{Pair}
use Rattle.scaled_plane.specs.declared.drawing.Edge.{Edge}
use Rattle.scaled_plane.specs.declared.drawing.Ends.{Ends}
use Rattle.scaled_plane.specs.declared.drawing.Face.{Face}
use Rattle.scaled_plane.specs.declared.sheet.SheetFlaw.TheVariants.{BorderWrong}
use Rattle.scaled_plane.specs.Sheets.{HasOneFace, HasSide}
use Rattle.scaled_plane.specs.Walks.{pieces_on_to, pieces_round}
use Rattle.flat_fold.specs.declared.motion.Motion.{Motion}
use Rattle.flat_fold.specs.Motions.{composed, place}
use Rattle.flat_fold.specs.Faces.{IsBetween, IsPassable, IsWalk, Leads, LiesAlong, corners_at, edge_at}
use Rattle.flat_fold.specs.Folding.{Agree, Closes, IsFoldable, crossing, point, walk_map}
use Rattle.flat_fold.specs.Images.{map_at, place_by}
use Rattle.flat_fold.specs.Folded.{AreFaceMaps, HasEdge}
use Rattle.flat_fold.specs.Sheets.{FormSheet}
use Rattle.flat_fold.proofs.FoldingLaws.{agree-or_not, in_range, leads-in_range}
use Rattle.flat_fold.proofs.MotionLaws.{composed-identity}
use Rattle.flat_fold.proofs.SheetLaws.{edge-get, face-has, foldable-sheet, has-face, one-face}
use Rattle.flat_fold.proofs.Walks.{crossing-agrees, leads-back, map-append, walk-append}

-- ---- the corner after one

next-of : (first : ℕ) (xs : List ℕ) (k u v : ℕ) → slice_get (pieces_on_to first xs) k ≡ Some (u, v) → (suc k < length xs → slice_index_or xs (suc k) 0 ≡ v) × (suc k ≡ length xs → first ≡ v)
next-of first [] k u v e = absurd (cc)
next-of first (x ∷ []) zero u v e = (λ less. absurd (omega arith), λ _. (let both : (x, first) ≡ (u, v) = cc in ap (λ (p : ℕ × ℕ). p.1) both))
next-of first (x ∷ []) (suc k) u v e = absurd (cc)
next-of first (x ∷ (y ∷ rest)) zero u v e = ((λ _. (let both : (x, y) ≡ (u, v) = cc in ap (λ (p : ℕ × ℕ). p.1) both)), λ last. absurd (omega arith))
next-of first (x ∷ (y ∷ rest)) (suc k) u v e = let rest-of = next-of first (y ∷ rest) k u v e in ((λ less. rest-of.0 (omega (arith, less))), λ last. rest-of.1 (omega (arith, last)))

-- the second end of a piece is the corner after its first
pub corner-next : (corners : List ℕ) (k u v : ℕ) → slice_get (pieces_round corners) k ≡ Some (u, v) → (suc k < length corners → slice_index_or corners (suc k) 0 ≡ v) × (suc k ≡ length corners → slice_index_or corners 0 0 ≡ v)
corner-next [] k u v e = absurd (cc)
corner-next (x ∷ rest) k u v e = next-of x (x ∷ rest) k u v e

-- ---- the maps of the two faces of an edge

module _ {A : Type 0} (F : OrderedField A) (coords : List (Pair A)) (edges : List Edge) (faces : List Face) (foldable : IsFoldable F coords edges faces)
    (maps : List (Motion A)) (are : AreFaceMaps F coords edges faces maps) where
  pub maps-agree : (e f g : ℕ) → Leads edges faces e f g → Agree F coords (edge_at edges e) (map_at F maps f) (map_at F maps g)
  maps-agree e f g l = elim (agree-or_not F coords (edge_at edges e) (map_at F maps f) (map_at F maps g)) [
    | inl agree ↦ agree
    | inr apart ↦ absurd (foldable.reached f f_in (λ walk. apart (by walk.0 walk.1)))
  ]
    where
      f_in : f < length faces
      f_in = leads-in_range edges faces e f g l

      g_in : g < length faces
      g_in = leads-in_range edges faces e g f (leads-back edges faces e f g l)

      by : (es : List ℕ) → IsWalk edges faces 0 es f → Agree F coords (edge_at edges e) (map_at F maps f) (map_at F maps g)
      by es w =
          let C : Motion A = crossing F coords (edge_at edges e) in
          let longer : walk_map F coords edges (es ++ e ∷ []) ≡ composed F (walk_map F coords edges es) (crossing F coords (edge_at edges e))
          = map-append F coords edges faces es (e ∷ []) ∙ ap (composed F (walk_map F coords edges es)) (composed-identity F (crossing F coords (edge_at edges e))) in
          crossing-agrees F coords (edge_at edges e) (foldable.apart e f g l) (map_at F maps f) (map_at F maps g)
          (are.walk g (es ++ e ∷ []) g_in (walk-append F coords edges faces 0 f g es (e ∷ []) w (g, l, refl)) ∙ longer ∙ ap (λ (k : Motion A). composed F k (crossing F coords (edge_at edges e))) (sym (are.walk f es f_in w)))

-- ---- edges that aren't C

module _ {N : Type 0} {parts : N → Parts} {W : Type 0} {k : ℕ} {surd : W → Surd ℤ} {numbers : SurdNumbers k surd} (ends : Ends N) (faces : List Face) (form : FormSheet parts numbers ends faces) (F : OrderedField N)
    (maps : List (Motion N)) (are : AreFaceMaps F ends.coords ends.edges faces maps) where
  side-of : (f e : ℕ) → HasEdge ends.edges faces f e → HasSide faces f (edge_at ends.edges e)
  side-of f e (inl h) = (corners_at faces f, face-has faces f (in_range ends.edges faces f (edge_at ends.edges e).from (edge_at ends.edges e).to h), inl h)
  side-of f e (inr h) = (corners_at faces f, face-has faces f (in_range ends.edges faces f (edge_at ends.edges e).to (edge_at ends.edges e).from h), inr h)

  -- two faces of an edge whose letter isn't C
  pub leads-between : (e f g : ℕ) → e < length ends.edges → ¬ ((edge_at ends.edges e).letter ≡ Cut) → HasEdge ends.edges faces f e → HasEdge ends.edges faces g e → ¬ (f ≡ g) → Leads ends.edges faces e f g
  leads-between e f g less uncut hf hg apart = record { is_edge = less; passable = by (edge_at ends.edges e).letter refl; between = between hf hg }
    where
      between : HasEdge ends.edges faces f e → HasEdge ends.edges faces g e → IsBetween ends.edges faces (edge_at ends.edges e) f g
      between (inl a) (inl b) = absurd (apart (one-face ends faces form (edge_at ends.edges e).from (edge_at ends.edges e).to f g a b))
      between (inl a) (inr b) = inl (a, b)
      between (inr a) (inl b) = inr (a, b)
      between (inr a) (inr b) = absurd (apart (one-face ends faces form (edge_at ends.edges e).to (edge_at ends.edges e).from f g a b))

      not-border : ¬ ((edge_at ends.edges e).letter ≡ Border)
      not-border border = form.sheet (BorderWrong e) (edge_at ends.edges e, edge-get ends.edges e less, inl (border, λ one. apart (one.2 f (side-of f e hf) ∙ sym (one.2 g (side-of g e hg)))))

      by : (l : Letter) → (edge_at ends.edges e).letter ≡ l → IsPassable (edge_at ends.edges e).letter
      by Border is = absurd (not-border is)
      by Cut is = absurd (uncut is)
      by Mountain is = subst IsPassable (sym is) tt
      by Valley is = subst IsPassable (sym is) tt
      by Flat is = subst IsPassable (sym is) tt
      by Unassigned is = subst IsPassable (sym is) tt
      by Join is = subst IsPassable (sym is) tt

  -- .. lay its ends alike
  pub edge-alike : (e f g : ℕ) → e < length ends.edges → ¬ ((edge_at ends.edges e).letter ≡ Cut) → HasEdge ends.edges faces f e → HasEdge ends.edges faces g e
      → (place_by F ends.coords faces maps f (edge_at ends.edges e).from ≡ place_by F ends.coords faces maps g (edge_at ends.edges e).from) × (place_by F ends.coords faces maps f (edge_at ends.edges e).to ≡ place_by F ends.coords faces maps g (edge_at ends.edges e).to)
  edge-alike e f g less uncut hf hg = elim (cases_eq f g) [
    | inl same ↦ (ap (λ h. place_by F ends.coords faces maps h (edge_at ends.edges e).from) same, ap (λ h. place_by F ends.coords faces maps h (edge_at ends.edges e).to) same)
    | inr apart ↦ (
        let agree = maps-agree F ends.coords ends.edges faces (foldable-sheet ends faces form F) maps are e f g (leads-between e f g less uncut hf hg apart) in
        (agree.from, agree.to)
        )
  ]

  -- so what holds of its ends where one face lays them holds of them where another does
  pub holds-alike : (P Q : Pair N → Type 0) (e f g : ℕ) → e < length ends.edges → ¬ ((edge_at ends.edges e).letter ≡ Cut) → HasEdge ends.edges faces f e → HasEdge ends.edges faces g e
      → P (place_by F ends.coords faces maps f (edge_at ends.edges e).from) × Q (place_by F ends.coords faces maps f (edge_at ends.edges e).to)
      → P (place_by F ends.coords faces maps g (edge_at ends.edges e).from) × Q (place_by F ends.coords faces maps g (edge_at ends.edges e).to)
  holds-alike P Q e f g less uncut hf hg both =
      let alike = edge-alike e f g less uncut hf hg in
      (subst P alike.0 both.0, subst Q alike.1 both.1)
