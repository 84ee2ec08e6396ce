-- An edge by its sides and its letter.
use Rattle.std.proofs.Common.{◌≡◌, ◌∙◌, ap, sym, subst, refl, inl, inr, ℕ, ◌<◌, length, List, [], ◌∷◌, Option, Some, None}
use Rattle.std.specs.Prelude.{slice_get, Contains}
use Rattle.std.specs.Option.{MatchOption}
use Rattle.std.proofs.lemmas.Option.{get_or_from_slice_get, slice_get-get_or}
use Rattle.fold_base.specs.declared.letter.Letter.{Letter}
use Rattle.fold_base.specs.declared.letter.Letter.TheVariants.{Cut}
use Rattle.algebra.specs.OrderedRing.{OrderedRing}
use Rattle.plane.proofs.Members.{in_head, in_tail}
use Rattle.layers.specs.Sheets.{FoldedEdge, FoldedSheet, HasFaces, FaceSide as NumberedSide}
use Rattle.half_planes.specs.declared.sheet.FaceSide.{FaceSide}
use Rattle.half_planes.specs.declared.sheet.EdgeSides.{EdgeSides}
use Rattle.half_planes.specs.Views.{AreSided, edge_at, numbered, side_list, with_second}
use Rattle.layer_judge.specs.declared.judged.EdgeFaces.{EdgeFaces}
use Rattle.layer_judge.specs.Rankings.{IsLettered, IsTwoFaced, IsUncut, NoneLettered}

module _ {A : Type 0} (K : OrderedRing A) (sheet : FoldedSheet A) where
  pub edge_of : {e f g : ℕ} (faces : HasFaces K sheet e f g) → edge_at sheet e ≡ faces.edge
  edge_of {e} faces = get_or_from_slice_get sheet.edges e faces.edge _ faces.is

  pub letter_of : {e f g : ℕ} (faces : HasFaces K sheet e f g) (letter : Letter) → letter ≡ (edge_at sheet e).letter → letter ≡ faces.edge.letter
  letter_of faces letter is = is ∙ ap (λ (x : FoldedEdge). x.letter) (edge_of faces)

  module _ (e : ℕ) (sides : EdgeSides) (are : (edge_at sheet e).sides ≡ side_list sides) where
    pub one_faced : sides.second ≡ None → (f g : ℕ) → ¬ HasFaces K sheet e f g
    one_faced none f g faces =
        let listed : faces.edge.sides ≡ numbered sides.first ∷ [] = sym (ap (λ (x : FoldedEdge). x.sides) (edge_of faces)) ∙ are ∙ ap (with_second (numbered sides.first)) none in
        elim faces.either [ inl p ↦ cc | inr p ↦ cc ]

    pub two_faced : e < length sheet.edges → AreSided sheet → (second : FaceSide) → sides.second ≡ Some second → IsTwoFaced K sheet e sides.first.face second.face
    two_faced within sided second some = record {
      faces = record { edge = edge_at sheet e; is = slice_get-get_or sheet.edges e _ within; first = sides.first.corner; second = second.corner; either = inl listed };
      first_within = sided.has_face e (numbered sides.first) within (subst (λ xs. Contains xs (numbered sides.first)) (sym listed) (in_head (numbered sides.first) (numbered second ∷ [])));
      second_within = sided.has_face e (numbered second) within (subst (λ xs. Contains xs (numbered second)) (sym listed) (in_tail (numbered sides.first) (numbered second ∷ []) (numbered second) (in_head (numbered second) [])));
    }
      where
        listed : (edge_at sheet e).sides ≡ numbered sides.first ∷ numbered second ∷ []
        listed = are ∙ ap (with_second (numbered sides.first)) some

  module _ (Lettered : Letter → Type 0) (e : ℕ) (letter : Letter) (is : letter ≡ (edge_at sheet e).letter) where
    pub other_letter : ¬ (Lettered letter) → NoneLettered K sheet Lettered e
    other_letter other f g faces l = other (subst Lettered (sym (letter_of faces letter is)) l)

    -- an edge that isn't cut, with what was found of its faces
    pub lettered_faces : ¬ (Lettered Cut) → Lettered letter → e < length sheet.edges → (found : Option EdgeFaces)
        → MatchOption found ((f g : ℕ) → ¬ HasFaces K sheet e f g) (λ it. (it.edge ≡ e) × IsTwoFaced K sheet e it.first it.second)
        → MatchOption found (NoneLettered K sheet Lettered e) (λ it. (it.edge ≡ e) × IsLettered K sheet Lettered e it.first it.second)
    lettered_faces uncut l within None none = λ f g faces x. none f g faces
    lettered_faces uncut l within (Some it) (same, two) = (
      same,
      record {
        uncut = record {
          faces = two.faces;
          edge_within = within;
          first_within = two.first_within;
          second_within = two.second_within;
          not_cut = λ cut. uncut (subst Lettered (is ∙ cut) l);
        };
        lettered = subst Lettered (letter_of two.faces letter is) l;
      },
    )
