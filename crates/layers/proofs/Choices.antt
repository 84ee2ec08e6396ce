-- Which face of an edge is called its first doesn't matter to the list, so each kind may be tested
-- at the faces as they are found.
use mathlib.Core.Path.{◌≡◌, sym, ap, subst, ◌∙◌}
use mathlib.Core.List.{List, [], ◌∷◌}
use mathlib.Core.Logic.{◌⊎◌, inl, inr, ◌↔◌}
use Prim.Native.Nat.{ℕ, ◌<◌}
use Rattle.std.specs.declared.cmp.Ordering.{Ordering}
use Rattle.std.specs.Ordering.{ordering_reverse}
use Rattle.algebra.specs.OrderedRing.{OrderedRing}
use Rattle.layers.proofs.FoldedFacts.{FoldedFacts, HasInside}
use Rattle.layers.proofs.Signs.{flipped, flipped_reverse}
use Rattle.layers.proofs.Seams.{SeamPoint}
use Rattle.layers.proofs.Sides.{Relined, lies_relined, lies_reversed, ImageOf, by_first, by_second, image_of, FacesBeside, line_of_seam}
use Rattle.plane.proofs.OnSegments.{between_is_on, on_between}
use Rattle.layers.proofs.FaceWise.{seam_together, crease_sides, join_sides}
use Rattle.fold_base.specs.declared.letter.Letter.{Letter as AnyLetter}
use Rattle.layers.specs.Pieces.{Piece, reversed}
use Rattle.layers.specs.Sheets.{IsCrease, IsJoin, FaceSide, FoldedEdge, FoldedSheet, HasPiece, IsImage, HasFaces}
use Rattle.layers.specs.Orders.{LiesBetween, OneBetween}
use Rattle.layers.specs.Points.{LiesOn, LetterFits}
use Rattle.layers.specs.Listing.{EdgeEnters, RunAlong, RunTogether, AreBeside, HasSides, Changes, EntersBetween, ThroughListed, CreasesListed, JoinedListed, LetterListed}
use Rattle.layers.specs.Folded.{MeetThere}
use Rattle.layers.proofs.Letters.{letter_either}

between_either : (above : ℕ → ℕ → Type 0) (x f g : ℕ) → LiesBetween above x f g → LiesBetween above x g f
between_either above x f g (inl h) = inr h
between_either above x f g (inr h) = inl h

same_pair : {X : Type 0} (xs : List X) (a b c d : X) → (xs ≡ a ∷ b ∷ []) ⊎ (xs ≡ b ∷ a ∷ []) → (xs ≡ c ∷ d ∷ []) ⊎ (xs ≡ d ∷ c ∷ []) → ((a ≡ c) × (b ≡ d)) ⊎ ((a ≡ d) × (b ≡ c))
same_pair xs a b c d (inl x) (inl y) = inl (cc, cc)
same_pair xs a b c d (inl x) (inr y) = inr (cc, cc)
same_pair xs a b c d (inr x) (inl y) = inr (cc, cc)
same_pair xs a b c d (inr x) (inr y) = inl (cc, cc)

module _ {A : Type 0} (K : OrderedRing A) (sheet : FoldedSheet A) where
  -- an edge has its two faces in one way, up to their order
  pub data SameFaces (f g h k : ℕ) : Type 0 where
    as_they_are : f ≡ h → g ≡ k → SameFaces f g h k
    crosswise : f ≡ k → g ≡ h → SameFaces f g h k

  pub same_edge : {e f g h k : ℕ} (a : HasFaces K sheet e f g) (b : HasFaces K sheet e h k) → a.edge ≡ b.edge
  same_edge a b = let i = a.is in let j = b.is in cc

  pub same_faces : {e f g h k : ℕ} (a : HasFaces K sheet e f g) (b : HasFaces K sheet e h k) → SameFaces f g h k
  same_faces {e} {f} {g} {h} {k} a b =
      of (same_pair b.edge.sides (record { face = f; corner = a.first }) (record { face = g; corner = a.second }) (record { face = h; corner = b.first }) (record { face = k; corner = b.second })
      (subst (λ (o : FoldedEdge). (o.sides ≡ first ∷ second ∷ []) ⊎ (o.sides ≡ second ∷ first ∷ [])) (same_edge a b) a.either) b.either)
    where
      first : FaceSide
      first = record { face = f; corner = a.first }

      second : FaceSide
      second = record { face = g; corner = a.second }

      third : FaceSide
      third = record { face = h; corner = b.first }

      fourth : FaceSide
      fourth = record { face = k; corner = b.second }

      of : ((first ≡ third) × (second ≡ fourth)) ⊎ ((first ≡ fourth) × (second ≡ third)) → SameFaces f g h k
      of (inl s) = as_they_are (ap (λ (o : FaceSide). o.face) s.0) (ap (λ (o : FaceSide). o.face) s.1)
      of (inr s) = crosswise (ap (λ (o : FaceSide). o.face) s.0) (ap (λ (o : FaceSide). o.face) s.1)

  pub same_letter : {e f g h k : ℕ} (Lettered : AnyLetter → Type 0) (a : HasFaces K sheet e f g) (b : HasFaces K sheet e h k) → Lettered a.edge.letter → Lettered b.edge.letter
  same_letter Lettered a b l = subst (λ (o : FoldedEdge). Lettered o.letter) (same_edge a b) l

  module _ (above : ℕ → ℕ → Type 0) where
    -- ---- an edge and a face that it enters

    pub enters_between : {Lettered : AnyLetter → Type 0} {e f g : ℕ} (a : HasFaces K sheet e f g) → Lettered a.edge.letter → (h : ℕ)
        → EntersBetween K sheet above Lettered e h ↔ (EdgeEnters K sheet e h × LiesBetween above h f g)
    enters_between {Lettered} {e} {f} {g} a l h = ((λ b. (b.enters, found b (same_faces b.faces a))), (λ p. record { first = f; second = g; faces = a; lettered = l; enters = p.0; is_between = p.1 }))
      where
        found : (b : EntersBetween K sheet above Lettered e h) → SameFaces b.first b.second f g → LiesBetween above h f g
        found b (as_they_are i j) = subst (LiesBetween above h f) j (subst (λ x. LiesBetween above h x b.second) i b.is_between)
        found b (crosswise i j) = between_either above h g f (subst (LiesBetween above h g) j' (subst (λ x. LiesBetween above h x b.second) i b.is_between))
          where
            j' : b.second ≡ f
            j' = j

    -- ---- letters

    pub letter_misfits : {e f g : ℕ} (a : HasFaces K sheet e f g) → LetterListed K sheet above e ↔ (¬ LetterFits K sheet above a.edge.letter f g)
    letter_misfits {e} {f} {g} a = ((λ b fits. found b (same_faces b.faces a) fits), (λ n. record { first = f; second = g; faces = a; misfit = n }))
      where
        there : (b : LetterListed K sheet above e) → LetterFits K sheet above a.edge.letter f g → LetterFits K sheet above b.faces.edge.letter f g
        there b fits = subst (λ (o : FoldedEdge). LetterFits K sheet above o.letter f g) (sym (same_edge b.faces a)) fits

        found : (b : LetterListed K sheet above e) → SameFaces b.first b.second f g → LetterFits K sheet above a.edge.letter f g → ⊥
        found b (as_they_are i j) fits = b.misfit (subst (LetterFits K sheet above b.faces.edge.letter b.first) (sym j) (subst (λ x. LetterFits K sheet above b.faces.edge.letter x g) (sym i) (there b fits)))
        found b (crosswise i j) fits = b.misfit (subst (LetterFits K sheet above b.faces.edge.letter b.first) (sym j) (subst (λ x. LetterFits K sheet above b.faces.edge.letter x f) (sym i) (letter_either K sheet above b.faces.edge.letter f g (there b fits))))

  -- ---- two edges that run together

  module _ (folded : FoldedFacts K sheet) where
    one_side : {f k : ℕ} {s : Piece A} → HasPiece K sheet f k s → (line : Piece A) (o u : Ordering) → LiesOn K sheet line o f → LiesOn K sheet line u f → o ≡ u
    one_side {f} {k} {s} h line o u a b = of (folded.has_inside f h.face h.is_face)
      where
        of : HasInside K sheet f → o ≡ u
        of v = sym (a v.point v.is_point v.inside) ∙ b v.point v.is_point v.inside

    -- both faces on one side of this image of the edge
    record BesideThere (line : Piece A) (f h : ℕ) : Type 0 where
      on_side : Ordering
      first : LiesOn K sheet line on_side f
      second : LiesOn K sheet line on_side h

    beside_reversed : (s : Piece A) (f h : ℕ) → BesideThere s f h → BesideThere (reversed s) f h
    beside_reversed s f h b = record { on_side = ordering_reverse b.on_side; first = lies_reversed K sheet s b.on_side f b.first; second = lies_reversed K sheet s b.on_side h b.second }

    beside_there : {e f g : ℕ} (a : HasFaces K sheet e f g) (m : MeetThere K sheet a) (face : ℕ) (line : Piece A) → IsImage K sheet e face line → (x y : ℕ) → AreBeside K sheet e x y → BesideThere line x y
    beside_there {e} {f} {g} a m face line i x y b = of (image_of K sheet a m face line i) (image_of K sheet a m b.face b.line b.image)
      where
        given : BesideThere b.line x y
        given = record { on_side = b.on_side; first = b.first; second = b.second }

        of : ImageOf K sheet a m face line → ImageOf K sheet a m b.face b.line → BesideThere line x y
        of (by_first p q) (by_first r s) = subst (λ t. BesideThere t x y) (s ∙ sym q) given
        of (by_first p q) (by_second r s) = subst (λ t. BesideThere t x y) (sym q) (beside_reversed (reversed m.piece) x y (subst (λ t. BesideThere t x y) s given))
        of (by_second p q) (by_first r s) = subst (λ t. BesideThere t x y) (sym q) (beside_reversed m.piece x y (subst (λ t. BesideThere t x y) s given))
        of (by_second p q) (by_second r s) = subst (λ t. BesideThere t x y) (s ∙ sym q) given

    other_line : (e d : ℕ) (line : Piece A) (t : RunAlong K sheet e d line) → Relined K line t.other
    other_line e d line t =
        let r : SeamPoint K sheet folded line t.start t.end [] = seam_together K sheet folded e d line t in
        line_of_seam K sheet folded r.is_seam t.other_image (on_between K t.other.from t.other.to t.start t.end r.point t.start_on_other t.end_on_other (between_is_on K r.between))

    other_joined : {e d h k : ℕ} (line : Piece A) (t : RunAlong K sheet e d line) (b : HasFaces K sheet d h k) → IsJoin b.edge.letter → (o : Ordering) → LiesOn K sheet line o h → HasSides K sheet IsJoin line o (ordering_reverse o) d h k
    other_joined {e} {d} {h} {k} line t b j o lies = of (other_line e d line t) (join_sides K sheet folded b j t.other_face t.other t.other_image) (folded.join_meets d h k b j)
      where
        of : Relined K line t.other → FacesBeside K sheet ordering_reverse t.other h k → MeetThere K sheet b → HasSides K sheet IsJoin line o (ordering_reverse o) d h k
        of r s m =
            let same : flipped r.flip s.first_side ≡ o = one_side m.in_first line (flipped r.flip s.first_side) o (lies_relined K sheet line t.other r s.first_side h s.first_lies) lies in
            record {
              faces = b;
              lettered = j;
              first_side = lies;
              second_side = subst (λ u. LiesOn K sheet line u k) (flipped_reverse r.flip s.first_side ∙ ap ordering_reverse same) (lies_relined K sheet line t.other r (ordering_reverse s.first_side) k s.second_lies);
            }

    other_creased : {e d h k : ℕ} (line : Piece A) (t : RunAlong K sheet e d line) (b : HasFaces K sheet d h k) → IsCrease b.edge.letter → (o : Ordering) → LiesOn K sheet line o h → HasSides K sheet IsCrease line o o d h k
    other_creased {e} {d} {h} {k} line t b j o lies = of (other_line e d line t) (crease_sides K sheet folded b j t.other_face t.other t.other_image) (folded.crease_meets d h k b j)
      where
        of : Relined K line t.other → FacesBeside K sheet (λ u. u) t.other h k → MeetThere K sheet b → HasSides K sheet IsCrease line o o d h k
        of r s m =
            let same : flipped r.flip s.first_side ≡ o = one_side m.in_first line (flipped r.flip s.first_side) o (lies_relined K sheet line t.other r s.first_side h s.first_lies) lies in
            record { faces = b; lettered = j; first_side = lies; second_side = subst (λ u. LiesOn K sheet line u k) same (lies_relined K sheet line t.other r s.first_side k s.second_lies) }

    own_creased : {e f g : ℕ} (a : HasFaces K sheet e f g) (l : IsCrease a.edge.letter) (face : ℕ) (line : Piece A) → IsImage K sheet e face line → (o : Ordering) → LiesOn K sheet line o f → HasSides K sheet IsCrease line o o e f g
    own_creased {e} {f} {g} a l face line i o lies = of (crease_sides K sheet folded a l face line i) (folded.crease_meets e f g a l)
      where
        of : FacesBeside K sheet (λ u. u) line f g → MeetThere K sheet a → HasSides K sheet IsCrease line o o e f g
        of s m = record { faces = a; lettered = l; first_side = lies; second_side = subst (λ u. LiesOn K sheet line u g) (one_side m.in_first line s.first_side o s.first_lies lies) s.second_lies }

    own_joined : {e f g : ℕ} (a : HasFaces K sheet e f g) (l : IsJoin a.edge.letter) (face : ℕ) (line : Piece A) → IsImage K sheet e face line → (o : Ordering) → LiesOn K sheet line o f → HasSides K sheet IsJoin line o (ordering_reverse o) e f g
    own_joined {e} {f} {g} a l face line i o lies = of (join_sides K sheet folded a l face line i) (folded.join_meets e f g a l)
      where
        of : FacesBeside K sheet ordering_reverse line f g → MeetThere K sheet a → HasSides K sheet IsJoin line o (ordering_reverse o) e f g
        of s m = record { faces = a; lettered = l; first_side = lies; second_side = subst (λ u. LiesOn K sheet line u g) (ap ordering_reverse (one_side m.in_first line s.first_side o s.first_lies lies)) s.second_lies }

    module _ (above : ℕ → ℕ → Type 0) where
      -- a crease with faces f and g, and a join with faces h and k
      pub through_edge : {e d f g h k : ℕ} (a : HasFaces K sheet e f g) → IsCrease a.edge.letter → (b : HasFaces K sheet d h k) → IsJoin b.edge.letter
          → ThroughListed K sheet above e d ↔ (RunTogether K sheet e d × (AreBeside K sheet e f h × LiesBetween above h f g ⊎ AreBeside K sheet e f k × LiesBetween above k f g))
      through_edge {e} {d} {f} {g} {h} {k} a l b j = (there, back)
        where
          there : ThroughListed K sheet above e d → RunTogether K sheet e d × (AreBeside K sheet e f h × LiesBetween above h f g ⊎ AreBeside K sheet e f k × LiesBetween above k f g)
          there t = (record { line = t.line; together = t.together }, near (same_faces t.join.faces b))
            where
              f_lies : SameFaces t.first t.second f g → LiesOn K sheet t.line t.on_side f
              f_lies (as_they_are p q) = subst (LiesOn K sheet t.line t.on_side) p t.crease.first_side
              f_lies (crosswise p q) = subst (LiesOn K sheet t.line t.on_side) q t.crease.second_side

              between : SameFaces t.first t.second f g → (x : ℕ) → t.near ≡ x → LiesBetween above x f g
              between (as_they_are p q) x n = subst (λ y. LiesBetween above y f g) n (subst (LiesBetween above t.near f) q (subst (λ y. LiesBetween above t.near y t.second) p t.is_between))
              between (crosswise p q) x n = subst (λ y. LiesBetween above y f g) n (between_either above t.near g f (subst (LiesBetween above t.near g) q (subst (λ y. LiesBetween above t.near y t.second) p t.is_between)))

              beside : (x : ℕ) → t.near ≡ x → AreBeside K sheet e f x
              beside x n = record { face = t.together.face; line = t.line; image = t.together.image; on_side = t.on_side; first = f_lies (same_faces t.crease.faces a); second = subst (LiesOn K sheet t.line t.on_side) n t.join.first_side }

              near : SameFaces t.near t.far h k → AreBeside K sheet e f h × LiesBetween above h f g ⊎ AreBeside K sheet e f k × LiesBetween above k f g
              near (as_they_are p q) = inl (beside h p, between (same_faces t.crease.faces a) h p)
              near (crosswise p q) = inr (beside k p, between (same_faces t.crease.faces a) k p)

          listed : (near far : ℕ) (c : HasFaces K sheet d near far) → IsJoin c.edge.letter → RunTogether K sheet e d → AreBeside K sheet e f near → LiesBetween above near f g → ThroughListed K sheet above e d
          listed near far c i t s n = of (beside_there a (folded.crease_meets e f g a l) t.together.face t.line t.together.image f near s)
            where
              of : BesideThere t.line f near → ThroughListed K sheet above e d
              of u = record {
                line = t.line;
                together = t.together;
                on_side = u.on_side;
                first = f;
                second = g;
                crease = own_creased a l t.together.face t.line t.together.image u.on_side u.first;
                near = near;
                far = far;
                join = other_joined t.line t.together c i u.on_side u.second;
                is_between = n;
              }

          back : RunTogether K sheet e d × (AreBeside K sheet e f h × LiesBetween above h f g ⊎ AreBeside K sheet e f k × LiesBetween above k f g) → ThroughListed K sheet above e d
          back p = elim p.1 [ inl q ↦ listed h k b j p.0 q.0 q.1 | inr q ↦ listed k h (Rattle.layers.proofs.Sides.swapped K sheet b) j p.0 q.0 q.1 ]

      one_between_either : (h k f g : ℕ) → OneBetween above h k f g → OneBetween above k h f g
      one_between_either h k f g (inl p) = inr (p.1, p.0)
      one_between_either h k f g (inr p) = inl (p.1, p.0)

      one_between_turned : (h k f g : ℕ) → OneBetween above h k f g → OneBetween above h k g f
      one_between_turned h k f g (inl p) = inl (between_either above h f g p.0, (λ b. p.1 (between_either above k g f b)))
      one_between_turned h k f g (inr p) = inr ((λ b. p.0 (between_either above h g f b)), between_either above k f g p.1)

      one_between_same : (f g h k x y z w : ℕ) → SameFaces f g x y → SameFaces h k z w → OneBetween above h k f g → OneBetween above z w x y
      one_between_same f g h k x y z w s t o = second t (first s o)
        where
          first : SameFaces f g x y → OneBetween above h k f g → OneBetween above h k x y
          first (as_they_are p q) o = subst (OneBetween above h k x) q (subst (λ i. OneBetween above h k i g) p o)
          first (crosswise p q) o = one_between_turned h k y x (subst (OneBetween above h k y) q (subst (λ i. OneBetween above h k i g) p o))

          second : SameFaces h k z w → OneBetween above h k x y → OneBetween above z w x y
          second (as_they_are p q) o = subst (λ i. OneBetween above z i x y) q (subst (λ i. OneBetween above i k x y) p o)
          second (crosswise p q) o = one_between_either w z x y (subst (λ i. OneBetween above w i x y) q (subst (λ i. OneBetween above i k x y) p o))

      lies_same : (line : Piece A) (o : Ordering) (f g x y : ℕ) → SameFaces f g x y → LiesOn K sheet line o f → LiesOn K sheet line o g → LiesOn K sheet line o x
      lies_same line o f g x y (as_they_are p q) a b = subst (LiesOn K sheet line o) p a
      lies_same line o f g x y (crosswise p q) a b = subst (LiesOn K sheet line o) q b

      -- two creases
      pub creases_cross : {e d f g h k : ℕ} (a : HasFaces K sheet e f g) → IsCrease a.edge.letter → (b : HasFaces K sheet d h k) → IsCrease b.edge.letter
          → CreasesListed K sheet above e d ↔ ((e < d) × RunTogether K sheet e d × AreBeside K sheet e f h × OneBetween above h k f g)
      creases_cross {e} {d} {f} {g} {h} {k} a l b j = (
        (λ t. (
          t.ordered,
          record { line = t.line; together = t.together },
          record {
            face = t.together.face;
            line = t.line;
            image = t.together.image;
            on_side = t.on_side;
            first = lies_same t.line t.on_side t.first t.second f g (same_faces t.crease.faces a) t.crease.first_side t.crease.second_side;
            second = lies_same t.line t.on_side t.other_first t.other_second h k (same_faces t.other_crease.faces b) t.other_crease.first_side t.other_crease.second_side;
          },
          one_between_same t.first t.second t.other_first t.other_second f g h k (same_faces t.crease.faces a) (same_faces t.other_crease.faces b) t.one_between,
        )),
        (λ p. back p.0 p.1 (beside_there a (folded.crease_meets e f g a l) p.1.together.face p.1.line p.1.together.image f h p.2) p.3),
      )
        where
          back : e < d → (t : RunTogether K sheet e d) → BesideThere t.line f h → OneBetween above h k f g → CreasesListed K sheet above e d
          back lt t u o = record {
            ordered = lt;
            line = t.line;
            together = t.together;
            on_side = u.on_side;
            first = f;
            second = g;
            crease = own_creased a l t.together.face t.line t.together.image u.on_side u.first;
            other_first = h;
            other_second = k;
            other_crease = other_creased t.line t.together b j u.on_side u.second;
            one_between = o;
          }

      -- two joins
      pub joins_cross : {e d f g h k : ℕ} (a : HasFaces K sheet e f g) → IsJoin a.edge.letter → (b : HasFaces K sheet d h k) → IsJoin b.edge.letter
          → JoinedListed K sheet above e d ↔ ((e < d) × RunTogether K sheet e d × (AreBeside K sheet e f h × Changes K sheet above f g h k ⊎ AreBeside K sheet e f k × Changes K sheet above f g k h))
      joins_cross {e} {d} {f} {g} {h} {k} a l b j = ((λ t. (t.ordered, record { line = t.line; together = t.together }, there t (same_faces t.join.faces a) (same_faces t.other_join.faces b))), back)
        where
          there : (t : JoinedListed K sheet above e d) → SameFaces t.first t.second f g → SameFaces t.other_first t.other_second h k
              → AreBeside K sheet e f h × Changes K sheet above f g h k ⊎ AreBeside K sheet e f k × Changes K sheet above f g k h
          there t (as_they_are p q) (as_they_are r s) = inl (
            record { face = t.together.face; line = t.line; image = t.together.image; on_side = t.upper_side; first = subst (LiesOn K sheet t.line t.upper_side) p t.join.first_side; second = subst (LiesOn K sheet t.line t.upper_side) r t.other_join.first_side },
            inl (subst (above f) r (subst (λ i. above i t.other_first) p t.changes.0), subst (above k) q (subst (λ i. above i t.second) s t.changes.1)),
          )
          there t (as_they_are p q) (crosswise r s) = inr (
            record { face = t.together.face; line = t.line; image = t.together.image; on_side = t.upper_side; first = subst (LiesOn K sheet t.line t.upper_side) p t.join.first_side; second = subst (LiesOn K sheet t.line t.upper_side) r t.other_join.first_side },
            inl (subst (above f) r (subst (λ i. above i t.other_first) p t.changes.0), subst (above h) q (subst (λ i. above i t.second) s t.changes.1)),
          )
          there t (crosswise p q) (as_they_are r s) = inr (
            record { face = t.together.face; line = t.line; image = t.together.image; on_side = ordering_reverse t.upper_side; first = subst (LiesOn K sheet t.line (ordering_reverse t.upper_side)) q t.join.second_side; second = subst (LiesOn K sheet t.line (ordering_reverse t.upper_side)) s t.other_join.second_side },
            inr (subst (above k) q (subst (λ i. above i t.second) s t.changes.1), subst (above g) r (subst (λ i. above i t.other_first) p t.changes.0)),
          )
          there t (crosswise p q) (crosswise r s) = inl (
            record { face = t.together.face; line = t.line; image = t.together.image; on_side = ordering_reverse t.upper_side; first = subst (LiesOn K sheet t.line (ordering_reverse t.upper_side)) q t.join.second_side; second = subst (LiesOn K sheet t.line (ordering_reverse t.upper_side)) s t.other_join.second_side },
            inr (subst (above h) q (subst (λ i. above i t.second) s t.changes.1), subst (above g) r (subst (λ i. above i t.other_first) p t.changes.0)),
          )

          listed : e < d → (x y : ℕ) (c : HasFaces K sheet d x y) → IsJoin c.edge.letter → (t : RunTogether K sheet e d) → AreBeside K sheet e f x → Changes K sheet above f g x y → JoinedListed K sheet above e d
          listed lt x y c i t s n = of (beside_there a (folded.join_meets e f g a l) t.together.face t.line t.together.image f x s) n
            where
              of : BesideThere t.line f x → Changes K sheet above f g x y → JoinedListed K sheet above e d
              of u (inl n) = record {
                ordered = lt;
                line = t.line;
                together = t.together;
                upper_side = u.on_side;
                first = f;
                second = g;
                join = own_joined a l t.together.face t.line t.together.image u.on_side u.first;
                other_first = x;
                other_second = y;
                other_join = other_joined t.line t.together c i u.on_side u.second;
                changes = n;
              }
              of u (inr n) = record {
                ordered = lt;
                line = t.line;
                together = t.together;
                upper_side = ordering_reverse u.on_side;
                first = g;
                second = f;
                join = turned (own_joined a l t.together.face t.line t.together.image u.on_side u.first);
                other_first = y;
                other_second = x;
                other_join = turned (other_joined t.line t.together c i u.on_side u.second);
                changes = (n.1, n.0);
              }
                where
                  turned : {c v w : ℕ} → HasSides K sheet IsJoin t.line u.on_side (ordering_reverse u.on_side) c v w → HasSides K sheet IsJoin t.line (ordering_reverse u.on_side) (ordering_reverse (ordering_reverse u.on_side)) c w v
                  turned {c} {v} {w} z = record {
                    faces = Rattle.layers.proofs.Sides.swapped K sheet z.faces;
                    lettered = z.lettered;
                    first_side = z.second_side;
                    second_side = subst (λ o. LiesOn K sheet t.line o v) (sym (Rattle.layers.proofs.Signs.reverse_twice u.on_side)) z.first_side;
                  }

          back : (e < d) × RunTogether K sheet e d × (AreBeside K sheet e f h × Changes K sheet above f g h k ⊎ AreBeside K sheet e f k × Changes K sheet above f g k h) → JoinedListed K sheet above e d
          back p = elim p.2 [ inl q ↦ listed p.0 h k b j p.1 q.0 q.1 | inr q ↦ listed p.0 k h (Rattle.layers.proofs.Sides.swapped K sheet b) j p.1 q.0 q.1 ]
