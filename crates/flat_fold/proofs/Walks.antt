-- Walks of faces: how their maps compose, and that all edges agree exactly where every closed walk leaves the faces where
-- they are.
use Rattle.std.proofs.Common.{◌≡◌, ◌∙◌, ap, sym, refl, subst, ℕ, List, [], ◌∷◌, ◌++◌, Bool, true, false, not, if◌then◌else◌, inl, inr}
use Rattle.algebra.specs.OrderedField.{OrderedField}
use Rattle.scaled_plane.specs.declared.point.Pair.{Pair}
use Rattle.flat_fold.specs.declared.motion.Motion.{Motion}
use Rattle.scaled_plane.specs.declared.drawing.Edge.{Edge}
use Rattle.scaled_plane.specs.declared.drawing.Face.{Face}
use Rattle.flat_fold.specs.Motions.{place, identity, composed, reflection}
use Rattle.flat_fold.specs.Faces.{edge_at, Leads, IsWalk, IsBetween}
use Rattle.flat_fold.specs.Folding.{is_crease, point, crossing, walk_map, Closes, Agree}
use Rattle.flat_fold.proofs.MotionLaws.{place-composed, place-identity, identity-composed, composed-identity, composed-assoc, place-reflection_first, place-reflection_second, reflection-twice, agree_on_two}

-- an edge that leads from one face to another leads back
pub leads-back : (edges : List Edge) (faces : List Face) (e f g : ℕ) → Leads edges faces e f g → Leads edges faces e g f
leads-back edges faces e f g l = record { is_edge = l.is_edge; passable = l.passable; between = swapped l.between }
  where
    swapped : IsBetween edges faces (edge_at edges e) f g → IsBetween edges faces (edge_at edges e) g f
    swapped (inl h) = inr (h.1, h.0)
    swapped (inr h) = inl (h.1, h.0)

module _ {A : Type 0} (F : OrderedField A) (coords : List (Pair A)) where
  -- ---- one edge

  -- the map of crossing, by whether the edge is a crease
  abbrev crossing_by : Bool → Edge → Motion A
  crossing_by b edge = (if b then reflection F (point F coords edge.from) (point F coords edge.to) else identity F)

  twice_by : (b : Bool) (edge : Edge) → ¬ (point F coords edge.from ≡ point F coords edge.to) → composed F (crossing_by b edge) (crossing_by b edge) ≡ identity F
  twice_by false edge differ = identity-composed F (identity F)
  twice_by true edge differ = reflection-twice F _ _ differ

  -- to cross an edge twice leaves each point where it is
  pub crossing-twice : (edge : Edge) → ¬ (point F coords edge.from ≡ point F coords edge.to) → composed F (crossing F coords edge) (crossing F coords edge) ≡ identity F
  crossing-twice edge differ = twice_by (is_crease edge.letter) edge differ

  from_by : (b : Bool) (edge : Edge) → ¬ (point F coords edge.from ≡ point F coords edge.to) → place F (crossing_by b edge) (point F coords edge.from) ≡ point F coords edge.from
  from_by false edge differ = place-identity F _
  from_by true edge differ = place-reflection_first F _ _ differ

  to_by : (b : Bool) (edge : Edge) → ¬ (point F coords edge.from ≡ point F coords edge.to) → place F (crossing_by b edge) (point F coords edge.to) ≡ point F coords edge.to
  to_by false edge differ = place-identity F _
  to_by true edge differ = place-reflection_second F _ _ differ

  -- .. which leaves the ends of the edge where they are
  pub place-crossing_from : (edge : Edge) → ¬ (point F coords edge.from ≡ point F coords edge.to) → place F (crossing F coords edge) (point F coords edge.from) ≡ point F coords edge.from
  place-crossing_from edge differ = from_by (is_crease edge.letter) edge differ

  pub place-crossing_to : (edge : Edge) → ¬ (point F coords edge.from ≡ point F coords edge.to) → place F (crossing F coords edge) (point F coords edge.to) ≡ point F coords edge.to
  place-crossing_to edge differ = to_by (is_crease edge.letter) edge differ

  turned_by_crossing : (b t : Bool) (edge : Edge) → (if b then not t else t) ≡ (if t then not (crossing_by b edge).turned else (crossing_by b edge).turned)
  turned_by_crossing false false edge = refl
  turned_by_crossing false true edge = refl
  turned_by_crossing true false edge = refl
  turned_by_crossing true true edge = refl

  -- two maps agree at an edge exactly where the second is the first, composed on the inside by crossing it
  pub agree-crossing : (edge : Edge) → ¬ (point F coords edge.from ≡ point F coords edge.to) → (m n : Motion A) → Agree F coords edge m n → n ≡ composed F m (crossing F coords edge)
  agree-crossing edge differ m n agree =
      agree_on_two F n (composed F m (crossing F coords edge)) (point F coords edge.from) (point F coords edge.to) differ
      (agree.turned ∙ turned_by_crossing (is_crease edge.letter) m.turned edge)
      (sym (place-composed F m (crossing F coords edge) (point F coords edge.from) ∙ ap (place F m) (from_by (is_crease edge.letter) edge differ) ∙ agree.from))
      (sym (place-composed F m (crossing F coords edge) (point F coords edge.to) ∙ ap (place F m) (to_by (is_crease edge.letter) edge differ) ∙ agree.to))

  pub crossing-agrees : (edge : Edge) → ¬ (point F coords edge.from ≡ point F coords edge.to) → (m n : Motion A) → n ≡ composed F m (crossing F coords edge) → Agree F coords edge m n
  crossing-agrees edge differ m n e =
      record {
        from = sym (ap (λ (k : Motion A). place F k (point F coords edge.from)) e ∙ place-composed F m (crossing F coords edge) (point F coords edge.from) ∙ ap (place F m) (from_by (is_crease edge.letter) edge differ));
        to = sym (ap (λ (k : Motion A). place F k (point F coords edge.to)) e ∙ place-composed F m (crossing F coords edge) (point F coords edge.to) ∙ ap (place F m) (to_by (is_crease edge.letter) edge differ));
        turned = ap (λ (k : Motion A). k.turned) e ∙ sym (turned_by_crossing (is_crease edge.letter) m.turned edge);
      }

  -- ---- walks

  module _ (edges : List Edge) (faces : List Face) where
    pub walk-append : (f g h : ℕ) (es ds : List ℕ) → IsWalk edges faces f es g → IsWalk edges faces g ds h → IsWalk edges faces f (es ++ ds) h
    walk-append f g h [] ds w v = subst (λ k. IsWalk edges faces k ds h) (sym w) v
    walk-append f g h (e ∷ es) ds w v = (w.0, w.1, walk-append w.0 g h es ds w.2 v)

    pub map-append : (es ds : List ℕ) → walk_map F coords edges (es ++ ds) ≡ composed F (walk_map F coords edges es) (walk_map F coords edges ds)
    map-append [] ds = sym (identity-composed F (walk_map F coords edges ds))
    map-append (e ∷ es) ds =
        ap (composed F (crossing F coords (edge_at edges e))) (map-append es ds)
        ∙ sym (composed-assoc F (crossing F coords (edge_at edges e)) (walk_map F coords edges es) (walk_map F coords edges ds))

    -- each edge that leads somewhere has two different ends
    module _ (apart : (e f g : ℕ) → Leads edges faces e f g → ¬ (point F coords (edge_at edges e).from ≡ point F coords (edge_at edges e).to)) where
      -- each walk has one back, and both together are the identity
      pub walk-back : (f g : ℕ) (es : List ℕ) → IsWalk edges faces f es g
          → (ds : List ℕ) × IsWalk edges faces g ds f × (composed F (walk_map F coords edges ds) (walk_map F coords edges es) ≡ identity F) × (composed F (walk_map F coords edges es) (walk_map F coords edges ds) ≡ identity F)
      walk-back f g [] w = ([], sym w, identity-composed F (identity F), identity-composed F (identity F))
      walk-back f g (e ∷ es) w =
          let back = walk-back w.0 g es w.2 in
          let ds : List ℕ = back.0 in
          let C : Motion A = crossing F coords (edge_at edges e) in
          let E : Motion A = walk_map F coords edges es in
          let D : Motion A = walk_map F coords edges ds in
          let last : walk_map F coords edges (ds ++ e ∷ []) ≡ composed F D C = map-append ds (e ∷ []) ∙ ap (composed F D) (composed-identity F C) in
          let twice : composed F C C ≡ identity F = crossing-twice (edge_at edges e) (apart e f w.0 w.1) in (
            ds ++ e ∷ [],
            walk-append g w.0 f ds (e ∷ []) back.1 (f, leads-back edges faces e f w.0 w.1, refl),
            ap (λ (k : Motion A). composed F k (composed F C E)) last ∙ composed-assoc F D C (composed F C E)
                ∙ ap (composed F D) (sym (composed-assoc F C C E) ∙ ap (λ (k : Motion A). composed F k E) twice ∙ identity-composed F E) ∙ back.2,
            ap (composed F (composed F C E)) last ∙ composed-assoc F C E (composed F D C)
                ∙ ap (composed F C) (sym (composed-assoc F E D C) ∙ ap (λ (k : Motion A). composed F k C) back.3 ∙ identity-composed F C) ∙ twice,
          )

      -- ---- maps of the faces

      -- where the maps of the faces agree at each edge, they agree along each walk
      pub along-walk : (map : ℕ → Motion A) → ((e f g : ℕ) → Leads edges faces e f g → map g ≡ composed F (map f) (crossing F coords (edge_at edges e)))
          → (f g : ℕ) (es : List ℕ) → IsWalk edges faces f es g → map g ≡ composed F (map f) (walk_map F coords edges es)
      along-walk map agree f g [] w = ap map (sym w) ∙ sym (composed-identity F (map f))
      along-walk map agree f g (e ∷ es) w =
          along-walk map agree w.0 g es w.2 ∙ ap (λ (k : Motion A). composed F k (walk_map F coords edges es)) (agree e f w.0 w.1)
          ∙ composed-assoc F (map f) (crossing F coords (edge_at edges e)) (walk_map F coords edges es)

      -- what follows a walk's map and changes nothing is the identity
      cancel : (f g : ℕ) (es : List ℕ) (k : Motion A) → IsWalk edges faces f es g → walk_map F coords edges es ≡ composed F (walk_map F coords edges es) k → k ≡ identity F
      cancel f g es k w h =
          let back = walk-back f g es w in
          let D : Motion A = walk_map F coords edges back.0 in
          let E : Motion A = walk_map F coords edges es in
          sym (identity-composed F k) ∙ ap (λ (j : Motion A). composed F j k) (sym back.2) ∙ composed-assoc F D E k ∙ ap (composed F D) (sym h) ∙ back.2

      -- walks from face 0 reach each face over which some edge leads
      module _ (reached : (e f g : ℕ) → Leads edges faces e f g → (es : List ℕ) × IsWalk edges faces 0 es f) where
        -- where the maps of the faces agree at each edge, and face 0 stays, every closed walk leaves the faces where they are
        pub closes-from_agree : (map : ℕ → Motion A) → map 0 ≡ identity F
            → ((e f g : ℕ) → Leads edges faces e f g → map g ≡ composed F (map f) (crossing F coords (edge_at edges e)))
            → Closes F coords edges faces
        closes-from_agree map start agree f [] w = refl
        closes-from_agree map start agree f (e ∷ es) w =
            let to_f = reached e f w.0 w.1 in
            let E : Motion A = walk_map F coords edges to_f.0 in
            let here : map f ≡ E = along-walk map agree 0 f to_f.0 to_f.1 ∙ ap (λ (k : Motion A). composed F k E) start ∙ identity-composed F E in
            let round : map f ≡ composed F (map f) (walk_map F coords edges (e ∷ es)) = along-walk map agree f f (e ∷ es) w in
            cancel 0 f to_f.0 (walk_map F coords edges (e ∷ es)) to_f.1
            (sym here ∙ round ∙ ap (λ (k : Motion A). composed F k (walk_map F coords edges (e ∷ es))) here)

      -- where every closed walk leaves the faces where they are, two walks to one face have one map
      pub one-map : Closes F coords edges faces → (f g : ℕ) (es ds : List ℕ) → IsWalk edges faces f es g → IsWalk edges faces f ds g → walk_map F coords edges es ≡ walk_map F coords edges ds
      one-map closes f g es ds w v =
          let back = walk-back f g ds v in
          let B : Motion A = walk_map F coords edges back.0 in
          let E : Motion A = walk_map F coords edges es in
          let D : Motion A = walk_map F coords edges ds in
          let round : composed F E B ≡ identity F = sym (map-append es back.0) ∙ closes f (es ++ back.0) (walk-append f g f es back.0 w back.1) in
          sym (composed-identity F E) ∙ ap (composed F E) (sym back.2) ∙ sym (composed-assoc F E B D) ∙ ap (λ (k : Motion A). composed F k D) round ∙ identity-composed F D

      -- and the maps of walks from face 0 agree at each edge
      pub agree-from_closes : Closes F coords edges faces → (map : ℕ → Motion A)
          → (e f g : ℕ) (es ds : List ℕ) → Leads edges faces e f g → IsWalk edges faces 0 es f → map f ≡ walk_map F coords edges es → IsWalk edges faces 0 ds g → map g ≡ walk_map F coords edges ds
          → map g ≡ composed F (map f) (crossing F coords (edge_at edges e))
      agree-from_closes closes map e f g es ds l w is_f v is_g =
          let longer : walk_map F coords edges (es ++ e ∷ []) ≡ composed F (walk_map F coords edges es) (crossing F coords (edge_at edges e))
          = map-append es (e ∷ []) ∙ ap (composed F (walk_map F coords edges es)) (composed-identity F (crossing F coords (edge_at edges e))) in
          is_g ∙ one-map closes 0 g ds (es ++ e ∷ []) v (walk-append 0 f g es (e ∷ []) w (g, l, refl)) ∙ longer
          ∙ ap (λ (k : Motion A). composed F k (crossing F coords (edge_at edges e))) (sym is_f)
