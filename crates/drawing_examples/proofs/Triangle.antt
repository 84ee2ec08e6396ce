-- A triangle with its one face is a sheet.
use mathlib.Core.Path.{◌≡◌, refl, sym, ap, subst, subst₂, ◌∙◌}
use mathlib.Core.Bool.{Bool, true}
use mathlib.Core.List.{List, [], ◌∷◌, ◌++◌}
use mathlib.Core.Logic.{◌⊎◌, inl, inr}
use Prim.Native.Nat.{ℕ, zero, suc, ◌<◌}
use Rattle.std.proofs.Common.{arith}
use Rattle.std.proofs.lemmas.Bool.Decides.{Decides-eqb}
use Rattle.std.proofs.lemmas.List.{append-nil, append_assoc}
use Rattle.std.specs.Prelude.{◌&&◌, not, Contains, Some, length, nat_eq, slice_get, slice_index_or}
use Rattle.std.specs.declared.cmp.Ordering.TheVariants.{Less}
use Rattle.fold_base.specs.declared.letter.Letter.TheVariants.{Border}
use Rattle.algebra.proofs.Integers.{integers}
use Rattle.plane.specs.Lines.{side}
use Rattle.plane.specs.Points.{origin}
use Rattle.plane.specs.Segments.{MeetInEnds}
use Rattle.plane.proofs.Members.{in_cons, in_head, in_tail, in_nil}
use Rattle.scaled_plane.specs.declared.drawing.Edge.{Edge}
use Rattle.scaled_plane.specs.declared.drawing.Face.{Face}
use Rattle.scaled_plane.specs.declared.sheet.SheetFlaw.TheVariants.{SameVertex, Loose, NotPlane, Parted, EmptySheet, FaceWrong, FaceMissing, NotConvex, BorderWrong, Pinched, Severed}
use Rattle.scaled_plane.specs.Lists.{IsRotation, begun}
use Rattle.scaled_plane.specs.Pieces.{point_at}
use Rattle.scaled_plane.specs.Sheets.{HasFace, HasOneFace, HasSide, IsBentAt, IsSheet}
use Rattle.scaled_plane.specs.Walks.{IsDirectedPiece, IsFaceWalk, IsOuterWalk, IsWalk, pieces_on_to, pieces_round}
use Rattle.regions.specs.Faces.{IsOfWalk}
use Rattle.regions.specs.Triangle.{corners, side_of, sides}
use Rattle.regions.proofs.Rotations.{of_rotated, one_least, one_walk_round, rotated_back}
use Rattle.regions.proofs.Triangle.{triangle_connected, triangle_plane}
use Rattle.drawing_examples.specs.Examples.{face}
use Rattle.drawing_examples.proofs.Cutting.{not_is}
use Rattle.drawing_examples.proofs.Lists.{and_first, and_second, every, every_of}
use Rattle.drawing_examples.proofs.Walking.{face_is, outer_is}

abbrev pub round : List ℕ
round = 0 ∷ 1 ∷ 2 ∷ []

abbrev outside : List ℕ
outside = 0 ∷ 2 ∷ 1 ∷ []

abbrev pub faces : List Face
faces = face round ∷ []

-- ---- its walks

round_walk : IsFaceWalk integers corners sides round
round_walk = face_is integers corners sides round 2 (omega arith) refl refl refl

outside_walk : IsOuterWalk integers corners sides outside
outside_walk = outer_is integers corners sides outside 0 2 refl refl refl (in_head (0, 2) ((2, 1) ∷ (1, 0) ∷ []))

second_in : {X : Type 0} (a b : X) (rest : List X) → Contains (a ∷ b ∷ rest) b
second_in a b rest = in_tail a (b ∷ rest) b (in_head b rest)

third_in : {X : Type 0} (a b c : X) (rest : List X) → Contains (a ∷ b ∷ c ∷ rest) c
third_in a b c rest = in_tail a (b ∷ c ∷ rest) c (second_in b c rest)

either_walk : (u v : ℕ) → IsDirectedPiece sides u v → IsOfWalk round u v ⊎ IsOfWalk outside u v
either_walk u v piece = of_edge piece.0 piece.1 piece.2
  where
    there : (e : Edge) → e ≡ side_of 0 1 → ((e.from ≡ u) × (e.to ≡ v)) ⊎ ((e.from ≡ v) × (e.to ≡ u)) → IsOfWalk round u v ⊎ IsOfWalk outside u v
    there e s (inl h) = inl (subst₂ (λ x y. IsOfWalk round x y) (sym (ap (λ f. f.from) s) ∙ h.0) (sym (ap (λ f. f.to) s) ∙ h.1) (in_head (0, 1) ((1, 2) ∷ (2, 0) ∷ [])))
    there e s (inr h) = inr (subst₂ (λ x y. IsOfWalk outside y x) (sym (ap (λ f. f.from) s) ∙ h.0) (sym (ap (λ f. f.to) s) ∙ h.1) (third_in (0, 2) (2, 1) (1, 0) []))

    over : (e : Edge) → e ≡ side_of 1 2 → ((e.from ≡ u) × (e.to ≡ v)) ⊎ ((e.from ≡ v) × (e.to ≡ u)) → IsOfWalk round u v ⊎ IsOfWalk outside u v
    over e s (inl h) = inl (subst₂ (λ x y. IsOfWalk round x y) (sym (ap (λ f. f.from) s) ∙ h.0) (sym (ap (λ f. f.to) s) ∙ h.1) (second_in (0, 1) (1, 2) ((2, 0) ∷ [])))
    over e s (inr h) = inr (subst₂ (λ x y. IsOfWalk outside y x) (sym (ap (λ f. f.from) s) ∙ h.0) (sym (ap (λ f. f.to) s) ∙ h.1) (second_in (0, 2) (2, 1) ((1, 0) ∷ [])))

    down : (e : Edge) → e ≡ side_of 2 0 → ((e.from ≡ u) × (e.to ≡ v)) ⊎ ((e.from ≡ v) × (e.to ≡ u)) → IsOfWalk round u v ⊎ IsOfWalk outside u v
    down e s (inl h) = inl (subst₂ (λ x y. IsOfWalk round x y) (sym (ap (λ f. f.from) s) ∙ h.0) (sym (ap (λ f. f.to) s) ∙ h.1) (third_in (0, 1) (1, 2) (2, 0) []))
    down e s (inr h) = inr (subst₂ (λ x y. IsOfWalk outside y x) (sym (ap (λ f. f.from) s) ∙ h.0) (sym (ap (λ f. f.to) s) ∙ h.1) (in_head (0, 2) ((2, 1) ∷ (1, 0) ∷ [])))

    of_edge : (e : Edge) → Contains sides e → ((e.from ≡ u) × (e.to ≡ v)) ⊎ ((e.from ≡ v) × (e.to ≡ u)) → IsOfWalk round u v ⊎ IsOfWalk outside u v
    of_edge e i h = elim (in_cons (side_of 0 1) (side_of 1 2 ∷ side_of 2 0 ∷ []) e i) [
      | inl s ↦ there e (sym s) h
      | inr j ↦ elim (in_cons (side_of 1 2) (side_of 2 0 ∷ []) e j) [
        | inl s ↦ over e (sym s) h
        | inr k ↦ elim (in_cons (side_of 2 0) [] e k) [ inl s ↦ down e (sym s) h | inr m ↦ absurd (in_nil e m) ]
      ]
    ]

-- a walk has a piece
some_piece : (xs : List ℕ) → IsWalk integers corners sides xs → (u v : ℕ) × IsOfWalk xs u v × IsDirectedPiece sides u v
some_piece [] h = absurd h.follow
some_piece (u ∷ []) h = (u, u, in_head (u, u) [], h.follow.0.1.piece)
some_piece (u ∷ v ∷ []) h = (u, v, in_head (u, v) ((v, u) ∷ []), h.follow.0.1.piece)
some_piece (u ∷ v ∷ w ∷ rest) h = (u, v, in_head (u, v) (pieces_on_to u (v ∷ w ∷ rest)), h.follow.0.1.piece)

only_round : (xs : List ℕ) → IsFaceWalk integers corners sides xs → xs ≡ round
only_round xs h =
    let p : (u v : ℕ) × IsOfWalk xs u v × IsDirectedPiece sides u v = some_piece xs h.walk in
    elim (either_walk p.0 p.1 p.3) [
      | inl i ↦ one_least xs round h.least round_walk.least (one_walk_round integers corners sides xs round h.walk round_walk.walk p.0 p.1 p.2 i)
      | inr i ↦ absurd (h.inner (
        outside_walk.outer.0,
        outside_walk.outer.1,
        outside_walk.outer.2,
        of_rotated integers corners sides outside xs (one_walk_round integers corners sides outside xs outside_walk.walk h.walk p.0 p.1 i p.2)
            outside_walk.outer.0 outside_walk.outer.1 outside_walk.outer.3,
      ))
    ]

only_outside : (xs : List ℕ) → IsOuterWalk integers corners sides xs → xs ≡ outside
only_outside xs h =
    elim (either_walk h.outer.0 h.outer.1 h.outer.2.first.neighbour) [
      | inl i ↦ absurd (round_walk.inner (h.outer.0, h.outer.1, h.outer.2, i))
      | inr i ↦ one_least xs outside h.least outside_walk.least (one_walk_round integers corners sides xs outside h.walk outside_walk.walk h.outer.0 h.outer.1 h.outer.3 i)
    ]

-- ---- no vertex twice

abbrev different : List ℕ → Bool
different [] = true
different (x ∷ xs) = every (λ y. not (nat_eq x y)) xs && different xs

once_only : (xs : List ℕ) → different xs ≡ true → (a rest : List ℕ) (v : ℕ) → xs ≡ a ++ v ∷ rest → ¬ Contains rest v
once_only [] h [] rest v e i = absurd (cc)
once_only [] h (z ∷ a) rest v e i = absurd (cc)
once_only (x ∷ xs) h [] rest v e i =
    let head : x ≡ v = cc in
    let tail : xs ≡ rest = cc in
    not_is (nat_eq x v) (every_of (λ y. not (nat_eq x y)) xs (and_first (every (λ y. not (nat_eq x y)) xs) (different xs) h) v (subst (λ ys. Contains ys v) (sym tail) i)) ((Decides-eqb x v).1 head)
once_only (x ∷ xs) h (z ∷ a) rest v e i =
    let tail : xs ≡ a ++ v ∷ rest = cc in
    once_only xs (and_second (every (λ y. not (nat_eq x y)) xs) (different xs) h) a rest v tail i

in_middle : {X : Type 0} (xs : List X) (x : X) (ys : List X) → Contains (xs ++ x ∷ ys) x
in_middle [] x ys = in_head x ys
in_middle (z ∷ xs) x ys = in_tail z (xs ++ x ∷ ys) x (in_middle xs x ys)

-- ---- its face and edges

only_face : (f : ℕ) (xs : List ℕ) → HasFace faces f xs → (f ≡ 0) × (xs ≡ round)
only_face zero xs h = let same : face round ≡ h.0 = cc in (refl, sym h.2 ∙ ap (λ g. g.corners) (sym same))
only_face (suc f) xs h = let none = h.1 in absurd (cc)

has_round : HasFace faces 0 round
has_round = (face round, refl, refl)

rotated : (xs : List ℕ) → xs ≡ round → IsRotation round xs
rotated xs e = ([], round, refl, e ∙ sym (append-nil round))

got : {X : Type 0} (xs : List X) (k : ℕ) (x d : X) → slice_get xs k ≡ Some x → (k < length xs) × (slice_index_or xs k d ≡ x) × Contains xs x
got [] k x d h = absurd (cc)
got (y ∷ xs) zero x d h = let same : y ≡ x = cc in (omega arith, same, subst (Contains (y ∷ xs)) same (in_head y xs))
got (y ∷ xs) (suc k) x d h = let r = got xs k x d h in (omega (arith, r.0), r.1, in_tail y xs x r.2)

has_one_face : (e : Edge) → Contains sides e → HasOneFace faces e
has_one_face e i = (0, has_side e i, λ g h. (only_face g h.0 h.1).0)
  where
    has_side : (e : Edge) → Contains sides e → HasSide faces 0 e
    has_side e i = (
      round,
      has_round,
      inl (elim (in_cons (side_of 0 1) (side_of 1 2 ∷ side_of 2 0 ∷ []) e i) [
        | inl s ↦ subst (λ (f : Edge). Contains (pieces_round round) (f.from, f.to)) s (in_head (0, 1) ((1, 2) ∷ (2, 0) ∷ []))
        | inr j ↦ elim (in_cons (side_of 1 2) (side_of 2 0 ∷ []) e j) [
          | inl s ↦ subst (λ (f : Edge). Contains (pieces_round round) (f.from, f.to)) s (second_in (0, 1) (1, 2) ((2, 0) ∷ []))
          | inr k ↦ elim (in_cons (side_of 2 0) [] e k) [
            | inl s ↦ subst (λ (f : Edge). Contains (pieces_round round) (f.from, f.to)) s (third_in (0, 1) (1, 2) (2, 0) [])
            | inr m ↦ absurd (in_nil e m)
          ]
        ]
      ]),
    )

all_borders : (e : Edge) → Contains sides e → e.letter ≡ Border
all_borders e i = elim (in_cons (side_of 0 1) (side_of 1 2 ∷ side_of 2 0 ∷ []) e i) [
  | inl s ↦ sym (ap (λ f. f.letter) s)
  | inr j ↦ elim (in_cons (side_of 1 2) (side_of 2 0 ∷ []) e j) [
    | inl s ↦ sym (ap (λ f. f.letter) s)
    | inr k ↦ elim (in_cons (side_of 2 0) [] e k) [ inl s ↦ sym (ap (λ f. f.letter) s) | inr m ↦ absurd (in_nil e m) ]
  ]
]

-- ---- not bent

abbrev turns : ℕ → ℕ → ℕ → Type 0
turns b c z = side integers (point_at integers corners b) (point_at integers corners c) (point_at integers corners z) ≡ Less

left_of : (b c : ℕ) → ¬ turns b c 0 → ¬ turns b c 1 → ¬ turns b c 2 → (z : ℕ) → Contains round z → ¬ turns b c z
left_of b c h0 h1 h2 z i t = elim (in_cons 0 (1 ∷ 2 ∷ []) z i) [
  | inl s ↦ h0 (subst (turns b c) (sym s) t)
  | inr j ↦ elim (in_cons 1 (2 ∷ []) z j) [
    | inl s ↦ h1 (subst (turns b c) (sym s) t)
    | inr k ↦ elim (in_cons 2 [] z k) [ inl s ↦ h2 (subst (turns b c) (sym s) t) | inr m ↦ absurd (in_nil z m) ]
  ]
]

last_is : (others : List ℕ) (x y b : ℕ) → x ∷ y ∷ [] ≡ others ++ b ∷ [] → b ≡ y
last_is [] x y b e = absurd (cc)
last_is (z ∷ []) x y b e = cc
last_is (z ∷ w ∷ []) x y b e = absurd (cc)
last_is (z ∷ w ∷ v ∷ others) x y b e = absurd (cc)

not_bent : (before after : List ℕ) (c : ℕ) → ¬ IsBentAt integers corners round before c after
not_bent before after c h = at before after c h.is h
  where
    refuted : (b c x y : ℕ) (before after : List ℕ) → after ++ before ≡ x ∷ y ∷ [] → ¬ (y ≡ x) → ¬ turns y c 0 → ¬ turns y c 1 → ¬ turns y c 2
        → ¬ IsBentAt integers corners round before c after
    refuted b c x y before after e apart h0 h1 h2 h =
        let last : h.b ≡ y = last_is h.others x y h.b (sym e ∙ h.ends_in_b) in
        let both : x ∷ y ∷ [] ≡ h.d ∷ h.to_d = sym e ∙ h.begins_with_d in
        let first : h.d ≡ x = cc in
        elim h.bent [
          | inl same ↦ apart (sym last ∙ same ∙ first)
          | inr right ↦ left_of y c h0 h1 h2 right.0 right.1 (subst (λ b. turns b c right.0) last right.2)
        ]

    at : (before after : List ℕ) (c : ℕ) → round ≡ before ++ c ∷ after → ¬ IsBentAt integers corners round before c after
    at [] after c e =
        let first : 0 ≡ c = cc in
        let rest : 1 ∷ 2 ∷ [] ≡ after = cc in
        subst₂ (λ c after. ¬ IsBentAt integers corners round [] c after) first rest (refuted 2 0 1 2 [] (1 ∷ 2 ∷ []) refl (λ s. absurd (cc)) (λ t. absurd (cc)) (λ t. absurd (cc)) (λ t. absurd (cc)))
    at (x ∷ []) after c e =
        let before : 0 ≡ x = cc in
        let second : 1 ≡ c = cc in
        let rest : 2 ∷ [] ≡ after = cc in
        subst (λ x. ¬ IsBentAt integers corners round (x ∷ []) c after) before
        (subst₂ (λ c after. ¬ IsBentAt integers corners round (0 ∷ []) c after) second rest (refuted 0 1 2 0 (0 ∷ []) (2 ∷ []) refl (λ s. absurd (cc)) (λ t. absurd (cc)) (λ t. absurd (cc)) (λ t. absurd (cc))))
    at (x ∷ y ∷ []) after c e =
        let first : 0 ≡ x = cc in
        let second : 1 ≡ y = cc in
        let third : 2 ≡ c = cc in
        let rest : [] ≡ after = cc in
        subst₂ (λ x y. ¬ IsBentAt integers corners round (x ∷ y ∷ []) c after) first second
        (subst₂ (λ c after. ¬ IsBentAt integers corners round (0 ∷ 1 ∷ []) c after) third rest (refuted 1 2 0 1 (0 ∷ 1 ∷ []) [] refl (λ s. absurd (cc)) (λ t. absurd (cc)) (λ t. absurd (cc)) (λ t. absurd (cc))))
    at (x ∷ y ∷ z ∷ []) after c e = absurd (cc)
    at (x ∷ y ∷ z ∷ w ∷ before) after c e = absurd (cc)

-- ---- the whole

pub triangle_sheet : IsSheet integers corners sides faces
triangle_sheet (SameVertex low high) h = triangle_plane.different low high (origin integers.ops) h.0 h.1 h.2
triangle_sheet (Loose v) h = let u : (e : Edge) × Contains sides e × _ = triangle_plane.used v h.0 in h.1 u.0 u.1 u.2
triangle_sheet (NotPlane low high) h = elim h.4 [
  | inl same ↦ (triangle_plane.ends h.0 (got sides low h.0 (side_of 0 0) h.2).2).2 same.1
  | inr apart ↦
      let e = got sides low h.0 (side_of 0 0) h.2 in
      let f = got sides high h.1 (side_of 0 0) h.3 in
      let p = apart.1.0 in
      apart.1.2 (subst₂ (λ e f. MeetInEnds integers (point_at integers corners e.from) (point_at integers corners e.to) (point_at integers corners f.from) (point_at integers corners f.to))
      e.1 f.1 (triangle_plane.apart low high (side_of 0 0) apart.0 f.0) p apart.1.1.0 apart.1.1.1 apart.1.1.2)
]
triangle_sheet (Parted v) h = h.1 (triangle_connected v h.0)
triangle_sheet EmptySheet h = h round round_walk
triangle_sheet (FaceWrong f) h =
    let only = only_face f h.0 h.1 in
    elim h.2 [
      | inl none ↦ none round round_walk (rotated_back round h.0 (rotated h.0 only.1))
      | inr earlier ↦ let below = earlier.1 in omega (arith, below, only.0)
    ]
triangle_sheet (FaceMissing u v) h = h.2 0 round has_round (rotated (u ∷ v ∷ h.0) (only_round (u ∷ v ∷ h.0) h.1))
triangle_sheet (NotConvex f v) h =
    let only = only_face f h.0 h.1 in
    not_bent h.2.0 h.2.1 v (subst (λ xs. IsBentAt integers corners xs h.2.0 v h.2.1) only.1 h.2.2)
triangle_sheet (BorderWrong n) h =
    let e = got sides n h.0 (side_of 0 0) h.1 in
    elim h.2 [ inl wrong ↦ wrong.1 (has_one_face h.0 e.2) | inr wrong ↦ wrong.0 (all_borders h.0 e.2) ]
triangle_sheet (Pinched v) h =
    once_only outside refl h.0 (h.1 ++ v ∷ h.2) v (sym (only_outside ((h.0 ++ v ∷ h.1) ++ v ∷ h.2) h.3) ∙ append_assoc h.0 (v ∷ h.1) (v ∷ h.2)) (in_middle h.1 v h.2)
triangle_sheet (Severed zero) h = h.1 begun
triangle_sheet (Severed (suc f)) h = let below = h.0 in omega (arith, below)
