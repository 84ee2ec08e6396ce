-- The sheet closes exactly where no edge disagrees, and then each walk to a face gives its path map.
use Rattle.std.proofs.Common.{◌≡◌, ◌∙◌, ap, sym, refl, subst, ℕ, List, [], ◌∷◌, ◌++◌, ◌<◌, length, Bool, true, false, not, if◌then◌else◌, inl, inr, ◌⊎◌, ◌↔◌, ◌≤◌, arith, pos, negsuc}
use Rattle.std.specs.Prelude.{slice_index_or}
use Rattle.std.specs.List.{Contains}
use Rattle.std.proofs.lemmas.List.{get_or_past}
use Rattle.std.proofs.lemmas.Bool.{cases_lt}
use Rattle.algebra.proofs.Solvers.{ring_from, multiple, no_equation, reads}
use Rattle.std.specs.declared.cmp.Ordering.{Ordering}
use Rattle.std.specs.declared.cmp.Ordering.TheVariants.{Less, Equal, Greater}
use Rattle.algebra.specs.OrderedField.{OrderedField}
use Rattle.scaled_plane.specs.declared.point.Pair.{Pair}
use Rattle.flat_fold.specs.declared.motion.Motion.{Motion}
use Rattle.scaled_plane.specs.declared.drawing.Edge.{Edge}
use Rattle.scaled_plane.specs.declared.drawing.Face.{Face}
use Rattle.scaled_plane.specs.Walks.{pieces_round}
use Rattle.flat_fold.specs.Computed.{Computed, ComputedField}
use Rattle.flat_fold.specs.Motions.{place, composed}
use Rattle.flat_fold.specs.Faces.{edge_at, LiesAlong, IsBetween, Leads, IsWalk}
use Rattle.flat_fold.specs.Folding.{is_crease, point, walk_map, Closes, Agree, IsPathMap, Disagrees, IsFoldable, GoesRound, crossing}
use Rattle.flat_fold.proofs.MotionLaws.{no_difference, pair_is, place-identity, place-composed}
use Rattle.flat_fold.proofs.Walks.{walk-append, map-append, place-crossing_from, place-crossing_to}
use Rattle.flat_fold.proofs.PathMaps.{closes-exactly, no-disagreement, walk-path, path-walk}

-- a face that lies along a piece is one of the faces
pub in_range : (edges : List Edge) (faces : List Face) (f u v : ℕ) → LiesAlong edges faces f u v → f < length faces
in_range edges faces f u v h = elim (cases_lt f (length faces)) [ inl less ↦ less | inr more ↦ absurd (past more) ]
  where
    past : length faces ≤ f → ⊥
    past more =
        let none : slice_index_or faces f (record { corners = [] }) ≡ record { corners = [] } = get_or_past faces f (record { corners = [] }) more in
        let empty : LiesAlong edges faces f u v → Contains (pieces_round []) (u, v) = subst (λ (w : Face). Contains (pieces_round w.corners) (u, v)) none in
        let short : (empty h).0 < length {A = ℕ × ℕ} [] = (empty h).1 in
        omega arith

module _ (edges : List Edge) (faces : List Face) where
  pub leads-in_range : (e f g : ℕ) → Leads edges faces e f g → f < length faces
  leads-in_range e f g l = at l.between
    where
      at : IsBetween edges faces (edge_at edges e) f g → f < length faces
      at (inl h) = in_range edges faces f (edge_at edges e).from (edge_at edges e).to h.0
      at (inr h) = in_range edges faces f (edge_at edges e).to (edge_at edges e).from h.0

  -- an edge leads into a face from one face alone
  pub one-side : ((u v f g : ℕ) → LiesAlong edges faces f u v → LiesAlong edges faces g u v → f ≡ g) → (e f g h : ℕ) → Leads edges faces e f h → Leads edges faces e g h → f ≡ g
  one-side one e f g h l k = at l.between k.between
    where
      a : ℕ
      a = (edge_at edges e).from

      b : ℕ
      b = (edge_at edges e).to

      at : IsBetween edges faces (edge_at edges e) f h → IsBetween edges faces (edge_at edges e) g h → f ≡ g
      at (inl x) (inl y) = one (edge_at edges e).from (edge_at edges e).to f g x.0 y.0
      at (inr x) (inr y) = one (edge_at edges e).to (edge_at edges e).from f g x.0 y.0
      at (inl x) (inr y) = one (edge_at edges e).from (edge_at edges e).to f h x.0 y.1 ∙ sym (one (edge_at edges e).to (edge_at edges e).from g h y.0 x.1)
      at (inr x) (inl y) = one (edge_at edges e).to (edge_at edges e).from f h x.0 y.1 ∙ sym (one (edge_at edges e).from (edge_at edges e).to g h y.0 x.1)

module _ {A : Type 0} (F : OrderedField A) where
  no_sign_of_same : (a b : A) → a ≡ b → F.sign (F.sub b a) ≡ Equal
  no_sign_of_same a b e =
      let zero : F.sub b a ≡ F.int (pos 0) = ring_from F.ring (a ∷ b ∷ []) (multiple (F.int (negsuc 0)) (search reads depth 40 fits 50000) (search reads depth 40 fits 50000) (search reads depth 40 fits 50000) e no_equation) (search reads depth 40 fits 50000) (search reads depth 40 fits 50000) tt in
      ap F.sign zero ∙ F.sign_int (pos 0)

  pub same_or_not : (a b : A) (o : Ordering) → F.sign (F.sub b a) ≡ o → (a ≡ b) ⊎ ¬ (a ≡ b)
  same_or_not a b Equal h = inl (no_difference F a b h)
  same_or_not a b Less h = inr (λ e. let zero : F.sign (F.sub b a) ≡ Equal = no_sign_of_same a b e in cc)
  same_or_not a b Greater h = inr (λ e. let zero : F.sign (F.sub b a) ≡ Equal = no_sign_of_same a b e in cc)

  same_pair_or_not : (a b : Pair A) → (a ≡ b) ⊎ ¬ (a ≡ b)
  same_pair_or_not a b = at (same_or_not a.x b.x _ refl) (same_or_not a.y b.y _ refl)
    where
      at : (a.x ≡ b.x) ⊎ ¬ (a.x ≡ b.x) → (a.y ≡ b.y) ⊎ ¬ (a.y ≡ b.y) → (a ≡ b) ⊎ ¬ (a ≡ b)
      at (inl x) (inl y) = inl (pair_is F a b x y)
      at (inr x) y = inr (λ e. x (ap (λ (w : Pair A). w.x) e))
      at (inl x) (inr y) = inr (λ e. y (ap (λ (w : Pair A). w.y) e))

  pub same_turn_or_not : (t u : Bool) → (t ≡ u) ⊎ ¬ (t ≡ u)
  same_turn_or_not false false = inl refl
  same_turn_or_not true true = inl refl
  same_turn_or_not false true = inr (λ e. cc)
  same_turn_or_not true false = inr (λ e. cc)

  -- two maps agree at an edge, or they don't
  pub agree-or_not : (coords : List (Pair A)) (edge : Edge) (m n : Motion A) → Agree F coords edge m n ⊎ ¬ Agree F coords edge m n
  agree-or_not coords edge m n =
      at (same_pair_or_not (place F m (point F coords edge.from)) (place F n (point F coords edge.from))) (same_pair_or_not (place F m (point F coords edge.to)) (place F n (point F coords edge.to)))
      (same_turn_or_not n.turned (if is_crease edge.letter then not m.turned else m.turned))
    where
      at : (place F m (point F coords edge.from) ≡ place F n (point F coords edge.from)) ⊎ ¬ (place F m (point F coords edge.from) ≡ place F n (point F coords edge.from))
          → (place F m (point F coords edge.to) ≡ place F n (point F coords edge.to)) ⊎ ¬ (place F m (point F coords edge.to) ≡ place F n (point F coords edge.to))
          → (n.turned ≡ (if is_crease edge.letter then not m.turned else m.turned)) ⊎ ¬ (n.turned ≡ (if is_crease edge.letter then not m.turned else m.turned))
          → Agree F coords edge m n ⊎ ¬ Agree F coords edge m n
      at (inl x) (inl y) (inl t) = inl (record { from = x; to = y; turned = t })
      at (inr x) y t = inr (λ a. x a.from)
      at (inl x) (inr y) t = inr (λ a. y a.to)
      at (inl x) (inl y) (inr t) = inr (λ a. t a.turned)

module _ {A : Type 0} (K : ComputedField A) (coords : List (Pair A)) (edges : List Edge) (faces : List Face) (foldable : IsFoldable K.field coords edges faces) where
  -- a sheet whose faces have path maps closes exactly where none of its edges disagrees
  pub closes-iff : (path : ℕ → Computed (Motion A)) → ((f : ℕ) → f < length faces → IsPathMap K coords edges faces f (path f))
      → Closes K.field coords edges faces ↔ ((e : ℕ) → ¬ Disagrees K coords edges faces e)
  closes-iff path is_path = (
    no-disagreement K coords edges faces foldable.apart,
    λ none. closes-exactly K coords edges faces foldable.apart path (is_path 0 foldable.some_face) (λ e f g l. is_path f (leads-in_range edges faces e f g l)) (one-side edges faces foldable.one_face) none
        (λ m n e d. elim (agree-or_not K.field coords (edge_at edges e) m n) [ inl a ↦ a | inr b ↦ absurd (d b) ]),
  )

  -- .. and then every walk from face 0 to a face gives its path map
  pub closed-walks : Closes K.field coords edges faces → (f : ℕ) (m : Computed (Motion A)) (es : List ℕ) → IsPathMap K coords edges faces f m → IsWalk edges faces 0 es f → walk_map K.field coords edges es ≡ m.value
  closed-walks = walk-path K coords edges faces foldable.apart

  -- crossing edges at a vertex leaves it where it is
  around : (v f g : ℕ) (es : List ℕ) → IsWalk edges faces f es g → GoesRound K.field coords edges faces v es → place K.field (walk_map K.field coords edges es) (point K.field coords v) ≡ point K.field coords v
  around v f g [] w round = place-identity K.field (point K.field coords v)
  around v f g (e ∷ es) w round =
      place-composed K.field (crossing K.field coords (edge_at edges e)) (walk_map K.field coords edges es) (point K.field coords v)
      ∙ ap (place K.field (crossing K.field coords (edge_at edges e))) (around v w.0 g es w.2 round.1)
      ∙ elim round.0 [
        | inl is_from ↦ subst (λ (u : ℕ). place K.field (crossing K.field coords (edge_at edges e)) (point K.field coords u) ≡ point K.field coords u) is_from (place-crossing_from K.field coords (edge_at edges e) (foldable.apart e f w.0 w.1))
        | inr is_to ↦ subst (λ (u : ℕ). place K.field (crossing K.field coords (edge_at edges e)) (point K.field coords u) ≡ point K.field coords u) is_to (place-crossing_to K.field coords (edge_at edges e) (foldable.apart e f w.0 w.1))
      ]

  -- the faces of a vertex that follow each other round it place it alike, where the sheet closes
  pub faces-alike : Closes K.field coords edges faces → (v f g : ℕ) (es : List ℕ) (m n : Computed (Motion A)) → IsWalk edges faces f es g → GoesRound K.field coords edges faces v es
      → IsPathMap K coords edges faces f m → IsPathMap K coords edges faces g n → place K.field m.value (point K.field coords v) ≡ place K.field n.value (point K.field coords v)
  faces-alike closes v f g es m n w round is_m is_n =
      let to_f = path-walk K coords edges faces is_m in
      let M : Motion A = walk_map K.field coords edges to_f.0 in
      let E : Motion A = walk_map K.field coords edges es in
      let P : Pair A = point K.field coords v in
      let whole : n.value ≡ composed K.field M E
      = sym (closed-walks closes g n (to_f.0 ++ es) is_n (walk-append K.field coords edges faces 0 f g to_f.0 es to_f.1 w)) ∙ map-append K.field coords edges faces to_f.0 es in
      ap (λ (k : Motion A). place K.field k P) to_f.2
      ∙ ap (place K.field M) (sym (around v f g es w round))
      ∙ sym (place-composed K.field M E P)
      ∙ ap (λ (k : Motion A). place K.field k P) (sym whole)
