-- Path maps: each is the map of a walk, each face has at most one, and the edges agree exactly where the sheet closes.
use Rattle.std.proofs.Common.{◌≡◌, ◌∙◌, ap, sym, refl, subst, ℕ, List, [], ◌∷◌, ◌++◌, ◌≤◌, ◌+◌, length, Bool, true, false, if◌then◌else◌, arith}
use Rattle.scaled_plane.specs.declared.point.Pair.{Pair}
use Rattle.flat_fold.specs.declared.motion.Motion.{Motion}
use Rattle.scaled_plane.specs.declared.drawing.Edge.{Edge}
use Rattle.scaled_plane.specs.declared.drawing.Face.{Face}
use Rattle.flat_fold.specs.Computed.{Computed, ComputedField, at_hand, ◌>>=◌}
use Rattle.flat_fold.specs.Motions.{identity, composed, reflection}
use Rattle.flat_fold.specs.Operations.{composing, reflecting}
use Rattle.flat_fold.specs.Faces.{edge_at, Leads, IsWalk}
use Rattle.flat_fold.specs.Folding.{is_crease, point, crossing, walk_map, Closes, Agree, HasLevel, IsEntry, stepping_over, stepping, IsPathMap, Disagrees}
use Rattle.flat_fold.specs.Folding.IsPathMap.{first, next}
use Rattle.flat_fold.proofs.MotionLaws.{composed-identity}
use Rattle.flat_fold.proofs.OperationLaws.{composing-value, reflecting-value}
use Rattle.flat_fold.proofs.Walks.{leads-back, walk-append, map-append, closes-from_agree, one-map, agree-crossing, crossing-agrees}

module _ {A : Type 0} (K : ComputedField A) (coords : List (Pair A)) (edges : List Edge) (faces : List Face) where
  -- the value of a step is the map of crossing the edge, on the inside
  stepping_by : (b : Bool) (edge : Edge) (m : Motion A)
      → (if b then (reflecting K (point K.field coords edge.from) (point K.field coords edge.to) >>= composing K m) else at_hand m).value
      ≡ composed K.field m (if b then reflection K.field (point K.field coords edge.from) (point K.field coords edge.to) else identity K.field)
  unfolding at_hand ◌>>=◌
  stepping_by false edge m = sym (composed-identity K.field m)
  stepping_by true edge m =
      composing-value K m (reflecting K (point K.field coords edge.from) (point K.field coords edge.to)).value ∙ ap (composed K.field m) (reflecting-value K (point K.field coords edge.from) (point K.field coords edge.to))

  pub stepping-value : (edge : Edge) (m : Motion A) → (stepping K coords edge m).value ≡ composed K.field m (crossing K.field coords edge)
  unfolding stepping_over
  stepping-value edge m = stepping_by (is_crease edge.letter) edge m

  then-value : {S T : Type 0} (c : Computed S) (f : S → Computed T) → (c >>= f).value ≡ (f c.value).value
  unfolding ◌>>=◌
  then-value c f = refl

  at_hand-value : {T : Type 0} (x : T) → (at_hand x).value ≡ x
  unfolding at_hand
  at_hand-value x = refl

  -- a path map is the map of a walk from face 0
  pub path-walk : {f : ℕ} {m : Computed (Motion A)} → IsPathMap K coords edges faces f m → (es : List ℕ) × IsWalk edges faces 0 es f × (m.value ≡ walk_map K.field coords edges es)
  path-walk first = ([], refl, at_hand-value (identity K.field))
  path-walk (next {f} {g} {e} {m} entry before) =
      let walk = path-walk before in
      let es : List ℕ = walk.0 in
      let C : Motion A = crossing K.field coords (edge_at edges e) in (
        es ++ e ∷ [],
        walk-append K.field coords edges faces 0 g f es (e ∷ []) walk.1 (f, entry.leads, refl),
        then-value m (stepping K coords (edge_at edges e)) ∙ stepping-value (edge_at edges e) m.value ∙ ap (λ (k : Motion A). composed K.field k C) walk.2
            ∙ ap (composed K.field (walk_map K.field coords edges es)) (sym (composed-identity K.field C)) ∙ sym (map-append K.field coords edges faces es (e ∷ [])),
      )

  -- a face has one level
  pub one-level : (f n k : ℕ) → HasLevel edges faces f n → HasLevel edges faces f k → n ≡ k
  one-level f n k h j =
      let a : n ≤ length j.reached.0 = h.shortest j.reached.0 j.reached.2 in
      let b : k ≤ length h.reached.0 = j.shortest h.reached.0 h.reached.2 in
      let c : length j.reached.0 ≡ k = j.reached.1 in
      let d : length h.reached.0 ≡ n = h.reached.1 in
      omega arith

  -- no edge leads into face 0 from a lower level
  no-entry : (g e : ℕ) → ¬ IsEntry edges faces 0 g e
  no-entry g e entry =
      let a : entry.level + 1 ≤ length {A = ℕ} [] = entry.here.shortest [] refl in
      absurd (omega arith)

  -- an edge leads into a face from one face alone
  module _ (one_side : (e f g h : ℕ) → Leads edges faces e f h → Leads edges faces e g h → f ≡ g) where
    one-entry_edge : (f g h e d : ℕ) → IsEntry edges faces f g e → IsEntry edges faces f h d → e ≡ d
    one-entry_edge f g h e d a b =
        let same : a.level + 1 ≡ b.level + 1 = one-level f (a.level + 1) (b.level + 1) a.here b.here in
        let level : a.level ≡ b.level = omega arith in
        let x : e ≤ d = a.least d h (subst (HasLevel edges faces h) (sym level) b.before) b.leads in
        let y : d ≤ e = b.least e g (subst (HasLevel edges faces g) level a.before) a.leads in
        omega arith

    -- a face has one path map
    pub one-path_map : {f g : ℕ} {m n : Computed (Motion A)} → IsPathMap K coords edges faces f m → IsPathMap K coords edges faces g n → f ≡ g → m ≡ n
    one-path_map first first h = refl
    one-path_map first (next {f} {g} {e} entry before) h = absurd (no-entry g e (subst (λ k. IsEntry edges faces k g e) (sym h) entry))
    one-path_map (next {f} {g} {e} entry before) first h = absurd (no-entry g e (subst (λ k. IsEntry edges faces k g e) h entry))
    one-path_map (next {f} {g} {e} {m} entry before) (next {f = k} {g = j} {e = d} {m = n} other earlier) h =
        let entry' : IsEntry edges faces k g e = subst (λ i. IsEntry edges faces i g e) h entry in
        let edge : e ≡ d = one-entry_edge k g j e d entry' other in
        let from : g ≡ j = one_side d g j k (subst (λ i. Leads edges faces i g k) edge entry'.leads) other.leads in
        let same : m ≡ n = one-path_map before earlier from in
        ap (λ (i : ℕ). m >>= stepping K coords (edge_at edges i)) edge ∙ ap (λ (c : Computed (Motion A)). c >>= stepping K coords (edge_at edges d)) same

  -- ---- the theorem

  -- the two ends of an edge that leads somewhere lie apart
  module _ (apart : (e f g : ℕ) → Leads edges faces e f g → ¬ (point K.field coords (edge_at edges e).from ≡ point K.field coords (edge_at edges e).to)) where
    -- where every closed walk leaves the faces where they are, every walk to a face gives its path map
    pub walk-path : Closes K.field coords edges faces → (f : ℕ) (m : Computed (Motion A)) (es : List ℕ) → IsPathMap K coords edges faces f m → IsWalk edges faces 0 es f
        → walk_map K.field coords edges es ≡ m.value
    walk-path closes f m es is w =
        let walk = path-walk is in
        one-map K.field coords edges faces apart closes 0 f es walk.0 w walk.1 ∙ sym walk.2

    -- .. so the maps agree at each edge
    pub agree-closed : Closes K.field coords edges faces → (e f g : ℕ) (m n : Computed (Motion A)) → Leads edges faces e f g → IsPathMap K coords edges faces f m → IsPathMap K coords edges faces g n
        → Agree K.field coords (edge_at edges e) m.value n.value
    agree-closed closes e f g m n l is_m is_n =
        let to_f = path-walk is_m in
        let to_g = path-walk is_n in
        let longer : walk_map K.field coords edges (to_f.0 ++ e ∷ []) ≡ composed K.field (walk_map K.field coords edges to_f.0) (crossing K.field coords (edge_at edges e))
        = map-append K.field coords edges faces to_f.0 (e ∷ []) ∙ ap (composed K.field (walk_map K.field coords edges to_f.0)) (composed-identity K.field (crossing K.field coords (edge_at edges e))) in
        crossing-agrees K.field coords (edge_at edges e) (apart e f g l) m.value n.value
        (sym (walk-path closes g n (to_f.0 ++ e ∷ []) is_n (walk-append K.field coords edges faces 0 f g to_f.0 (e ∷ []) to_f.1 (g, l, refl)))
        ∙ longer ∙ ap (λ (k : Motion A). composed K.field k (crossing K.field coords (edge_at edges e))) (sym to_f.2))

    -- where each face has a path map, and the maps agree at each edge, every closed walk leaves the faces where they are
    module _ (path : ℕ → Computed (Motion A)) (start : IsPathMap K coords edges faces 0 (path 0)) (is_path : (e f g : ℕ) → Leads edges faces e f g → IsPathMap K coords edges faces f (path f))
        (one_side : (e f g h : ℕ) → Leads edges faces e f h → Leads edges faces e g h → f ≡ g) where
      pub closes-agreed : ((e f g : ℕ) → Leads edges faces e f g → Agree K.field coords (edge_at edges e) (path f).value (path g).value) → Closes K.field coords edges faces
      closes-agreed agree =
          closes-from_agree K.field coords edges faces apart
          (λ e f g l. let walk = path-walk (is_path e f g l) in (walk.0, walk.1))
          (λ f. (path f).value)
          (ap (λ (c : Computed (Motion A)). c.value) (one-path_map one_side start first refl) ∙ at_hand-value (identity K.field))
          (λ e f g l. agree-crossing K.field coords (edge_at edges e) (apart e f g l) (path f).value (path g).value (agree e f g l))

      -- no edge disagrees, exactly where the sheet closes
      pub closes-exactly : ((e : ℕ) → ¬ Disagrees K coords edges faces e) → ((m n : Motion A) (e : ℕ) → ¬ ¬ Agree K.field coords (edge_at edges e) m n → Agree K.field coords (edge_at edges e) m n) → Closes K.field coords edges faces
      closes-exactly none decided =
          closes-agreed (λ e f g l. decided (path f).value (path g).value e (λ d. none e (record { face = f; other = g; map = path f; other_map = path g; leads = l; is_map = is_path e f g l; is_other_map = is_path e g f (leads-back edges faces e f g l); apart = d })))

    pub no-disagreement : Closes K.field coords edges faces → (e : ℕ) → ¬ Disagrees K coords edges faces e
    no-disagreement closes e d = d.apart (agree-closed closes e d.face d.other d.map d.other_map d.leads d.is_map d.is_other_map)
