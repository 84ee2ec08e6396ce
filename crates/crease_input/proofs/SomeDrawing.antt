-- each frame has a drawing by a row, or a cause why not
use Rattle.std.proofs.Common.{◌≡◌, ◌⊎◌, inl, inr, ℕ, suc, ◌+◌, ℤ, pos, ◌*ℤ◌, List, [], ◌∷◌, ◌++◌, length, map, refl, sym, ◌∙◌, ap, subst, Bool, true, false, Option, Some, None, Result, Ok, Err, arith}
use Rattle.std.specs.Prelude.{IfSome, codes, option_map}
use Rattle.std.specs.List.{AllByRecursion, AllZip}
use Rattle.algebra.specs.LowestTerms.{Parts}
use Rattle.fold_frames.specs.Parents.{value_at}
use Rattle.fold_keys.specs.declared.value.Entry.{Entry}
use Rattle.fold_keys.specs.declared.value.Value.{Value}
use Rattle.fold_keys.specs.declared.value.Value.TheVariants as values
use Rattle.frame_lines.specs.Lines.{is_flat, points_of}
use Rattle.number_rules.specs.Billionths.{HasBillionths}
use Rattle.number_rules.specs.ExactText.{ReadsExactText}
use Rattle.number_rules.specs.Nine.{IsNine, billion}
use Rattle.number_rules.specs.Value.{numerator, denominator}
use Rattle.number_rules.specs.declared.unread.Unread.{Unread}
use Rattle.scaled_plane.specs.declared.drawing.Ends.{Ends}
use Rattle.scaled_plane.specs.declared.drawing.Face.{Face}
use Rattle.scaled_plane.specs.declared.point.Pair.{Pair}
use Rattle.crease_input.specs.Frames.{HasNoPoint, HasRoundedValue, IsDrawn, IsFirstWithout, IsFresh, IsFreshBy, IsUndrawn, IsVertex, Vertex, answers_by, drawn_edges, drawn_faces, exact_in, exact_of, excess_of, first_missing, spelled, texts_by, vertices_in, vertices_of}
use Rattle.crease_input.specs.Roots.{root_of, root_of_points, root_of_text, root_of_value}
use Rattle.crease_input.specs.declared.fault.Axis.TheVariants.{X, Y}
use Rattle.crease_input.specs.declared.fault.Counted.{Counted}
use Rattle.crease_input.specs.declared.fault.InputFault.{InputFault}
use Rattle.crease_input.specs.declared.fault.InputFault.TheVariants as faults
use Rattle.crease_input.proofs.ExactReadings.{number_or_not, whole_or_not}
use Rattle.std.specs.Prelude.{count_by, ◌==◌, if◌then◌else◌}

-- ---- vertices

module _ {N : Type 0} (k : ℕ) (parts : N → Parts) (rule : List ℕ → Result N Unread → Type 0)
    (nine : (x : N) → (m : ℤ) × IsNine k (parts x) m)
    (nine_once : (x : N) (m n : ℤ) → IsNine k (parts x) m → IsNine k (parts x) n → m ≡ n) where
  rounded_or_not : (x : N) (text : List ℕ) → HasRoundedValue k (parts x) text ⊎ ¬ HasRoundedValue k (parts x) text
  rounded_or_not x text = of_nine (nine x)
    where
      of_nine : (m : ℤ) × IsNine k (parts x) m → HasRoundedValue k (parts x) text ⊎ ¬ HasRoundedValue k (parts x) text
      of_nine (m, is) = elim (whole_or_not (numerator text *ℤ pos billion) (m *ℤ pos (denominator text))) [
        | inl same ↦ inl (m, is, same)
        | inr other ↦ inr (λ h. other (subst (HasBillionths text) (nine_once x h.0 m h.1 is) h.2))
      ]

  fresh_by_or_not : (exact : Option (List ℕ × List ℕ)) (point : List (List ℕ)) (p : Pair N)
      → IsFreshBy k parts exact point p ⊎ ¬ IsFreshBy k parts exact point p
  fresh_by_or_not None point p = inl tt
  fresh_by_or_not (Some texts) point p = both (rounded_or_not p.x (spelled point 0)) (rounded_or_not p.y (spelled point 1))
    where
      both : {A B : Type 0} → A ⊎ ¬ A → B ⊎ ¬ B → (A × B) ⊎ ¬ (A × B)
      both (inl a) (inl b) = inl (a, b)
      both (inr other) b = inr (λ h. other h.0)
      both (inl a) (inr other) = inr (λ h. other h.1)

  abbrev Answerable : Vertex → Type 0
  Answerable v = (t : List ℕ) → (r : Result N Unread) × answers_by k parts rule v.exact t r

  abbrev Outcome : Vertex → ℕ → Type 0
  Outcome v place = ((p : Pair N) × IsVertex k parts rule v p) ⊎ ((fault : InputFault) × HasNoPoint k parts rule v place fault)

  vertex_outcome : (v : Vertex) (place : ℕ) → Answerable v → Outcome v place
  vertex_outcome v place answers = by_height (is_flat v.point) refl
    where
      by_point : is_flat v.point ≡ true → (x y : N) → answers_by k parts rule v.exact (texts_by v.exact v.point).0 (Ok x)
          → answers_by k parts rule v.exact (texts_by v.exact v.point).1 (Ok y) → Outcome v place
      by_point flat x y x_is y_is =
          let p : Pair N = record { x = x; y = y } in
          elim (fresh_by_or_not v.exact v.point p) [
            | inl fresh ↦ inl (p, record { flat = flat; told = (x_is, y_is); fresh = fresh })
            | inr stale ↦ inr (faults.Stale place, (refl, flat, p, (x_is, y_is), stale))
          ]

      by_y : is_flat v.point ≡ true → (x : N) → answers_by k parts rule v.exact (texts_by v.exact v.point).0 (Ok x)
          → (r : Result N Unread) × answers_by k parts rule v.exact (texts_by v.exact v.point).1 r → Outcome v place
      by_y flat x x_is (Ok y, y_is) = by_point flat x y x_is y_is
      by_y flat x x_is (Err cause, y_is) = inr (
        faults.Unread place Y cause,
        (
          refl,
          flat,
          record {
            before = (texts_by v.exact v.point).0 ∷ [];
            text = (texts_by v.exact v.point).1;
            after = [];
            split = refl;
            count = refl;
            read = ((x, x_is), tt);
            refused = y_is;
          },
        ),
      )

      by_x : is_flat v.point ≡ true → (r : Result N Unread) × answers_by k parts rule v.exact (texts_by v.exact v.point).0 r
          → Outcome v place
      by_x flat (Ok x, x_is) = by_y flat x x_is (answers (texts_by v.exact v.point).1)
      by_x flat (Err cause, x_is) = inr (
        faults.Unread place X cause,
        (
          refl,
          flat,
          record {
            before = [];
            text = (texts_by v.exact v.point).0;
            after = (texts_by v.exact v.point).1 ∷ [];
            split = refl;
            count = refl;
            read = tt;
            refused = x_is;
          },
        ),
      )

      by_height : (b : Bool) → is_flat v.point ≡ b → Outcome v place
      by_height false steep = inr (faults.NotFlat place, (refl, steep))
      by_height true flat = by_x flat (answers (texts_by v.exact v.point).0)

  -- each vertex has a point, or one is the first without, counted on from a number
  abbrev First : ℕ → List Vertex → Type 0
  First n vs =
      (fault : InputFault) × (before : List Vertex) × (v : Vertex) × (after : List Vertex) × (vs ≡ before ++ v ∷ after)
      × AllByRecursion (λ w. (p : Pair N) × IsVertex k parts rule w p) before
      × HasNoPoint k parts rule v (n + length before) fault

  vertices_outcome : (vs : List Vertex) (n : ℕ) → AllByRecursion Answerable vs
      → ((ps : List (Pair N)) × AllZip (IsVertex k parts rule) vs ps) ⊎ First n vs
  vertices_outcome [] n all = inl ([], tt)
  vertices_outcome (v ∷ vs) n all = at (vertex_outcome v n all.0) (vertices_outcome vs (suc n) all.1)
    where
      at : Outcome v n → ((ps : List (Pair N)) × AllZip (IsVertex k parts rule) vs ps) ⊎ First (suc n) vs
          → ((ps : List (Pair N)) × AllZip (IsVertex k parts rule) (v ∷ vs) ps) ⊎ First n (v ∷ vs)
      at (inr (fault, refused)) rest =
          let here : n ≡ n + 0 = omega arith in
          inr (fault, [], v, vs, refl, tt, subst (λ m. HasNoPoint k parts rule v m fault) here refused)
      at (inl (p, is)) (inl (ps, are)) = inl (p ∷ ps, (is, are))
      at (inl (p, is)) (inr (fault, before, w, after, split, points, refused)) =
          let there : suc n + length before ≡ n + suc (length before) = omega arith in
          inr (
            fault,
            v ∷ before,
            w,
            after,
            ap (λ (us : List Vertex). v ∷ us) split,
            ((p, is), points),
            subst (λ m. HasNoPoint k parts rule w m fault) there refused,
          )

  -- ---- a frame

  undrawn_of : (faces : Bool) (entries : List Entry) (fault : InputFault) → first_missing faces entries ≡ None
      → excess_of faces entries ≡ None → IsFirstWithout k parts rule (vertices_of entries) fault
      → IsUndrawn k parts rule faces entries fault
  undrawn_of faces entries (faults.Missing key) whole few is = absurd is.none
  undrawn_of faces entries (faults.TooMany what) whole few is = absurd is.none
  undrawn_of faces entries (faults.NotFlat v) whole few is = (whole, few, is)
  undrawn_of faces entries (faults.Unread v axis cause) whole few is = (whole, few, is)
  undrawn_of faces entries (faults.Stale v) whole few is = (whole, few, is)
  undrawn_of faces entries (faults.Memory e) whole few is = (whole, few, is)

  abbrev FrameOutcome : Bool → List Entry → Type 0
  FrameOutcome faces entries =
      ((drawn : Ends N × List Face) × IsDrawn k parts rule faces entries drawn)
      ⊎ ((fault : InputFault) × IsUndrawn k parts rule faces entries fault)

  frame_outcome : (faces : Bool) (entries : List Entry) → AllByRecursion Answerable (vertices_of entries)
      → FrameOutcome faces entries
  frame_outcome faces entries all = by_keys (first_missing faces entries) refl
    where
      by_vertices : first_missing faces entries ≡ None → excess_of faces entries ≡ None
          → ((ps : List (Pair N)) × AllZip (IsVertex k parts rule) (vertices_of entries) ps) ⊎ First 0 (vertices_of entries)
          → FrameOutcome faces entries
      by_vertices whole few (inl (ps, are)) = inl (
        (record { coords = ps; edges = drawn_edges entries }, drawn_faces faces entries),
        record { whole = whole; few = few; coords = are; edges = refl; faces = refl },
      )
      by_vertices whole few (inr (fault, before, v, after, split, points, refused)) =
          let here : 0 + length before ≡ length before = omega arith in
          inr (
            fault,
            undrawn_of faces entries fault whole few (record {
              before = before;
              vertex = v;
              after = after;
              split = split;
              points = points;
              none = subst (λ m. HasNoPoint k parts rule v m fault) here refused;
            }),
          )

      by_counts : first_missing faces entries ≡ None → (o : Option Counted) → excess_of faces entries ≡ o
          → FrameOutcome faces entries
      by_counts whole (Some what) e = inr (faults.TooMany what, (whole, e))
      by_counts whole None e = by_vertices whole e (vertices_outcome (vertices_of entries) 0 all)

      by_keys : (o : Option (List ℕ)) → first_missing faces entries ≡ o → FrameOutcome faces entries
      by_keys (Some key) e = inr (faults.Missing key, e)
      by_keys None e = by_counts e (excess_of faces entries) refl

  all_answerable : ((t : List ℕ) → (r : Result N Unread) × rule t r) → ((t : List ℕ) → (r : Result N Unread) × ReadsExactText k parts t r)
      → (vs : List Vertex) → AllByRecursion Answerable vs
  all_answerable some some_exact [] = tt
  all_answerable some some_exact (v ∷ vs) = (by v.exact, all_answerable some some_exact vs)
    where
      by : (exact : Option (List ℕ × List ℕ)) (t : List ℕ) → (r : Result N Unread) × answers_by k parts rule exact t r
      by None t = some t
      by (Some texts) t = some_exact t

  answerable_by_rule : ((t : List ℕ) → (r : Result N Unread) × rule t r) → (points : List (List (List ℕ)))
      → AllByRecursion Answerable (vertices_in points None)
  answerable_by_rule some [] = tt
  answerable_by_rule some (p ∷ points) = (some, answerable_by_rule some points)

  -- exact texts are over the root of 2 or of 3
  no_exact : (o : Option Value) → k ≡ 1 → IfSome (option_map root_of_value o) (λ root. root ≡ k) → exact_in o ≡ None
  no_exact None one root = refl
  no_exact (Some (values.Exact points)) one root = absurd (neither points (root ∙ one))
    where
      by : (b : Bool) → (let n : ℕ = (if b then 3 else 2) in n ≡ 1) → ⊥
      by true e = cc
      by false e = cc

      neither : (points : List (List ℕ × List ℕ)) → root_of_points points ≡ 1 → ⊥
      neither [] e = cc
      neither (p ∷ points) e = by (count_by (λ b. b == 44) p.0 == 3) e
  no_exact (Some value) one root = refl

  pub some_frame : ((t : List ℕ) → (r : Result N Unread) × rule t r)
      → (¬ (k ≡ 1) → (t : List ℕ) → (r : Result N Unread) × ReadsExactText k parts t r)
      → (faces : Bool) (entries : List Entry) → IfSome (root_of entries) (λ root. root ≡ k) → FrameOutcome faces entries
  some_frame some some_exact faces entries root = frame_outcome faces entries (by (number_or_not k 1))
    where
      by : (k ≡ 1) ⊎ ¬ (k ≡ 1) → AllByRecursion Answerable (vertices_of entries)
      by (inl one) =
          let none : exact_of entries ≡ None = no_exact (value_at entries (codes "fx:vertices_coords")) one root in
          subst (λ exact. AllByRecursion Answerable (vertices_in (points_of entries) exact)) (sym none)
          (answerable_by_rule some (points_of entries))
      by (inr over) = all_answerable some (some_exact over) (vertices_of entries)
