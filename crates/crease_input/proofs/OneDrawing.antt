-- a frame has one drawing by a row, and there is one
use Rattle.std.proofs.Common.{◌≡◌, ◌⊎◌, inl, inr, ℕ, suc, ◌+◌, ◌≤◌, List, [], ◌∷◌, ◌++◌, length, refl, sym, ◌∙◌, ap, subst, Bool, true, false, Option, Some, None, Result, Ok, Err, arith}
use Rattle.std.specs.List.{AllByRecursion, AllZip}
use Rattle.std.proofs.lemmas.Option.{same_Some}
use Rattle.algebra.specs.LowestTerms.{Parts}
use Rattle.fold_keys.specs.declared.value.Entry.{Entry}
use Rattle.frame_lines.specs.Lines.{is_flat}
use Rattle.number_rules.specs.ExactText.{ReadsExactText}
use Rattle.number_rules.specs.declared.unread.Unread.{Unread}
use Rattle.scaled_plane.specs.declared.drawing.Ends.{Ends}
use Rattle.scaled_plane.specs.declared.drawing.Face.{Face}
use Rattle.scaled_plane.specs.declared.point.Pair.{Pair}
use Rattle.crease_input.specs.Lines.{IsOfOne, IsPoint, IsUnreadAt, place_of_axis}
use Rattle.crease_input.specs.Frames.{HasNoPoint, IsDrawn, IsFirstWithout, IsFresh, IsTold, IsUndrawn, IsUntold, IsVertex, Vertex, answers_by, excess_of, first_missing, texts_by, vertices_of}
use Rattle.crease_input.specs.declared.fault.Axis.{Axis}
use Rattle.crease_input.specs.declared.fault.Axis.TheVariants.{X, Y}
use Rattle.crease_input.specs.declared.fault.Counted.{Counted}
use Rattle.crease_input.specs.declared.fault.InputFault.{InputFault}
use Rattle.crease_input.specs.declared.fault.InputFault.TheVariants as faults
use Rattle.crease_input.proofs.Frames.{with_points}
use Rattle.crease_input.proofs.OneAnswer.{first_once, head_once, point_once, read_or_not, tail_once}

-- ---- the first without what the others have

split_once : {X : Type 0} (P Q : X → Type 0) → ((x : X) → P x → ¬ Q x) → (b1 b2 : List X) (x y : X) (a1 a2 : List X)
    → b1 ++ x ∷ a1 ≡ b2 ++ y ∷ a2 → AllByRecursion P b1 → AllByRecursion P b2 → Q x → Q y → (length b1 ≡ length b2) × (x ≡ y)
split_once P Q apart [] [] x y a1 a2 e p q is has = (refl, head_once x y a1 a2 e)
split_once P Q apart [] (z ∷ b2) x y a1 a2 e p q is has =
    absurd (apart x (subst P (sym (head_once x z a1 (b2 ++ y ∷ a2) e)) q.0) is)
split_once P Q apart (z ∷ b1) [] x y a1 a2 e p q is has =
    absurd (apart y (subst P (head_once z y (b1 ++ x ∷ a1) a2 e) p.0) has)
split_once P Q apart (z ∷ b1) (w ∷ b2) x y a1 a2 e p q is has =
    let rest = split_once P Q apart b1 b2 x y a1 a2 (tail_once z w (b1 ++ x ∷ a1) (b2 ++ y ∷ a2) e) p.1 q.1 is has in
    (ap suc rest.0, rest.1)

all_or_split : {X : Type 0} (P Q : X → Type 0) → ((x : X) → P x → ¬ Q x) → (b : List X) (x : X) (a : List X)
    → AllByRecursion P (b ++ x ∷ a) → ¬ Q x
all_or_split P Q apart [] x a all is = apart x all.0 is
all_or_split P Q apart (y ∷ b) x a all is = all_or_split P Q apart b x a all.1 is

axis_once : (a b : Axis) → place_of_axis a ≡ place_of_axis b → a ≡ b
axis_once X X e = refl
axis_once Y Y e = refl
axis_once X Y e = absurd (omega (arith, e))
axis_once Y X e = absurd (omega (arith, e))

module _ {N : Type 0} (k : ℕ) (parts : N → Parts) (rule : List ℕ → Result N Unread → Type 0)
    (one : IsOfOne rule) (one_exact : IsOfOne (ReadsExactText k parts)) where
  answers_once : (exact : Option (List ℕ × List ℕ)) → IsOfOne (answers_by k parts rule exact)
  answers_once None = one
  answers_once (Some texts) = one_exact

  told_once : (v : Vertex) (p q : Pair N) → IsTold k parts rule v p → IsTold k parts rule v q → p ≡ q
  told_once v p q is has =
      point_once (answers_by k parts rule v.exact) (answers_once v.exact) (texts_by v.exact v.point).0
      (texts_by v.exact v.point).1 p q is has

  told_or_untold : (v : Vertex) (p : Pair N) (place : ℕ) (cause : Unread) → IsTold k parts rule v p
      → ¬ IsUntold k parts rule v place cause
  told_or_untold v p place cause is has =
      let all : AllByRecursion (λ t. (x : N) × answers_by k parts rule v.exact t (Ok x)) ((texts_by v.exact v.point).0 ∷ (texts_by v.exact v.point).1 ∷ []) =
      ((p.x, is.0), ((p.y, is.1), tt)) in
      read_or_not (answers_by k parts rule v.exact) (answers_once v.exact) has.before has.text has.after cause
      (subst (AllByRecursion (λ t. (x : N) × answers_by k parts rule v.exact t (Ok x))) has.split all) has.refused

  untold_once : (v : Vertex) (a b : Axis) (c d : Unread) → IsUntold k parts rule v (place_of_axis a) c
      → IsUntold k parts rule v (place_of_axis b) d → (a ≡ b) × (c ≡ d)
  untold_once v a b c d is has =
      let same = first_once (answers_by k parts rule v.exact) (answers_once v.exact) is.before has.before is.text has.text is.after has.after
      c d (sym is.split ∙ has.split) is.read has.read is.refused has.refused in
      (axis_once a b (sym is.count ∙ same.0 ∙ has.count), same.1)

  steep_or_flat : (b : Bool) → b ≡ true → ¬ (b ≡ false)
  steep_or_flat true e f = cc
  steep_or_flat false e f = cc

  -- ---- a vertex

  vertex_once : (v : Vertex) (p q : Pair N) → IsVertex k parts rule v p → IsVertex k parts rule v q → p ≡ q
  vertex_once v p q is has = told_once v p q is.told has.told

  abbrev HasPoint : Vertex → Type 0
  HasPoint v = (p : Pair N) × IsVertex k parts rule v p

  abbrev IsWithout : Vertex → Type 0
  IsWithout v = (place : ℕ) × (fault : InputFault) × HasNoPoint k parts rule v place fault

  point_or_not : (v : Vertex) (p : Pair N) (place : ℕ) (fault : InputFault) → IsVertex k parts rule v p
      → ¬ HasNoPoint k parts rule v place fault
  point_or_not v p place (faults.NotFlat w) is has = steep_or_flat (is_flat v.point) is.flat has.1
  point_or_not v p place (faults.Unread w axis cause) is has = told_or_untold v p (place_of_axis axis) cause is.told has.2
  point_or_not v p place (faults.Stale w) is has =
      has.4 (subst (IsFresh k parts v) (told_once v p has.2 is.told has.3) is.fresh)
  point_or_not v p place (faults.Missing key) is has = has
  point_or_not v p place (faults.TooMany what) is has = has
  point_or_not v p place (faults.Memory e) is has = has

  apart : (v : Vertex) → HasPoint v → ¬ IsWithout v
  apart v is has = point_or_not v is.0 has.0 has.1 is.1 has.2

  no_point_once : (v : Vertex) (place : ℕ) (e f : InputFault) → HasNoPoint k parts rule v place e
      → HasNoPoint k parts rule v place f → e ≡ f
  no_point_once v place (faults.NotFlat a) (faults.NotFlat b) is has = ap faults.NotFlat (is.0 ∙ sym has.0)
  no_point_once v place (faults.NotFlat a) (faults.Unread b y d) is has = absurd (steep_or_flat (is_flat v.point) has.1 is.1)
  no_point_once v place (faults.NotFlat a) (faults.Stale b) is has = absurd (steep_or_flat (is_flat v.point) has.1 is.1)
  no_point_once v place (faults.Unread a x c) (faults.NotFlat b) is has = absurd (steep_or_flat (is_flat v.point) is.1 has.1)
  no_point_once v place (faults.Unread a x c) (faults.Unread b y d) is has =
      let same = untold_once v x y c d is.2 has.2 in
      let vertex = is.0 ∙ sym has.0 in
      λ i. faults.Unread (vertex i) (same.0 i) (same.1 i)
  no_point_once v place (faults.Unread a x c) (faults.Stale b) is has = absurd (told_or_untold v has.2 (place_of_axis x) c has.3 is.2)
  no_point_once v place (faults.Stale a) (faults.NotFlat b) is has = absurd (steep_or_flat (is_flat v.point) is.1 has.1)
  no_point_once v place (faults.Stale a) (faults.Unread b y d) is has = absurd (told_or_untold v is.2 (place_of_axis y) d is.3 has.2)
  no_point_once v place (faults.Stale a) (faults.Stale b) is has = ap faults.Stale (is.0 ∙ sym has.0)
  no_point_once v place (faults.Missing key) f is has = absurd is
  no_point_once v place (faults.TooMany what) f is has = absurd is
  no_point_once v place (faults.Memory error) f is has = absurd is
  no_point_once v place e (faults.Missing key) is has = absurd has
  no_point_once v place e (faults.TooMany what) is has = absurd has
  no_point_once v place e (faults.Memory error) is has = absurd has

  -- ---- all vertices

  coords_once : (vertices : List Vertex) (ps qs : List (Pair N)) → AllZip (IsVertex k parts rule) vertices ps
      → AllZip (IsVertex k parts rule) vertices qs → ps ≡ qs
  coords_once [] [] [] are has = refl
  coords_once [] [] (q ∷ qs) are has = absurd has
  coords_once [] (p ∷ ps) qs are has = absurd are
  coords_once (v ∷ vs) [] qs are has = absurd are
  coords_once (v ∷ vs) (p ∷ ps) [] are has = absurd has
  coords_once (v ∷ vs) (p ∷ ps) (q ∷ qs) are has =
      let here = vertex_once v p q are.0 has.0 in
      let rest = coords_once vs ps qs are.1 has.1 in
      λ i. here i ∷ rest i

  first_fault_once : (vertices : List Vertex) (e f : InputFault) → IsFirstWithout k parts rule vertices e
      → IsFirstWithout k parts rule vertices f → e ≡ f
  first_fault_once vertices e f is has =
      let same = split_once HasPoint IsWithout apart is.before has.before is.vertex has.vertex is.after has.after
      (sym is.split ∙ has.split) is.points has.points (length is.before, e, is.none) (length has.before, f, has.none) in
      no_point_once has.vertex (length has.before) e f
      (subst (λ v. HasNoPoint k parts rule v (length has.before) e) same.1
      (subst (λ n. HasNoPoint k parts rule is.vertex n e) same.0 is.none)) has.none

  -- ---- a frame

  pub drawn_once : (faces : Bool) (entries : List Entry) (a b : Ends N × List Face) → IsDrawn k parts rule faces entries a
      → IsDrawn k parts rule faces entries b → a ≡ b
  drawn_once faces entries a b is has =
      let coords = coords_once (vertices_of entries) a.0.coords b.0.coords is.coords has.coords in
      let edges = is.edges ∙ sym has.edges in
      let found = is.faces ∙ sym has.faces in
      λ i. (record { coords = coords i; edges = edges i }, found i)

  module _ (faces : Bool) (entries : List Entry) where
    abbrev Lacks : InputFault → Type 0
    Lacks fault = (key : List ℕ) × (fault ≡ faults.Missing key) × (first_missing faces entries ≡ Some key)

    abbrev Exceeds : InputFault → Type 0
    Exceeds fault =
        (what : Counted) × (fault ≡ faults.TooMany what) × (first_missing faces entries ≡ None)
        × (excess_of faces entries ≡ Some what)

    abbrev IsPointless : InputFault → Type 0
    IsPointless fault =
        (first_missing faces entries ≡ None) × (excess_of faces entries ≡ None)
        × IsFirstWithout k parts rule (vertices_of entries) fault

    reason : (fault : InputFault) → IsUndrawn k parts rule faces entries fault → Lacks fault ⊎ (Exceeds fault ⊎ IsPointless fault)
    reason (faults.Missing key) is = inl (key, refl, is)
    reason (faults.TooMany what) is = inr (inl (what, refl, is.0, is.1))
    reason (faults.NotFlat v) is = inr (inr is)
    reason (faults.Unread v axis cause) is = inr (inr is)
    reason (faults.Stale v) is = inr (inr is)
    reason (faults.Memory e) is = inr (inr is)

    none_or_some : {A : Type 0} (o : Option A) (x : A) → o ≡ None → ¬ (o ≡ Some x)
    none_or_some o x none some = let clash = sym none ∙ some in cc

    by_reasons : (e f : InputFault) → Lacks e ⊎ (Exceeds e ⊎ IsPointless e) → Lacks f ⊎ (Exceeds f ⊎ IsPointless f) → e ≡ f
    by_reasons e f (inl a) (inl b) = a.1 ∙ ap faults.Missing (same_Some a.0 b.0 (sym a.2 ∙ b.2)) ∙ sym b.1
    by_reasons e f (inl a) (inr (inl b)) = absurd (none_or_some (first_missing faces entries) a.0 b.2 a.2)
    by_reasons e f (inl a) (inr (inr b)) = absurd (none_or_some (first_missing faces entries) a.0 b.0 a.2)
    by_reasons e f (inr (inl a)) (inl b) = absurd (none_or_some (first_missing faces entries) b.0 a.2 b.2)
    by_reasons e f (inr (inl a)) (inr (inl b)) = a.1 ∙ ap faults.TooMany (same_Some a.0 b.0 (sym a.3 ∙ b.3)) ∙ sym b.1
    by_reasons e f (inr (inl a)) (inr (inr b)) = absurd (none_or_some (excess_of faces entries) a.0 b.1 a.3)
    by_reasons e f (inr (inr a)) (inl b) = absurd (none_or_some (first_missing faces entries) b.0 a.0 b.2)
    by_reasons e f (inr (inr a)) (inr (inl b)) = absurd (none_or_some (excess_of faces entries) b.0 a.1 b.3)
    by_reasons e f (inr (inr a)) (inr (inr b)) = first_fault_once (vertices_of entries) e f a.2 b.2

    pub undrawn_once : (e f : InputFault) → IsUndrawn k parts rule faces entries e → IsUndrawn k parts rule faces entries f → e ≡ f
    undrawn_once e f is has = by_reasons e f (reason e is) (reason f has)

    pub drawn_or_not : (drawn : Ends N × List Face) (fault : InputFault) → IsDrawn k parts rule faces entries drawn
        → ¬ IsUndrawn k parts rule faces entries fault
    drawn_or_not drawn fault is has = elim (reason fault has) [
      | inl a ↦ none_or_some (first_missing faces entries) a.0 is.whole a.2
      | inr rest ↦ elim rest [
        | inl a ↦ none_or_some (excess_of faces entries) a.0 is.few a.3
        | inr a ↦ all_or_split HasPoint IsWithout apart a.2.before a.2.vertex a.2.after
            (subst (AllByRecursion HasPoint) a.2.split (with_points k parts rule (vertices_of entries) drawn.0.coords is.coords))
            (length a.2.before, fault, a.2.none)
      ]
    ]
