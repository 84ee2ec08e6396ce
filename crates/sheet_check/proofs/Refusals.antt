-- The first flaw, from lines of the table that were passed one by one.
use mathlib.Core.Path.{◌≡◌, refl, ap, subst, ◌∙◌}
use mathlib.Core.List.{List}
use Rattle.std.proofs.Common.{inl, inr, arith, ℕ, ◌<◌, ◌+◌}
use Rattle.std.specs.Prelude.{◌⊎◌}
use Rattle.std.specs.Cmp.{nat_cmp_is}
use Rattle.std.specs.Ordering.{nat_cmp, ordering_then}
use Rattle.std.specs.declared.cmp.Ordering.{Ordering}
use Rattle.std.specs.declared.cmp.Ordering.TheVariants.{Less, Equal, Greater}
use Rattle.std.proofs.lemmas.Bool.{cases_lt}
use Rattle.algebra.specs.OrderedRing.{OrderedRing}
use Rattle.plane.specs.declared.point.Point.{Point}
use Rattle.scaled_plane.specs.declared.drawing.Edge.{Edge}
use Rattle.scaled_plane.specs.declared.drawing.Face.{Face}
use Rattle.scaled_plane.specs.declared.sheet.SheetFlaw.{SheetFlaw}
use Rattle.scaled_plane.specs.declared.sheet.SheetFlaw.TheVariants.{SameVertex, Loose, NotPlane, Parted, EmptySheet}
use Rattle.scaled_plane.specs.Scaling.{IsFirstOf}
use Rattle.scaled_plane.specs.Sheets.{HasFlaw, IsFirstFlaw, first_id, flaw_order, line_of, second_id}
use Rattle.sheet_check.specs.Passed.{HasNoneBefore, IsFirstPair}

-- ---- the order of flaws

three_ways : (a b : ℕ) → (a ≡ b) ⊎ ((a < b) ⊎ (b < a))
three_ways a b = elim (cases_lt a b) [
  | inl less ↦ inr (inl less)
  | inr upto ↦ elim (cases_lt b a) [ inl more ↦ inr (inr more) | inr down ↦ inl (omega (arith, upto, down)) ]
]

less_in : (a b : ℕ) (o : Ordering) → ordering_then (nat_cmp a b) o ≡ Less → (a < b) ⊎ ((a ≡ b) × (o ≡ Less))
less_in a b o h = elim (three_ways a b) [
  | inl e ↦ inr (e, ap (λ c. ordering_then c o) (nat_cmp_is a b Equal e) ∙ h)
  | inr (inl less) ↦ inl less
  | inr (inr more) ↦ absurd (let no : Greater ≡ Less = ap (λ c. ordering_then c o) (nat_cmp_is a b Greater more) ∙ h in cc)
]

nat_less : (a b : ℕ) → nat_cmp a b ≡ Less → a < b
nat_less a b h = elim (three_ways a b) [
  | inl e ↦ absurd (let no : Equal ≡ Less = nat_cmp_is a b Equal e ∙ h in cc)
  | inr (inl less) ↦ less
  | inr (inr more) ↦ absurd (let no : Greater ≡ Less = nat_cmp_is a b Greater more ∙ h in cc)
]

-- the ids of the one come before those of the other, by the first and then by the second
abbrev pub HasIdsBefore : SheetFlaw → SheetFlaw → Type 0
HasIdsBefore x y = (first_id x < first_id y) ⊎ ((first_id x ≡ first_id y) × (second_id x < second_id y))

sooner : (x y : SheetFlaw) → flaw_order x y ≡ Less → (line_of x < line_of y) ⊎ ((line_of x ≡ line_of y) × HasIdsBefore x y)
sooner x y h = elim (less_in (line_of x) (line_of y) (ordering_then (nat_cmp (first_id x) (first_id y)) (nat_cmp (second_id x) (second_id y))) h) [
  | inl less ↦ inl less
  | inr line ↦ inr (
    line.0,
    elim (less_in (first_id x) (first_id y) (nat_cmp (second_id x) (second_id y)) line.1) [
      | inl less ↦ inl less
      | inr first ↦ inr (first.0, nat_less (second_id x) (second_id y) first.1)
    ],
  )
]

-- ---- each line by its number

pub is_same_vertex : (x : SheetFlaw) → line_of x ≡ 0 → x ≡ SameVertex (first_id x) (second_id x)
is_same_vertex (SameVertex low high) e = refl
is_same_vertex flaw e = absurd (omega (arith, e))

pub is_loose : (x : SheetFlaw) → line_of x ≡ 1 → x ≡ Loose (first_id x)
is_loose (Loose v) e = refl
is_loose flaw e = absurd (omega (arith, e))

pub is_not_plane : (x : SheetFlaw) → line_of x ≡ 2 → x ≡ NotPlane (first_id x) (second_id x)
is_not_plane (NotPlane low high) e = refl
is_not_plane flaw e = absurd (omega (arith, e))

pub is_parted : (x : SheetFlaw) → line_of x ≡ 3 → x ≡ Parted (first_id x)
is_parted (Parted v) e = refl
is_parted flaw e = absurd (omega (arith, e))

pub is_empty_sheet : (x : SheetFlaw) → line_of x ≡ 4 → x ≡ EmptySheet
is_empty_sheet EmptySheet e = refl
is_empty_sheet flaw e = absurd (omega (arith, e))

-- ---- the first flaw, and lines that were passed

module _ {A : Type 0} (K : OrderedRing A) (vertices : List (Point A)) (edges : List Edge) (faces : List Face) where
  abbrev Has : SheetFlaw → Type 0
  Has flaw = HasFlaw K vertices edges faces flaw

  abbrev None : ℕ → Type 0
  None line = HasNoneBefore K vertices edges faces line

  pub none_yet : None 0
  none_yet flaw less = absurd (omega (arith, less))

  pub one_passed : (line : ℕ) → None line → ((flaw : SheetFlaw) → line_of flaw ≡ line → ¬ Has flaw) → None (line + 1)
  one_passed line before here flaw less has = elim (cases_lt (line_of flaw) line) [
    | inl sooner ↦ before flaw sooner has
    | inr upto ↦ here flaw (omega (arith, less, upto)) has
  ]

  pub first_of_line : (flaw : SheetFlaw) → Has flaw → None (line_of flaw) → ((x : SheetFlaw) → line_of x ≡ line_of flaw → HasIdsBefore x flaw → ¬ Has x)
      → IsFirstFlaw K vertices edges faces flaw
  first_of_line flaw has before least = (
    has,
    λ other less there. elim (sooner other flaw less) [
      | inl line ↦ before other line there
      | inr ids ↦ least other ids.0 ids.1 there
    ],
  )

  pub same_vertex_first : (p : ℕ × ℕ) → None 0 → IsFirstPair (λ low high. Has (SameVertex low high)) p → IsFirstFlaw K vertices edges faces (SameVertex p.0 p.1)
  same_vertex_first p before h =
      first_of_line (SameVertex p.0 p.1) h.0 before (λ x line ids has. h.1 (first_id x) (second_id x) ids (subst Has (is_same_vertex x line) has))

  pub same_vertex_passed : None 0 → ((low high : ℕ) → ¬ Has (SameVertex low high)) → None 1
  same_vertex_passed before none = one_passed 0 before (λ x line has. none (first_id x) (second_id x) (subst Has (is_same_vertex x line) has))

  pub not_plane_first : (p : ℕ × ℕ) → None 2 → IsFirstPair (λ low high. Has (NotPlane low high)) p → IsFirstFlaw K vertices edges faces (NotPlane p.0 p.1)
  not_plane_first p before h =
      first_of_line (NotPlane p.0 p.1) h.0 before (λ x line ids has. h.1 (first_id x) (second_id x) ids (subst Has (is_not_plane x line) has))

  pub not_plane_passed : None 2 → ((low high : ℕ) → ¬ Has (NotPlane low high)) → None 3
  not_plane_passed before none = one_passed 2 before (λ x line has. none (first_id x) (second_id x) (subst Has (is_not_plane x line) has))

  -- a line with one id: the second ids are both 0
  pub loose_first : (v : ℕ) → None 1 → IsFirstOf (λ u. Has (Loose u)) v → IsFirstFlaw K vertices edges faces (Loose v)
  loose_first v before h = first_of_line (Loose v) h.0 before (λ x line ids has. later x line ids (subst Has (is_loose x line) has))
    where
      later : (x : SheetFlaw) → line_of x ≡ 1 → HasIdsBefore x (Loose v) → ¬ Has (Loose (first_id x))
      later x line (inl less) = h.1 (first_id x) less
      later x line (inr second) = let less = second.1 in absurd (omega (arith, less))

  pub loose_passed : None 1 → ((v : ℕ) → ¬ Has (Loose v)) → None 2
  loose_passed before none = one_passed 1 before (λ x line has. none (first_id x) (subst Has (is_loose x line) has))

  pub parted_first : (v : ℕ) → None 3 → IsFirstOf (λ u. Has (Parted u)) v → IsFirstFlaw K vertices edges faces (Parted v)
  parted_first v before h = first_of_line (Parted v) h.0 before (λ x line ids has. later x line ids (subst Has (is_parted x line) has))
    where
      later : (x : SheetFlaw) → line_of x ≡ 3 → HasIdsBefore x (Parted v) → ¬ Has (Parted (first_id x))
      later x line (inl less) = h.1 (first_id x) less
      later x line (inr second) = let less = second.1 in absurd (omega (arith, less))

  pub parted_passed : None 3 → ((v : ℕ) → ¬ Has (Parted v)) → None 4
  parted_passed before none = one_passed 3 before (λ x line has. none (first_id x) (subst Has (is_parted x line) has))

  pub empty_first : None 4 → Has EmptySheet → IsFirstFlaw K vertices edges faces EmptySheet
  empty_first before has = first_of_line EmptySheet has before (λ x line ids there. later x ids)
    where
      later : (x : SheetFlaw) → HasIdsBefore x EmptySheet → ⊥
      later x (inl less) = omega (arith, less)
      later x (inr second) = let less = second.1 in omega (arith, less)

  pub empty_passed : None 4 → ¬ Has EmptySheet → None 5
  empty_passed before none = one_passed 4 before (λ x line has. none (subst Has (is_empty_sheet x line) has))
