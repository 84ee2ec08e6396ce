-- Labels of faces, edge by edge: one edge more gives the faces at its two sides one label.
use Rattle.std.proofs.Common.{◌≡◌, ◌∙◌, ap, sym, refl, subst, ℕ, List, ◌<◌, ◌+◌, length, Bool, true, false, Some, None, inl, inr, ◌⊎◌, arith, ◌==◌}
use Rattle.std.specs.Prelude.{if◌then◌else◌, slice_index}
use Rattle.std.specs.BTreeMap.{BTreeMap}
use Rattle.std.proofs.lemmas.Bool.{cases_lt}
use Rattle.std.proofs.lemmas.Bool.Decides.{Decides-eqb}
use Rattle.scaled_plane.specs.declared.drawing.Edge.{Edge}
use Rattle.scaled_plane.specs.Lists.{IsReached}
use Rattle.scaled_plane.specs.Lists.IsReached.{begun, gone_on}
use Rattle.flat_fold.specs.declared.sides.Side.{Side}
use Rattle.flat_fold.specs.Faces.{edge_at}
use Rattle.sheet_check.specs.Labels.{AreLabelled, AreOwn, Crosses, Relabels, crossing_of, relabelled}

some_pair : {p q : ℕ × ℕ} → Some p ≡ Some q → p ≡ q
some_pair e = cc

-- a label that is put aside, and one that stays
relabel_cases : (gone kept x : ℕ) → ((x ≡ gone) × (relabelled gone kept x ≡ kept)) ⊎ ((¬ (x ≡ gone)) × (relabelled gone kept x ≡ x))
relabel_cases gone kept x = by (x == gone) refl
  where
    by : (b : Bool) → (x == gone) ≡ b → ((x ≡ gone) × (relabelled gone kept x ≡ kept)) ⊎ ((¬ (x ≡ gone)) × (relabelled gone kept x ≡ x))
    by true e = inl ((Decides-eqb x gone).0 e, ap (λ (b : Bool). if b then kept else x) e)
    by false e = inr (λ same. (let no : true ≡ false = sym ((Decides-eqb x gone).1 same) ∙ e in absurd (cc)), ap (λ (b : Bool). if b then kept else x) e)

module _ (pieces : BTreeMap (ℕ × ℕ) Side) (edges : List Edge) where
  abbrev Hang : ℕ → ℕ → Type 0
  Hang f g = IsReached (Crosses pieces edges) f g

  hang_then : (f g h : ℕ) → Hang f g → Hang g h → Hang f h
  hang_then f g h a begun = a
  hang_then f g h a (gone_on x before step) = gone_on x (hang_then f g x a before) step

  crosses_back : (f g : ℕ) → Crosses pieces edges f g → Crosses pieces edges g f
  crosses_back f g (e, l, inl there) = (e, l, inr there)
  crosses_back f g (e, l, inr back) = (e, l, inl back)

  hang_back : (f g : ℕ) → Hang f g → Hang g f
  hang_back f g begun = begun
  hang_back f g (gone_on x before step) = hang_then g x f (gone_on g begun (crosses_back x g step)) (hang_back f x before)

  pub own_labelled : (labels : List ℕ) → AreOwn (length labels) labels → AreLabelled pieces edges 0 (length labels) labels
  own_labelled labels h = record {
    long = refl;
    joined = λ e f g l. absurd (omega (arith, l));
    only = λ f g l m same. let is : f ≡ g = sym (h.own f l) ∙ same ∙ h.own g m in subst (λ (x : ℕ). Hang f x) is begun;
  }

  module _ (n count : ℕ) (less : n < length edges) (old : List ℕ) (h : AreLabelled pieces edges n count old) where
    -- an edge that can't be crossed changes nothing
    pub labelled_past : crossing_of pieces (edge_at edges n) ≡ None → AreLabelled pieces edges (n + 1) count old
    labelled_past none = record {
      long = h.long;
      joined = λ e f g l is. elim (cases_lt e n) [
        | inl earlier ↦ h.joined e f g earlier is
        | inr last ↦
            let same : e ≡ n = omega (arith, l, last) in
            let some : crossing_of pieces (edge_at edges n) ≡ Some (f, g) = ap (λ (x : ℕ). crossing_of pieces (edge_at edges x)) (sym same) ∙ is in
            absurd (let no : Some (f, g) ≡ None = sym some ∙ none in cc)
      ];
      only = h.only;
    }

    module _ (p q : ℕ) (crossing : crossing_of pieces (edge_at edges n) ≡ Some (p, q)) (p_in : p < count) (q_in : q < count)
        (in_range : (e f g : ℕ) → crossing_of pieces (edge_at edges e) ≡ Some (f, g) → (f < count) × (g < count))
        (new : List ℕ) (r : Relabels (slice_index old q) (slice_index old p) old new) where
      gone : ℕ
      gone = slice_index old q

      at : (x : ℕ) → x < count → slice_index new x ≡ relabelled (slice_index old q) (slice_index old p) (slice_index old x)
      at x l = let all = h.long in r.each x (omega (arith, l, all))

      at_p : slice_index new p ≡ slice_index old p
      at_p = elim (relabel_cases (slice_index old q) (slice_index old p) (slice_index old p)) [
        | inl put ↦ at p p_in ∙ put.1
        | inr stays ↦ at p p_in ∙ stays.1
      ]

      at_q : slice_index new q ≡ slice_index old p
      at_q = elim (relabel_cases (slice_index old q) (slice_index old p) (slice_index old q)) [
        | inl put ↦ at q q_in ∙ put.1
        | inr stays ↦ absurd (stays.0 refl)
      ]

      step : Hang p q
      step = gone_on p begun (n, less, inl crossing)

      hang_by : (f g : ℕ) → f < count → g < count → slice_index new f ≡ slice_index new g → Hang f g
      hang_by f g l m same = elim (relabel_cases (slice_index old q) (slice_index old p) (slice_index old f)) [
        | inl f_put ↦ elim (relabel_cases (slice_index old q) (slice_index old p) (slice_index old g)) [
          | inl g_put ↦ h.only f g l m (f_put.0 ∙ sym g_put.0)
          | inr g_stays ↦
              let to_q : Hang f q = h.only f q l q_in f_put.0 in
              let from_p : Hang p g = h.only p g p_in m (sym f_put.1 ∙ sym (at f l) ∙ same ∙ at g m ∙ g_stays.1) in
              hang_then f q g to_q (hang_then q p g (hang_back p q step) from_p)
        ]
        | inr f_stays ↦ elim (relabel_cases (slice_index old q) (slice_index old p) (slice_index old g)) [
          | inl g_put ↦
              let to_p : Hang f p = h.only f p l p_in (sym f_stays.1 ∙ sym (at f l) ∙ same ∙ at g m ∙ g_put.1) in
              let from_q : Hang q g = h.only q g q_in m (sym g_put.0) in
              hang_then f p g to_p (hang_then p q g step from_q)
          | inr g_stays ↦ h.only f g l m (sym f_stays.1 ∙ sym (at f l) ∙ same ∙ at g m ∙ g_stays.1)
        ]
      ]

      pub labelled_more : AreLabelled pieces edges (n + 1) count new
      labelled_more = record {
        long = r.long ∙ h.long;
        joined = λ e f g l is. elim (cases_lt e n) [
          | inl earlier ↦
              let within = in_range e f g is in
              at f within.0 ∙ ap (λ (x : ℕ). relabelled (slice_index old q) (slice_index old p) x) (h.joined e f g earlier is) ∙ sym (at g within.1)
          | inr last ↦
              let same : e ≡ n = omega (arith, l, last) in
              let some : crossing_of pieces (edge_at edges n) ≡ Some (f, g) = ap (λ (x : ℕ). crossing_of pieces (edge_at edges x)) (sym same) ∙ is in
              let pair : (f, g) ≡ (p, q) = some_pair (sym some ∙ crossing) in
              let is_f : f ≡ p = ap (λ (t : ℕ × ℕ). t.0) pair in
              let is_g : g ≡ q = ap (λ (t : ℕ × ℕ). t.1) pair in
              ap (λ (x : ℕ). slice_index new x) is_f ∙ at_p ∙ sym at_q ∙ ap (λ (x : ℕ). slice_index new x) (sym is_g)
        ];
        only = hang_by;
      }
