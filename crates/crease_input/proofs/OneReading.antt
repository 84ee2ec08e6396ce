-- lines have one reading by a row, and there is one
use Rattle.std.proofs.Common.{◌≡◌, ◌⊎◌, inl, inr, ℕ, zero, suc, List, [], ◌∷◌, refl, sym, ◌∙◌, ap, subst, Result, Ok, Err, arith}
use Rattle.std.specs.List.{AllByRecursion, AllZip}
use Rattle.algebra.specs.LowestTerms.{Parts}
use Rattle.cp_lines.specs.declared.line.CpLine.{CpLine}
use Rattle.number_rules.specs.OneReading.{ReadsText}
use Rattle.number_rules.specs.declared.decimal.Decimal.{Decimal}
use Rattle.number_rules.specs.declared.unread.Row.{Row}
use Rattle.number_rules.specs.declared.unread.Unread.{Unread}
use Rattle.scaled_plane.specs.declared.drawing.Ends.{Ends}
use Rattle.crease_input.specs.Lines.{Answers, IsOfOne, IsCrease, IsUnreadAt, AnswersEnds, coordinates_of, place_of, letter_of, ends_of}
use Rattle.crease_input.specs.Readings.{ReadsEnds, HaveEnds, HaveUnread}
use Rattle.crease_input.specs.declared.crease.Crease.{Crease}
use Rattle.crease_input.specs.declared.fault.Axis.{Axis}
use Rattle.crease_input.specs.declared.fault.Axis.TheVariants.{X, Y}
use Rattle.crease_input.specs.declared.fault.InputFault.{InputFault}
use Rattle.crease_input.specs.declared.fault.InputFault.TheVariants as faults
use Rattle.crease_input.proofs.OneAnswer.{ends_once, unread_once, not_both}
use Rattle.crease_input.proofs.Unread.{IsRead}

-- ---- answers that say less

module _ {N : Type 0} (more less : List ℕ → Result N Unread → Type 0) (weakens : (t : List ℕ) (r : Result N Unread) → more t r → less t r) where
  creases_by : (lines : List CpLine) (creases : List (Crease N)) → AllZip (IsCrease more) lines creases → AllZip (IsCrease less) lines creases
  creases_by [] [] are = tt
  creases_by [] (c ∷ cs) are = absurd are
  creases_by (l ∷ ls) [] are = absurd are
  creases_by (l ∷ ls) (c ∷ cs) are = (
    record {
      from = (weakens l.x1 (Ok c.from.x) are.0.from.0, weakens l.y1 (Ok c.from.y) are.0.from.1);
      to = (weakens l.x2 (Ok c.to.x) are.0.to.0, weakens l.y2 (Ok c.to.y) are.0.to.1);
      letter = are.0.letter;
    },
    creases_by ls cs are.1,
  )

  read_by : (texts : List (List ℕ)) → AllByRecursion (λ t. (x : N) × more t (Ok x)) texts → AllByRecursion (λ t. (x : N) × less t (Ok x)) texts
  read_by [] all = tt
  read_by (t ∷ ts) all = ((all.0.0, weakens t (Ok all.0.0) all.0.1), read_by ts all.1)

  pub unread_by : (texts : List (List ℕ)) (place : ℕ) (cause : Unread) → IsUnreadAt more texts place cause → IsUnreadAt less texts place cause
  unread_by texts place cause is = record {
    before = is.before;
    text = is.text;
    after = is.after;
    split = is.split;
    count = is.count;
    read = read_by is.before is.read;
    refused = weakens is.text (Err cause) is.refused;
  }

  ends_by : (parts : N → Parts) (lines : List CpLine) (r : Result (Ends N) InputFault) → AnswersEnds parts more lines r → AnswersEnds parts less lines r
  ends_by parts lines (Ok ends) is = (is.0, creases_by lines is.0 is.1, is.2)
  ends_by parts lines (Err (faults.Unread vertex axis cause)) is = unread_by (coordinates_of lines) (place_of vertex axis) cause is
  ends_by parts lines (Err (faults.Memory e)) is = is
  ends_by parts lines (Err fault) is = is

pub by_row : {N : Type 0} (k : ℕ) (parts : N → Parts) (row : Row) (gives : Decimal → Result N Unread → Type 0) (lines : List CpLine) (r : Result (Ends N) InputFault)
    → AnswersEnds parts (Answers k parts row gives) lines r → ReadsEnds k parts row lines r
by_row k parts row gives lines r is = ends_by (Answers k parts row gives) (ReadsText k parts row) (λ t s a. (a.decimal, (a.of_text, a.by_row))) parts lines r is

-- ---- there is one

end_of : (place : ℕ) → (vertex : ℕ) × (axis : Axis) × (place_of vertex axis ≡ place)
end_of zero = (0, X, refl)
end_of (suc place) = next (end_of place)
  where
    next : (vertex : ℕ) × (axis : Axis) × (place_of vertex axis ≡ place) → (vertex : ℕ) × (axis : Axis) × (place_of vertex axis ≡ suc place)
    next (vertex, X, e) = (vertex, Y, omega (arith, e))
    next (vertex, Y, e) = (suc vertex, X, omega (arith, e))

module _ {N : Type 0} (answers : List ℕ → Result N Unread → Type 0) where
  creases_of : (lines : List CpLine) → AllByRecursion (IsRead answers) (coordinates_of lines) → (creases : List (Crease N)) × AllZip (IsCrease answers) lines creases
  creases_of [] all = ([], tt)
  creases_of (l ∷ ls) (x1, (y1, (x2, (y2, all)))) =
      let rest = creases_of ls all in (
        record { from = record { x = x1.0; y = y1.0 }; to = record { x = x2.0; y = y2.0 }; letter = letter_of l.kind } ∷ rest.0,
        (record { from = (x1.1, y1.1); to = (x2.1, y2.1); letter = refl }, rest.1),
      )

  module _ (some : (t : List ℕ) → (r : Result N Unread) × answers t r) where
    abbrev HasUnread : List (List ℕ) → Type 0
    HasUnread texts = (place : ℕ) × (cause : Unread) × IsUnreadAt answers texts place cause

    all_or_first : (texts : List (List ℕ)) → AllByRecursion (IsRead answers) texts ⊎ HasUnread texts
    all_or_first [] = inl tt
    all_or_first (t ∷ ts) = at_first (some t) (all_or_first ts)
      where
        at_first : (r : Result N Unread) × answers t r → AllByRecursion (IsRead answers) ts ⊎ HasUnread ts → AllByRecursion (IsRead answers) (t ∷ ts) ⊎ HasUnread (t ∷ ts)
        at_first (Ok x, is) (inl all) = inl ((x, is), all)
        at_first (Ok x, is) (inr (place, cause, at)) = inr (
          suc place,
          cause,
          record {
            before = t ∷ at.before;
            text = at.text;
            after = at.after;
            split = ap (λ (us : List (List ℕ)). t ∷ us) at.split;
            count = ap suc at.count;
            read = ((x, is), at.read);
            refused = at.refused;
          },
        )
        at_first (Err cause, is) rest = inr (0, cause, record { before = []; text = t; after = ts; split = refl; count = refl; read = tt; refused = is })

-- ---- by a row

module _ {N : Type 0} (k : ℕ) (parts : N → Parts) (row : Row) (one : IsOfOne (ReadsText k parts row)) (lines : List CpLine) where
  pub have_ends_once : (e f : Ends N) → HaveEnds k parts row lines e → HaveEnds k parts row lines f → e ≡ f
  have_ends_once e f is has = ends_once (ReadsText k parts row) one parts lines e f is has

  pub have_unread_once : (e f : InputFault) → HaveUnread k parts row lines e → HaveUnread k parts row lines f → e ≡ f
  have_unread_once e f (v, a, c, e_is, is) (w, b, d, f_is, has) =
      let same = unread_once (ReadsText k parts row) one lines v w a b c d is has in
      e_is ∙ (λ i. faults.Unread (same.0 i) (same.1 i) (same.2 i)) ∙ sym f_is

  pub apart : (e : Ends N) (f : InputFault) → HaveEnds k parts row lines e → ¬ HaveUnread k parts row lines f
  apart e f is (v, a, c, f_is, has) = not_both (ReadsText k parts row) one parts lines e v a c is has

pub some_reading : {N : Type 0} (k : ℕ) (parts : N → Parts) (row : Row) → ((t : List ℕ) → (r : Result N Unread) × ReadsText k parts row t r) → (lines : List CpLine)
    → ((e : Ends N) × HaveEnds k parts row lines e) ⊎ ((f : InputFault) × HaveUnread k parts row lines f)
some_reading {N} k parts row some lines = of_texts (all_or_first (ReadsText k parts row) some (coordinates_of lines))
  where
    of_texts : AllByRecursion (IsRead (ReadsText k parts row)) (coordinates_of lines) ⊎ HasUnread (ReadsText k parts row) some (coordinates_of lines)
        → ((e : Ends N) × HaveEnds k parts row lines e) ⊎ ((f : InputFault) × HaveUnread k parts row lines f)
    of_texts (inl all) =
        let creases = creases_of (ReadsText k parts row) lines all in
        inl (ends_of parts creases.0, (creases.0, creases.1, refl))
    of_texts (inr (place, cause, at)) =
        let end = end_of place in
        inr (
          faults.Unread end.0 end.1 cause,
          (end.0, end.1, cause, refl, subst (λ (p : ℕ). IsUnreadAt (ReadsText k parts row) (coordinates_of lines) p cause) (sym end.2) at),
        )
