-- the printed text of lines spells them
use Rattle.std.proofs.Common.{◌≡◌, ℕ, suc, ◌+◌, ◌<◌, List, [], ◌∷◌, ◌++◌, length, take, get_or, All, refl, sym, ◌∙◌, ap, subst, append_assoc, arith, inl, Some, None, Result, Ok, Err, OnOk}
use Rattle.std.specs.Prelude.{is_ok, if◌then◌else◌}
use Rattle.std.proofs.lemmas.List.{append-nil, take_more, flat_map_more}
use Rattle.std.proofs.lemmas.List.Elements.{All-nil, All-cons, All-append}
use Rattle.cp_lines.specs.CpText.{EndedLines, none, one_more, SpellsLine, CpText}
use Rattle.cp_lines.specs.Print.{IsPrintable, spaced, printed_line, printed_form}
use Rattle.cp_lines.specs.declared.line.CpLine.{CpLine}

abbrev front : CpLine → List ℕ
front l = (l.kind + 48) ∷ [] ++ spaced l.x1 ++ spaced l.y1 ++ spaced l.x2 ++ spaced l.y2

front_spells : (l : CpLine) → IsPrintable l → SpellsLine (front l) (Some l)
front_spells l p = (
  front l,
  [],
  sym (append-nil _),
  (
    [],
    spaced l.x1 ++ spaced l.y1 ++ spaced l.x2 ++ spaced l.y2,
    simp append_assoc,
    tt,
    p.kind,
    (
      32 ∷ [],
      spaced l.y1 ++ spaced l.x2 ++ spaced l.y2,
      simp append_assoc,
      (inl refl, tt),
      p.x1,
      (
        32 ∷ [],
        spaced l.x2 ++ spaced l.y2,
        simp append_assoc,
        (inl refl, tt),
        p.y1,
        (32 ∷ [], spaced l.y2, simp append_assoc, (inl refl, tt), p.x2, (32 ∷ [], [], simp (append_assoc, append-nil), (inl refl, tt), p.y2, refl)),
      ),
    ),
  ),
  tt,
)

ended_printed : (before : List ℕ) (earlier lines : List CpLine) → EndedLines before earlier → All IsPrintable lines → EndedLines (before ++ printed_form lines) (earlier ++ lines)
ended_printed before earlier [] e p = subst (λ t. EndedLines t (earlier ++ [])) (sym (append-nil before)) (subst (EndedLines before) (sym (append-nil earlier)) e)
ended_printed before earlier (l ∷ lines) e p =
    let first : EndedLines (before ++ printed_line l) (earlier ++ l ∷ []) = one_more before (front l) (10 ∷ []) earlier (Some l) e (front_spells l (p 0 l (omega arith))) (inl refl) (simp append_assoc) refl in
    let rest = ended_printed (before ++ printed_line l) (earlier ++ l ∷ []) lines first (λ k d h. p (suc k) d (omega arith)) in
    subst (λ t. EndedLines t (earlier ++ l ∷ lines)) (append_assoc before (printed_line l) (printed_form lines)) (subst (EndedLines ((before ++ printed_line l) ++ printed_form lines)) (append_assoc earlier (l ∷ []) lines) rest)

pub printed_spells : (lines : List CpLine) → All IsPrintable lines → CpText (printed_form lines) lines
printed_spells lines p = (printed_form lines, [], lines, None, ended_printed [] [] lines none p, tt, sym (append-nil (printed_form lines)), sym (append-nil lines))

-- one line more
pub printed_more : (lines : List CpLine) (i : ℕ) (d : CpLine) → i < length lines → printed_form (take (i + 1) lines) ≡ printed_form (take i lines) ++ printed_line (get_or lines i d)
printed_more lines i d h = ap printed_form (take_more lines i d h) ∙ sym (flat_map_more printed_line [] (take i lines) (get_or lines i d))

pub printable_more : (lines : List CpLine) (i : ℕ) (d : CpLine) → i < length lines → All IsPrintable (take i lines) → IsPrintable (get_or lines i d) → All IsPrintable (take (i + 1) lines)
printable_more lines i d h a p =
    subst (All IsPrintable) (sym (take_more lines i d h)) (All-append IsPrintable (take i lines) (get_or lines i d ∷ []) a (All-cons IsPrintable (get_or lines i d) [] p (All-nil IsPrintable)))

-- what a push leaves where it succeeds
pub pushed : {A E : Type 0} (r : Result A E) (new old added : List ℕ) → new ≡ (if is_ok r then old ++ added else old) → OnOk r (new ≡ old ++ added)
pushed (Ok a) new old added e = e
pushed (Err x) new old added e = tt

-- what is put out of a line, step by step
pub line_printed : (l : CpLine) (out kind x1 y1 x2 y2 all : List ℕ) → kind ≡ out ++ (l.kind + 48) ∷ [] → x1 ≡ kind ++ spaced l.x1 → y1 ≡ x1 ++ spaced l.y1 → x2 ≡ y1 ++ spaced l.x2
    → y2 ≡ x2 ++ spaced l.y2 → all ≡ y2 ++ 10 ∷ [] → all ≡ out ++ printed_line l
line_printed l out kind x1 y1 x2 y2 all e1 e2 e3 e4 e5 e6 =
    rw (e6, e5, e4, e3, e2, e1) (in_order out ((l.kind + 48) ∷ []) (spaced l.x1) (spaced l.y1) (spaced l.x2) (spaced l.y2) (10 ∷ []))
  where
    in_order : (out k a b c d e : List ℕ) → out ++ k ++ a ++ b ++ c ++ d ++ e ≡ out ++ (k ++ a ++ b ++ c ++ d ++ e)
    in_order out k a b c d e = simp append_assoc
