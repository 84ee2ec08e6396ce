-- lines have one answer
use Rattle.std.proofs.Common.{◌≡◌, ℕ, suc, List, [], ◌∷◌, ◌++◌, length, refl, sym, ◌∙◌, ap, subst, Result, Ok, Err, arith}
use Rattle.std.specs.List.{AllByRecursion, AllZip}
use Rattle.algebra.specs.LowestTerms.{Parts}
use Rattle.cp_lines.specs.declared.line.CpLine.{CpLine}
use Rattle.number_rules.specs.declared.unread.Unread.{Unread}
use Rattle.scaled_plane.specs.declared.drawing.Ends.{Ends}
use Rattle.scaled_plane.specs.declared.point.Pair.{Pair}
use Rattle.crease_input.specs.Lines.{IsOfOne, IsPoint, IsCrease, IsUnreadAt, AnswersEnds, coordinates_of, place_of, ends_of}
use Rattle.crease_input.specs.declared.crease.Crease.{Crease}
use Rattle.crease_input.specs.declared.fault.Axis.{Axis}
use Rattle.crease_input.specs.declared.fault.Axis.TheVariants.{X, Y}
use Rattle.crease_input.proofs.Unread.{lines_read}

ok_once : {T E : Type 0} (x y : T) → let r : Result T E = Ok x in r ≡ Ok y → x ≡ y
ok_once {T} {E} x y e = ap inside e
  where
    inside : Result T E → T
    inside (Ok t) = t
    inside (Err f) = x

pub err_once : {T E : Type 0} (c d : E) → let r : Result T E = Err c in r ≡ Err d → c ≡ d
err_once {T} {E} c d e = ap inside e
  where
    inside : Result T E → E
    inside (Ok t) = c
    inside (Err f) = f

pub head_once : {A : Type 0} (x y : A) (xs ys : List A) → x ∷ xs ≡ y ∷ ys → x ≡ y
head_once {A} x y xs ys e = ap first e
  where
    first : List A → A
    first [] = x
    first (z ∷ zs) = z

pub tail_once : {A : Type 0} (x y : A) (xs ys : List A) → x ∷ xs ≡ y ∷ ys → xs ≡ ys
tail_once {A} x y xs ys e = ap rest e
  where
    rest : List A → List A
    rest [] = xs
    rest (z ∷ zs) = zs

module _ {N : Type 0} (answers : List ℕ → Result N Unread → Type 0) (one : IsOfOne answers) where
  number_once : (text : List ℕ) (x y : N) → answers text (Ok x) → answers text (Ok y) → x ≡ y
  number_once text x y is as' = ok_once x y (one text (Ok x) (Ok y) is as')

  pub point_once : (x y : List ℕ) (p q : Pair N) → IsPoint answers x y p → IsPoint answers x y q → p ≡ q
  point_once x y p q is as' =
      λ i. record { x = number_once x p.x q.x is.0 as'.0 i; y = number_once y p.y q.y is.1 as'.1 i }

  creases_once : (lines : List CpLine) (cs ds : List (Crease N)) → AllZip (IsCrease answers) lines cs
      → AllZip (IsCrease answers) lines ds → cs ≡ ds
  creases_once [] [] [] are has = refl
  creases_once [] [] (d ∷ ds) are has = absurd has
  creases_once [] (c ∷ cs) ds are has = absurd are
  creases_once (l ∷ ls) [] ds are has = absurd are
  creases_once (l ∷ ls) (c ∷ cs) [] are has = absurd has
  creases_once (l ∷ ls) (c ∷ cs) (d ∷ ds) are has =
      let rest = creases_once ls cs ds are.1 has.1 in
      λ i. record {
        from = point_once l.x1 l.y1 c.from d.from are.0.from has.0.from i;
        to = point_once l.x2 l.y2 c.to d.to are.0.to has.0.to i;
        letter = (are.0.letter ∙ sym has.0.letter) i;
      } ∷ rest i

  pub ends_once : (parts : N → Parts) (lines : List CpLine) (e f : Ends N) → AnswersEnds parts answers lines (Ok e)
      → AnswersEnds parts answers lines (Ok f) → e ≡ f
  ends_once parts lines e f is has =
      is.2 ∙ ap (ends_of parts) (creases_once lines is.0 has.0 is.1 has.1) ∙ sym has.2

  abbrev IsRead : List ℕ → Type 0
  IsRead t = (x : N) × answers t (Ok x)

  -- a text that is read isn't refused
  pub not_refused : (t u : List ℕ) (c : Unread) → t ≡ u → IsRead t → answers u (Err c) → ⊥
  not_refused t u c same read refused =
      let clash : Ok read.0 ≡ Err c = one u (Ok read.0) (Err c) (subst (λ s. answers s (Ok read.0)) same read.1) refused in cc

  pub first_once : (b1 b2 : List (List ℕ)) (t1 t2 : List ℕ) (a1 a2 : List (List ℕ)) (c d : Unread)
      → b1 ++ t1 ∷ a1 ≡ b2 ++ t2 ∷ a2 → AllByRecursion IsRead b1 → AllByRecursion IsRead b2
      → answers t1 (Err c) → answers t2 (Err d) → (length b1 ≡ length b2) × (c ≡ d)
  first_once [] [] t1 t2 a1 a2 c d e r1 r2 is has =
      (refl, err_once c d (one t2 (Err c) (Err d) (subst (λ t. answers t (Err c)) (head_once t1 t2 a1 a2 e) is) has))
  first_once [] (x ∷ b2) t1 t2 a1 a2 c d e r1 r2 is has =
      absurd (not_refused x t1 c (sym (head_once t1 x a1 (b2 ++ t2 ∷ a2) e)) r2.0 is)
  first_once (x ∷ b1) [] t1 t2 a1 a2 c d e r1 r2 is has =
      absurd (not_refused x t2 d (head_once x t2 (b1 ++ t1 ∷ a1) a2 e) r1.0 has)
  first_once (x ∷ b1) (y ∷ b2) t1 t2 a1 a2 c d e r1 r2 is has =
      let rest = first_once b1 b2 t1 t2 a1 a2 c d (tail_once x y (b1 ++ t1 ∷ a1) (b2 ++ t2 ∷ a2) e) r1.1 r2.1 is has in
      (ap suc rest.0, rest.1)

  place_once : (v w : ℕ) (a b : Axis) → place_of v a ≡ place_of w b → (v ≡ w) × (a ≡ b)
  place_once v w X X e = (omega (arith, e), refl)
  place_once v w Y Y e = (omega (arith, e), refl)
  place_once v w X Y e = absurd (omega (arith, e))
  place_once v w Y X e = absurd (omega (arith, e))

  pub unread_once : (lines : List CpLine) (v w : ℕ) (a b : Axis) (c d : Unread)
      → IsUnreadAt answers (coordinates_of lines) (place_of v a) c
      → IsUnreadAt answers (coordinates_of lines) (place_of w b) d → (v ≡ w) × (a ≡ b) × (c ≡ d)
  unread_once lines v w a b c d is has =
      let same = first_once is.before has.before is.text has.text is.after has.after c d (sym is.split ∙ has.split) is.read has.read is.refused has.refused in
      let place = place_once v w a b (sym is.count ∙ same.0 ∙ has.count) in
      (place.0, place.1, same.1)

  pub read_or_not : (b : List (List ℕ)) (t : List ℕ) (a : List (List ℕ)) (c : Unread)
      → AllByRecursion IsRead (b ++ t ∷ a) → answers t (Err c) → ⊥
  read_or_not [] t a c read refused = not_refused t t c refl read.0 refused
  read_or_not (x ∷ b) t a c read refused = read_or_not b t a c read.1 refused

  pub not_both : (parts : N → Parts) (lines : List CpLine) (e : Ends N) (v : ℕ) (a : Axis) (c : Unread)
      → AnswersEnds parts answers lines (Ok e)
      → ¬ IsUnreadAt answers (coordinates_of lines) (place_of v a) c
  not_both parts lines e v a c is has =
      read_or_not has.before has.text has.after c
      (subst (AllByRecursion IsRead) has.split (lines_read answers lines is.0 is.1).0) has.refused
