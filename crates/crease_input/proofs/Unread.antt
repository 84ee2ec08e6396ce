-- which coordinate is the first that isn't read
use Rattle.std.proofs.Common.{◌≡◌, ℕ, ◌+◌, ◌*◌, List, [], ◌∷◌, ◌++◌, length, refl, sym, ◌∙◌, ap, subst, Result, Ok, Err, arith}
use Rattle.std.specs.List.{AllByRecursion, AllZip}
use Rattle.std.proofs.lemmas.Grind.{flat_map-append}
use Rattle.std.proofs.lemmas.List.{append_assoc, length-append}
use Rattle.cp_lines.specs.declared.line.CpLine.{CpLine}
use Rattle.number_rules.specs.declared.unread.Unread.{Unread}
use Rattle.scaled_plane.specs.declared.point.Pair.{Pair}
use Rattle.crease_input.specs.Lines.{coordinates, coordinates_of, IsPoint, IsCrease, IsUnreadAt, AnswersNumber, AnswersPoint, AnswersLine, place_of, place_of_axis}
use Rattle.crease_input.specs.declared.crease.Crease.{Crease}
use Rattle.crease_input.specs.declared.fault.Axis.{Axis}
use Rattle.crease_input.specs.declared.fault.Axis.TheVariants.{X, Y}
use Rattle.crease_input.specs.declared.fault.InputFault.{InputFault}
use Rattle.crease_input.specs.declared.fault.InputFault.TheVariants as faults

all_append : {A : Type 0} (P : A → Type 0) (xs ys : List A) → AllByRecursion P xs → AllByRecursion P ys
    → AllByRecursion P (xs ++ ys)
all_append P [] ys all more = more
all_append P (x ∷ xs) ys all more = (all.0, all_append P xs ys all.1 more)

module _ {N : Type 0} (answers : List ℕ → Result N Unread → Type 0) where
  abbrev pub IsRead : List ℕ → Type 0
  IsRead t = (x : N) × answers t (Ok x)

  -- texts that are read before, and any texts behind
  among : (front texts rest : List (List ℕ)) (place : ℕ) (cause : Unread)
      → AllByRecursion IsRead front → IsUnreadAt answers texts place cause
      → IsUnreadAt answers (front ++ (texts ++ rest)) (length front + place) cause
  among front texts rest place cause read is = record {
    before = front ++ is.before;
    text = is.text;
    after = is.after ++ rest;
    split = ap (λ t. front ++ (t ++ rest)) is.split
        ∙ ap (λ t. front ++ t) (append_assoc is.before (is.text ∷ is.after) rest)
        ∙ sym (append_assoc front is.before (is.text ∷ is.after ++ rest));
    count = length-append front is.before ∙ ap (λ n. length front + n) is.count;
    read = all_append IsRead front is.before read is.read;
    refused = is.refused;
  }

  pub x_refused : (x y : List ℕ) (vertex : ℕ) (fault : InputFault)
      → AnswersNumber answers x vertex X (Err fault) → AnswersPoint answers x y vertex (Err fault)
  x_refused x y vertex (faults.Unread v a cause) is = (
    is.0,
    record {
      before = [];
      text = x;
      after = y ∷ [];
      split = refl;
      count = sym (ap place_of_axis is.1);
      read = tt;
      refused = is.2;
    },
  )
  x_refused x y vertex (faults.Missing key) is = absurd is
  x_refused x y vertex (faults.TooMany what) is = absurd is
  x_refused x y vertex (faults.NotFlat v) is = absurd is
  x_refused x y vertex (faults.Stale v) is = absurd is
  x_refused x y vertex (faults.Memory e) is = absurd is

  pub y_refused : (x y : List ℕ) (vertex : ℕ) (number : N) (fault : InputFault) → answers x (Ok number)
      → AnswersNumber answers y vertex Y (Err fault) → AnswersPoint answers x y vertex (Err fault)
  y_refused x y vertex number (faults.Unread v a cause) read is = (
    is.0,
    record {
      before = x ∷ [];
      text = y;
      after = [];
      split = refl;
      count = sym (ap place_of_axis is.1);
      read = ((number, read), tt);
      refused = is.2;
    },
  )
  y_refused x y vertex number (faults.Missing key) read is = absurd is
  y_refused x y vertex number (faults.TooMany what) read is = absurd is
  y_refused x y vertex number (faults.NotFlat v) read is = absurd is
  y_refused x y vertex number (faults.Stale v) read is = absurd is
  y_refused x y vertex number (faults.Memory e) read is = absurd is

  pub from_refused : (line : CpLine) (number vertex : ℕ) (fault : InputFault) → vertex ≡ 2 * number
      → AnswersPoint answers line.x1 line.y1 vertex (Err fault)
      → AnswersLine answers line number (Err fault)
  from_refused line number vertex (faults.Unread v a cause) twice is = (
    0 + place_of_axis a,
    among [] (line.x1 ∷ line.y1 ∷ []) (line.x2 ∷ line.y2 ∷ []) (place_of_axis a) cause tt is.1,
    omega (arith, twice, is.0),
  )
  from_refused line number vertex (faults.Missing key) twice is = absurd is
  from_refused line number vertex (faults.TooMany what) twice is = absurd is
  from_refused line number vertex (faults.NotFlat v) twice is = absurd is
  from_refused line number vertex (faults.Stale v) twice is = absurd is
  from_refused line number vertex (faults.Memory e) twice is = absurd is

  pub to_refused : (line : CpLine) (number vertex : ℕ) (from : Pair N) (fault : InputFault)
      → vertex ≡ 2 * number + 1 → IsPoint answers line.x1 line.y1 from
      → AnswersPoint answers line.x2 line.y2 vertex (Err fault)
      → AnswersLine answers line number (Err fault)
  to_refused line number vertex from (faults.Unread v a cause) next read is = (
    2 + place_of_axis a,
    among (line.x1 ∷ line.y1 ∷ []) (line.x2 ∷ line.y2 ∷ []) [] (place_of_axis a) cause
        ((from.x, read.0), ((from.y, read.1), tt)) is.1,
    omega (arith, next, is.0),
  )
  to_refused line number vertex from (faults.Missing key) next read is = absurd is
  to_refused line number vertex from (faults.TooMany what) next read is = absurd is
  to_refused line number vertex from (faults.NotFlat v) next read is = absurd is
  to_refused line number vertex from (faults.Stale v) next read is = absurd is
  to_refused line number vertex from (faults.Memory e) next read is = absurd is

  -- ---- lines

  pub lines_read : (lines : List CpLine) (creases : List (Crease N))
      → AllZip (IsCrease answers) lines creases
      → AllByRecursion IsRead (coordinates_of lines) × (length (coordinates_of lines) ≡ 4 * length lines)
  lines_read [] [] are = (tt, refl)
  lines_read [] (c ∷ cs) are = absurd are
  lines_read (l ∷ ls) [] are = absurd are
  lines_read (l ∷ ls) (c ∷ cs) are =
      let rest = lines_read ls cs are.1 in (
        (
          (c.from.x, are.0.from.0),
          ((c.from.y, are.0.from.1), ((c.to.x, are.0.to.0), ((c.to.y, are.0.to.1), rest.0))),
        ),
        omega (arith, rest.1),
      )

  -- a line after others that are read
  pub line_refused : (lines front back : List CpLine) (line : CpLine) (creases : List (Crease N))
      (vertex : ℕ) (axis : Axis) (cause : Unread)
      → lines ≡ front ++ line ∷ back → AllZip (IsCrease answers) front creases
      → AnswersLine answers line (length front) (Err (faults.Unread vertex axis cause))
      → IsUnreadAt answers (coordinates_of lines) (place_of vertex axis) cause
  line_refused lines front back line creases vertex axis cause split are is =
      let read = lines_read front creases are in
      subst (λ n. IsUnreadAt answers (coordinates_of lines) n cause)
      (let count = read.1 in omega (arith, count, is.2))
      (subst (λ ts. IsUnreadAt answers ts (length (coordinates_of front) + is.0) cause)
      (sym (ap coordinates_of split ∙ flat_map-append coordinates front (line ∷ back)))
      (among (coordinates_of front) (coordinates line) (coordinates_of back) is.0 cause read.0 is.1))
