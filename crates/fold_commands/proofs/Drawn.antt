-- lines have one drawing, and a drawing one file
use Rattle.std.proofs.Common.{◌≡◌, ◌⊎◌, ℕ, ◌<◌, ◌≤◌, ◌^◌, List, ◌∷◌, [], ◌++◌, length, inl, inr, refl, sym, ◌∙◌, ap, arith, codes, lit<, lit≤, Err, None}
use Rattle.std.specs.Prelude.{All}
use Rattle.std.specs.declared.option.Option.{Option}
use Rattle.std.specs.List.{AllByRecursion}
use Rattle.std.proofs.lemmas.List.Elements.{recursion_from_All}
use Rattle.algebra.specs.LowestTerms.{Parts}
use Rattle.cp_lines.specs.Short.{HasNumbersUpTo}
use Rattle.cp_lines.specs.declared.line.CpLine.{CpLine}
use Rattle.crease_input.specs.Files.{HasShortParts, IsDrawingFile, IsFileable}
use Rattle.crease_input.specs.Lines.{IsReadable, IsWithin}
use Rattle.crease_input.specs.Readings.{HaveEnds, HaveUnread, ReadsEnds}
use Rattle.crease_input.specs.declared.fault.InputFault.{InputFault}
use Rattle.crease_input.specs.declared.fault.InputFault.TheVariants as input
use Rattle.fold_keys.specs.Trees.{tree_of_file}
use Rattle.fold_keys.specs.declared.value.FaceOrder.{FaceOrder}
use Rattle.fold_keys.specs.declared.value.FoldFile.{FoldFile}
use Rattle.json_tree.specs.PrintedForm as json_form
use Rattle.number_rules.specs.OneReading.{IsRow}
use Rattle.number_rules.specs.declared.unread.Row.{Row}
use Rattle.number_rules.specs.declared.unread.Row.TheVariants as rows
use Rattle.rational.specs.Rationals.{rational_parts}
use Rattle.scaled_plane.specs.declared.drawing.Ends.{Ends}
use Rattle.scaled_plane.specs.declared.drawing.Face.{Face}
use Rattle.fold_commands.specs.Drawings.{AreSoundLines, DrawsBy, DrawsLines, LackEnds, NeverStops, WritesFile}
use Rattle.fold_commands.specs.Fields.{parts_over_three, parts_over_two}
use Rattle.fold_commands.specs.Status.{of_input}
use Rattle.fold_commands.specs.Steps.{IsStop}
use Rattle.fold_commands.specs.declared.denominator.Denominator.{Denominator}
use Rattle.fold_commands.specs.declared.number_option.NumberChoice.{NumberChoice}
use Rattle.fold_commands.specs.declared.number_option.NumberChoice.TheVariants.{Exact, Grid, RootTwo, RootThree}
use Rattle.fold_commands.specs.declared.status.Status.TheVariants.{Done, Memory}
use Rattle.fold_commands.proofs.Chain.{Comes, Goes, IsOne, IsStep, one_answer, one_then, some_then}

-- ---- what is asked of lines

readable_lines : (lines : List CpLine) → AllByRecursion (λ line. line.kind ≤ 4) lines → AllByRecursion (HasNumbersUpTo 16777216) lines
    → AllByRecursion IsReadable lines
readable_lines [] kinds short = tt
readable_lines (line ∷ lines) kinds short =
    let s = short.0 in
    (record { kind = kinds.0; numbers = (s.0, (s.1, (s.2, (s.3, tt)))) }, readable_lines lines kinds.1 short.1)

longer : (most : ℕ) (lines : List CpLine) → most ≤ 16777216 → AllByRecursion (HasNumbersUpTo most) lines → AllByRecursion (HasNumbersUpTo 16777216) lines
longer most [] few short = tt
longer most (line ∷ lines) few short =
    let s = short.0 in
    ((omega (arith, s.0), omega (arith, s.1), omega (arith, s.2), omega (arith, s.3)), longer most lines few short.1)

-- the lines of a text that isn't too long
pub sound_lines : (bytes : List ℕ) (lines : List CpLine) → length bytes ≤ 16777216 → All (λ line. line.kind ≤ 4) lines
    → length lines ≤ length bytes → AllByRecursion (HasNumbersUpTo (length bytes)) lines → AreSoundLines lines
sound_lines bytes lines few kinds count short = record {
  kinds = kinds;
  readable = readable_lines lines (recursion_from_All (λ line. line.kind ≤ 4) lines kinds) (longer (length bytes) lines few short);
  few = omega arith;
}

-- ---- vertices and edges

module _ {N : Type 0} (k : ℕ) (parts : N → Parts) (row : Row) where
  -- what isn't read stops, or memory is wanting
  pub lacks : (lines : List CpLine) (fault : InputFault) → ReadsEnds k parts row lines (Err fault)
      → (of_input fault ≡ Memory) ⊎ (IsStop (of_input fault) × LackEnds k parts row lines (of_input fault))
  lacks lines (input.Missing key) h = absurd h
  lacks lines (input.TooMany what) h = absurd h
  lacks lines (input.NotFlat vertex) h = absurd h
  lacks lines (input.Stale vertex) h = absurd h
  lacks lines (input.Unread vertex axis cause) h =
      inr (tt, (input.Unread vertex axis cause, (vertex, axis, cause, refl, h), refl))
  lacks lines (input.Memory e) h = inl refl

pub fileable : {N : Type 0} (parts : N → Parts) (lines : List CpLine) (ends : Ends N) → length lines < 2 ^ 31 → IsWithin lines ends
    → AllByRecursion (HasShortParts parts) ends.coords → IsFileable parts ends None None
fileable parts lines ends few within short = record {
  coords = short;
  few_vertices = omega (arith, within.vertices);
  few_edges = omega (arith, within.edges);
  edges = within.each;
  faces_fit = tt;
  orders_fit = tt;
}

-- ---- one drawing

-- by a row of the table lines have one reading, and a drawing has one file
pub record HaveOneDrawing {N : Type 0} (k : ℕ) (parts : N → Parts) : Type 0 where
  pub ends : (row : Row) → IsRow k row → (lines : List CpLine) (a b : Ends N) → HaveEnds k parts row lines a
      → HaveEnds k parts row lines b → a ≡ b
  pub unread : (row : Row) → IsRow k row → (lines : List CpLine) (e f : InputFault) → HaveUnread k parts row lines e
      → HaveUnread k parts row lines f → e ≡ f
  pub not_both : (row : Row) → IsRow k row → (lines : List CpLine) (a : Ends N) (f : InputFault) → HaveEnds k parts row lines a
      → ¬ HaveUnread k parts row lines f
  pub some : (row : Row) → IsRow k row → (lines : List CpLine)
      → ((a : Ends N) × HaveEnds k parts row lines a) ⊎ ((f : InputFault) × HaveUnread k parts row lines f)
  pub one_file : (class : List ℕ) (ends : Ends N) (faces : Option (List Face)) (orders : Option (List FaceOrder)) (f g : FoldFile)
      → IsDrawingFile k parts class ends faces orders f → IsDrawingFile k parts class ends faces orders g → f ≡ g
  pub some_file : (class : List ℕ) (ends : Ends N) (faces : Option (List Face)) (orders : Option (List FaceOrder))
      → (f : FoldFile) × IsDrawingFile k parts class ends faces orders f

-- the same over each root
pub record HaveOneDrawings : Type 0 where
  pub rational : HaveOneDrawing 1 rational_parts
  pub over_two : HaveOneDrawing 2 parts_over_two
  pub over_three : HaveOneDrawing 3 parts_over_three

module _ {N : Type 0} (k : ℕ) (parts : N → Parts) (one : HaveOneDrawing k parts) where
  -- a drawing is written in one way
  pub one_written_file : (class : List ℕ) (ends : Ends N) (faces : Option (List Face)) (orders : Option (List FaceOrder))
      → IsOne (WritesFile k parts class ends faces orders)
  one_written_file class ends faces orders =
      one_then _ _ _ (record { one_stop = λ s t p q. absurd p; one_value = one.one_file class ends faces orders; apart = λ s f p q. p })
      (λ file h. one_answer _)

  pub some_written_file : (class : List ℕ) (ends : Ends N) (faces : Option (List Face)) (orders : Option (List FaceOrder))
      → Comes (WritesFile k parts class ends faces orders)
  some_written_file class ends faces orders =
      some_then NeverStops _ _ (inr (one.some_file class ends faces orders))
      (λ file h. (Done, json_form.printed_form (tree_of_file file) ++ 10 ∷ [], (refl, refl)))

  ends_step : (row : Row) → IsRow k row → (lines : List CpLine) → IsStep (LackEnds k parts row lines) (HaveEnds k parts row lines)
  ends_step row is lines = record {
    one_stop = λ s t p q. p.2 ∙ ap of_input (one.unread row is lines p.0 q.0 p.1 q.1) ∙ sym q.2;
    one_value = one.ends row is lines;
    apart = λ s a p q. one.not_both row is lines a p.0 q p.1;
  }

  ends_go : (row : Row) → IsRow k row → (lines : List CpLine) → Goes (LackEnds k parts row lines) (HaveEnds k parts row lines)
  ends_go row is lines = elim (one.some row is lines) [ inl p ↦ inr p | inr p ↦ inl (of_input p.0, (p.0, p.1, refl)) ]

  one_drawn : (row : Row) → IsRow k row → (lines : List CpLine) → IsOne (DrawsLines k parts row lines)
  one_drawn row is lines =
      one_then _ _ _ (ends_step row is lines) (λ ends h. one_written_file (codes "creasePattern") ends None None)

  some_drawn : (row : Row) → IsRow k row → (lines : List CpLine) → Comes (DrawsLines k parts row lines)
  some_drawn row is lines =
      some_then _ _ _ (ends_go row is lines) (λ ends h. some_written_file (codes "creasePattern") ends None None)

-- ---- by each choice of numbers

pub exact_row : (k : ℕ) → IsRow k rows.Exact
exact_row k = record { above_zero = lit< tt; at_most_a_million = lit≤ tt; numbers = tt }

pub grid_row : (k : ℕ) (n : Denominator) → IsRow k (rows.Grid n.value)
grid_row k n = record { above_zero = n.above_zero; at_most_a_million = n.at_most_a_million; numbers = tt }

pub root_row : (k : ℕ) (n : Denominator) → (k ≡ 2) ⊎ (k ≡ 3) → IsRow k (rows.Root n.value)
root_row k n is = record { above_zero = n.above_zero; at_most_a_million = n.at_most_a_million; numbers = is }

pub one_drawn_by : HaveOneDrawings → (choice : NumberChoice) (lines : List CpLine) → IsOne (DrawsBy choice lines)
one_drawn_by have Exact = one_drawn 1 rational_parts have.rational rows.Exact (exact_row 1)
one_drawn_by have (Grid n) = one_drawn 1 rational_parts have.rational (rows.Grid n.value) (grid_row 1 n)
one_drawn_by have (RootTwo n) = one_drawn 2 parts_over_two have.over_two (rows.Root n.value) (root_row 2 n (inl refl))
one_drawn_by have (RootThree n) = one_drawn 3 parts_over_three have.over_three (rows.Root n.value) (root_row 3 n (inr refl))

pub some_drawn_by : HaveOneDrawings → (choice : NumberChoice) (lines : List CpLine) → Comes (DrawsBy choice lines)
some_drawn_by have Exact = some_drawn 1 rational_parts have.rational rows.Exact (exact_row 1)
some_drawn_by have (Grid n) = some_drawn 1 rational_parts have.rational (rows.Grid n.value) (grid_row 1 n)
some_drawn_by have (RootTwo n) = some_drawn 2 parts_over_two have.over_two (rows.Root n.value) (root_row 2 n (inl refl))
some_drawn_by have (RootThree n) = some_drawn 3 parts_over_three have.over_three (rows.Root n.value) (root_row 3 n (inr refl))
