-- what was read is repaired in one way at most
use Rattle.std.proofs.Common.{◌≡◌, ℕ, ℤ, List, inl, inr, refl, sym, ◌∙◌, ap, arith, codes, Bool, true, false, Option, Some, None}
use Rattle.std.specs.Prelude.{◌==◌}
use Rattle.algebra.specs.LowestTerms.{Parts}
use Rattle.algebra.specs.Surd.{Surd}
use Rattle.algebra.specs.WholeSurds.{SurdNumbers}
use Rattle.cp_lines.specs.declared.line.CpLine.{CpLine}
use Rattle.crease_input.specs.Files.{AreDrawingLines, IsDrawingFile}
use Rattle.crease_input.specs.Readings.{HasDrawing, HasNoDrawing, HaveEnds, HaveUnread}
use Rattle.crease_input.specs.declared.fault.InputFault.{InputFault}
use Rattle.drawing_repair.specs.Repaired.{IsRefusal, IsRepaired}
use Rattle.drawing_repair.specs.declared.answer.Repaired.{Repaired}
use Rattle.drawing_repair.specs.declared.answer.RepairFault.{RepairFault}
use Rattle.drawing_repair.specs.declared.options.Faces.{Faces}
use Rattle.drawing_repair.specs.declared.options.Flat.{Flat}
use Rattle.fold_keys.specs.declared.value.Entry.{Entry}
use Rattle.fold_keys.specs.declared.value.FoldFile.{FoldFile}
use Rattle.fold_keys.specs.declared.value.FaceOrder.{FaceOrder}
use Rattle.number_rules.specs.OneReading.{IsRow}
use Rattle.number_rules.specs.declared.unread.Row.{Row}
use Rattle.number_rules.specs.declared.unread.Row.TheVariants as rows
use Rattle.rational.specs.Rationals.{rational_parts}
use Rattle.rational.specs.WholeNumbers as rationals
use Rattle.scaled_plane.specs.declared.drawing.Ends.{Ends}
use Rattle.scaled_plane.specs.declared.drawing.Face.{Face}
use Rattle.fold_commands.specs.Fields.{parts_over_three, parts_over_two, whole_over_three, whole_over_two}
use Rattle.fold_commands.specs.Repairs.{HasEnds, HasNoEnds, HaveDrawing, IsRepairedOnce, LackDrawing, LacksEnds, RepairsBy, RepairsEnds, RepairsExact, RepairsRead, RepairsWith, WritesRepaired, faces_of, named_by}
use Rattle.fold_commands.specs.Status.{of_input, of_repair}
use Rattle.fold_commands.specs.Steps.{IsOne}
use Rattle.fold_commands.specs.declared.given.Given.{Given}
use Rattle.fold_commands.specs.declared.given.Given.TheVariants as given
use Rattle.fold_commands.specs.declared.number_option.NumberChoice.{NumberChoice}
use Rattle.fold_commands.specs.declared.number_option.NumberChoice.TheVariants.{Exact, Grid, RootTwo, RootThree}
use Rattle.fold_commands.specs.declared.words.Format.{Format}
use Rattle.fold_commands.specs.declared.words.Format.TheVariants.{Fold, Cp}
use Rattle.fold_commands.specs.declared.words.RepairOptions.{RepairOptions}
use Rattle.fold_commands.proofs.Chain.{IsStep, one_answer, one_then}
use Rattle.fold_commands.proofs.Drawn.{exact_row, grid_row, root_row}

module _ {N W : Type 0} {root : ℕ} {surd : W → Surd ℤ} (k : ℕ) (parts : N → Parts)
    (numbers : SurdNumbers root surd) where
  -- what the crates below say of vertices and edges, of drawings, and of how these are written
  pub record HaveOneRepair : Type 0 where
    pub ends : (row : Row) → IsRow k row → (lines : List CpLine) (a b : Ends N) → HaveEnds k parts row lines a
        → HaveEnds k parts row lines b → a ≡ b
    pub unread : (row : Row) → IsRow k row → (lines : List CpLine) (e f : InputFault) → HaveUnread k parts row lines e
        → HaveUnread k parts row lines f → e ≡ f
    pub lines_apart : (row : Row) → IsRow k row → (lines : List CpLine) (a : Ends N) (f : InputFault)
        → HaveEnds k parts row lines a → ¬ HaveUnread k parts row lines f
    pub frame : (row : Row) → IsRow k row → (faces : Bool) (entries : List Entry) (a b : Ends N × List Face)
        → HasDrawing k parts row faces entries a → HasDrawing k parts row faces entries b → a ≡ b
    pub frame_cause : (row : Row) → IsRow k row → (faces : Bool) (entries : List Entry) (e f : InputFault)
        → HasNoDrawing k parts row faces entries e → HasNoDrawing k parts row faces entries f → e ≡ f
    pub frames_apart : (row : Row) → IsRow k row → (faces : Bool) (entries : List Entry) (a : Ends N × List Face) (f : InputFault)
        → HasDrawing k parts row faces entries a → ¬ HasNoDrawing k parts row faces entries f
    pub answer : (flat : Flat) (ends : Ends N) (faces : Faces) (a b : Repaired N) → IsRepaired parts numbers flat ends faces a
        → IsRepaired parts numbers flat ends faces b → a ≡ b
    pub reason : (flat : Flat) (ends : Ends N) (faces : Faces) (e f : RepairFault) → IsRefusal parts numbers flat ends faces e
        → IsRefusal parts numbers flat ends faces f → e ≡ f
    pub drawings_apart : (flat : Flat) (ends : Ends N) (faces : Faces) (a : Repaired N) (f : RepairFault)
        → IsRepaired parts numbers flat ends faces a → ¬ IsRefusal parts numbers flat ends faces f
    pub file : (class : List ℕ) (ends : Ends N) (faces : Option (List Face)) (orders : Option (List FaceOrder)) (f g : FoldFile)
        → IsDrawingFile k parts class ends faces orders f → IsDrawingFile k parts class ends faces orders g → f ≡ g
    pub edges : (ends : Ends N) (xs ys : List CpLine) → AreDrawingLines k parts ends xs → AreDrawingLines k parts ends ys → xs ≡ ys

  module _ (have : HaveOneRepair) (options : RepairOptions) (row : Row) (is : IsRow k row) where
    one_cause : (read : Given) (e f : InputFault) → HasNoEnds k parts row read e → HasNoEnds k parts row read f → e ≡ f
    one_cause (given.Lines lines) e f (inl p) (inl q) = p.1 ∙ sym q.1
    one_cause (given.Lines lines) e f (inl p) (inr q) = absurd (let x = p.0 in let y = q.0 in omega (arith, x, y))
    one_cause (given.Lines lines) e f (inr p) (inl q) = absurd (let x = p.0 in let y = q.0 in omega (arith, x, y))
    one_cause (given.Lines lines) e f (inr p) (inr q) = have.unread row is lines e f p.1 q.1
    one_cause (given.Frame frame) e f p q = have.frame_cause row is false frame.entries e f p q

    one_ends : (read : Given) (a b : Ends N) → HasEnds k parts row read a → HasEnds k parts row read b → a ≡ b
    one_ends (given.Lines lines) a b p q = have.ends row is lines a b p.1 q.1
    one_ends (given.Frame frame) a b p q =
        ap (λ (drawn : Ends N × List Face). drawn.0) (have.frame row is false frame.entries (a, p.0) (b, q.0) p.1 q.1)

    apart : (read : Given) (a : Ends N) (f : InputFault) → HasNoEnds k parts row read f → HasEnds k parts row read a → ⊥
    apart (given.Lines lines) a f (inl p) q = let x = p.0 in let y = q.0 in omega (arith, x, y)
    apart (given.Lines lines) a f (inr p) q = have.lines_apart row is lines a f q.1 p.1
    apart (given.Frame frame) a f p q = have.frames_apart row is false frame.entries (a, q.0) f q.1 p

    ends_step : (read : Given) → IsStep (LacksEnds k parts row read) (HasEnds k parts row read)
    ends_step read = record {
      one_stop = λ s t p q. p.2 ∙ ap of_input (one_cause read p.0 q.0 p.1 q.1) ∙ sym q.2;
      one_value = one_ends read;
      apart = λ s a p q. apart read a p.0 p.1 q;
    }

    drawing_step : (read : Given) (ends : Ends N) → IsStep (LackDrawing k parts numbers options read ends) (HaveDrawing k parts numbers options ends)
    drawing_step read ends = record {
      one_stop = λ s t p q. p.2 ∙ ap (λ f. of_repair (named_by read ends.edges f)) (have.reason options.flat ends (faces_of options) p.0 q.0 p.1 q.1) ∙ sym q.2;
      one_value = λ a b p q. have.answer options.flat ends (faces_of options) a b p.0 q.0;
      apart = λ s a p q. have.drawings_apart options.flat ends (faces_of options) a p.0 q.0 p.1;
    }

    one_written : (to : Format) (answer : Repaired N) → IsOne (WritesRepaired k parts to answer)
    one_written Fold answer =
        one_then _ _ _ (record {
          one_stop = λ s t p q. absurd p;
          one_value = have.file (codes "creasePattern") answer.ends answer.faces None;
          apart = λ s f p q. p;
        }) (λ file h. one_answer _)
    one_written Cp answer =
        one_then _ _ _ (record {
          one_stop = λ s t p q. absurd p;
          one_value = have.edges answer.ends;
          apart = λ s f p q. p;
        }) (λ lines h. one_answer _)

    one_drawn : (read : Given) (ends : Ends N) → IsOne (RepairsEnds k parts numbers options read ends)
    one_drawn read ends = one_then _ _ _ (drawing_step read ends) (λ answer h. one_written options.to answer)

    one_read : (read : Given) → IsOne (RepairsRead k parts numbers options row read)
    one_read read = one_then _ _ _ (ends_step read) (λ ends h. one_drawn read ends)

  pub repaired_once : HaveOneRepair → IsRepairedOnce k parts numbers
  repaired_once have = λ options row is read. one_read have options row is read

-- ---- by each choice of numbers

pub record HaveOneRepairs : Type 0 where
  pub rational : IsRepairedOnce 1 rational_parts rationals.whole_numbers
  pub over_two : IsRepairedOnce 2 parts_over_two whole_over_two
  pub over_three : IsRepairedOnce 3 parts_over_three whole_over_three

pub one_repaired_by : HaveOneRepairs → (choice : NumberChoice) (options : RepairOptions) (read : Given)
    → IsOne (RepairsBy choice options read)
one_repaired_by have Exact options = have.rational options rows.Exact (exact_row 1)
one_repaired_by have (Grid n) options = have.rational options (rows.Grid n.value) (grid_row 1 n)
one_repaired_by have (RootTwo n) options = have.over_two options (rows.Root n.value) (root_row 2 n (inl refl))
one_repaired_by have (RootThree n) options = have.over_three options (rows.Root n.value) (root_row 3 n (inr refl))

one_over : HaveOneRepairs → (b : Bool) (options : RepairOptions) (read : Given)
    → IsOne (RepairsExact b options read)
one_over have true options = have.over_three options rows.Exact (exact_row 3)
one_over have false options = have.over_two options rows.Exact (exact_row 2)

pub one_repaired_with : HaveOneRepairs → (o : Option ℕ) (options : RepairOptions) (read : Given)
    → IsOne (RepairsWith o options read)
one_repaired_with have None options = one_repaired_by have options.number options
one_repaired_with have (Some root) options = one_over have (root == 3) options
