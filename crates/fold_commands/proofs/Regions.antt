-- from the outcome of `repair` to the regions of what was written
use Rattle.std.proofs.Common.{◌≡◌, ℕ, ℤ, pos, List, [], ◌∷◌, ◌++◌, Bool, true, false, inl, inr, refl, sym, subst, arith, Option, Some, None, codes}
use Rattle.std.specs.Prelude.{◌==◌, ◌<ℤ◌}
use Rattle.std.proofs.lemmas.Int.{ints}
use Rattle.algebra.specs.LowestTerms.{Parts}
use Rattle.algebra.specs.Surd.{Surd}
use Rattle.algebra.specs.WholeSurds.{SurdNumbers}
use Rattle.scaled_plane.specs.declared.drawing.Ends.{Ends}
use Rattle.scaled_plane.specs.declared.drawing.Face.{Face}
use Rattle.crease_input.specs.Files.{IsDrawingFile}
use Rattle.crease_input.specs.Roots.{root_of}
use Rattle.crease_input.specs.declared.fault.InputFault.{InputFault}
use Rattle.crease_input.specs.declared.fault.InputFault.TheVariants as faults
use Rattle.drawing_repair.specs.Repaired.{AreFacesOf}
use Rattle.drawing_repair.specs.declared.answer.Repaired.{Repaired}
use Rattle.drawing_repair.specs.declared.answer.RepairFault.{RepairFault}
use Rattle.drawing_repair.specs.declared.answer.RepairFault.TheVariants as drawing
use Rattle.drawing_repair.specs.declared.options.Faces.TheVariants.{Find}
use Rattle.fold_frames.specs.Answers.{IsEffective}
use Rattle.fold_frames.specs.declared.fault.FrameFault.{FrameFault}
use Rattle.fold_frames.specs.declared.fault.FrameFault.TheVariants as frames
use Rattle.json_tree.specs.PrintedForm as json_form
use Rattle.fold_keys.specs.Trees.{tree_of_file}
use Rattle.number_rules.specs.declared.unread.Row.{Row}
use Rattle.number_rules.specs.declared.unread.Row.TheVariants as rows
use Rattle.rational.specs.Rationals.{rational_parts}
use Rattle.rational.specs.WholeNumbers as rationals
use Rattle.fold_commands.specs.Fields.{parts_over_three, parts_over_two, whole_over_three, whole_over_two}
use Rattle.fold_commands.specs.Drawings.{NeverStops}
use Rattle.fold_commands.specs.Frames.{HasCounts, HasMisfit, HasNoFrame, HasUnevenLists, IsReadFrom}
use Rattle.fold_commands.specs.Outcome.{AreRead, AreUnread, Does, IsOutcome, HasOutcome}
use Rattle.fold_commands.specs.Regions.{HasRegions, ShowsRegions, WritesRegions}
use Rattle.fold_commands.specs.Repairs.{HasEnds, HaveDrawing, LackDrawing, LacksEnds, Repairs, RepairsBy, RepairsEnds, RepairsExact, RepairsFile, RepairsFrame, RepairsRead, RepairsWith, WritesRepaired, faces_for, faces_of, named_by}
use Rattle.fold_commands.specs.Status.{IsFailure, of_frame, of_input, of_repair}
use Rattle.fold_commands.specs.Steps.{Answers, Outcome, Then}
use Rattle.fold_commands.specs.Words.{AreRefused, AreWordsOf}
use Rattle.fold_commands.specs.declared.given.Given.{Given}
use Rattle.fold_commands.specs.declared.given.Given.TheVariants as given
use Rattle.fold_commands.specs.declared.input.Input.{Input}
use Rattle.fold_commands.specs.declared.input.Input.TheVariants as input
use Rattle.fold_commands.specs.declared.number_option.NumberChoice.{NumberChoice}
use Rattle.fold_commands.specs.declared.number_option.NumberChoice.TheVariants.{Exact, Grid, RootTwo, RootThree}
use Rattle.fold_commands.specs.declared.status.Status.{Status}
use Rattle.fold_commands.specs.declared.status.Status.TheVariants.{Done}
use Rattle.fold_commands.specs.declared.words.Command.TheVariants.{Repair}
use Rattle.fold_commands.specs.declared.words.Format.{Format}
use Rattle.fold_commands.specs.declared.words.Format.TheVariants.{Fold, Cp}
use Rattle.fold_commands.specs.declared.words.RepairOptions.{RepairOptions}
use Rattle.fold_commands.proofs.Decide.{one_command, refused_words}

-- what doesn't stop with this status gives a value
pub went_past : {X : Type 0} (stops : Status → Type 0) (gives : X → Type 0) (next : X → Outcome) (status : Status) (text : List ℕ)
    → ¬ stops status → Then stops gives next status text → (x : X) × gives x × next x status text
went_past stops gives next status text never (inl h) = absurd (never h.0)
went_past stops gives next status text never (inr h) = h

pub went_on : {X : Type 0} (stops : Status → Type 0) (gives : X → Type 0) (next : X → Outcome) (text : List ℕ)
    → ¬ stops Done → Then stops gives next Done text → (x : X) × gives x × next x Done text
went_on stops gives next text never h = went_past stops gives next Done text never h

-- no fault ends as done
pub input_goes : (fault : InputFault) → ¬ (Done ≡ of_input fault)
input_goes (faults.TooMany what) e = cc
input_goes (faults.Unread vertex axis cause) e = cc
input_goes (faults.Missing key) e = cc
input_goes (faults.NotFlat vertex) e = cc
input_goes (faults.Stale vertex) e = cc
input_goes (faults.Memory error) e = cc

drawing_goes : (fault : RepairFault) → ¬ (Done ≡ of_repair fault)
drawing_goes (drawing.TooWide vertex stage) e = cc
drawing_goes drawing.TooMany e = cc
drawing_goes (drawing.Parted vertex) e = cc
drawing_goes (drawing.Memory error) e = cc

pub frame_goes : (fault : FrameFault) → ¬ (Done ≡ of_frame fault)
frame_goes (frames.NoFrame frame) e = cc
frame_goes (frames.ParentRange frame) e = cc
frame_goes (frames.ParentLoop frame) e = cc
frame_goes (frames.Memory error) e = cc

module _ {N W : Type 0} {root : ℕ} {surd : W → Surd ℤ} (k : ℕ) (parts : N → Parts)
    (numbers : SurdNumbers root surd) (options : RepairOptions) (to : options.to ≡ Fold)
    (asked : options.faces ≡ Find) (text : List ℕ) where
  finds : faces_of options ≡ Find
  finds = λ i. faces_for (to i) (asked i)

  -- faces that are looked for are found
  found : (answer : Repaired N) (ends : Ends N) → HaveDrawing k parts numbers options ends answer
      → (faces : List Face) × (answer.faces ≡ Some faces)
  found answer ends is = at answer.faces refl (subst (λ f. AreFacesOf numbers.ring is.0.1 answer.ends.edges f answer.faces) finds is.0.3)
    where
      at : (o : Option (List Face)) → answer.faces ≡ o
          → AreFacesOf numbers.ring is.0.1 answer.ends.edges Find o
          → (faces : List Face) × (answer.faces ≡ Some faces)
      at None e h = absurd h
      at (Some faces) e h = (faces, e)

  written : (answer : Repaired N) (ends : Ends N) → HaveDrawing k parts numbers options ends answer
      → WritesRepaired k parts options.to answer Done text → ShowsRegions k parts numbers text
  written answer ends is shows =
      let faces = found answer ends is in
      let regions = is.1 faces.0 faces.1 in
      let drawn = regions.2 in
      let file = went_on NeverStops (IsDrawingFile k parts (codes "creasePattern") answer.ends answer.faces None)
      (λ f. Answers (json_form.printed_form (tree_of_file f) ++ 10 ∷ [])) text (λ h. h) (subst (λ f. WritesRepaired k parts f answer Done text) to shows) in (
        answer.ends,
        faces.0,
        record {
          file = file.0;
          of_drawing = subst (λ f. IsDrawingFile k parts (codes "creasePattern") answer.ends f None file.0) faces.1 file.1;
          printed = file.2.1;
          common = regions.0.common;
          positive = subst (λ c. pos 0 <ℤ c) (sym drawn.cut.points.is)
              (let above = drawn.cut.points.denominator.positive in omega (arith, ints, above));
          vertices = regions.1;
          are_points = λ p c. (drawn.cut.cuts.only p c).0;
          coords = drawn.coords;
          walks = regions.4;
          regions = regions.5;
        },
      )

  read_regions : (row : Row) (read : Given) → RepairsRead k parts numbers options row read Done text
      → ShowsRegions k parts numbers text
  read_regions row read h =
      let ends = went_on (LacksEnds k parts row read) (HasEnds k parts row read) (RepairsEnds k parts numbers options read) text
      (λ stop. input_goes stop.0 stop.2) h in
      let answer = went_on (LackDrawing k parts numbers options read ends.0) (HaveDrawing k parts numbers options ends.0)
      (WritesRepaired k parts options.to) text (λ stop. drawing_goes (named_by read ends.0.edges stop.0) stop.2) ends.2 in
      written answer.0 ends.0 answer.1 answer.2

module _ (options : RepairOptions) (to : options.to ≡ Fold) (asked : options.faces ≡ Find)
    (text : List ℕ) (read : Given) where
  by_choice : (choice : NumberChoice) → RepairsBy choice options read Done text → HasRegions text
  by_choice Exact h =
      inl (read_regions 1 rational_parts rationals.whole_numbers options to asked text rows.Exact read h)
  by_choice (Grid n) h =
      inl (read_regions 1 rational_parts rationals.whole_numbers options to asked text (rows.Grid n.value) read h)
  by_choice (RootTwo n) h =
      inr (inl (read_regions 2 parts_over_two whole_over_two options to asked text (rows.Root n.value) read h))
  by_choice (RootThree n) h =
      inr (inr (read_regions 3 parts_over_three whole_over_three options to asked text (rows.Root n.value) read h))

  by_root : (b : Bool) → RepairsExact b options read Done text → HasRegions text
  by_root true h =
      inr (inr (read_regions 3 parts_over_three whole_over_three options to asked text rows.Exact read h))
  by_root false h =
      inr (inl (read_regions 2 parts_over_two whole_over_two options to asked text rows.Exact read h))

  by_texts : (o : Option ℕ) → RepairsWith o options read Done text → HasRegions text
  by_texts None h = by_choice options.number h
  by_texts (Some root) h = by_root (root == 3) h

repaired : (options : RepairOptions) → options.to ≡ Fold → options.faces ≡ Find → (spelled : Input) (text : List ℕ)
    → Repairs options spelled Done text → HasRegions text
repaired options to asked (input.Cp lines) text h =
    by_choice options to asked text (given.Lines lines) options.number h
repaired options to asked (input.Fold tree) text h =
    let file = went_on (HasMisfit tree) (IsReadFrom tree) (RepairsFile options) text (λ stop. let e = stop.2 in cc) h in
    let frame = went_on (HasNoFrame file.0 options.frame) (IsEffective file.0.frames options.frame) (RepairsFrame options) text
    (λ stop. frame_goes stop.0 stop.2) file.2 in
    let counts = went_on (HasUnevenLists frame.0) (HasCounts frame.0)
    (λ c. RepairsWith (root_of frame.0.entries) options (given.Frame frame.0)) text (λ stop. let e = stop.2 in cc) frame.2 in
    by_texts options to asked text (given.Frame frame.0) (root_of frame.0.entries) counts.2

-- what isn't read doesn't end as done
pub unread_goes : (format : Format) (bytes : List ℕ) → ¬ AreUnread format bytes Done
unread_goes format bytes (inl many) = let e = many.1 in cc
unread_goes Fold bytes (inr fault) = let e = fault.1.2 in cc
unread_goes Cp bytes (inr fault) = let e = fault.1.2 in cc

pub refused_goes : (words : List (List ℕ)) → ¬ AreRefused words Done
refused_goes words refused = elim (refused_words words Done refused) [ inl e ↦ cc | inr e ↦ cc ]

of_outcome : (words : List (List ℕ)) (bytes text : List ℕ) (options : RepairOptions) → AreWordsOf words (Repair options)
    → options.to ≡ Fold → options.faces ≡ Find → IsOutcome words bytes Done text → HasRegions text
of_outcome words bytes text options meant to asked h =
    let command = went_on (AreRefused words) (AreWordsOf words) (λ c. Does c bytes) text (refused_goes words) h in
    let same : command.0 ≡ Repair options = one_command words command.0 (Repair options) command.1 meant in
    let spelled = went_on (AreUnread options.from bytes) (AreRead options.from bytes) (Repairs options) text
    (unread_goes options.from bytes) (subst (λ c. Does c bytes Done text) same command.2) in
    repaired options to asked spelled.0 text spelled.2

pub writes_regions : (words : List (List ℕ)) (left before after : Option (List ℕ)) (status : Status)
    → HasOutcome words left before after status → WritesRegions words before after status
writes_regions words left before after status has options meant to asked done = elim has.2.0 [
  | inl failed ↦ absurd (subst IsFailure done failed)
  | inr shown ↦ (
    shown.0,
    shown.2,
    of_outcome words has.0 shown.0 options meant to asked
        (subst (λ s. IsOutcome words has.0 s shown.0) done shown.1),
  )
]
