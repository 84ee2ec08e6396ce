-- words and bytes have one outcome
use Rattle.std.proofs.Common.{◌≡◌, ◌≤◌, ◌⊎◌, None, Some, codes, ℕ, List, ◌∷◌, [], ◌++◌, length, inl, inr, refl, sym, ◌∙◌, ap, arith, subst}
use Rattle.std.specs.declared.option.Option.{Option}
use Rattle.std.proofs.lemmas.Bool.{cases_lt}
use Rattle.std.proofs.lemmas.Option.{same_Some}
use Rattle.fold_base.specs.declared.outside.TheConstants.{MOST_BYTES}
use Rattle.cp_lines.specs.CpText.{CpText}
use Rattle.cp_lines.specs.Print as cp_form
use Rattle.cp_lines.specs.Reads as cp
use Rattle.json_tree.specs.PrintedForm as json_form
use Rattle.json_tree.specs.Spells.{Spells}
use Rattle.json_tree.specs.declared.tree.Json.{Json}
use Rattle.json_read.specs.Causes as json
use Rattle.fold_frames.specs.Answers.{AreInherited, HasNone, IsEffective}
use Rattle.fold_frames.specs.Counts.{counts_of, misfit_in_effect}
use Rattle.fold_frames.specs.Effects.{FrameInEffect}
use Rattle.fold_frames.specs.declared.fault.FrameFault.{FrameFault}
use Rattle.frame_lines.specs.Lines.{HasLines, HasNoLines, first_missing, first_steep, lines_of}
use Rattle.frame_lines.specs.declared.fault.LinesFault.{LinesFault}
use Rattle.frame_lines.specs.declared.fault.LinesFault.TheVariants as faulty
use Rattle.cp_lines.specs.declared.line.CpLine.{CpLine}
use Rattle.fold_keys.specs.Shape.{misfit_of_file}
use Rattle.fold_keys.specs.Trees.{tree_of_file}
use Rattle.fold_keys.specs.Writable.{IsWritable}
use Rattle.fold_keys.specs.declared.value.Entry.{Entry}
use Rattle.fold_keys.specs.declared.value.FoldFile.{FoldFile}
use Rattle.fold_keys.specs.declared.value.Frame.{Frame as KeysFrame}
use Rattle.fold_keys.specs.declared.fault.ShapeFault.{ShapeFault}
use Rattle.fold_commands.specs.Status.{IsFailure, of_frame, of_lines}
use Rattle.fold_commands.specs.Words.{IsOnTexts, TakeNothing}
use Rattle.fold_commands.specs.Outcome.{HaveFault, Spell, AreUnread, AreRead, Does, DoesFrom, DoesWith, HasMisfit, IsFileTree, IsReadFrom, IsSoundTree, HasNoFrame, HasUnevenLists, HasCounts, LacksLines, WritesFrame, with_frame, Makes, format_of, strip_of, IsOutcome, AreInput, AreLeft, KeepsToOutcome, AskForTexts, HasOutcome, HaveOutcome, HaveAtMostOneOutcome}
use Rattle.crease_input.specs.Roots.{root_of}
use Rattle.fold_commands.specs.declared.given.Given.TheVariants as given
use Rattle.fold_commands.specs.declared.input.Input.{Input}
use Rattle.fold_commands.specs.declared.input.Input.TheVariants as input
use Rattle.fold_commands.specs.declared.status.Status.{Status}
use Rattle.fold_commands.specs.declared.status.Status.TheVariants.{Done, Text, Shape, Read, Write, Limit, Memory}
use Rattle.fold_commands.specs.declared.status.ShapeCause.TheVariants.{Key}
use Rattle.fold_commands.specs.declared.status.TextFault.TheVariants as faults
use Rattle.fold_commands.specs.declared.status.Limit.TheVariants.{TooLong}
use Rattle.fold_commands.specs.declared.words.Command.{Command}
use Rattle.fold_commands.specs.declared.words.Command.TheVariants.{Show, Convert, Repair}
use Rattle.fold_commands.specs.declared.words.Command.TheVariants as commands
use Rattle.fold_commands.specs.declared.words.ConvertOptions.TheVariants.{Frame, Lines, Drawing}
use Rattle.fold_commands.specs.declared.words.JudgeOptions.{JudgeOptions}
use Rattle.fold_commands.specs.declared.words.Format.{Format}
use Rattle.fold_commands.specs.declared.words.Format.TheVariants.{Fold, Cp}
use Rattle.fold_commands.specs.FoldedFrames.{orders_of}
use Rattle.fold_commands.specs.Judges.{HaveOtherFaces, HaveSameFaces, Judges}
use Rattle.fold_commands.specs.declared.aim.Aim.TheVariants.{Form, Verdict}
use Rattle.fold_commands.proofs.OneFold.{HaveOneFolds, one_folded_with}
use Rattle.fold_commands.proofs.OneRepair.{HaveOneRepairs, one_repaired_by, one_repaired_with}
use Rattle.fold_commands.proofs.Drawn.{HaveOneDrawings, one_drawn_by, some_drawn_by}
use Rattle.fold_commands.specs.Drawings.{NeverStops}
use Rattle.fold_commands.specs.Drills.{InPlaceOfYes, IsStripText, plainly, strip_line}
use Rattle.crease_input.specs.Strips.{IsStrip, strip_ends, strip_faces, strip_orders}
use Rattle.fold_commands.specs.Steps.{Outcome}
use Rattle.fold_commands.proofs.Chain.{Comes, Goes, IsOne, IsStep, one_answer, one_then, some_then}
use Rattle.fold_commands.proofs.Decide.{no_command, words_go, words_step}

-- ---- reading

-- what a text spells is the only thing, as is its first fault; it has one of them, and not both
pub record HasOneReading {V F : Type 0} (spells : List ℕ → V → Type 0) (names : List ℕ → F → Type 0) : Type 0 where
  pub value : (bytes : List ℕ) (v w : V) → spells bytes v → spells bytes w → v ≡ w
  pub fault : (bytes : List ℕ) (f g : F) → names bytes f → names bytes g → f ≡ g
  pub either : (bytes : List ℕ) (v : V) (f : F) → spells bytes v → names bytes f → ⊥
  pub some : (bytes : List ℕ) → ((value : V) × spells bytes value) ⊎ ((fault : F) × names bytes fault)

-- the texts of both formats have one reading
pub record HaveOneReading : Type 0 where
  pub fold : HasOneReading Spells json.NamesFirstFault
  pub cp : HasOneReading CpText cp.NamesFirstFault

one_fault : HaveOneReading → (format : Format) (bytes : List ℕ) (s s' : Status) → HaveFault format bytes s → HaveFault format bytes s' → s ≡ s'
one_fault one Fold bytes s s' p q = p.2 ∙ ap (λ f. Text (faults.Json f)) (one.fold.fault bytes p.0 q.0 p.1 q.1) ∙ sym q.2
one_fault one Cp bytes s s' p q = p.2 ∙ ap (λ f. Text (faults.Cp f)) (one.cp.fault bytes p.0 q.0 p.1 q.1) ∙ sym q.2

one_spelled : HaveOneReading → (format : Format) (bytes : List ℕ) (x y : Input) → Spell format bytes x → Spell format bytes y → x ≡ y
one_spelled one Fold bytes (input.Fold v) (input.Fold w) p q = ap input.Fold (one.fold.value bytes v w p q)
one_spelled one Fold bytes (input.Fold v) (input.Cp w) p q = absurd q
one_spelled one Fold bytes (input.Cp v) y p q = absurd p
one_spelled one Cp bytes (input.Fold v) y p q = absurd p
one_spelled one Cp bytes (input.Cp v) (input.Fold w) p q = absurd q
one_spelled one Cp bytes (input.Cp v) (input.Cp w) p q = ap input.Cp (one.cp.value bytes v w p q)

not_both : HaveOneReading → (format : Format) (bytes : List ℕ) (s : Status) (x : Input) → HaveFault format bytes s → Spell format bytes x → ⊥
not_both one Fold bytes s (input.Fold v) p q = one.fold.either bytes v p.0 q p.1
not_both one Fold bytes s (input.Cp v) p q = q
not_both one Cp bytes s (input.Fold v) p q = q
not_both one Cp bytes s (input.Cp v) p q = one.cp.either bytes v p.0 q p.1

one_unread : HaveOneReading → (format : Format) (bytes : List ℕ) (s s' : Status) → AreUnread format bytes s → AreUnread format bytes s' → s ≡ s'
one_unread one format bytes s s' (inl p) (inl q) = p.1 ∙ sym q.1
one_unread one format bytes s s' (inl p) (inr q) = absurd (omega arith)
one_unread one format bytes s s' (inr p) (inl q) = absurd (omega arith)
one_unread one format bytes s s' (inr p) (inr q) = one_fault one format bytes s s' p.1 q.1

unread_or_read : HaveOneReading → (format : Format) (bytes : List ℕ) (s : Status) (x : Input) → AreUnread format bytes s → AreRead format bytes x → ⊥
unread_or_read one format bytes s x (inl p) q = omega arith
unread_or_read one format bytes s x (inr p) q = not_both one format bytes s x p.1 q.1

reading_step : HaveOneReading → (format : Format) (bytes : List ℕ) → IsStep (AreUnread format bytes) (AreRead format bytes)
reading_step one format bytes = record {
  one_stop = one_unread one format bytes;
  one_value = λ x y p q. one_spelled one format bytes x y p.1 q.1;
  apart = unread_or_read one format bytes;
}

spelled_or_faulty : HaveOneReading → (format : Format) (bytes : List ℕ) → ((s : Status) × HaveFault format bytes s) ⊎ ((x : Input) × Spell format bytes x)
spelled_or_faulty one Fold bytes = elim (one.fold.some bytes) [ inl p ↦ inr (input.Fold p.0, p.1) | inr p ↦ inl (Text (faults.Json p.0), (p.0, p.1, refl)) ]
spelled_or_faulty one Cp bytes = elim (one.cp.some bytes) [ inl p ↦ inr (input.Cp p.0, p.1) | inr p ↦ inl (Text (faults.Cp p.0), (p.0, p.1, refl)) ]

reading_goes : HaveOneReading → (format : Format) (bytes : List ℕ) → Goes (AreUnread format bytes) (AreRead format bytes)
reading_goes one format bytes = elim (cases_lt MOST_BYTES (length bytes)) [
  | inl many ↦ inl (Limit TooLong, inl (many, refl))
  | inr few ↦ elim (spelled_or_faulty one format bytes) [ inl p ↦ inl (p.0, inr (few, p.1)) | inr p ↦ inr (p.0, (few, p.1)) ]
]

-- ---- FOLD's keys

fits_or_not : (found : Option ShapeFault) (fault : ShapeFault) → found ≡ Some fault → found ≡ None → ⊥
fits_or_not found fault some none = let no : Some fault ≡ None = sym some ∙ none in cc

keys_step : (tree : Json) → IsStep (HasMisfit tree) (IsFileTree tree)
keys_step tree = record {
  one_stop = λ s s' p q. let same : Some p.0 ≡ Some q.0 = sym p.1 ∙ q.1 in let fault : p.0 ≡ q.0 = cc in p.2 ∙ ap (λ f. Shape (Key f)) fault ∙ sym q.2;
  one_value = λ x x' p q. p.0 ∙ sym q.0;
  apart = λ s x p q. fits_or_not (misfit_of_file tree) p.0 p.1 q.1;
}

keys_go : (tree : Json) → Goes (HasMisfit tree) (IsFileTree tree)
keys_go tree = go (misfit_of_file tree) refl
  where
    go : (found : Option ShapeFault) → misfit_of_file tree ≡ found → Goes (HasMisfit tree) (IsFileTree tree)
    go None none = inr (tree, (refl, none))
    go (Some fault) some = inl (Shape (Key fault), (fault, some, refl))

-- ---- files and their frames

-- a tree without misfit is that of one file, whose frames each have one effective frame or one
-- cause why there is none
pub record HaveOneFile : Type 0 where
  pub some : (tree : Json) → IsSoundTree tree → misfit_of_file tree ≡ None
      → (file : FoldFile) × (tree_of_file file ≡ tree) × IsWritable file
  pub one : (f g : FoldFile) → IsWritable f → IsWritable g → tree_of_file f ≡ tree_of_file g
      → f ≡ g
  pub sound : (bytes : List ℕ) (tree : Json) → length bytes ≤ MOST_BYTES → Spells bytes tree
      → IsSoundTree tree
  pub some_frame : (frames : List KeysFrame) (k : ℕ)
      → ((entries : List Entry) × AreInherited frames k entries)
      ⊎ ((fault : FrameFault) × HasNone frames k fault)
  pub one_frame : (frames : List KeysFrame) (k : ℕ) (es fs : List Entry) → AreInherited frames k es
      → AreInherited frames k fs → es ≡ fs
  pub one_cause : (frames : List KeysFrame) (k : ℕ) (e f : FrameFault) → HasNone frames k e
      → HasNone frames k f → e ≡ f
  pub apart : (frames : List KeysFrame) (k : ℕ) (es : List Entry) (fault : FrameFault)
      → AreInherited frames k es → HasNone frames k fault → ⊥

no_some : {X : Type 0} (x : X) (o : Option X) → o ≡ Some x → o ≡ None → ⊥
no_some x o a b = let e : Some x ≡ None = sym a ∙ b in cc

module _ (have : HaveOneFile) (draw : HaveOneDrawings) (repair : HaveOneRepairs) (fold : HaveOneFolds) where
  file_step : (tree : Json) → IsStep (HasMisfit tree) (IsReadFrom tree)
  file_step tree = record {
    one_stop = (keys_step tree).one_stop;
    one_value = λ f g p q. have.one f g p.1 q.1 (p.0.0 ∙ sym q.0.0);
    apart = λ s f p q. fits_or_not (misfit_of_file tree) p.0 p.1 q.0.1;
  }

  file_goes : (tree : Json) → IsSoundTree tree → Goes (HasMisfit tree) (IsReadFrom tree)
  file_goes tree sound = go (misfit_of_file tree) refl
    where
      go : (found : Option ShapeFault) → misfit_of_file tree ≡ found
          → Goes (HasMisfit tree) (IsReadFrom tree)
      go None none =
          let read = have.some tree sound none in inr (read.0, ((read.1, none), read.2))
      go (Some fault) some = inl (Shape (Key fault), (fault, some, refl))

  frame_step : (file : FoldFile) (k : ℕ) → IsStep (HasNoFrame file k) (IsEffective file.frames k)
  frame_step file k = record {
    one_stop = λ s t p q.
        p.2 ∙ ap of_frame (have.one_cause file.frames k p.0 q.0 p.1 q.1) ∙ sym q.2;
    one_value = λ f g p q.
        let number : f.frame ≡ g.frame = p.0 ∙ sym q.0 in
        let entries = have.one_frame file.frames k f.entries g.entries p.1 q.1 in
        (λ i. record { frame = number i; entries = entries i });
    apart = λ s f p q. have.apart file.frames k f.entries p.0 q.1 p.1;
  }

  frame_goes : (file : FoldFile) (k : ℕ) → Goes (HasNoFrame file k) (IsEffective file.frames k)
  frame_goes file k = elim (have.some_frame file.frames k) [
    | inl p ↦ inr (record { frame = k; entries = p.0 }, (refl, p.1))
    | inr p ↦ inl (of_frame p.0, (p.0, p.1, refl))
  ]

  counts_step : (frame : FrameInEffect) → IsStep (HasUnevenLists frame) (HasCounts frame)
  counts_step frame = record {
    one_stop = λ s s' p q. let same : Some p.0 ≡ Some q.0 = sym p.1 ∙ q.1 in let fault : p.0 ≡ q.0 = cc in p.2 ∙ ap (λ f. Shape (Key f)) fault ∙ sym q.2;
    one_value = λ x x' p q. p.0 ∙ sym q.0;
    apart = λ s x p q. fits_or_not (misfit_in_effect frame) p.0 p.1 q.1;
  }

  counts_go : (frame : FrameInEffect) → Goes (HasUnevenLists frame) (HasCounts frame)
  counts_go frame = go (misfit_in_effect frame) refl
    where
      go : (found : Option ShapeFault) → misfit_in_effect frame ≡ found
          → Goes (HasUnevenLists frame) (HasCounts frame)
      go None none = inr (counts_of frame.entries, (refl, none))
      go (Some fault) some = inl (Shape (Key fault), (fault, some, refl))

  -- ---- faces

  faces_step : (frame ordered : FrameInEffect) → IsStep {X = Unit {0}} (HaveOtherFaces frame ordered) (λ same. HaveSameFaces frame ordered)
  faces_step frame ordered = record {
    one_stop = λ s t p q. p.1 ∙ sym q.1;
    one_value = λ x y p q. refl;
    apart = λ s x p q. p.0 q;
  }

  -- ---- lines

  one_cause : (entries : List Entry) (f g : LinesFault) → HasNoLines entries f
      → HasNoLines entries g → f ≡ g
  one_cause entries (faulty.Missing k) (faulty.Missing l) p q =
      ap faulty.Missing (same_Some k l (sym p ∙ q))
  one_cause entries (faulty.Missing k) (faulty.NotFlat v) p q =
      absurd (no_some k (first_missing entries) p q.0)
  one_cause entries (faulty.NotFlat v) (faulty.Missing k) p q =
      absurd (no_some k (first_missing entries) q p.0)
  one_cause entries (faulty.NotFlat v) (faulty.NotFlat w) p q =
      ap faulty.NotFlat (same_Some v w (sym p.1 ∙ q.1))
  one_cause entries (faulty.Memory e) g p q = absurd p
  one_cause entries (faulty.Missing k) (faulty.Memory e) p q = absurd q
  one_cause entries (faulty.NotFlat v) (faulty.Memory e) p q = absurd q

  no_lines : (entries : List Entry) (f : LinesFault) (lines : List CpLine) → HasNoLines entries f
      → HasLines entries lines → ⊥
  no_lines entries (faulty.Missing k) lines p q = no_some k (first_missing entries) p q.0
  no_lines entries (faulty.NotFlat v) lines p q = no_some v (first_steep entries) p.1 q.1
  no_lines entries (faulty.Memory e) lines p q = p

  lines_step : (frame : FrameInEffect) → IsStep (LacksLines frame) (HasLines frame.entries)
  lines_step frame = record {
    one_stop = λ s t p q. p.2 ∙ ap of_lines (one_cause frame.entries p.0 q.0 p.1 q.1) ∙ sym q.2;
    one_value = λ x y p q. p.2 ∙ sym q.2;
    apart = λ s x p q. no_lines frame.entries p.0 x p.1 q;
  }

  lines_go : (frame : FrameInEffect) → Goes (LacksLines frame) (HasLines frame.entries)
  lines_go frame = at (first_missing frame.entries) refl (first_steep frame.entries) refl
    where
      at : (m : Option (List ℕ)) → first_missing frame.entries ≡ m → (v : Option ℕ)
          → first_steep frame.entries ≡ v → Goes (LacksLines frame) (HasLines frame.entries)
      at (Some key) e v h = inl (of_lines (faulty.Missing key), (faulty.Missing key, e, refl))
      at None e (Some v) h = inl (of_lines (faulty.NotFlat v), (faulty.NotFlat v, (e, h), refl))
      at None e None h = inr (lines_of frame.entries, (e, h, refl))

  one_written : (to : Format) (file : FoldFile) (frame : FrameInEffect)
      → IsOne (WritesFrame to file frame)
  one_written Fold file frame = one_answer _
  one_written Cp file frame = one_then _ _ _ (lines_step frame) (λ lines h. one_answer _)

  some_written : (to : Format) (file : FoldFile) (frame : FrameInEffect)
      → Comes (WritesFrame to file frame)
  some_written Fold file frame =
      (Done, json_form.printed_form (tree_of_file (with_frame file frame)) ++ 10 ∷ [], (refl, refl))
  some_written Cp file frame =
      some_then _ _ _ (lines_go frame) (λ lines h. (Done, cp_form.printed_form lines, (refl, refl)))

  -- ---- the commands

  one_judged : (options : JudgeOptions) (spelled : Input) → IsOne (Judges options spelled)
  one_judged options (input.Fold tree) =
      one_then _ _ _ (file_step tree) (λ file h.
      one_then _ _ _ (frame_step file options.frame) (λ frame h.
      one_then _ _ _ (frame_step file options.orders) (λ ordered h.
      one_then _ _ _ (counts_step frame) (λ counts h.
      one_then _ _ _ (counts_step ordered) (λ counts h.
      one_then {X = Unit {0}} _ _ _ (faces_step frame ordered) (λ same h.
      one_folded_with fold Verdict (orders_of ordered.entries) (root_of frame.entries) options.number frame))))))
  one_judged options (input.Cp lines) = λ s s' t t' a b. absurd a

  one_in_place : (line : List ℕ) (outcome : Outcome) → IsOne outcome → IsOne (InPlaceOfYes line outcome)
  one_in_place line outcome one s s' t t' (inl p) (inl q) = (p.0 ∙ sym q.0, p.2 ∙ sym q.2)
  one_in_place line outcome one s s' t t' (inl p) (inr q) =
      absurd (q.0 (sym (one Done s' p.1.0 t' p.1.1 q.1).0))
  one_in_place line outcome one s s' t t' (inr p) (inl q) =
      absurd (p.0 (sym (one Done s q.1.0 t q.1.1 p.1).0))
  one_in_place line outcome one s s' t t' (inr p) (inr q) = one s s' t t' p.1 q.1

  -- the text of a strip is one, and there is one
  strip_step : (count : ℕ) → IsStep NeverStops (IsStripText count)
  strip_step count = record {
    one_stop = λ s t p q. absurd p;
    one_value = λ x y p q.
        let file : p.0 ≡ q.0 = draw.rational.one_file (codes "creasePattern") (strip_ends count) (Some (strip_faces count)) (Some (strip_orders count)) p.0 q.0 p.1 q.1 in
        p.2 ∙ ap (λ f. json_form.printed_form (tree_of_file f) ++ 10 ∷ []) file ∙ sym q.2;
    apart = λ s x p q. p;
  }

  strip_goes : (count : ℕ) → Goes NeverStops (IsStripText count)
  strip_goes count =
      let file = draw.rational.some_file (codes "creasePattern") (strip_ends count) (Some (strip_faces count)) (Some (strip_orders count)) in
      inr (json_form.printed_form (tree_of_file file.0) ++ 10 ∷ [], (file.0, file.1, refl))

  one_made : (command : Command) (spelled : Input) → IsOne (Makes command spelled)
  one_made (Show options) (input.Fold tree) = one_then _ _ _ (keys_step tree) (λ of_file h. one_answer _)
  one_made (Show options) (input.Cp lines) = one_answer _
  one_made (Convert (Frame number to)) (input.Fold tree) =
      one_then _ _ _ (file_step tree) (λ file h.
      one_then _ _ _ (frame_step file number) (λ frame h.
      one_then _ _ _ (counts_step frame) (λ counts h. one_written to file frame)))
  one_made (Convert (Frame number to)) (input.Cp lines) = λ s s' t t' a b. absurd a
  one_made (Convert Lines) (input.Fold tree) = λ s s' t t' a b. absurd a
  one_made (Convert Lines) (input.Cp lines) = one_answer _
  one_made (Convert (Drawing number)) (input.Fold tree) = λ s s' t t' a b. absurd a
  one_made (Convert (Drawing number)) (input.Cp lines) = one_drawn_by draw number lines
  one_made (Repair options) (input.Fold tree) =
      one_then _ _ _ (file_step tree) (λ file h.
      one_then _ _ _ (frame_step file options.frame) (λ frame h.
      one_then _ _ _ (counts_step frame) (λ counts h.
      one_repaired_with repair (root_of frame.entries) options (given.Frame frame))))
  one_made (Repair options) (input.Cp lines) = one_repaired_by repair options.number options (given.Lines lines)
  one_made (commands.Fold options) (input.Fold tree) =
      one_then _ _ _ (file_step tree) (λ file h.
      one_then _ _ _ (frame_step file options.frame) (λ frame h.
      one_then _ _ _ (counts_step frame) (λ counts h.
      one_folded_with fold Form (orders_of frame.entries) (root_of frame.entries) options.number frame)))
  one_made (commands.Fold options) (input.Cp lines) = λ s s' t t' a b. absurd a
  one_made (commands.Judge options) spelled = one_judged options spelled
  one_made (commands.Drill options) spelled =
      one_in_place (strip_line options.count) (Judges plainly spelled) (one_judged plainly spelled)

  some_made : (command : Command) (bytes : List ℕ) (spelled : Input) → IsOnTexts command
      → AreRead (format_of command) bytes spelled → Comes (Makes command spelled)
  some_made (Show options) bytes (input.Fold tree) texts read = some_then _ _ _ (keys_go tree) (λ of_file h. (Done, json_form.printed_form of_file ++ 10 ∷ [], (refl, refl)))
  some_made (Show options) bytes (input.Cp lines) texts read = (Done, cp_form.printed_form lines, (refl, refl))
  some_made (Convert (Frame number to)) bytes (input.Fold tree) texts read =
      some_then _ _ _ (file_goes tree (have.sound bytes tree read.0 read.1)) (λ file h.
      some_then _ _ _ (frame_goes file number) (λ frame h.
      some_then _ _ _ (counts_go frame) (λ counts h. some_written to file frame)))
  some_made (Convert (Frame number to)) bytes (input.Cp lines) texts read = absurd read.1
  some_made (Convert Lines) bytes (input.Fold tree) texts read = absurd read.1
  some_made (Convert Lines) bytes (input.Cp lines) texts read =
      (Done, cp_form.printed_form lines, (refl, refl))
  some_made (Convert (Drawing number)) bytes (input.Fold tree) texts read = absurd read.1
  some_made (Convert (Drawing number)) bytes (input.Cp lines) texts read =
      some_drawn_by draw number lines
  some_made (Repair options) bytes spelled texts read = absurd texts
  some_made (commands.Fold options) bytes spelled texts read = absurd texts
  some_made (commands.Judge options) bytes spelled texts read = absurd texts
  some_made (commands.Drill options) bytes spelled texts read = absurd texts

  -- of the input, or of the text of a strip
  one_with : HaveOneReading → (command : Command) (bytes : List ℕ) → IsOne (DoesWith command bytes)
  one_with one command bytes =
      one_then _ _ _ (reading_step one (format_of command) bytes) (λ spelled k. one_made command spelled)

  one_done : HaveOneReading → (strip : Option ℕ) (command : Command) (bytes : List ℕ) → IsOne (DoesFrom strip command bytes)
  one_done one None command bytes = one_with one command bytes
  one_done one (Some count) command bytes =
      one_then _ _ _ (strip_step count) (λ text h. one_with one command text)

  some_with : HaveOneReading → (command : Command) (bytes : List ℕ) → IsOnTexts command → Comes (DoesWith command bytes)
  some_with one command bytes texts =
      some_then _ _ _ (reading_goes one (format_of command) bytes) (λ spelled k. some_made command bytes spelled texts k)

  some_done : HaveOneReading → (strip : Option ℕ) (command : Command) (bytes : List ℕ) → IsOnTexts command → Comes (DoesFrom strip command bytes)
  some_done one None command bytes texts = some_with one command bytes texts
  some_done one (Some count) command bytes texts =
      some_then _ _ _ (strip_goes count) (λ text h. some_with one command text texts)

-- ---- words and bytes

pub one_outcome : HaveOneReading → HaveOneFile → HaveOneDrawings → HaveOneRepairs → HaveOneFolds → (words : List (List ℕ)) (bytes : List ℕ) → HaveAtMostOneOutcome words bytes
one_outcome one have draw repair fold words bytes = one_then _ _ _ (words_step words) (λ command h. one_done have draw repair fold one (strip_of command) command bytes)

pub some_outcome : HaveOneReading → HaveOneFile → HaveOneDrawings → HaveOneRepairs → HaveOneFolds → (words : List (List ℕ)) (bytes : List ℕ) → AskForTexts words → HaveOutcome words bytes
some_outcome one have draw repair fold words bytes texts = some_then _ _ _ (words_go words) (λ command h. some_done have draw repair fold one (strip_of command) command bytes (texts command h))

-- where the words take nothing, the bytes don't matter
of_any : (words : List (List ℕ)) → TakeNothing words → (bytes other : List ℕ) (s : Status) (t : List ℕ) → IsOutcome words bytes s t → IsOutcome words other s t
of_any words nothing bytes other s t (inl p) = inl p
of_any words nothing bytes other s t (inr p) = inr (p.0, p.1, by (strip_of p.0) refl p.2)
  where
    by : (strip : Option ℕ) → strip_of p.0 ≡ strip → DoesFrom strip p.0 bytes s t → DoesFrom strip p.0 other s t
    by None none done = absurd (no_command words p.0 none nothing p.1)
    by (Some count) some done = done

keeps_of_any : (words : List (List ℕ)) → TakeNothing words → (bytes other : List ℕ) (before after : Option (List ℕ)) (s : Status) → KeepsToOutcome words bytes before after s → KeepsToOutcome words other before after s
keeps_of_any words nothing bytes other before after s h = (
  elim h.0 [ inl failed ↦ inl failed | inr p ↦ inr (p.0, of_any words nothing bytes other s p.0 p.1, p.2) ],
  λ broken. let p = h.1 broken in (p.0, p.1, p.2, of_any words nothing bytes other p.0 p.1 p.3, p.4),
)

pub outcome_of_input : (words : List (List ℕ)) (left before after : Option (List ℕ)) (s : Status) (bytes : List ℕ) → HasOutcome words left before after s → AreInput words left bytes → KeepsToOutcome words bytes before after s
outcome_of_input words left before after s bytes h (inl told) =
    let same : h.0 ≡ bytes = subst (λ l. AreLeft l h.0) told h.1 in
    subst (λ b. KeepsToOutcome words b before after s) same h.2
outcome_of_input words left before after s bytes h (inr nothing) = keeps_of_any words nothing h.0 bytes before after s h.2

-- where neither reading nor writing fails
pub completes : (s : Status) (P : Type 0) → ¬ (s ≡ Read) → ¬ (s ≡ Write) → IsFailure s ⊎ P → (s ≡ Memory) ⊎ P
completes s P r w (inr p) = inr p
completes Read P r w (inl h) = absurd (r refl)
completes Write P r w (inl h) = absurd (w refl)
completes Memory P r w (inl h) = inl refl
completes _ P r w (inl h) = absurd h
