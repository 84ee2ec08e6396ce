-- from the outcome of `judge` to what it says yes to, and back
use Rattle.std.proofs.Common.{◌≡◌, ◌⊎◌, ℕ, ℤ, List, [], ◌∷◌, ◌++◌, Bool, true, false, inl, inr, refl, sym, ◌∙◌, subst, Option, Some, None, codes}
use Rattle.std.specs.Prelude.{◌↔◌, ◌==◌, length, ◌≤◌}
use Rattle.algebra.specs.LowestTerms.{Parts}
use Rattle.algebra.specs.NumberField.{NumberField}
use Rattle.algebra.specs.OrderedRing.{OrderedRing}
use Rattle.algebra.specs.Surd.{Surd}
use Rattle.algebra.specs.WholeSurds.{SurdNumbers}
use Rattle.crease_input.specs.Readings.{HasDrawing}
use Rattle.crease_input.specs.Roots.{root_of}
use Rattle.flat_fold.specs.Computed.{exact}
use Rattle.flat_fold.specs.Folded.{IsFolded as IsFolding, Layout}
use Rattle.flat_fold.specs.Sheets.{FormSheet, Pattern}
use Rattle.fold_base.specs.Outside.{Rose}
use Rattle.fold_frames.specs.Answers.{IsEffective}
use Rattle.fold_frames.specs.Effects.{FrameInEffect}
use Rattle.fold_frames.specs.Counts.{counts_of}
use Rattle.fold_keys.specs.declared.value.FaceOrder.{FaceOrder}
use Rattle.fold_keys.specs.declared.value.FoldFile.{FoldFile}
use Rattle.fold_keys.specs.Shape.{misfit_of_file}
use Rattle.fold_keys.specs.Trees.{tree_of_file}
use Rattle.folded_form.specs.declared.fault.FormFault.{FormFault}
use Rattle.folded_form.specs.declared.fault.FormFault.TheVariants as form
use Rattle.folded_layers.specs.Known.{HasLayers}
use Rattle.folded_layers.specs.Sheets.{folded_sheet}
use Rattle.json_tree.specs.Spells.{Spells}
use Rattle.json_tree.specs.declared.tree.Json.{Json}
use Rattle.layer_judge.specs.Judging.{layer_orders}
use Rattle.layer_judge.specs.declared.answer.JudgeFault.{JudgeFault}
use Rattle.layer_judge.specs.declared.answer.JudgeFault.TheVariants as orders
use Rattle.layer_judge.specs.declared.answer.Verdict.{Verdict as AnyVerdict}
use Rattle.layer_judge.specs.declared.answer.Verdict.TheVariants.{Fits, Crosses}
use Rattle.layers.specs.Crossings.{Occurs}
use Rattle.layers.specs.Folded.{IsFolded}
use Rattle.layers.specs.Listing.{IsListed}
use Rattle.layers.specs.Orders.{Above, LayerOrder, NoClash, RanksOverlaps}
use Rattle.layers.specs.Points.{IsLayered}
use Rattle.layers.specs.Sheets.{FoldedSheet}
use Rattle.layers.specs.declared.crossing.Crossing.{Crossing}
use Rattle.number_rules.specs.declared.unread.Row.{Row}
use Rattle.number_rules.specs.declared.unread.Row.TheVariants as rows
use Rattle.rational.specs.Rationals.{rational_numbers, rational_parts}
use Rattle.rational.specs.WholeNumbers as rationals
use Rattle.scaled_plane.specs.declared.drawing.Ends.{Ends}
use Rattle.scaled_plane.specs.declared.drawing.Face.{Face}
use Rattle.fold_commands.specs.Fields.{numbers_over_three, numbers_over_two, parts_over_three, parts_over_two, whole_over_three, whole_over_two}
use Rattle.fold_commands.specs.FoldedFrames.{AnswersVerdict, FoldsBy, FoldsDrawing, FoldsExact, FoldsRead, FoldsWith, HasLayout, HaveVerdict, LackOrder, LacksDrawing, LacksForm, MakesOf, given_orders, orders_of}
use Rattle.fold_commands.specs.Frames.{HasCounts, HasMisfit, HasNoFrame, HasUnevenLists, IsReadFrom}
use Rattle.fold_commands.specs.Headline.{FoldsAsOrdered, FoldsAsOrderedBy, FoldsAsOrderedOver, FoldsAsOrderedWith, HasTrueVerdicts, HaveTrueVerdicts, IsFoldableText, JudgesFoldable, LayersLie}
use Rattle.fold_commands.specs.Judges.{HaveOtherFaces, HaveSameFaces, Judges, JudgesFile, JudgesFrames, JudgesOrdered}
use Rattle.fold_commands.specs.Outcome.{AreInput, AreLeft, AreRead, AreUnread, Does, HasOutcome, HaveAtMostOneOutcome, IsOutcome, IsOutcomeWritten}
use Rattle.fold_commands.specs.Status.{IsFailure, of_form, of_judge}
use Rattle.fold_commands.specs.Steps.{Then}
use Rattle.fold_commands.specs.Words.{ArePlainWordsOf, AreRefused, AreWordsOf}
use Rattle.fold_commands.specs.declared.aim.Aim.TheVariants.{Verdict}
use Rattle.fold_commands.specs.declared.input.Input.{Input}
use Rattle.fold_commands.specs.declared.input.Input.TheVariants as input
use Rattle.fold_commands.specs.declared.number_option.NumberChoice.{NumberChoice}
use Rattle.fold_commands.specs.declared.number_option.NumberChoice.TheVariants.{Exact, Grid, RootTwo, RootThree}
use Rattle.fold_commands.specs.declared.status.Status.{Status}
use Rattle.fold_commands.specs.declared.status.Status.TheVariants.{Done, Memory}
use Rattle.fold_commands.specs.declared.words.Command.TheVariants.{Judge}
use Rattle.fold_commands.specs.declared.words.Format.TheVariants as formats
use Rattle.fold_commands.specs.declared.words.JudgeOptions.{JudgeOptions}
use Rattle.fold_commands.proofs.Decide.{one_command}
use Rattle.fold_commands.proofs.Plain.{plain_words}
use Rattle.fold_commands.proofs.Regions.{frame_goes, input_goes, refused_goes, unread_goes, went_on}

-- no fault ends as done
form_goes : (fault : FormFault) → ¬ (Done ≡ of_form fault)
form_goes (form.TooWide vertex) e = cc
form_goes (form.Flaw flaw) e = cc
form_goes (form.NumberPast face vertex) e = cc
form_goes (form.Unclosed edge) e = cc
form_goes (form.FoldedTooWide vertex) e = cc
form_goes (form.Memory error) e = cc

orders_go : (fault : JudgeFault) → ¬ (Done ≡ of_judge fault)
orders_go (orders.OrderClash first second) e = cc
orders_go (orders.NoOrder low high) e = cc
orders_go (orders.Memory error) e = cc

yes_fits : {N W : Type 0} {root : ℕ} {surd : W → Surd ℤ} (k : ℕ) (parts : N → Parts) (field : NumberField k parts)
    (numbers : SurdNumbers root surd) (verdict : AnyVerdict) (text : List ℕ)
    → AnswersVerdict k parts field numbers verdict Done text → verdict ≡ Fits
yes_fits k parts field numbers Fits text h = refl
yes_fits k parts field numbers (Crosses crossing) text h = let e = h.0 in cc

-- what the theorems of `layers` say of a folded sheet
module _ {W : Type 0} (K : OrderedRing W) (sheet : FoldedSheet W) (los : List LayerOrder) where
  abbrev above : ℕ → ℕ → Type 0
  above = Above sheet los

  abbrev pub DecidesKinds : Type 0
  DecidesKinds = (c : Crossing) → IsListed K sheet above c ↔ Occurs K sheet above c

  abbrev pub DecidesWhole : Type 0
  DecidesWhole = NoClash above → RanksOverlaps K sheet above
      → ((c : Crossing) → ¬ IsListed K sheet above c) ↔ IsLayered K sheet above

-- a verdict fits exactly where the layers lie by the orders
module _ {N W : Type 0} {root : ℕ} {surd : W → Surd ℤ} (k : ℕ) (parts : N → Parts)
    (field : NumberField k parts) (numbers : SurdNumbers root surd) where
  pub true_verdicts :
      ((layout : Layout N W) → FormSheet parts numbers layout.sheet.ends layout.sheet.faces
      → IsFolding parts field.field numbers layout → HasLayers parts field.field numbers layout)
      → ((K : OrderedRing W) (sheet : FoldedSheet W) (los : List LayerOrder) → IsFolded K sheet → DecidesKinds K sheet los)
      → ((K : OrderedRing W) (sheet : FoldedSheet W) (los : List LayerOrder) → IsFolded K sheet → DecidesWhole K sheet los)
      → HasTrueVerdicts k parts field numbers
  true_verdicts lies kinds whole drawing layout has os =
      let K = numbers.ring in
      let sheet = folded_sheet numbers.ring layout in
      let los = layer_orders os in
      let form : FormSheet parts numbers layout.sheet.ends layout.sheet.faces =
      subst (λ (p : Pattern N). FormSheet parts numbers p.ends p.faces) (sym has.of_sheet) has.is_sheet in
      let folded = (lies layout form has.folded).layered in (
        (λ v. record {
          one_way = v.rank.no_clash;
          ranked = v.rank.ranked;
          layered = (whole K sheet los folded v.rank.no_clash v.rank.ranked).0 (λ c listed. v.answer c ((kinds K sheet los folded c).0 listed));
        }),
        (λ lie. record {
          rank = record { no_clash = lie.one_way; ranked = lie.ranked };
          answer = λ c occurs. (whole K sheet los folded lie.one_way lie.ranked).1 lie.layered c ((kinds K sheet los folded c).1 occurs);
        }),
      )

  module _ (decided : HasTrueVerdicts k parts field numbers) (os : Option (List FaceOrder)) (row : Row) (frame : FrameInEffect) where
    read_fits : (text : List ℕ) → FoldsRead k parts field numbers Verdict os row frame Done text
        → FoldsAsOrdered k parts field numbers (given_orders os) row frame
    read_fits text h =
        let drawing = went_on (LacksDrawing k parts row frame) (HasDrawing k parts row true frame.entries)
        (FoldsDrawing k parts field numbers Verdict os) text (λ stop. input_goes stop.0 stop.2) h in
        let layout = went_on (LacksForm k parts field numbers drawing.0) (HasLayout k parts field numbers drawing.0)
        (MakesOf k parts field numbers Verdict os) text (λ stop. form_goes stop.0 stop.2) drawing.2 in
        let verdict = went_on (LackOrder k parts field numbers (given_orders os) layout.0) (HaveVerdict k parts field numbers (given_orders os) layout.0)
        (AnswersVerdict k parts field numbers) text (λ stop. orders_go stop.0 stop.3) layout.2 in
        let fits = subst (HaveVerdict k parts field numbers (given_orders os) layout.0) (yes_fits k parts field numbers verdict.0 text verdict.2) verdict.1 in
        record {
          drawing = drawing.0;
          is_read = drawing.1;
          layout = layout.0;
          flat = record { is_sheet = layout.1.is_sheet; fits = layout.1.fits; of_drawing = layout.1.of_sheet; folded = layout.1.folded };
          lie = (decided drawing.0 layout.0 layout.1 (given_orders os)).0 fits;
        }

    fits_read : FoldsAsOrdered k parts field numbers (given_orders os) row frame
        → FoldsRead k parts field numbers Verdict os row frame Done (codes "yes" ++ 10 ∷ [])
    fits_read h =
        let has : HasLayout k parts field numbers h.drawing h.layout =
        record { is_sheet = h.flat.is_sheet; fits = h.flat.fits; of_sheet = h.flat.of_drawing; folded = h.flat.folded } in
        inr (h.drawing, h.is_read, inr (h.layout, has, inr (Fits, (decided h.drawing h.layout has (given_orders os)).1 h.lie, (refl, refl))))

abbrev yes_line : List ℕ
yes_line = codes "yes" ++ 10 ∷ []

module _ (have : HaveTrueVerdicts) (os : Option (List FaceOrder)) (frame : FrameInEffect) where
  by_fits : (choice : NumberChoice) (text : List ℕ) → FoldsBy Verdict os choice frame Done text → FoldsAsOrderedBy (given_orders os) choice frame
  by_fits Exact text h = read_fits 1 rational_parts rational_numbers rationals.whole_numbers have.rational os rows.Exact frame text h
  by_fits (Grid n) text h = read_fits 1 rational_parts rational_numbers rationals.whole_numbers have.rational os (rows.Grid n.value) frame text h
  by_fits (RootTwo n) text h = read_fits 2 parts_over_two numbers_over_two whole_over_two have.over_two os (rows.Root n.value) frame text h
  by_fits (RootThree n) text h = read_fits 3 parts_over_three numbers_over_three whole_over_three have.over_three os (rows.Root n.value) frame text h

  fits_by : (choice : NumberChoice) → FoldsAsOrderedBy (given_orders os) choice frame → FoldsBy Verdict os choice frame Done yes_line
  fits_by Exact h = fits_read 1 rational_parts rational_numbers rationals.whole_numbers have.rational os rows.Exact frame h
  fits_by (Grid n) h = fits_read 1 rational_parts rational_numbers rationals.whole_numbers have.rational os (rows.Grid n.value) frame h
  fits_by (RootTwo n) h = fits_read 2 parts_over_two numbers_over_two whole_over_two have.over_two os (rows.Root n.value) frame h
  fits_by (RootThree n) h = fits_read 3 parts_over_three numbers_over_three whole_over_three have.over_three os (rows.Root n.value) frame h

  over_fits : (b : Bool) (text : List ℕ) → FoldsExact Verdict os b frame Done text → FoldsAsOrderedOver (given_orders os) b frame
  over_fits true text h = read_fits 3 parts_over_three numbers_over_three whole_over_three have.over_three os rows.Exact frame text h
  over_fits false text h = read_fits 2 parts_over_two numbers_over_two whole_over_two have.over_two os rows.Exact frame text h

  fits_over : (b : Bool) → FoldsAsOrderedOver (given_orders os) b frame → FoldsExact Verdict os b frame Done yes_line
  fits_over true h = fits_read 3 parts_over_three numbers_over_three whole_over_three have.over_three os rows.Exact frame h
  fits_over false h = fits_read 2 parts_over_two numbers_over_two whole_over_two have.over_two os rows.Exact frame h

  with_fits : (o : Option ℕ) (choice : NumberChoice) (text : List ℕ) → FoldsWith Verdict os o choice frame Done text
      → FoldsAsOrderedWith (given_orders os) o choice frame
  with_fits None choice text h = by_fits choice text h
  with_fits (Some root) choice text h = over_fits (root == 3) text h

  fits_with : (o : Option ℕ) (choice : NumberChoice) → FoldsAsOrderedWith (given_orders os) o choice frame
      → FoldsWith Verdict os o choice frame Done yes_line
  fits_with None choice h = fits_by choice h
  fits_with (Some root) choice h = fits_over (root == 3) h

module _ (have : HaveTrueVerdicts) (options : JudgeOptions) (bytes : List ℕ) where
  abbrev Reads : Input → Type 0
  Reads spelled = AreRead formats.Fold bytes spelled

  judged : (spelled : Input) (text : List ℕ) → Reads spelled → Judges options spelled Done text → IsFoldableText options bytes
  judged (input.Cp lines) text read h = absurd h
  judged (input.Fold tree) text read h =
      let file = went_on (HasMisfit tree) (IsReadFrom tree) (JudgesFile options) text (λ stop. let e = stop.2 in cc) h in
      let frame = went_on (HasNoFrame file.0 options.frame) (IsEffective file.0.frames options.frame)
      (λ frame. Then (HasNoFrame file.0 options.orders) (IsEffective file.0.frames options.orders) (JudgesFrames options.number frame))
      text (λ stop. frame_goes stop.0 stop.2) file.2 in
      let ordered = went_on (HasNoFrame file.0 options.orders) (IsEffective file.0.frames options.orders) (JudgesFrames options.number frame.0)
      text (λ stop. frame_goes stop.0 stop.2) frame.2 in
      let counts = went_on (HasUnevenLists frame.0) (HasCounts frame.0)
      (λ counts. Then (HasUnevenLists ordered.0) (HasCounts ordered.0) (λ others. JudgesOrdered options.number frame.0 ordered.0))
      text (λ stop. let e = stop.2 in cc) ordered.2 in
      let others = went_on (HasUnevenLists ordered.0) (HasCounts ordered.0) (λ others. JudgesOrdered options.number frame.0 ordered.0)
      text (λ stop. let e = stop.2 in cc) counts.2 in
      let same = went_on {X = Unit {0}} (HaveOtherFaces frame.0 ordered.0) (λ same. HaveSameFaces frame.0 ordered.0)
      (λ same. FoldsWith Verdict (orders_of ordered.0.entries) (root_of frame.0.entries) options.number frame.0)
      text (λ stop. let e = stop.1 in cc) others.2 in
      record {
        file = file.0;
        is_text = record {
          few = read.0;
          spells = subst (Spells bytes) (sym file.1.0.0) read.1;
          no_misfit = subst (λ (t : Json). misfit_of_file t ≡ None) (sym file.1.0.0) file.1.0.1;
          is_file = file.1.1;
        };
        frame = frame.0;
        is_frame = record { in_effect = frame.1; agrees = counts.1.1 };
        ordered = ordered.0;
        is_ordered = record { in_effect = ordered.1; agrees = others.1.1 };
        same_faces = same.1;
        folds = with_fits have (orders_of ordered.0.entries) frame.0 (root_of frame.0.entries) options.number text same.2;
      }

  judges : (h : IsFoldableText options bytes) → Judges options (input.Fold (tree_of_file h.file)) Done yes_line
  judges h =
      inr (
        h.file,
        ((refl, h.is_text.no_misfit), h.is_text.is_file),
        inr (
          h.frame,
          h.is_frame.in_effect,
          inr (
            h.ordered,
            h.is_ordered.in_effect,
            inr (
              counts_of h.frame.entries,
              (refl, h.is_frame.agrees),
              inr (
                counts_of h.ordered.entries,
                (refl, h.is_ordered.agrees),
                inr (
                  tt,
                  h.same_faces,
                  fits_with have (orders_of h.ordered.entries) h.frame (root_of h.frame.entries) options.number h.folds,
                ),
              ),
            ),
          ),
        ),
      )

  module _ (words : List (List ℕ)) (meant : AreWordsOf words (Judge options)) where
    of_done : (text : List ℕ) → IsOutcome words bytes Done text → IsFoldableText options bytes
    of_done text h =
        let command = went_on (AreRefused words) (AreWordsOf words) (λ c. Does c bytes) text (refused_goes words) h in
        let same : command.0 ≡ Judge options = one_command words command.0 (Judge options) command.1 meant in
        let spelled = went_on (AreUnread formats.Fold bytes) (AreRead formats.Fold bytes) (Judges options) text
        (unread_goes formats.Fold bytes) (subst (λ c. Does c bytes Done text) same command.2) in
        judged spelled.0 text spelled.1 spelled.2

    done : IsFoldableText options bytes → IsOutcome words bytes Done yes_line
    done h = inr (Judge options, meant, inr (input.Fold (tree_of_file h.file), (h.is_text.few, h.is_text.spells), judges h))

pub judges_foldable : HaveTrueVerdicts → (words : List (List ℕ)) → ((bytes : List ℕ) → HaveAtMostOneOutcome words bytes)
    → (left before after : Option (List ℕ)) (read read' wrote wrote' : ℕ) (status : Status)
    → HasOutcome words left before after status
    → (¬ Rose read read' → ¬ Rose wrote wrote' → (bytes : List ℕ) → AreInput words left bytes → (status ≡ Memory) ⊎ IsOutcomeWritten words bytes before after status)
    → JudgesFoldable words left read read' wrote wrote' status
judges_foldable have words one left before after read read' wrote wrote' status has complete options bytes plain told =
    let meant = plain_words words (Judge options) plain in (
      (λ is_done. elim has.2.0 [
        | inl failed ↦ absurd (subst IsFailure is_done failed)
        | inr shown ↦ (
            let here : has.0 ≡ bytes = subst (λ l. AreLeft l has.0) told has.1 in
            of_done have options bytes words meant shown.0
            (subst (λ b. IsOutcome words b Done shown.0) here (subst (λ s. IsOutcome words has.0 s shown.0) is_done shown.1))
            )
      ]),
      (λ foldable calm calm_sink. elim (complete calm calm_sink bytes (inl told)) [
        | inl memory ↦ inr memory
        | inr shown ↦ inl (one bytes status Done shown.0 yes_line shown.1 (done have options bytes words meant foldable)).0
      ]),
    )
