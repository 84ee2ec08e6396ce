-- what the words say is one thing, and something
use Rattle.std.proofs.Common.{ℕ, ◌<◌, ◌≤◌, arith, ◌≡◌, ◌≢◌, ◌⊎◌, true, false, List, [], ◌∷◌, inl, inr, refl, sym, ◌∙◌, ap, subst, codes}
use Rattle.std.specs.declared.option.Option.{Option}
use Rattle.std.specs.declared.option.Option.TheVariants.{None, Some}
use Rattle.std.specs.Option.{option_map_or}
use Rattle.std.specs.Prelude.{MatchOption}
use Rattle.std.specs.Str.{bytes_eq}
use Rattle.std.proofs.lemmas.Slice.Eq.{bytes_eq-Decides}
use Rattle.std.proofs.lemmas.Bool.{cases_lt, false≢true}
use Rattle.std.proofs.lemmas.Option.{same_Some}
use Rattle.clap.specs.Words.{Kinds, Row}
use Rattle.drawing_repair.specs.declared.options.Faces.{Faces}
use Rattle.drawing_repair.specs.declared.options.Faces.TheVariants.{Find, Skip}
use Rattle.drawing_repair.specs.declared.options.Flat.{Flat}
use Rattle.drawing_repair.specs.declared.options.Flat.TheVariants.{Keep, Drop}
use Rattle.fold_keys.specs.Elements.{id_in_text}
use Rattle.fold_commands.specs.NumberOption.{NamesChoice}
use Rattle.fold_commands.specs.declared.number_option.NumberChoice.{NumberChoice}
use Rattle.fold_commands.specs.declared.number_option.NumberChoice.TheVariants.{Exact}
use Rattle.fold_commands.proofs.NumberOption.{choice_one, choice_or_not}
use Rattle.fold_commands.specs.Words.{Text, NamesCount, NamesFaces, NamesFlat, NamesFormat, NamesNumber, Says, IsConversion, Mean, MeanShow, MeanConvert, MeanRepair, MeanFold, MeanJudge, MeanDrill, AreTaken, AreWordsOf, AreRefused, Reads, TakeNothing, faults, found, said_in}
use Rattle.fold_commands.specs.declared.status.Status.{Status}
use Rattle.fold_commands.specs.declared.status.Status.TheVariants.{Words}
use Rattle.fold_commands.specs.declared.status.WordsCause.TheVariants.{Refused, Value}
use Rattle.fold_commands.specs.declared.words.Command.{Command}
use Rattle.fold_commands.specs.declared.words.Command.TheVariants.{Show, Convert, Repair}
use Rattle.fold_commands.specs.declared.words.Command.TheVariants as commands
use Rattle.fold_commands.specs.Outcome.{strip_of}
use Rattle.fold_commands.specs.declared.words.DrillOptions.{DrillOptions}
use Rattle.fold_commands.specs.declared.words.FoldOptions.{FoldOptions}
use Rattle.fold_commands.specs.declared.words.JudgeOptions.{JudgeOptions}
use Rattle.fold_commands.specs.declared.words.ConvertOptions.{ConvertOptions}
use Rattle.fold_commands.specs.declared.words.ConvertOptions.TheVariants.{Frame, Lines, Drawing}
use Rattle.fold_commands.specs.declared.words.RepairOptions.{RepairOptions}
use Rattle.fold_commands.specs.declared.words.ShowOptions.{ShowOptions}
use Rattle.fold_commands.specs.declared.words.Format.{Format}
use Rattle.fold_commands.specs.declared.words.Format.TheVariants.{Fold, Cp}
use Rattle.fold_commands.proofs.Chain.{Goes, IsStep}
use Rattle.fold_commands.proofs.NumberOption.{choice_one, choice_or_not}

pub same_text : (x y : Text) → (x ≡ y) ⊎ ¬ (x ≡ y)
same_text x y =
    let d = bytes_eq-Decides x y in
    (elim (bytes_eq x y) as (λ r. bytes_eq x y ≡ r → (x ≡ y) ⊎ ¬ (x ≡ y)) [
      | true ↦ λ e. inl (d.0 e)
      | false ↦ λ e. inr (λ p. false≢true (sym e ∙ d.1 p))
    ]) refl

-- ---- the value of an option

-- a text names one value at most
abbrev NamesOne : {X : Type 0} → (Text → X → Type 0) → Type 0
NamesOne {X} names = (text : Text) (x y : X) → names text x → names text y → x ≡ y

-- a text names a value, or none
abbrev NamesOrNot : {X : Type 0} → (Text → X → Type 0) → Type 0
NamesOrNot {X} names = (text : Text) → ((x : X) × names text x) ⊎ ((x : X) → ¬ names text x)

says_one : {X : Type 0} (names : Text → X → Type 0) (default : X) → NamesOne names → (said : Option Text) (x y : X) → Says names default said x → Says names default said y → x ≡ y
says_one names default one None x y p q = p ∙ sym q
says_one names default one (Some text) x y p q = one text x y p q

says_or_not : {X : Type 0} (names : Text → X → Type 0) (default : X) → NamesOrNot names → (said : Option Text) → ((x : X) × Says names default said x) ⊎ ((x : X) → ¬ Says names default said x)
says_or_not names default some None = inl (default, refl)
says_or_not names default some (Some text) = some text

format_one : NamesOne NamesFormat
format_one text Fold Fold p q = refl
format_one text Fold Cp p q = cc
format_one text Cp Fold p q = cc
format_one text Cp Cp p q = refl

format_or_not : NamesOrNot NamesFormat
format_or_not text =
    elim (same_text text (codes "fold")) [
      | inl e ↦ inl (Fold, e)
      | inr no_fold ↦ elim (same_text text (codes "cp")) [ inl e ↦ inl (Cp, e) | inr no_cp ↦ inr (neither no_fold no_cp) ]
    ]
  where
    neither : ¬ (text ≡ codes "fold") → ¬ (text ≡ codes "cp") → (format : Format) → ¬ NamesFormat text format
    neither no_fold no_cp Fold e = no_fold e
    neither no_fold no_cp Cp e = no_cp e

number_one : NamesOne NamesNumber
number_one text x y p q = same_Some x y (sym p ∙ q)

number_or_not : NamesOrNot NamesNumber
number_or_not text = at (id_in_text text) refl
  where
    at : (found : Option ℕ) → id_in_text text ≡ found
        → ((n : ℕ) × NamesNumber text n) ⊎ ((n : ℕ) → ¬ NamesNumber text n)
    at None e = inr (λ n h. let both : None ≡ Some n = sym e ∙ h in cc)
    at (Some n) e = inl (n, e)

count_one : NamesOne NamesCount
count_one text x y p q = number_one text x y p.0 q.0

-- no number of squares is out of its range
past : (v : ℕ) → (v ≡ 0) ⊎ (500 < v) → (n : ℕ) → v ≡ n → 1 ≤ n → n ≤ 500 → ⊥
past v (inl none) n same some few = omega (arith, none, same, some)
past v (inr many) n same some few = omega (arith, many, same, few)

-- what a text names, by the number that it spells
pub count_out : (text : Text) (v : ℕ) → id_in_text text ≡ Some v → (v ≡ 0) ⊎ (500 < v) → (n : ℕ) → ¬ NamesCount text n
count_out text v is out n h = past v out n (same_Some v n (sym is ∙ h.0)) h.1 h.2

pub counted : (text : Text) (v : ℕ) (found : Option ℕ) → Some v ≡ id_in_text text
    → MatchOption found ((v ≡ 0) ⊎ (500 < v)) (λ n. (n ≡ v) × (1 ≤ n) × (n ≤ 500))
    → MatchOption found ((n : ℕ) → ¬ NamesCount text n) (NamesCount text)
counted text v None is out = count_out text v (sym is) out
counted text v (Some n) is h = (sym is ∙ ap Some (sym h.0), h.1, h.2)

pub uncounted : (text : Text) → None ≡ id_in_text text → (n : ℕ) → ¬ NamesCount text n
uncounted text none n h = let no : None ≡ Some n = none ∙ h.0 in cc

count_or_not : NamesOrNot NamesCount
count_or_not text = elim (number_or_not text) [
  | inl p ↦ elim (cases_lt 0 p.0) [
    | inl some ↦ elim (cases_lt 500 p.0) [
      | inl many ↦ inr (count_out text p.0 p.1 (inr many))
      | inr few ↦ inl (p.0, (p.1, omega (arith, some), omega (arith, few)))
    ]
    | inr none ↦ inr (count_out text p.0 p.1 (inl (omega (arith, none))))
  ]
  | inr none ↦ inr (λ n h. none n h.0)
]

-- ---- the options of a command

show_or_not : (said : Text → Option Text)
    → ((o : ShowOptions) × MeanShow said o) ⊎ ((o : ShowOptions) → ¬ MeanShow said o)
show_or_not said = elim (says_or_not NamesFormat Fold format_or_not (said (codes "from"))) [
  | inl p ↦ inl (record { from = p.0 }, p.1)
  | inr none ↦ inr (λ o h. none o.from h)
]

no_formats : Fold ≡ Cp → ⊥
no_formats e = cc

convert_or_not : (said : Text → Option Text)
    → ((o : ConvertOptions) × MeanConvert said o) ⊎ ((o : ConvertOptions) → ¬ MeanConvert said o)
convert_or_not said = elim (says_or_not NamesFormat Fold format_or_not (said (codes "from"))) [
  | inl from ↦ elim (says_or_not NamesFormat Fold format_or_not (said (codes "to"))) [
    | inl to ↦ elim (says_or_not NamesNumber 0 number_or_not (said (codes "frame"))) [
      | inl frame ↦ elim (says_or_not NamesChoice Exact choice_or_not (said (codes "number"))) [
        | inl number ↦ inl (by from.0 to.0 frame.0 number.0 from.1 to.1 frame.1 number.1)
        | inr none ↦ inr (λ o h. none h.3 h.7)
      ]
      | inr none ↦ inr (λ o h. none h.2 h.6)
    ]
    | inr none ↦ inr (λ o h. none h.1 h.5)
  ]
  | inr none ↦ inr (λ o h. none h.0 h.4)
]
  where
    by : (from to : Format) (frame : ℕ) (number : NumberChoice) → Says NamesFormat Fold (said (codes "from")) from
        → Says NamesFormat Fold (said (codes "to")) to → Says NamesNumber 0 (said (codes "frame")) frame
        → Says NamesChoice Exact (said (codes "number")) number → (o : ConvertOptions) × MeanConvert said o
    by Fold to frame number a b c d = (Frame frame to, (Fold, to, frame, number, a, b, c, d, (refl, refl, refl)))
    by Cp Cp frame number a b c d = (Lines, (Cp, Cp, frame, number, a, b, c, d, (refl, refl)))
    by Cp Fold frame number a b c d = (Drawing number, (Cp, Fold, frame, number, a, b, c, d, (refl, refl, refl)))

one_conversion : (from to : Format) (frame : ℕ) (number : NumberChoice) (o p : ConvertOptions)
    → IsConversion from to frame number o → IsConversion from to frame number p → o ≡ p
one_conversion from to frame number (Frame m s) (Frame n t) a b =
    let place : m ≡ n = sym a.2 ∙ b.2 in
    let format : s ≡ t = sym a.1 ∙ b.1 in (λ i. Frame (place i) (format i))
one_conversion from to frame number (Frame m s) Lines a b = absurd (no_formats (sym a.0 ∙ b.0))
one_conversion from to frame number (Frame m s) (Drawing c) a b = absurd (no_formats (sym a.0 ∙ b.0))
one_conversion from to frame number Lines (Frame n t) a b = absurd (no_formats (sym b.0 ∙ a.0))
one_conversion from to frame number Lines Lines a b = refl
one_conversion from to frame number Lines (Drawing c) a b = absurd (no_formats (sym b.1 ∙ a.1))
one_conversion from to frame number (Drawing c) (Frame n t) a b = absurd (no_formats (sym b.0 ∙ a.0))
one_conversion from to frame number (Drawing c) Lines a b = absurd (no_formats (sym a.1 ∙ b.1))
one_conversion from to frame number (Drawing c) (Drawing d) a b = ap Drawing (sym a.2 ∙ b.2)

convert_one : (said : Text → Option Text) (o p : ConvertOptions) → MeanConvert said o
    → MeanConvert said p → o ≡ p
convert_one said o p h k =
    let from = says_one NamesFormat Fold format_one (said (codes "from")) k.0 h.0 k.4 h.4 in
    let to = says_one NamesFormat Fold format_one (said (codes "to")) k.1 h.1 k.5 h.5 in
    let frame = says_one NamesNumber 0 number_one (said (codes "frame")) k.2 h.2 k.6 h.6 in
    let number = says_one NamesChoice Exact choice_one (said (codes "number")) k.3 h.3 k.7 h.7 in
    one_conversion h.0 h.1 h.2 h.3 o p h.8
    (subst (λ c. IsConversion h.0 h.1 h.2 c p) number
    (subst (λ n. IsConversion h.0 h.1 n k.3 p) frame
    (subst (λ t. IsConversion h.0 t k.2 k.3 p) to
    (subst (λ f. IsConversion f k.1 k.2 k.3 p) from k.8))))

-- a text isn't two that differ
pub two_texts : (text a b : Text) → bytes_eq a b ≡ false → text ≡ a → text ≡ b → ⊥
two_texts text a b differ p q = false≢true (sym differ ∙ (bytes_eq-Decides a b).1 (sym p ∙ q))

-- one of two texts names a value, and each of them one
two_named : {X : Type 0} (a b : Text) (x y : X) (names : Text → X → Type 0) → ((text : Text) → text ≡ a → names text x)
    → ((text : Text) → text ≡ b → names text y)
    → ((text : Text) (z : X) → names text z → (text ≡ a) ⊎ (text ≡ b)) → NamesOrNot names
two_named a b x y names first second only text = elim (same_text text a) [
  | inl e ↦ inl (x, first text e)
  | inr no_first ↦ elim (same_text text b) [
    | inl e ↦ inl (y, second text e)
    | inr no_second ↦ inr (λ z h. elim (only text z h) [ inl e ↦ no_first e | inr e ↦ no_second e ])
  ]
]

flat_one : NamesOne NamesFlat
flat_one text Keep Keep p q = refl
flat_one text Keep Drop p q = absurd (two_texts text (codes "keep") (codes "drop") refl p q)
flat_one text Drop Keep p q = absurd (two_texts text (codes "keep") (codes "drop") refl q p)
flat_one text Drop Drop p q = refl

flat_or_not : NamesOrNot NamesFlat
flat_or_not = two_named (codes "keep") (codes "drop") Keep Drop NamesFlat (λ text e. e) (λ text e. e) only
  where
    only : (text : Text) (z : Flat) → NamesFlat text z → (text ≡ codes "keep") ⊎ (text ≡ codes "drop")
    only text Keep h = inl h
    only text Drop h = inr h

faces_one : NamesOne NamesFaces
faces_one text Find Find p q = refl
faces_one text Find Skip p q = cc
faces_one text Skip Find p q = cc
faces_one text Skip Skip p q = refl

faces_or_not : NamesOrNot NamesFaces
faces_or_not = two_named (codes "yes") (codes "no") Find Skip NamesFaces (λ text e. e) (λ text e. e) only
  where
    only : (text : Text) (z : Faces) → NamesFaces text z → (text ≡ codes "yes") ⊎ (text ≡ codes "no")
    only text Find h = inl h
    only text Skip h = inr h

repair_one : (said : Text → Option Text) (o p : RepairOptions) → MeanRepair said o → MeanRepair said p → o ≡ p
repair_one said o p h k =
    let from = says_one NamesFormat Fold format_one (said (codes "from")) o.from p.from h.from k.from in
    let to = says_one NamesFormat Fold format_one (said (codes "to")) o.to p.to h.to k.to in
    let frame = says_one NamesNumber 0 number_one (said (codes "frame")) o.frame p.frame h.frame k.frame in
    let number = says_one NamesChoice Exact choice_one (said (codes "number")) o.number p.number h.number k.number in
    let flat = says_one NamesFlat Keep flat_one (said (codes "flat")) o.flat p.flat h.flat k.flat in
    let faces = says_one NamesFaces Find faces_one (said (codes "faces")) o.faces p.faces h.faces k.faces in
    (λ i. record { from = from i; to = to i; frame = frame i; number = number i; flat = flat i; faces = faces i })

repair_or_not : (said : Text → Option Text) → ((o : RepairOptions) × MeanRepair said o) ⊎ ((o : RepairOptions) → ¬ MeanRepair said o)
repair_or_not said = elim (says_or_not NamesFormat Fold format_or_not (said (codes "from"))) [
  | inl from ↦ elim (says_or_not NamesFormat Fold format_or_not (said (codes "to"))) [
    | inl to ↦ elim (says_or_not NamesNumber 0 number_or_not (said (codes "frame"))) [
      | inl frame ↦ elim (says_or_not NamesChoice Exact choice_or_not (said (codes "number"))) [
        | inl number ↦ elim (says_or_not NamesFlat Keep flat_or_not (said (codes "flat"))) [
          | inl flat ↦ elim (says_or_not NamesFaces Find faces_or_not (said (codes "faces"))) [
            | inl faces ↦ inl (
              record { from = from.0; to = to.0; frame = frame.0; number = number.0; flat = flat.0; faces = faces.0 },
              record { from = from.1; to = to.1; frame = frame.1; number = number.1; flat = flat.1; faces = faces.1 },
            )
            | inr none ↦ inr (λ o h. none o.faces h.faces)
          ]
          | inr none ↦ inr (λ o h. none o.flat h.flat)
        ]
        | inr none ↦ inr (λ o h. none o.number h.number)
      ]
      | inr none ↦ inr (λ o h. none o.frame h.frame)
    ]
    | inr none ↦ inr (λ o h. none o.to h.to)
  ]
  | inr none ↦ inr (λ o h. none o.from h.from)
]

fold_one : (said : Text → Option Text) (o p : FoldOptions) → MeanFold said o → MeanFold said p → o ≡ p
fold_one said o p h k =
    let frame = says_one NamesNumber 0 number_one (said (codes "frame")) o.frame p.frame h.frame k.frame in
    let number = says_one NamesChoice Exact choice_one (said (codes "number")) o.number p.number h.number k.number in
    (λ i. record { frame = frame i; number = number i })

fold_or_not : (said : Text → Option Text) → ((o : FoldOptions) × MeanFold said o) ⊎ ((o : FoldOptions) → ¬ MeanFold said o)
fold_or_not said = elim (says_or_not NamesNumber 0 number_or_not (said (codes "frame"))) [
  | inl frame ↦ elim (says_or_not NamesChoice Exact choice_or_not (said (codes "number"))) [
    | inl number ↦ inl (record { frame = frame.0; number = number.0 }, record { frame = frame.1; number = number.1 })
    | inr none ↦ inr (λ o h. none o.number h.number)
  ]
  | inr none ↦ inr (λ o h. none o.frame h.frame)
]

-- orders that are said beside one frame are said beside the frame that is said
pub orders_beside : (said : Text → Option Text) (frame : ℕ) → Says NamesNumber 0 (said (codes "frame")) frame
    → (o : JudgeOptions) → MeanJudge said o → Says NamesNumber frame (said (codes "orders")) o.orders
orders_beside said frame is o h =
    subst (λ f. Says NamesNumber f (said (codes "orders")) o.orders)
    (says_one NamesNumber 0 number_one (said (codes "frame")) o.frame frame h.frame is) h.orders

judge_one : (said : Text → Option Text) (o p : JudgeOptions) → MeanJudge said o → MeanJudge said p → o ≡ p
judge_one said o p h k =
    let frame = says_one NamesNumber 0 number_one (said (codes "frame")) o.frame p.frame h.frame k.frame in
    let number = says_one NamesChoice Exact choice_one (said (codes "number")) o.number p.number h.number k.number in
    let orders = says_one NamesNumber p.frame number_one (said (codes "orders")) o.orders p.orders (orders_beside said p.frame k.frame o h) k.orders in
    (λ i. record { frame = frame i; number = number i; orders = orders i })

judge_or_not : (said : Text → Option Text) → ((o : JudgeOptions) × MeanJudge said o) ⊎ ((o : JudgeOptions) → ¬ MeanJudge said o)
judge_or_not said = elim (says_or_not NamesNumber 0 number_or_not (said (codes "frame"))) [
  | inl frame ↦ elim (says_or_not NamesChoice Exact choice_or_not (said (codes "number"))) [
    | inl number ↦ elim (says_or_not NamesNumber frame.0 number_or_not (said (codes "orders"))) [
      | inl orders ↦ inl (
        record { frame = frame.0; number = number.0; orders = orders.0 },
        record { frame = frame.1; number = number.1; orders = orders.1 },
      )
      | inr none ↦ inr (λ o h. none o.orders (orders_beside said frame.0 frame.1 o h))
    ]
    | inr none ↦ inr (λ o h. none o.number h.number)
  ]
  | inr none ↦ inr (λ o h. none o.frame h.frame)
]

drill_one : (said : Text → Option Text) (o p : DrillOptions) → MeanDrill said o → MeanDrill said p → o ≡ p
drill_one said o p h k =
    let count = says_one NamesCount 100 count_one (said (codes "count")) o.count p.count h k in (λ i. record { count = count i })

drill_or_not : (said : Text → Option Text) → ((o : DrillOptions) × MeanDrill said o) ⊎ ((o : DrillOptions) → ¬ MeanDrill said o)
drill_or_not said = elim (says_or_not NamesCount 100 count_or_not (said (codes "count"))) [
  | inl count ↦ inl (record { count = count.0 }, count.1)
  | inr none ↦ inr (λ o h. none o.count h)
]

-- ---- the command

mean_one : (name : Text) (said : Text → Option Text) (c d : Command) → Mean name said c → Mean name said d → c ≡ d
mean_one name said (Show o) (Show p) h k = ap (λ f. Show (record { from = f })) (says_one NamesFormat Fold format_one (said (codes "from")) o.from p.from h.1 k.1)
mean_one name said (Convert o) (Convert p) h k = ap Convert (convert_one said o p h.1 k.1)
mean_one name said (Repair o) (Repair p) h k = ap Repair (repair_one said o p h.1 k.1)
mean_one name said (commands.Fold o) (commands.Fold p) h k = ap commands.Fold (fold_one said o p h.1 k.1)
mean_one name said (commands.Judge o) (commands.Judge p) h k = ap commands.Judge (judge_one said o p h.1 k.1)
mean_one name said (commands.Drill o) (commands.Drill p) h k = ap commands.Drill (drill_one said o p h.1 k.1)
mean_one name said c d h k = absurd (two_texts name _ _ refl h.0 k.0)

-- options that are said, or none, of the one command with this name
module _ (name : Text) (said : Text → Option Text) where
  pub no_show : name ≡ codes "show" → ((o : ShowOptions) → ¬ MeanShow said o) → (c : Command) → ¬ Mean name said c
  no_show show none (Show o) h = none o h.1
  no_show show none c h = two_texts name _ _ refl show h.0

  pub no_convert : name ≡ codes "convert" → ((o : ConvertOptions) → ¬ MeanConvert said o) → (c : Command) → ¬ Mean name said c
  no_convert convert none (Convert o) h = none o h.1
  no_convert convert none c h = two_texts name _ _ refl convert h.0

  pub no_repair : name ≡ codes "repair" → ((o : RepairOptions) → ¬ MeanRepair said o) → (c : Command) → ¬ Mean name said c
  no_repair repair none (Repair o) h = none o h.1
  no_repair repair none c h = two_texts name _ _ refl repair h.0

  pub no_fold : name ≡ codes "fold" → ((o : FoldOptions) → ¬ MeanFold said o) → (c : Command) → ¬ Mean name said c
  no_fold fold none (commands.Fold o) h = none o h.1
  no_fold fold none c h = two_texts name _ _ refl fold h.0

  pub no_judge : name ≡ codes "judge" → ((o : JudgeOptions) → ¬ MeanJudge said o) → (c : Command) → ¬ Mean name said c
  no_judge judge none (commands.Judge o) h = none o h.1
  no_judge judge none c h = two_texts name _ _ refl judge h.0

  pub no_drill : name ≡ codes "drill" → ((o : DrillOptions) → ¬ MeanDrill said o) → (c : Command) → ¬ Mean name said c
  no_drill drill none (commands.Drill o) h = none o h.1
  no_drill drill none c h = two_texts name _ _ refl drill h.0

  -- the name is that of one of the commands, or of none
  named : (c : Command) → Mean name said c
      → (name ≡ codes "show") ⊎ ((name ≡ codes "convert") ⊎ ((name ≡ codes "repair")
      ⊎ ((name ≡ codes "fold") ⊎ ((name ≡ codes "judge") ⊎ (name ≡ codes "drill")))))
  named (Show o) h = inl h.0
  named (Convert o) h = inr (inl h.0)
  named (Repair o) h = inr (inr (inl h.0))
  named (commands.Fold o) h = inr (inr (inr (inl h.0)))
  named (commands.Judge o) h = inr (inr (inr (inr (inl h.0))))
  named (commands.Drill o) h = inr (inr (inr (inr (inr h.0))))

  abbrev MeanOrNot : Type 0
  MeanOrNot = ((c : Command) × Mean name said c) ⊎ ((c : Command) → ¬ Mean name said c)

  -- a command that has this name is meant, or none is
  by_options : {O : Type 0} (mean : O → Type 0) → ((o : O) → mean o → (c : Command) × Mean name said c)
      → (((o : O) → ¬ mean o) → (c : Command) → ¬ Mean name said c)
      → ((o : O) × mean o) ⊎ ((o : O) → ¬ mean o) → MeanOrNot
  by_options mean some none_of (inl p) = inl (some p.0 p.1)
  by_options mean some none_of (inr none) = inr (none_of none)

  mean_or_not : MeanOrNot
  mean_or_not = elim (same_text name (codes "show")) [
    | inl is ↦ by_options (MeanShow said) (λ o h. (Show o, (is, h))) (no_show is) (show_or_not said)
    | inr not_show ↦ elim (same_text name (codes "convert")) [
      | inl is ↦ by_options (MeanConvert said) (λ o h. (Convert o, (is, h))) (no_convert is) (convert_or_not said)
      | inr not_convert ↦ elim (same_text name (codes "repair")) [
        | inl is ↦ by_options (MeanRepair said) (λ o h. (Repair o, (is, h))) (no_repair is) (repair_or_not said)
        | inr not_repair ↦ elim (same_text name (codes "fold")) [
          | inl is ↦ by_options (MeanFold said) (λ o h. (commands.Fold o, (is, h))) (no_fold is) (fold_or_not said)
          | inr not_fold ↦ elim (same_text name (codes "judge")) [
            | inl is ↦ by_options (MeanJudge said) (λ o h. (commands.Judge o, (is, h))) (no_judge is) (judge_or_not said)
            | inr not_judge ↦ elim (same_text name (codes "drill")) [
              | inl is ↦ by_options (MeanDrill said) (λ o h. (commands.Drill o, (is, h))) (no_drill is) (drill_or_not said)
              | inr not_drill ↦ inr (λ c h. elim (named c h) [
                | inl e ↦ not_show e
                | inr (inl e) ↦ not_convert e
                | inr (inr (inl e)) ↦ not_repair e
                | inr (inr (inr (inl e))) ↦ not_fold e
                | inr (inr (inr (inr (inl e)))) ↦ not_judge e
                | inr (inr (inr (inr (inr e)))) ↦ not_drill e
              ])
            ]
          ]
        ]
      ]
    ]
  ]

-- a command reads the input, or the text of a strip
reads : (command : Command) → strip_of command ≡ None → Reads command
reads (Show options) none = tt
reads (Convert options) none = tt
reads (Repair options) none = tt
reads (commands.Fold options) none = tt
reads (commands.Judge options) none = tt
reads (commands.Drill options) none = let no : None ≡ Some options.count = sym none in cc

reads_strip : (command : Command) (count : ℕ) → strip_of command ≡ Some count → ¬ Reads command
reads_strip (Show options) count some r = let no : None ≡ Some count = some in cc
reads_strip (Convert options) count some r = let no : None ≡ Some count = some in cc
reads_strip (Repair options) count some r = let no : None ≡ Some count = some in cc
reads_strip (commands.Fold options) count some r = let no : None ≡ Some count = some in cc
reads_strip (commands.Judge options) count some r = let no : None ≡ Some count = some in cc
reads_strip (commands.Drill options) count some r = r

-- ---- the words

same_name : (n m : Text) (r s : List Row) (o : Option (Text × List Row)) → o ≡ Some (n, r) → o ≡ Some (m, s) → n ≡ m
same_name n m r s o p q = ap (λ (x : Option (Text × List Row)). option_map_or (λ y. y.0) x []) (sym p ∙ q)

same_rows : (n m : Text) (r s : List Row) (o : Option (Text × List Row)) → o ≡ Some (n, r) → o ≡ Some (m, s) → r ≡ s
same_rows n m r s o p q = ap (λ (x : Option (Text × List Row)). option_map_or (λ y. y.1) x []) (sym p ∙ q)

-- what two names and rows that `clap` finds in the same words mean is the same
moved : (words : List Text) (n m : Text) (r s : List Row) (c : Command) → AreTaken words n r → AreTaken words m s → Mean n (said_in r) c → Mean m (said_in s) c
moved words n m r s c p q h = subst (λ x. Mean x (said_in s) c) (same_name n m r s (found words) p.1 q.1) (subst (λ x. Mean n (said_in x) c) (same_rows n m r s (found words) p.1 q.1) h)

pub one_command : (words : List Text) (c d : Command) → AreWordsOf words c → AreWordsOf words d → c ≡ d
one_command words c d p q = mean_one q.0 (said_in q.1) c d (moved words p.0 q.0 p.1 q.1 c p.2 q.2 p.3) q.3

-- `clap` either takes the words or doesn't
not_both : (words : List Text) (name : Text) (rows : List Row) → (faults words ≢ []) ⊎ (found words ≡ None) → AreTaken words name rows → ⊥
not_both words name rows (inl h) p = h p.0
not_both words name rows (inr e) p = let both : None ≡ Some (name, rows) = sym e ∙ p.1 in cc

one_refusal : (words : List Text) (s s' : Status) → AreRefused words s → AreRefused words s' → s ≡ s'
one_refusal words s s' (inl p) (inl q) = p.1 ∙ sym q.1
one_refusal words s s' (inl p) (inr q) = absurd (not_both words q.0 q.1 p.0 q.2)
one_refusal words s s' (inr p) (inl q) = absurd (not_both words p.0 p.1 q.0 p.2)
one_refusal words s s' (inr p) (inr q) = p.4 ∙ sym q.4

pub apart : (words : List Text) (s : Status) (c : Command) → AreRefused words s → AreWordsOf words c → ⊥
apart words s c (inl p) q = not_both words q.0 q.1 p.0 q.2
apart words s c (inr p) q = p.3 c (moved words q.0 p.0 q.1 p.1 c q.2 p.2 q.3)

pub words_step : (words : List Text) → IsStep (AreRefused words) (AreWordsOf words)
words_step words = record { one_stop = one_refusal words; one_value = one_command words; apart = apart words }

taken_goes : (words : List Text) (name : Text) (rows : List Row) → AreTaken words name rows → Goes (AreRefused words) (AreWordsOf words)
taken_goes words name rows taken = elim (mean_or_not name (said_in rows)) [
  | inl p ↦ inr (p.0, (name, rows, taken, p.1))
  | inr none ↦ inl (Words Value, inr (name, rows, taken, none, refl))
]

pub words_go : (words : List Text) → Goes (AreRefused words) (AreWordsOf words)
words_go words = by_faults (faults words) refl
  where
    by_found : (o : Option (Text × List Row)) → found words ≡ o → faults words ≡ [] → Goes (AreRefused words) (AreWordsOf words)
    by_found None e taken = inl (Words Refused, inl (inr e, refl))
    by_found (Some p) e taken = taken_goes words p.0 p.1 (taken, e)

    by_faults : (kinds : Kinds) → faults words ≡ kinds → Goes (AreRefused words) (AreWordsOf words)
    by_faults [] e = by_found (found words) refl e
    by_faults (k ∷ ks) e = inl (Words Refused, inl (inl (λ none. let both = sym e ∙ none in cc), refl))

-- no refusal of words is more than that
pub refused_words : (words : List Text) (s : Status) → AreRefused words s → (s ≡ Words Refused) ⊎ (s ≡ Words Value)
refused_words words s (inl p) = inl p.1
refused_words words s (inr p) = inr p.4

-- words that take nothing have no command that reads the input
pub no_command : (words : List Text) (command : Command) → strip_of command ≡ None → TakeNothing words → AreWordsOf words command → ⊥
no_command words command none nothing h = nothing command h (reads command none)

-- words of a command that reads the text of a strip take nothing
pub take_nothing : (words : List Text) (command : Command) (count : ℕ) → strip_of command ≡ Some count → AreWordsOf words command → TakeNothing words
take_nothing words command count some h other k =
    subst (λ c. ¬ Reads c) (one_command words command other h k) (reads_strip command count some)

-- and the squares of the strip are from 1 to 500
pub in_range : (words : List Text) (command : Command) (count : ℕ) → strip_of command ≡ Some count → AreWordsOf words command → (1 ≤ count) × (count ≤ 500)
in_range words command count some h = of command count some h.0 (said_in h.1) h.3
  where
    said_count : (said : Option Text) (n : ℕ) → Says NamesCount 100 said n → (1 ≤ n) × (n ≤ 500)
    said_count None n is = (omega (arith, is), omega (arith, is))
    said_count (Some text) n is = (is.1, is.2)

    of : (c : Command) (n : ℕ) → strip_of c ≡ Some n → (name : Text) (said : Text → Option Text) → Mean name said c → (1 ≤ n) × (n ≤ 500)
    of (Show options) n some name said h = let no : None ≡ Some n = some in absurd (cc)
    of (Convert options) n some name said h = let no : None ≡ Some n = some in absurd (cc)
    of (Repair options) n some name said h = let no : None ≡ Some n = some in absurd (cc)
    of (commands.Fold options) n some name said h = let no : None ≡ Some n = some in absurd (cc)
    of (commands.Judge options) n some name said h = let no : None ≡ Some n = some in absurd (cc)
    of (commands.Drill options) n some name said h =
        subst (λ k. (1 ≤ k) × (k ≤ 500)) (same_Some options.count n some) (said_count (said (codes "count")) options.count h.1)
