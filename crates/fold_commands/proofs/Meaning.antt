-- what `clap` finds in the words, and what that means
use Rattle.std.proofs.Common.{Bool, false, None, Some, ◌^◌, arith, ◌≡◌, ◌≢◌, ◌∙◌, ◌⊎◌, ◌+◌, ◌<◌, ℕ, List, [], ◌∷◌, ◌++◌, Bor, length, get_or, take, map, subst, sym, ap, codes, refl, true, inl, inr}
use Rattle.std.specs.declared.option.Option.{Option}
use Rattle.std.specs.List.{fold}
use Rattle.std.proofs.lemmas.List.{take_more, map-append}
use Rattle.std.proofs.lemmas.List.Sums.{fold-append}
use Rattle.std.specs.Fmt.{decimal}
use Rattle.std.specs.Prelude.{nat_lt, ◌&&◌, if◌then◌else◌}
use Rattle.std.specs.Str.{bytes_eq}
use Rattle.std.specs.Str.Parse.{digits_value}
use Rattle.std.proofs.lemmas.Bool.{ltb-true}
use Rattle.std.proofs.lemmas.Option.{same_Some}
use Rattle.json_tree.specs.Number.{IsNumber}
use Rattle.fold_keys.specs.Elements.{id_in_text}
use Rattle.fold_keys.proofs.IdTexts.{id_spelled}
use Rattle.fold_keys.proofs.Spelled.{id_is_number}
use Rattle.clap.specs.Kinds.{HasKind, IsAmong, Kinds}
use Rattle.clap.specs.Values.{kind_of}
use Rattle.clap.specs.Words.{App, HasMatchesOf, fault_of, is_simple, is_simple_and_free, subcommand_rows_of}
use Rattle.clap.specs.declared.error.Error.{Error}
use Rattle.clap.specs.declared.error.kind.ErrorKind.{ErrorKind}
use Rattle.clap.specs.declared.parser.matches.ArgMatches.{ArgMatches}
use Rattle.fold_commands.specs.NumberOption.{NamesChoice}
use Rattle.fold_commands.specs.declared.number_option.NumberChoice.TheVariants.{Exact}
use Rattle.fold_commands.specs.Words.{Text, NamesFormat, NamesNothing, NamesNumber, Says, Mean, MeanShow, MeanConvert, MeansNone, app, as_listed, faults, found, no_entries, option_rule, with_entry}
use Rattle.fold_commands.specs.Status.{IsOfWords}
use Rattle.fold_commands.specs.declared.words.Entry.{Entry}
use Rattle.fold_commands.specs.declared.words.Command.{Command}
use Rattle.fold_commands.specs.declared.words.Format.{Format}
use Rattle.fold_commands.specs.declared.words.Format.TheVariants.{Fold}
use Rattle.fold_commands.specs.declared.status.WordsCause.{WordsCause}
use Rattle.fold_commands.specs.declared.status.Status.{Status}
use Rattle.fold_commands.specs.declared.status.Status.TheVariants.{Memory, Words}
use Rattle.fold_commands.specs.declared.status.WordsCause.TheVariants.{Refused, Value}

-- one entry more
pub entries_more : (xs : List Entry) (i : ℕ) (d : Entry) → i < length xs
    → fold with_entry no_entries (map as_listed (take (i + 1) xs)) ≡ with_entry (fold with_entry no_entries (map as_listed (take i xs))) (as_listed (get_or xs i d))
entries_more xs i d below =
    ap (λ ys. fold with_entry no_entries (map as_listed ys)) (take_more xs i d below)
    ∙ ap (fold with_entry no_entries) (map-append as_listed (take i xs) (get_or xs i d ∷ []))
    ∙ fold-append with_entry no_entries (map as_listed (take i xs)) (as_listed (get_or xs i d) ∷ [])

-- one option more
pub rules_more : (xs : List (Bor Text)) (i : ℕ) (d : Bor Text) → i < length xs
    → map option_rule (map (λ option. option.now) (take i xs)) ++ option_rule (get_or xs i d).now ∷ [] ≡ map option_rule (map (λ option. option.now) (take (i + 1) xs))
rules_more xs i d below =
    sym (ap (λ ys. map option_rule (map (λ (option : Bor Text). option.now) ys)) (take_more xs i d below)
    ∙ ap (map option_rule) (map-append (λ (option : Bor Text). option.now) (take i xs) (get_or xs i d ∷ []))
    ∙ map-append option_rule (map (λ (option : Bor Text). option.now) (take i xs)) ((get_or xs i d).now ∷ []))

-- the table's command is one of which `clap` says exactly what it takes
simple_and_free : is_simple_and_free app ≡ true
simple_and_free = refl

simple : is_simple app ≡ true
simple = refl

pub faults_at_ok : (a : App) (words : List Text) → a ≡ app → (is_simple_and_free a ≡ true → fault_of a words ≡ []) → faults words ≡ []
unfolding faults
faults_at_ok a words same taken = subst (λ b. (is_simple_and_free b ≡ true → fault_of b words ≡ []) → fault_of app words ≡ []) (sym same) (λ h. h simple_and_free) taken

pub found_at_ok : (a : App) (words : List Text) (m : ArgMatches) → a ≡ app → HasMatchesOf a words m → subcommand_rows_of m ≡ found words
unfolding found
found_at_ok a words m same has = (subst (λ b. HasMatchesOf b words m) same has simple).1

some_among : (k : ErrorKind) (kinds : Kinds) → IsAmong k kinds → kinds ≢ []
some_among k [] h e = h
some_among k (x ∷ xs) h e = cc

-- an error that isn't want of memory comes from a fault of the words
pub refused : (a : App) (words : List Text) (error : Error) (status : Status) → a ≡ app → (is_simple_and_free a ≡ true → HasKind (fault_of a words) error) → IsOfWords error status
    → (status ≡ Memory) ⊎ ((faults words ≢ []) × (status ≡ Words Refused))
unfolding faults
refused a words error status same has (inl p) = inl p.1
refused a words error status same has (inr p) =
    elim (subst (λ b. (is_simple_and_free b ≡ true → HasKind (fault_of b words) error) → HasKind (fault_of app words) error) (sym same) (λ h. h simple_and_free) has) [
      | inl memory ↦ absurd (p.0 memory)
      | inr among ↦ inr (some_among (kind_of error) (fault_of app words) among, p.1)
    ]

-- ---- what is said means nothing

-- where its options mean nothing, no command has the name
pub no_meaning : {O : Type 0} (mean : O → Type 0) (name : Text) (said : Text → Option Text) (status : Status)
    → (((o : O) → ¬ mean o) → (c : Command) → ¬ Mean name said c)
    → MeansNone mean status → MeansNone (Mean name said) status
no_meaning mean name said status none_of (inl memory) = inl memory
no_meaning mean name said status none_of (inr h) = inr (h.0, none_of h.1)

-- an option that names no value leaves the others without a meaning
pub no_option : {O X : Type 0} (mean : O → Type 0) (names : Text → X → Type 0) (default : X) (said : Text → Option Text)
    (name : Text) (text : Option Text) (status : Status)
    → ((o : O) → mean o → (x : X) × Says names default (said name) x)
    → text ≡ said name → MeansNone (Says names default text) status
    → MeansNone mean status
no_option mean names default said name text status part is (inl memory) = inl memory
no_option mean names default said name text status part is (inr h) =
    inr (
      h.0,
      λ o m. let p = part o m in
          h.1 p.0 (subst (λ t. Says names default t p.0) (sym is) p.1),
    )

pub nothing_named : {X : Type 0} (names : Text → X → Type 0) (default : X) (text : Option Text)
    (cause : WordsCause) → NamesNothing names default text cause
    → MeansNone (Says names default text) (Words cause)
nothing_named names default text cause h = inr (ap Words h.0, h.1)

pub no_format : (said : Text → Option Text) (text : Option Text) (cause : WordsCause) → text ≡ said (codes "from")
    → cause ≡ Value → ((format : Format) → ¬ Says NamesFormat Fold text format)
    → MeansNone (MeanShow said) (Words cause)
no_format said text cause is value none =
    inr (ap Words value, λ o h. none o.from (subst (λ t. Says NamesFormat Fold t o.from) (sym is) h))

pub no_from : (said : Text → Option Text) (text : Option Text) (cause : WordsCause) → text ≡ said (codes "from")
    → cause ≡ Value → ((format : Format) → ¬ Says NamesFormat Fold text format)
    → MeansNone (MeanConvert said) (Words cause)
no_from said text cause is value none =
    inr (ap Words value, λ o h. none h.0 (subst (λ t. Says NamesFormat Fold t h.0) (sym is) h.4))

pub no_to : (said : Text → Option Text) (text : Option Text) (cause : WordsCause) → text ≡ said (codes "to")
    → cause ≡ Value → ((format : Format) → ¬ Says NamesFormat Fold text format)
    → MeansNone (MeanConvert said) (Words cause)
no_to said text cause is value none =
    inr (ap Words value, λ o h. none h.1 (subst (λ t. Says NamesFormat Fold t h.1) (sym is) h.5))

pub no_frame : (said : Text → Option Text) (text : Option Text) (status : Status) → text ≡ said (codes "frame")
    → MeansNone (Says NamesNumber 0 text) status → MeansNone (MeanConvert said) status
no_frame said text status is (inl memory) = inl memory
no_frame said text status is (inr h) =
    inr (h.0, λ o m. h.1 m.2 (subst (λ t. Says NamesNumber 0 t m.2) (sym is) m.6))

pub no_choice : (said : Text → Option Text) (text : Option Text) (status : Status) → text ≡ said (codes "number")
    → MeansNone (Says NamesChoice Exact text) status → MeansNone (MeanConvert said) status
no_choice said text status is (inl memory) = inl memory
no_choice said text status is (inr h) =
    inr (h.0, λ o m. h.1 m.3 (subst (λ t. Says NamesChoice Exact t m.3) (sym is) m.7))

-- ---- numbers

id_small : (text : List ℕ) (n : ℕ) → id_in_text text ≡ Some n → n < 2 ^ 32
id_small text n e =
    at (bytes_eq text (decimal (digits_value 10 text))) (nat_lt (digits_value 10 text) (2 ^ 32)) refl e
  where
    at : (a b : Bool) → nat_lt (digits_value 10 text) (2 ^ 32) ≡ b
        → (if a && b then Some (digits_value 10 text) else None) ≡ Some n → n < 2 ^ 32
    at true true small h =
        let same : digits_value 10 text ≡ n = same_Some (digits_value 10 text) n h in
        subst (λ m. m < 2 ^ 32) same (ltb-true (digits_value 10 text) (2 ^ 32) small)
    at true false small h = cc
    at false b small h = cc

pub no_number : (text : List ℕ) → ¬ IsNumber text → None ≡ id_in_text text
no_number text none = at (id_in_text text) refl
  where
    at : (o : Option ℕ) → id_in_text text ≡ o → None ≡ o
    at None e = refl
    at (Some n) e =
        let small = id_small text n e in
        absurd (none (subst IsNumber (id_spelled text n e) (id_is_number n (omega (arith, small)))))
