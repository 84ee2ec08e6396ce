-- `clap` takes words of the plain form, and finds in them what they say
use Rattle.std.proofs.Common.{◌≡◌, ◌∙◌, ◌++◌, ◌||◌, ◌&&◌, ◌==◌, ℕ, zero, suc, Bool, true, false, not, List, [], ◌∷◌, map, subst, sym, ap, ap₂, codes, refl, arith, append-nil, append_assoc}
use Rattle.std.specs.declared.option.Option.{Option}
use Rattle.std.specs.declared.option.Option.TheVariants.{None, Some}
use Rattle.std.specs.Prelude.{option_map, option_and_then, is_some, if◌then◌else◌, slice_get}
use Rattle.std.specs.List.{find, fold, list_all, list_any}
use Rattle.std.specs.Option.{option_map_or}
use Rattle.std.specs.Str.{bytes_eq}
use Rattle.std.proofs.lemmas.Slice.Eq.{bytes_eq-Decides}
use Rattle.std.proofs.lemmas.Bool.Decides.{nat_tests}
use Rattle.clap.specs.Words.{App, Kinds, Row, Rule, Shape}
use Rattle.clap.specs.Lexer.{long_of, long_of_rest, name_and_value}
use Rattle.clap.specs.Walk.{Held, Names, Walk, after_flag, after_step, answers_to, arg_by_long, at_row, finished, has_row, idle, long_met, long_or_other, more_values, nothing_held, reading_by, rows_after, settled, subcommand_met, subcommand_or_other, trailing, walk, walk_from, walked, with_default, with_values, without}
use Rattle.clap.specs.Simple.{built, built_leaf, entered, filled, help_rule, help_shape, label_of, names_of, new_shape, rows_at, with_index}
use Rattle.clap.specs.Faults.{built_fault, check_fault, defaults_fault, entered_fault, flag_word_fault, level_fault, long_fault, other_fault, settle_fault, step_fault, turn_fault, values_fault, walk_fault}
use Rattle.clap.specs.Kinds.{check_kinds, or_else}
use Rattle.clap.specs.Takes.{is_given}
use Rattle.clap.specs.declared.error.kind.ErrorKind.TheVariants as kind
use Rattle.clap.specs.declared.parser.matches.ValueSource.TheVariants.{CommandLine}
use Rattle.clap.proofs.CutLemmas.{Lacks}
use Rattle.clap.proofs.FaultLemmas.{stopped_fault}
use Rattle.clap.proofs.LexerLemmas.{name_and_value-at}
use Rattle.clap.proofs.OnLiterals.{clap_on_literals}
use Rattle.clap.proofs.WalkLemmas.{both, find-map}
use Rattle.fold_commands.specs.Words.{Text, Listed, table, app, option_rule, faults, found, said_in, Mean, AreTaken, AreWordsOf, plain_word, said_by, NameOnce, entry_of, ArePlainWordsOf}
use Rattle.fold_commands.specs.declared.words.Command.{Command}

-- ---- tests

either : (a b : Bool) → (a || b) ≡ false → (a ≡ false) × (b ≡ false)
either true b e = let no : true ≡ false = e in cc
either false b e = (refl, e)

lacks : (c : ℕ) (xs : Text) → list_any (λ x. x == c) xs ≡ false → Lacks c xs
lacks c [] e i below = absurd (omega arith)
lacks c (x ∷ xs) e zero below = let h = (either (x == c) _ e).0 in grind (arith, nat_tests)
lacks c (x ∷ xs) e (suc i) below = lacks c xs (either (x == c) _ e).1 i (omega arith)

differ_back : (a b : Text) → bytes_eq a b ≡ false → bytes_eq b a ≡ false
differ_back a b e = go (bytes_eq b a) refl
  where
    go : (t : Bool) → bytes_eq b a ≡ t → t ≡ false
    go false h = refl
    go true h = let same : bytes_eq a b ≡ true = (bytes_eq-Decides a b).1 (sym ((bytes_eq-Decides b a).0 h)) in cc

-- what is so of each entry is so of the one that is found
entry_passes : (test : Listed → Bool) (es : List Listed) (name : Text) (entry : Listed) → list_all test es ≡ true → find (λ e. bytes_eq e.name name) es ≡ Some entry → test entry ≡ true
entry_passes test [] name entry all is = let no : None ≡ Some entry = is in cc
entry_passes test (e ∷ es) name entry all is = go (bytes_eq e.name name) is (entry_passes test es name entry (both (test e) _ all).1)
  where
    go : (t : Bool) → (if t then Some e else find (λ x. bytes_eq x.name name) es) ≡ Some entry → (find (λ x. bytes_eq x.name name) es ≡ Some entry → test entry ≡ true) → test entry ≡ true
    go true h next = let same : e ≡ entry = cc in subst (λ x. test x ≡ true) same (both (test e) _ all).0
    go false h next = next h

option_passes : (test : Text → Bool) (os : List Text) (n : Text) → list_all test os ≡ true → list_any (λ o. bytes_eq o n) os ≡ true → test n ≡ true
option_passes test [] n all is = let no : false ≡ true = is in cc
option_passes test (o ∷ os) n all is = go (bytes_eq o n) refl is (option_passes test os n (both (test o) _ all).1)
  where
    go : (t : Bool) → bytes_eq o n ≡ t → (t || list_any (λ x. bytes_eq x n) os) ≡ true → (list_any (λ x. bytes_eq x n) os ≡ true → test n ≡ true) → test n ≡ true
    go true e h next = subst (λ x. test x ≡ true) ((bytes_eq-Decides o n).0 e) (both (test o) _ all).0
    go false e h next = next h

-- ---- the table as `clap` builds it

abbrev option_built : Text → Rule
option_built name = with_index 1 (filled (option_rule name))

abbrev help_built : Rule
help_built = with_index 1 (filled help_rule)

abbrev rules_of : List Text → List Rule
rules_of options = map option_built options ++ help_built ∷ []

abbrev leaf : Listed → Shape
leaf entry = record (new_shape entry.name) { rules = rules_of entry.options; no_binary_name = true; disable_help_subcommand = true; is_built = true }

subs_are : (built app).subs ≡ map leaf table ++ built_leaf help_shape ∷ []
subs_are = refl

finds_option : (os : List Text) (n : Text) → list_any (λ o. bytes_eq o n) os ≡ true → arg_by_long (rules_of os) n ≡ Some (option_built n)
finds_option [] n h = let no : false ≡ true = h in cc
finds_option (o ∷ os) n h = go (bytes_eq o n) refl h (finds_option os n)
  where
    go : (t : Bool) → bytes_eq o n ≡ t → (t || list_any (λ x. bytes_eq x n) os) ≡ true
        → (list_any (λ x. bytes_eq x n) os ≡ true → arg_by_long (rules_of os) n ≡ Some (option_built n))
        → (if t || false then Some (option_built o) else arg_by_long (rules_of os) n) ≡ Some (option_built n)
    go true e k next = ap (λ x. Some (option_built x)) ((bytes_eq-Decides o n).0 e)
    go false e k next = next k

finds_leaf : (es : List Listed) (rest : List Shape) (name : Text) (entry : Listed) → find (λ e. bytes_eq e.name name) es ≡ Some entry
    → find (λ s. answers_to name (label_of s)) (map leaf es ++ rest) ≡ Some (leaf entry)
finds_leaf [] rest name entry is = let no : None ≡ Some entry = is in cc
finds_leaf (e ∷ es) rest name entry is = go (bytes_eq e.name name) is (finds_leaf es rest name entry)
  where
    go : (t : Bool) → (if t then Some e else find (λ x. bytes_eq x.name name) es) ≡ Some entry
        → (find (λ x. bytes_eq x.name name) es ≡ Some entry → find (λ s. answers_to name (label_of s)) (map leaf es ++ rest) ≡ Some (leaf entry))
        → (if t || false then Some (leaf e) else find (λ s. answers_to name (label_of s)) (map leaf es ++ rest)) ≡ Some (leaf entry)
    go true h next = ap (option_map leaf) h
    go false h next = next h

-- ---- one word

rest_at : (n v : Text) → long_of_rest (n ++ 61 ∷ v) ≡ Some (name_and_value (n ++ 61 ∷ v))
rest_at [] v = refl
rest_at (x ∷ n) v = refl

long_plain : (n v : Text) → Lacks 61 n → long_of (plain_word (n, v)) ≡ Some (n, Some v)
long_plain n v h = ap long_of_rest (append_assoc n (61 ∷ []) v) ∙ rest_at n v ∙ ap (λ p. Some p) (name_and_value-at n v h)

not_dashes : (n v : Text) → bytes_eq (plain_word (n, v)) (45 ∷ 45 ∷ []) ≡ false
not_dashes [] v = refl
not_dashes (x ∷ n) v = refl

abbrev plain_row : Text × Text → Row
plain_row p = record { id = p.0; values = p.1 ∷ []; count = None; source = Some CommandLine; reading = reading_by (option_built p.0) }

abbrev held : List Row → Held
held rows = record { rows = rows; pending = None; skip = 0 }

at_new_row : (id : Text) (change : Row → List Row) (missing rows : List Row) → has_row id rows ≡ false → at_row id change missing rows ≡ rows ++ missing
at_new_row id change missing [] e = refl
at_new_row id change missing (r ∷ rs) e =
    let h = either (bytes_eq r.id id) _ e in
    rw h.0 (ap (λ l. r ∷ l) (at_new_row id change missing rs h.1))

new_row : (p : Text × Text) (rows : List Row) → has_row p.0 rows ≡ false
    → with_values p.0 (reading_by (option_built p.0)) CommandLine (p.1 ∷ []) (without p.0 rows) ≡ rows ++ plain_row p ∷ []
new_row p rows e =
    ap (with_values p.0 (reading_by (option_built p.0)) CommandLine (p.1 ∷ [])) (at_new_row p.0 (λ _. []) [] rows e ∙ append-nil rows)
    ∙ at_new_row p.0 (more_values CommandLine (p.1 ∷ [])) (plain_row p ∷ []) rows e

module _ (entry : Listed) where
  abbrev rules : List Rule
  rules = rules_of entry.options

  module _ (n v : Text) (rows : List Row) (is_option : arg_by_long (rules_of entry.options) n ≡ Some (option_built n)) (no_equals : Lacks 61 n) (is_new : has_row n rows ≡ false) where
    abbrev word : Text
    word = plain_word (n, v)

    walked_plain : walked rules [] (walk_from (held rows)) word ≡ walk_from (held (rows ++ plain_row (n, v) ∷ []))
    unfolding walked
    walked_plain = ap₂ A (not_dashes n v) (long_plain n v no_equals) ∙ ap B is_option ∙ ap (λ rs. walk_from (held rs)) (new_row (n, v) rows is_new)
      where
        A : Bool → Option (Text × Option Text) → Walk
        A b long =
            let m = if b then (held rows, trailing 1) else long_or_other rules idle word long (held rows) in
            after_step rules word (walk_from (held rows)) m.0 m.1

        B : Option Rule → Walk
        B rule =
            let f = long_met rules rule (Some v) (held rows) in
            let m = after_flag rules idle word f.0 f.1 in
            after_step rules word (walk_from (held rows)) m.0 m.1

    turn_plain : turn_fault (leaf entry) [] (walk_from (held rows)) word ≡ []
    turn_plain = ap₂ A (not_dashes n v) (long_plain n v no_equals) ∙ ap B is_option ∙ ap C is_new
      where
        A : Bool → Option (Text × Option Text) → Kinds
        A b long =
            let m = if b then (held rows, trailing 1) else long_or_other rules idle word long (held rows) in
            or_else (if b then [] else flag_word_fault rules false long word (held rows)) (step_fault (leaf entry) 1 m.0 m.1)

        B : Option Rule → Kinds
        B rule =
            let f = long_met rules rule (Some v) (held rows) in
            let m = after_flag rules idle word f.0 f.1 in
            or_else (long_fault rules false rule (Some v) (held rows)) (step_fault (leaf entry) 1 m.0 m.1)

        C : Bool → Kinds
        C has = or_else (or_else (if has && not false then kind.ArgumentConflict ∷ [] else []) (values_fault (option_built n) (v ∷ []))) []

-- ---- all the words after the command

-- no row has the name of a pair
abbrev AreFresh : List Row → List (Text × Text) → Type 0
AreFresh rows [] = Unit {0}
AreFresh rows (p ∷ ps) = (has_row p.0 rows ≡ false) × AreFresh rows ps

fresh_in_none : (ps : List (Text × Text)) → AreFresh [] ps
fresh_in_none [] = tt
fresh_in_none (p ∷ ps) = (refl, fresh_in_none ps)

no_row_more : (id : Text) (rows : List Row) (p : Text × Text) → has_row id rows ≡ false → bytes_eq p.0 id ≡ false → has_row id (rows ++ plain_row p ∷ []) ≡ false
no_row_more id [] p e d = rw d refl
no_row_more id (r ∷ rs) p e d = let h = either (bytes_eq r.id id) _ e in rw h.0 (no_row_more id rs p h.1 d)

-- what isn't said of a name
unsaid : (q : Text × Text) (qs : List (Text × Text)) (name : Text) → said_by (q ∷ qs) name ≡ None → (bytes_eq q.0 name ≡ false) × (said_by qs name ≡ None)
unsaid q qs name e = go (bytes_eq q.0 name) e
  where
    go : (t : Bool) → (if t then Some q.1 else said_by qs name) ≡ None → (t ≡ false) × (said_by qs name ≡ None)
    go true h = let no : Some q.1 ≡ None = h in cc
    go false h = (refl, h)

fresh_more : (rows : List Row) (p : Text × Text) (ps : List (Text × Text)) → AreFresh rows ps → said_by ps p.0 ≡ None → AreFresh (rows ++ plain_row p ∷ []) ps
fresh_more rows p [] f e = tt
fresh_more rows p (q ∷ qs) f e =
    let h = unsaid q qs p.0 e in
    (no_row_more q.0 rows p f.0 (differ_back q.0 p.0 h.0), fresh_more rows p qs f.1 h.1)

-- none of the names has `=` in it
abbrev lack_equals : List Text → Bool
lack_equals options = list_all (λ o. not (list_any (λ x. x == 61) o)) options

is_false : (b : Bool) → not b ≡ true → b ≡ false
is_false true e = let no : false ≡ true = e in cc
is_false false e = refl

walks : (entry : Listed) (ps : List (Text × Text)) (rows : List Row) → lack_equals entry.options ≡ true → NameOnce entry.options ps → AreFresh rows ps
    → (fold (walked (rules_of entry.options) []) (walk_from (held rows)) (map plain_word ps) ≡ walk_from (held (rows ++ map plain_row ps)))
    × (walk_fault (leaf entry) [] (walk_from (held rows)) (map plain_word ps) ≡ [])
unfolding walk_fault
walks entry [] rows lack once fresh = (ap (λ rs. walk_from (held rs)) (sym (append-nil rows)), refl)
walks entry (p ∷ ps) rows lack once fresh =
    let rule = finds_option entry.options p.0 once.0 in
    let equals = lacks 61 p.0 (is_false _ (option_passes (λ o. not (list_any (λ x. x == 61) o)) entry.options p.0 lack once.0)) in
    let one = walked_plain entry p.0 p.1 rows rule equals fresh.0 in
    let next = walks entry ps (rows ++ plain_row p ∷ []) lack once.2 (fresh_more rows p ps fresh.1 once.1) in (
      ap (λ w. fold (walked (rules_of entry.options) []) w (map plain_word ps)) one ∙ next.0 ∙ ap (λ rs. walk_from (held rs)) (append_assoc rows (plain_row p ∷ []) (map plain_row ps)),
      ap₂ or_else (turn_plain entry p.0 p.1 rows rule equals fresh.0) (ap (λ w. walk_fault (leaf entry) [] w (map plain_word ps)) one ∙ next.1),
    )

-- ---- after these words

nothing_due : (b : Bool) (kinds : Kinds) → (if b || true then [] else kinds) ≡ []
nothing_due true kinds = refl
nothing_due false kinds = refl

same_rows : (b : Bool) (rows : List Row) → (if b then rows else rows) ≡ rows
same_rows true rows = refl
same_rows false rows = refl

no_defaults : (rows : List Row) (os : List Text) → defaults_fault rows (rules_of os) ≡ []
unfolding defaults_fault
no_defaults rows [] = ap (λ k. or_else k []) (nothing_due (has_row (codes "help") rows) _)
no_defaults rows (o ∷ os) = ap₂ or_else (nothing_due (has_row o rows) _) (ap (λ rs. defaults_fault rs (rules_of os)) (same_rows (has_row o rows) rows) ∙ no_defaults rows os)

all_same : (rows : List Row) (os : List Text) → fold with_default rows (rules_of os) ≡ rows
all_same rows [] = same_rows (has_row (codes "help") rows) rows
all_same rows (o ∷ os) = ap (λ rs. fold with_default rs (rules_of os)) (same_rows (has_row o rows) rows) ∙ all_same rows os

none_required : (rows : List Row) (os : List Text) → list_any (λ a. a.required && not (is_given a.id rows)) (rules_of os) ≡ false
none_required rows [] = refl
none_required rows (o ∷ os) = none_required rows os

leaf_takes : (entry : Listed) (ps : List (Text × Text)) → lack_equals entry.options ≡ true → NameOnce entry.options ps → level_fault (leaf entry) [] nothing_held (map plain_word ps) false [] ≡ []
leaf_takes entry ps lack once =
    let h = walks entry ps [] lack once (fresh_in_none ps) in
    ap₂ D h.1 h.0 ∙ ap₂ (λ a b. or_else a (check_kinds false false b)) (no_defaults (map plain_row ps) entry.options) (none_required (fold with_default (map plain_row ps) (rules_of entry.options)) entry.options)
  where
    D : Kinds → Walk → Kinds
    D faults w = or_else faults
        (or_else [] (or_else (settle_fault (rules_of entry.options) false w.held)
        (or_else (defaults_fault (settled (rules_of entry.options) w.held).rows (rules_of entry.options))
        (check_fault (leaf entry) (finished (rules_of entry.options) w.held) false))))

leaf_rows : (entry : Listed) (ps : List (Text × Text)) → lack_equals entry.options ≡ true → NameOnce entry.options ps → rows_after (rules_of entry.options) [] (map plain_word ps) ≡ map plain_row ps
leaf_rows entry ps lack once =
    let h = walks entry ps [] lack once (fresh_in_none ps) in
    ap (λ w. finished (rules_of entry.options) w.held) h.0 ∙ all_same (map plain_row ps) entry.options

-- ---- all the words

collects : (c : List Rule) (names : Names) (w : Walk) (name : Text) (ws rest : List Text) → fold (walked c names) (record w { stopped = Some (name, ws) }) rest ≡ record w { stopped = Some (name, ws ++ rest) }
unfolding walked
collects c names w name ws [] = ap (λ l. record w { stopped = Some (name, l) }) (sym (append-nil ws))
collects c names w name ws (r ∷ rest) = collects c names w name (ws ++ r ∷ []) rest ∙ ap (λ l. record w { stopped = Some (name, l) }) (append_assoc ws (r ∷ []) rest)

abbrev stopped_at : Text → List Text → Walk
stopped_at name rest = record (walk_from nothing_held) { stopped = Some (name, rest) }

module _ (a : App) (name : Text) (rest : List Text) (met : subcommand_met (names_of a) idle name ≡ Some name) where
  abbrev start : Walk
  start = walk_from nothing_held

  first_walked : walked a.top.rules (names_of a) start name ≡ stopped_at name []
  unfolding walked
  first_walked = ap A met
    where
      A : Option Text → Walk
      A o = let m = subcommand_or_other a.top.rules o idle 1 name nothing_held in after_step a.top.rules name start m.0 m.1

  walk_stops : walk a.top.rules (names_of a) nothing_held (name ∷ rest) ≡ stopped_at name rest
  walk_stops = ap (λ w. fold (walked a.top.rules (names_of a)) w rest) first_walked ∙ collects a.top.rules (names_of a) start name [] rest

  first_turn : bytes_eq name (codes "help") ≡ false → turn_fault a.top (names_of a) start name ≡ []
  first_turn no_help = ap A met ∙ ap B no_help
    where
      A : Option Text → Kinds
      A o =
          let m = subcommand_or_other a.top.rules o idle 1 name nothing_held in
          or_else (other_fault a.top o name nothing_held) (step_fault a.top 1 m.0 m.1)

      B : Bool → Kinds
      B help = or_else (if help && not a.top.disable_help_subcommand then kind.DisplayHelp ∷ kind.InvalidSubcommand ∷ [] else []) []

  top_faultless : bytes_eq name (codes "help") ≡ false → walk_fault a.top (names_of a) start (name ∷ rest) ≡ []
  unfolding walk_fault
  top_faultless no_help = ap₂ or_else (first_turn no_help) (ap (λ w. walk_fault a.top (names_of a) w rest) first_walked ∙ stopped_fault a.top (names_of a) start (name, []) rest)

  abbrev after : Walk → Kinds → Kinds
  after w faults = or_else faults
      (or_else (entered_fault a w.stopped) (or_else (settle_fault a.top.rules a.top.args_override_self w.held)
      (or_else (defaults_fault (settled a.top.rules w.held).rows a.top.rules)
      (check_fault a.top (finished a.top.rules w.held) (is_some (entered a w.stopped))))))

  -- the faults are those of the subcommand, where the command itself has none
  built_faultless : (s : Shape) → find (λ s. answers_to name (label_of s)) a.subs ≡ Some s → bytes_eq name (codes "help") ≡ false
      → level_fault s [] nothing_held rest false [] ≡ []
      → or_else (settle_fault a.top.rules a.top.args_override_self nothing_held) (or_else (defaults_fault [] a.top.rules) (check_fault a.top (finished a.top.rules nothing_held) true)) ≡ []
      → built_fault a nothing_held (name ∷ rest) ≡ []
  built_faultless s is no_help below own = ap₂ after walk_stops (top_faultless no_help) ∙ ap B is ∙ ap₂ or_else below own
    where
      B : Option Shape → Kinds
      B o = or_else (option_map_or (λ s. level_fault s [] nothing_held rest false []) o [])
          (or_else (settle_fault a.top.rules a.top.args_override_self nothing_held)
          (or_else (defaults_fault [] a.top.rules)
          (check_fault a.top (finished a.top.rules nothing_held) (is_some (option_map (λ s. rows_at s rest) o)))))

  entered_at : (s : Shape) → find (λ s. answers_to name (label_of s)) a.subs ≡ Some s
      → entered a (walk a.top.rules (names_of a) nothing_held (name ∷ rest)).stopped ≡ Some (s.name, rows_after s.rules [] rest)
  entered_at s is = ap (λ w. entered a w.stopped) walk_stops ∙ ap (option_map (λ s. rows_at s rest)) is

table_lacks : list_all (λ entry. lack_equals entry.options) table ≡ true
table_lacks = refl

table_helps_not : list_all (λ entry. not (bytes_eq entry.name (codes "help"))) table ≡ true
table_helps_not = refl

own_faultless : or_else (settle_fault (built app).top.rules (built app).top.args_override_self nothing_held) (or_else (defaults_fault [] (built app).top.rules) (check_fault (built app).top (finished (built app).top.rules nothing_held) true)) ≡ []
unfolding clap_on_literals
own_faultless = refl

said_same : (ps : List (Text × Text)) (option : Text) → said_in (map plain_row ps) option ≡ said_by ps option
said_same [] option = refl
said_same (p ∷ ps) option = go (bytes_eq p.0 option) (said_same ps option)
  where
    go : (t : Bool) → said_in (map plain_row ps) option ≡ said_by ps option
        → option_and_then (λ (r : Row). slice_get r.values 0) (if t then Some (plain_row p) else find (λ r. bytes_eq r.id option) (map plain_row ps)) ≡ (if t then Some p.1 else said_by ps option)
    go true h = refl
    go false h = h

taken : (entry : Listed) (ps : List (Text × Text)) → entry_of entry.name ≡ Some entry → NameOnce entry.options ps → AreTaken (entry.name ∷ map plain_word ps) entry.name (map plain_row ps)
unfolding faults found
taken entry ps is once =
    let lack = entry_passes (λ e. lack_equals e.options) table entry.name entry table_lacks is in
    let no_help = is_false _ (entry_passes (λ e. not (bytes_eq e.name (codes "help"))) table entry.name entry table_helps_not is) in
    let leaf_is = finds_leaf table (built_leaf help_shape ∷ []) entry.name entry is in
    let met : subcommand_met (names_of (built app)) idle entry.name ≡ Some entry.name =
    ap (option_map (λ (l : Text × List Text). l.0)) (sym (find-map (answers_to entry.name) label_of (built app).subs) ∙ ap (option_map label_of) leaf_is) in (
      built_faultless (built app) entry.name (map plain_word ps) met (leaf entry) leaf_is no_help (leaf_takes entry ps lack once) own_faultless,
      entered_at (built app) entry.name (map plain_word ps) met (leaf entry) leaf_is ∙ ap (λ rows. Some (entry.name, rows)) (leaf_rows entry ps lack once),
    )

-- words of the plain form are those of the command that they say
pub plain_words : (words : List Text) (command : Command) → ArePlainWordsOf words command → AreWordsOf words command
plain_words words command h =
    let said : said_in (map plain_row h.1) ≡ said_by h.1 = λ i option. said_same h.1 option i in
    subst (λ ws. AreWordsOf ws command) (sym h.3)
    (h.0.name, map plain_row h.1, taken h.0 h.1 h.2 h.4, subst (λ f. Mean h.0.name f command) (sym said) h.5)
