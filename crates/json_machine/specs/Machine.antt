-- JSON text read byte by byte: what each byte makes of a reader, where it can stand there
use Rattle.std.specs.Prelude.{ℕ, ◌==◌, ◌&&◌, ◌||◌, nat_lt, List, [], ◌∷◌, ◌++◌, length, Bool, true, false, Option, Some, None, if◌then◌else◌, codes}
use Rattle.std.specs.List.{list_any}
use Rattle.std.specs.Str.{bytes_eq}
use Rattle.json_tree.specs.declared.tree.Json.{Json, Null, Truth, Number, Word}
use Rattle.json_tree.specs.declared.tree.Json.TheViews as trees
use Rattle.json_tree.specs.declared.tree.Member.{Member}
use Rattle.json_tree.specs.Scan.{begins_number, is_number}
use Rattle.json_machine.specs.WordScan.{WordState, word_start, next_character, is_between}

-- a list or an object that is open: the values in it that are done, or the members that are done
-- and the key in hand
pub data Frame : Type 0 where
  InList : List Json → Frame
  InObject : List Member → List ℕ → Frame

-- what may come next: a value, a value or the end of an empty list, a key, a key or the end of an
-- empty object, a colon; more of a word, a key, a number, or `null`, `true` or `false`, of which
-- these bytes are due; what follows a value
pub data Phase : Type 0 where
  ValueDue : Phase
  FirstValueDue : Phase
  KeyDue : Phase
  FirstKeyDue : Phase
  ColonDue : Phase
  InWord : WordState → Phase
  InKey : WordState → Phase
  InNumber : List ℕ → Phase
  InLiteral : List ℕ → Json → Phase
  AfterValue : Phase

-- what is open, the innermost first; the value of the text, once it is done
pub record State : Type 0 where
  pub stack : List Frame
  pub root : Option Json
  pub phase : Phase

-- what a byte is between values
pub data Sign : Type 0 where
  Blank : Sign
  Quote : Sign
  Open : Sign
  Close : Sign
  OpenBrace : Sign
  CloseBrace : Sign
  Comma : Sign
  Colon : Sign
  Other : Sign

abbrev pub sign_of : ℕ → Sign
sign_of b =
    if b == 32 || b == 9 || b == 10 || b == 13 then Blank else
    if b == 34 then Quote else
    if b == 91 then Open else
    if b == 93 then Close else
    if b == 123 then OpenBrace else
    if b == 125 then CloseBrace else
    if b == 44 then Comma else
    if b == 58 then Colon else
    Other

abbrev pub start : State
start = record { stack = []; root = None; phase = ValueDue }

abbrev pub in_phase : State → Phase → State
in_phase s phase = record s { phase = phase }

abbrev pub pair : List ℕ → Json → Member
pair key value = record { key = key; value = value }

-- ---- a value that is done

-- put into the innermost that is open
abbrev pub emitted : Json → List Frame → List Frame
emitted v [] = []
emitted v (InList vs ∷ k) = InList (vs ++ v ∷ []) ∷ k
emitted v (InObject ms key ∷ k) = InObject (ms ++ pair key v ∷ []) [] ∷ k

abbrev pub rooted : Json → List Frame → Option Json
rooted v [] = Some v
rooted v (frame ∷ k) = None

abbrev pub with_value : Json → List Frame → State
with_value v k = record { stack = emitted v k; root = rooted v k; phase = AfterValue }

abbrev pub closed_list : List Frame → Option State
closed_list [] = None
closed_list (InList vs ∷ k) = Some (with_value (trees.List vs) k)
closed_list (InObject ms key ∷ k) = None

abbrev pub closed_object : List Frame → Option State
closed_object [] = None
closed_object (InList vs ∷ k) = None
closed_object (InObject ms key ∷ k) = Some (with_value (trees.Object ms) k)

-- after a comma
abbrev pub next_due : State → List Frame → Option State
next_due s [] = None
next_due s (InList vs ∷ k) = Some (in_phase s ValueDue)
next_due s (InObject ms key ∷ k) = Some (in_phase s KeyDue)

abbrev pub after_value : State → Sign → Option State
after_value s Blank = Some s
after_value s Comma = next_due s s.stack
after_value s Close = closed_list s.stack
after_value s CloseBrace = closed_object s.stack
after_value s sign = None

-- ---- a value that begins

-- one more list or object, of which 64 may be open
abbrev pub pushed : List Frame → Frame → Phase → Option State
pushed k frame phase =
    if nat_lt (length k) 64 then
    Some (record { stack = frame ∷ k; root = None; phase = phase }) else
    None

abbrev pub at_number : State → ℕ → Option State
at_number s b = if begins_number (b ∷ []) then Some (in_phase s (InNumber (b ∷ []))) else None

abbrev pub at_other : State → ℕ → Option State
at_other s b =
    if b == 110 then Some (in_phase s (InLiteral (codes "ull") Null)) else
    if b == 116 then Some (in_phase s (InLiteral (codes "rue") (Truth true))) else
    if b == 102 then Some (in_phase s (InLiteral (codes "alse") (Truth false))) else
    at_number s b

abbrev pub at_value : State → ℕ → Sign → Option State
at_value s b Blank = Some s
at_value s b Quote = Some (in_phase s (InWord word_start))
at_value s b Open = pushed s.stack (InList []) FirstValueDue
at_value s b OpenBrace = pushed s.stack (InObject [] []) FirstKeyDue
at_value s b Other = at_other s b
at_value s b sign = None

abbrev pub at_first_value : State → ℕ → Sign → Option State
at_first_value s b Close = closed_list s.stack
at_first_value s b sign = at_value s b sign

-- ---- within `null`, `true` and `false`, a number, a word

abbrev pub literal_left : State → List ℕ → Json → State
literal_left s [] tree = with_value tree s.stack
literal_left s (x ∷ rest) tree = in_phase s (InLiteral (x ∷ rest) tree)

abbrev pub in_literal : State → List ℕ → Json → ℕ → Option State
in_literal s [] tree b = None
in_literal s (x ∷ rest) tree b = if b == x then Some (literal_left s rest tree) else None

-- a number ends only with the byte after it
abbrev pub in_number : State → List ℕ → ℕ → Sign → Option State
in_number s text b sign =
    if begins_number (text ++ b ∷ []) then Some (in_phase s (InNumber (text ++ b ∷ []))) else
    if is_number text then after_value (with_value (Number text) s.stack) sign else
    None

-- the end of a word, by its quote
abbrev pub at_end_of_word : State → WordState → ℕ → Option State
at_end_of_word s w b =
    if is_between w.part && b == 34 then Some (with_value (Word w.word) s.stack) else
    None

abbrev pub in_word : State → WordState → ℕ → Option WordState → Option State
in_word s w b (Some next) = Some (in_phase s (InWord next))
in_word s w b None = at_end_of_word s w b

-- ---- keys

-- some member has this key
abbrev pub has_key : List ℕ → List Member → Bool
has_key key members = list_any (λ m. bytes_eq m.key key) members

-- a key that the object doesn't have yet
abbrev pub keyed : List ℕ → List Frame → Option State
keyed key [] = None
keyed key (InList vs ∷ k) = None
keyed key (InObject ms earlier ∷ k) =
    if has_key key ms then None else
    Some (record { stack = InObject ms key ∷ k; root = None; phase = ColonDue })

abbrev pub at_end_of_key : State → WordState → ℕ → Option State
at_end_of_key s w b = if is_between w.part && b == 34 then keyed w.word s.stack else None

abbrev pub in_key : State → WordState → ℕ → Option WordState → Option State
in_key s w b (Some next) = Some (in_phase s (InKey next))
in_key s w b None = at_end_of_key s w b

abbrev pub at_key : State → Sign → Option State
at_key s Blank = Some s
at_key s Quote = Some (in_phase s (InKey word_start))
at_key s sign = None

abbrev pub at_first_key : State → Sign → Option State
at_first_key s CloseBrace = closed_object s.stack
at_first_key s sign = at_key s sign

abbrev pub at_colon : State → Sign → Option State
at_colon s Blank = Some s
at_colon s Colon = Some (in_phase s ValueDue)
at_colon s sign = None

-- ---- any byte, and the end

abbrev pub by_phase : Phase → State → ℕ → Sign → Option State
by_phase ValueDue s b sign = at_value s b sign
by_phase FirstValueDue s b sign = at_first_value s b sign
by_phase KeyDue s b sign = at_key s sign
by_phase FirstKeyDue s b sign = at_first_key s sign
by_phase ColonDue s b sign = at_colon s sign
by_phase (InWord w) s b sign = in_word s w b (next_character w b)
by_phase (InKey w) s b sign = in_key s w b (next_character w b)
by_phase (InNumber text) s b sign = in_number s text b sign
by_phase (InLiteral rest tree) s b sign = in_literal s rest tree b
by_phase AfterValue s b sign = after_value s sign

abbrev pub step : State → ℕ → Option State
step s b = by_phase s.phase s b (sign_of b)

abbrev pub ending : Phase → State → Option Json
ending AfterValue s = s.root
ending (InNumber text) s = if is_number text then rooted (Number text) s.stack else None
ending phase s = None

-- the value of the text, where it may end
abbrev pub finish : State → Option Json
finish s = ending s.phase s
