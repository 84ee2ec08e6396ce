-- the texts that lead to a state: what it answers is spelled, and each of them begins a JSON text
use Rattle.std.proofs.Common.{◌≡◌, ℕ, suc, ◌<◌, List, [], ◌∷◌, ◌++◌, length, refl, sym, ◌∙◌, ap, subst, append_assoc, arith, ◌⊎◌, inl, inr, Option, Some, None, Bool, true, false, codes, encode_utf8_all}
use Rattle.std.specs.Prelude.{nat_lt, if◌then◌else◌, ◌==◌, ◌&&◌}
use Rattle.std.proofs.lemmas.List.{append-nil}
use Rattle.std.proofs.lemmas.Bool.{and_parts}
use Rattle.std.proofs.lemmas.Bool.Decides.{nat_tests}
use borrow.Author.Tests.{ltb-true}
use Rattle.first_fault.specs.FirstFault.{Begins}
use Rattle.first_fault.proofs.Faults.{begins_front}
use Rattle.json_tree.specs.Blank.{IsBlank, AreBlanks}
use Rattle.json_tree.specs.Spells.{truth_word, Spells, SpellsValue, SpellsItem, SpellsItems, SpellsMember, SpellsMembers, null, truth, number, word, empty_list, list, empty_object, object, item, first as first_item, next as next_item, member, first_member, next_member}
use Rattle.json_tree.specs.Tree.{HasKey}
use Rattle.json_tree.specs.Word.{SpellsCharacters, none as no_characters, SpellsWord}
use Rattle.json_tree.specs.declared.tree.Json.{Json, Null, Truth, Number, Word}
use Rattle.json_tree.specs.declared.tree.Json.TheViews as trees
use Rattle.json_tree.specs.declared.tree.Member.{Member}
use Rattle.json_machine.specs.Machine.{Frame, InList, InObject, Phase, ValueDue, FirstValueDue, KeyDue, FirstKeyDue, ColonDue, InWord, InKey, InNumber, InLiteral, AfterValue, State, Sign, Blank, Quote, Open, Close, OpenBrace, CloseBrace, Comma, Colon, Other, sign_of, start, in_phase, pair, emitted, rooted, with_value, closed_list, closed_object, next_due, after_value, pushed, at_other, at_value, at_first_value, literal_left, in_literal, in_number, in_word, has_key, keyed, in_key, at_key, at_first_key, at_colon, by_phase, step, ending, finish}
use Rattle.json_tree.specs.Number.{BeginsNumber}
use Rattle.json_tree.specs.Scan.{begins_number, is_number}
use Rattle.json_machine.specs.Due.{ItemsWithCommas, MembersWithCommas, ItemIsDueInside, MemberValueIsDueInside, ValueIsDue, KeyIsDue}
use Rattle.json_machine.specs.WordScan.{WordState, WordPart, Between, Character, Escape, Unit0, Unit1, Unit2, Unit3, High, LowEscape, Low0, Low1, Low2, Low3, word_start, next_character, is_between}
use Rattle.json_machine.proofs.Keys.{no_key_found, goes_on_new}
use Rattle.json_tree.proofs.Numbers.{number_test, begins_test}
use Rattle.json_machine.proofs.Signs.{blank_byte, quote_byte, open_byte, close_byte, open_brace_byte, close_brace_byte, comma_byte, colon_byte}
use Rattle.json_machine.proofs.Words.{PartLeads, WordLeads, word_leads_start, word_leads, word_alive}

-- a value is done inside of what is open
abbrev pub Done : List Frame → Json → List ℕ → Type 0
Done k v t = (before value after : List ℕ) × (t ≡ before ++ value ++ after) × ValueIsDue k before × SpellsValue (length k) value v × AreBlanks after

abbrev pub IsLiteral : List ℕ → Json → Type 0
IsLiteral text tree = ((text ≡ codes "null") × (tree ≡ Null)) ⊎ ((is : Bool) × (text ≡ truth_word is) × (tree ≡ Truth is))

abbrev pub LeadsAt : Phase → List ℕ → State → Type 0
LeadsAt ValueDue t s = ValueIsDue s.stack t
LeadsAt FirstValueDue t s = (k : List Frame) × (s.stack ≡ InList [] ∷ k) × ValueIsDue s.stack t
LeadsAt (InWord w) t s = (before inner : List ℕ) × (t ≡ before ++ (34 ∷ []) ++ inner) × ValueIsDue s.stack before × WordLeads inner w
LeadsAt (InNumber text) t s = (before : List ℕ) × (t ≡ before ++ text) × ValueIsDue s.stack before × BeginsNumber text
LeadsAt (InLiteral rest tree) t s = (before begun : List ℕ) × (t ≡ before ++ begun) × ValueIsDue s.stack before × IsLiteral (begun ++ rest) tree
LeadsAt AfterValue t s = (k : List Frame) × (v : Json) × (s.stack ≡ emitted v k) × (s.root ≡ rooted v k) × Done k v t
LeadsAt FirstKeyDue t s = (k : List Frame) × (x : List ℕ) × (s.stack ≡ InObject [] x ∷ k) × KeyIsDue [] k t
LeadsAt KeyDue t s = (k : List Frame) × (x : List ℕ) × (ms : List Member) × (s.stack ≡ InObject ms x ∷ k) × KeyIsDue ms k t
LeadsAt (InKey w) t s = (k : List Frame) × (x : List ℕ) × (ms : List Member) × (before inner : List ℕ) × (s.stack ≡ InObject ms x ∷ k) × (t ≡ before ++ (34 ∷ []) ++ inner) × KeyIsDue ms k before × WordLeads inner w
LeadsAt ColonDue t s = (k : List Frame) × (x : List ℕ) × (ms : List Member) × (before spelled blanks : List ℕ) × (s.stack ≡ InObject ms x ∷ k) × (t ≡ before ++ spelled ++ blanks) × KeyIsDue ms k before
    × SpellsWord spelled x × ¬ HasKey ms x × AreBlanks blanks

-- the texts that lead to a state
abbrev pub Leads : List ℕ → State → Type 0
Leads t s = LeadsAt s.phase t s

became : (t : List ℕ) (x next : State) → Some x ≡ Some next → Leads t x → Leads t next
became t x next e l = let same : x ≡ next = cc in subst (Leads t) same l

at_phase : (t : List ℕ) (s : State) (p : Phase) → s.phase ≡ p → LeadsAt p t s → Leads t s
at_phase t s p e l = subst (λ q. LeadsAt q t s) (sym e) l

-- ---- blanks

blanks_snoc : (t : List ℕ) (b : ℕ) → AreBlanks t → IsBlank b → AreBlanks (t ++ b ∷ [])
blanks_snoc [] b a p = (p, tt)
blanks_snoc (x ∷ t) b a p = (a.0, blanks_snoc t b a.1 p)

due_snoc : (k : List Frame) (t : List ℕ) (b : ℕ) → ValueIsDue k t → IsBlank b → ValueIsDue k (t ++ b ∷ [])
due_snoc [] t b d i = blanks_snoc t b d i
due_snoc (InList vs ∷ k) t b d i = (d.0, d.1 ++ b ∷ [], rw d.2 (simp append_assoc), d.3, d.4, (d.5.0, d.5.1 ++ b ∷ [], rw d.5.2 (simp append_assoc), d.5.3, blanks_snoc d.5.1 b d.5.4 i))
due_snoc (InObject ms x ∷ k) t b d i =
    let m = d.5 in
    (d.0, d.1 ++ b ∷ [], rw d.2 (simp append_assoc), d.3, d.4, (m.0, m.1, m.2 ++ b ∷ [], rw m.3 (simp append_assoc), m.4, m.5, (m.6.0, m.6.1 ++ b ∷ [], rw m.6.2 (simp append_assoc), m.6.3, blanks_snoc m.6.1 b m.6.4 i)))

key_due_snoc : (ms : List Member) (k : List Frame) (t : List ℕ) (b : ℕ) → KeyIsDue ms k t → IsBlank b → KeyIsDue ms k (t ++ b ∷ [])
key_due_snoc ms k t b d i = (d.0, d.1 ++ b ∷ [], rw d.2 (simp append_assoc), d.3, d.4, (d.5.0, d.5.1 ++ b ∷ [], rw d.5.2 (simp append_assoc), d.5.3, blanks_snoc d.5.1 b d.5.4 i))

-- ---- values and members, one more

items_more : (n : ℕ) (t heads last : List ℕ) (vs : List Json) (v : Json) → t ≡ heads ++ last → ItemsWithCommas n heads vs → SpellsItem n last v → SpellsItems n t (vs ++ v ∷ [])
items_more n t heads last vs v e (inl none) s = first_item v (subst (λ x. SpellsItem n x v) (sym (e ∙ ap (λ x. x ++ last) none.0)) s) (ap (λ x. x ++ v ∷ []) none.1)
items_more n t heads last vs v e (inr some) s = next_item some.0 last vs v some.2 s (e ∙ ap (λ x. x ++ last) some.1) refl

members_more : (n : ℕ) (t heads last : List ℕ) (ms : List Member) (m : Member) → t ≡ heads ++ last → MembersWithCommas n heads ms → SpellsMember n last m → ¬ HasKey ms m.key → SpellsMembers n t (ms ++ m ∷ [])
members_more n t heads last ms m e (inl none) s new = first_member m (subst (λ x. SpellsMember n x m) (sym (e ∙ ap (λ x. x ++ last) none.0)) s) (ap (λ x. x ++ m ∷ []) none.1)
members_more n t heads last ms m e (inr some) s new = next_member some.0 last ms m some.2 s new (e ∙ ap (λ x. x ++ last) some.1) refl

not_ended : {X : Type 0} (xs : List X) (x : X) → [] ≡ xs ++ x ∷ [] → ⊥
not_ended [] x e = cc
not_ended (y ∷ xs) x e = cc

some_items : {n : ℕ} {t : List ℕ} {vs : List Json} → SpellsItems n t vs → vs ≡ [] → ⊥
some_items (first_item v s e) none = not_ended [] v (sym none ∙ e)
some_items (next_item front last vs v f l te e) none = not_ended vs v (sym none ∙ e)

some_members : {n : ℕ} {t : List ℕ} {ms : List Member} → SpellsMembers n t ms → ms ≡ [] → ⊥
some_members (first_member m s e) none = not_ended [] m (sym none ∙ e)
some_members (next_member front last ms m f l new te e) none = not_ended ms m (sym none ∙ e)

no_heads : (n : ℕ) (t : List ℕ) → ItemsWithCommas n t [] → t ≡ []
no_heads n t (inl none) = none.0
no_heads n t (inr some) = absurd (some_items some.2 refl)

no_key_heads : (n : ℕ) (t : List ℕ) → MembersWithCommas n t [] → t ≡ []
no_key_heads n t (inl none) = none.0
no_key_heads n t (inr some) = absurd (some_members some.2 refl)

-- ---- a list or an object ends or goes on

-- inside of a list, with a value that is done
item_done : (n : ℕ) (vs : List Json) (v : Json) (t value after : List ℕ) → ItemIsDueInside n vs t → SpellsValue n value v → AreBlanks after → SpellsItems n (t ++ value ++ after) (vs ++ v ∷ [])
item_done n vs v t value after d s a = items_more n (t ++ value ++ after) d.0 (d.1 ++ value ++ after) vs v (rw d.2 (simp append_assoc)) d.3 (item d.1 value after d.4 s a refl)

list_ends : (vs : List Json) (k : List Frame) (v : Json) (t : List ℕ) → Done (InList vs ∷ k) v t → Done k (trees.List (vs ++ v ∷ [])) (t ++ 93 ∷ [])
list_ends vs k v t d =
    let e = d.4 in
    let inner = e.1 ++ d.1 ++ d.2 in
    (e.0, (91 ∷ []) ++ inner ++ (93 ∷ []), [], rw (d.3, e.2) (simp (append_assoc, append-nil)), e.3, list inner (vs ++ v ∷ []) e.4 (item_done (suc (length k)) vs v e.1 d.1 d.2 e.5 d.5 d.6) refl refl, tt)

list_goes_on : (vs : List Json) (k : List Frame) (v : Json) (t : List ℕ) → Done (InList vs ∷ k) v t → ValueIsDue (InList (vs ++ v ∷ []) ∷ k) (t ++ 44 ∷ [])
list_goes_on vs k v t d =
    let e = d.4 in
    let heads = e.1 ++ d.1 ++ d.2 ++ (44 ∷ []) in
    (e.0, heads, rw (d.3, e.2) (simp append_assoc), e.3, e.4, (heads, [], sym (append-nil heads), inr (e.1 ++ d.1 ++ d.2, refl, item_done (suc (length k)) vs v e.1 d.1 d.2 e.5 d.5 d.6), tt))

-- inside of an object, with the value of a key
member_done : (n : ℕ) (ms : List Member) (x : List ℕ) (v : Json) (t value after : List ℕ) → MemberValueIsDueInside n ms x t → SpellsValue n value v → AreBlanks after → SpellsMembers n (t ++ value ++ after) (ms ++ pair x v ∷ [])
member_done n ms x v t value after d s a =
    let m = d.4 in
    let c = d.6 in
    let last = m.1 ++ d.1 ++ c.0 ++ (58 ∷ []) ++ (c.1 ++ value ++ after) in
    let text_is : t ++ value ++ after ≡ m.0 ++ last = rw (d.3, m.2, c.2) (simp append_assoc) in
    members_more n (t ++ value ++ after) m.0 last ms (pair x v) text_is m.3 (member m.1 d.1 c.0 (c.1 ++ value ++ after) m.4 d.5.0 c.3 (item c.1 value after c.4 s a refl) refl) d.5.1

object_ends : (ms : List Member) (x : List ℕ) (k : List Frame) (v : Json) (t : List ℕ) → Done (InObject ms x ∷ k) v t → Done k (trees.Object (ms ++ pair x v ∷ [])) (t ++ 125 ∷ [])
object_ends ms x k v t d =
    let e = d.4 in
    let inner = e.1 ++ d.1 ++ d.2 in
    (e.0, (123 ∷ []) ++ inner ++ (125 ∷ []), [], rw (d.3, e.2) (simp (append_assoc, append-nil)), e.3, object inner (ms ++ pair x v ∷ []) e.4 (member_done (suc (length k)) ms x v e.1 d.1 d.2 e.5 d.5 d.6) refl refl, tt)

object_goes_on : (ms : List Member) (x : List ℕ) (k : List Frame) (v : Json) (t : List ℕ) → Done (InObject ms x ∷ k) v t → KeyIsDue (ms ++ pair x v ∷ []) k (t ++ 44 ∷ [])
object_goes_on ms x k v t d =
    let e = d.4 in
    let heads = e.1 ++ d.1 ++ d.2 ++ (44 ∷ []) in
    (e.0, heads, rw (d.3, e.2) (simp append_assoc), e.3, e.4, (heads, [], sym (append-nil heads), inr (e.1 ++ d.1 ++ d.2, refl, member_done (suc (length k)) ms x v e.1 d.1 d.2 e.5 d.5 d.6), tt))

empty_list_ends : (k : List Frame) (t : List ℕ) → ValueIsDue (InList [] ∷ k) t → Done k (trees.List []) (t ++ 93 ∷ [])
empty_list_ends k t d =
    let none : d.5.0 ≡ [] = no_heads (suc (length k)) d.5.0 d.5.3 in
    (d.0, (91 ∷ []) ++ d.5.1 ++ (93 ∷ []), [], rw (d.2, d.5.2, none) (simp (append_assoc, append-nil)), d.3, empty_list d.5.1 d.4 d.5.4 refl refl, tt)

empty_object_ends : (k : List Frame) (t : List ℕ) → KeyIsDue [] k t → Done k (trees.Object []) (t ++ 125 ∷ [])
empty_object_ends k t d =
    let none : d.5.0 ≡ [] = no_key_heads (suc (length k)) d.5.0 d.5.3 in
    (d.0, (123 ∷ []) ++ d.5.1 ++ (125 ∷ []), [], rw (d.2, d.5.2, none) (simp (append_assoc, append-nil)), d.3, empty_object d.5.1 d.4 d.5.4 refl refl, tt)

-- after a key and its colon a value is due
colon_due : (ms : List Member) (k : List Frame) (x before spelled blanks t : List ℕ) → KeyIsDue ms k before → SpellsWord spelled x → ¬ HasKey ms x → AreBlanks blanks → t ≡ before ++ spelled ++ blanks
    → ValueIsDue (InObject ms x ∷ k) (t ++ 58 ∷ [])
colon_due ms k x before spelled blanks t d s new i e =
    let colon = blanks ++ 58 ∷ [] in
    (d.0, d.1 ++ spelled ++ colon, rw (e, d.2) (simp append_assoc), d.3, d.4, (d.1, spelled, colon, refl, d.5, (s, new), (blanks, [], sym (append-nil colon), i, tt)))

-- ---- words, numbers and literals that are done

pub between_part : (part : WordPart) → is_between part ≡ true → part ≡ Between
between_part Between e = refl
between_part (Character later low high code) e = cc
between_part Escape e = cc
between_part Unit0 e = cc
between_part (Unit1 v) e = cc
between_part (Unit2 v) e = cc
between_part (Unit3 v) e = cc
between_part (High h) e = cc
between_part (LowEscape h) e = cc
between_part (Low0 h) e = cc
between_part (Low1 h) e = cc
between_part (Low2 h v) e = cc
between_part (Low3 h v) e = cc

pub word_spelled : (inner : List ℕ) (w : WordState) → WordLeads inner w → is_between w.part ≡ true → SpellsWord ((34 ∷ []) ++ inner ++ (34 ∷ [])) w.word
word_spelled inner w l e =
    let done : l.begun ≡ [] = subst (PartLeads l.begun) (between_part w.part e) l.part_leads in
    let front : inner ≡ l.front = l.text_is ∙ ap (λ x. l.front ++ x) done ∙ append-nil l.front in
    (inner, l.done, refl, subst (λ x. SpellsCharacters x l.done) (sym front) l.spelled, l.word_is)

value_done : (k : List Frame) (v : Json) (t before value : List ℕ) → t ≡ before ++ value → ValueIsDue k before → SpellsValue (length k) value v → Done k v t
value_done k v t before value e d s = (before, value, [], e ∙ sym (append-nil (before ++ value)), d, s, tt)

literal_spelled : (n : ℕ) (text : List ℕ) (tree : Json) → IsLiteral text tree → SpellsValue n text tree
literal_spelled n text tree (inl s) = null s.0 s.1
literal_spelled n text tree (inr s) = truth s.0 s.1 s.2

-- ---- each of these texts begins a JSON text

done_begins : (k : List Frame) (v : Json) (t : List ℕ) → Done k v t → Begins Spells t
done_begins [] v t d = ([], (v, subst (λ x. Spells x v) (sym (append-nil t)) (item d.0 d.1 d.2 d.4 d.5 d.6 d.3)))
done_begins (InList vs ∷ k) v t d = begins_front Spells t (93 ∷ []) (done_begins k (trees.List (vs ++ v ∷ [])) (t ++ 93 ∷ []) (list_ends vs k v t d))
done_begins (InObject ms x ∷ k) v t d = begins_front Spells t (125 ∷ []) (done_begins k (trees.Object (ms ++ pair x v ∷ [])) (t ++ 125 ∷ []) (object_ends ms x k v t d))

-- by the empty word
due_begins : (k : List Frame) (t : List ℕ) → ValueIsDue k t → Begins Spells t
due_begins k t d = begins_front Spells t (34 ∷ 34 ∷ []) (done_begins k (Word []) (t ++ 34 ∷ 34 ∷ [])
    (value_done k (Word []) (t ++ 34 ∷ 34 ∷ []) t (34 ∷ 34 ∷ []) refl d (word [] ([], [], refl, no_characters, refl) refl)))

word_begins : (k : List Frame) (t before inner : List ℕ) (w : WordState) → t ≡ before ++ (34 ∷ []) ++ inner → ValueIsDue k before → WordLeads inner w → Begins Spells t
word_begins k t before inner w e d l =
    let alive = word_alive inner w l in
    let rest = alive.0 ++ (34 ∷ []) in
    let spelled = (34 ∷ []) ++ (inner ++ alive.0) ++ (34 ∷ []) in
    begins_front Spells t rest (done_begins k (Word (encode_utf8_all alive.1)) (t ++ rest)
    (value_done k (Word (encode_utf8_all alive.1)) (t ++ rest) before spelled (rw e (simp append_assoc)) d (word (encode_utf8_all alive.1) (inner ++ alive.0, alive.1, refl, alive.2, refl) refl)))

number_begins : (k : List Frame) (t before text : List ℕ) → t ≡ before ++ text → ValueIsDue k before → BeginsNumber text → Begins Spells t
number_begins k t before text e d b =
    begins_front Spells t b.0 (done_begins k (Number (text ++ b.0)) (t ++ b.0) (value_done k (Number (text ++ b.0)) (t ++ b.0) before (text ++ b.0) (rw e (append_assoc before text b.0)) d (number b.1 refl)))

literal_begins : (k : List Frame) (t before begun rest : List ℕ) (tree : Json) → t ≡ before ++ begun → ValueIsDue k before → IsLiteral (begun ++ rest) tree → Begins Spells t
literal_begins k t before begun rest tree e d s =
    begins_front Spells t rest (done_begins k tree (t ++ rest) (value_done k tree (t ++ rest) before (begun ++ rest) (rw e (append_assoc before begun rest)) d (literal_spelled (length k) (begun ++ rest) tree s)))

-- by a key that is longer than each other
key_begins : (k : List Frame) (ms : List Member) (t before inner : List ℕ) (w : WordState) → t ≡ before ++ (34 ∷ []) ++ inner → KeyIsDue ms k before → WordLeads inner w → Begins Spells t
key_begins k ms t before inner w e d l =
    let alive = word_alive inner w l in
    let new = goes_on_new ms (inner ++ alive.0) alive.1 alive.2 in
    let key = encode_utf8_all new.1 in
    let spelled = (34 ∷ []) ++ ((inner ++ alive.0) ++ new.0) ++ (34 ∷ []) in
    let rest = alive.0 ++ new.0 ++ (34 ∷ []) in
    let whole : t ++ rest ≡ before ++ spelled ++ [] = rw e (simp (append_assoc, append-nil)) in
    begins_front Spells t (rest ++ (58 ∷ [])) (subst (Begins Spells) (append_assoc t rest (58 ∷ []))
    (due_begins (InObject ms key ∷ k) ((t ++ rest) ++ (58 ∷ [])) (colon_due ms k key before spelled [] (t ++ rest) d ((inner ++ alive.0) ++ new.0, new.1, refl, new.2, refl) new.3 tt whole)))

key_due_begins : (ms : List Member) (k : List Frame) (t : List ℕ) → KeyIsDue ms k t → Begins Spells t
key_due_begins ms k t d = begins_front Spells t (34 ∷ []) (key_begins k ms (t ++ 34 ∷ []) t [] word_start (sym (append-nil (t ++ 34 ∷ []))) d word_leads_start)

alive_at : (p : Phase) (t : List ℕ) (s : State) → LeadsAt p t s → Begins Spells t
alive_at ValueDue t s l = due_begins s.stack t l
alive_at FirstValueDue t s l = due_begins s.stack t l.2
alive_at KeyDue t s l = key_due_begins l.2 l.0 t l.4
alive_at FirstKeyDue t s l = key_due_begins [] l.0 t l.3
alive_at ColonDue t s l = begins_front Spells t (58 ∷ []) (due_begins (InObject l.2 l.1 ∷ l.0) (t ++ 58 ∷ []) (colon_due l.2 l.0 l.1 l.3 l.4 l.5 t l.8 l.9 l.10 l.11 l.7))
alive_at (InWord w) t s l = word_begins s.stack t l.0 l.1 w l.2 l.3 l.4
alive_at (InKey w) t s l = key_begins l.0 l.2 t l.3 l.4 w l.6 l.7 l.8
alive_at (InNumber text) t s l = number_begins s.stack t l.0 text l.1 l.2 l.3
alive_at (InLiteral rest tree) t s l = literal_begins s.stack t l.0 l.1 rest tree l.2 l.3 l.4
alive_at AfterValue t s l = done_begins l.0 l.1 t l.4

pub alive : (t : List ℕ) (s : State) → Leads t s → Begins Spells t
alive t s l = alive_at s.phase t s l

-- ---- what is answered is spelled

spelled_root : (k : List Frame) (v tree : Json) (t : List ℕ) → Done k v t → rooted v k ≡ Some tree → Spells t tree
spelled_root [] v tree t d e = let same : v ≡ tree = cc in subst (Spells t) same (item d.0 d.1 d.2 d.4 d.5 d.6 d.3)
spelled_root (f ∷ k) v tree t d e = cc

whole_or_none : (test : Bool) (o : Option Json) (tree : Json) → (if test then o else None) ≡ Some tree → (test ≡ true) × (o ≡ Some tree)
whole_or_none true o tree e = (refl, e)
whole_or_none false o tree e = cc

number_done : (k : List Frame) (t before text : List ℕ) → t ≡ before ++ text → ValueIsDue k before → is_number text ≡ true → Done k (Number text) t
number_done k t before text e d w = value_done k (Number text) t before text e d (number ((number_test text).0 w) refl)

spelled_at : (p : Phase) (t : List ℕ) (s : State) (tree : Json) → LeadsAt p t s → ending p s ≡ Some tree → Spells t tree
spelled_at AfterValue t s tree l e = spelled_root l.0 l.1 tree t l.4 (sym l.3 ∙ e)
spelled_at (InNumber text) t s tree l e =
    let x = whole_or_none (is_number text) (rooted (Number text) s.stack) tree e in
    spelled_root s.stack (Number text) tree t (number_done s.stack t l.0 text l.1 l.2 x.0) x.1
spelled_at _ t s tree l e = cc

pub spelled : (t : List ℕ) (s : State) (tree : Json) → Leads t s → finish s ≡ Some tree → Spells t tree
spelled t s tree l e = spelled_at s.phase t s tree l e

-- ---- one more byte

test_or : (test : Bool) (x other : Option State) (after : State) → (if test then x else other) ≡ Some after → ((test ≡ true) × (x ≡ Some after)) ⊎ ((test ≡ false) × (other ≡ Some after))
test_or true x other after e = inl (refl, e)
test_or false x other after e = inr (refl, e)

byte_of : (b k : ℕ) → (b == k) ≡ true → b ≡ k
byte_of b k e = grind (arith, nat_tests)

-- a list or an object that is opened
lead_pushed : (t : List ℕ) (k : List Frame) (f : Frame) (p : Phase) (after : State) → pushed k f p ≡ Some after → (length k < 64 → Leads t (record { stack = f ∷ k; root = None; phase = p })) → Leads t after
lead_pushed t k f p after e l = elim (test_or (nat_lt (length k) 64) (Some (record { stack = f ∷ k; root = None; phase = p })) None after e) [
  | inl x ↦ became t (record { stack = f ∷ k; root = None; phase = p }) after x.1 (l (ltb-true (length k) 64 x.0))
  | inr x ↦ let no = x.1 in cc
]

lead_literal_begun : (t : List ℕ) (s : State) (c : ℕ) (rest : List ℕ) (tree : Json) (after : State) → ValueIsDue s.stack t → IsLiteral (c ∷ rest) tree → Some (in_phase s (InLiteral rest tree)) ≡ Some after → Leads (t ++ c ∷ []) after
lead_literal_begun t s c rest tree after d i e = became _ (in_phase s (InLiteral rest tree)) after e (t, c ∷ [], refl, d, i)

lead_other : (t : List ℕ) (s : State) (b : ℕ) (after : State) → ValueIsDue s.stack t → at_other s b ≡ Some after → Leads (t ++ b ∷ []) after
lead_other t s b after d e = elim (test_or (b == 110) _ _ after e) [
  | inl x ↦ rw (byte_of b 110 x.0) (lead_literal_begun t s 110 (codes "ull") Null after d (inl (refl, refl)) x.1)
  | inr x ↦ elim (test_or (b == 116) _ _ after x.1) [
    | inl y ↦ rw (byte_of b 116 y.0) (lead_literal_begun t s 116 (codes "rue") (Truth true) after d (inr (true, refl, refl)) y.1)
    | inr y ↦ elim (test_or (b == 102) _ _ after y.1) [
      | inl z ↦ rw (byte_of b 102 z.0) (lead_literal_begun t s 102 (codes "alse") (Truth false) after d (inr (false, refl, refl)) z.1)
      | inr z ↦ elim (test_or (begins_number (b ∷ [])) (Some (in_phase s (InNumber (b ∷ [])))) None after z.1) [
        | inl n ↦ became _ (in_phase s (InNumber (b ∷ []))) after n.1 (t, refl, d, (begins_test (b ∷ [])).0 n.0)
        | inr n ↦ let no = n.1 in cc
      ]
    ]
  ]
]

-- where a value is due; at a blank the state stays
lead_value : (sign : Sign) (p : Phase) (t : List ℕ) (s after : State) (b : ℕ) → sign_of b ≡ sign → s.phase ≡ p → LeadsAt p (t ++ b ∷ []) s ⊎ (sign ≡ Blank → ⊥) → ValueIsDue s.stack t → at_value s b sign ≡ Some after → Leads (t ++ b ∷ []) after
lead_value Blank p t s after b is sp (inl stay) d e = became _ s after e (at_phase _ s p sp stay)
lead_value Blank p t s after b is sp (inr never) d e = absurd (never refl)
lead_value Quote p t s after b is sp stay d e = became _ (in_phase s (InWord word_start)) after e (t, [], rw (quote_byte b is) (sym (append-nil (t ++ 34 ∷ []))), d, word_leads_start)
lead_value Open p t s after b is sp stay d e = lead_pushed _ s.stack (InList []) FirstValueDue after e (λ less.
    (s.stack, refl, (t, [], rw (open_byte b is) (sym (append-nil (t ++ 91 ∷ []))), d, less, ([], [], refl, inl (refl, refl), tt))))
lead_value OpenBrace p t s after b is sp stay d e = lead_pushed _ s.stack (InObject [] []) FirstKeyDue after e (λ less.
    (s.stack, [], refl, (t, [], rw (open_brace_byte b is) (sym (append-nil (t ++ 123 ∷ []))), d, less, ([], [], refl, inl (refl, refl), tt))))
lead_value Other p t s after b is sp stay d e = lead_other t s b after d e
lead_value _ p t s after b is sp stay d e = cc

lead_closed : (t : List ℕ) (k : List Frame) (v : Json) (after : State) → Some (with_value v k) ≡ Some after → Done k v t → Leads t after
lead_closed t k v after e d = became t (with_value v k) after e (k, v, refl, refl, d)

lead_first_value : (sign : Sign) (t : List ℕ) (s after : State) (b : ℕ) → sign_of b ≡ sign → s.phase ≡ FirstValueDue → LeadsAt FirstValueDue t s → at_first_value s b sign ≡ Some after → Leads (t ++ b ∷ []) after
lead_first_value Close t s after b is sp l e =
    rw (close_byte b is) (lead_closed (t ++ 93 ∷ []) l.0 (trees.List []) after (ap closed_list (sym l.1) ∙ e) (empty_list_ends l.0 t (subst (λ y. ValueIsDue y t) l.1 l.2)))
lead_first_value Blank t s after b is sp l e = lead_value Blank FirstValueDue t s after b is sp (inl (l.0, l.1, due_snoc s.stack t b l.2 (blank_byte b is))) l.2 e
lead_first_value Quote t s after b is sp l e = lead_value Quote FirstValueDue t s after b is sp (inr (λ h. cc)) l.2 e
lead_first_value Open t s after b is sp l e = lead_value Open FirstValueDue t s after b is sp (inr (λ h. cc)) l.2 e
lead_first_value OpenBrace t s after b is sp l e = lead_value OpenBrace FirstValueDue t s after b is sp (inr (λ h. cc)) l.2 e
lead_first_value Other t s after b is sp l e = lead_value Other FirstValueDue t s after b is sp (inr (λ h. cc)) l.2 e
lead_first_value _ t s after b is sp l e = cc

-- after a value
lead_comma : (k : List Frame) (v : Json) (t : List ℕ) (s after : State) → s.stack ≡ emitted v k → Done k v t → next_due s s.stack ≡ Some after → Leads (t ++ 44 ∷ []) after
lead_comma [] v t s after st d e = let f = ap (next_due s) st in cc
lead_comma (InList vs ∷ k) v t s after st d e = became _ (in_phase s ValueDue) after (sym (ap (next_due s) st) ∙ e) (subst (λ y. ValueIsDue y (t ++ 44 ∷ [])) (sym st) (list_goes_on vs k v t d))
lead_comma (InObject ms x ∷ k) v t s after st d e = became _ (in_phase s KeyDue) after (sym (ap (next_due s) st) ∙ e) (k, [], ms ++ pair x v ∷ [], st, object_goes_on ms x k v t d)

lead_close : (k : List Frame) (v : Json) (t : List ℕ) (s after : State) → s.stack ≡ emitted v k → Done k v t → closed_list s.stack ≡ Some after → Leads (t ++ 93 ∷ []) after
lead_close [] v t s after st d e = let f = ap closed_list st in cc
lead_close (InList vs ∷ k) v t s after st d e = lead_closed _ k (trees.List (vs ++ v ∷ [])) after (sym (ap closed_list st) ∙ e) (list_ends vs k v t d)
lead_close (InObject ms x ∷ k) v t s after st d e = let f = ap closed_list st in cc

lead_brace : (k : List Frame) (v : Json) (t : List ℕ) (s after : State) → s.stack ≡ emitted v k → Done k v t → closed_object s.stack ≡ Some after → Leads (t ++ 125 ∷ []) after
lead_brace [] v t s after st d e = let f = ap closed_object st in cc
lead_brace (InObject ms x ∷ k) v t s after st d e = lead_closed _ k (trees.Object (ms ++ pair x v ∷ [])) after (sym (ap closed_object st) ∙ e) (object_ends ms x k v t d)
lead_brace (InList vs ∷ k) v t s after st d e = let f = ap closed_object st in cc

lead_after : (sign : Sign) (t : List ℕ) (s after : State) (b : ℕ) → sign_of b ≡ sign → s.phase ≡ AfterValue → LeadsAt AfterValue t s → after_value s sign ≡ Some after → Leads (t ++ b ∷ []) after
lead_after Blank t s after b is sp l e = became _ s after e (at_phase _ s AfterValue sp (
  l.0,
  l.1,
  l.2,
  l.3,
  (l.4.0, l.4.1, l.4.2 ++ b ∷ [], rw l.4.3 (simp append_assoc), l.4.4, l.4.5, blanks_snoc l.4.2 b l.4.6 (blank_byte b is)),
))
lead_after Comma t s after b is sp l e = rw (comma_byte b is) (lead_comma l.0 l.1 t s after l.2 l.4 e)
lead_after Close t s after b is sp l e = rw (close_byte b is) (lead_close l.0 l.1 t s after l.2 l.4 e)
lead_after CloseBrace t s after b is sp l e = rw (close_brace_byte b is) (lead_brace l.0 l.1 t s after l.2 l.4 e)
lead_after _ t s after b is sp l e = cc

-- within words, numbers and literals
lead_number : (text : List ℕ) (t : List ℕ) (s after : State) (b : ℕ) (sign : Sign) → sign_of b ≡ sign → LeadsAt (InNumber text) t s → in_number s text b sign ≡ Some after → Leads (t ++ b ∷ []) after
lead_number text t s after b sign is l e = elim (test_or (begins_number (text ++ b ∷ [])) _ _ after e) [
  | inl x ↦ became _ (in_phase s (InNumber (text ++ b ∷ []))) after x.1 (l.0, rw l.1 (append_assoc l.0 text (b ∷ [])), l.2, (begins_test (text ++ b ∷ [])).0 x.0)
  | inr x ↦ elim (test_or (is_number text) (after_value (with_value (Number text) s.stack) sign) None after x.1) [
    | inl y ↦ lead_after sign t (with_value (Number text) s.stack) after b is refl (s.stack, Number text, refl, refl, number_done s.stack t l.0 text l.1 l.2 y.0) y.1
    | inr y ↦ let no = y.1 in cc
  ]
]

lead_literal : (rest : List ℕ) (tree : Json) (t : List ℕ) (s after : State) (b : ℕ) → LeadsAt (InLiteral rest tree) t s → in_literal s rest tree b ≡ Some after → Leads (t ++ b ∷ []) after
lead_literal [] tree t s after b l e = cc
lead_literal (x ∷ rest) tree t s after b l e = elim (test_or (b == x) (Some (literal_left s rest tree)) None after e) [
  | inl y ↦ rw (byte_of b x y.0) (left rest after y.1 l)
  | inr y ↦ let no = y.1 in cc
]
  where
    left : (rest : List ℕ) (after : State) → Some (literal_left s rest tree) ≡ Some after → LeadsAt (InLiteral (x ∷ rest) tree) t s → Leads (t ++ x ∷ []) after
    left [] after e l = lead_closed _ s.stack tree after e (value_done s.stack tree (t ++ x ∷ []) l.0 (l.1 ++ x ∷ []) (rw l.2 (append_assoc l.0 l.1 (x ∷ []))) l.3 (literal_spelled (length s.stack) (l.1 ++ x ∷ []) tree l.4))
    left (y ∷ rest) after e l =
        became _ (in_phase s (InLiteral (y ∷ rest) tree)) after e (l.0, l.1 ++ x ∷ [], rw l.2 (append_assoc l.0 l.1 (x ∷ [])), l.3, subst (λ z. IsLiteral z tree) (sym (append_assoc l.1 (x ∷ []) (y ∷ rest))) l.4)

lead_word : (w : WordState) (t : List ℕ) (s after : State) (b : ℕ) (o : Option WordState) → next_character w b ≡ o → LeadsAt (InWord w) t s → in_word s w b o ≡ Some after → Leads (t ++ b ∷ []) after
lead_word w t s after b (Some n) is l e = became _ (in_phase s (InWord n)) after e (l.0, l.1 ++ b ∷ [], rw l.2 (simp append_assoc), l.3, word_leads l.1 w b n l.4 is)
lead_word w t s after b None is l e = elim (test_or (is_between w.part && b == 34) (Some (with_value (Word w.word) s.stack)) None after e) [
  | inl x ↦
      let parts = and_parts (is_between w.part) (b == 34) x.0 in
      rw (byte_of b 34 parts.1) (lead_closed (t ++ 34 ∷ []) s.stack (Word w.word) after x.1
      (value_done s.stack (Word w.word) (t ++ 34 ∷ []) l.0 ((34 ∷ []) ++ l.1 ++ (34 ∷ [])) (rw l.2 (simp append_assoc)) l.3 (word w.word (word_spelled l.1 w l.4 parts.0) refl)))
  | inr x ↦ let no = x.1 in cc
]

-- keys
lead_key_begun : (k : List Frame) (x : List ℕ) (ms : List Member) (t : List ℕ) (s after : State) → s.stack ≡ InObject ms x ∷ k → KeyIsDue ms k t → Some (in_phase s (InKey word_start)) ≡ Some after → Leads (t ++ 34 ∷ []) after
lead_key_begun k x ms t s after st d e = became _ (in_phase s (InKey word_start)) after e (k, x, ms, t, [], st, sym (append-nil (t ++ 34 ∷ [])), d, word_leads_start)

lead_first_key : (sign : Sign) (t : List ℕ) (s after : State) (b : ℕ) → sign_of b ≡ sign → s.phase ≡ FirstKeyDue → LeadsAt FirstKeyDue t s → at_first_key s sign ≡ Some after → Leads (t ++ b ∷ []) after
lead_first_key Blank t s after b is sp l e = became _ s after e (at_phase _ s FirstKeyDue sp (l.0, l.1, l.2, key_due_snoc [] l.0 t b l.3 (blank_byte b is)))
lead_first_key Quote t s after b is sp l e = rw (quote_byte b is) (lead_key_begun l.0 l.1 [] t s after l.2 l.3 e)
lead_first_key CloseBrace t s after b is sp l e = rw (close_brace_byte b is) (lead_closed _ l.0 (trees.Object []) after (sym (ap closed_object l.2) ∙ e) (empty_object_ends l.0 t l.3))
lead_first_key _ t s after b is sp l e = cc

lead_key : (sign : Sign) (t : List ℕ) (s after : State) (b : ℕ) → sign_of b ≡ sign → s.phase ≡ KeyDue → LeadsAt KeyDue t s → at_key s sign ≡ Some after → Leads (t ++ b ∷ []) after
lead_key Blank t s after b is sp l e = became _ s after e (at_phase _ s KeyDue sp (l.0, l.1, l.2, l.3, key_due_snoc l.2 l.0 t b l.4 (blank_byte b is)))
lead_key Quote t s after b is sp l e = rw (quote_byte b is) (lead_key_begun l.0 l.1 l.2 t s after l.3 l.4 e)
lead_key _ t s after b is sp l e = cc

lead_keyed : (w : WordState) (t : List ℕ) (s after : State) → LeadsAt (InKey w) t s → is_between w.part ≡ true → keyed w.word s.stack ≡ Some after → Leads (t ++ 34 ∷ []) after
lead_keyed w t s after l between e =
    let made : State = record { stack = InObject l.2 w.word ∷ l.0; root = None; phase = ColonDue } in
    elim (test_or (has_key w.word l.2) None (Some made) after (sym (ap (keyed w.word) l.5) ∙ e)) [
      | inl x ↦ let no = x.1 in cc
      | inr x ↦ became _ made after x.1 (l.0, w.word, l.2, l.3, (34 ∷ []) ++ l.4 ++ (34 ∷ []), [], refl, rw l.6 (simp (append_assoc, append-nil)), l.7, word_spelled l.4 w l.8 between, no_key_found w.word l.2 x.0, tt)
    ]

lead_in_key : (w : WordState) (t : List ℕ) (s after : State) (b : ℕ) (o : Option WordState) → next_character w b ≡ o → LeadsAt (InKey w) t s → in_key s w b o ≡ Some after → Leads (t ++ b ∷ []) after
lead_in_key w t s after b (Some n) is l e = became _ (in_phase s (InKey n)) after e (l.0, l.1, l.2, l.3, l.4 ++ b ∷ [], l.5, rw l.6 (simp append_assoc), l.7, word_leads l.4 w b n l.8 is)
lead_in_key w t s after b None is l e = elim (test_or (is_between w.part && b == 34) (keyed w.word s.stack) None after e) [
  | inl x ↦ let parts = and_parts (is_between w.part) (b == 34) x.0 in rw (byte_of b 34 parts.1) (lead_keyed w t s after l parts.0 x.1)
  | inr x ↦ let no = x.1 in cc
]

lead_colon : (sign : Sign) (t : List ℕ) (s after : State) (b : ℕ) → sign_of b ≡ sign → s.phase ≡ ColonDue → LeadsAt ColonDue t s → at_colon s sign ≡ Some after → Leads (t ++ b ∷ []) after
lead_colon Blank t s after b is sp l e = became _ s after e (at_phase _ s ColonDue sp (l.0, l.1, l.2, l.3, l.4, l.5 ++ b ∷ [], l.6, rw l.7 (simp append_assoc), l.8, l.9, l.10, blanks_snoc l.5 b l.11 (blank_byte b is)))
lead_colon Colon t s after b is sp l e = rw (colon_byte b is) (became _ (in_phase s ValueDue) after e
    (subst (λ y. ValueIsDue y (t ++ 58 ∷ [])) (sym l.6) (colon_due l.2 l.0 l.1 l.3 l.4 l.5 t l.8 l.9 l.10 l.11 l.7)))
lead_colon _ t s after b is sp l e = cc

lead_by : (p : Phase) (t : List ℕ) (s : State) (b : ℕ) (after : State) (sign : Sign) → sign_of b ≡ sign → s.phase ≡ p → LeadsAt p t s → by_phase p s b sign ≡ Some after → Leads (t ++ b ∷ []) after
lead_by ValueDue t s b after sign is sp l e = lead_value sign ValueDue t s after b is sp (stays sign is) l e
  where
    stays : (sign : Sign) → sign_of b ≡ sign → LeadsAt ValueDue (t ++ b ∷ []) s ⊎ (sign ≡ Blank → ⊥)
    stays Blank is = inl (due_snoc s.stack t b l (blank_byte b is))
    stays _ is = inr (λ h. cc)
lead_by FirstValueDue t s b after sign is sp l e = lead_first_value sign t s after b is sp l e
lead_by KeyDue t s b after sign is sp l e = lead_key sign t s after b is sp l e
lead_by FirstKeyDue t s b after sign is sp l e = lead_first_key sign t s after b is sp l e
lead_by ColonDue t s b after sign is sp l e = lead_colon sign t s after b is sp l e
lead_by (InWord w) t s b after sign is sp l e = lead_word w t s after b (next_character w b) refl l e
lead_by (InKey w) t s b after sign is sp l e = lead_in_key w t s after b (next_character w b) refl l e
lead_by (InNumber text) t s b after sign is sp l e = lead_number text t s after b sign is l e
lead_by (InLiteral rest tree) t s b after sign is sp l e = lead_literal rest tree t s after b l e
lead_by AfterValue t s b after sign is sp l e = lead_after sign t s after b is sp l e

pub leads_step : (t : List ℕ) (s : State) (b : ℕ) (after : State) → Leads t s → step s b ≡ Some after → Leads (t ++ b ∷ []) after
leads_step t s b after l e = lead_by s.phase t s b after (sign_of b) refl refl l e

pub leads_start : Leads [] start
leads_start = tt
