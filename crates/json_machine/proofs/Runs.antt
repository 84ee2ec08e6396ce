-- each JSON text leads the machine to its tree
use Rattle.std.proofs.Common.{◌≡◌, ℕ, suc, ◌<◌, ◌≤◌, List, [], ◌∷◌, ◌++◌, length, refl, sym, ◌∙◌, ap, subst, append_assoc, arith, ◌⊎◌, inl, inr, Some, None, Bool, true, false, codes, encode_utf8_all}
use Rattle.std.specs.Prelude.{nat_lt, if◌then◌else◌, ◌==◌, option_and_then}
use Rattle.std.proofs.lemmas.List.{append-nil}
use Rattle.std.proofs.lemmas.Bool.Decides.{nat_tests}
use borrow.Author.Tests.{lt-ltb}
use Rattle.first_fault.specs.Machine.{steps, answer}
use Rattle.first_fault.proofs.Machines.{steps-append}
use Rattle.json_tree.specs.Blank.{IsBlank, AreBlanks}
use Rattle.json_tree.specs.Number.{IsNumber}
use Rattle.json_tree.specs.Spells.{truth_word, Spells, SpellsValue, SpellsItem, SpellsItems, SpellsMember, SpellsMembers, null, truth, number, word, empty_list, list, empty_object, object, item, first as first_item, next as next_item, member, first_member, next_member}
use Rattle.json_tree.specs.Tree.{HasKey}
use Rattle.json_tree.specs.Word.{SpellsCharacters, SpellsWord}
use Rattle.json_tree.specs.declared.tree.Json.{Json, Null, Truth, Number, Word}
use Rattle.json_tree.specs.declared.tree.Json.TheViews as trees
use Rattle.json_tree.specs.declared.tree.Member.{Member}
use Rattle.json_machine.specs.Machine.{Frame, InList, InObject, Phase, ValueDue, FirstValueDue, KeyDue, FirstKeyDue, ColonDue, InWord, InKey, InNumber, InLiteral, AfterValue, State, Blank, Other, sign_of, start, in_phase, rooted, with_value, after_value, at_number, at_other, at_value, at_first_value, in_word, has_key, keyed, in_key, by_phase, step, finish}
use Rattle.json_tree.specs.Scan.{begins_number, is_number}
use Rattle.json_machine.specs.WordScan.{WordState, word_start, next_character}
use Rattle.first_fault.proofs.Goes.{Goes, then_goes, byte_goes, none_goes, along}
use Rattle.json_machine.proofs.Keys.{new_key}
use Rattle.json_tree.proofs.NumberBytes.{IsPlain, number_ends, empty_number}
use Rattle.json_tree.proofs.Numbers.{number_test, begins_test}
use Rattle.json_machine.proofs.Signs.{blank_sign}
use Rattle.json_machine.proofs.Words.{at_rest, word_goes}

abbrev pub at : List Frame → Phase → State
at k p = record { stack = k; root = None; phase = p }

abbrev pub Go : State → List ℕ → State → Type 0
Go s t e = Goes step s t e

-- the byte after a value: a blank, a comma, a closing bracket or brace
abbrev pub Delimits : ℕ → Type 0
Delimits b = IsBlank b ⊎ ((b ≡ 44) ⊎ ((b ≡ 93) ⊎ (b ≡ 125)))

not_plain : (b : ℕ) → Delimits b → ¬ IsPlain b
not_plain b (inl (inl e)) p = omega (arith, p.0)
not_plain b (inl (inr (inl e))) p = omega (arith, p.0)
not_plain b (inl (inr (inr (inl e)))) p = omega (arith, p.0)
not_plain b (inl (inr (inr (inr e)))) p = omega (arith, p.0)
not_plain b (inr (inl e)) p = p.1 e
not_plain b (inr (inr (inl e))) p = p.2 e
not_plain b (inr (inr (inr e))) p = p.3 e

-- the state does at a delimiter and at the end what is done after the value
pub record Settles (e : State) (v : Json) (k : List Frame) : Type 0 where
  pub delimited : (b : ℕ) → Delimits b → step e b ≡ step (with_value v k) b
  pub ended : finish e ≡ finish (with_value v k)

settled : (v : Json) (k : List Frame) → Settles (with_value v k) v k
settled v k = record { delimited = λ b d. refl; ended = refl }

-- ---- blanks

pub blanks_go : (s : State) → ((b : ℕ) → by_phase s.phase s b Blank ≡ Some s) → (t : List ℕ) → AreBlanks t → Go s t s
blanks_go s h [] a = none_goes
blanks_go s h (b ∷ t) a = then_goes {a = b ∷ []} (byte_goes b (ap (by_phase s.phase s b) (blank_sign b a.0) ∙ h b)) (blanks_go s h t a.1)

-- where a value may begin, and where a key may
abbrev pub IsDue : Phase → Type 0
IsDue p = (p ≡ ValueDue) ⊎ (p ≡ FirstValueDue)

abbrev pub IsKeyDue : Phase → Type 0
IsKeyDue p = (p ≡ KeyDue) ⊎ (p ≡ FirstKeyDue)

pub due_blanks : (k : List Frame) (p : Phase) → IsDue p → (t : List ℕ) → AreBlanks t → Go (at k p) t (at k p)
due_blanks k p (inl e) t a = rw e (blanks_go (at k ValueDue) (λ b. refl) t a)
due_blanks k p (inr e) t a = rw e (blanks_go (at k FirstValueDue) (λ b. refl) t a)

pub key_blanks : (k : List Frame) (p : Phase) → IsKeyDue p → (t : List ℕ) → AreBlanks t → Go (at k p) t (at k p)
key_blanks k p (inl e) t a = rw e (blanks_go (at k KeyDue) (λ b. refl) t a)
key_blanks k p (inr e) t a = rw e (blanks_go (at k FirstKeyDue) (λ b. refl) t a)

-- ---- what begins where a value is due

due_quote : (k : List Frame) (p : Phase) → IsDue p → Go (at k p) (34 ∷ []) (at k (InWord word_start))
due_quote k p (inl e) = rw e (byte_goes 34 refl)
due_quote k p (inr e) = rw e (byte_goes 34 refl)

room : {X : Type 0} (n : ℕ) (a b : X) → n < 64 → (if nat_lt n 64 then a else b) ≡ a
room n a b less = ap (λ (r : Bool). if r then a else b) (lt-ltb n 64 less)

pub due_open : (k : List Frame) (p : Phase) → length k < 64 → IsDue p → Go (at k p) (91 ∷ []) (at (InList [] ∷ k) FirstValueDue)
due_open k p less (inl e) = rw e (byte_goes {s = at k ValueDue} 91 (room (length k) _ _ less))
due_open k p less (inr e) = rw e (byte_goes {s = at k FirstValueDue} 91 (room (length k) _ _ less))

pub due_brace : (k : List Frame) (p : Phase) → length k < 64 → IsDue p → Go (at k p) (123 ∷ []) (at (InObject [] [] ∷ k) FirstKeyDue)
due_brace k p less (inl e) = rw e (byte_goes {s = at k ValueDue} 123 (room (length k) _ _ less))
due_brace k p less (inr e) = rw e (byte_goes {s = at k FirstValueDue} 123 (room (length k) _ _ less))

-- a byte of no sign is what it is after any blanks
due_other : (k : List Frame) (p : Phase) → IsDue p → (b : ℕ) → sign_of b ≡ Other → (e : State) → at_other (at k p) b ≡ Some e → Go (at k p) (b ∷ []) e
due_other k p (inl same) b o e h = byte_goes b (ap (λ q. by_phase q (at k p) b (sign_of b)) same ∙ ap (at_value (at k p) b) o ∙ h)
due_other k p (inr same) b o e h = byte_goes b (ap (λ q. by_phase q (at k p) b (sign_of b)) same ∙ ap (at_first_value (at k p) b) o ∙ h)

pub key_quote : (k : List Frame) (p : Phase) → IsKeyDue p → Go (at k p) (34 ∷ []) (at k (InKey word_start))
key_quote k p (inl e) = rw e (byte_goes 34 refl)
key_quote k p (inr e) = rw e (byte_goes 34 refl)

-- ---- words

lifted : (f : WordState → State) → ((w : WordState) (b : ℕ) (n : WordState) → next_character w b ≡ Some n → step (f w) b ≡ Some (f n)) → (t : List ℕ) (w e : WordState) → steps next_character w t ≡ Some e → steps step (f w) t ≡ Some (f e)
lifted f lift [] w e r = let same : w ≡ e = cc in ap (λ x. Some (f x)) same
lifted f lift (b ∷ t) w e r =
    (elim (next_character w b) as (λ o. next_character w b ≡ o → option_and_then (λ n. steps next_character n t) o ≡ Some e → steps step (f w) (b ∷ t) ≡ Some (f e)) [
      | None ↦ λ h m. cc
      | Some n ↦ λ h m. ap (option_and_then (λ s. steps step s t)) (lift w b n h) ∙ lifted f lift t n e m
    ]) refl r

word_lift : (k : List Frame) (w : WordState) (b : ℕ) (n : WordState) → next_character w b ≡ Some n → step (at k (InWord w)) b ≡ Some (at k (InWord n))
word_lift k w b n h = ap (in_word (at k (InWord w)) w b) h

key_lift : (k : List Frame) (w : WordState) (b : ℕ) (n : WordState) → next_character w b ≡ Some n → step (at k (InKey w)) b ≡ Some (at k (InKey n))
key_lift k w b n h = ap (in_key (at k (InKey w)) w b) h

-- the characters of a key
pub key_goes_on : (k : List Frame) (inner cs : List ℕ) → SpellsCharacters inner cs → Go (at k (InKey word_start)) inner (at k (InKey (at_rest (encode_utf8_all cs))))
key_goes_on k inner cs s = record { runs = lifted (λ w. at k (InKey w)) (key_lift k) inner word_start (at_rest (encode_utf8_all cs)) (word_goes inner cs s).runs }

-- a word with its quotes, and a new key
spelled_word_goes : (k : List Frame) (p : Phase) → IsDue p → (text x : List ℕ) → SpellsWord text x → Go (at k p) text (with_value (Word x) k)
spelled_word_goes k p d text x s =
    let inner : Go (at k (InWord word_start)) s.0 (at k (InWord (at_rest (encode_utf8_all s.1)))) = record { runs = lifted (λ w. at k (InWord w)) (word_lift k) s.0 word_start (at_rest (encode_utf8_all s.1)) (word_goes s.0 s.1 s.3).runs } in
    let end = byte_goes {step = step} {s = at k (InWord (at_rest (encode_utf8_all s.1)))} {e = with_value (Word (encode_utf8_all s.1)) k} 34 refl in
    along s.2 (subst (λ y. Go (at k p) ((34 ∷ []) ++ s.0 ++ (34 ∷ [])) (with_value (Word y) k)) (sym s.4) (then_goes {a = (34 ∷ []) ++ s.0} (then_goes {a = 34 ∷ []} (due_quote k p d) inner) end))

pub spelled_key_goes : (k : List Frame) (p : Phase) → IsKeyDue p → (ms : List Member) (before text x : List ℕ) → SpellsWord text x → ¬ HasKey ms x → Go (at (InObject ms before ∷ k) p) text (at (InObject ms x ∷ k) ColonDue)
spelled_key_goes k p d ms before text x s new =
    let f = InObject ms before ∷ k in
    let key = encode_utf8_all s.1 in
    let inner = key_goes_on f s.0 s.1 s.3 in
    let fresh : has_key key ms ≡ false = new_key key ms (subst (λ y. ¬ HasKey ms y) s.4 new) in
    let taken : keyed key f ≡ Some (at (InObject ms key ∷ k) ColonDue) = ap (λ (r : Bool). if r then None else Some (at (InObject ms key ∷ k) ColonDue)) fresh in
    let end = byte_goes {step = step} {s = at f (InKey (at_rest key))} {e = at (InObject ms key ∷ k) ColonDue} 34 taken in
    along s.2 (subst (λ y. Go (at f p) ((34 ∷ []) ++ s.0 ++ (34 ∷ [])) (at (InObject ms y ∷ k) ColonDue)) (sym s.4) (then_goes {a = (34 ∷ []) ++ s.0} (then_goes {a = 34 ∷ []} (key_quote f p d) inner) end))

-- ---- numbers and literals

abbrev ValueGoes : List Frame → Phase → List ℕ → Json → Type 0
ValueGoes k p text v = (e : State) × Go (at k p) text e × Settles e v k

done_goes : (k : List Frame) (p : Phase) (text : List ℕ) (v : Json) → Go (at k p) text (with_value v k) → ValueGoes k p text v
done_goes k p text v g = (with_value v k, g, settled v k)

literal_goes : (k : List Frame) (p : Phase) → IsDue p → (text : List ℕ) (tree : Json) → ((text ≡ codes "null") × (tree ≡ Null)) ⊎ ((is : Bool) × (text ≡ truth_word is) × (tree ≡ Truth is)) → ValueGoes k p text tree
literal_goes k p d text tree (inl s) = done_goes k p text tree (along s.0 (subst (λ x. Go (at k p) (codes "null") (with_value x k)) (sym s.1)
    (then_goes {a = 110 ∷ []} {b = codes "ull"} (due_other k p d 110 refl (at k (InLiteral (codes "ull") Null)) refl) (record { runs = refl }))))
literal_goes k p d text tree (inr (true, e, f)) = done_goes k p text tree (along e (subst (λ x. Go (at k p) (codes "true") (with_value x k)) (sym f)
    (then_goes {a = 116 ∷ []} {b = codes "rue"} (due_other k p d 116 refl (at k (InLiteral (codes "rue") (Truth true))) refl) (record { runs = refl }))))
literal_goes k p d text tree (inr (false, e, f)) = done_goes k p text tree (along e (subst (λ x. Go (at k p) (codes "false") (with_value x k)) (sym f)
    (then_goes {a = 102 ∷ []} {b = codes "alse"} (due_other k p d 102 refl (at k (InLiteral (codes "alse") (Truth false))) refl) (record { runs = refl }))))

-- the first byte of a number
abbrev BeginsOne : ℕ → Type 0
BeginsOne b = (b ≡ 45) ⊎ ((48 ≤ b) × (b ≤ 57))

begins_one : (b : ℕ) → begins_number (b ∷ []) ≡ true → BeginsOne b
begins_one b e = grind (arith, nat_tests)

other_sign : (b : ℕ) → BeginsOne b → sign_of b ≡ Other
other_sign b h = grind (arith, nat_tests)

no_literal : (s : State) (b : ℕ) → BeginsOne b → at_other s b ≡ at_number s b
no_literal s b h =
    ap (λ (r : Bool). if r then Some (in_phase s (InLiteral (codes "ull") Null)) else if b == 116 then Some (in_phase s (InLiteral (codes "rue") (Truth true))) else if b == 102 then Some (in_phase s (InLiteral (codes "alse") (Truth false))) else at_number s b) (differs b 110 h (omega arith))
    ∙ ap (λ (r : Bool). if r then Some (in_phase s (InLiteral (codes "rue") (Truth true))) else if b == 102 then Some (in_phase s (InLiteral (codes "alse") (Truth false))) else at_number s b) (differs b 116 h (omega arith))
    ∙ ap (λ (r : Bool). if r then Some (in_phase s (InLiteral (codes "alse") (Truth false))) else at_number s b) (differs b 102 h (omega arith))
  where
    differs : (b c : ℕ) → BeginsOne b → 58 ≤ c → (b == c) ≡ false
    differs b c h l = grind (arith, nat_tests)

number_byte : (k : List Frame) (text : List ℕ) (b : ℕ) (rest : List ℕ) → IsNumber (text ++ b ∷ rest) → step (at k (InNumber text)) b ≡ Some (at k (InNumber (text ++ b ∷ [])))
number_byte k text b rest n =
    let begun : begins_number (text ++ b ∷ []) ≡ true = (begins_test (text ++ b ∷ [])).1 (rest, subst IsNumber (sym (append_assoc text (b ∷ []) rest)) n) in
    ap (λ (r : Bool). if r then Some (at k (InNumber (text ++ b ∷ []))) else if is_number text then after_value (with_value (Number text) k) (sign_of b) else None) begun

number_goes_on : (k : List Frame) (text rest : List ℕ) → IsNumber (text ++ rest) → Go (at k (InNumber text)) rest (at k (InNumber (text ++ rest)))
number_goes_on k text [] n = subst (λ x. Go (at k (InNumber text)) [] (at k (InNumber x))) (sym (append-nil text)) none_goes
number_goes_on k text (b ∷ rest) n = subst (λ x. Go (at k (InNumber text)) (b ∷ rest) (at k (InNumber x))) (append_assoc text (b ∷ []) rest)
    (then_goes {a = b ∷ []} (byte_goes b (number_byte k text b rest n)) (number_goes_on k (text ++ b ∷ []) rest (subst IsNumber (sym (append_assoc text (b ∷ []) rest)) n)))

number_settles : (k : List Frame) (text : List ℕ) → IsNumber text → Settles (at k (InNumber text)) (Number text) k
number_settles k text n =
    let whole : is_number text ≡ true = (number_test text).1 n in record {
      delimited = λ b d.
          ap (λ (r : Bool). if r then Some (at k (InNumber (text ++ b ∷ []))) else if is_number text then after_value (with_value (Number text) k) (sign_of b) else None) (number_ends text b (not_plain b d))
          ∙ ap (λ (r : Bool). if r then after_value (with_value (Number text) k) (sign_of b) else None) whole;
      ended = ap (λ (r : Bool). if r then rooted (Number text) k else None) whole;
    }

number_value_goes : (k : List Frame) (p : Phase) → IsDue p → (text : List ℕ) → IsNumber text → ValueGoes k p text (Number text)
number_value_goes k p d [] n = absurd (empty_number n)
number_value_goes k p d (b ∷ rest) n =
    let begun : begins_number (b ∷ []) ≡ true = (begins_test (b ∷ [])).1 (rest, n) in
    let one = begins_one b begun in
    let first : at_other (at k p) b ≡ Some (at k (InNumber (b ∷ []))) = no_literal (at k p) b one ∙ ap (λ (r : Bool). if r then Some (at k (InNumber (b ∷ []))) else None) begun in
    (at k (InNumber (b ∷ rest)), then_goes {a = b ∷ []} (due_other k p d b (other_sign b one) (at k (InNumber (b ∷ []))) first) (number_goes_on k (b ∷ []) rest n), number_settles k (b ∷ rest) n)

-- ---- values, items and members

-- the blanks after a value, and the byte after them
closes : (e : State) (v : Json) (k : List Frame) → Settles e v k → (after : List ℕ) → AreBlanks after → (c : ℕ) → Delimits c → (s : State) → step (with_value v k) c ≡ Some s → Go e (after ++ c ∷ []) s
closes e v k t [] a c d s h = byte_goes c (t.delimited c d ∙ h)
closes e v k t (b ∷ after) a c d s h =
    then_goes {a = b ∷ []} (byte_goes {e = with_value v k} b (t.delimited b (inl a.0) ∙ ap (after_value (with_value v k)) (blank_sign b a.0)))
    (then_goes {a = after} (blanks_go (with_value v k) (λ b. refl) after a.1) (byte_goes c h))

-- after the values of a list and the members of an object that is open
abbrev pub after_items : List Json → List Frame → State
after_items vs k = record { stack = InList vs ∷ k; root = None; phase = AfterValue }

abbrev pub after_members : List Member → List Frame → State
after_members ms k = record { stack = InObject ms [] ∷ k; root = None; phase = AfterValue }

mutual
  value_goes : {n : ℕ} {t : List ℕ} {v : Json} → SpellsValue n t v → (k : List Frame) → length k ≡ n → (p : Phase) → IsDue p → ValueGoes k p t v
  value_goes {n} {t} {v} (null te ve) k same p d = literal_goes k p d t v (inl (te, ve))
  value_goes {n} {t} {v} (truth is te ve) k same p d = literal_goes k p d t v (inr (is, te, ve))
  value_goes {n} {t} {v} (number s ve) k same p d = subst (ValueGoes k p t) (sym ve) (number_value_goes k p d t s)
  value_goes {n} {t} {v} (word w s ve) k same p d = subst (ValueGoes k p t) (sym ve) (done_goes k p t (Word w) (spelled_word_goes k p d t w s))
  value_goes {n} {t} {v} (empty_list blanks less a te ve) k same p d = subst (ValueGoes k p t) (sym ve) (done_goes k p t (trees.List []) (along te
      (then_goes {a = (91 ∷ []) ++ blanks} (then_goes {a = 91 ∷ []} (due_open k p (omega arith) d) (due_blanks (InList [] ∷ k) FirstValueDue (inr refl) blanks a)) (byte_goes {step = step} {s = at (InList [] ∷ k) FirstValueDue} 93 refl))))
  value_goes {n} {t} {v} (list inner items less s te ve) k same p d = subst (ValueGoes k p t) (sym ve) (done_goes k p t (trees.List items) (along te
      (then_goes {a = 91 ∷ []} (due_open k p (omega arith) d) (items_go s k (ap suc same) 93 (inr (inr (inl refl))) (with_value (trees.List items) k) refl))))
  value_goes {n} {t} {v} (empty_object blanks less a te ve) k same p d = subst (ValueGoes k p t) (sym ve) (done_goes k p t (trees.Object []) (along te
      (then_goes {a = (123 ∷ []) ++ blanks} (then_goes {a = 123 ∷ []} (due_brace k p (omega arith) d) (key_blanks (InObject [] [] ∷ k) FirstKeyDue (inr refl) blanks a)) (byte_goes {step = step} {s = at (InObject [] [] ∷ k) FirstKeyDue} 125 refl))))
  value_goes {n} {t} {v} (object inner members less s te ve) k same p d = subst (ValueGoes k p t) (sym ve) (done_goes k p t (trees.Object members) (along te
      (then_goes {a = 123 ∷ []} (due_brace k p (omega arith) d) (members_go s k (ap suc same) 125 (inr (inr (inr refl))) (with_value (trees.Object members) k) refl))))

  item_goes : {n : ℕ} {t : List ℕ} {v : Json} → SpellsItem n t v → (k : List Frame) → length k ≡ n → (p : Phase) → IsDue p → (c : ℕ) → Delimits c → (s : State) → step (with_value v k) c ≡ Some s → Go (at k p) (t ++ c ∷ []) s
  item_goes {n} {t} {v} (item before value after ib sv ia te) k same p d c dc s h =
      let goes = value_goes sv k same p d in
      along (ap (λ x. x ++ c ∷ []) te ∙ append_assoc (before ++ value) after (c ∷ []))
      (then_goes {a = before ++ value} (then_goes (due_blanks k p d before ib) goes.1) (closes goes.0 v k goes.2 after ia c dc s h))

  pub items_go : {n : ℕ} {t : List ℕ} {vs : List Json} → SpellsItems n t vs → (k : List Frame) → suc (length k) ≡ n → (c : ℕ) → Delimits c → (s : State) → step (after_items vs k) c ≡ Some s → Go (at (InList [] ∷ k) FirstValueDue) (t ++ c ∷ []) s
  items_go (first_item v i ve) k same c dc s h = item_goes i (InList [] ∷ k) same FirstValueDue (inr refl) c dc s (ap (λ x. step (after_items x k) c) (sym ve) ∙ h)
  items_go (next_item front last vs v f l te ve) k same c dc s h =
      along (ap (λ x. x ++ c ∷ []) te ∙ append_assoc (front ++ 44 ∷ []) last (c ∷ []))
      (then_goes {a = front ++ 44 ∷ []} (items_go f k same 44 (inr (inl refl)) (at (InList vs ∷ k) ValueDue) refl)
      (item_goes l (InList vs ∷ k) same ValueDue (inl refl) c dc s (ap (λ x. step (after_items x k) c) (sym ve) ∙ h)))

  member_goes : {n : ℕ} {t : List ℕ} {m : Member} → SpellsMember n t m → (k : List Frame) → suc (length k) ≡ n → (p : Phase) → IsKeyDue p → (ms : List Member) (x : List ℕ) → ¬ HasKey ms m.key
      → (c : ℕ) → Delimits c → (s : State) → step (after_members (ms ++ m ∷ []) k) c ≡ Some s → Go (at (InObject ms x ∷ k) p) (t ++ c ∷ []) s
  member_goes {n} {t} {m} (member before key between value ib sk ia si te) k same p d ms x new c dc s h =
      along (ap (λ y. y ++ c ∷ []) te ∙ append_assoc (before ++ key ++ between ++ 58 ∷ []) value (c ∷ []))
      (then_goes {a = before ++ key ++ between ++ 58 ∷ []}
      (then_goes {a = before ++ key ++ between} (then_goes {a = before ++ key} (then_goes {a = before} (key_blanks (InObject ms x ∷ k) p d before ib) (spelled_key_goes k p d ms x key m.key sk new))
      (blanks_go (at (InObject ms m.key ∷ k) ColonDue) (λ b. refl) between ia)) (byte_goes {step = step} {s = at (InObject ms m.key ∷ k) ColonDue} 58 refl))
      (item_goes si (InObject ms m.key ∷ k) same ValueDue (inl refl) c dc s h))

  pub members_go : {n : ℕ} {t : List ℕ} {ms : List Member} → SpellsMembers n t ms → (k : List Frame) → suc (length k) ≡ n → (c : ℕ) → Delimits c → (s : State) → step (after_members ms k) c ≡ Some s → Go (at (InObject [] [] ∷ k) FirstKeyDue) (t ++ c ∷ []) s
  members_go (first_member m i me) k same c dc s h = member_goes i k same FirstKeyDue (inr refl) [] [] (λ has. omega (arith, has.1)) c dc s (ap (λ x. step (after_members x k) c) (sym me) ∙ h)
  members_go (next_member front last ms m f l new te me) k same c dc s h =
      along (ap (λ x. x ++ c ∷ []) te ∙ append_assoc (front ++ 44 ∷ []) last (c ∷ []))
      (then_goes {a = front ++ 44 ∷ []} (members_go f k same 44 (inr (inl refl)) (at (InObject ms [] ∷ k) KeyDue) refl)
      (member_goes l k same KeyDue (inl refl) ms [] new c dc s (ap (λ x. step (after_members x k) c) (sym me) ∙ h)))

-- the blanks after the value of the text, and its end
ends : (e : State) (v : Json) → Settles e v [] → (after : List ℕ) → AreBlanks after → option_and_then finish (steps step e after) ≡ Some v
ends e v t [] a = t.ended
ends e v t (b ∷ after) a =
    let rest = then_goes {s = e} {a = b ∷ []} (byte_goes {e = with_value v []} b (t.delimited b (inl a.0) ∙ ap (after_value (with_value v [])) (blank_sign b a.0))) (blanks_go (with_value v []) (λ b. refl) after a.1) in
    ap (option_and_then finish) rest.runs

pub answers : (t : List ℕ) (v : Json) → Spells t v → answer step finish start t ≡ Some v
answers t v (item before value after ib sv ia te) =
    let goes = value_goes sv [] refl ValueDue (inl refl) in
    let front = then_goes (due_blanks [] ValueDue (inl refl) before ib) goes.1 in
    ap (answer step finish start) te ∙ ap (option_and_then finish) (steps-append step start (before ++ value) after ∙ ap (option_and_then (λ u. steps step u after)) front.runs) ∙ ends goes.0 v goes.2 after ia
