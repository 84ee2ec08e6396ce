-- after a text where a value or a key is due, the machine expects one, inside of what is open
use Rattle.std.proofs.Common.{ℕ, suc, ◌≤◌, List, [], ◌∷◌, ◌++◌, length, refl, sym, subst, arith, inl, inr, encode_utf8_all}
use Rattle.json_tree.specs.Word.{SpellsCharacters}
use Rattle.json_tree.specs.declared.tree.Json.{Json}
use Rattle.json_tree.specs.declared.tree.Member.{Member}
use Rattle.json_machine.specs.Machine.{Frame, InList, InObject, Phase, ValueDue, FirstValueDue, KeyDue, FirstKeyDue, ColonDue, InKey, start, step}
use Rattle.json_machine.specs.Due.{ItemsWithCommas, MembersWithCommas, MemberIsDueInside, ValueIsDue, KeyIsDue}
use Rattle.first_fault.proofs.Goes.{then_goes, byte_goes, none_goes, along}
use Rattle.json_machine.proofs.Runs.{at, Go, IsDue, IsKeyDue, blanks_go, due_blanks, key_blanks, due_open, due_brace, key_quote, key_goes_on, spelled_key_goes, items_go, members_go}
use Rattle.json_machine.proofs.Words.{at_rest}

-- no more than 64 are open
pub due_depth : (k : List Frame) (t : List ℕ) → ValueIsDue k t → length k ≤ 64
due_depth [] t d = omega arith
due_depth (InList vs ∷ k) t d = let less = d.4 in omega arith
due_depth (InObject ms x ∷ k) t d = let less = d.4 in omega arith

heads_go : (k : List Frame) (heads : List ℕ) (vs : List Json) → ItemsWithCommas (suc (length k)) heads vs → (p : Phase) × IsDue p × Go (at (InList [] ∷ k) FirstValueDue) heads (at (InList vs ∷ k) p)
heads_go k heads vs (inl none) = (FirstValueDue, inr refl, along none.0 (subst (λ x. Go (at (InList [] ∷ k) FirstValueDue) [] (at (InList x ∷ k) FirstValueDue)) (sym none.1) none_goes))
heads_go k heads vs (inr some) = (ValueDue, inl refl, along some.1 (items_go some.2 k refl 44 (inr (inl refl)) (at (InList vs ∷ k) ValueDue) refl))

key_heads_go : (k : List Frame) (heads : List ℕ) (ms : List Member) → MembersWithCommas (suc (length k)) heads ms → (p : Phase) × IsKeyDue p × Go (at (InObject [] [] ∷ k) FirstKeyDue) heads (at (InObject ms [] ∷ k) p)
key_heads_go k heads ms (inl none) = (FirstKeyDue, inr refl, along none.0 (subst (λ x. Go (at (InObject [] [] ∷ k) FirstKeyDue) [] (at (InObject x [] ∷ k) FirstKeyDue)) (sym none.1) none_goes))
key_heads_go k heads ms (inr some) = (KeyDue, inl refl, along some.1 (members_go some.2 k refl 44 (inr (inl refl)) (at (InObject ms [] ∷ k) KeyDue) refl))

member_due_goes : (k : List Frame) (t : List ℕ) (ms : List Member) → MemberIsDueInside (suc (length k)) ms t → (p : Phase) × IsKeyDue p × Go (at (InObject [] [] ∷ k) FirstKeyDue) t (at (InObject ms [] ∷ k) p)
member_due_goes k t ms d =
    let heads = key_heads_go k d.0 ms d.3 in
    (heads.0, heads.1, along d.2 (then_goes heads.2 (key_blanks (InObject ms [] ∷ k) heads.0 heads.1 d.1 d.4)))

pub due_goes : (k : List Frame) (t : List ℕ) → ValueIsDue k t → (p : Phase) × IsDue p × Go start t (at k p)
due_goes [] t d = (ValueDue, inl refl, due_blanks [] ValueDue (inl refl) t d)
due_goes (InList vs ∷ k) t d =
    let outer = due_goes k d.0 d.3 in
    let heads = heads_go k d.5.0 vs d.5.3 in
    let inside = along d.5.2 (then_goes heads.2 (due_blanks (InList vs ∷ k) heads.0 heads.1 d.5.1 d.5.4)) in
    (heads.0, heads.1, along d.2 (then_goes (then_goes outer.2 (due_open k outer.0 d.4 outer.1)) inside))
due_goes (InObject ms x ∷ k) t d =
    let outer = due_goes k d.0 d.3 in
    let m = d.5 in
    let front = member_due_goes k m.0 ms m.4 in
    let key = then_goes front.2 (spelled_key_goes k front.0 front.1 ms [] m.1 x m.5.0 m.5.1) in
    let byte = byte_goes {step = step} {s = at (InObject ms x ∷ k) ColonDue} {e = at (InObject ms x ∷ k) ValueDue} 58 refl in
    let colon = along m.6.2 (then_goes (then_goes (blanks_go (at (InObject ms x ∷ k) ColonDue) (λ b. refl) m.6.0 m.6.3) byte) (due_blanks (InObject ms x ∷ k) ValueDue (inl refl) m.6.1 m.6.4)) in
    (ValueDue, inl refl, along d.2 (then_goes (then_goes outer.2 (due_brace k outer.0 d.4 outer.1)) (along m.3 (then_goes key colon))))

pub key_due_goes : (ms : List Member) (k : List Frame) (t : List ℕ) → KeyIsDue ms k t → (p : Phase) × IsKeyDue p × Go start t (at (InObject ms [] ∷ k) p)
key_due_goes ms k t d =
    let outer = due_goes k d.0 d.3 in
    let inside = member_due_goes k d.1 ms d.5 in
    (inside.0, inside.1, along d.2 (then_goes (then_goes outer.2 (due_brace k outer.0 d.4 outer.1)) inside.2))

-- a key before its closing quote
pub key_text_goes : (ms : List Member) (k : List Frame) (before inner cs : List ℕ) → KeyIsDue ms k before → SpellsCharacters inner cs → Go start (before ++ (34 ∷ []) ++ inner) (at (InObject ms [] ∷ k) (InKey (at_rest (encode_utf8_all cs))))
key_text_goes ms k before inner cs d s =
    let due = key_due_goes ms k before d in
    then_goes (then_goes due.2 (key_quote (InObject ms [] ∷ k) due.0 due.1)) (key_goes_on (InObject ms [] ∷ k) inner cs s)
