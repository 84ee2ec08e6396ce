-- each CP text leads the reader to its lines, so the reader decides which texts are CP text
use Rattle.std.proofs.Common.{◌≡◌, ℕ, ◌+◌, ◌-◌, ◌<◌, ◌≤◌, List, [], ◌∷◌, ◌++◌, length, refl, sym, ◌∙◌, ap, subst, append_assoc, arith, inl, inr, Option, Some, None, Bool, length-append, true}
use Rattle.std.specs.Prelude.{option_to_list, option_map, option_and_then, nat_lt, if◌then◌else◌}
use Rattle.std.specs.List.{AllByRecursion}
use Rattle.std.proofs.lemmas.List.{append-nil}
use borrow.Author.Tests.{lt-ltb}
use Rattle.first_fault.specs.Machine.{steps, answer, Decides}
use Rattle.first_fault.proofs.Machines.{leads, steps_join, steps_one, steps_cons}
use Rattle.json_tree.specs.Number.{IsNumber}
use Rattle.json_tree.specs.Scan.{begins_number, is_number}
use Rattle.json_tree.proofs.NumberBytes.{number_bytes, empty_number}
use Rattle.json_tree.proofs.Numbers.{number_test, begins_test}
use Rattle.cp_lines.specs.CpText.{IsBlank, AreBlanks, IsGap, SpacedNumbers, KindAndNumbers, SpellsLine, IsLineEnd, EndedLines, none, one_more, CpText}
use Rattle.cp_lines.specs.Machine.{closed, with_line, ended, at_line_feed, at_number_byte, by_class, step, finish, start}
use Rattle.cp_lines.proofs.Classes.{blank_class, other_class, kind_digit}
use Rattle.cp_lines.proofs.Leads.{Leads, leads_step, leads_start, spelled, alive_at}
use Rattle.cp_lines.specs.declared.line.CpLine.{CpLine}
use Rattle.cp_lines.specs.declared.reader.Reader.{Reader}
use Rattle.cp_lines.specs.declared.reader.Phase.{Phase}
use Rattle.cp_lines.specs.declared.reader.Phase.TheVariants.{Fresh, Kind, Gap, Number, Returned}

abbrev at : Phase → List CpLine → ℕ → List (List ℕ) → List ℕ → Reader
at p ls k ns n = record { lines = ls; kind = k; numbers = ns; number = n; phase = p }

fresh_runs : (ls : List CpLine) (k : ℕ) (g : List ℕ) → AreBlanks g → steps step (at Fresh ls k [] []) g ≡ Some (at Fresh ls k [] [])
fresh_runs ls k [] a = refl
fresh_runs ls k (b ∷ g) a = steps_cons step (at Fresh ls k [] []) (at Fresh ls k [] []) (at Fresh ls k [] []) b g (ap (by_class (at Fresh ls k [] []) b) (blank_class b a.0)) (fresh_runs ls k g a.1)

module _ (ls : List CpLine) (k : ℕ) where
  -- a state after these numbers, without a gap after them
  abbrev After : Reader → List (List ℕ) → Type 0
  After s ns = ((b : ℕ) → IsBlank b → step s b ≡ Some (at Gap ls k ns [])) × (ended s s.phase ≡ with_line (at Gap ls k ns []))

  gap_stays : (ns : List (List ℕ)) (g : List ℕ) → AreBlanks g → steps step (at Gap ls k ns []) g ≡ Some (at Gap ls k ns [])
  gap_stays ns [] a = refl
  gap_stays ns (b ∷ g) a = steps_cons step (at Gap ls k ns []) (at Gap ls k ns []) (at Gap ls k ns []) b g (ap (by_class (at Gap ls k ns []) b) (blank_class b a.0)) (gap_stays ns g a.1)

  gap_runs : (s : Reader) (ns : List (List ℕ)) (g : List ℕ) → After s ns → IsGap g → steps step s g ≡ Some (at Gap ls k ns [])
  gap_runs s ns [] f a = absurd a
  gap_runs s ns (b ∷ g) f a = steps_cons step s (at Gap ls k ns []) (at Gap ls k ns []) b g (f.0 b a.0) (gap_stays ns g a.1)

  -- a byte of a number that is taken
  byte_goes : (p : Phase) (ns : List (List ℕ)) (w : List ℕ) (b : ℕ) (rest : List ℕ) → IsNumber (w ++ b ∷ rest) → at_number_byte (at p ls k ns w) b ≡ Some (at Number ls k ns (w ++ b ∷ []))
  byte_goes p ns w b rest n =
      let begun : begins_number (w ++ b ∷ []) ≡ true = (begins_test (w ++ b ∷ [])).1 (rest, subst IsNumber (sym (append_assoc w (b ∷ []) rest)) n) in
      ap (λ (r : Bool). if r then Some (at Number ls k ns (w ++ b ∷ [])) else None) begun

  rest_bytes : (w rest : List ℕ) → AllByRecursion (λ b. 32 < b) (w ++ rest) → AllByRecursion (λ b. 32 < b) rest
  rest_bytes [] rest a = a
  rest_bytes (x ∷ w) rest a = rest_bytes w rest a.1

  number_goes_on : (ns : List (List ℕ)) (w rest : List ℕ) → IsNumber (w ++ rest) → steps step (at Number ls k ns w) rest ≡ Some (at Number ls k ns (w ++ rest))
  number_goes_on ns w [] n = ap (λ x. Some (at Number ls k ns x)) (sym (append-nil w))
  number_goes_on ns w (b ∷ rest) n =
      let other = other_class b (rest_bytes w (b ∷ rest) (number_bytes (w ++ b ∷ rest) n)).0 in
      steps_cons step (at Number ls k ns w) (at Number ls k ns (w ++ b ∷ [])) (at Number ls k ns (w ++ b ∷ rest)) b rest
      (ap (by_class (at Number ls k ns w) b) other ∙ byte_goes Number ns w b rest n)
      (number_goes_on ns (w ++ b ∷ []) rest (subst IsNumber (sym (append_assoc w (b ∷ []) rest)) n) ∙ ap (λ x. Some (at Number ls k ns x)) (append_assoc w (b ∷ []) rest))

  closed_goes : (ns : List (List ℕ)) (w : List ℕ) → IsNumber w → closed (at Number ls k ns w) ≡ Some (at Gap ls k (ns ++ w ∷ []) [])
  closed_goes ns w n =
      let whole : is_number w ≡ true = (number_test w).1 n in
      ap (λ (r : Bool). if r then Some (at Gap ls k (ns ++ w ∷ []) []) else None) whole

  after_number : (ns : List (List ℕ)) (w : List ℕ) → IsNumber w → After (at Number ls k ns w) (ns ++ w ∷ [])
  after_number ns w n = ((λ b i. ap (by_class (at Number ls k ns w) b) (blank_class b i) ∙ closed_goes ns w n), ap (option_and_then with_line) (closed_goes ns w n))

  number_runs : (ns : List (List ℕ)) (n : List ℕ) → length ns < 4 → IsNumber n → steps step (at Gap ls k ns []) n ≡ Some (at Number ls k ns n)
  number_runs ns [] lt i = absurd (empty_number i)
  number_runs ns (b ∷ rest) lt i =
      let other = other_class b (number_bytes (b ∷ rest) i).0 in
      let room : (if nat_lt (length ns) 4 then at_number_byte (at Gap ls k ns []) b else None) ≡ at_number_byte (at Gap ls k ns []) b =
      ap (λ (r : Bool). if r then at_number_byte (at Gap ls k ns []) b else None) (lt-ltb (length ns) 4 lt) in
      steps_cons step (at Gap ls k ns []) (at Number ls k ns (b ∷ [])) (at Number ls k ns (b ∷ rest)) b rest
      (ap (by_class (at Gap ls k ns []) b) other ∙ room ∙ byte_goes Gap ns [] b rest i) (number_goes_on ns (b ∷ []) rest i)

  numbers_run : (ns done : List (List ℕ)) (s : Reader) (t : List ℕ) → After s done → length done + length ns ≤ 4 → SpacedNumbers ns t → (e : Reader) × (steps step s t ≡ Some e) × After e (done ++ ns)
  numbers_run [] done s t f n i = (s, ap (steps step s) i, subst (After s) (sym (append-nil done)) f)
  numbers_run (m ∷ ns) done s t f n i =
      let first = at Number ls k done m in
      let rest = numbers_run ns (done ++ m ∷ []) first i.1 (after_number done m i.4) (simp length-append (omega arith)) i.5 in (
        rest.0,
        ap (steps step s) i.2
            ∙ steps_join step s first rest.0 (i.0 ++ m) i.1 (steps_join step s (at Gap ls k done []) first i.0 m (gap_runs s done i.0 f i.3) (number_runs done m (omega arith) i.4)) rest.1,
        subst (After rest.0) (append_assoc done (m ∷ []) ns) rest.2,
      )

front_runs : (ls : List CpLine) (k old : ℕ) (ns : List (List ℕ)) (t : List ℕ) → length ns ≤ 4 → KindAndNumbers k ns t → (e : Reader) × (steps step (at Fresh ls old [] []) t ≡ Some e) × After ls k e ns
front_runs ls k old ns t n f =
    let fresh : Reader = at Fresh ls old [] [] in
    let same : (k + 48) - 48 ≡ k = omega arith in
    let kind : step fresh (k + 48) ≡ Some (at Kind ls k [] []) =
    ap (by_class fresh (k + 48)) (other_class (k + 48) (omega arith))
    ∙ ap (λ (r : Bool). if r then Some (at Kind ls ((k + 48) - 48) [] []) else None) (kind_digit k f.4)
    ∙ ap (λ x. Some (at Kind ls x [] [])) same in
    let after : After ls k (at Kind ls k [] []) [] = ((λ b i. ap (by_class (at Kind ls k [] []) b) (blank_class b i)), refl) in
    let rest = numbers_run ls k ns [] (at Kind ls k [] []) f.1 after (omega arith) f.5 in (
      rest.0,
      ap (steps step fresh) f.2 ∙ steps_join step fresh fresh rest.0 f.0 ((k + 48) ∷ f.1) (fresh_runs ls old f.0 f.3)
          (steps_cons step fresh (at Kind ls k [] []) rest.0 (k + 48) f.1 kind rest.1),
      rest.2,
    )

-- blanks at the end change nothing
tail_runs : (s : Reader) (ls : List CpLine) (k : ℕ) (ns : List (List ℕ)) (t : List ℕ) → After ls k s ns → AreBlanks t → (e : Reader) × (steps step s t ≡ Some e) × (ended e e.phase ≡ with_line (at Gap ls k ns []))
tail_runs s ls k ns [] f a = (s, refl, f.1)
tail_runs s ls k ns (b ∷ t) f a = (at Gap ls k ns [], gap_runs ls k s ns (b ∷ t) f a, refl)

line_runs : (ls : List CpLine) (old : ℕ) (t : List ℕ) (l : Option CpLine) → SpellsLine t l →
    (e : Reader) × (k : ℕ) × (steps step (at Fresh ls old [] []) t ≡ Some e) × (ended e e.phase ≡ Some (at Fresh (ls ++ option_to_list l) k [] []))
line_runs ls old t None a = (at Fresh ls old [] [], old, fresh_runs ls old t a, ap (λ x. Some (at Fresh x old [] [])) (sym (append-nil ls)))
line_runs ls old t (Some v) a =
    let ns = v.x1 ∷ v.y1 ∷ v.x2 ∷ v.y2 ∷ [] in
    let front = front_runs ls v.kind old ns a.0 (omega arith) a.3 in
    let tail = tail_runs front.0 ls v.kind ns a.1 front.2 a.4 in
    (tail.0, v.kind, ap (steps step (at Fresh ls old [] [])) a.2 ∙ steps_join step (at Fresh ls old [] []) front.0 tail.0 a.0 a.1 front.1 tail.1, tail.2)

feeds : (s next : Reader) (p : Phase) → ended s p ≡ Some next → at_line_feed s p ≡ Some next
feeds s next Fresh e = e
feeds s next Kind e = e
feeds s next Gap e = e
feeds s next Number e = e
feeds s next Returned e = cc

end_runs : (s : Reader) (ls : List CpLine) (k : ℕ) (t : List ℕ) → ended s s.phase ≡ Some (at Fresh ls k [] []) → IsLineEnd t → steps step s t ≡ Some (at Fresh ls k [] [])
end_runs s ls k t e (inl i) = ap (steps step s) i ∙ steps_one step s (at Fresh ls k [] []) 10 (feeds s (at Fresh ls k [] []) s.phase e)
end_runs s ls k t e (inr i) = ap (steps step s) i ∙ steps_cons step s (at Returned ls k [] []) (at Fresh ls k [] []) 13 (10 ∷ [])
    (ap (option_map {T = Reader} {U = Reader} (λ r. record r { phase = Returned })) e) refl

ended_runs : (t : List ℕ) (ls : List CpLine) → EndedLines t ls → (k : ℕ) × (steps step start t ≡ Some (at Fresh ls k [] []))
ended_runs _ _ none = (0, refl)
ended_runs t all (one_more before l end lines v en sp ie te ae) =
    let h = ended_runs before lines en in
    let r = line_runs lines h.0 l v sp in (
      r.1,
      ap (steps step start) te ∙ steps_join step start r.0 (at Fresh all r.1 [] []) (before ++ l) end
          (steps_join step start (at Fresh lines h.0 [] []) r.0 before l h.1 r.2)
          (end_runs r.0 all r.1 end (r.3 ∙ ap (λ x. Some (at Fresh x r.1 [] [])) (sym ae)) ie),
    )

answers : (t : List ℕ) (v : List CpLine) → CpText t v → answer step finish start t ≡ Some v
answers t v a =
    let h = ended_runs a.0 a.2 a.4 in
    let r = line_runs a.2 h.0 a.1 a.3 a.5 in
    ap (answer step finish start) a.6 ∙ ap (option_and_then finish) (steps_join step start (at Fresh a.2 h.0 [] []) r.0 a.0 a.1 h.1 r.2)
    ∙ ap (option_map {T = Reader} (λ r. r.lines)) r.3 ∙ ap (λ x. Some x) (sym a.7)

pub decides : Decides CpText step finish start
decides = record {
  sound = λ t s v e f. spelled t s v (leads step Leads leads_step start leads_start t s e) f;
  alive = λ t s e. alive_at s.phase t s refl (leads step Leads leads_step start leads_start t s e);
  complete = answers;
}
