-- the texts that lead the reader to a state: what it answers is spelled, and each of them begins a
-- CP text
use Rattle.std.proofs.Common.{◌≡◌, ℕ, zero, suc, ◌+◌, ◌-◌, ◌<◌, ◌≤◌, List, [], ◌∷◌, ◌++◌, length, refl, sym, ◌∙◌, ap, subst, append_assoc, arith, inl, inr, Some, None, true, false, length-append}
use Rattle.std.specs.Prelude.{option_map, option_and_then, nat_lt, if◌then◌else◌}
use Rattle.std.specs.Int.{is_in_range}
use Rattle.std.proofs.lemmas.List.{append-nil}
use borrow.Author.Tests.{ltb-true}
use Rattle.std.proofs.lemmas.Bool.{cases_lt}
use Rattle.first_fault.specs.FirstFault.{Begins}
use Rattle.first_fault.proofs.Faults.{begins_front}
use Rattle.json_tree.specs.Number.{IsNumber, BeginsNumber}
use Rattle.json_tree.specs.Scan.{begins_number, is_number}
use Rattle.json_tree.proofs.Numbers.{number_test, begins_test}
use Rattle.cp_lines.proofs.Classes.{class_blank, class_feed, class_return, digit_kind}
use Rattle.cp_lines.specs.CpText.{IsBlank, AreBlanks, IsGap, SpacedNumbers, KindAndNumbers, SpellsLine, IsLineEnd, EndedLines, none, one_more, CpText}
use Rattle.cp_lines.specs.Machine.{class_of, start, line_of, closed, with_line, ended, at_blank, at_line_feed, at_return, at_number_byte, at_other, by_class, step, finish}
use Rattle.cp_lines.specs.declared.line.CpLine.{CpLine}
use Rattle.cp_lines.specs.declared.reader.ByteClass.{ByteClass}
use Rattle.cp_lines.specs.declared.reader.ByteClass.TheVariants as classes
use Rattle.cp_lines.specs.declared.reader.Reader.{Reader}
use Rattle.cp_lines.specs.declared.reader.Phase.{Phase}
use Rattle.cp_lines.specs.declared.reader.Phase.TheVariants.{Fresh, Kind, Gap, Number, Returned}

-- a kind and numbers, and then a gap
abbrev Gapped : ℕ → List (List ℕ) → List ℕ → Type 0
Gapped kind ns l = (front gap : List ℕ) × (l ≡ front ++ gap) × KindAndNumbers kind ns front × IsGap gap

abbrev InNumber : Reader → List ℕ → Type 0
InNumber s l = (before : List ℕ) × (l ≡ before ++ s.number) × Gapped s.kind s.numbers before × (length s.numbers < 4)

-- the bytes of a line that lead to this state
abbrev Part : Phase → Reader → List ℕ → Type 0
Part Fresh s l = AreBlanks l × (s.numbers ≡ []) × (s.number ≡ [])
Part Kind s l = KindAndNumbers s.kind [] l × (s.numbers ≡ []) × (s.number ≡ [])
Part Gap s l = Gapped s.kind s.numbers l × (length s.numbers ≤ 4) × (s.number ≡ [])
Part Number s l = InNumber s l × BeginsNumber s.number
Part Returned s l = ⊥

-- lines with their ends, and such bytes of the next
abbrev Open : Phase → List ℕ → Reader → Type 0
Open p t s = (before l : List ℕ) × (t ≡ before ++ l) × EndedLines before s.lines × Part p s l

abbrev LeadsAt : Phase → List ℕ → Reader → Type 0
LeadsAt Returned t s = (u : List ℕ) × (t ≡ u ++ 13 ∷ []) × CpText u s.lines × (s.numbers ≡ []) × (s.number ≡ [])
LeadsAt Fresh t s = Open Fresh t s
LeadsAt Kind t s = Open Kind t s
LeadsAt Gap t s = Open Gap t s
LeadsAt Number t s = Open Number t s

-- the texts that lead to a state
abbrev pub Leads : List ℕ → Reader → Type 0
Leads t s = LeadsAt s.phase t s

became : (t : List ℕ) (x next : Reader) → Some x ≡ Some next → Leads t x → Leads t next
became t x next e l = let same : x ≡ next = cc in subst (Leads t) same l

at_phase : (t : List ℕ) (s : Reader) (p : Phase) → s.phase ≡ p → LeadsAt p t s → Leads t s
at_phase t s p e l = subst (λ q. LeadsAt q t s) (sym e) l

-- one byte more of the line
longer : (t before l : List ℕ) (b : ℕ) → t ≡ before ++ l → t ++ b ∷ [] ≡ before ++ (l ++ b ∷ [])
longer t before l b e = ap (λ x. x ++ b ∷ []) e ∙ append_assoc before l (b ∷ [])

blanks_snoc : (t : List ℕ) (b : ℕ) → AreBlanks t → IsBlank b → AreBlanks (t ++ b ∷ [])
blanks_snoc [] b a p = (p, tt)
blanks_snoc (x ∷ t) b a p = (a.0, blanks_snoc t b a.1 p)

gap_snoc : (t : List ℕ) (b : ℕ) → IsGap t → IsBlank b → IsGap (t ++ b ∷ [])
gap_snoc [] b g p = absurd g
gap_snoc (x ∷ t) b g p = (g.0, blanks_snoc t b g.1 p)

gap_blanks : (g : List ℕ) → IsGap g → AreBlanks g
gap_blanks [] g = tt
gap_blanks (b ∷ t) g = g

numbers_snoc : (ns : List (List ℕ)) (h g n : List ℕ) → SpacedNumbers ns h → IsGap g → IsNumber n → SpacedNumbers (ns ++ n ∷ []) (h ++ g ++ n)
numbers_snoc [] h g n e p q = (g, [], rw e (sym (append-nil (g ++ n))), p, q, refl)
numbers_snoc (m ∷ ns) h g n a p q = (a.0, a.1 ++ g ++ n, rw a.2 (simp append_assoc), a.3, a.4, numbers_snoc ns a.1 g n a.5 p q)

front_snoc : (k : ℕ) (ns : List (List ℕ)) (h g n : List ℕ) → KindAndNumbers k ns h → IsGap g → IsNumber n → KindAndNumbers k (ns ++ n ∷ []) (h ++ g ++ n)
front_snoc k ns h g n f p q = (f.0, f.1 ++ g ++ n, rw f.2 (simp append_assoc), f.3, f.4, numbers_snoc ns f.1 g n f.5 p q)

-- the line goes on to end the number in hand
closed_front : (s : Reader) (l more : List ℕ) → InNumber s l → IsNumber (s.number ++ more) → KindAndNumbers s.kind (s.numbers ++ (s.number ++ more) ∷ []) (l ++ more)
closed_front s l more i n =
    let e : l ++ more ≡ i.2.0 ++ i.2.1 ++ (s.number ++ more) = rw (i.1, i.2.2) (simp append_assoc) in
    subst (KindAndNumbers s.kind (s.numbers ++ (s.number ++ more) ∷ [])) (sym e) (front_snoc s.kind s.numbers i.2.0 i.2.1 (s.number ++ more) i.2.3 i.2.4 n)

whole_front : (s : Reader) (l : List ℕ) → InNumber s l → IsNumber s.number → KindAndNumbers s.kind (s.numbers ++ s.number ∷ []) l
whole_front s l i n =
    let e : l ≡ i.2.0 ++ i.2.1 ++ s.number = i.1 ∙ ap (λ x. x ++ s.number) i.2.2 in
    subst (KindAndNumbers s.kind (s.numbers ++ s.number ∷ [])) (sym e) (front_snoc s.kind s.numbers i.2.0 i.2.1 s.number i.2.3 i.2.4 n)

line_spelled : (k : ℕ) (ns : List (List ℕ)) (v : CpLine) (h e : List ℕ) → line_of k ns ≡ Some v → KindAndNumbers k ns h → AreBlanks e → SpellsLine (h ++ e) (Some v)
line_spelled k (a ∷ b ∷ c ∷ d ∷ []) v h e q f p =
    let made : CpLine = record { kind = k; x1 = a; y1 = b; x2 = c; y2 = d } in
    let same : made ≡ v = cc in
    subst (λ w. SpellsLine (h ++ e) (Some w)) same (h, e, refl, f, p)
line_spelled k [] v h e q f p = cc
line_spelled k (a ∷ []) v h e q f p = cc
line_spelled k (a ∷ b ∷ []) v h e q f p = cc
line_spelled k (a ∷ b ∷ c ∷ []) v h e q f p = cc
line_spelled k (a ∷ b ∷ c ∷ d ∷ x ∷ ns) v h e q f p = cc

-- a number in hand that is closed leaves a line after a number
abbrev Closes : List ℕ → Reader → Reader → Type 0
Closes l s next = KindAndNumbers next.kind next.numbers l × (length next.numbers ≤ 4) × (next.number ≡ []) × (next.phase ≡ Gap) × (next.lines ≡ s.lines)

closes : (s next : Reader) (l : List ℕ) → InNumber s l → closed s ≡ Some next → Closes l s next
closes s next l i e =
    let made : Reader = record s { numbers = s.numbers ++ s.number ∷ []; number = []; phase = Gap } in
    (elim (is_number s.number) as (λ r. is_number s.number ≡ r → (if r then Some made else None) ≡ Some next → Closes l s next) [
      | false ↦ λ q m. cc
      | true ↦ λ q m.
          let same : made ≡ next = cc in
          subst (Closes l s) same (whole_front s l i ((number_test s.number).0 q), simp length-append (omega arith), refl, refl, refl)
    ]) refl e

-- what an ended line leaves
abbrev Ends : List ℕ → Reader → Type 0
Ends t next = CpText t next.lines × (next.numbers ≡ []) × (next.number ≡ []) × (next.phase ≡ Fresh)

-- a whole line, put to the lines before it
put_line : (t before l h e : List ℕ) (s next : Reader) → t ≡ before ++ l → EndedLines before s.lines → l ≡ h ++ e → KindAndNumbers s.kind s.numbers h → AreBlanks e → (s.number ≡ []) → with_line s ≡ Some next → Ends t next
put_line t before l h e s next te en le f b empty w =
    (elim (line_of s.kind s.numbers) as (λ o. line_of s.kind s.numbers ≡ o → option_map (λ v. record s { lines = s.lines ++ v ∷ []; numbers = []; phase = Fresh }) o ≡ Some next → Ends t next) [
      | None ↦ λ q m. cc
      | Some v ↦ λ q m.
          let made : Reader = record s { lines = s.lines ++ v ∷ []; numbers = []; phase = Fresh } in
          let same : made ≡ next = cc in
          subst (Ends t) same ((before, l, s.lines, Some v, en, subst (λ x. SpellsLine x (Some v)) (sym le) (line_spelled s.kind s.numbers v h e q f b), te, refl), refl, empty, refl)
    ]) refl w

ended_line : (p : Phase) (t : List ℕ) (s next : Reader) → s.phase ≡ p → LeadsAt p t s → ended s p ≡ Some next → Ends t next
ended_line Fresh t s next sp l e =
    let same : s ≡ next = cc in
    subst (Ends t) same ((l.0, l.1, s.lines, None, l.3, l.4.0, l.2, sym (append-nil s.lines)), l.4.1, l.4.2, sp)
ended_line Gap t s next sp l e = put_line t l.0 l.1 l.4.0.0 l.4.0.1 s next l.2 l.3 l.4.0.2 l.4.0.3 (gap_blanks l.4.0.1 l.4.0.4) l.4.2 e
ended_line Number t s next sp l e =
    (elim (closed s) as (λ o. closed s ≡ o → option_and_then with_line o ≡ Some next → Ends t next) [
      | None ↦ λ q m. cc
      | Some r ↦ λ q m.
          let d = closes s r l.1 l.4.0 q in
          put_line t l.0 l.1 l.1 [] r next l.2 (subst (EndedLines l.0) (sym d.4) l.3) (sym (append-nil l.1)) d.0 tt d.2 m
    ]) refl e
ended_line Kind t s next sp l e = cc
ended_line Returned t s next sp l e = cc

-- the line's end after it
new_line : (u e : List ℕ) (next : Reader) → CpText u next.lines → IsLineEnd e → (next.numbers ≡ []) → (next.number ≡ []) → Open Fresh (u ++ e) next
new_line u e next c i d w = (u ++ e, [], sym (append-nil (u ++ e)), one_more c.0 c.1 e c.2 c.3 c.4 c.5 i (ap (λ x. x ++ e) c.6) c.7, (tt, d, w))

-- a blank after a kind or a number
one_blank : (kind : ℕ) (ns : List (List ℕ)) (l : List ℕ) (b : ℕ) → KindAndNumbers kind ns l → IsBlank b → Gapped kind ns (l ++ b ∷ [])
one_blank kind ns l b f p = (l, b ∷ [], refl, f, (p, tt))

leads_blank : (p : Phase) (t : List ℕ) (s next : Reader) (b : ℕ) → IsBlank b → s.phase ≡ p → LeadsAt p t s → at_blank s p ≡ Some next → Leads (t ++ b ∷ []) next
leads_blank Fresh t s next b ib sp l e = became _ s next e (at_phase _ s Fresh sp (l.0, l.1 ++ b ∷ [], longer t l.0 l.1 b l.2, l.3, (blanks_snoc l.1 b l.4.0 ib, l.4.1, l.4.2)))
leads_blank Kind t s next b ib sp l e = became _ (record s { phase = Gap }) next e (
  l.0,
  l.1 ++ b ∷ [],
  longer t l.0 l.1 b l.2,
  l.3,
  (subst (λ d. Gapped s.kind d (l.1 ++ b ∷ [])) (sym l.4.1) (one_blank s.kind [] l.1 b l.4.0 ib), rw l.4.1 (omega arith), l.4.2),
)
leads_blank Gap t s next b ib sp l e = became _ s next e (at_phase _ s Gap sp (
  l.0,
  l.1 ++ b ∷ [],
  longer t l.0 l.1 b l.2,
  l.3,
  ((l.4.0.0, l.4.0.1 ++ b ∷ [], longer l.1 l.4.0.0 l.4.0.1 b l.4.0.2, l.4.0.3, gap_snoc l.4.0.1 b l.4.0.4 ib), l.4.1, l.4.2),
))
leads_blank Number t s next b ib sp l e =
    let d = closes s next l.1 l.4.0 e in
    at_phase _ next Gap d.3 (l.0, l.1 ++ b ∷ [], longer t l.0 l.1 b l.2, subst (EndedLines l.0) (sym d.4) l.3, (one_blank next.kind next.numbers l.1 b d.0 ib, d.1, d.2))
leads_blank Returned t s next b ib sp l e = cc

feeds : (t : List ℕ) (s next : Reader) (p : Phase) → s.phase ≡ p → LeadsAt p t s → ended s p ≡ Some next → Leads (t ++ 10 ∷ []) next
feeds t s next p sp l e = let d = ended_line p t s next sp l e in at_phase _ next Fresh d.3 (new_line t (10 ∷ []) next d.0 (inl refl) d.1 d.2)

leads_line_feed : (p : Phase) (t : List ℕ) (s next : Reader) → s.phase ≡ p → LeadsAt p t s → at_line_feed s p ≡ Some next → Leads (t ++ 10 ∷ []) next
leads_line_feed Returned t s next sp l e = became _ (record s { phase = Fresh }) next e
    (subst (λ x. Open Fresh x (record s { phase = Fresh })) (rw l.1 (simp append_assoc)) (new_line l.0 (13 ∷ 10 ∷ []) (record s { phase = Fresh }) l.2 (inr refl) l.3 l.4))
leads_line_feed Fresh t s next sp l e = feeds t s next Fresh sp l e
leads_line_feed Kind t s next sp l e = cc
leads_line_feed Gap t s next sp l e = feeds t s next Gap sp l e
leads_line_feed Number t s next sp l e = feeds t s next Number sp l e

leads_return : (p : Phase) (t : List ℕ) (s next : Reader) → s.phase ≡ p → LeadsAt p t s → at_return s p ≡ Some next → Leads (t ++ 13 ∷ []) next
leads_return p t s next sp l e =
    (elim (ended s p) as (λ o. ended s p ≡ o → option_map {T = Reader} {U = Reader} (λ r. record r { phase = Returned }) o ≡ Some next → Leads (t ++ 13 ∷ []) next) [
      | None ↦ λ q m. cc
      | Some r ↦ λ q m.
          let d = ended_line p t s r sp l q in
          became _ (record r { phase = Returned }) next m (t, refl, d.0, d.1, d.2)
    ]) refl e

-- the number in hand goes on, or begins after a gap
number_on : (t before l h : List ℕ) (s next : Reader) (b : ℕ) → t ≡ before ++ l → EndedLines before s.lines → l ≡ h ++ s.number → Gapped s.kind s.numbers h → length s.numbers < 4 → at_number_byte s b ≡ Some next → Leads (t ++ b ∷ []) next
number_on t before l h s next b te en le g lt e =
    let made : Reader = record s { number = s.number ++ b ∷ []; phase = Number } in
    (elim (begins_number (s.number ++ b ∷ [])) as (λ r. begins_number (s.number ++ b ∷ []) ≡ r → (if r then Some made else None) ≡ Some next → Leads (t ++ b ∷ []) next) [
      | false ↦ λ q m. cc
      | true ↦ λ q m. became _ made next m (before, l ++ b ∷ [], longer t before l b te, en, ((h, longer l h s.number b le, g, lt), (begins_test (s.number ++ b ∷ [])).0 q))
    ]) refl e

leads_other : (p : Phase) (t : List ℕ) (s next : Reader) (b : ℕ) → LeadsAt p t s → at_other s b p ≡ Some next → Leads (t ++ b ∷ []) next
leads_other Fresh t s next b l e =
    let made : Reader = record s { kind = b - 48; phase = Kind } in
    (elim (is_in_range 48 52 b) as (λ r. is_in_range 48 52 b ≡ r → (if r then Some made else None) ≡ Some next → Leads (t ++ b ∷ []) next) [
      | false ↦ λ q m. cc
      | true ↦ λ q m.
          let d = digit_kind b q in
          let back : (b - 48) + 48 ≡ b = omega arith in
          became _ made next m (l.0, l.1 ++ b ∷ [], longer t l.0 l.1 b l.2, l.3, ((l.1, [], ap (λ x. l.1 ++ x ∷ []) (sym back), l.4.0, omega arith, refl), l.4.1, l.4.2))
    ]) refl e
leads_other Gap t s next b l e =
    (elim (nat_lt (length s.numbers) 4) as (λ r. nat_lt (length s.numbers) 4 ≡ r → (if r then at_number_byte s b else None) ≡ Some next → Leads (t ++ b ∷ []) next) [
      | false ↦ λ q m. cc
      | true ↦ λ q m. number_on t l.0 l.1 l.1 s next b l.2 l.3 (rw l.4.2 (sym (append-nil l.1))) l.4.0 (omega (arith, ltb-true)) m
    ]) refl e
leads_other Number t s next b l e = number_on t l.0 l.1 l.4.0.0 s next b l.2 l.3 l.4.0.1 l.4.0.2 l.4.0.3 e
leads_other Kind t s next b l e = cc
leads_other Returned t s next b l e = cc

-- each byte that the reader takes leads on
leads_class : (g : ByteClass) (t : List ℕ) (s : Reader) (b : ℕ) (next : Reader) → class_of b ≡ g → Leads t s → by_class s b g ≡ Some next → Leads (t ++ b ∷ []) next
leads_class classes.Blank t s b next g l e = leads_blank s.phase t s next b (class_blank b g) refl l e
leads_class classes.LineFeed t s b next g l e = rw (class_feed b g) (leads_line_feed s.phase t s next refl l e)
leads_class classes.Return t s b next g l e = rw (class_return b g) (leads_return s.phase t s next refl l e)
leads_class classes.Other t s b next g l e = leads_other s.phase t s next b l e

pub leads_step : (t : List ℕ) (s : Reader) (b : ℕ) (next : Reader) → Leads t s → step s b ≡ Some next → Leads (t ++ b ∷ []) next
leads_step t s b next l e = leads_class (class_of b) t s b next refl l e

pub leads_start : Leads [] start
leads_start = ([], [], refl, none, (tt, refl, refl))

-- what the reader answers is spelled
pub spelled : (t : List ℕ) (s : Reader) (v : List CpLine) → Leads t s → finish s ≡ Some v → CpText t v
spelled t s v l e =
    (elim (ended s s.phase) as (λ o. ended s s.phase ≡ o → option_map {T = Reader} (λ r. r.lines) o ≡ Some v → CpText t v) [
      | None ↦ λ q m. cc
      | Some r ↦ λ q m. let d = ended_line s.phase t s r refl l q in let same : r.lines ≡ v = cc in subst (CpText t) same d.0
    ]) refl e

line_of_four : (k : ℕ) (ns : List (List ℕ)) → length ns ≡ 4 → (v : CpLine) × (line_of k ns ≡ Some v)
line_of_four k (a ∷ b ∷ c ∷ d ∷ []) e = (record { kind = k; x1 = a; y1 = b; x2 = c; y2 = d }, refl)
line_of_four k [] e = absurd (omega arith)
line_of_four k (a ∷ []) e = absurd (omega arith)
line_of_four k (a ∷ b ∷ []) e = absurd (omega arith)
line_of_four k (a ∷ b ∷ c ∷ []) e = absurd (omega arith)
line_of_four k (a ∷ b ∷ c ∷ d ∷ x ∷ ns) e = absurd (omega arith)

-- with four numbers the text is accepted
four : (t before l h e : List ℕ) (us : List CpLine) (k : ℕ) (ns : List (List ℕ)) → t ≡ before ++ l → EndedLines before us → l ≡ h ++ e → KindAndNumbers k ns h → AreBlanks e → length ns ≡ 4 → Begins CpText t
four t before l h e us k ns te en le f b n =
    let v = line_of_four k ns n in
    ([], (us ++ v.0 ∷ [], subst (λ x. CpText x (us ++ v.0 ∷ [])) (sym (append-nil t)) (before, l, us, Some v.0, en, subst (λ x. SpellsLine x (Some v.0)) (sym le) (line_spelled k ns v.0 h e v.1 f b), te, refl)))

-- the numbers that lack of four can be added, as zeros
fill : (m : ℕ) (t before h : List ℕ) (us : List CpLine) (k : ℕ) (ns : List (List ℕ)) → t ≡ before ++ h → EndedLines before us → KindAndNumbers k ns h → length ns + m ≡ 4 → Begins CpText t
fill zero t before h us k ns te en f n = four t before h h [] us k ns te en (sym (append-nil h)) f tt (omega arith)
fill (suc m) t before h us k ns te en f n =
    begins_front CpText t (32 ∷ 48 ∷ [])
    (fill m (t ++ 32 ∷ 48 ∷ []) before (h ++ (32 ∷ []) ++ (48 ∷ [])) us k (ns ++ (48 ∷ []) ∷ []) (rw te (simp append_assoc)) en
    (front_snoc k ns h (32 ∷ []) (48 ∷ []) f (inl refl, tt) ((number_test (48 ∷ [])).0 refl)) (simp length-append (omega arith)))

-- each state can go on to an accepted text
pub alive_at : (p : Phase) (t : List ℕ) (s : Reader) → s.phase ≡ p → LeadsAt p t s → Begins CpText t
alive_at Fresh t s sp l = ([], (s.lines, subst (λ x. CpText x s.lines) (sym (append-nil t)) (ended_line Fresh t s s sp l refl).0))
alive_at Kind t s sp l = fill 4 t l.0 l.1 s.lines s.kind [] l.2 l.3 l.4.0 refl
alive_at Gap t s sp l = elim (cases_lt (length s.numbers) 4) [
  | inl lt ↦ begins_front CpText t (48 ∷ []) (fill (3 - length s.numbers) (t ++ 48 ∷ []) l.0 (l.1 ++ 48 ∷ []) s.lines s.kind (s.numbers ++ (48 ∷ []) ∷ [])
      (longer t l.0 l.1 48 l.2) l.3
      (subst (λ x. KindAndNumbers s.kind (s.numbers ++ (48 ∷ []) ∷ []) (x ++ 48 ∷ [])) (sym l.4.0.2) (front_snoc s.kind s.numbers l.4.0.0 l.4.0.1 (48 ∷ []) l.4.0.3 l.4.0.4 ((number_test (48 ∷ [])).0 refl)))
      (simp length-append (omega arith)))
  | inr ge ↦ four t l.0 l.1 l.4.0.0 l.4.0.1 s.lines s.kind s.numbers l.2 l.3 l.4.0.2 l.4.0.3 (gap_blanks l.4.0.1 l.4.0.4) (omega arith)
]
alive_at Number t s sp l =
    let more = l.4.1.0 in
    begins_front CpText t more (fill (3 - length s.numbers) (t ++ more) l.0 (l.1 ++ more) s.lines s.kind (s.numbers ++ (s.number ++ more) ∷ [])
    (rw l.2 (simp append_assoc)) l.3 (closed_front s l.1 more l.4.0 l.4.1.1) (simp length-append (omega arith)))
alive_at Returned t s sp l = begins_front CpText t (10 ∷ [])
    (let o = new_line l.0 (13 ∷ 10 ∷ []) s l.2 (inr refl) l.3 l.4 in
    let whole : CpText (l.0 ++ 13 ∷ 10 ∷ []) s.lines = (o.0, o.1, s.lines, None, o.3, o.4.0, o.2, sym (append-nil s.lines)) in
    ([], (s.lines, subst (λ x. CpText x s.lines) (rw l.1 (simp (append_assoc, append-nil))) whole)))
