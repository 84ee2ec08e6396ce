-- Letters told apart, and the letter that is left of several.
use mathlib.Core.Path.{◌≡◌, refl, sym, ap, ◌∙◌}
use mathlib.Core.Bool.{Bool, false}
use mathlib.Core.List.{List, [], ◌∷◌}
use Prim.Native.Nat.{ℕ, zero, suc}
use Rattle.std.proofs.Common.{arith}
use Rattle.std.proofs.lemmas.Bool.Decides.{Decides-and, Decides-or, Decides-not, Decides-like, Decides-eqb}
use Rattle.std.specs.Bool.{Decides}
use Rattle.std.specs.Prelude.{◌&&◌, ◌||◌, not, Contains, nat_eq}
use Rattle.fold_base.specs.declared.letter.Letter.{Letter}
use Rattle.fold_base.specs.declared.letter.Letter.TheVariants.{Border, Mountain, Valley, Flat, Unassigned, Cut, Join}
use Rattle.scaled_plane.specs.Pieces.{First, IsMerged}

abbrev number_of : Letter → ℕ
number_of Border = 0
number_of Cut = 1
number_of Mountain = 2
number_of Valley = 3
number_of Unassigned = 4
number_of Flat = 5
number_of Join = 6

abbrev letter_of : ℕ → Letter
letter_of zero = Border
letter_of (suc zero) = Cut
letter_of (suc (suc zero)) = Mountain
letter_of (suc (suc (suc zero))) = Valley
letter_of (suc (suc (suc (suc zero)))) = Unassigned
letter_of (suc (suc (suc (suc (suc zero))))) = Flat
letter_of (suc (suc (suc (suc (suc (suc n)))))) = Join

back : (l : Letter) → letter_of (number_of l) ≡ l
back Border = refl
back Cut = refl
back Mountain = refl
back Valley = refl
back Unassigned = refl
back Flat = refl
back Join = refl

abbrev pub is_letter : Letter → Letter → Bool
is_letter l m = nat_eq (number_of l) (number_of m)

pub letter_decides : (l m : Letter) → Decides (is_letter l m) (l ≡ m)
letter_decides l m =
    Decides-like (is_letter l m) (λ e. sym (back l) ∙ ap letter_of e ∙ back m) (λ e. ap number_of e) (Decides-eqb (number_of l) (number_of m))

abbrev pub all_letters : List Letter
all_letters = Border ∷ Cut ∷ Mountain ∷ Valley ∷ Unassigned ∷ Flat ∷ Join ∷ []

pub any_letter : (l : Letter) → Contains all_letters l
any_letter Border = (0, omega arith, refl)
any_letter Cut = (1, omega arith, refl)
any_letter Mountain = (2, omega arith, refl)
any_letter Valley = (3, omega arith, refl)
any_letter Unassigned = (4, omega arith, refl)
any_letter Flat = (5, omega arith, refl)
any_letter Join = (6, omega arith, refl)

-- ---- the letter that is left

abbrev pub first_of : Bool → Letter → (Letter → Bool) → Letter → Bool
first_of b l rest letter = (b && is_letter letter l) || (not b && rest letter)

first_decides : (b : Bool) (P : Type 0) (l : Letter) (rest : Letter → Bool) (Rest : Letter → Type 0) → Decides b P → ((m : Letter) → Decides (rest m) (Rest m))
    → (m : Letter) → Decides (first_of b l rest m) (First P l Rest m)
first_decides b P l rest Rest d e m =
    Decides-or (b && is_letter m l) (not b && rest m) (Decides-and b (is_letter m l) d (letter_decides m l)) (Decides-and (not b) (rest m) (Decides-not b d) (e m))

abbrev pub merged : (Letter → Bool) → Letter → Bool
merged has =
    first_of (has Border) Border
    (first_of (has Cut) Cut
    (first_of (has Mountain && has Valley) Unassigned
    (first_of (has Mountain) Mountain
    (first_of (has Valley) Valley
    (first_of (has Unassigned) Unassigned
    (first_of (has Flat) Flat
    (first_of (has Join) Join (λ m. false))))))))

pub merged_decides : (has : Letter → Bool) (Has : Letter → Type 0) → ((l : Letter) → Decides (has l) (Has l)) → (m : Letter) → Decides (merged has m) (IsMerged Has m)
merged_decides has Has d =
    let none : (m : Letter) → Decides false ⊥ = λ m. (λ h. absurd (cc), λ h. absurd h) in
    let seven = first_decides (has Join) (Has Join) Join (λ m. false) (λ m. ⊥) (d Join) none in
    let six = first_decides (has Flat) (Has Flat) Flat (first_of (has Join) Join (λ m. false)) (First (Has Join) Join (λ m. ⊥)) (d Flat) seven in
    let five = first_decides (has Unassigned) (Has Unassigned) Unassigned _ _ (d Unassigned) six in
    let four = first_decides (has Valley) (Has Valley) Valley _ _ (d Valley) five in
    let three = first_decides (has Mountain) (Has Mountain) Mountain _ _ (d Mountain) four in
    let two = first_decides (has Mountain && has Valley) (Has Mountain × Has Valley) Unassigned _ _ (Decides-and (has Mountain) (has Valley) (d Mountain) (d Valley)) three in
    let one = first_decides (has Cut) (Has Cut) Cut _ _ (d Cut) two in
    first_decides (has Border) (Has Border) Border _ _ (d Border) one
