-- the classes of bytes
use Rattle.std.proofs.Common.{◌≡◌, ℕ, ◌+◌, ◌≤◌, ◌<◌, arith, true}
use Rattle.std.specs.Int.{is_in_range}
use Rattle.std.proofs.lemmas.Bool.Decides.{nat_tests}
use Rattle.cp_lines.specs.CpText.{IsBlank}
use Rattle.cp_lines.specs.Machine.{class_of}
use Rattle.cp_lines.specs.declared.reader.ByteClass.TheVariants.{Blank, LineFeed, Return, Other}

pub blank_class : (b : ℕ) → IsBlank b → class_of b ≡ Blank
blank_class b h = grind (arith, nat_tests)

pub other_class : (b : ℕ) → 32 < b → class_of b ≡ Other
other_class b h = grind (arith, nat_tests)

pub class_blank : (b : ℕ) → class_of b ≡ Blank → IsBlank b
class_blank b h = grind (arith, nat_tests)

pub class_feed : (b : ℕ) → class_of b ≡ LineFeed → b ≡ 10
class_feed b h = grind (arith, nat_tests)

pub class_return : (b : ℕ) → class_of b ≡ Return → b ≡ 13
class_return b h = grind (arith, nat_tests)

pub kind_digit : (k : ℕ) → k ≤ 4 → is_in_range 48 52 (k + 48) ≡ true
kind_digit k h = grind (arith, nat_tests)

pub digit_kind : (b : ℕ) → is_in_range 48 52 b ≡ true → (48 ≤ b) × (b ≤ 52)
digit_kind b h = grind (arith, nat_tests)
