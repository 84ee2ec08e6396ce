-- bytes and their signs
use Rattle.std.proofs.Common.{◌≡◌, ℕ, arith, inl, inr, refl}
use Rattle.std.proofs.lemmas.Bool.Decides.{nat_tests}
use Rattle.json_tree.specs.Blank.{IsBlank}
use Rattle.json_machine.specs.Machine.{Blank, Quote, Open, Close, OpenBrace, CloseBrace, Comma, Colon, sign_of}

pub blank_byte : (b : ℕ) → sign_of b ≡ Blank → IsBlank b
blank_byte b h = grind (arith, nat_tests)

pub blank_sign : (b : ℕ) → IsBlank b → sign_of b ≡ Blank
blank_sign b (inl e) = rw e refl
blank_sign b (inr (inl e)) = rw e refl
blank_sign b (inr (inr (inl e))) = rw e refl
blank_sign b (inr (inr (inr e))) = rw e refl

pub quote_byte : (b : ℕ) → sign_of b ≡ Quote → b ≡ 34
quote_byte b h = grind (arith, nat_tests)

pub open_byte : (b : ℕ) → sign_of b ≡ Open → b ≡ 91
open_byte b h = grind (arith, nat_tests)

pub close_byte : (b : ℕ) → sign_of b ≡ Close → b ≡ 93
close_byte b h = grind (arith, nat_tests)

pub open_brace_byte : (b : ℕ) → sign_of b ≡ OpenBrace → b ≡ 123
open_brace_byte b h = grind (arith, nat_tests)

pub close_brace_byte : (b : ℕ) → sign_of b ≡ CloseBrace → b ≡ 125
close_brace_byte b h = grind (arith, nat_tests)

pub comma_byte : (b : ℕ) → sign_of b ≡ Comma → b ≡ 44
comma_byte b h = grind (arith, nat_tests)

pub colon_byte : (b : ℕ) → sign_of b ≡ Colon → b ≡ 58
colon_byte b h = grind (arith, nat_tests)
