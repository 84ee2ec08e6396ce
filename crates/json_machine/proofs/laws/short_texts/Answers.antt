use Rattle.std.proofs.Common.{refl}
use lib.Utf8.{encode}
use Rattle.json_machine.proofs.Decided.{answered, refused}
use Rattle.json_machine.proofs.laws.short_texts.Goals as goal

pub returns-clause-minus_zero : goal.returns-clause-minus_zero
returns-clause-minus_zero c = answered _ _ refl

pub returns-clause-exponent : goal.returns-clause-exponent
returns-clause-exponent c = answered _ _ refl

pub returns-clause-zero_first : goal.returns-clause-zero_first
returns-clause-zero_first c = refused _ refl

pub returns-clause-bare_point : goal.returns-clause-bare_point
returns-clause-bare_point c = refused _ refl

pub returns-clause-no_int : goal.returns-clause-no_int
returns-clause-no_int c = refused _ refl

pub returns-clause-blanks : goal.returns-clause-blanks
returns-clause-blanks c = answered _ _ refl

pub returns-clause-form_feed : goal.returns-clause-form_feed
returns-clause-form_feed c = refused _ refl

pub returns-clause-letters : goal.returns-clause-letters
unfolding encode
returns-clause-letters c = answered _ _ refl

pub returns-clause-units : goal.returns-clause-units
unfolding encode
returns-clause-units c = answered _ _ refl

pub returns-clause-surrogates : goal.returns-clause-surrogates
unfolding encode
returns-clause-surrogates c = answered _ _ refl

pub returns-clause-lone_low : goal.returns-clause-lone_low
returns-clause-lone_low c = refused _ refl

pub returns-clause-lone_high : goal.returns-clause-lone_high
returns-clause-lone_high c = refused _ refl

pub returns-clause-control : goal.returns-clause-control
returns-clause-control c = refused _ refl

pub returns-clause-overlong : goal.returns-clause-overlong
returns-clause-overlong c = refused _ refl

pub returns-clause-surrogate : goal.returns-clause-surrogate
returns-clause-surrogate c = refused _ refl

pub returns-clause-past_the_last : goal.returns-clause-past_the_last
returns-clause-past_the_last c = refused _ refl

pub returns-clause-last : goal.returns-clause-last
unfolding encode
returns-clause-last c = answered _ _ refl

pub returns-clause-key_twice : goal.returns-clause-key_twice
unfolding encode
returns-clause-key_twice c = refused _ refl

pub returns-clause-deepest : goal.returns-clause-deepest
returns-clause-deepest c = (_, answered _ _ refl)

pub returns-clause-too_deep : goal.returns-clause-too_deep
returns-clause-too_deep c = refused _ refl

pub returns-clause-nothing : goal.returns-clause-nothing
returns-clause-nothing c = refused _ refl

pub returns-clause-comma_last : goal.returns-clause-comma_last
returns-clause-comma_last c = refused _ refl

pub returns-clause-before_0 : goal.returns-clause-before_0
returns-clause-before_0 c = refused _ refl

pub returns-clause-after_9 : goal.returns-clause-after_9
returns-clause-after_9 c = refused _ refl

pub returns-clause-before_upper : goal.returns-clause-before_upper
returns-clause-before_upper c = refused _ refl

pub returns-clause-after_upper : goal.returns-clause-after_upper
returns-clause-after_upper c = refused _ refl

pub returns-clause-before_lower : goal.returns-clause-before_lower
returns-clause-before_lower c = refused _ refl

pub returns-clause-after_lower : goal.returns-clause-after_lower
returns-clause-after_lower c = refused _ refl
