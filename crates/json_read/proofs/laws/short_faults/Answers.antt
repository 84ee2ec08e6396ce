use Rattle.std.proofs.Common.{[], ◌++◌, refl, codes, replicate}
use lib.Utf8.{encode}
use Rattle.json_read.proofs.Feeds.{byte_fault, end_fault}
use Rattle.json_read.proofs.laws.short_faults.Goals as goal

pub returns-clause-nothing : goal.returns-clause-nothing
returns-clause-nothing c = end_fault [] _ refl refl

pub returns-clause-blanks : goal.returns-clause-blanks
returns-clause-blanks c = end_fault (codes " \n") _ refl refl

pub returns-clause-cut_short : goal.returns-clause-cut_short
returns-clause-cut_short c = end_fault (codes "[1,") _ refl refl

pub returns-clause-comma_last : goal.returns-clause-comma_last
returns-clause-comma_last c = byte_fault (codes "[1,]") 3 _ _ refl refl refl refl

pub returns-clause-two_values : goal.returns-clause-two_values
returns-clause-two_values c = byte_fault (codes "1 2") 2 _ _ refl refl refl refl

pub returns-clause-zero_first : goal.returns-clause-zero_first
returns-clause-zero_first c = byte_fault (codes "01") 1 _ _ refl refl refl refl

pub returns-clause-bare_point : goal.returns-clause-bare_point
returns-clause-bare_point c = byte_fault (codes "[1.]") 3 _ _ refl refl refl refl

pub returns-clause-lone_low : goal.returns-clause-lone_low
returns-clause-lone_low c = byte_fault (codes "\"\\uDC00\"") 4 _ _ refl refl refl refl

pub returns-clause-lone_high : goal.returns-clause-lone_high
returns-clause-lone_high c = byte_fault (codes "\"\\ud83d\"") 7 _ _ refl refl refl refl

pub returns-clause-key_twice : goal.returns-clause-key_twice
unfolding encode
returns-clause-key_twice c = byte_fault (codes "{\"a\":1,\"a\":2}") 9 _ _ refl refl refl refl

pub returns-clause-key_by_unit : goal.returns-clause-key_by_unit
unfolding encode
returns-clause-key_by_unit c = byte_fault (codes "{\"a\":1,\"\\u0061\":2}") 14 _ _ refl refl refl refl

pub returns-clause-key_of_outer : goal.returns-clause-key_of_outer
unfolding encode
returns-clause-key_of_outer c = byte_fault (codes "{\"a\":{\"b\":1},\"a\":2}") 15 _ _ refl refl refl refl

pub returns-clause-key_of_inner : goal.returns-clause-key_of_inner
unfolding encode
returns-clause-key_of_inner c = end_fault (codes "{\"a\":{\"a\":1}") _ refl refl

pub returns-clause-quote_in_unit : goal.returns-clause-quote_in_unit
returns-clause-quote_in_unit c = byte_fault (codes "{\"\":1,\"\\u00\"") 11 _ _ refl refl refl refl

pub returns-clause-deep_list : goal.returns-clause-deep_list
returns-clause-deep_list c = byte_fault (replicate 65 91) 64 _ _ refl refl refl refl

pub returns-clause-deep_object : goal.returns-clause-deep_object
returns-clause-deep_object c = byte_fault (replicate 64 91 ++ codes "1,{}") 66 _ _ refl refl refl refl

pub returns-clause-bracket_after_number : goal.returns-clause-bracket_after_number
returns-clause-bracket_after_number c = byte_fault (replicate 64 91 ++ codes "1[") 65 _ _ refl refl refl refl

pub returns-clause-bracket_in_word : goal.returns-clause-bracket_in_word
returns-clause-bracket_in_word c = end_fault (replicate 64 91 ++ codes "\"[") _ refl refl
