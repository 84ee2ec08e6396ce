-- what a byte is between values, in code and in the machine
use Rattle.json_machine.specs.Machine as machine
use Rattle.json_read.specs.declared.sign.Sign.{Sign}
use Rattle.json_read.specs.declared.sign.Sign.TheVariants.{Blank, Quote, Open, Close, OpenBrace, CloseBrace, Comma, Colon, Other}

abbrev pub sign_in : Sign → machine.Sign
sign_in Blank = machine.Blank
sign_in Quote = machine.Quote
sign_in Open = machine.Open
sign_in Close = machine.Close
sign_in OpenBrace = machine.OpenBrace
sign_in CloseBrace = machine.CloseBrace
sign_in Comma = machine.Comma
sign_in Colon = machine.Colon
sign_in Other = machine.Other
