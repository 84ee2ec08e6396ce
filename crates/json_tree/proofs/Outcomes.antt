-- what is true where a call succeeds
use Rattle.std.proofs.Common.{Result, Ok, Err, OnOk}

pub on_ok : {A E : Type 0} {P : Type 0} (r : Result A E) → P → OnOk r P
on_ok (Ok a) p = p
on_ok (Err e) p = tt

pub on_ok_by : {A E : Type 0} {P Q : Type 0} (r : Result A E) → OnOk r P → (P → Q) → OnOk r Q
on_ok_by (Ok a) p f = f p
on_ok_by (Err e) p f = tt
