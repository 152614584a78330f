-- Facts about one variant of a result.
use Rattle.std.specs.Prelude.{Result, Ok, Err, OnOk, OnErr}

-- a fact that holds also holds on an Err
pub on-err : {X E : Type 0} (r : Result X E) {P : Type 0} → P → OnErr r P
on-err (Ok x) p = tt
on-err (Err e) p = p

-- a fact that holds also holds on an Ok
pub on-ok : {X E : Type 0} (r : Result X E) {P : Type 0} → P → OnOk r P
on-ok (Ok x) p = p
on-ok (Err e) p = tt
