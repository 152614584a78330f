-- Errors that are passed on, and lists of no bytes.
use Rattle.std.proofs.Common.{◌≡◌, [], Result, Ok, Err, sym, subst, arith}
use Rattle.std.specs.Result.{IsErrAnd}
use Rattle.record_grammar.specs.Spelling.{AreBytes}

pub are_none : AreBytes []
are_none k d lt = absurd (omega (arith, lt))

pub passed-on : {A E : Type 0} {why : E} (P : Result A E → Type 0) (result : Result A E) → IsErrAnd result (λ e. e ≡ why) → P (Err why)
    → P result
passed-on P (Ok value) is h = absurd is
passed-on P (Err e) is h = subst (λ x. P (Err x)) (sym is) h
