-- What a record asks of a job beside its laws: texts are bytes, and a code has four of them.
use Rattle.std.proofs.Common.{◌≡◌, ℕ, ℤ, ◌^◌, ◌<◌, List, Option, Ok, Err}
use Rattle.job.specs.declared.job_results.Conclusion.{Conclusion}
use Rattle.job.specs.Meaning.{Meaning}
use Rattle.record_grammar.specs.Spelling.{AreBytes}

pub record IsSpelledJob {S G E L P : Type 0} (m : Meaning S G E L P) : Type 0 where
  pub shown : (j : S) (e : E) → AreBytes (m.shown j e)
  pub output : (j : S) (globals : G) (plan : L) (part : P) (d : Conclusion G) → m.concluded j globals plan part ≡ Ok d → AreBytes d.output
  pub prepare_code : (j : S) (globals : G) (es : List E) (windows : List (List ℤ)) (seed cycle : ℕ) (time next : Option ℕ) (code : ℕ)
      → m.prepared j globals es windows seed cycle time next ≡ Err code → code < 2 ^ 32
  pub work_code : (j : S) (plan : L) (carry : P) (pass : ℕ) (e : E) (key code : ℕ) → m.worked j plan carry pass e key ≡ Err code
      → code < 2 ^ 32
  pub conclude_code : (j : S) (globals : G) (plan : L) (part : P) (code : ℕ) → m.concluded j globals plan part ≡ Err code → code < 2 ^ 32
