-- A run of a command that writes a record, over a buffer and then over its sink.
use Rattle.std.proofs.Common.{◌≡◌, ℕ, ◌≤◌, List, [], true, refl, sym, ap, subst, inl, inr}
use Rattle.std.specs.Prelude.{◌⊎◌}
use Rattle.det_io.specs.Shelf.{ShelfState}
use Rattle.det_io.specs.Count.{Rose}
use Rattle.det_io.specs.Traffic.{SinkRun}
use Rattle.det_io.specs.Sink.{Grew, GrewShort}
use Rattle.det_io.proofs.Counts.{rose-after, rose-before}
use Rattle.det_io.proofs.Growth.{grew-none}
use Rattle.det_io.proofs.Opening.{asks-prefix-none}
use Rattle.det_io.proofs.Prefixes.{prefix-then, proper-prefix}
use Rattle.det_io.specs.sink_buffer.Front.{TakesFront}
use Rattle.det_io.proofs.lemmas.sink_buffer.Fronts.{front-all, front-short}
use Rattle.probes.specs.Reports.{AudienceState}
use Rattle.cli_words.specs.declared.table.CommandWord.{CommandWord}
use Rattle.cli_words.specs.declared.table.CommandWord.TheVariants as words
use Rattle.cli_words.specs.Command.{CommandValue}
use Rattle.cli_answers.specs.declared.answer.Answer.{Answer}
use Rattle.cli_answers.specs.declared.answer.Answer.TheVariants.{OutOfMemory, WriteFault}
use Rattle.cli_answers.proofs.Keeping.{keeps-same}
use Rattle.cli_answers.proofs.AnswerMeets.{unwritten, meets-no-memory, meets-write-fault}
use Rattle.cli_answers.specs.Outcome.{known_bytes}
use Rattle.det_cli.specs.Outcome.{outcome_by}
use Rattle.det_cli.specs.Promise.{Runs, KnowsAllBytes}
use Rattle.det_cli.specs.Records.{writes_record, front_run}
use Rattle.det_cli.proofs.Plain.{plain-record, runs-plain}

-- a command that is none of the five writes no record
pub other-word : (word : CommandWord) → writes_record word ≡ true → (word ≡ words.Demo → ⊥) → (word ≡ words.Record → ⊥)
    → (word ≡ words.Replay → ⊥) → (word ≡ words.Upgrade → ⊥) → (word ≡ words.Chain → ⊥) → ⊥
other-word words.Demo e d r p u h = d refl
other-word words.Record e d r p u h = r refl
other-word words.Replay e d r p u h = p refl
other-word words.Upgrade e d r p u h = u refl
other-word words.Chain e d r p u h = h refl
other-word words.Check e d r p u h = absurd cc
other-word words.Compare e d r p u h = absurd cc
other-word words.Show e d r p u h = absurd cc
other-word words.Needs e d r p u h = absurd cc
other-word words.Sim e d r p u h = absurd cc
other-word words.Salvage e d r p u h = absurd cc
other-word words.Vote e d r p u h = absurd cc
other-word words.Help e d r p u h = absurd cc
other-word words.Version e d r p u h = absurd cc

-- each of the five writes one
pub record-of : (word : CommandWord) → (word ≡ words.Demo) ⊎ ((word ≡ words.Record) ⊎ ((word ≡ words.Replay)
    ⊎ ((word ≡ words.Upgrade) ⊎ (word ≡ words.Chain)))) → writes_record word ≡ true
record-of word (inl e) = ap writes_record e
record-of word (inr (inl e)) = ap writes_record e
record-of word (inr (inr (inl e))) = ap writes_record e
record-of word (inr (inr (inr (inl e)))) = ap writes_record e
record-of word (inr (inr (inr (inr e)))) = ap writes_record e

-- no memory for the buffer: nothing was done
pub runs-no-memory : (c : CommandValue) (shelf : ShelfState) (before : List ℕ → Type 0) (m n : ℕ) (audience : AudienceState)
    → writes_record c.word ≡ true → Runs c shelf shelf (unwritten before m n) audience audience OutOfMemory
runs-no-memory c shelf before m n audience word =
    runs-plain c shelf shelf (unwritten before m n) audience OutOfMemory (plain-record c.word word)
    (meets-no-memory (outcome_by c.word c (known_bytes shelf) audience) (KnowsAllBytes c shelf) (Rose shelf.faults shelf.faults) before m n)
    refl (asks-prefix-none shelf shelf _ refl) (λ t. asks-prefix-none shelf shelf _ refl) (keeps-same shelf)

-- the same with nothing held at either time
abbrev pub emptied : (start after : List ℕ → Type 0) (f0 f2 : ℕ) → SinkRun
emptied start after f0 f2 = record { before = start; after = after; faults_before = f0; faults_after = f2 }

module _ (c : CommandValue) (first last : ShelfState) (start now after : List ℕ → Type 0) (f0 f1 f2 : ℕ) (began held : List ℕ)
    (audience : AudienceState) (answer : Answer) (none : began ≡ []) (word : writes_record c.word ≡ true)
    (runs : Runs c first last (front_run start start now began held f0 f1) audience audience answer) where
  -- what a buffer took that held nothing at the start
  from-start : (bytes : List ℕ) → Grew (λ b. TakesFront start start b began) (λ b. TakesFront start now b held) bytes
      → TakesFront start now bytes held
  from-start bytes grew = grew.each [] (record { front = []; grew = grew-none start; is = sym none })

  -- what was held is written
  pub runs-whole : f1 ≤ f2 → Grew now after held → Runs c first last (emptied start after f0 f2) audience audience answer
  runs-whole counted grew = runs-plain c first last (emptied start after f0 f2) audience answer (plain-record c.word word) (record {
    part = λ t. let p = runs.meets.part t in (p.0, p.1, front-all start now after held p.0 (from-start p.0 p.2) grew);
    whole = λ t. elim (runs.meets.whole t) [
      | inl read ↦ inl read
      | inr more ↦ inr (elim more [
        | inl write ↦ inl write
        | inr rest ↦ inr (elim rest [
          | inl memory ↦ inl memory
          | inr same ↦ inr (same.0, front-all start now after held _ (from-start _ same.1) grew)
        ])
      ])
    ];
    read_fault = runs.meets.read_fault;
    write_fault = λ e. rose-after f0 f1 f2 (runs.meets.write_fault e) counted;
  }) runs.ends runs.asked runs.needed runs.earlier

  -- a part of it is written
  pub runs-cut : f0 ≤ f1 → Rose f1 f2 → GrewShort now after held
      → Runs c first last (emptied start after f0 f2) audience audience WriteFault
  runs-cut counted rose short = runs-plain c first last (emptied start after f0 f2) audience WriteFault (plain-record c.word word)
      (meets-write-fault (outcome_by c.word c (known_bytes first) audience) (KnowsAllBytes c first) (Rose first.faults last.faults)
      (emptied start after f0 f2)
      (λ t. let p = runs.meets.part t in let s = front-short start now after held p.0 (from-start p.0 p.2) short in
      (s.0, prefix-then s.0 p.0 _ (proper-prefix s.0 p.0 s.1) p.1, s.2)) (rose-before f0 f1 f2 counted rose))
      refl runs.asked runs.needed runs.earlier

-- what is promised over a sink as it was written is promised over the sink as it is then
pub runs-final : {A : Type 0} (took : A → List ℕ → Type 0) (faults : A → ℕ) (c : CommandValue) (first last : ShelfState) (f0 : ℕ)
    (start : List ℕ → Type 0) (audience : AudienceState) (answer : Answer) (final written : A) → final ≡ written
    → Runs c first last (emptied start (took written) f0 (faults written)) audience audience answer
    → Runs c first last (emptied start (took final) f0 (faults final)) audience audience answer
runs-final took faults c first last f0 start audience answer final written is runs =
    subst (λ k. Runs c first last (emptied start (took k) f0 (faults k)) audience audience answer) (sym is) runs
