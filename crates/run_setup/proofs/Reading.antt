-- What is known of a manifest that was read from a name whose bytes are known.
use Rattle.std.proofs.Common.{◌≡◌, ◌<◌, ◌≤◌, ℕ, Bool, true, List, ◌++◌, length, refl, sym, ap, ◌∙◌, arith, length-append}
use Rattle.std.specs.Prelude.{Result, Ok, Err, IfOk, IfErr, IsSome, false, nat_le}
use Rattle.std.proofs.lemmas.Bool.{lt-leb}
use Rattle.det_io.specs.Shelf.{ShelfState, Reads, Opens, IsAtEnd}
use Rattle.det_io.specs.declared.failure.Stopped.{Stopped}
use Rattle.det_io.specs.declared.failure.Stopped.TheVariants.{Refused, Failed}
use Rattle.det_io.specs.Traffic.{IfRefused}
use Rattle.manifest.specs.Values.{ManifestValue}
use Rattle.manifest.specs.declared.manifest_fault.ManifestFault.TheVariants.{TooLong}
use Rattle.cli_answers.specs.declared.answer.BadManifest.{BadManifest}
use Rattle.cli_answers.specs.declared.answer.BadManifest.TheVariants.{Fault}
use Rattle.cli_answers.specs.Outcome.{known_bytes}
use Rattle.cli_answers.proofs.KnownBytes.{read-part, whole-text}
use Rattle.run_setup.specs.Setup.{setup_of, Takes}

module _ (strict : Bool) (first mid last : ShelfState) (name : List ℕ) (slot : ℕ) (items text : List ℕ) (is : text ≡ items)
    (opens : Opens first mid name slot) (reads : Reads mid last slot items) (end : IsAtEnd last slot) where
  -- a text that was read to its end is that of the name
  same : IsSome (first.holds name) → text ≡ known_bytes first name
  same is_known = is ∙ whole-text first mid last name slot items opens reads end is_known

  -- the manifest of a text is that of the bytes which are known
  pub told-ok : (read : Result ManifestValue (Stopped BadManifest))
      → IfOk read (λ m. setup_of strict text ≡ Ok m)
      → IfOk read (λ m. IsSome (first.holds name) → setup_of strict (known_bytes first name) ≡ Ok m)
  told-ok (Ok m) read_as = λ t. ap (setup_of strict) (sym (same t)) ∙ read_as
  told-ok (Err why) read_as = read_as

  told-bad : (why : Stopped BadManifest) → IfRefused why (λ why. setup_of strict text ≡ Err why)
      → IfRefused why (λ why. IsSome (first.holds name) → setup_of strict (known_bytes first name) ≡ Err why)
  told-bad (Refused why) read_as = λ t. ap (setup_of strict) (sym (same t)) ∙ read_as
  told-bad (Failed failure) read_as = read_as

  -- and so is its refusal
  pub told-err : (read : Result ManifestValue (Stopped BadManifest)) → IfErr read (λ e. IfRefused e (λ why. setup_of strict text ≡ Err why))
      → IfErr read (λ e. IfRefused e (λ why. IsSome (first.holds name) → setup_of strict (known_bytes first name) ≡ Err why))
  told-err (Ok m) read_as = read_as
  told-err (Err why) read_as = told-bad why read_as

-- bytes beyond the limit are refused
too-long : (strict : Bool) (bytes : List ℕ) → 65536 < length bytes → setup_of strict bytes ≡ Err (Fault TooLong)
too-long true bytes long = let e : nat_le (length bytes) 65536 ≡ false = lt-leb (length bytes) 65536 long in rw e refl
too-long false bytes long = let e : nat_le (length bytes) 65536 ≡ false = lt-leb (length bytes) 65536 long in rw e refl

-- where more than the limit was read, the name held more
pub told-too-long : (strict : Bool) (first mid last : ShelfState) (name : List ℕ) (slot : ℕ) (text : List ℕ)
    → Opens first mid name slot → Reads mid last slot text → 65536 < length text → IsSome (first.holds name)
    → setup_of strict (known_bytes first name) ≡ Err (Fault TooLong)
told-too-long strict first mid last name slot text opens reads long is_known =
    let t = read-part first mid last name slot text opens reads is_known in
    let n : length (text ++ t.0) ≡ length (known_bytes first name) = ap length t.1 in
    too-long strict (known_bytes first name) (omega (arith, n, length-append text t.0, long))

pub takes : {first opened last : ShelfState} {name : List ℕ} {slot most : ℕ} {bytes : List ℕ}
    → Opens first opened name slot → Reads opened last slot bytes → length bytes ≤ most → Takes first last name most
takes {first} {opened} {last} {name} {slot} {most} {bytes} opens reads few = record {
  opened = opened;
  slot = slot;
  bytes = bytes;
  opens = opens;
  reads = reads;
  few = few;
}
