-- After the version of a header, and after the tag of a frame, each fault is Range.
use Rattle.std.proofs.Common.{ℕ, zero, suc, ◌*◌, ◌+◌, Bool, true, false, cond, eqb, ltb, List, [], ◌∷◌, length, take, drop}
use Rattle.det_values.specs.declared.format.Format.{Format}
use Rattle.det_values.specs.declared.format.Format.TheVariants.{One, Two}
use Rattle.det_values.specs.declared.frames.CycleInput.{CycleInput}
use Rattle.det_values.specs.Limits.{allowed_in_name}
use Rattle.record_grammar.specs.declared.record_fault.Reason.{Reason}
use Rattle.record_grammar.specs.declared.record_fault.Reason.TheVariants.{Range}
use Rattle.record_grammar.specs.declared.limits.Limits.{Limits}
use Rattle.record_grammar.specs.declared.place.Layout.{Layout}
use Rattle.record_grammar.specs.Read.{Read, Got, More, Bad, ◌>>=◌, raw_at, many}
use Rattle.record_grammar.specs.Numbers.{number_from, can_be}
use Rattle.record_grammar.specs.Grammar.{signed_at, sample_value_at, string_at, name_byte_at, name_at, policy_at, event_at, params_at}
use Rattle.record_grammar.specs.Grammar.{events_at, drawn_at, time_at, sample_at, samples_at, input_at, refusal_at, init_from}
use Rattle.record_grammar.specs.Grammar.{finished_from, init_at, finished_at, refused_at, run_at}
use Rattle.record_grammar.proofs.lemmas.record_laws.HeaderParts.{from_job}

-- if bytes are refused, the reason has this property
abbrev pub RefusedFor : {A : Type 0} → (Reason → Type 0) → Read A → Type 0
RefusedFor P (Got x) = Unit {0}
RefusedFor P More = Unit {0}
RefusedFor P (Bad reason left) = P reason

-- a property of Range
module _ (P : Reason → Type 0) (range : P Range) where
  pub then : {A B : Type 0} (r : Read A) (f : A × List ℕ → Read B) → RefusedFor P r → ((x : A × List ℕ) → RefusedFor P (f x))
      → RefusedFor P (r >>= f)
  then (Got x) f h k = k x
  then More f h k = tt
  then (Bad reason left) f h k = h

  pub choice : {A : Type 0} (b : Bool) (r s : Read A) → RefusedFor P r → RefusedFor P s → RefusedFor P (cond b r s)
  choice true r s h k = h
  choice false r s h k = k

  numbers : (limits : Limits) (left v : ℕ) (bytes : List ℕ) → RefusedFor P (number_from limits left v bytes)
  unfolding number_from
  numbers limits zero v bytes = tt
  numbers limits (suc left) v [] = tt
  numbers limits (suc left) v (b ∷ bytes) = choice (can_be limits left (v * 256 + b)) (number_from limits left (v * 256 + b) bytes)
      (Bad Range (length (b ∷ bytes))) (numbers limits left (v * 256 + b) bytes) range

  raw : (n : ℕ) (bytes : List ℕ) → RefusedFor P (raw_at n bytes)
  unfolding raw_at
  raw n bytes = choice (ltb (length bytes) n) More (Got (take n bytes, drop n bytes)) tt tt

  list : {A : Type 0} (item : List ℕ → Read A) → ((bytes : List ℕ) → RefusedFor P (item bytes)) → (n : ℕ) (bytes : List ℕ)
      → RefusedFor P (many item n bytes)
  unfolding many
  list item h zero bytes = tt
  list item h (suc n) bytes = then (item bytes) _ (h bytes) (λ x. then (many item n x.1) _ (list item h n x.1) (λ y. tt))

  signed : (bytes : List ℕ) → RefusedFor P (signed_at bytes)
  unfolding signed_at
  signed bytes = then _ _ (numbers _ 8 0 bytes) (λ x. tt)

  sample_value : (bytes : List ℕ) → RefusedFor P (sample_value_at bytes)
  unfolding sample_value_at
  sample_value bytes = then _ _ (numbers _ 8 0 bytes) (λ x. tt)

  string : (width most : ℕ) (bytes : List ℕ) → RefusedFor P (string_at width most bytes)
  unfolding string_at
  string width most bytes = then _ _ (numbers _ width 0 bytes) (λ x. raw x.0 x.1)

  -- ---- the header

  name_byte : (bytes : List ℕ) → RefusedFor P (name_byte_at bytes)
  unfolding name_byte_at
  name_byte [] = tt
  name_byte (b ∷ bytes) = choice (allowed_in_name b) (Got (b, bytes)) (Bad Range (length (b ∷ bytes))) tt range

  name : (bytes : List ℕ) → RefusedFor P (name_at bytes)
  unfolding name_at
  name bytes = then _ _ (numbers _ 1 0 bytes) (λ n. list name_byte_at name_byte n.0 n.1)

  policy : (f : Format) (bytes : List ℕ) → RefusedFor P (policy_at f bytes)
  unfolding policy_at
  policy One bytes = tt
  policy Two bytes = then _ _ (numbers _ 1 0 bytes) (λ n. tt)

  event : (f : Format) (bytes : List ℕ) → RefusedFor P (event_at f bytes)
  unfolding event_at
  event f bytes = then _ _ (numbers _ 2 0 bytes) (λ c. then _ _ (name c.1) (λ n. then _ _ (policy f n.1) (λ p. tt)))

  params : (bytes : List ℕ) → RefusedFor P (params_at bytes)
  unfolding params_at
  params bytes = then _ _ (numbers _ 2 0 bytes) (λ n. list signed_at signed n.0 n.1)

  events : (f : Format) (bytes : List ℕ) → RefusedFor P (events_at f bytes)
  unfolding events_at
  events f bytes = then _ _ (numbers _ 2 0 bytes) (λ n. list (event_at f) (event f) n.0 n.1)

  -- what comes after the version
  pub job : (f : Format) (bytes : List ℕ) → RefusedFor P (from_job f bytes)
  job f bytes =
      then _ _ (numbers _ 2 0 bytes) (λ j. then _ _ (numbers _ 8 0 j.1) (λ s. then _ _ (numbers _ 8 0 s.1)
      (λ c. then _ _ (params c.1) (λ p. then _ _ (events f p.1) (λ e. tt)))))

  -- ---- the frames

  drawn : (f : Format) (bytes : List ℕ) → RefusedFor P (drawn_at f bytes)
  unfolding drawn_at
  drawn One bytes = then _ _ (string 2 64 bytes) (λ e. tt)
  drawn Two bytes = then _ _ (string 2 64 bytes) (λ e. then _ _ (numbers _ 4 0 e.1) (λ d. tt))

  time : (bytes : List ℕ) → RefusedFor P (time_at bytes)
  unfolding time_at
  time bytes = then _ _ (numbers _ 1 0 bytes) (λ flag. choice (eqb flag.0 0) _ _ tt (then _ _ (numbers _ 8 0 flag.1) (λ t. tt)))

  sample : (n : ℕ) (bytes : List ℕ) → RefusedFor P (sample_at n bytes)
  unfolding sample_at
  sample n bytes = then _ _ (numbers _ 2 0 bytes) (λ e. then _ _ (sample_value e.1) (λ v. tt))

  samples : (n : ℕ) (bytes : List ℕ) → RefusedFor P (samples_at n bytes)
  unfolding samples_at
  samples n bytes = then _ _ (numbers _ 4 0 bytes) (λ c. list (sample_at n) (sample n) c.0 c.1)

  input : (n : ℕ) (bytes : List ℕ) → RefusedFor P (input_at n bytes)
  unfolding input_at
  input n bytes = then _ _ (time bytes) (λ t. then _ _ (samples n t.1) (λ s. tt))

  refusal : (bytes : List ℕ) → RefusedFor P (refusal_at bytes)
  unfolding refusal_at
  refusal bytes = then _ _ (numbers _ 1 0 bytes) (λ f. then _ _ (numbers _ 1 0 f.1)
      (λ p. then _ _ (numbers _ 4 0 p.1) (λ e. then _ _ (numbers _ 4 0 e.1) (λ c. tt))))

  pub init : (bytes : List ℕ) → RefusedFor P (init_at bytes)
  unfolding init_at init_from
  init bytes = then _ _ (numbers _ 4 0 bytes) (λ n. then _ _ (then _ _ (list _ (λ xs. string 2 64 xs) n.0 n.1) (λ x. tt)) (λ x. tt))

  finished : (f : Format) (i : CycleInput) (bytes : List ℕ) → RefusedFor P (finished_at f i bytes)
  unfolding finished_at finished_from
  finished f i bytes = then _ _ (numbers _ 4 0 bytes) (λ n. then _ _ (then _ _ (list (drawn_at f) (drawn f) n.0 n.1) (λ x. tt))
      (λ e. then _ _ (string 4 1048576 e.1) (λ x. tt)))

  refused : (i : CycleInput) (bytes : List ℕ) → RefusedFor P (refused_at i bytes)
  unfolding refused_at
  refused i bytes = then _ _ (refusal bytes) (λ x. tt)

  pub run : (layout : Layout) (bytes : List ℕ) → RefusedFor P (run_at layout bytes)
  unfolding run_at
  run layout bytes = then _ _ (input layout.events bytes) (λ i. then _ _ (numbers _ 1 0 i.1)
      (λ flag. choice (eqb flag.0 0) _ _ (finished layout.format i.0 flag.1) (refused i.0 flag.1)))
