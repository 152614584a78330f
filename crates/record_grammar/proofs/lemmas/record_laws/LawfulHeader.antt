-- A header is read lawfully.
use Rattle.std.proofs.Common.{◌≡◌, ℕ, zero, suc, ◌<◌, ℤ, pos, FitsSigned, Bool, true, false, cond, eqb, ◌&&◌, List, [], ◌∷◌, ◌++◌, length}
use Rattle.std.proofs.Common.{refl, sym, ap, subst, ◌∙◌, append_assoc, arith, inl, inr, ◌⊎◌, lit≤, lit<}
use Rattle.std.specs.List.{flat_map, All, list_all}
use Rattle.std.specs.Int.{w64}
use Rattle.std.proofs.Math.Facts.{sfits_lit}
use Rattle.std.proofs.lemmas.Bool.{eqb-true}
use Rattle.std.proofs.lemmas.Bool.Decides.{nat_tests}
use Rattle.std.proofs.lemmas.List.Elements.{All-nil, All-cons, All-head, All-tail, All-weaker}
use Rattle.det_values.specs.declared.format.Format.{Format}
use Rattle.det_values.specs.declared.format.Format.TheVariants.{One, Two}
use Rattle.det_values.specs.declared.event.Policy.{Policy}
use Rattle.det_values.specs.declared.event.Policy.TheVariants.{Last, Fresh}
use Rattle.det_values.specs.Values.{EventSpecValue, ProfileValue}
use Rattle.det_values.specs.Limits.{allowed_in_name, is_event_name, KnowsPolicies}
use Rattle.record_grammar.specs.declared.record_fault.Reason.TheVariants.{Magic, Version, Range}
use Rattle.record_grammar.specs.Read.{Read, Got, Bad, ◌>>=◌}
use Rattle.record_grammar.specs.Numbers.{number}
use Rattle.record_grammar.specs.Grammar.{signed_at, exactly_at, magic_at, format_at, version_at, name_byte_at, name_at, policy_of}
use Rattle.record_grammar.specs.Grammar.{policy_at, event_at, params_at, events_at, profile_at}
use Rattle.record_grammar.specs.Spelling.{spelled_u16, spelled_u64, spelled_signed, version, policy_number, spelled_policy, spelled_event}
use Rattle.record_grammar.specs.Spelling.{spelled_params, spelled_events, magic, spelled_numbers, spelled_header, IsEvent, IsHeader}
use Rattle.record_grammar.proofs.Steady.{by_first}
use Rattle.record_grammar.proofs.SteadyFields.{format_by, format_same, name_byte_by, name_byte_same}
use Rattle.record_grammar.proofs.lemmas.record_laws.Lawful.{IsLawful, lawful_give, lawful_read, lawful_values, lawful_map, lawful_then}
use Rattle.record_grammar.proofs.lemmas.record_laws.Lawful.{lawful_first}
use Rattle.record_grammar.proofs.lemmas.record_laws.HeaderParts.{a_profile, from_events, from_params, from_cycle, from_seed, from_job}
use Rattle.record_grammar.proofs.lemmas.record_laws.HeaderParts.{from_version}
use Rattle.record_grammar.proofs.lemmas.record_laws.LawfulWords.{IsFrom, byte_lawful, u16_lawful, u64_lawful}
use Rattle.record_grammar.proofs.lemmas.record_laws.LawfulFields.{fixed_then, exactly_lawful, counted_lawful, signed_lawful}

-- ---- magic and version

abbrev IsLast : ℕ → Type 0
IsLast n = n ≡ 67

pub magic_lawful : IsLawful IsLast (λ n. magic) magic_at
unfolding magic_at magic
magic_lawful =
    fixed_then Magic 68 IsLast 67 _ (λ bytes. exactly_at Magic 69 bytes >>= λ e. exactly_at Magic 84 e.1 >>= λ t.
    exactly_at Magic 82 t.1 >>= λ r. exactly_at Magic 69 r.1 >>= λ f. exactly_at Magic 67 f.1) (lit< tt) refl
    (fixed_then Magic 69 IsLast 67 _ (λ bytes. exactly_at Magic 84 bytes >>= λ t. exactly_at Magic 82 t.1 >>= λ r.
    exactly_at Magic 69 r.1 >>= λ f. exactly_at Magic 67 f.1) (lit< tt) refl
    (fixed_then Magic 84 IsLast 67 _ (λ bytes. exactly_at Magic 82 bytes >>= λ r. exactly_at Magic 69 r.1 >>= λ f. exactly_at Magic 67 f.1)
    (lit< tt) refl
    (fixed_then Magic 82 IsLast 67 _ (λ bytes. exactly_at Magic 69 bytes >>= λ f. exactly_at Magic 67 f.1) (lit< tt) refl
    (fixed_then Magic 69 IsLast 67 _ (λ bytes. exactly_at Magic 67 bytes) (lit< tt) refl (exactly_lawful Magic 67 (lit< tt))))))

abbrev AnyFormat : Format → Type 0
AnyFormat format = Unit {0}

abbrev FormatCase : ℕ → Type 0
FormatCase b =
    (((bytes : List ℕ) → format_by b bytes ≡ Bad Version (suc (length bytes))) × ((c : Format) → AnyFormat c → version c ≡ b → ⊥))
    ⊎ IsLawful (λ c. AnyFormat c × (version c ≡ b)) (λ c. []) (format_by b)

one_only : (c : Format) → AnyFormat c × (version c ≡ 1) → c ≡ One
one_only One h = refl
one_only Two h = absurd (omega (arith, h.1))

two_only : (c : Format) → AnyFormat c × (version c ≡ 2) → c ≡ Two
two_only Two h = refl
two_only One h = absurd (omega (arith, h.1))

format_case : (b : ℕ) (one two : Bool) → eqb b 1 ≡ one → eqb b 2 ≡ two → FormatCase b
format_case b true two e f =
    subst FormatCase (sym (eqb-true b 1 e)) (inr (lawful_give (λ c. AnyFormat c × (version c ≡ 1)) One (tt, refl) one_only))
format_case b false true e f =
    subst FormatCase (sym (eqb-true b 2 f)) (inr (lawful_give (λ c. AnyFormat c × (version c ≡ 2)) Two (tt, refl) two_only))
format_case b false false e f = inl ((λ bytes. rw (e, f) refl), other)
  where
    other : (c : Format) → AnyFormat c → version c ≡ b → ⊥
    other One h same = grind (arith, nat_tests, e, same)
    other Two h same = grind (arith, nat_tests, f, same)

format_small : (c : Format) → AnyFormat c → version c < 256
format_small One h = lit< tt
format_small Two h = lit< tt

format_lawful : IsLawful AnyFormat (λ c. version c ∷ []) format_at
format_lawful =
    lawful_read AnyFormat (λ c. version c ∷ []) format_at (by_first format_by) format_same
    (lawful_first AnyFormat version (λ c. []) format_by (λ b. Version) One tt (λ b small. format_case b (eqb b 1) (eqb b 2) refl refl)
    format_small)

version_is : (c : Format) → AnyFormat c → AnyFormat c × (spelled_u16 (version c) ≡ 0 ∷ version c ∷ [])
unfolding spelled_u16
version_is One h = (tt, refl)
version_is Two h = (tt, refl)

version_lawful : IsLawful AnyFormat (λ c. spelled_u16 (version c)) version_at
unfolding version_at
version_lawful =
    lawful_values AnyFormat AnyFormat (λ c. 0 ∷ version c ∷ []) (λ c. spelled_u16 (version c)) version_at (λ c h. h) version_is
    (fixed_then Version 0 AnyFormat One _ format_at (lit< tt) tt format_lawful)

-- ---- events

abbrev IsNameByte : ℕ → Type 0
IsNameByte b = allowed_in_name b ≡ true

name_byte_case : (b : ℕ) (t : Bool) → allowed_in_name b ≡ t
    → (((bytes : List ℕ) → name_byte_by b bytes ≡ Bad Range (suc (length bytes))) × ((c : ℕ) → IsNameByte c → c ≡ b → ⊥))
    ⊎ IsLawful (λ c. IsNameByte c × (c ≡ b)) (λ c. []) (name_byte_by b)
name_byte_case b true e =
    inr (lawful_read (λ c. IsNameByte c × (c ≡ b)) (λ c. []) (name_byte_by b) (λ bytes. Got (b, bytes))
    (λ bytes. ap (λ (t : Bool). cond t (Got (b, bytes)) (Bad Range (suc (length bytes)))) e)
    (lawful_give (λ c. IsNameByte c × (c ≡ b)) b (e, refl) (λ c h. h.1)))
name_byte_case b false e =
    inl (
      (λ bytes. ap (λ (t : Bool). cond t (Got (b, bytes)) (Bad Range (suc (length bytes)))) e),
      (λ c h same. let no : allowed_in_name c ≡ false = ap allowed_in_name same ∙ e in absurd (cc (h, no))),
    )

name_byte_small : (b : ℕ) → IsNameByte b → b < 256
name_byte_small b h = grind (arith, nat_tests, h)

name_byte_lawful : IsLawful IsNameByte (λ b. b ∷ []) name_byte_at
name_byte_lawful =
    lawful_read IsNameByte (λ b. b ∷ []) name_byte_at (by_first name_byte_by) name_byte_same
    (lawful_first IsNameByte (λ b. b) (λ b. []) name_byte_by (λ b. Range) 97 refl (λ b small. name_byte_case b (allowed_in_name b) refl)
    name_byte_small)

all_name_bytes : (bytes : List ℕ) → list_all allowed_in_name bytes ≡ true → All IsNameByte bytes
all_name_bytes [] h = All-nil IsNameByte
all_name_bytes (b ∷ bytes) h =
    let p = both (allowed_in_name b) (list_all allowed_in_name bytes) h in All-cons IsNameByte b bytes p.0 (all_name_bytes bytes p.1)
  where
    both : (s t : Bool) → (s && t) ≡ true → (s ≡ true) × (t ≡ true)
    both true true e = (refl, refl)
    both true false e = absurd cc
    both false t e = absurd cc

name_bytes_all : (bytes : List ℕ) → All IsNameByte bytes → list_all allowed_in_name bytes ≡ true
name_bytes_all [] h = refl
name_bytes_all (b ∷ bytes) h =
    ap (λ (t : Bool). t && list_all allowed_in_name bytes) (All-head IsNameByte b bytes h)
    ∙ name_bytes_all bytes (All-tail IsNameByte b bytes h)

each_byte : (bytes : List ℕ) → flat_map (λ b. b ∷ []) bytes ≡ bytes
each_byte [] = refl
each_byte (b ∷ bytes) = ap (λ (xs : List ℕ). b ∷ xs) (each_byte bytes)

abbrev IsName : List ℕ → Type 0
IsName n = is_event_name n ≡ true

name_there : (n : List ℕ) → IsFrom 1 32 (length n) × All IsNameByte n → IsName n
name_there n h = let all : list_all allowed_in_name n ≡ true = name_bytes_all n h.1 in grind (arith, nat_tests, h.0.0, h.0.1, all)

name_back : (n : List ℕ) → IsName n → IsFrom 1 32 (length n) × (list_all allowed_in_name n ≡ true)
name_back n h = ((grind (arith, nat_tests, h), grind (arith, nat_tests, h)), grind (arith, nat_tests, h))

pub name_lawful : IsLawful IsName (λ n. length n ∷ n) name_at
unfolding name_at
name_lawful =
    lawful_values (λ n. IsFrom 1 32 (length n) × All IsNameByte n) IsName (λ n. (length n ∷ []) ++ flat_map (λ b. b ∷ []) n)
    (λ n. length n ∷ n) name_at
    name_there (λ n h. let b = name_back n h in ((b.0, all_name_bytes n b.1), ap (λ (xs : List ℕ). length n ∷ xs) (sym (each_byte n))))
    (counted_lawful IsNameByte (λ b. b ∷ []) name_byte_at 97 refl name_byte_lawful 1 1 32 (λ n. n ∷ [])
    (byte_lawful 1 32 (lit≤ tt) (lit≤ tt)))

-- format 1 knows only the policy Last
abbrev KnowsPolicy : Format → Policy → Type 0
KnowsPolicy One policy = policy ≡ Last
KnowsPolicy Two policy = Unit {0}

policy_back : (p : Policy) → p ≡ policy_of (policy_number p)
policy_back Last = refl
policy_back Fresh = refl

policy_small : (p : Policy) → IsFrom 0 1 (policy_number p)
policy_small Last = (lit≤ tt, lit≤ tt)
policy_small Fresh = (lit≤ tt, lit≤ tt)

number_back : (n : ℕ) → IsFrom 0 1 n → policy_number (policy_of n) ≡ n
number_back zero h = refl
number_back (suc zero) h = refl
number_back (suc (suc n)) h = absurd (omega (arith, h.1))

policy_lawful : (format : Format) → IsLawful (KnowsPolicy format) (spelled_policy format) (policy_at format)
unfolding policy_at
policy_lawful One = lawful_give (KnowsPolicy One) Last refl (λ p h. h)
policy_lawful Two =
    lawful_map (IsFrom 0 1) (λ n. n ∷ []) (number 1 0 1) (KnowsPolicy Two) policy_number policy_of (λ p h. (policy_small p, policy_back p))
    (λ n h. (tt, number_back n h)) (byte_lawful 0 1 (lit≤ tt) (lit≤ tt))

abbrev an_event : ℕ → List ℕ → Policy → EventSpecValue
an_event capacity name policy = record { capacity = capacity; name = name; policy = policy }

abbrev from_policy : Format → ℕ → List ℕ → List ℕ → Read EventSpecValue
from_policy format capacity name bytes = policy_at format bytes >>= λ policy. Got (an_event capacity name policy.0, policy.1)

abbrev from_name : Format → ℕ → List ℕ → Read EventSpecValue
from_name format capacity bytes = name_at bytes >>= λ name. from_policy format capacity name.0 name.1

abbrev IsEventOf : Format → EventSpecValue → Type 0
IsEventOf format e = IsEvent e × KnowsPolicy format e.policy

knows_last : (format : Format) → KnowsPolicy format Last
knows_last One = refl
knows_last Two = tt

some_name : IsName (97 ∷ [])
some_name = refl

event_lawful : (format : Format) → IsLawful (IsEventOf format) (spelled_event format) (event_at format)
unfolding event_at
event_lawful format =
    lawful_then (IsFrom 1 1024) spelled_u16 (number 2 1 1024) (IsEventOf format) (λ e. e.capacity)
    (λ e. length e.name ∷ (e.name ++ spelled_policy format e.policy)) (from_name format)
    (λ e h. h.0.0) (λ n h. (an_event n (97 ∷ []) Last, ((h, some_name), knows_last format), refl)) (u16_lawful 1 1024 (lit≤ tt) (lit≤ tt))
    (λ capacity hc.
    lawful_then IsName (λ n. length n ∷ n) name_at (λ e. IsEventOf format e × (e.capacity ≡ capacity)) (λ e. e.name)
    (λ e. spelled_policy format e.policy) (from_policy format capacity)
    (λ e h. h.0.0.1) (λ n h. (an_event capacity n Last, (((hc, h), knows_last format), refl), refl)) name_lawful (λ name hn.
    lawful_map (KnowsPolicy format) (spelled_policy format) (policy_at format)
    (λ e. (IsEventOf format e × (e.capacity ≡ capacity)) × (e.name ≡ name)) (λ e. e.policy) (an_event capacity name)
    (λ e h. (h.0.0.1, ap (λ (c : ℕ). an_event c e.name e.policy) h.0.1 ∙ ap (λ (n : List ℕ). an_event capacity n e.policy) h.1))
    (λ p h. (((((hc, hn), h), refl), refl), refl)) (policy_lawful format)))

-- ---- parameters and events

abbrev AreParams : List ℤ → Type 0
AreParams params = IsFrom 0 16 (length params) × All (FitsSigned w64) params

params_lawful : IsLawful AreParams spelled_params params_at
unfolding params_at
params_lawful =
    counted_lawful (FitsSigned w64) spelled_signed signed_at (pos 0) (sfits_lit tt) signed_lawful 2 0 16 spelled_u16
    (u16_lawful 0 16 (lit≤ tt) (lit≤ tt))

abbrev AreEvents : Format → List EventSpecValue → Type 0
AreEvents format events = IsFrom 0 256 (length events) × All (IsEventOf format) events

events_lawful : (format : Format) → IsLawful (AreEvents format) (spelled_events format) (events_at format)
unfolding events_at
events_lawful format =
    counted_lawful (IsEventOf format) (spelled_event format) (event_at format) (an_event 1 (97 ∷ []) Last)
    (((lit≤ tt, lit≤ tt), some_name), knows_last format) (event_lawful format)
    2 0 256 spelled_u16 (u16_lawful 0 256 (lit≤ tt) (lit≤ tt))

-- ---- the header

-- the fields, each by its own condition
abbrev AreFields : Format → ProfileValue → Type 0
AreFields format p =
    IsFrom 0 65535 p.job × IsFrom 0 18446744073709551615 p.seed × IsFrom 1 9223372036854775807 p.cycle_time × AreParams p.params
    × AreEvents format p.events

no_params : AreParams []
no_params = ((lit≤ tt, lit≤ tt), All-nil (FitsSigned w64))

no_events : (format : Format) → AreEvents format []
no_events format = ((lit≤ tt, lit≤ tt), All-nil (IsEventOf format))

abbrev IsIn : Format → ProfileValue → Type 0
IsIn format p = AreFields format p × (p.format ≡ format)

job_lawful : (format : Format)
    → IsLawful (IsIn format) (λ p. spelled_u16 p.job ++ (spelled_u64 p.seed
    ++ (spelled_u64 p.cycle_time ++ (spelled_params p.params ++ spelled_events format p.events)))) (from_job format)
job_lawful format =
    lawful_then (IsFrom 0 65535) spelled_u16 (number 2 0 65535) (IsIn format) (λ p. p.job)
    (λ p. spelled_u64 p.seed ++ (spelled_u64 p.cycle_time ++ (spelled_params p.params ++ spelled_events format p.events)))
    (from_seed format)
    (λ p h. h.0.0) (λ job hj. (
      a_profile format job 0 1 [] [],
      (
        (hj, (lit≤ tt, lit≤ tt), (lit≤ tt, lit≤ tt), no_params, no_events format),
        refl,
      ),
      refl,
    )) (u16_lawful 0 65535 (lit≤ tt) (lit≤ tt)) (λ job hj.
    lawful_then (IsFrom 0 18446744073709551615) spelled_u64 (number 8 0 18446744073709551615) (λ p. IsIn format p × (p.job ≡ job))
    (λ p. p.seed) (λ p. spelled_u64 p.cycle_time ++ (spelled_params p.params ++ spelled_events format p.events)) (from_cycle format job)
    (λ p h. h.0.0.1) (λ seed hs. (
      a_profile format job seed 1 [] [],
      (
        ((hj, hs, (lit≤ tt, lit≤ tt), no_params, no_events format), refl),
        refl,
      ),
      refl,
    )) (u64_lawful 0 18446744073709551615 (lit≤ tt) (lit≤ tt)) (λ seed hs.
    lawful_then (IsFrom 1 9223372036854775807) spelled_u64 (number 8 1 9223372036854775807)
    (λ p. (IsIn format p × (p.job ≡ job)) × (p.seed ≡ seed)) (λ p. p.cycle_time)
    (λ p. spelled_params p.params ++ spelled_events format p.events) (from_params format job seed)
    (λ p h. h.0.0.0.2) (λ cycle hc. (
      a_profile format job seed cycle [] [],
      ((((hj, hs, hc, no_params, no_events format), refl), refl), refl),
      refl,
    )) (u64_lawful 1 9223372036854775807 (lit≤ tt) (lit≤ tt))
    (λ cycle hc.
    lawful_then AreParams spelled_params params_at (λ p. ((IsIn format p × (p.job ≡ job)) × (p.seed ≡ seed)) × (p.cycle_time ≡ cycle))
    (λ p. p.params) (λ p. spelled_events format p.events) (from_events format job seed cycle)
    (λ p h. h.0.0.0.0.3) (λ params hp. (
      a_profile format job seed cycle params [],
      (((((hj, hs, hc, hp, no_events format), refl), refl), refl), refl),
      refl,
    )) params_lawful (λ params hp.
    lawful_map (AreEvents format) (spelled_events format) (events_at format)
    (λ p. (((IsIn format p × (p.job ≡ job)) × (p.seed ≡ seed)) × (p.cycle_time ≡ cycle)) × (p.params ≡ params)) (λ p. p.events)
    (a_profile format job seed cycle params)
    (λ p h. (
      h.0.0.0.0.0.4,
      ap (λ (f : Format). a_profile f p.job p.seed p.cycle_time p.params p.events) h.0.0.0.0.1
          ∙ ap (λ (n : ℕ). a_profile format n p.seed p.cycle_time p.params p.events) h.0.0.0.1
          ∙ ap (λ (n : ℕ). a_profile format job n p.cycle_time p.params p.events) h.0.0.1
          ∙ ap (λ (n : ℕ). a_profile format job seed n p.params p.events) h.0.1
          ∙ ap (λ (xs : List ℤ). a_profile format job seed cycle xs p.events) h.1,
    ))
    (λ events he. ((((((((hj, hs, hc, hp, he), refl), refl), refl), refl), refl)), refl)) (events_lawful format)))))

abbrev pub behind_version : ProfileValue → List ℕ
behind_version p =
    spelled_u16 p.job ++ (spelled_u64 p.seed ++ (spelled_u64 p.cycle_time ++ (spelled_params p.params ++ spelled_events p.format p.events)))

abbrev IsAny : ProfileValue → Type 0
IsAny p = AreFields p.format p

some_profile : (format : Format) → (p : ProfileValue) × IsAny p × (p.format ≡ format)
some_profile format =
    (a_profile format 0 0 1 [] [], ((lit≤ tt, lit≤ tt), (lit≤ tt, lit≤ tt), (lit≤ tt, lit≤ tt), no_params, no_events format), refl)

fields_lawful : IsLawful IsAny (λ p. magic ++ (spelled_u16 (version p.format) ++ behind_version p)) profile_at
unfolding profile_at
fields_lawful =
    lawful_then IsLast (λ n. magic) magic_at IsAny (λ p. 67) (λ p. spelled_u16 (version p.format) ++ behind_version p) from_version
    (λ p h. refl) (λ last h. let p = some_profile Two in (p.0, p.1, sym h)) magic_lawful (λ last h.
    lawful_then AnyFormat (λ f. spelled_u16 (version f)) version_at (λ p. IsAny p × (67 ≡ last)) (λ p. p.format) behind_version from_job
    (λ p k. tt) (λ f k. let p = some_profile f in (p.0, (p.1, sym h), p.2)) version_lawful (λ format k.
    lawful_values (IsIn format) (λ p. (IsAny p × (67 ≡ last)) × (p.format ≡ format))
    (λ p. spelled_u16 p.job ++ (spelled_u64 p.seed ++ (spelled_u64 p.cycle_time
    ++ (spelled_params p.params ++ spelled_events format p.events)))) behind_version (from_job format)
    (λ p i. ((subst (λ (f : Format). AreFields f p) (sym i.1) i.0, sym h), i.1))
    (λ p i. (
      (subst (λ (f : Format). AreFields f p) i.1 i.0.0, i.1),
      ap
          (λ (f : Format). spelled_u16 p.job ++ (spelled_u64 p.seed ++ (spelled_u64 p.cycle_time
          ++ (spelled_params p.params ++ spelled_events f p.events)))) i.1,
    ))
    (job_lawful format)))

-- each event of its format, and all events of it
events_there : (format : Format) (events : List EventSpecValue) → All (IsEventOf format) events → All IsEvent events
    × KnowsPolicies format events
events_there One events h =
    (All-weaker (IsEventOf One) IsEvent (λ e k. k.0) events h, All-weaker (IsEventOf One) (λ e. e.policy ≡ Last) (λ e k. k.1) events h)
events_there Two events h = (All-weaker (IsEventOf Two) IsEvent (λ e k. k.0) events h, tt)

events_back : (format : Format) (events : List EventSpecValue) → All IsEvent events → KnowsPolicies format events
    → All (IsEventOf format) events
events_back One [] h k = All-nil (IsEventOf One)
events_back One (e ∷ events) h k =
    All-cons (IsEventOf One) e events (All-head IsEvent e events h, All-head (λ (x : EventSpecValue). x.policy ≡ Last) e events k)
    (events_back One events (All-tail IsEvent e events h) (All-tail (λ (x : EventSpecValue). x.policy ≡ Last) e events k))
events_back Two events h k = All-weaker IsEvent (IsEventOf Two) (λ e i. (i, tt)) events h

header_there : (p : ProfileValue) → IsAny p → IsHeader p
header_there p h =
    let e = events_there p.format p.events h.4.1 in
    record {
      job = omega (arith, h.0.1);
      seed = omega (arith, h.1.1);
      cycle_time = (h.2.0, omega (arith, h.2.1));
      few_params = h.3.0.1;
      params = h.3.1;
      few_events = h.4.0.1;
      events = e.0;
      policies = e.1;
    }

header_back : (p : ProfileValue) → IsHeader p → IsAny p
header_back p h = (
  (omega arith, omega (arith, h.job)),
  (omega arith, omega (arith, h.seed)),
  (h.cycle_time.0, omega (arith, h.cycle_time.1)),
  ((omega arith, h.few_params), h.params),
  ((omega arith, h.few_events), events_back p.format p.events h.events h.policies),
)

pub header_is : (p : ProfileValue) → spelled_header p ≡ magic ++ (spelled_u16 (version p.format) ++ behind_version p)
unfolding spelled_header spelled_numbers
header_is p =
    let a = spelled_u16 (version p.format) in
    let b = spelled_u16 p.job in
    let c = spelled_u64 p.seed in
    let d = spelled_u64 p.cycle_time in
    let e = spelled_params p.params ++ spelled_events p.format p.events in
    append_assoc magic (a ++ (b ++ (c ++ d))) e
    ∙ ap (λ (xs : List ℕ). magic ++ xs) (append_assoc a (b ++ (c ++ d)) e
    ∙ ap (λ (xs : List ℕ). a ++ xs) (append_assoc b (c ++ d) e ∙ ap (λ (xs : List ℕ). b ++ xs) (append_assoc c d e)))

pub header_lawful : IsLawful IsHeader spelled_header profile_at
header_lawful =
    lawful_values IsAny IsHeader (λ p. magic ++ (spelled_u16 (version p.format) ++ behind_version p)) spelled_header profile_at header_there
    (λ p h. (header_back p h, header_is p)) fields_lawful
