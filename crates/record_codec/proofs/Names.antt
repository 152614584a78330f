-- Names and policies, one after another.
use Rattle.std.proofs.Common.{◌≡◌, ℕ, suc, ◌+◌, ◌-◌, ◌<◌, ◌≤◌, Bool, true, false, ◌&&◌, cond, List, [], ◌∷◌, ◌++◌, length, take, drop}
use Rattle.std.proofs.Common.{get_or, refl, sym, ap, ◌∙◌, arith, length-drop, length-take, drop-cons, add-one}
use Rattle.std.proofs.lemmas.List.{take_more}
use Rattle.std.proofs.lemmas.List.Folds.{list_all_more}
use Rattle.std.proofs.lemmas.List.Elements.{All-push, All-nil}
use Rattle.std.proofs.lemmas.Bool.Decides.{nat_tests}
use Rattle.std.specs.List.{list_all}
use Rattle.det_values.specs.declared.format.Format.{Format}
use Rattle.det_values.specs.declared.format.Format.TheVariants.{One, Two}
use Rattle.det_values.specs.declared.event.Policy.TheVariants.{Last}
use Rattle.det_values.specs.Values.{EventSpecValue}
use Rattle.det_values.specs.Limits.{allowed_in_name, is_event_name, KnowsPolicies}
use Rattle.record_grammar.specs.declared.record_fault.Reason.TheVariants.{Range}
use Rattle.record_grammar.specs.Read.{Read, Got, Bad, many}
use Rattle.record_grammar.specs.Grammar.{name_byte_at}
use Rattle.record_grammar.proofs.Steady.{got_is}
use Rattle.record_codec.specs.Policies.{KnowsPolicy}
use Rattle.record_codec.specs.declared.header_stop.HeaderStop.{HeaderStop}
use Rattle.record_codec.specs.declared.header_stop.HeaderStop.TheVariants as stops
use Rattle.record_codec.specs.Gives.{Stops}
use Rattle.record_view.proofs.Many.{HasMany, HasMany-begin, HasMany-next, HasMany-stops, HasMany-done}

-- one of many values can't be read
pub HasMany-ends : {A : Type 0} (item : List ℕ → Read A) (count counter : ℕ) (front : List A) (rest bytes : List ℕ) (stop : HeaderStop)
    → counter < count → Stops stop (item rest) → HasMany item count counter front rest bytes → Stops stop (many item count bytes)
HasMany-ends item count counter front rest bytes stops.Memory lt s h = tt
HasMany-ends item count counter front rest bytes (stops.Bytes stop) lt s h = HasMany-stops item count counter front rest bytes stop lt s h

pub knows_none : (format : Format) → KnowsPolicies format []
knows_none One = All-nil (λ (e : EventSpecValue). e.policy ≡ Last)
knows_none Two = tt

pub knows_push : (format : Format) (es : List EventSpecValue) (e : EventSpecValue) → KnowsPolicies format es → KnowsPolicy format e.policy
    → KnowsPolicies format (es ++ e ∷ [])
knows_push One es e h k = All-push (λ (e : EventSpecValue). e.policy ≡ Last) es e h k
knows_push Two es e h k = tt

chosen : (t : Bool) (b c : ℕ) (bytes then : List ℕ) (left : ℕ) → cond t (Got (b, bytes)) (Bad Range left) ≡ Got (c, then) → (t ≡ true)
    × (b ≡ c) × (bytes ≡ then)
chosen true b c bytes then left e =
    let p = got_is (b, bytes) (c, then) e in (refl, ap (λ (x : ℕ × List ℕ). x.0) p, ap (λ (x : ℕ × List ℕ). x.1) p)
chosen false b c bytes then left e = absurd cc

-- a byte of a name that was read
one_byte : (bytes then : List ℕ) (c : ℕ) → name_byte_at bytes ≡ Got (c, then) → (0 < length bytes) × (get_or bytes 0 0 ≡ c)
    × (allowed_in_name c ≡ true) × (drop 1 bytes ≡ then)
unfolding name_byte_at
one_byte [] then c e = absurd cc
one_byte (b ∷ bytes) then c e =
    let g = chosen (allowed_in_name b) b c bytes then (suc (length bytes)) e in
    (omega arith, g.1, ap allowed_in_name (sym g.1) ∙ g.0, g.2)

-- what the loop over a name's bytes keeps
pub record HasName (len counter : ℕ) (rest bytes : List ℕ) : Type 0 where
  pub within : counter ≤ length bytes
  pub rest_is : rest ≡ drop counter bytes
  pub so_far : HasMany name_byte_at len counter (take counter bytes) rest bytes
  pub good : list_all allowed_in_name (take counter bytes) ≡ true

pub HasName-begin : (len : ℕ) (bytes : List ℕ) → HasName len 0 bytes bytes
HasName-begin len bytes = record { within = omega arith; rest_is = refl; so_far = HasMany-begin name_byte_at len bytes; good = refl }

pub HasName-next : (len counter : ℕ) (rest bytes : List ℕ) (b : ℕ) (then : List ℕ) → counter < len → name_byte_at rest ≡ Got (b, then)
    → HasName len counter rest bytes → HasName len (counter + 1) then bytes
HasName-next len counter rest bytes b then lt e h =
    let o = one_byte rest then b e in
    let l : length rest ≡ length bytes - counter = ap length h.rest_is ∙ length-drop counter bytes in
    let inside : counter < length bytes = omega (arith, o.0, h.within) in
    let d : drop counter bytes ≡ get_or bytes counter 0 ∷ drop (counter + 1) bytes = rw add-one (drop-cons bytes counter 0 inside) in
    let r : rest ≡ get_or bytes counter 0 ∷ drop (counter + 1) bytes = h.rest_is ∙ d in
    let first : get_or bytes counter 0 ≡ b = sym (ap (λ (xs : List ℕ). get_or xs 0 0) r) ∙ o.1 in
    let t : take (counter + 1) bytes ≡ take counter bytes ++ b ∷ [] = take_more bytes counter 0 inside
    ∙ ap (λ (x : ℕ). take counter bytes ++ x ∷ []) first in
    record {
      within = omega arith;
      rest_is = sym (o.3) ∙ ap (drop 1) r;
      so_far = rw t (HasMany-next name_byte_at len counter (take counter bytes) rest bytes b then lt e h.so_far);
      good =
          list_all_more allowed_in_name bytes counter 0 inside
          ∙ ap (λ (x : ℕ). list_all allowed_in_name (take counter bytes) && allowed_in_name x) first ∙ cc (h.good, o.2);
    }

is_name : (len : ℕ) (bytes : List ℕ) → 1 ≤ len → len ≤ 32 → len ≤ length bytes → list_all allowed_in_name (take len bytes) ≡ true
    → is_event_name (take len bytes) ≡ true
is_name len bytes low high inside good =
    let l : length (take len bytes) ≡ len = omega (arith, length-take len bytes) in
    grind (arith, nat_tests)

abbrev got_many : List ℕ → List ℕ → Read (List ℕ)
got_many xs rest = Got (xs, rest)

pub HasName-done : (len counter : ℕ) (rest bytes : List ℕ) → 1 ≤ len → len ≤ 32 → len ≤ counter → counter ≤ len
    → HasName len counter rest bytes
    → (len ≤ length bytes) × (many name_byte_at len bytes ≡ Got (take len bytes, drop len bytes)) × (is_event_name (take len bytes) ≡ true)
HasName-done len counter rest bytes low high le ge h =
    let e : counter ≡ len = omega arith in
    let w : len ≤ length bytes = omega (arith, h.within) in
    let d = HasMany-done name_byte_at len counter (take counter bytes) rest bytes le h.so_far in (
      w,
      d ∙ ap (λ (xs : List ℕ). got_many (take counter bytes) xs) h.rest_is ∙ ap (λ (n : ℕ). got_many (take n bytes) (drop n bytes)) e,
      is_name len bytes low high w (rw e at h.good),
    )
