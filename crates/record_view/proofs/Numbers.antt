-- The numbers that begin with some bytes.
use Rattle.std.proofs.Common.{◌≡◌, ℕ, zero, suc, ◌+◌, ◌*◌, ◌-◌, ◌^◌, ◌<◌, ◌≤◌, List, [], ◌∷◌, length, get_or, drop, Bool, true, false, cond}
use Rattle.std.proofs.Common.{if◌then◌else◌, refl, sym, ap, subst, ◌∙◌, arith, lit<, add-one, drop-cons, length-drop}
use Rattle.std.proofs.lemmas.List.{nil_from_length}
use Rattle.record_grammar.specs.declared.limits.Limits.{Limits}
use Rattle.record_grammar.specs.declared.record_fault.Reason.TheVariants.{Range}
use Rattle.record_grammar.specs.Read.{Read, Got, More, Bad}
use Rattle.record_grammar.specs.Numbers.{lowest, highest, can_be, number_from, IsWithin}
use Rattle.record_grammar.specs.declared.limits.Limits.TheVariants.{Between, Around}
use Rattle.std.proofs.lemmas.Bool.Decides.{nat_tests}

pub highest-mono : (k v w : ℕ) → v ≤ w → highest k v ≤ highest k w
unfolding highest
highest-mono zero v w h = h
highest-mono (suc k) v w h = highest-mono k (v * 256 + 255) (w * 256 + 255) (omega arith)

pub highest-grows : (k v : ℕ) → v ≤ highest k v
unfolding highest
highest-grows zero v = omega arith
highest-grows (suc k) v = let h : v * 256 + 255 ≤ highest k (v * 256 + 255) = highest-grows k (v * 256 + 255) in omega arith

pub lowest-le-highest : (k v w : ℕ) → v ≤ w → lowest k v ≤ highest k w
unfolding lowest highest
lowest-le-highest zero v w h = h
lowest-le-highest (suc k) v w h = lowest-le-highest k (v * 256) (w * 256 + 255) (omega arith)

pub highest-step : (k v b : ℕ) → b < 256 → highest k (v * 256 + b) ≤ highest (suc k) v
unfolding highest
highest-step k v b h = highest-mono k (v * 256 + b) (v * 256 + 255) (omega arith)

pub highest-fits : (w : ℕ) → w ≤ 8 → highest w 0 < 2 ^ 64
unfolding highest
highest-fits zero h = lit< tt
highest-fits (suc zero) h = lit< tt
highest-fits (suc (suc zero)) h = lit< tt
highest-fits (suc (suc (suc zero))) h = lit< tt
highest-fits (suc (suc (suc (suc zero)))) h = lit< tt
highest-fits (suc (suc (suc (suc (suc zero))))) h = lit< tt
highest-fits (suc (suc (suc (suc (suc (suc zero)))))) h = lit< tt
highest-fits (suc (suc (suc (suc (suc (suc (suc zero))))))) h = lit< tt
highest-fits (suc (suc (suc (suc (suc (suc (suc (suc zero)))))))) h = lit< tt
highest-fits (suc (suc (suc (suc (suc (suc (suc (suc (suc n))))))))) h = absurd (omega arith)

-- what the loop that fills a number up keeps
pub record HasFilled (left counter low high value : ℕ) : Type 0 where
  pub low_is : lowest (left - counter) low ≡ lowest left value
  pub high_is : highest (left - counter) high ≡ highest left value
  pub order : low ≤ high

pub HasFilled-next : (left counter low high value : ℕ) → counter < left → HasFilled left counter low high value
    → HasFilled left (counter + 1) (low * 256) (high * 256 + 255) value
unfolding lowest highest
HasFilled-next left counter low high value lt h =
    let k : left - counter ≡ suc (left - (counter + 1)) = omega arith in
    record {
      low_is = ap (λ (n : ℕ). lowest n low) (sym k) ∙ h.low_is;
      high_is = ap (λ (n : ℕ). highest n high) (sym k) ∙ h.high_is;
      order = let o : low ≤ high = h.order in omega arith;
    }

pub HasFilled-room : (left counter low high value : ℕ) → counter < left → highest left value < 2 ^ 64
    → HasFilled left counter low high value → high * 256 + 255 < 2 ^ 64
unfolding highest
HasFilled-room left counter low high value lt fits h =
    let k : left - counter ≡ suc (left - (counter + 1)) = omega arith in
    let e : highest (left - (counter + 1)) (high * 256 + 255) ≡ highest left value = ap (λ (n : ℕ). highest n high) (sym k) ∙ h.high_is in
    let g : high * 256 + 255 ≤ highest (left - (counter + 1)) (high * 256 + 255) =
    highest-grows (left - (counter + 1)) (high * 256 + 255) in
    omega arith

pub HasFilled-done : (left counter low high value : ℕ) → left ≤ counter → HasFilled left counter low high value → (low ≡ lowest left value)
    × (high ≡ highest left value)
unfolding lowest highest
HasFilled-done left counter low high value le h =
    let k : left - counter ≡ zero = omega arith in
    (ap (λ (n : ℕ). lowest n low) (sym k) ∙ h.low_is, ap (λ (n : ℕ). highest n high) (sym k) ∙ h.high_is)

-- ---- the loop over a number's bytes

pub record HasRead (limits : Limits) (width read value : ℕ) (bytes : List ℕ) : Type 0 where
  pub in_range : read ≤ length bytes
  pub so_far : number_from limits (width - read) value (drop read bytes) ≡ number_from limits width 0 bytes
  pub fits : highest (width - read) value < 2 ^ 64

pub HasRead-opening : (limits : Limits) (width : ℕ) (bytes : List ℕ) → width ≤ 8 → HasRead limits width 0 0 bytes
HasRead-opening limits width bytes le =
    let k : width - 0 ≡ width = omega arith in
    record { in_range = omega arith; so_far = ap (λ (n : ℕ). number_from limits n 0 bytes) k; fits = rw k (highest-fits width le) }

one_byte : (limits : Limits) (left value b : ℕ) (after : List ℕ) → number_from limits (suc left) value (b ∷ after)
    ≡ (if can_be limits left (value * 256 + b) then number_from limits left (value * 256 + b) after else Bad Range (length (b ∷ after)))
unfolding number_from
one_byte limits left value b after = refl

HasRead-one : (limits : Limits) (width read value : ℕ) (bytes : List ℕ) → read < width → read < length bytes
    → HasRead limits width read value bytes
    → number_from limits width 0 bytes
    ≡ (if can_be limits (width - 1 - read) (value * 256 + get_or bytes read 0) then number_from limits (width - 1 - read)
    (value * 256 + get_or bytes read 0) (drop (read + 1) bytes) else Bad Range (length bytes - read))
HasRead-one limits width read value bytes lt within h =
    let k : width - read ≡ suc (width - 1 - read) = omega arith in
    let d : drop read bytes ≡ get_or bytes read 0 ∷ drop (read + 1) bytes = rw add-one (drop-cons bytes read 0 within) in
    let l : suc (length (drop (read + 1) bytes)) ≡ length bytes - read = omega (arith, length-drop (read + 1) bytes) in
    let one = one_byte limits (width - 1 - read) value (get_or bytes read 0) (drop (read + 1) bytes) in
    let two : number_from limits (suc (width - 1 - read)) value (get_or bytes read 0 ∷ drop (read + 1) bytes)
    ≡ (if can_be limits (width - 1 - read) (value * 256 + get_or bytes read 0) then number_from limits (width - 1 - read)
    (value * 256 + get_or bytes read 0) (drop (read + 1) bytes) else Bad Range (length bytes - read)) = rw (← l) one in
    sym h.so_far ∙ ap (λ (n : ℕ). number_from limits n value (drop read bytes)) k
    ∙ ap (λ (xs : List ℕ). number_from limits (suc (width - 1 - read)) value xs) d ∙ two

pub HasRead-room : (limits : Limits) (width read value b : ℕ) (bytes : List ℕ) → read < width → b < 256
    → HasRead limits width read value bytes
    → (value * 256 + b < 2 ^ 64) × (highest (width - 1 - read) (value * 256 + b) < 2 ^ 64)
HasRead-room limits width read value b bytes lt small h =
    let k : width - read ≡ suc (width - 1 - read) = omega arith in
    let f : highest (suc (width - 1 - read)) value < 2 ^ 64 = rw (← k) h.fits in
    let s : highest (width - 1 - read) (value * 256 + b) ≤ highest (suc (width - 1 - read)) value =
    highest-step (width - 1 - read) value b small in
    let g : value * 256 + b ≤ highest (width - 1 - read) (value * 256 + b) = highest-grows (width - 1 - read) (value * 256 + b) in
    (omega arith, omega arith)

pub HasRead-next : (limits : Limits) (width read value : ℕ) (bytes : List ℕ) → read < width → read < length bytes
    → get_or bytes read 0 < 256 → can_be limits (width - 1 - read) (value * 256 + get_or bytes read 0) ≡ true
    → HasRead limits width read value bytes → HasRead limits width (read + 1) (value * 256 + get_or bytes read 0) bytes
HasRead-next limits width read value bytes lt within small ok h =
    let j : width - (read + 1) ≡ width - 1 - read = omega arith in
    let one = HasRead-one limits width read value bytes lt within h in
    record {
      in_range = omega arith;
      so_far = ap (λ (n : ℕ). number_from limits n (value * 256 + get_or bytes read 0) (drop (read + 1) bytes)) j ∙ sym (rw ok at one);
      fits = rw j ((HasRead-room limits width read value (get_or bytes read 0) bytes lt small h).1);
    }

pub HasRead-bad : (limits : Limits) (width read value : ℕ) (bytes : List ℕ) → read < width → read < length bytes
    → can_be limits (width - 1 - read) (value * 256 + get_or bytes read 0) ≡ false
    → HasRead limits width read value bytes → number_from limits width 0 bytes ≡ Bad Range (length bytes - read)
HasRead-bad limits width read value bytes lt within not h =
    let one = HasRead-one limits width read value bytes lt within h in
    rw not at one

pub HasRead-short : (limits : Limits) (width read value : ℕ) (bytes : List ℕ) → read < width → length bytes ≤ read
    → HasRead limits width read value bytes → number_from limits width 0 bytes ≡ More
unfolding number_from
HasRead-short limits width read value bytes lt past h =
    let k : width - read ≡ suc (width - 1 - read) = omega arith in
    let none : drop read bytes ≡ [] = nil_from_length (drop read bytes) (omega (arith, length-drop read bytes)) in
    let one : number_from limits (suc (width - 1 - read)) value [] ≡ More = refl in
    sym h.so_far ∙ ap (λ (n : ℕ). number_from limits n value (drop read bytes)) k
    ∙ ap (λ (xs : List ℕ). number_from limits (suc (width - 1 - read)) value xs) none ∙ one

pub HasRead-done : (limits : Limits) (width read value : ℕ) (bytes : List ℕ) → width ≤ read → read ≤ width
    → HasRead limits width read value bytes → number_from limits width 0 bytes ≡ Got (value, drop width bytes)
unfolding number_from
HasRead-done limits width read value bytes le ge h =
    let k : width - read ≡ zero = omega arith in
    let j : read ≡ width = omega arith in
    sym h.so_far ∙ ap (λ (n : ℕ). number_from limits n value (drop read bytes)) k
    ∙ ap (λ (n : ℕ). number_from limits zero value (drop n bytes)) j

-- ---- a number that was read lies within its limits

pub can_be-within : (limits : Limits) (v : ℕ) → can_be limits 0 v ≡ true → IsWithin limits v
unfolding lowest highest
can_be-within (Between least most) v e = grind (arith, nat_tests)
can_be-within (Around most) v e = grind (arith, nat_tests)

abbrev got : {A : Type 0} → A × List ℕ → Read A
got x = Got x

chosen_got : {A : Type 0} (b : Bool) (r : Read A) (left : ℕ) (x : A × List ℕ) → cond b r (Bad Range left) ≡ Got x → (b ≡ true) × (r ≡ Got x)
chosen_got true r left x e = (refl, e)
chosen_got false r left x e = absurd cc

got_is : {A : Type 0} (x y : A × List ℕ) → got x ≡ got y → x ≡ y
got_is x y e = cc

last_within : (limits : Limits) (v : ℕ) (bytes : List ℕ) (x : ℕ × List ℕ) → can_be limits 0 v ≡ true → number_from limits 0 v bytes ≡ Got x
    → IsWithin limits x.0
unfolding number_from
last_within limits v bytes x ok e = subst (λ (y : ℕ × List ℕ). IsWithin limits y.0) (got_is (v, bytes) x e) (can_be-within limits v ok)

pub number_within : (limits : Limits) (width v : ℕ) (bytes : List ℕ) (x : ℕ × List ℕ) → 0 < width → number_from limits width v bytes ≡ Got x
    → IsWithin limits x.0
unfolding number_from
number_within limits zero v bytes x h e = absurd (omega arith)
number_within limits (suc left) v [] x h e = absurd cc
number_within limits (suc zero) v (b ∷ bytes) x h e =
    let g = chosen_got (can_be limits 0 (v * 256 + b)) (number_from limits 0 (v * 256 + b) bytes) (length (b ∷ bytes)) x e in
    last_within limits (v * 256 + b) bytes x g.0 g.1
number_within limits (suc (suc left)) v (b ∷ bytes) x h e =
    let g = chosen_got (can_be limits (suc left) (v * 256 + b)) (number_from limits (suc left) (v * 256 + b) bytes) (length (b ∷ bytes)) x e
    in
    number_within limits (suc left) (v * 256 + b) bytes x (omega arith) g.1

-- a number takes as many bytes as it has
pub number_takes : (limits : Limits) (width v : ℕ) (bytes : List ℕ) (x : ℕ × List ℕ) → number_from limits width v bytes ≡ Got x
    → length bytes ≡ width + length x.1
unfolding number_from
number_takes limits zero v bytes x e =
    let l : length bytes ≡ length x.1 = ap (λ (y : ℕ × List ℕ). length y.1) (got_is (v, bytes) x e) in omega arith
number_takes limits (suc left) v [] x e = absurd cc
number_takes limits (suc left) v (b ∷ bytes) x e =
    let g = chosen_got (can_be limits left (v * 256 + b)) (number_from limits left (v * 256 + b) bytes) (length (b ∷ bytes)) x e in
    omega (arith, number_takes limits left (v * 256 + b) bytes x g.1)
