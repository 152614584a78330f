-- Elements, and what is after them.
use Rattle.std.proofs.Common.{◌≡◌, ◌==◌, ◌↔◌, ℕ, suc, ◌+◌, ◌-◌, ◌<◌, ◌≤◌, Bool, true, false, IsTrue, List, [], ◌∷◌, ◌++◌, length, drop, get_or, refl, sym, ap, subst, ◌∙◌, arith, inl, inr}
use Rattle.std.specs.Int.{w32, from_be_bytes}
use Rattle.std.proofs.lemmas.Bool.{cases_lt}
use Rattle.std.proofs.lemmas.Bool.Decides.{nat_tests}
use Rattle.std.specs.List.{flat_map, All}
use Rattle.std.proofs.lemmas.List.{drop_all, append-nil}
use Rattle.det_values.specs.declared.format.Format.{Format}
use Rattle.det_values.specs.declared.format.Format.TheVariants.{One, Two}
use Rattle.det_values.specs.declared.frames.DrawnElement.{DrawnElement}
use Rattle.det_values.specs.Spelling.{an_element}
use Rattle.record_grammar.specs.declared.limits.Limits.TheVariants.{Between}
use Rattle.record_grammar.specs.Read.{Read, Got, ◌>>=◌, many, with_front}
use Rattle.record_grammar.specs.Numbers.{number, IsWithin}
use Rattle.record_grammar.specs.Grammar.{element_at, drawn_at}
use Rattle.record_grammar.proofs.Steady.{bind_got, got_is}
use Rattle.record_grammar.proofs.SteadyFields.{drawn_steady}
use Rattle.record_grammar.proofs.lemmas.record_laws.Lawful.{IsLawful}
use Rattle.record_grammar.proofs.lemmas.record_laws.LawfulMany.{lawful_many}
use Rattle.record_grammar.proofs.lemmas.record_laws.LawfulParts.{drawn_lawful, some_drawn}
use Rattle.record_grammar.specs.Spelling.{AreBytes, IsDrawn, spelled_drawn}
use Rattle.c_types.specs.Elements.{AreElements}
use Rattle.record_view.specs.declared.stop.Stop.{Stop}
use Rattle.record_view.specs.Gives.{Stops}
use Rattle.record_view.proofs.Many.{HasMany, HasMany-done, many_one}
use Rattle.record_view.proofs.Suffix.{IsBehind, behind_at, behind_read, behind_then}
use Rattle.record_view.proofs.Walked.{never_both}
use Rattle.record_view.proofs.Wide.{wide, value}
use Rattle.det_reading_c.proofs.Numbers.{four, long_enough}

pub any_four : (v : ℕ) (bytes : List ℕ) → 4 ≤ length bytes → ((i : ℕ) → get_or bytes i 0 < 256)
    → v ≡ from_be_bytes w32 (get_or bytes 0 0 ∷ get_or bytes 1 0 ∷ get_or bytes 2 0 ∷ get_or bytes 3 0 ∷ []) → v ≤ 4294967295
    → number 4 0 4294967295 bytes ≡ Got (v, drop 4 bytes)
any_four v bytes le small is most =
    let e : v ≡ value 4 0 bytes = is ∙ four bytes le in
    let low : 0 ≤ v = omega arith in
    wide (Between 0 4294967295) 4 0 bytes le small (subst (λ (n : ℕ). IsWithin (Between 0 4294967295) n) e (low, most))
    ∙ ap (λ (n : ℕ). got n) (sym e)
  where
    got : ℕ → Read ℕ
    got n = Got (n, drop 4 bytes)

pub none_of_four : (bytes : List ℕ) → length bytes < 4 → (y : ℕ × List ℕ) → number 4 0 4294967295 bytes ≡ Got y → ⊥
none_of_four bytes lt y e = absurd (omega (arith, long_enough (Between 0 4294967295) 4 bytes y.0 y.1 e))

-- ---- an element, from its bytes

pub drawn_one : (bytes used rest : List ℕ) → element_at bytes ≡ Got (used, rest) → drawn_at One bytes ≡ Got (an_element used 0, rest)
unfolding drawn_at
drawn_one bytes used rest e =
    ap (λ (r : Read (List ℕ)). r >>= λ x. Got (an_element x.0 0, x.1)) e

pub drawn_two : (bytes used rest after : List ℕ) (draws : ℕ) → element_at bytes ≡ Got (used, rest)
    → number 4 0 4294967295 rest ≡ Got (draws, after) → drawn_at Two bytes ≡ Got (an_element used draws, after)
unfolding drawn_at
drawn_two bytes used rest after draws e n =
    ap (λ (r : Read (List ℕ)). r >>= λ x. number 4 0 4294967295 x.1 >>= λ d. Got (an_element x.0 d.0, d.1)) e
    ∙ ap (λ (r : Read ℕ). r >>= λ d. Got (an_element used d.0, d.1)) n

pub no_draws : (bytes used rest : List ℕ) → element_at bytes ≡ Got (used, rest)
    → ((y : ℕ × List ℕ) → number 4 0 4294967295 rest ≡ Got y → ⊥) → (y : DrawnElement × List ℕ) → drawn_at Two bytes ≡ Got y → ⊥
unfolding drawn_at
no_draws bytes used rest e none y h =
    let moved : (number 4 0 4294967295 rest >>= λ d. Got (an_element used d.0, d.1)) ≡ Got y =
    sym (ap (λ (r : Read (List ℕ)). r >>= λ x. number 4 0 4294967295 x.1 >>= λ d. Got (an_element x.0 d.0, d.1)) e) ∙ h in
    let b = bind_got (number 4 0 4294967295 rest) (λ d. Got (an_element used d.0, d.1)) y moved in
    none b.0 b.1

pub no_element : (format : Format) (stop : Stop) (bytes : List ℕ) → Stops stop (element_at bytes) → (y : DrawnElement × List ℕ)
    → drawn_at format bytes ≡ Got y → ⊥
unfolding drawn_at
no_element One stop bytes s y e =
    let b = bind_got (element_at bytes) (λ x. Got (an_element x.0 0, x.1)) y e in never_both stop (element_at bytes) b.0 s b.1
no_element Two stop bytes s y e =
    let b = bind_got (element_at bytes) (λ x. number 4 0 4294967295 x.1 >>= λ d. Got (an_element x.0 d.0, d.1)) y e in
    never_both stop (element_at bytes) b.0 s b.1

-- ---- what is after it

pub suffix : (n : ℕ) (bytes : List ℕ) → IsBehind (drop n bytes) bytes
suffix n bytes = elim (cases_lt (length bytes) n) [
  | inl lt ↦ behind_at (length bytes) (drop n bytes) bytes (omega arith)
      (drop_all n bytes (omega arith) ∙ sym (drop_all (length bytes) bytes (omega arith)))
  | inr le ↦ behind_at n (drop n bytes) bytes le refl
]

pub after_is : (format : Format) (at : ℕ) (bytes : List ℕ) (x : DrawnElement) (after : List ℕ) → drawn_at format (drop at bytes) ≡ Got (x, after)
    → IsBehind after bytes
after_is format at bytes x after e =
    behind_then bytes (drop at bytes) after (suffix at bytes) (behind_read (drawn_at format) (drawn_steady format) (drop at bytes) x after e)

abbrev pub got_element : DrawnElement → List ℕ → Read DrawnElement
got_element x rest = Got (x, rest)

-- ---- elements one after another

elements_lawful : (format : Format) (count : ℕ)
    → IsLawful (λ xs. (length xs ≡ count) × All (IsDrawn format) xs) (flat_map (spelled_drawn format)) (many (drawn_at format) count)
elements_lawful format count =
    let d = some_drawn format in
    lawful_many (IsDrawn format) (spelled_drawn format) (drawn_at format) d.0 d.1 (drawn_lawful format) count

-- what is read as these elements without a rest is their spelling
pub are_there : (format : Format) (count : ℕ) (bytes : List ℕ) (elements : List DrawnElement) → AreBytes bytes
    → many (drawn_at format) count bytes ≡ Got (elements, []) → AreElements format count bytes
are_there format count bytes elements are e =
    let s = (elements_lawful format count).sound bytes (elements, []) are e in (
      elements,
      s.0.0,
      record { fields = s.0.1; spelling = s.1 ∙ append-nil (flat_map (spelled_drawn format) elements) },
    )

-- the spelling of elements is read as them
pub are_read : (format : Format) (count : ℕ) (bytes : List ℕ) (h : AreElements format count bytes)
    → many (drawn_at format) count bytes ≡ Got (h.0, [])
are_read format count bytes h =
    ap (many (drawn_at format) count) (h.2.spelling ∙ sym (append-nil (flat_map (spelled_drawn format) h.0)))
    ∙ (elements_lawful format count).again h.0 [] (h.1, h.2.fields)

pub no_elements : (format : Format) (count index : ℕ) (front : List DrawnElement) (rest bytes : List ℕ) → index < count
    → ((y : DrawnElement × List ℕ) → drawn_at format rest ≡ Got y → ⊥) → HasMany (drawn_at format) count index front rest bytes
    → IsTrue false ↔ AreElements format count bytes
no_elements format count index front rest bytes lt none h = (λ so. absurd cc, λ there. absurd (stopped (there.0, []) (are_read format count bytes there)))
  where
    first : (n : ℕ) (left : ℕ) → left ≡ suc n → (x : List DrawnElement × List ℕ) → with_front front (many (drawn_at format) left rest) ≡ Got x → ⊥
    first n left is x e =
        let m = bind_got (many (drawn_at format) left rest) (λ y. Got (front ++ y.0, y.1)) x e in
        let one : (drawn_at format rest >>= λ y. many (drawn_at format) n y.1 >>= λ others. Got (y.0 ∷ others.0, others.1)) ≡ Got m.0 =
        sym (many_one (drawn_at format) n rest) ∙ ap (λ (k : ℕ). many (drawn_at format) k rest) (sym is) ∙ m.1 in
        let b = bind_got (drawn_at format rest) (λ y. many (drawn_at format) n y.1 >>= λ others. Got (y.0 ∷ others.0, others.1)) m.0 one in
        none b.0 b.1

    stopped : (x : List DrawnElement × List ℕ) → many (drawn_at format) count bytes ≡ Got x → ⊥
    stopped x e =
        let k : count - index ≡ suc (count - (index + 1)) = omega arith in
        first (count - (index + 1)) (count - index) k x (h.so_far ∙ e)

pub elements_end : (format : Format) (count index : ℕ) (front : List DrawnElement) (rest bytes : List ℕ) (found : Bool) → count ≤ index
    → AreBytes bytes → found ≡ (length rest == 0) → HasMany (drawn_at format) count index front rest bytes
    → IsTrue found ↔ AreElements format count bytes
elements_end format count index front rest bytes found le are is h = (
  λ so. are_there format count bytes front are (read ∙ ap (λ (xs : List ℕ). elements_got front xs) (nothing_left rest found is so)),
  λ there. is_nothing rest found is
      (ap (λ (x : List DrawnElement × List ℕ). x.1) (got_is (front, rest) (there.0, []) (sym read ∙ are_read format count bytes there))),
)
  where
    elements_got : List DrawnElement → List ℕ → Read (List DrawnElement)
    elements_got xs ys = Got (xs, ys)

    read : many (drawn_at format) count bytes ≡ Got (front, rest)
    read = HasMany-done (drawn_at format) count index front rest bytes le h

    none : (xs : List ℕ) → length xs ≡ 0 → xs ≡ []
    none [] e = refl
    none (x ∷ xs) e = absurd (omega (arith, e))

    nothing_left : (xs : List ℕ) (b : Bool) → b ≡ (length xs == 0) → IsTrue b → xs ≡ []
    nothing_left xs b e so =
        let test : (length xs == 0) ≡ true = sym e ∙ so in
        none xs (grind (arith, nat_tests))

    is_nothing : (xs : List ℕ) (b : Bool) → b ≡ (length xs == 0) → xs ≡ [] → IsTrue b
    is_nothing xs b e empty =
        let zero : length xs ≡ 0 = ap length empty in
        let test : (length xs == 0) ≡ true = grind (arith, nat_tests) in
        e ∙ test
