-- Elements of an Init frame are read as those of format 1.
use Rattle.std.proofs.Common.{◌≡◌, ℕ, zero, suc, List, [], ◌∷◌, ◌++◌, map, drop, Option, Some, None, refl, sym, ap, ◌∙◌, true}
use Rattle.std.proofs.lemmas.List.{map-append}
use Rattle.det_values.specs.declared.format.Format.TheVariants.{One}
use Rattle.det_values.specs.declared.frames.DrawnElement.{DrawnElement}
use Rattle.record_grammar.specs.Read.{Read, Got, More, Bad, ◌>>=◌, many, with_front}
use Rattle.record_grammar.specs.Grammar.{element_at, drawn_at}
use Rattle.record_view.specs.declared.stop.Stop.{Stop}
use Rattle.record_view.specs.declared.stop.Stop.TheVariants as stops
use Rattle.record_view.specs.declared.skip.Skip.{Skip}
use Rattle.record_view.specs.Parts.{undrawn}
use Rattle.record_view.specs.Skips.{Ended, IsSkip}
use Rattle.record_view.specs.Walks.{is_got, list_got, stand_at, values_at}
use Rattle.record_view.proofs.Many.{many_one, many_none}

abbrev bytes_of : DrawnElement → List ℕ
bytes_of e = e.bytes

-- elements are the bytes of those without draws
pub bytes_undrawn : (es : List (List ℕ)) → map bytes_of (map undrawn es) ≡ es
bytes_undrawn [] = refl
bytes_undrawn (e ∷ es) = ap (λ (xs : List (List ℕ)). e ∷ xs) (bytes_undrawn es)

abbrev all_undrawn : Read (List (List ℕ)) → Read (List DrawnElement)
all_undrawn (Got x) = Got (map undrawn x.0, x.1)
all_undrawn More = More
all_undrawn (Bad reason left) = Bad reason left

abbrev all_bytes : Read (List DrawnElement) → Read (List (List ℕ))
all_bytes (Got x) = Got (map bytes_of x.0, x.1)
all_bytes More = More
all_bytes (Bad reason left) = Bad reason left

bytes_again : (r : Read (List (List ℕ))) → all_bytes (all_undrawn r) ≡ r
bytes_again (Got x) = ap (λ (es : List (List ℕ)). Got (es, x.1)) (bytes_undrawn x.0)
bytes_again More = refl
bytes_again (Bad reason left) = refl

abbrev with_first : {A : Type 0} → A → List A × List ℕ → Read (List A)
with_first x others = Got (x ∷ others.0, others.1)

first_undrawn : (e : List ℕ) (r : Read (List (List ℕ))) → (all_undrawn r >>= with_first (undrawn e)) ≡ all_undrawn (r >>= with_first e)
first_undrawn e (Got x) = refl
first_undrawn e More = refl
first_undrawn e (Bad reason left) = refl

then_undrawn : (n : ℕ) → ((bytes : List ℕ) → many (drawn_at One) n bytes ≡ all_undrawn (many element_at n bytes))
    → (r : Read (List ℕ))
    → ((r >>= λ e. Got (undrawn e.0, e.1)) >>= λ first. many (drawn_at One) n first.1 >>= with_first first.0)
    ≡ all_undrawn (r >>= λ first. many element_at n first.1 >>= with_first first.0)
then_undrawn n others (Got x) =
    ap (λ (q : Read (List DrawnElement)). q >>= with_first (undrawn x.0)) (others x.1) ∙ first_undrawn x.0 (many element_at n x.1)
then_undrawn n others More = refl
then_undrawn n others (Bad reason left) = refl

one_undrawn : (bytes : List ℕ) → drawn_at One bytes ≡ (element_at bytes >>= λ e. Got (undrawn e.0, e.1))
unfolding drawn_at
one_undrawn bytes = refl

many_undrawn : (n : ℕ) (bytes : List ℕ) → many (drawn_at One) n bytes ≡ all_undrawn (many element_at n bytes)
many_undrawn zero bytes = many_none (drawn_at One) bytes ∙ ap (λ (r : Read (List (List ℕ))). all_undrawn r) (sym (many_none element_at bytes))
many_undrawn (suc n) bytes =
    many_one (drawn_at One) n bytes
    ∙ ap (λ (q : Read DrawnElement). q >>= λ first. many (drawn_at One) n first.1 >>= with_first first.0) (one_undrawn bytes)
    ∙ then_undrawn n (many_undrawn n) (element_at bytes)
    ∙ ap (λ (r : Read (List (List ℕ))). all_undrawn r) (sym (many_one element_at n bytes))

pub undrawn_stand : (n : ℕ) (bytes : List ℕ) (es : List (List ℕ)) (rest : List ℕ) → many element_at n bytes ≡ Got (es, rest)
    → (stand_at (drawn_at One) n bytes ≡ true) × (values_at (drawn_at One) n bytes ≡ map undrawn es)
undrawn_stand n bytes es rest e =
    let all : many (drawn_at One) n bytes ≡ Got (map undrawn es, rest) =
    many_undrawn n bytes ∙ ap (λ (r : Read (List (List ℕ))). all_undrawn r) e in
    (ap (λ (q : Read (List DrawnElement)). is_got q) all, ap (λ (q : Read (List DrawnElement)). list_got q) all)

-- ---- elements that are skipped

many_bytes : (n : ℕ) (bytes : List ℕ) → all_bytes (many (drawn_at One) n bytes) ≡ many element_at n bytes
many_bytes n bytes = ap (λ (r : Read (List DrawnElement)). all_bytes r) (many_undrawn n bytes) ∙ bytes_again (many element_at n bytes)

front_bytes : (front : List DrawnElement) (r : Read (List DrawnElement))
    → all_bytes (with_front front r) ≡ with_front (map bytes_of front) (all_bytes r)
front_bytes front (Got x) = ap (λ (es : List (List ℕ)). Got (es, x.1)) (map-append bytes_of front x.0)
front_bytes front More = refl
front_bytes front (Bad reason left) = refl

bytes_from : (front : List DrawnElement) (n : ℕ) (bytes : List ℕ) → all_bytes (with_front front (many (drawn_at One) n bytes))
    ≡ with_front (map bytes_of front) (many element_at n bytes)
bytes_from front n bytes =
    front_bytes front (many (drawn_at One) n bytes)
    ∙ ap (λ (r : Read (List (List ℕ))). with_front (map bytes_of front) r) (many_bytes n bytes)

ended_undrawn : (stop : Option Stop) (left : ℕ) (rest : List ℕ) → Ended (drawn_at One) stop left rest → Ended element_at stop left rest
ended_undrawn None left rest h = h
ended_undrawn (Some stops.More) left rest h = sym (many_bytes left rest) ∙ ap (λ (r : Read (List DrawnElement)). all_bytes r) h
ended_undrawn (Some (stops.Bad reason at)) left rest h =
    sym (many_bytes left rest) ∙ ap (λ (r : Read (List DrawnElement)). all_bytes r) h

pub skip_undrawn : (most : ℕ) (skip : Skip) (bytes : List ℕ) → IsSkip (drawn_at One) most skip bytes → IsSkip element_at most skip bytes
skip_undrawn most skip bytes h =
    record {
      done = map bytes_of h.done;
      continues = record {
        in_range = h.continues.in_range;
        same = λ tail.
            sym (bytes_from h.done skip.left (drop skip.read bytes ++ tail))
            ∙ ap (λ (r : Read (List DrawnElement)). all_bytes r) (h.continues.same tail) ∙ bytes_from [] most (bytes ++ tail);
      };
      ended = ended_undrawn skip.stop skip.left (drop skip.read bytes) h.ended;
    }
