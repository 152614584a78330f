-- The lines of a child, byte after byte.
use Rattle.std.proofs.Common.{ℕ, ◌≡◌, suc, List, [], ◌∷◌, ◌++◌, length, take, Bool, true, false, refl, sym, ap, ◌∙◌, subst}
use Rattle.std.specs.Prelude.{nat_eq, nat_lt, if◌then◌else◌}
use Rattle.std.proofs.lemmas.List.{append-nil}
use Rattle.det_io.specs.Sink.{Grew}
use Rattle.det_io.proofs.Growth.{grew-none, grew-then}
use Rattle.lane.specs.child_processes.ErrorTexts.{LineState, not_written, with_byte, end_line, line_step, lines_after, Took}

-- bytes after others
after-more : (prefix : List ℕ) (s : LineState) (a b : List ℕ) → lines_after prefix s (a ++ b) ≡ lines_after prefix (lines_after prefix s a) b
unfolding lines_after
after-more prefix s [] b = refl
after-more prefix s (x ∷ a) b = after-more prefix (line_step prefix s x) a b

-- one byte after others
after-one : (prefix : List ℕ) (s : LineState) (b : ℕ) → lines_after prefix s (b ∷ []) ≡ line_step prefix s b
unfolding lines_after
after-one prefix s b = refl

-- a step by what it depends on
abbrev step_by : (ends fits : Bool) (prefix : List ℕ) → LineState → ℕ → LineState
step_by ends fits prefix s b =
    if ends then end_line prefix s else if fits then with_byte s b else with_byte (end_line prefix s) b

-- a step doesn't look at what was written
by-line : (ends fits : Bool) (prefix : List ℕ) (s : LineState) (b : ℕ)
    → (step_by ends fits prefix s b).line ≡ (step_by ends fits prefix (not_written s.line) b).line
by-line true fits prefix s b = refl
by-line false true prefix s b = refl
by-line false false prefix s b = refl

-- a step writes after what was written
by-written : (ends fits : Bool) (prefix : List ℕ) (s : LineState) (b : ℕ)
    → (step_by ends fits prefix s b).written ≡ s.written ++ (step_by ends fits prefix (not_written s.line) b).written
by-written true fits prefix s b = refl
by-written false true prefix s b = sym (append-nil s.written)
by-written false false prefix s b = refl

step-then : {first mid last : List ℕ → Type 0} (prefix : List ℕ) (s : LineState) (b : ℕ) {next : List ℕ}
    → Grew first mid s.written → Took (line_step prefix (not_written s.line) b) next mid last → Took (line_step prefix s b) next first last
step-then {first = first} {last = last} prefix s b h q = record {
  line = q.line ∙ sym (by-line (nat_eq b 10) (nat_lt (length s.line) 4096) prefix s b);
  written = subst (Grew first last) (sym (by-written (nat_eq b 10) (nat_lt (length s.line) 4096) prefix s b)) (grew-then h q.written);
}

-- no byte yet
pub took-none : (prefix line : List ℕ) (took : List ℕ → Type 0) → Took (lines_after prefix (not_written line) []) line took took
unfolding lines_after
took-none prefix line took = record { line = refl; written = grew-none took }

-- one byte more
pub took-next : {first mid last : List ℕ → Type 0} (prefix start bytes : List ℕ) (i b : ℕ) {now next : List ℕ}
    → take (suc i) bytes ≡ take i bytes ++ b ∷ []
    → Took (lines_after prefix (not_written start) (take i bytes)) now first mid
    → Took (line_step prefix (not_written now) b) next mid last
    → Took (lines_after prefix (not_written start) (take (suc i) bytes)) next first last
took-next {first = first} {mid = mid} {last = last} prefix start bytes i b {next = next} more h q =
    let s = lines_after prefix (not_written start) (take i bytes) in
    let step = subst (λ l. Took (line_step prefix (not_written l) b) next mid last) h.line q in
    let same : lines_after prefix (not_written start) (take (suc i) bytes) ≡ line_step prefix s b =
    ap (lines_after prefix (not_written start)) more ∙ after-more prefix (not_written start) (take i bytes) (b ∷ [])
    ∙ after-one prefix s b in
    subst (λ t. Took t next first last) (sym same) (step-then prefix s b h.written step)

-- one byte more, of a line whose prefix stayed
pub took-on : {first mid last : List ℕ → Type 0} (prefix old start bytes now next : List ℕ) (i j b : ℕ) → old ≡ prefix → suc i ≡ j
    → take (suc i) bytes ≡ take i bytes ++ b ∷ []
    → Took (lines_after prefix (not_written start) (take i bytes)) now first mid
    → Took (line_step old (not_written now) b) next mid last
    → Took (lines_after prefix (not_written start) (take j bytes)) next first last
took-on {first = first} {mid = mid} {last = last} prefix old start bytes now next i j b same on more h q =
    let step = subst (λ (p : List ℕ). Took (line_step p (not_written now) b) next mid last) same q in
    subst (λ (n : ℕ). Took (lines_after prefix (not_written start) (take n bytes)) next first last) on
    (took-next prefix start bytes i b more h step)
