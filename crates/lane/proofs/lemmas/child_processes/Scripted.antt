-- What the calls of a spawner in memory do to what it shows.
use Rattle.std.proofs.Common.{◌≡◌, ◌<◌, ◌+◌, ℕ, zero, suc, List, [], ◌∷◌, ◌++◌, length, take, drop, set, map, get_or, refl, sym, ◌∙◌}
use Rattle.std.proofs.Common.{ap, arith, length-append, true, false, Bool, cond, min, string_bytes}
use Rattle.std.specs.Prelude.{Some, IfSome, unwrap_or, String, ◌&&◌}
use Rattle.std.specs.List.{slice_get, All}
use Rattle.std.specs.Option.{option_map}
use Rattle.std.specs.Str.{bytes_eq}
use Rattle.std.specs.Cmp.Lexicographic.{pointwise, pointwise_decides}
use Rattle.std.proofs.lemmas.List.{take-append-drop, drop-drop, map-append, length-set, get_or-map}
use Rattle.std.proofs.lemmas.List.Elements.{All-get_or, All-set, All-append}
use Rattle.std.proofs.lemmas.List.Quantifiers.{position-Some}
use Rattle.std.proofs.lemmas.Option.{same_Some}
use Rattle.std.proofs.lemmas.Slice.Eq.{bytes_eq-Decides}
use Rattle.lane.specs.child_processes.Spawners.{Words, ReadsChild, Starts, Finishes, Asks, words_of}
use Rattle.lane.specs.child_processes.Scripts.{same_words, words_in, index_of, words_at, bytes_at, status_at, status_under, rest_of}
use Rattle.lane.specs.child_processes.Scripts.{KeepsToFirst}
use Rattle.lane.specs.child_processes.MemSpawner.{state_of}
use Rattle.lane.specs.declared.child_processes.mem_spawner.Script.{Script}
use Rattle.lane.specs.declared.child_processes.mem_spawner.running_child.RunningChild.{RunningChild}
use Rattle.det_io.proofs.Items.{length-none, seen-at, put-at, put-beside, put-same, more-at, more-beside}

-- two lists of words are the same where their texts are
pub same_words-texts : {A B : Type 0} (xs : List (String A)) (ys : List (String B))
    → pointwise (λ x y. bytes_eq (string_bytes x) (string_bytes y)) xs ys ≡ same_words (words_of xs) (words_of ys)
same_words-texts [] [] = refl
same_words-texts [] (y ∷ ys) = refl
same_words-texts (x ∷ xs) [] = refl
same_words-texts (x ∷ xs) (y ∷ ys) = ap (λ b. bytes_eq (string_bytes x) (string_bytes y) && b) (same_words-texts xs ys)

-- the script found has the words
pub found-words : (scripts : List Script) (words : Words) (i : ℕ) → index_of scripts words ≡ Some i → words_at scripts i ≡ words
found-words [] words i e = cc
found-words (s ∷ scripts) words i e =
    let found = position-Some (λ (s : Script). same_words (words_in s) words) (s ∷ scripts) i s e in
    get_or-map words_in (s ∷ scripts) i s [] found.0 ∙ (pointwise_decides bytes_eq-Decides _ words).0 found.1

-- a child of the script found keeps to the first with its words
pub found-first : (scripts : List Script) (words : Words) (child : RunningChild) → index_of scripts words ≡ Some child.script
    → KeepsToFirst scripts child
found-first scripts words child e = rw (found-words scripts words child.script e) e

all-one : {X : Type 0} (P : X → Type 0) (x : X) → P x → All P (x ∷ [])
all-one P x p zero d h = p
all-one P x p (suc k) d h = absurd (omega arith)

-- one more child that keeps to the first script with its words
pub firsts-more : (scripts : List Script) (words : Words) (children : List RunningChild) (child : RunningChild)
    → index_of scripts words ≡ Some child.script → All (KeepsToFirst scripts) children
    → All (KeepsToFirst scripts) (children ++ child ∷ [])
firsts-more scripts words children child e all =
    All-append (KeepsToFirst scripts) children (child ∷ []) all
    (all-one (KeepsToFirst scripts) child (found-first scripts words child e))

-- a child at an index keeps to the first script with its words
pub first-at : (scripts : List Script) (children : List RunningChild) (i : ℕ) (child : RunningChild) → i < length children
    → child ≡ get_or children i child → All (KeepsToFirst scripts) children → KeepsToFirst scripts child
first-at scripts children i child h e all = rw e (All-get_or (KeepsToFirst scripts) children i child h all)

-- a child that is read further keeps to its script
pub firsts-put : (scripts : List Script) (children : List RunningChild) (i : ℕ) (child next : RunningChild) → i < length children
    → child ≡ get_or children i child → next.script ≡ child.script → All (KeepsToFirst scripts) children
    → All (KeepsToFirst scripts) (set children i next)
firsts-put scripts children i child next h e s all =
    All-set (KeepsToFirst scripts) children i next (rw s (first-at scripts children i child h e all)) all

-- words of a script that were asked for
pub found-asks : (scripts : List Script) (children more : List RunningChild) (told : Bool) (asked : List ℕ) (faults after i : ℕ) (words :
    Words)
    → index_of scripts words ≡ Some i
    → Asks (state_of scripts children told asked faults) (state_of scripts more told (asked ++ i ∷ []) after) (words ∷ [])
found-asks scripts children more true asked faults after i words e = record {
  told = λ all h.
      let whole : map (words_at scripts) (asked ++ i ∷ []) ≡ all = same_Some _ _ h in (
        map (words_at scripts) asked,
        refl,
        sym (map-append (words_at scripts) asked (i ∷ [])
            ∙ ap (λ w. map (words_at scripts) asked ++ w ∷ []) (found-words scripts words i e)) ∙ whole,
      );
}
found-asks scripts children more false asked faults after i words e = record { told = λ all h. cc }

-- a new child of the script found has all of its bytes left
pub found-starts : (scripts : List Script) (children : List RunningChild) (told : Bool) (asked later : List ℕ) (faults after i : ℕ)
    (words : Words)
    → index_of scripts words ≡ Some i
    → Starts (state_of scripts children told asked faults)
    (state_of scripts (children ++ record { script = i; at = 0; is_finished = false; is_lost = false } ∷ []) told later after) words
    (length children)
found-starts scripts children told asked later faults after i words e =
    let child : RunningChild = record { script = i; at = 0; is_finished = false; is_lost = false } in
    let script_words = λ (c : RunningChild). words_at scripts c.script in
    record {
      number = refl;
      children = length-append children (child ∷ []);
      running = ap (λ o. unwrap_or o false) (more-at (λ (c : RunningChild). c.is_finished) children child);
      left = rw e (
        more-at (rest_of scripts) children child,
        more-at script_words children child ∙ ap Some (found-words scripts words i e),
      );
      other_left = λ k ne. more-beside (rest_of scripts) children child k ne;
      other_words = λ k ne. more-beside script_words children child k ne;
      other_finished = λ k ne. ap (λ o. unwrap_or o false) (more-beside (λ (c : RunningChild). c.is_finished) children child k ne);
    }

drop-none : {X : Type 0} (n : ℕ) → drop {A = X} n [] ≡ []
drop-none zero = refl
drop-none (suc n) = refl

-- what is left after n more bytes
rest-next : (bytes : List ℕ) (at n : ℕ) (finished : Bool)
    → cond finished [] (drop (at + n) bytes) ≡ drop n (cond finished [] (drop at bytes))
rest-next bytes at n true = sym (drop-none n)
rest-next bytes at n false = sym (drop-drop n at bytes)

-- a child after n more bytes of it were read
abbrev pub gone_on : RunningChild → ℕ → RunningChild
gone_on child n = record child { at = child.at + n }

-- it gives these bytes
pub child-reads : (scripts : List Script) (children : List RunningChild) (told : Bool) (asked : List ℕ) (faults i n : ℕ) (child :
    RunningChild)
    (front : List ℕ)
    → i < length children → child ≡ get_or children i child → front ≡ take n (rest_of scripts child)
    → ReadsChild (state_of scripts children told asked faults)
    (state_of scripts (set children i (gone_on child n)) told asked faults)
    i front
child-reads scripts children told asked faults i n child front h e f =
    let next = gone_on child n in
    let rest : rest_of scripts next ≡ drop n (rest_of scripts child) =
    rest-next (bytes_at scripts child.script) child.at n child.is_finished in
    let parts : rest_of scripts child ≡ front ++ rest_of scripts next =
    rw (f, rest) (sym (take-append-drop n (rest_of scripts child))) in
    record {
      stays = record {
        children = length-set children i next;
        words = ap slice_get (put-same (λ (c : RunningChild). words_at scripts c.script) children i child next e refl);
        finished = ap (λ l k. unwrap_or (slice_get l k) false) (put-same (λ (c : RunningChild). c.is_finished) children i child next e
            refl);
        asked = refl;
        gives = refl;
        ends = refl;
      };
      left = seen-at (rest_of scripts) children i child h e ∙ ap Some parts
          ∙ sym (ap (option_map (λ rest. front ++ rest)) (put-at (rest_of scripts) children i child next h e));
      others = λ k ne. put-beside (rest_of scripts) children i k next ne;
    }

-- a read that gives nothing where there was room for some finds nothing left
pub child-end : (scripts : List Script) (children : List RunningChild) (i n room : ℕ) (child : RunningChild)
    → i < length children → child ≡ get_or children i child → n ≡ min room (length (rest_of scripts child))
    → n ≡ 0 → 0 < room
    → IfSome (slice_get (map (rest_of scripts)
    (set children i (gone_on child n))) i) (λ rest. rest ≡ [])
child-end scripts children i n room child h e c z w =
    let next = gone_on child n in
    let none : rest_of scripts child ≡ [] = length-none (rest_of scripts child) (omega arith) in
    let rest : rest_of scripts next ≡ drop n (rest_of scripts child) =
    rest-next (bytes_at scripts child.script) child.at n child.is_finished in
    rw (put-at (rest_of scripts) children i child next h e) (rest ∙ ap (drop n) none ∙ drop-none n)

-- what a child has left, by its index
pub child-rest : (scripts : List Script) (children : List RunningChild) (i : ℕ) (child : RunningChild)
    → i < length children → child ≡ get_or children i child
    → rest_of scripts child ≡ unwrap_or (slice_get (map (rest_of scripts) children) i) []
child-rest scripts children i child h e = rw (seen-at (rest_of scripts) children i child h e) refl

-- a finished child gives nothing
pub child-done : (scripts : List Script) (children : List RunningChild) (i n room : ℕ) (child : RunningChild)
    → i < length children → child ≡ get_or children i child → n ≡ min room (length (rest_of scripts child))
    → unwrap_or (slice_get (map (λ (c : RunningChild). c.is_finished) children) i) false ≡ true → n ≡ 0
child-done scripts children i n room child h e c f =
    let done : child.is_finished ≡ true = rw (seen-at (λ (c : RunningChild). c.is_finished) children i child h e) at f in
    let none : rest_of scripts child ≡ [] = rw done refl in
    let count : length (rest_of scripts child) ≡ 0 = ap length none in
    omega (arith, c, count)

-- a child that is given to finish
pub child-finishes : (scripts : List Script) (children : List RunningChild) (told : Bool) (asked : List ℕ) (faults i at : ℕ) (lost : Bool)
    (child : RunningChild)
    → i < length children → child ≡ get_or children i child
    → Finishes (state_of scripts children told asked faults)
    (state_of scripts (set children i (record { script = child.script; at = at; is_finished = true; is_lost = lost })) told asked faults) i
child-finishes scripts children told asked faults i at lost child h e =
    let next : RunningChild = record { script = child.script; at = at; is_finished = true; is_lost = lost } in
    let is_done = λ (c : RunningChild). c.is_finished in
    record {
      children = length-set children i next;
      faults = refl;
      words = ap slice_get (put-same (λ (c : RunningChild). words_at scripts c.script) children i child next e refl);
      asked = refl;
      finished = ap (λ o. unwrap_or o false) (put-at is_done children i child next h e);
      other_finished = λ k ne. ap (λ o. unwrap_or o false) (put-beside is_done children i k next ne);
      other_lost = λ k ne. ap (λ o. unwrap_or o false) (put-beside (λ (c : RunningChild). c.is_lost) children i k next ne);
      none_left = rw (put-at (rest_of scripts) children i child next h e) refl;
      other_left = λ k ne. put-beside (rest_of scripts) children i k next ne;
    }

-- whether that failed
pub child-lost : (children : List RunningChild) (i : ℕ) (child next : RunningChild)
    → i < length children → child ≡ get_or children i child
    → unwrap_or (slice_get (map (λ (c : RunningChild). c.is_lost) (set children i next)) i) false ≡ next.is_lost
child-lost children i child next h e = ap (λ o. unwrap_or o false) (put-at (λ (c : RunningChild). c.is_lost) children i child next h e)

-- the status of a child's script is that of its words
pub child-ends : (scripts : List Script) (children : List RunningChild) (i : ℕ) (child : RunningChild) (words : Words)
    → i < length children → child ≡ get_or children i child → All (KeepsToFirst scripts) children
    → slice_get (map (λ (c : RunningChild). words_at scripts c.script) children) i ≡ Some words
    → status_under scripts words ≡ Some (status_at scripts child.script)
child-ends scripts children i child words h e all w =
    let its : words_at scripts child.script ≡ words =
    same_Some _ _ (sym (seen-at (λ (c : RunningChild). words_at scripts c.script) children i child h e) ∙ w) in
    let first : index_of scripts words ≡ Some child.script = rw its at (first-at scripts children i child h e all) in
    ap (option_map (status_at scripts)) first
