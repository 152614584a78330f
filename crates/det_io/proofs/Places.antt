-- The effect of calls on the state of a shelf in memory, and of one over a text.
use Rattle.std.proofs.Common.{◌≡◌, ◌≢◌, ◌<◌, ◌+◌, ℕ, zero, suc, List, [], ◌∷◌, ◌++◌, length, take, drop, set, map, get_or, refl, sym, ◌∙◌}
use Rattle.std.proofs.Common.{ap, arith, length-append, string_bytes}
use Rattle.std.specs.Prelude.{Bool, true, false, Some, IfSome, min, unwrap_or}
use Rattle.std.specs.List.{slice_get}
use Rattle.std.specs.Option.{option_map}
use Rattle.std.specs.Str.{bytes_eq}
use Rattle.std.proofs.lemmas.List.{take-append-drop, drop-drop, map-append, length-set, get_or-map, length-drop}
use Rattle.std.proofs.lemmas.Option.{same_Some}
use Rattle.std.proofs.lemmas.List.Quantifiers.{position-Some}
use Rattle.std.proofs.lemmas.Slice.Eq.{bytes_eq-Decides}
use Rattle.det_io.specs.Shelf.{Reads, Opens, Asks}
use Rattle.det_io.specs.MemShelf.{state_of, rest_of, names_of, texts_of, index_of}
use Rattle.det_io.specs.TextShelf.{one_slot}
use Rattle.det_io.specs.declared.mem_shelf.MemFile.{MemFile}
use Rattle.det_io.specs.declared.mem_shelf.place.FilePlace.{FilePlace}
use Rattle.det_io.proofs.Items.{length-none, seen-at, put-at, put-beside, more-at, more-beside}

-- a slot over one text gives the front of its rest
pub one_slot-reads : (bytes front : List ℕ) (at n slot : ℕ) → slot < 1 → front ≡ take n (drop at bytes)
    → Reads (one_slot (drop at bytes)) (one_slot (drop (at + n) bytes)) slot front
one_slot-reads bytes front at n zero h e = record {
  slots = refl;
  holds = refl;
  asked = refl;
  left = ap Some (rw (e, ← drop-drop n at bytes) (sym (take-append-drop n (drop at bytes))));
  others = λ k ne. elsewhere k ne;
}
  where
    elsewhere : (k : ℕ) → k ≢ 0 → slice_get (drop (at + n) bytes ∷ []) k ≡ slice_get (drop at bytes ∷ []) k
    elsewhere zero ne = absurd (ne refl)
    elsewhere (suc k) ne = refl
one_slot-reads bytes front at n (suc slot) h e = absurd (omega arith)

-- a slot at a place has the rest of that place
pub places-rest : (files : List MemFile) (places : List FilePlace) (slot : ℕ) (p : FilePlace)
    → slot < length places → p ≡ get_or places slot p → rest_of files p ≡ unwrap_or (slice_get (map (rest_of files) places) slot) []
places-rest files places slot p h e = rw (seen-at (rest_of files) places slot p h e) refl

-- a slot whose place goes on by n bytes gives them
pub places-read : (files : List MemFile) (places : List FilePlace) (told : Bool) (asked : List ℕ) (faults after slot n : ℕ) (p : FilePlace)
    (front : List ℕ)
    → slot < length places → p ≡ get_or places slot p → front ≡ take n (rest_of files p)
    → Reads (state_of files places told asked faults)
    (state_of files (set places slot (record { file = p.file; at = p.at + n })) told asked after) slot front
places-read files places told asked faults after slot n p front h e f =
    let q : FilePlace = record { file = p.file; at = p.at + n } in
    let found : slice_get (map (rest_of files) places) slot ≡ Some (front ++ drop n (rest_of files p)) =
    seen-at (rest_of files) places slot p h e ∙ ap Some (rw f (sym (take-append-drop n (rest_of files p)))) in
    let next : rest_of files q ≡ drop n (rest_of files p) = sym (drop-drop n p.at _) in
    let moved : slice_get (map (rest_of files) (set places slot q)) slot ≡ Some (drop n (rest_of files p)) =
    put-at (rest_of files) places slot p q h e ∙ ap Some next in
    record {
      slots = length-set places slot q;
      holds = refl;
      asked = refl;
      left = found ∙ sym (ap (option_map (λ rest. front ++ rest)) moved);
      others = λ k ne. put-beside (rest_of files) places slot k q ne;
    }

-- a read that moves nothing into a nonempty buffer is at the end
pub places-end : (files : List MemFile) (places : List FilePlace) (slot n most room : ℕ) (p : FilePlace)
    → slot < length places → p ≡ get_or places slot p → n ≡ min (min room most) (length (rest_of files p)) → 0 < most
    → n ≡ 0 → 0 < room → IfSome (slice_get (map (rest_of files) (set places slot (record { file = p.file; at = p.at + n }))) slot)
    (λ rest. rest ≡ [])
places-end files places slot n most room p h e c m z r =
    let q : FilePlace = record { file = p.file; at = p.at + n } in
    let none : length (rest_of files p) ≡ 0 = omega arith in
    let next : rest_of files q ≡ drop n (rest_of files p) = sym (drop-drop n p.at _) in
    rw (put-at (rest_of files) places slot p q h e, next) (length-none _ (simp length-drop (omega (arith, simp length-drop at none))))

-- the file found has the name
named : (files : List MemFile) (name : List ℕ) (file : ℕ) → index_of files name ≡ Some file
    → (file < length files) × (get_or (names_of files) file [] ≡ name)
named [] name file e = cc
named (f ∷ fs) name file e =
    let found = position-Some (λ (f : MemFile). bytes_eq (string_bytes f.name) name) (f ∷ fs) file f e in
    (found.0, get_or-map (λ (f : MemFile). string_bytes f.name) (f ∷ fs) file f [] found.0 ∙ (bytes_eq-Decides _ name).0 found.1)

asked-found : (files : List MemFile) (places more : List FilePlace) (told : Bool) (asked : List ℕ) (faults after file : ℕ) (name : List ℕ)
    → index_of files name ≡ Some file
    → Asks (state_of files places told asked faults) (state_of files more told (asked ++ file ∷ []) after) (name ∷ [])
asked-found files places more true asked faults after file name e = record {
  told = λ all h.
      let last = (named files name file e).1 in
      let whole : map (λ i. get_or (names_of files) i []) (asked ++ file ∷ []) ≡ all = same_Some _ _ h in (
        map (λ i. get_or (names_of files) i []) asked,
        refl,
        sym (map-append (λ i. get_or (names_of files) i []) asked (file ∷ [])
            ∙ ap (λ n. map (λ i. get_or (names_of files) i []) asked ++ n ∷ []) last) ∙ whole,
      );
}
asked-found files places more false asked faults after file name e = record { told = λ all h. cc }

-- a name whose file was found is asked for
pub places-asked : (files names : List MemFile) (places more : List FilePlace) (told : Bool) (asked later : List ℕ) (faults after file : ℕ)
    (name : List ℕ)
    → names ≡ files → Some file ≡ index_of names name → later ≡ asked ++ file ∷ []
    → Asks (state_of files places told asked faults) (state_of files more told later after) (name ∷ [])
places-asked files names places more told asked later faults after file name n e l =
    rw l (asked-found files places more told asked faults after file name (let h = rw n at e in sym h))

opened-found : (files : List MemFile) (places : List FilePlace) (told : Bool) (asked later : List ℕ) (faults after slot : ℕ) (p : FilePlace)
    (name : List ℕ)
    → index_of files name ≡ Some p.file → slot ≡ length places → p.at ≡ 0
    → Opens (state_of files places told asked faults) (state_of files (places ++ p ∷ []) told later after) name slot
opened-found files places told asked later faults after slot p name e s z =
    let same : rest_of files p ≡ get_or (texts_of files) p.file [] = rw z refl in
    record {
      number = s;
      slots = length-append places (p ∷ []);
      left = rw (e, s) (more-at (rest_of files) places p ∙ ap Some same);
      others = λ k ne. more-beside (rest_of files) places p k (λ w. ne (w ∙ sym s));
    }

-- a new place at the beginning of the file found opens it
pub places-opened : (files names : List MemFile) (places more : List FilePlace) (told : Bool) (asked later : List ℕ) (faults after slot : ℕ)
    (p : FilePlace) (name : List ℕ)
    → names ≡ files → Some p.file ≡ index_of names name → slot ≡ length places → p.at ≡ 0 → more ≡ places ++ p ∷ []
    → Opens (state_of files places told asked faults) (state_of files more told later after) name slot
places-opened files names places more told asked later faults after slot p name n e s z m =
    rw m (opened-found files places told asked later faults after slot p name (let h = rw n at e in sym h) s z)
