-- A spelling frame by frame: more frames add their spelling, and the first frames are spelled by the first bytes.
use Rattle.std.proofs.Common.{◌≡◌, ℕ, List, [], ◌∷◌, ◌++◌, length, refl, sym, ap, subst, ◌∙◌, append_assoc}
use Rattle.std.specs.List.{flat_map, All}
use Rattle.std.proofs.lemmas.List.Concat.{flat_map-append}
use Rattle.std.proofs.lemmas.List.Elements.{All-nil, All-cons, All-head, All-tail}
use Rattle.det_values.specs.declared.frames.Frame.{Frame}
use Rattle.det_values.specs.Values.{ProfileValue}
use Rattle.record_grammar.specs.Spelling.{IsFrame, spelled_header, spelled_frame, spelled, AreRun, Spells}

pub spelled_more : (profile : ProfileValue) (fs more : List Frame) → spelled profile (fs ++ more) ≡ spelled profile fs
    ++ flat_map (spelled_frame profile.format) more
spelled_more profile fs more =
    ap (λ (xs : List ℕ). spelled_header profile ++ xs) (flat_map-append (spelled_frame profile.format) fs more)
    ∙ sym (append_assoc (spelled_header profile) (flat_map (spelled_frame profile.format) fs)
    (flat_map (spelled_frame profile.format) more))

first_all : (P : Frame → Type 0) (fs more : List Frame) → All P (fs ++ more) → All P fs
first_all P [] more h = All-nil P
first_all P (f ∷ fs) more h = All-cons P f fs (All-head P f (fs ++ more) h) (first_all P fs more (All-tail P f (fs ++ more) h))

pub spells_first : (profile : ProfileValue) (fs more : List Frame) (bytes : List ℕ) → Spells profile (fs ++ more) bytes
    → Spells profile fs (spelled profile fs)
spells_first profile fs more bytes s = record {
  header = s.header;
  fields = first_all (IsFrame profile.format (length profile.events)) fs more s.fields;
  order = (more ++ s.order.0, subst AreRun (append_assoc fs more s.order.0) s.order.1);
  spelling = refl;
}
