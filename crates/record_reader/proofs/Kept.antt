-- An item that a salvage takes.
use Rattle.std.proofs.Common.{◌≡◌, ◌≤◌, ℕ, Bool, true, false, ◌||◌, List, [], ◌∷◌, ◌++◌, length, Result, Ok, Err, refl}
use Rattle.std.proofs.Common.{sym, ap, subst, ◌∙◌, ◌+◌, append-nil, arith}
use Rattle.std.specs.List.{list_any}
use Rattle.std.proofs.lemmas.List.{take_all}
use Rattle.det_values.specs.declared.format.Format.{Format}
use Rattle.det_values.specs.declared.frames.Frame.{Frame}
use Rattle.det_values.specs.declared.frames.Frame.TheVariants as frames
use Rattle.det_values.specs.declared.frames.Outcome.{Outcome}
use Rattle.det_io.specs.declared.failure.Failure.TheVariants.{Read, Write, OutOfMemory}
use Rattle.det_io.specs.declared.failure.Stopped.{Stopped}
use Rattle.det_io.specs.declared.failure.Stopped.TheVariants.{Refused, Failed}
use Rattle.det_io.specs.Sink.{Grew, GrewShort}
use Rattle.det_io.specs.Traffic.{SinkRun}
use Rattle.det_io.proofs.Prefixes.{prefix-none}
use Rattle.record_grammar.specs.declared.record_fault.RecordFault.{RecordFault}
use Rattle.record_grammar.specs.declared.item.Item.{Item}
use Rattle.record_grammar.specs.declared.item.Item.TheVariants as items
use Rattle.record_grammar.specs.declared.place.Place.{Place}
use Rattle.record_grammar.specs.declared.place.Place.TheVariants as places
use Rattle.record_grammar.specs.Laws.{MayStand, item_spelling}
use Rattle.record_grammar.specs.Leads.{Leads}
use Rattle.record_grammar.specs.Places.{format_of}
use Rattle.record_grammar.specs.Spelling.{AreBytes, spelled_frame}
use Rattle.record_view.specs.declared.view.FrameKind.{FrameKind}
use Rattle.record_view.specs.declared.view.FrameKind.TheVariants as frame_kinds
use Rattle.record_view.specs.declared.view.ItemKind.{ItemKind}
use Rattle.record_view.specs.declared.view.ItemKind.TheVariants as kinds
use Rattle.record_view.specs.declared.view.ItemView.{ItemView}
use Rattle.record_view.specs.declared.view.OutcomeView.{OutcomeView}
use Rattle.record_view.specs.declared.view.OutcomeView.TheVariants as ends
use Rattle.record_view.specs.Shows.{ShowsParts, ShowsOutcome, events_of}
use Rattle.record_view.proofs.EqualItems.{span_is_spelling}
use Rattle.record_reader.specs.declared.salvage.Salvage.{Salvage}
use Rattle.record_reader.specs.Kinds.{begins_runs, runs_of, refusals_at, kind_refusals, kept_bytes}
use Rattle.record_reader.specs.Salvaged.{is_init, refusals_in}
use Rattle.record_reader.specs.InItems.{run_in}
use Rattle.record_reader.specs.Salvaged.{refusals_of}
use Rattle.record_reader.specs.SalvageState.{spelled_unless_last, piece_of, format_after, Keeps, salvaging, Counted, Puts}
use Rattle.record_reader.specs.ItemTaker.{IsNext, Takes}
use Rattle.record_reader.proofs.Items.{NextIs, same_format}
use Rattle.record_reader.proofs.Pieces.{headed-next, more_of, begun-next, written-next, all-next, sum-next, cycles-next}

-- ---- an item by its kind

-- what an item of a kind adds to the counts
pub record Adds (kind : ItemKind) (item : Item) : Type 0 where
  pub begins : begins_runs kind ≡ is_init item
  pub runs : runs_of kind ≡ length (run_in item)
  pub refusals : kind_refusals kind ≡ refusals_in item

refusals-are : (format : Format) (outcome : OutcomeView) (len : ℕ) (bytes : List ℕ) (o : Outcome) → ShowsOutcome format outcome len bytes o
    → refusals_at outcome ≡ refusals_of o
refusals-are format (ends.Finished elements at output_at) len bytes o h = ap refusals_of (sym h.is)
refusals-are format (ends.Refused at) len bytes o h = ap refusals_of (sym h.is)

pub adds : (place : Place) (kind : ItemKind) (len : ℕ) (bytes : List ℕ) (item : Item) → ShowsParts place kind len bytes item
    → Adds kind item
adds place (kinds.Header layout) len bytes (items.Header p) h = record { begins = refl; runs = refl; refusals = refl }
adds place (kinds.Frame frame_kinds.Register) len bytes (items.Frame frames.Register) h =
    record { begins = refl; runs = refl; refusals = refl }
adds place (kinds.Frame frame_kinds.Discover) len bytes (items.Frame frames.Discover) h =
    record { begins = refl; runs = refl; refusals = refl }
adds place (kinds.Frame (frame_kinds.Init count)) len bytes (items.Frame (frames.Init elements)) h =
    record { begins = refl; runs = refl; refusals = refl }
adds place (kinds.Frame (frame_kinds.Run input outcome)) len bytes (items.Frame (frames.Run r)) h =
    record { begins = refl; runs = refl; refusals = refusals-are (format_of place) outcome len bytes r.outcome h.1 }
adds place (kinds.Frame frame_kinds.Terminate) len bytes (items.Frame frames.Terminate) h =
    record { begins = refl; runs = refl; refusals = refl }
adds place kind len bytes item h = elim h [ ]

-- what is kept of an item's bytes, by its kind
kept-frame : (place : Place) (kind : FrameKind) (len : ℕ) (bytes : List ℕ) (f : Frame)
    → ShowsParts place (kinds.Frame kind) len bytes (items.Frame f)
    → kept_bytes (kinds.Frame kind) (spelled_frame (format_of place) f) ≡ spelled_unless_last (format_of place) f
kept-frame place frame_kinds.Register len bytes frames.Register h = refl
kept-frame place frame_kinds.Discover len bytes frames.Discover h = refl
kept-frame place (frame_kinds.Init count) len bytes (frames.Init elements) h = refl
kept-frame place (frame_kinds.Run input outcome) len bytes (frames.Run r) h = refl
kept-frame place frame_kinds.Terminate len bytes frames.Terminate h = refl
kept-frame place kind len bytes f h = elim h [ ]

kept-item : (given : List Item) (place : Place) (kind : ItemKind) (len : ℕ) (bytes record_bytes rest : List ℕ) (x : Item)
    → ShowsParts place kind len bytes x → Leads places.Header record_bytes given place rest → MayStand place x
    → kept_bytes kind (item_spelling place x) ≡ piece_of (format_after given) x
kept-item given place (kinds.Header layout) len bytes record_bytes rest (items.Header p) h leads may = refl
kept-item given place (kinds.Frame kind) len bytes record_bytes rest (items.Frame f) h leads may =
    kept-frame place kind len bytes f h ∙ ap (λ (format : Format). spelled_unless_last format f) (same_format given place record_bytes rest
    f leads may)
kept-item given place kind len bytes record_bytes rest x h leads may = elim h [ ]

-- the bytes that are kept of an item are its piece
pub piece-is : (given : List Item) (x : Item) (view : ItemView) (bytes : List ℕ) → IsNext given x view bytes
    → events_of view.place ≤ 65536 → AreBytes bytes → kept_bytes view.span.kind bytes ≡ piece_of (format_after given) x
piece-is given x view bytes h few are =
    let s = span_is_spelling view.place view.span bytes x few are h.spelling.shows in
    let exact : length bytes ≤ view.span.len = let n = h.spelling.exact in omega (arith, n) in
    ap (kept_bytes view.span.kind) (sym (take_all view.span.len bytes exact) ∙ s.1)
    ∙ kept-item given view.place view.span.kind view.span.len bytes h.after.0 h.after.1 x h.spelling.shows.parts h.after.2 s.0

-- ---- one item more

-- an item of this kind was counted, and this is its piece
pub record CountedNext (given : List Item) (item : Item) (kind : ItemKind) (old counted : Salvage) (bytes : List ℕ) : Type 0 where
  pub next : NextIs given item
  pub keeps : Keeps old given
  pub adds : Adds kind item
  pub count : Counted kind old counted
  pub piece : bytes ≡ piece_of (format_after given) item

module _ (given : List Item) (item : Item) (kind : ItemKind) (old counted new : Salvage) (bytes : List ℕ)
    (h : CountedNext given item kind old counted bytes) where
  abbrev piece : List ℕ
  piece = old.out.items ++ piece_of (format_after given) item

  abbrev begun : Bool
  begun = is_init item || list_any is_init given

  has_begun : counted.has_begun ≡ begun
  has_begun = h.count.has_begun ∙ ap (λ (b : Bool). b || old.has_begun) h.adds.begins
      ∙ ap (λ (b : Bool). is_init item || b) h.keeps.has_begun

  all : counted.out.items ++ bytes ≡ piece
  all = ap (λ out. out.items ++ bytes) h.count.out ∙ ap (λ (xs : List ℕ). old.out.items ++ xs) h.piece

  all-kept : new.has_begun ≡ counted.has_begun → new.cycles ≡ counted.cycles → new.refused ≡ counted.refused
      → more_of begun piece ++ new.out.items ≡ piece → Keeps new (given ++ item ∷ [])
  all-kept same cycles refused split = record {
    headed = headed-next given item h.next;
    has_begun = same ∙ has_begun ∙ sym (begun-next given item);
    out = all-next given item old.out.items new.out.items h.next h.keeps.out split;
    cycles = cycles ∙ h.count.cycles ∙ ap (λ (n : ℕ). old.cycles + n) h.adds.runs ∙ ap (λ (n : ℕ). n + length (run_in item)) h.keeps.cycles
        ∙ sym (cycles-next given item);
    refused = refused ∙ h.count.refused ∙ ap (λ (n : ℕ). old.refused + n) h.adds.refusals
        ∙ ap (λ (n : ℕ). n + refusals_in item) h.keeps.refused ∙ sym (sum-next refusals_in given item);
  }

  -- what was put is what the item adds, and the rest is kept
  done : (b : Bool) (u : Unit {0}) (out : SinkRun) → Puts (Ok u) b piece new.out.items out
      → (more_of b piece ++ new.out.items ≡ piece) × Grew out.before out.after (more_of b piece)
  done true u out f = (ap (λ (xs : List ℕ). piece ++ xs) f.0 ∙ append-nil piece, f.1)
  done false u out f = f

  cut : (b : Bool) (out : SinkRun) → Puts (Err (Failed Write)) b piece new.out.items out
      → GrewShort out.before out.after (more_of b piece)
  cut true out f = f.1
  cut false out f = absurd (let e = f.0 in cc)

  by : (result : Result (Unit {0}) (Stopped RecordFault)) (out : SinkRun) → new ≡ record counted { out = new.out }
      → Puts result begun piece new.out.items out → Takes result (salvaging new) given item [] out
  by (Ok u) out same put = record {
    more = more_of begun piece;
    all = written-next given item old.out.items h.next h.keeps.out;
    wrote = (done begun u out put).1;
    after = all-kept (ap (λ s. s.has_begun) same) (ap (λ s. s.cycles) same) (ap (λ s. s.refused) same) (done begun u out put).0;
  }
  by (Err (Refused why)) out same put = absurd put
  by (Err (Failed Read)) out same put = absurd put
  by (Err (Failed Write)) out same put = record {
    more = more_of begun piece;
    all = written-next given item old.out.items h.next h.keeps.out;
    wrote = cut begun out put;
    after = tt;
  }
  by (Err (Failed OutOfMemory)) out same put = record {
    more = more_of begun piece;
    all = written-next given item old.out.items h.next h.keeps.out;
    wrote = ([], prefix-none _, put);
    after = tt;
  }

  pub take-done : (result : Result (Unit {0}) (Stopped RecordFault)) (out : SinkRun) → new ≡ record counted { out = new.out }
      → Puts result counted.has_begun (counted.out.items ++ bytes) new.out.items out → Takes result (salvaging new) given item [] out
  take-done result out same put =
      by result out same (subst (λ (b : Bool). Puts result b piece new.out.items out) has_begun
      (subst (λ (xs : List ℕ). Puts result counted.has_begun xs new.out.items out) all put))
