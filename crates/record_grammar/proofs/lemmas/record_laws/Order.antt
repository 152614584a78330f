-- Frames in their places are the frames of a run, or its first frames.
use Rattle.std.proofs.Common.{◌≡◌, ℕ, ◌+◌, ◌≤◌, List, [], ◌∷◌, ◌++◌, length, map, refl, sym, ap, subst, ◌∙◌, arith}
use Rattle.std.specs.List.{flat_map, All}
use Rattle.std.proofs.lemmas.List.Concat.{flat_map-cons}
use Rattle.std.proofs.lemmas.List.Elements.{All-nil, All-cons, All-head, All-tail}
use Rattle.det_values.specs.declared.frames.RunFrame.{RunFrame}
use Rattle.det_values.specs.declared.frames.Frame.{Frame}
use Rattle.det_values.specs.declared.frames.Frame.TheVariants as frames
use Rattle.det_values.specs.Values.{ProfileValue}
use Rattle.record_grammar.specs.declared.place.Layout.{Layout}
use Rattle.record_grammar.specs.declared.place.Place.{Place}
use Rattle.record_grammar.specs.declared.place.Place.TheVariants as places
use Rattle.record_grammar.specs.declared.item.Item.{Item}
use Rattle.record_grammar.specs.declared.item.Item.TheVariants as items
use Rattle.record_grammar.specs.Places.{after, layout_of, CanFollow}
use Rattle.record_grammar.specs.Spelling.{IsFrame, spelled_header, spelled_frame, AreRun, Spells, SpellsWhole, spelled}
use Rattle.record_grammar.specs.Laws.{MayStand, AreItems, item_spelling, items_spelling, items_of, IsInOrder}
use Rattle.record_grammar.proofs.lemmas.record_laws.AfterHeader.{HasLayout, keeps_layout, all_frames}

-- frames that may follow one another, by their kinds, from one place to another
abbrev pub Follow : Place → List Frame → Place → Type 0
Follow place [] to = place ≡ to
Follow place (f ∷ fs) to = CanFollow place (items.Frame f) × Follow (after place (items.Frame f)) fs to

behind_along : (layout : Layout) (fs : List Frame) (place to : Place) → Follow place fs to → HasLayout layout place → HasLayout layout to
behind_along layout [] place to h b = subst (HasLayout layout) h b
behind_along layout (f ∷ fs) place to h b = behind_along layout fs (after place (items.Frame f)) to h.1 (keeps_layout layout place (items.Frame f) h.0 b)

-- ---- kinds and fields

may_stand : (layout : Layout) (place : Place) (f : Frame) → CanFollow place (items.Frame f) → HasLayout layout place
    → IsFrame layout.format layout.events f → MayStand place (items.Frame f)
may_stand layout (places.Register other) frames.Register h b fields = tt
may_stand layout (places.Discover other) frames.Discover h b fields = tt
may_stand layout (places.Init other) (frames.Init elements) h b fields =
    subst (λ (l : Layout). IsFrame l.format l.events (frames.Init elements)) (sym b) fields
may_stand layout (places.Runs other before) (frames.Run r) h b fields =
    (h, subst (λ (l : Layout). IsFrame l.format l.events (frames.Run r)) (sym b) fields)
may_stand layout (places.Runs other before) frames.Terminate h b fields = tt
may_stand layout place f h b fields = elim h [ ]

stands : (layout : Layout) (place : Place) (f : Frame) → MayStand place (items.Frame f) → HasLayout layout place
    → CanFollow place (items.Frame f) × IsFrame layout.format layout.events f
unfolding IsFrame
stands layout (places.Register other) frames.Register h b = (tt, tt)
stands layout (places.Discover other) frames.Discover h b = (tt, tt)
stands layout (places.Init other) (frames.Init elements) h b = (tt, h)
stands layout (places.Runs other before) (frames.Run r) h b = (h.0, subst (λ (l : Layout). IsFrame l.format l.events (frames.Run r)) b h.1)
stands layout (places.Runs other before) frames.Terminate h b = (tt, tt)
stands layout place f h b = elim h [ ]

abbrev AreFrames : Layout → List Frame → Type 0
AreFrames layout fs = All (IsFrame layout.format layout.events) fs

are_items : (layout : Layout) (fs : List Frame) (place to : Place) → Follow place fs to → HasLayout layout place → AreFrames layout fs
    → AreItems place (map items.Frame fs) to
are_items layout [] place to h b fields = h
are_items layout (f ∷ fs) place to h b fields = (
  may_stand layout place f h.0 b (All-head (IsFrame layout.format layout.events) f fs fields),
  are_items layout fs (after place (items.Frame f)) to h.1 (keeps_layout layout place (items.Frame f) h.0 b)
      (All-tail (IsFrame layout.format layout.events) f fs fields),
)

follow : (layout : Layout) (fs : List Frame) (place to : Place) → AreItems place (map items.Frame fs) to → HasLayout layout place
    → Follow place fs to × AreFrames layout fs
follow layout [] place to h b = (h, All-nil (IsFrame layout.format layout.events))
follow layout (f ∷ fs) place to h b =
    let s = stands layout place f h.0 b in
    let i = follow layout fs (after place (items.Frame f)) to h.1 (keeps_layout layout place (items.Frame f) s.0 b) in
    ((s.0, i.0), All-cons (IsFrame layout.format layout.events) f fs s.1 i.1)

one_spelled : (layout : Layout) (place : Place) (f : Frame) → CanFollow place (items.Frame f) → HasLayout layout place
    → item_spelling place (items.Frame f) ≡ spelled_frame layout.format f
one_spelled layout places.Header f h b = absurd b
one_spelled layout (places.Register other) f h b = ap (λ (l : Layout). spelled_frame l.format f) b
one_spelled layout (places.Discover other) f h b = ap (λ (l : Layout). spelled_frame l.format f) b
one_spelled layout (places.Init other) f h b = ap (λ (l : Layout). spelled_frame l.format f) b
one_spelled layout (places.Runs other before) f h b = ap (λ (l : Layout). spelled_frame l.format f) b
one_spelled layout places.End f h b = elim h [ ]

all_spelled : (layout : Layout) (fs : List Frame) (place to : Place) → Follow place fs to → HasLayout layout place
    → items_spelling place (map items.Frame fs) ≡ flat_map (spelled_frame layout.format) fs
all_spelled layout [] place to h b = refl
all_spelled layout (f ∷ fs) place to h b =
    let rest = items_spelling (after place (items.Frame f)) (map items.Frame fs) in
    ap (λ (xs : List ℕ). xs ++ rest) (one_spelled layout place f h.0 b)
    ∙ ap (λ (xs : List ℕ). spelled_frame layout.format f ++ xs) (all_spelled layout fs (after place (items.Frame f)) to h.1
    (keeps_layout layout place (items.Frame f) h.0 b))
    ∙ sym (flat_map-cons (spelled_frame layout.format) f fs)

-- ---- the frames of a run

runs_follow : (layout : Layout) (runs : List RunFrame) (before : ℕ) → before + length runs ≤ 1000000
    → Follow (places.Runs layout before) (map frames.Run runs ++ frames.Terminate ∷ []) places.End
runs_follow layout [] before few = (tt, refl)
runs_follow layout (r ∷ runs) before few = (omega arith, runs_follow layout runs (before + 1) (omega arith))

run_follows : (layout : Layout) (fs : List Frame) → AreRun fs → Follow (places.Register layout) fs places.End
run_follows layout fs h =
    subst (λ (gs : List Frame). Follow (places.Register layout) gs places.End) (sym h.order)
    (tt, (tt, (tt, runs_follow layout h.runs 0 (omega (arith, h.few)))))

-- the runs up to the end
record AreRuns (before : ℕ) (fs : List Frame) : Type 0 where
  pub runs : List RunFrame
  pub few : before + length runs ≤ 1000000
  pub order : fs ≡ map frames.Run runs ++ frames.Terminate ∷ []

nothing_follows : (fs : List Frame) → Follow places.End fs places.End → fs ≡ []
nothing_follows [] h = refl
nothing_follows (f ∷ fs) h = elim h.0 [ ]

end_last : (layout : Layout) (before : ℕ) (fs : List Frame) → before ≤ 1000000 → Follow (places.Runs layout before) fs places.End
    → AreRuns before fs
end_last layout before [] few h = absurd cc
end_last layout before (frames.Run r ∷ fs) few h =
    let i = end_last layout (before + 1) fs (omega (arith, h.0)) h.1 in
    record { runs = r ∷ i.runs; few = omega (arith, i.few); order = ap (λ (gs : List Frame). frames.Run r ∷ gs) i.order }
end_last layout before (frames.Terminate ∷ fs) few h =
    record { runs = []; few = omega arith; order = ap (λ (gs : List Frame). frames.Terminate ∷ gs) (nothing_follows fs h.1) }
end_last layout before (f ∷ fs) few h = elim h.0 [ ]

behind_init : (layout : Layout) (fs : List Frame) → Follow (places.Init layout) fs places.End → (elements : List (List ℕ))
    × (rest : List Frame) × (fs ≡ frames.Init elements ∷ rest) × AreRuns 0 rest
behind_init layout [] h = absurd cc
behind_init layout (frames.Init elements ∷ fs) h = (elements, fs, refl, end_last layout 0 fs (omega arith) h.1)
behind_init layout (f ∷ fs) h = elim h.0 [ ]

behind_discover : (layout : Layout) (fs : List Frame) → Follow (places.Discover layout) fs places.End → (rest : List Frame)
    × (fs ≡ frames.Discover ∷ rest) × Follow (places.Init layout) rest places.End
behind_discover layout [] h = absurd cc
behind_discover layout (frames.Discover ∷ fs) h = (fs, refl, h.1)
behind_discover layout (f ∷ fs) h = elim h.0 [ ]

behind_register : (layout : Layout) (fs : List Frame) → Follow (places.Register layout) fs places.End → (rest : List Frame)
    × (fs ≡ frames.Register ∷ rest) × Follow (places.Discover layout) rest places.End
behind_register layout [] h = absurd cc
behind_register layout (frames.Register ∷ fs) h = (fs, refl, h.1)
behind_register layout (f ∷ fs) h = elim h.0 [ ]

follows_run : (layout : Layout) (fs : List Frame) → Follow (places.Register layout) fs places.End → AreRun fs
follows_run layout fs h =
    let a = behind_register layout fs h in
    let b = behind_discover layout a.0 a.2 in
    let c = behind_init layout b.0 b.2 in
    record {
      elements = c.0;
      runs = c.3.runs;
      few = omega (arith, c.3.few);
      order =
          a.1 ∙ ap (λ (gs : List Frame). frames.Register ∷ gs) b.1 ∙ ap (λ (gs : List Frame). frames.Register ∷ frames.Discover ∷ gs) c.2
          ∙ ap (λ (gs : List Frame). frames.Register ∷ frames.Discover ∷ frames.Init c.0 ∷ gs) c.3.order;
    }

-- ---- first frames

-- the first of these frames lead to a place
first_follow : (fs more : List Frame) (place end : Place) → Follow place (fs ++ more) end → (to : Place) × Follow place fs to
first_follow [] more place end h = (place, refl)
first_follow (f ∷ fs) more place end h = let i = first_follow fs more (after place (items.Frame f)) end h.1 in (i.0, (h.0, i.1))

follow_append : (fs more : List Frame) (place to end : Place) → Follow place fs to → Follow to more end → Follow place (fs ++ more) end
follow_append [] more place to end h k = subst (λ (p : Place). Follow p more end) (sym h) k
follow_append (f ∷ fs) more place to end h k = (h.0, follow_append fs more (after place (items.Frame f)) to end h.1 k)

-- from each place after a header some frames end the run
ends : (layout : Layout) (to : Place) → HasLayout layout to → (fs : List Frame) × Follow to fs places.End
ends layout places.Header b = absurd b
ends layout (places.Register other) b =
    (frames.Register ∷ frames.Discover ∷ frames.Init [] ∷ frames.Terminate ∷ [], (tt, (tt, (tt, (tt, refl)))))
ends layout (places.Discover other) b = (frames.Discover ∷ frames.Init [] ∷ frames.Terminate ∷ [], (tt, (tt, (tt, refl))))
ends layout (places.Init other) b = (frames.Init [] ∷ frames.Terminate ∷ [], (tt, (tt, refl)))
ends layout (places.Runs other before) b = (frames.Terminate ∷ [], (tt, refl))
ends layout places.End b = ([], refl)

-- ---- both ways

module _ (profile : ProfileValue) (fs : List Frame) (bytes : List ℕ) where
  abbrev start : Place
  start = places.Register (layout_of profile)

  same_spelling : (to : Place) → Follow start fs to → items_spelling places.Header (items_of profile fs) ≡ spelled profile fs
  same_spelling to h = ap (λ (xs : List ℕ). spelled_header profile ++ xs) (all_spelled (layout_of profile) fs start to h refl)

  there : (to : Place) → Spells profile fs bytes → Follow start fs to → AreItems places.Header (items_of profile fs) to
      × (bytes ≡ items_spelling places.Header (items_of profile fs))
  there to s h = ((s.header, are_items (layout_of profile) fs start to h refl s.fields), s.spelling ∙ sym (same_spelling to h))

  begun_there : Spells profile fs bytes → (to : Place) × AreItems places.Header (items_of profile fs) to
      × (bytes ≡ items_spelling places.Header (items_of profile fs))
  begun_there s =
      let f = first_follow fs s.order.0 start places.End (run_follows (layout_of profile) (fs ++ s.order.0) s.order.1) in
      let t = there f.0 s f.1 in
      (f.0, t.0, t.1)

  begun_back : (to : Place) → AreItems places.Header (items_of profile fs) to → bytes ≡ items_spelling places.Header (items_of profile fs)
      → Spells profile fs bytes × Follow start fs to
  begun_back to h e =
      let f = follow (layout_of profile) fs start to h.1 refl in
      let last = ends (layout_of profile) to (behind_along (layout_of profile) fs start to f.0 refl) in (
        record {
          header = h.0;
          fields = f.1;
          order = (last.0, follows_run (layout_of profile) (fs ++ last.0) (follow_append fs last.0 start to places.End f.0 last.1));
          spelling = e ∙ same_spelling to f.0;
        },
        f.0,
      )

  pub in_order : IsInOrder profile fs bytes
  in_order = record {
    begun = (begun_there, λ h. (begun_back h.0 h.1 h.2).0);
    whole = (
      (λ s. there places.End s.0 (run_follows (layout_of profile) fs s.1)),
      λ h. let b = begun_back places.End h.0 h.1 in
          (b.0, follows_run (layout_of profile) fs b.1),
    );
  }

-- ---- whole records

-- items that are a profile and the frames of a run, and their spelling
pub record IsWholeRun (xs : List Item) (bytes : List ℕ) : Type 0 where
  pub profile : ProfileValue
  pub run : List Frame
  pub parts : xs ≡ items_of profile run
  pub spells : SpellsWhole profile run bytes

-- items from the header to the end are such ones
pub whole_run : (xs : List Item) (bytes : List ℕ) → AreItems places.Header xs places.End → bytes ≡ items_spelling places.Header xs
    → IsWholeRun xs bytes
whole_run [] bytes h e = absurd cc
whole_run (items.Frame f ∷ xs) bytes h e = elim h.0 [ ]
whole_run (items.Header p ∷ xs) bytes h e =
    let fs = all_frames (layout_of p) xs (places.Register (layout_of p)) places.End refl h.1 in
    let after_header = λ (ys : List Item). items.Header p ∷ ys in
    record {
      profile = p;
      run = fs.0;
      parts = ap after_header fs.1;
      spells = (in_order p fs.0 bytes).whole.1 (
        subst (λ (ys : List Item). AreItems places.Header (after_header ys) places.End) fs.1 h,
        e ∙ ap (λ (ys : List Item). items_spelling places.Header (after_header ys)) fs.1,
      );
    }
