-- The lines of a part of a record, item by item.
use Rattle.std.proofs.Common.{◌≡◌, ◌≢◌, ◌⊎◌, inl, inr, ℕ, zero, suc, ◌+◌, Bool, true, false, cond, eqb, List, [], ◌∷◌, ◌++◌, length, Option}
use Rattle.std.proofs.Common.{Some, None, refl, sym, ap, subst, ◌∙◌, arith, append-nil}
use Rattle.std.specs.Prelude.{slice_get, unwrap_or, option_map}
use Rattle.std.proofs.lemmas.Bool.Decides.{eqb_tells}
use Rattle.std.proofs.lemmas.Option.{slice_get_past}
use Rattle.det_values.specs.declared.format.Format.{Format}
use Rattle.det_values.specs.declared.format.Format.TheVariants.{One}
use Rattle.det_values.specs.declared.frames.RunFrame.{RunFrame}
use Rattle.det_values.specs.Values.{ProfileValue}
use Rattle.det_values.specs.declared.frames.Frame.TheVariants.{Register, Discover, Init, Run, Terminate}
use Rattle.det_io.specs.Prefix.{IsPrefix}
use Rattle.det_io.proofs.Prefixes.{prefix-none}
use Rattle.record_grammar.specs.declared.item.Item.{Item}
use Rattle.record_grammar.specs.declared.item.Item.TheVariants as items
use Rattle.record_reader.proofs.Items.{NextIs}
use Rattle.record_text.specs.declared.show_part.ShowPart.{ShowPart}
use Rattle.record_text.specs.declared.show_part.ShowPart.TheVariants.{All, Reports, Cycle}
use Rattle.record_json.specs.declared.element_layout.ElementLayout.{ElementLayout}
use Rattle.record_json.specs.declared.element_layout.ElementLayout.TheVariants.{Unknown}
use Rattle.record_json.specs.Elements.{layout_of}
use Rattle.cmd_records.specs.declared.record_show.show_form.Notation.{Notation}
use Rattle.cmd_records.specs.declared.record_show.show_form.Notation.TheVariants.{Lines, Json}
use Rattle.cmd_records.specs.declared.record_show.show_form.ShowForm.{ShowForm}
use Rattle.cmd_records.specs.record_show.Text.{format_in, layout_in, all_lines, one_run, cycle_lines, lines_by, lines_of}
use Rattle.record_reader.specs.InItems.{run_in, runs_in}
use Rattle.cmd_records.specs.record_show.PrintedItems.{format_by, format_behind, layout_by, layout_behind, lines_at, printed_of}
use Rattle.cmd_records.proofs.lemmas.record_show.Lines.{item_is, format_one, behind_append, runs_append, runs_next, lines_first, lines_next}
use Rattle.cmd_records.proofs.lemmas.record_show.Lines.{lines_none_yet}
use Rattle.cmd_records.proofs.lemmas.record_show.JsonLines.{json-item-is, layout-one, layouts-append, json-first, json-next, json-none-yet}

abbrev pub form_by : Notation → ShowPart → ShowForm
form_by notation part = record { part = part; notation = notation }

-- ---- one run of many

-- the lines of a run, if there is one
abbrev lines_if : (RunFrame → List ℕ) → Option RunFrame → List ℕ
lines_if lines run = unwrap_or (option_map lines run) []

get_found : {X : Type 0} (xs ys : List X) (i : ℕ) (x : X) → slice_get xs i ≡ Some x → slice_get (xs ++ ys) i ≡ Some x
get_found [] ys i x e = absurd cc
get_found (y ∷ xs) ys zero x e = e
get_found (y ∷ xs) ys (suc i) x e = get_found xs ys i x e

get_last : {X : Type 0} (xs : List X) (y : X) → slice_get (xs ++ y ∷ []) (length xs) ≡ Some y
get_last [] y = refl
get_last (x ∷ xs) y = get_last xs y

get_past : {X : Type 0} (xs : List X) (y : X) (i : ℕ) → slice_get xs i ≡ None → i ≢ length xs → slice_get (xs ++ y ∷ []) i ≡ None
get_past [] y zero e ne = absurd (ne refl)
get_past [] y (suc i) e ne = refl
get_past (x ∷ xs) y zero e ne = absurd cc
get_past (x ∷ xs) y (suc i) e ne = get_past xs y i e (λ same. ne (ap suc same))

-- a list of runs with one more has the lines of a run before it, or those of the last
run_next : (lines : ℕ → RunFrame → List ℕ) (m : ℕ) (runs : List RunFrame) (r : RunFrame)
    → lines_if (lines (suc m)) (slice_get (runs ++ r ∷ []) m)
    ≡ lines_if (lines (suc m)) (slice_get runs m)
    ++ cond (eqb (length runs + 1) (suc m)) (lines (length runs + 1) r) []
run_next lines m runs r = by (eqb_tells (length runs + 1) (suc m))
  where
    other : (o : Option RunFrame) → slice_get runs m ≡ o → m ≢ length runs → slice_get (runs ++ r ∷ []) m ≡ slice_get runs m
    other (Some x) e ne = get_found runs (r ∷ []) m x e ∙ sym e
    other None e ne = get_past runs r m e ne ∙ sym e

    by : ((eqb (length runs + 1) (suc m) ≡ true) × (length runs + 1 ≡ suc m))
        ⊎ ((eqb (length runs + 1) (suc m) ≡ false) × (length runs + 1 ≢ suc m))
        → lines_if (lines (suc m)) (slice_get (runs ++ r ∷ []) m) ≡ lines_if (lines (suc m)) (slice_get runs m)
        ++ cond (eqb (length runs + 1) (suc m)) (lines (length runs + 1) r) []
    by (inl e) =
        let at : m ≡ length runs = let is = e.1 in omega (arith, is) in
        ap (λ (i : ℕ). lines_if (lines (suc m)) (slice_get (runs ++ r ∷ []) i)) at ∙ ap (lines_if (lines (suc m))) (get_last runs r)
        ∙ ap (λ (n : ℕ). lines n r) (sym e.1)
        ∙ sym (ap (λ (o : Option RunFrame). lines_if (lines (suc m)) o
        ++ cond (eqb (length runs + 1) (suc m)) (lines (length runs + 1) r) []) (slice_get_past runs m (omega (arith, at)))
        ∙ ap (λ (b : Bool). cond b (lines (length runs + 1) r) []) e.0)
    by (inr e) =
        ap (lines_if (lines (suc m))) (other (slice_get runs m) refl (λ at. e.1 (omega (arith, at))))
        ∙ sym (ap (λ (b : Bool). lines_if (lines (suc m)) (slice_get runs m) ++ cond b (lines (length runs + 1) r) []) e.0
        ∙ append-nil (lines_if (lines (suc m)) (slice_get runs m)))

-- a list of items with one more that is no run has the lines of the same run
no_run : (lines : RunFrame → List ℕ) (m : ℕ) (given : List Item) (x : Item) → run_in x ≡ []
    → lines_if lines (slice_get (runs_in (given ++ x ∷ [])) m)
    ≡ lines_if lines (slice_get (runs_in given) m) ++ []
no_run lines m given x none =
    ap (λ (runs : List RunFrame). lines_if lines (slice_get runs m))
    (runs_next given x ∙ ap (λ (runs : List RunFrame). runs_in given ++ runs) none ∙ append-nil (runs_in given))
    ∙ sym (append-nil (lines_if lines (slice_get (runs_in given) m)))

-- what is printed of one run more
abbrev added : Notation → ℕ → Format → ElementLayout → List Item → Item → List ℕ
added notation number format layout given x =
    printed_of (form_by notation (Cycle number)) (format_by format x) (layout_by layout x) (length (runs_in given) + length (run_in x)) x

never : (n : ℕ) (bytes : List ℕ) → cond (eqb (n + 1) zero) bytes [] ≡ []
never n bytes = by (eqb_tells (n + 1) zero)
  where
    by : ((eqb (n + 1) zero ≡ true) × (n + 1 ≡ zero)) ⊎ ((eqb (n + 1) zero ≡ false) × (n + 1 ≢ zero)) → cond (eqb (n + 1) zero) bytes []
        ≡ []
    by (inl e) = absurd (let is = e.1 in omega (arith, is))
    by (inr e) = ap (λ (b : Bool). cond b bytes []) e.0

none_0 : (notation : Notation) (format : Format) (layout : ElementLayout) (given : List Item) (x : Item)
    → added notation zero format layout given x ≡ []
none_0 notation format layout given (items.Header p) = refl
none_0 notation format layout given (items.Frame Register) = refl
none_0 notation format layout given (items.Frame Discover) = refl
none_0 notation format layout given (items.Frame (Init elements)) = refl
none_0 notation format layout given (items.Frame (Run r)) =
    never (length (runs_in given)) (lines_at notation format layout (length (runs_in given) + 1) (items.Frame (Run r)))
none_0 notation format layout given (items.Frame Terminate) = refl

-- the lines of a Run frame are those of its run
run_at : (notation : Notation) (format : Format) (layout : ElementLayout) (number : ℕ) (r : RunFrame)
    → one_run notation format layout number r ≡ lines_at notation format layout number (items.Frame (Run r))
run_at Lines format layout number r = refl
run_at Json format layout number r = refl

module _ (notation : Notation) (m : ℕ) (p : ProfileValue) (xs : List Item) where
  abbrev headed : List Item
  headed = items.Header p ∷ xs

  abbrev run_text : ℕ → RunFrame → List ℕ
  run_text number run = one_run notation p.format (layout_of p) number run

  one_more : (r : RunFrame) → cycle_lines notation (suc m) (headed ++ items.Frame (Run r) ∷ []) ≡ cycle_lines notation (suc m) headed
      ++ added notation (suc m) p.format (layout_of p) headed (items.Frame (Run r))
  one_more r =
      ap (λ (runs : List RunFrame). lines_if (run_text (suc m)) (slice_get runs m)) (runs_next headed (items.Frame (Run r)))
      ∙ run_next run_text m (runs_in headed) r
      ∙ ap (λ (text : List ℕ). cycle_lines notation (suc m) headed ++ cond (eqb (length (runs_in headed) + 1) (suc m)) text [])
      (run_at notation p.format (layout_of p) (length (runs_in headed) + 1) r)

  none_more : (x : Item) → run_in x ≡ [] → cycle_lines notation (suc m) (headed ++ x ∷ []) ≡ cycle_lines notation (suc m) headed ++ []
  none_more x none = no_run (run_text (suc m)) m headed x none

cycle_next : (notation : Notation) (m : ℕ) (given : List Item) (x : Item) → NextIs given x
    → cycle_lines notation (suc m) (given ++ x ∷ [])
    ≡ cycle_lines notation (suc m) given ++ added notation (suc m) (format_in given) (layout_in given) given x
cycle_next notation m [] (items.Header p) h = refl
cycle_next notation m [] (items.Frame f) h = absurd h
cycle_next notation m (items.Header p ∷ xs) (items.Header q) h = absurd h
cycle_next notation m (items.Header p ∷ xs) (items.Frame Register) h = none_more notation m p xs (items.Frame Register) refl
cycle_next notation m (items.Header p ∷ xs) (items.Frame Discover) h = none_more notation m p xs (items.Frame Discover) refl
cycle_next notation m (items.Header p ∷ xs) (items.Frame (Init elements)) h = none_more notation m p xs (items.Frame (Init elements)) refl
cycle_next notation m (items.Header p ∷ xs) (items.Frame (Run r)) h = one_more notation m p xs r
cycle_next notation m (items.Header p ∷ xs) (items.Frame Terminate) h = none_more notation m p xs (items.Frame Terminate) refl
cycle_next notation m (items.Frame f ∷ xs) x h = absurd h

-- ---- any part

-- what one item more adds to the lines
abbrev pub more_of : ShowForm → List Item → Item → List ℕ
more_of form given x =
    printed_of form (format_by (format_behind One given) x) (layout_by (layout_behind Unknown given) x)
    (length (runs_in given) + length (run_in x)) x

next_by : (notation : Notation) (part : ShowPart) (given : List Item) (x : Item) → NextIs given x
    → format_behind One given ≡ format_in given → layout_behind Unknown given ≡ layout_in given
    → lines_by notation part (given ++ x ∷ []) ≡ lines_by notation part given ++ more_of (form_by notation part) given x
next_by Lines All given x next format layout =
    lines_next given x
    ∙ ap (λ (lines : List ℕ). all_lines Lines given ++ lines)
    (item_is (format_behind One given) (layout_by (layout_behind Unknown given) x) (length (runs_in given)) x)
next_by Json All given x next format layout =
    json-next given x
    ∙ ap (λ (lines : List ℕ). all_lines Json given ++ lines)
    (json-item-is (format_behind One given) (layout_behind Unknown given) (length (runs_in given)) x)
next_by notation Reports given x next format layout = refl
next_by notation (Cycle zero) given x next format layout =
    sym (none_0 notation (format_behind One given) (layout_behind Unknown given) given x)
next_by notation (Cycle (suc m)) given x next format layout =
    cycle_next notation m given x next
    ∙ ap (λ (f : Format). cycle_lines notation (suc m) given ++ added notation (suc m) f (layout_in given) given x) (sym format)
    ∙ ap (λ (l : ElementLayout). cycle_lines notation (suc m) given ++ added notation (suc m) (format_behind One given) l given x)
    (sym layout)

-- the lines of one item more
pub part-next : (form : ShowForm) (given : List Item) (x : Item) → NextIs given x → format_behind One given ≡ format_in given
    → layout_behind Unknown given ≡ layout_in given → lines_of form (given ++ x ∷ []) ≡ lines_of form given ++ more_of form given x
part-next form given x next format layout = next_by form.notation form.part given x next format layout

format_next : (given : List Item) (x : Item) → NextIs given x → format_by (format_in given) x ≡ format_in (given ++ x ∷ [])
format_next [] (items.Header p) h = refl
format_next [] (items.Frame f) h = absurd h
format_next (items.Header p ∷ xs) (items.Header q) h = absurd h
format_next (items.Header p ∷ xs) (items.Frame f) h = refl
format_next (items.Frame f ∷ xs) x h = absurd h

pub layout-next : (given : List Item) (x : Item) → NextIs given x → layout_by (layout_in given) x ≡ layout_in (given ++ x ∷ [])
layout-next [] (items.Header p) h = refl
layout-next [] (items.Frame f) h = absurd h
layout-next (items.Header p ∷ xs) (items.Header q) h = absurd h
layout-next (items.Header p ∷ xs) (items.Frame f) h = refl
layout-next (items.Frame f ∷ xs) x h = absurd h

pub behind-next : (given : List Item) (x : Item) → format_behind One (given ++ x ∷ []) ≡ format_by (format_behind One given) x
behind-next given x = behind_append One given (x ∷ []) ∙ format_one (format_behind One given) x

pub headed-next : (given : List Item) (x : Item) → NextIs given x → format_behind One given ≡ format_in given
    → format_behind One (given ++ x ∷ []) ≡ format_in (given ++ x ∷ [])
headed-next given x next headed = behind-next given x ∙ ap (λ (format : Format). format_by format x) headed ∙ format_next given x next

pub laid-next : (given : List Item) (x : Item) → NextIs given x → layout_behind Unknown given ≡ layout_in given
    → layout_behind Unknown (given ++ x ∷ []) ≡ layout_in (given ++ x ∷ [])
laid-next given x next laid =
    layouts-append Unknown given (x ∷ []) ∙ layout-one (layout_behind Unknown given) x
    ∙ ap (λ (layout : ElementLayout). layout_by layout x) laid ∙ layout-next given x next

found_in : (lines : RunFrame → List ℕ) (m : ℕ) (given others : List Item) (run : RunFrame) → slice_get (runs_in given) m ≡ Some run
    → IsPrefix (lines run) (lines_if lines (slice_get (runs_in (given ++ others)) m))
found_in lines m given others run e = (
  [],
  append-nil (lines run)
      ∙ sym (ap (λ (runs : List RunFrame). lines_if lines (slice_get runs m)) (runs_append given others)
      ∙ ap (lines_if lines) (get_found (runs_in given) (runs_in others) m run e)),
)

found_on : (notation : Notation) (m : ℕ) (given others : List Item) (run : RunFrame) → slice_get (runs_in given) m ≡ Some run
    → IsPrefix (one_run notation (format_in given) (layout_in given) (suc m) run) (cycle_lines notation (suc m) (given ++ others))
found_on notation m [] others run e = absurd cc
found_on notation m (items.Header p ∷ xs) others run e =
    found_in (one_run notation p.format (layout_of p) (suc m)) m (items.Header p ∷ xs) others run e
found_on notation m (items.Frame f ∷ xs) others run e =
    found_in (one_run notation One Unknown (suc m)) m (items.Frame f ∷ xs) others run e

-- the lines of a run of a record's first items are those in the whole record
abbrev run_of : Notation → ℕ → List Item → Option RunFrame → List ℕ
run_of notation m given run = lines_if (one_run notation (format_in given) (layout_in given) (suc m)) run

cycle_first : (notation : Notation) (m : ℕ) (given others : List Item)
    → IsPrefix (cycle_lines notation (suc m) given) (cycle_lines notation (suc m) (given ++ others))
cycle_first notation m given others = by (slice_get (runs_in given) m) refl
  where
    by : (o : Option RunFrame) → slice_get (runs_in given) m ≡ o
        → IsPrefix (run_of notation m given (slice_get (runs_in given) m)) (cycle_lines notation (suc m) (given ++ others))
    by (Some run) e =
        subst (λ (o : Option RunFrame). IsPrefix (run_of notation m given o) (cycle_lines notation (suc m) (given ++ others))) (sym e)
        (found_on notation m given others run e)
    by None e =
        subst (λ (o : Option RunFrame). IsPrefix (run_of notation m given o) (cycle_lines notation (suc m) (given ++ others))) (sym e)
        (prefix-none (cycle_lines notation (suc m) (given ++ others)))

-- the lines of a record's first items come first of those of all
first_by : (notation : Notation) (part : ShowPart) (given others : List Item)
    → IsPrefix (lines_by notation part given) (lines_by notation part (given ++ others))
first_by Lines All given others = lines_first given others
first_by Json All given others = json-first given others
first_by notation Reports given others = prefix-none []
first_by notation (Cycle zero) given others = prefix-none []
first_by notation (Cycle (suc m)) given others = cycle_first notation m given others

pub part-first : (form : ShowForm) (given others : List Item) → IsPrefix (lines_of form given) (lines_of form (given ++ others))
part-first form given others = first_by form.notation form.part given others

none_by : (notation : Notation) (part : ShowPart) → lines_by notation part [] ≡ []
none_by Lines All = lines_none_yet
none_by Json All = json-none-yet
none_by notation Reports = refl
none_by notation (Cycle zero) = refl
none_by notation (Cycle (suc m)) = refl

pub none-yet : (form : ShowForm) → lines_of form [] ≡ []
none-yet form = none_by form.notation form.part
