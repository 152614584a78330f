-- What a record shows of its rows.
use Rattle.std.proofs.Common.{◌≡◌, ℕ, List, [], ◌++◌, length, drop, Option, refl, sym, ap, subst, ◌∙◌}
use Rattle.std.proofs.lemmas.List.{append-nil, drop_at}
use Rattle.record_grammar.specs.declared.record_fault.RecordFault.{RecordFault}
use Rattle.record_grammar.specs.declared.item.Item.{Item}
use Rattle.record_grammar.specs.Record.{items, fault}
use Rattle.copies.specs.Rows.{first_row, ShowsRow}

-- the row after these items, by the items that follow them
pub shows-row : (given others : List Item) (bytes : List ℕ) → items bytes ≡ given ++ others
    → ShowsRow given (first_row others (fault bytes)) bytes
shows-row given others bytes e = record {
  begins = (others, sym e);
  is = ap (λ xs. first_row (drop (length given) xs) (fault bytes)) e
      ∙ ap (λ xs. first_row xs (fault bytes)) (drop_at given others (length given) refl);
}

pub shows-end : (given : List Item) (end : Option RecordFault) (bytes : List ℕ) → items bytes ≡ given → fault bytes ≡ end
    → ShowsRow given (first_row [] end) bytes
shows-end given end bytes e f =
    subst (λ o. ShowsRow given (first_row [] o) bytes) f (shows-row given [] bytes (e ∙ sym (append-nil given)))

pub at-none : (P : List ℕ → Type 0) (read rest : List ℕ) → rest ≡ [] → P read → P (read ++ rest)
at-none P read rest e h = subst P (sym (ap (λ r. read ++ r) e ∙ append-nil read)) h
