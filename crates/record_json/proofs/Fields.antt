-- The fields of an element of a known length.
use Rattle.std.proofs.Common.{◌≡◌, ℕ, List, [], ◌++◌, length, Bool, true, Option, Some, cond, refl, ap, ◌∙◌}
use Rattle.std.proofs.lemmas.Bool.{eq-eqb}
use Rattle.std.specs.Prelude.{codes}
use Rattle.record_json.specs.declared.element_layout.ElementLayout.{ElementLayout}
use Rattle.record_json.specs.Elements.{length_of, has_length, numbers_text, fields_text}

abbrev object : ElementLayout → List ℕ → List ℕ
object layout bytes = codes ",\"fields\":{" ++ (numbers_text layout bytes ++ codes "}")

pub fields_there : (layout : ElementLayout) (bytes : List ℕ) (n : ℕ) → length_of layout ≡ Some n → length bytes ≡ n
    → fields_text layout bytes ≡ object layout bytes
fields_there layout bytes n known is =
    ap (λ (o : Option ℕ). cond (has_length o bytes) (object layout bytes) []) known
    ∙ ap (λ (b : Bool). cond b (object layout bytes) []) (eq-eqb (length bytes) n is)
