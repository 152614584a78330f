-- The keys of the two tables of needs, both at once.
use Rattle.std.proofs.Common.{◌≡◌, Bool, true, false, refl, ap, ◌∙◌}
use Rattle.toml.specs.Data.{Data}
use Rattle.manifest.specs.Tree.{step, to_member}
use Rattle.manifest.specs.Keys.{Kind, section, whole, found, has, need_kind, need_word}
use Rattle.manifest.specs.Faults.{fault_at, fault_by}
use Rattle.manifest.specs.KeyReaders.{section_key, need_key, need_least, need_most}
use Rattle.manifest.specs.declared.key.NeedKey.{NeedKey}
use Rattle.manifest.specs.declared.key.NeedKey.TheVariants.{Instructions, SequentialBegin, SequentialEnd, Speedup}
use Rattle.manifest.specs.declared.stage.Stage.{Stage}
use Rattle.manifest.specs.declared.stage.Stage.TheVariants.{Init, Run}

pub need_found : (tree : Data) (stage : Stage) (need : NeedKey)
    → found tree (need_key stage need) ≡ step (to_member (need_word need)) (found tree (section_key stage))
need_found tree Init need = refl
need_found tree Run need = refl

needed_by_table : (tree : Data) (stage : Stage) (need : NeedKey)
    → fault_at tree (need_key stage need)
    ≡ fault_by (need_key stage need) (has tree (section_key stage)) (need_kind need)
    (step (to_member (need_word need)) (found tree (section_key stage)))
needed_by_table tree Init need = refl
needed_by_table tree Run need = refl

kind_is : (need : NeedKey) → need_kind need ≡ whole (need_least need) (need_most need)
kind_is Instructions = refl
kind_is SequentialBegin = refl
kind_is SequentialEnd = refl
kind_is Speedup = refl

-- where the table is there, each of its keys is needed
pub need_fault : (tree : Data) (stage : Stage) (need : NeedKey) → has tree (section_key stage) ≡ true
    → fault_at tree (need_key stage need)
    ≡ fault_by (need_key stage need) true (whole (need_least need) (need_most need))
    (step (to_member (need_word need)) (found tree (section_key stage)))
need_fault tree stage need there =
    needed_by_table tree stage need
    ∙ ap (λ (needed : Bool). fault_by (need_key stage need) needed (need_kind need)
    (step (to_member (need_word need)) (found tree (section_key stage)))) there
    ∙ ap (λ (kind : Kind). fault_by (need_key stage need) true kind (step (to_member (need_word need)) (found tree (section_key stage))))
    (kind_is need)

pub section_fault : (tree : Data) (stage : Stage)
    → fault_at tree (section_key stage) ≡ fault_by (section_key stage) false section (found tree (section_key stage))
section_fault tree Init = refl
section_fault tree Run = refl
