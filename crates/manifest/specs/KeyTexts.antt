-- The text of a key: the names and numbers of its path, with dots between them.
use Rattle.std.specs.Prelude.{ℕ, List, map, decimal}
use Rattle.std.specs.List.{join_with_byte}
use Rattle.manifest.specs.Tree.{Step, to_member, to_item}
use Rattle.manifest.specs.Keys.{path}
use Rattle.manifest.specs.declared.key.Key.{Key}

abbrev pub step_text : Step → List ℕ
step_text (to_member word) = word
step_text (to_item n) = decimal n

abbrev pub key_text : Key → List ℕ
key_text key = join_with_byte 46 (map step_text (path key))
