-- The growth of the bytes that a sink took, write after write.
use Rattle.std.proofs.Common.{ℕ, ◌+◌, ◌<◌, List, [], ◌++◌, length, take, append_assoc, arith}
use Rattle.std.proofs.lemmas.List.{append-nil}
use Rattle.std.proofs.Math.Seq.{take-add}
use Rattle.std.specs.List.{between}
use Rattle.std.proofs.lemmas.Slice.{between_to_end}
use Rattle.det_io.specs.Prefix.{IsPrefix}
use Rattle.det_io.specs.Sink.{Grew, Same, GrewByPrefix, GrewShort}
use Rattle.det_io.proofs.Prefixes.{prefix-none, prefix-same, prefix-take, prefix-then, prefix-behind, proper-prefix, proper-take}
use Rattle.det_io.proofs.Prefixes.{proper-then, proper-behind}

-- what stays grew by nothing
pub grew-none : (took : List ℕ → Type 0) → Grew took took []
grew-none took = record { each = λ m h. rw append-nil h }

-- two writes in a row are one write of both
pub grew-then : {before mid after : List ℕ → Type 0} {a b : List ℕ} → Grew before mid a → Grew mid after b → Grew before after (a ++ b)
grew-then {after = after} {a = a} {b = b} p q = record { each = λ m h. rw (← append_assoc) (q.each (m ++ a) (p.each m h)) }

-- what grew and then stayed grew
pub grew-same : {before mid after : List ℕ → Type 0} {a : List ℕ} → Grew before mid a → Same mid after → Grew before after a
grew-same {a = a} p q = record { each = λ m h. q.kept (m ++ a) (p.each m h) }

-- what stayed and then grew grew
pub same-then-grew : {before mid after : List ℕ → Type 0} {a : List ℕ} → Same before mid → Grew mid after a → Grew before after a
same-then-grew p q = record { each = λ m h. q.each m (p.kept m h) }

-- what is as before grew by nothing
pub same-grew : {before after : List ℕ → Type 0} → Same before after → Grew before after []
same-grew p = record { each = λ m h. rw append-nil (p.kept m h) }

-- nothing happened, so all is as before
pub same-none : (took : List ℕ → Type 0) → Same took took
same-none took = record { kept = λ m h. h; no_more = λ m h. h }

-- growth by all the bytes is growth by a prefix of them
pub part-whole : (before after : List ℕ → Type 0) (bytes : List ℕ) → Grew before after bytes → GrewByPrefix before after bytes
part-whole before after bytes p = (bytes, prefix-same bytes, p)

-- what is as before grew by a prefix of any bytes
pub part-none : (before after : List ℕ → Type 0) (bytes : List ℕ) → Same before after → GrewByPrefix before after bytes
part-none before after bytes p = ([], prefix-none bytes, same-grew p)

-- growth by the first d bytes is growth by a prefix
pub part-of : {before after : List ℕ → Type 0} (bytes : List ℕ) (d : ℕ) → Grew before after (take d bytes) → GrewByPrefix before after bytes
part-of bytes d p = (take d bytes, prefix-take d bytes, p)

-- growth by a prefix of a prefix is growth by a prefix of the whole
pub part-wider : (before after : List ℕ → Type 0) (bytes all : List ℕ) → GrewByPrefix before after bytes → IsPrefix bytes all
    → GrewByPrefix before after all
part-wider before after bytes all p q = (p.0, prefix-then p.0 bytes all p.1 q, p.2)

-- growth by some bytes and then by a prefix of others is growth by a prefix of both in a row
pub grew-then-part : (before mid after : List ℕ → Type 0) (a b : List ℕ) → Grew before mid a → GrewByPrefix mid after b
    → GrewByPrefix before after (a ++ b)
grew-then-part before mid after a b p q = (a ++ q.0, prefix-behind a q.0 b q.1, grew-then p q.2)

-- growth by a proper prefix is growth by a prefix
pub short-part : (before after : List ℕ → Type 0) (bytes : List ℕ) → GrewShort before after bytes → GrewByPrefix before after bytes
short-part before after bytes p = (p.0, proper-prefix p.0 bytes p.1, p.2)

-- growth by fewer than all bytes is growth by a proper prefix
pub short-of : {before after : List ℕ → Type 0} (bytes : List ℕ) (d : ℕ) → d < length bytes → Grew before after (take d bytes)
    → GrewShort before after bytes
short-of bytes d lt p = (take d bytes, proper-take d bytes lt, p)

-- growth by a proper prefix of a prefix is growth by a proper prefix of the whole
pub short-wider : (before after : List ℕ → Type 0) (bytes all : List ℕ) → GrewShort before after bytes → IsPrefix bytes all
    → GrewShort before after all
short-wider before after bytes all p q = (p.0, proper-then p.0 bytes all p.1 q, p.2)

-- growth by some bytes and then by a proper prefix of others is growth by a proper prefix of both in a row
pub grew-then-short : (before mid after : List ℕ → Type 0) (a b : List ℕ) → Grew before mid a → GrewShort mid after b
    → GrewShort before after (a ++ b)
grew-then-short before mid after a b p q = (a ++ q.0, proper-behind a q.0 b q.1, grew-then p q.2)

-- the first d bytes and then n of those after them are the first d + n bytes
pub grew-next : {before mid after : List ℕ → Type 0} (bytes : List ℕ) (d n : ℕ) → Grew before mid (take d bytes)
    → Grew mid after (take n (between d (length bytes) bytes)) → Grew before after (take (d + n) bytes)
grew-next bytes d n p q = rw take-add (grew-then p (let r = rw (between_to_end bytes d (length bytes) (omega arith)) at q in r))
