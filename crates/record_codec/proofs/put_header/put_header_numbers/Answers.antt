use Rattle.record_codec.proofs.Appending.{grows_then}
use Rattle.record_codec.proofs.put_header.put_header_numbers.Goals as goal

pub returns-clause-grows : goal.returns-clause-grows
returns-clause-grows c =
    grows_then _ _ _ c.put_magic.ensures.grows (grows_then _ _ _ c.put_u16.ensures.grows (grows_then _ _ _
    c.put_u16-2.ensures.grows (grows_then _ _ _ c.put_u64.ensures.grows c.put_u64-2.ensures.grows)))
