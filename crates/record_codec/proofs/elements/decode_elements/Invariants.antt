use Rattle.std.proofs.Common.{◌≡◌, ◌+◌, length, ◌++◌, map}
use Rattle.record_codec.specs.Parts.{bytes_of}
use Rattle.record_codec.proofs.elements.decode_elements.Given as goal

abbrev pub invariant-elements : goal.invariant-elements
invariant-elements l = record {
  made : l.elements ++ map bytes_of l.walk ≡ map bytes_of l.fn.walk;
  counted : length l.elements + length l.walk ≡ length l.fn.walk;
}

abbrev pub decreases-elements : goal.decreases-elements
decreases-elements l = length l.walk
