use Rattle.std.proofs.Common.{◌≡◌, ◌≢◌, ℕ, ◌<◌, List, [], ◌++◌, length, ap, subst, ◌∙◌, rules, arith}
use Rattle.det_io.specs.Shelf.{IsAtEnd}
use Rattle.record_reader.specs.item_reader.Held.{held}
use Rattle.record_reader.proofs.lemmas.item_reader.Stepping.{no_bytes}
use Rattle.record_reader.proofs.lemmas.item_reader.Matching.{passing_on, passing_read, other_byte, nothing_held, something_held}
use Rattle.record_reader.proofs.lemmas.item_reader.Matching.{front_failed}
use Rattle.record_reader.proofs.item_reader.reader.ItemReader.pass_front.Goals as goal

pub returns-then-matched-bytes-clause-passed : goal.returns-then-matched-bytes-clause-passed
returns-then-matched-bytes-clause-passed g c =
    let h = c.pieces.invariant in
    let s = c.pass_equal-matched in
    record {
      so_far =
          passing_on c.args.bytes.now c.pieces.matched s.result _ _ c.args.self.now c.pieces.self s.new.self h.within h.passing
          s.ensures.matched s.ensures.before s.ensures.aside;
      front = c.if-matched-bytes.true;
    }

pub returns-then-len-gt0-clause-passed : goal.returns-then-len-gt0-clause-passed
returns-then-len-gt0-clause-passed g c =
    let h = c.pieces.invariant in
    let s = c.pass_equal-matched in
    let left : List ℕ = held s.new.self.window in
    let some : left ≢ [] = something_held left (omega (arith, c.len.ensures)) in
    record {
      so_far =
          passing_on c.args.bytes.now c.pieces.matched s.result _ _ c.args.self.now c.pieces.self s.new.self h.within h.passing
          s.ensures.matched s.ensures.before s.ensures.aside;
      front = (
        omega (arith, s.ensures.matched.within, c.if-matched-bytes.false),
        some,
        other_byte c.args.bytes.now left s.result c.if-matched-bytes.false some s.ensures.matched.ends,
        s.ensures.matched.are,
      );
    }

pub returns-in-Ok-eq0-clause-passed : goal.returns-in-Ok-eq0-clause-passed
returns-in-Ok-eq0-clause-passed g c =
    let h = c.pieces.invariant in
    let s = c.pass_equal-matched in
    let t = c.in-Ok-eq0.ensures.took in
    let left : List ℕ = held s.new.self.window in
    let none : left ≡ [] = nothing_held left (omega (arith, c.len.ensures)) in
    let short : s.result < length c.args.bytes.now = omega (arith, s.ensures.matched.within, c.if-matched-bytes.false) in
    let e : t.more ≡ [] = no_bytes c.in-Ok-eq0.field-0 t.more t.told.0 (search rules) in
    record {
      so_far =
          passing_read c.args.bytes.now s.result _ _ _ _ c.args.self.now s.new.self c.read_piece.new.self
          (passing_on c.args.bytes.now c.pieces.matched s.result _ _ c.args.self.now c.pieces.self s.new.self h.within h.passing
          s.ensures.matched s.ensures.before s.ensures.aside) none short t c.in-Ok-eq0.ensures.on;
      front = (
        short,
        t.is ∙ ap (λ (xs : List ℕ). xs ++ t.more) none ∙ e,
        subst (λ (slot : ℕ). IsAtEnd (g.S.Slots.sees c.read_piece.new.shelf) slot) (s.ensures.aside.slot ∙ h.passing.aside.slot)
            (t.told.1 e),
      );
    }

pub pieces-preserved : goal.pieces-preserved
pieces-preserved g c =
    let h = c.pieces.invariant in
    let s = c.pass_equal-matched in
    let t = c.in-Ok.ensures.took in
    let left : List ℕ = held s.new.self.window in
    let none : left ≡ [] = nothing_held left (omega (arith, c.len.ensures)) in
    let short : s.result < length c.args.bytes.now = omega (arith, s.ensures.matched.within, c.if-matched-bytes.false) in
    record {
      within = s.ensures.matched.within;
      passing =
          passing_read c.args.bytes.now s.result _ _ _ _ c.args.self.now s.new.self c.read_piece.new.self
          (passing_on c.args.bytes.now c.pieces.matched s.result _ _ c.args.self.now c.pieces.self s.new.self h.within h.passing
          s.ensures.matched s.ensures.before s.ensures.aside) none short t c.in-Ok.ensures.on;
      traffic = let a = h.traffic in let b = c.in-Ok.ensures.traffic in search rules;
    }

pub returns-in-Err-clause-passed : goal.returns-in-Err-clause-passed
returns-in-Err-clause-passed g c =
    let h = c.pieces.invariant in
    let s = c.pass_equal-matched in
    let t = c.in-Err.ensures.took in
    let left : List ℕ = held s.new.self.window in
    let none : left ≡ [] = nothing_held left (omega (arith, c.len.ensures)) in
    let short : s.result < length c.args.bytes.now = omega (arith, s.ensures.matched.within, c.if-matched-bytes.false) in
    record {
      so_far =
          passing_read c.args.bytes.now s.result _ _ _ _ c.args.self.now s.new.self c.read_piece.new.self
          (passing_on c.args.bytes.now c.pieces.matched s.result _ _ c.args.self.now c.pieces.self s.new.self h.within h.passing
          s.ensures.matched s.ensures.before s.ensures.aside) none short t c.in-Err.ensures.on;
      front = front_failed c.in-Err.failure _ _ _ _ _ c.args.bytes.now s.result _ _ t short;
    }
