use Rattle.std.proofs.Common.{◌≡◌, ◌≤◌, ◌+◌, ℕ, List, ◌++◌, length, length-append, length-take, take, refl, arith}
use Rattle.std.proofs.lemmas.Result.{err_from_is_err_and}
use Rattle.det_io.specs.Shelf.{ShelfState, Reads}
use Rattle.det_io.proofs.SlotReads.{reads-then}
use Rattle.det_io.proofs.bounded_read.read_limited.Goals as goal

-- what was read, after a piece of n bytes
read_on : {before mid after : ShelfState} {slot : ℕ} (bytes buf : List ℕ) (n : ℕ)
    → Reads before mid slot bytes → Reads mid after slot (take n buf) → n ≤ length buf
    → (all : List ℕ) × Reads before after slot all × (length all ≡ length bytes + n)
read_on bytes buf n p q le =
    (bytes ++ take n buf, reads-then p q, simp (length-append, length-take) (omega (arith, le)))

pub returns-then-n-most-clause-read : goal.returns-then-n-most-clause-read
returns-then-n-most-clause-read g c =
    let read = read_on _ _ _ c.pieces.invariant.reads c.in_ok-n.ensures.reads (omega (arith, c.in_ok-n.ensures.within, c.read.auto.buf)) in
    (read.0, read.1, ((λ e. omega (arith, read.2, c.if-n-most.true, c.len.ensures, c.pieces.bytes.ok.0)), (λ more. refl)))

pub returns-then-n-most-clause-piece : goal.returns-then-n-most-clause-piece
returns-then-n-most-clause-piece g c =
    let read = read_on _ _ _ c.pieces.invariant.reads c.in_ok-n.ensures.reads (omega (arith, c.in_ok-n.ensures.within, c.read.auto.buf)) in
    (read.0, read.1, omega (arith, read.2, c.pieces.invariant.within, c.in_ok-n.ensures.within, c.read.auto.buf))

pub returns-in_err-extend_from_slice-clause-read : goal.returns-in_err-extend_from_slice-clause-read
returns-in_err-extend_from_slice-clause-read g c =
    let read = read_on _ _ _ c.pieces.invariant.reads c.in_ok-n.ensures.reads (omega (arith, c.in_ok-n.ensures.within, c.read.auto.buf)) in
    let p = err_from_is_err_and c.from_residual-in_err-extend_from_slice.result c.from_residual-in_err-extend_from_slice.ensures.1 in
    (read.0, read.1, ((λ e. cc), (λ more. absurd (omega (arith, read.2, c.if-n-most.false, c.len.ensures, c.pieces.bytes.ok.0, more)))))

pub returns-in_err-extend_from_slice-clause-piece : goal.returns-in_err-extend_from_slice-clause-piece
returns-in_err-extend_from_slice-clause-piece g c =
    let read = read_on _ _ _ c.pieces.invariant.reads c.in_ok-n.ensures.reads (omega (arith, c.in_ok-n.ensures.within, c.read.auto.buf)) in
    (read.0, read.1, omega (arith, read.2, c.pieces.invariant.within, c.in_ok-n.ensures.within, c.read.auto.buf))
