-- The copies that leave at a row.
use Rattle.std.proofs.Common.{◌≡◌, ◌<◌, ◌≤◌, ℕ, zero, suc, Bool, List, [], ◌∷◌, map, length, take, get_or, set, Option}
use Rattle.std.proofs.Common.{refl, sym, ap, ◌∙◌, arith}
use Rattle.copies.specs.declared.row.Row.{Row}
use Rattle.cmd_records.specs.declared.voter.voter_rows.Voter.{Voter}
use Rattle.cmd_records.specs.declared.voter.majority.Holders.{Holders}
use Rattle.cmd_records.specs.voter.Rows.{same_row, AreHolders, voter_after, voters_after}

-- the same for this number of copies
abbrev pub parted_to : ℕ → ℕ → List Bool → List Voter → List Voter
parted_to zero n same voters = voters
parted_to (suc k) n (b ∷ same) (v ∷ voters) = voter_after b n v ∷ parted_to k n same voters
parted_to (suc k) n same [] = []
parted_to (suc k) n [] (v ∷ voters) = v ∷ voters

pub part-next : (k n : ℕ) (same : List Bool) (voters : List Voter) (d : Voter) (e : Bool) → k < length voters
    → length voters ≤ length same
    → set (parted_to k n same voters) k (voter_after (get_or same k e) n (get_or (parted_to k n same voters) k d))
    ≡ parted_to (suc k) n same voters
part-next k n same [] d e less few = absurd (omega (arith, less))
part-next k n [] (v ∷ voters) d e less few = absurd (omega (arith, few))
part-next zero n (b ∷ same) (v ∷ voters) d e less few = refl
part-next (suc k) n (b ∷ same) (v ∷ voters) d e less few =
    ap (λ vs. voter_after b n v ∷ vs) (part-next k n same voters d e (omega (arith, less)) (omega (arith, few)))

pub part-done : (k n : ℕ) (same : List Bool) (voters : List Voter) → k ≡ length voters → length voters ≤ length same
    → parted_to k n same voters ≡ voters_after n same voters
part-done zero n [] [] e few = refl
part-done zero n (b ∷ same) [] e few = refl
part-done (suc k) n same [] e few = absurd (omega (arith, e))
part-done k n [] (v ∷ voters) e few = absurd (omega (arith, few))
part-done zero n (b ∷ same) (v ∷ voters) e few = absurd (omega (arith, e))
part-done (suc k) n (b ∷ same) (v ∷ voters) e few =
    ap (λ vs. voter_after b n v ∷ vs) (part-done k n same voters (omega (arith, e)) (omega (arith, few)))

-- ---- by the front of a list of flags

pub part-front : (n : ℕ) (same : List Bool) (voters : List Voter)
    → voters_after n (take (length voters) same) voters ≡ voters_after n same voters
part-front n [] [] = refl
part-front n (b ∷ same) [] = refl
part-front n [] (v ∷ voters) = refl
part-front n (b ∷ same) (v ∷ voters) = ap (λ vs. voter_after b n v ∷ vs) (part-front n same voters)

-- the copies that don't hold a row leave by the flags of its holders
pub part-by : (n : ℕ) (holders : Holders) (row : Option Row) (voters new : List Voter) (more : List (Option Row))
    → AreHolders holders row more → length voters ≡ length more → new ≡ voters_after n holders.same voters
    → new ≡ voters_after n (map (same_row row) more) voters
part-by n holders row voters new more h many is =
    is ∙ sym (part-front n holders.same voters)
    ∙ ap (λ (same : List Bool). voters_after n same voters) (ap (λ k. take k holders.same) many ∙ h.same)

-- ---- what stays

-- all copies are there still
pub voters_after-many : (n : ℕ) (same : List Bool) (voters : List Voter) → length voters ≡ length same
    → length (voters_after n same voters) ≡ length voters
voters_after-many n [] [] e = refl
voters_after-many n (b ∷ same) [] e = refl
voters_after-many n [] (v ∷ voters) e = absurd (omega (arith, e))
voters_after-many n (b ∷ same) (v ∷ voters) e = let rest = voters_after-many n same voters (omega (arith, e)) in omega (arith, rest)

-- what leaving doesn't change of a copy stays
voters_after-part : {A : Type 0} (part : Voter → A) → ((b : Bool) (n : ℕ) (v : Voter) → part (voter_after b n v) ≡ part v)
    → (n : ℕ) (same : List Bool) (voters : List Voter) (k : ℕ) (d e : Voter) → length voters ≡ length same
    → k < length voters → part (get_or (voters_after n same voters) k d) ≡ part (get_or voters k e)
voters_after-part part stays n same [] k d e all less = absurd (omega (arith, less))
voters_after-part part stays n [] (v ∷ voters) k d e all less = absurd (omega (arith, all))
voters_after-part part stays n (b ∷ same) (v ∷ voters) zero d e all less = stays b n v
voters_after-part part stays n (b ∷ same) (v ∷ voters) (suc k) d e all less =
    voters_after-part part stays n same voters k d e (omega (arith, all)) (omega (arith, less))

pub voters_after-reader : (n : ℕ) (same : List Bool) (voters : List Voter) (k : ℕ) (d e : Voter) → length voters ≡ length same
    → k < length voters → (get_or (voters_after n same voters) k d).reader ≡ (get_or voters k e).reader
voters_after-reader = voters_after-part (λ v. v.reader) (λ b n v. refl)

pub voters_after-row : (n : ℕ) (same : List Bool) (voters : List Voter) (k : ℕ) (d e : Voter) → length voters ≡ length same
    → k < length voters → (get_or (voters_after n same voters) k d).row ≡ (get_or voters k e).row
voters_after-row = voters_after-part (λ v. v.row) (λ b n v. refl)
