-- The list of those that left, one after another.
use Rattle.std.proofs.Common.{◌≡◌, ◌<◌, ◌≤◌, ◌+◌, ℕ, List, [], ◌∷◌, ◌++◌, length, take, drop, get_or}
use Rattle.std.proofs.Common.{sym, ap, ◌∙◌, append_assoc, append-nil, length-append, add-zero, arith}
use Rattle.std.proofs.lemmas.List.{take-append-drop, take_more, length-take-le}
use Rattle.cmd_records.specs.declared.voter.voter_rows.Voter.{Voter}
use Rattle.cmd_records.specs.voter.VotersState.{dissenter, dissenters}

dissenters-append : (copy : ℕ) (xs ys : List Voter) → dissenters copy (xs ++ ys) ≡ dissenters copy xs ++ dissenters (copy + length xs) ys
dissenters-append copy [] ys = ap (λ k. dissenters k ys) (sym (add-zero copy))
dissenters-append copy (v ∷ xs) ys =
    let further : (copy + 1) + length xs ≡ copy + length (v ∷ xs) = omega arith in
    ap (λ rest. dissenter v.left copy ++ rest) (dissenters-append (copy + 1) xs ys
    ∙ ap (λ k. dissenters (copy + 1) xs ++ dissenters k ys) further)
    ∙ sym (append_assoc (dissenter v.left copy) (dissenters (copy + 1) xs) (dissenters (copy + length (v ∷ xs)) ys))

pub dissenters-more : (voters : List Voter) (i : ℕ) (d : Voter) → i < length voters
    → dissenters 0 (take (i + 1) voters) ≡ dissenters 0 (take i voters) ++ dissenter (get_or voters i d).left i
dissenters-more voters i d less =
    let len : length (take i voters) ≡ i = length-take-le i voters (omega (arith, less)) in
    let at : 0 + length (take i voters) ≡ i = omega (arith, len) in
    ap (dissenters 0) (take_more voters i d less)
    ∙ dissenters-append 0 (take i voters) (get_or voters i d ∷ [])
    ∙ ap (λ k. dissenters 0 (take i voters) ++ (dissenter (get_or voters i d).left k ++ [])) at
    ∙ ap (λ more. dissenters 0 (take i voters) ++ more) (append-nil (dissenter (get_or voters i d).left i))

-- there is room for one more
pub room-left : (voters : List Voter) (i : ℕ) (d : Voter) → i < length voters
    → length (dissenters 0 (take i voters)) + length (dissenter (get_or voters i d).left i) ≤ length (dissenters 0 voters)
room-left voters i d less =
    let n = ap length (dissenters-more voters i d less) in
    let m = length-append (dissenters 0 (take i voters)) (dissenter (get_or voters i d).left i) in
    let all = ap length (ap (dissenters 0) (sym (take-append-drop (i + 1) voters))
    ∙ dissenters-append 0 (take (i + 1) voters) (drop (i + 1) voters)) in
    let k = length-append (dissenters 0 (take (i + 1) voters))
    (dissenters (0 + length (take (i + 1) voters)) (drop (i + 1) voters)) in
    omega (arith, n, m, all, k)
