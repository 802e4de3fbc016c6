-- A value taken out of the first slots by moving those behind it up.
use Rattle.std.proofs.Common.{◌≡◌, ℕ, ◌+◌, ◌-◌, ◌<◌, ◌≤◌, List, ◌++◌, length, take, drop, sym, ap, ◌∙◌, add-one, arith, length-drop}
use Rattle.std.specs.List.{copy_within, remove}
use Rattle.std.proofs.lemmas.List.{drop-take, take-take}
use Rattle.std.proofs.lemmas.List.Edits.{take-paste}

pub take-copy_within : {X : Type 0} (xs : List X) (i len : ℕ) → i < len → len ≤ length xs → take (len - 1) (copy_within xs (i + 1) len i) ≡ remove (take len xs) i
take-copy_within xs i len h inside =
    let n : ℕ = len - (i + 1) in
    let moved : len - 1 ≡ i + n = omega arith in
    let all : i + 1 + n ≡ len = omega arith in
    ap (λ k. take k (copy_within xs (i + 1) len i)) moved
    ∙ take-paste xs i (drop (i + 1) xs) n (omega arith) (omega (arith, length-drop (i + 1) xs))
    ∙ ap (λ l. l ++ take n (drop (i + 1) xs)) (sym (take-take i len xs (omega arith)))
    ∙ ap (λ l. take i (take len xs) ++ l) (sym (drop-take (i + 1) n xs) ∙ ap (λ k. drop (i + 1) (take k xs)) all ∙ ap (λ k. drop k (take len xs)) (add-one i))
