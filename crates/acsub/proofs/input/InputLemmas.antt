-- How the pieces of an input fill a buffer.
use Rattle.std.proofs.Common.{◌≡◌, ◌≢◌, ℕ, ◌≤◌, List, [], ◌∷◌, ◌++◌, length, take, sym, ap, ◌∙◌, append_assoc}
use Rattle.std.specs.List.{concat}
use Rattle.std.proofs.Math.Seq.{take-append_seam}
use Rattle.std.proofs.lemmas.List.{append-nil, take-take, length-take-le}
use Rattle.std.proofs.lemmas.List.Folds.{concat-append}

-- growing a filled buffer, and then cutting it, keeps the filled bytes
pub filled-same : (xs more rest : List ℕ) (len filled : ℕ) → filled ≤ len → filled ≤ length xs
    → take filled (take len ((take filled xs ++ more) ++ rest)) ≡ take filled xs
filled-same xs more rest len filled fits within =
    let front : length (take filled xs) ≡ filled = length-take-le filled xs within in
    take-take filled len ((take filled xs ++ more) ++ rest) fits
    ∙ ap (take filled) (append_assoc (take filled xs) more rest)
    ∙ ap (λ k. take k (take filled xs ++ (more ++ rest))) (sym front)
    ∙ take-append_seam (take filled xs) (more ++ rest)

-- a piece of at least one byte isn't empty
pub piece_filled : (buffer : List ℕ) (n : ℕ) → n ≢ 0 → n ≤ length buffer → take n buffer ≢ []
piece_filled buffer n some enough e = some (sym (length-take-le n buffer enough) ∙ ap length e)

-- one more piece adds its bytes at the end
pub concat-push : (pieces : List (List ℕ)) (piece : List ℕ) → concat (pieces ++ piece ∷ []) ≡ concat pieces ++ piece
concat-push pieces piece = concat-append pieces (piece ∷ []) ∙ ap (λ t. concat pieces ++ t) (append-nil piece)
