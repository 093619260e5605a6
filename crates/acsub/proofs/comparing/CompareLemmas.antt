-- What was compared, after one more read.
use Rattle.std.proofs.Common.{◌≡◌, ℕ, List, [], ◌∷◌, ◌++◌, take, ap, ◌∙◌, append-nil}
use Rattle.std.specs.List.{concat}
use Rattle.std.proofs.lemmas.List.Folds.{concat-append}
use Rattle.ac_automaton.specs.Stream.Devices.Watched.{ReadGave}
use Rattle.ac_automaton.specs.declared.stream.devices.watched.Watched.{Watched}
use Rattle.acsub.specs.Comparing.{IsAlike}

pub alike-more : {F : Type 0} (old new : Watched F) (before piece : List ℕ) → IsAlike old before
    → new.pieces.items ≡ old.pieces.items ++ piece ∷ [] → new.failures.value ≡ old.failures.value
    → IsAlike new (before ++ piece)
alike-more old new before piece alike pieces fine = record {
  same = ap concat pieces ∙ concat-append old.pieces.items (piece ∷ []) ∙ ap (λ t. concat old.pieces.items ++ t) (append-nil piece)
      ∙ ap (λ t. t ++ piece) alike.same;
  fine = fine ∙ alike.fine;
}

-- an empty read changes nothing
pub alike-end : {F : Type 0} (old new : Watched F) (before buffer : List ℕ) (n : ℕ) → n ≡ 0 → IsAlike old before
    → ReadGave old new buffer n → IsAlike new before
alike-end old new before buffer n none alike gave = record {
  same = ap concat (gave.pieces ∙ ap (λ m. old.pieces.items ++ take m buffer ∷ []) none)
      ∙ concat-append old.pieces.items ([] ∷ []) ∙ append-nil (concat old.pieces.items) ∙ alike.same;
  fine = gave.failures ∙ alike.fine;
}
