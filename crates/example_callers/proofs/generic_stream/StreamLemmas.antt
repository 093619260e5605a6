-- How callers read and send pieces.
use Rattle.std.proofs.Common.{◌≡◌, ℕ, zero, suc, ◌+◌, ◌<◌, List, [], ◌∷◌, ◌++◌, length, map, take, get_or, Some, inl, inr, sym, ap, ◌∙◌, subst, append_assoc, arith}
use Rattle.std.specs.Borrow.{Bor}
use Rattle.std.specs.List.{concat}
use Rattle.std.proofs.lemmas.List.{append-nil}
use Rattle.ac_automaton.specs.Stream.Devices.Moved.{AreFilled}
use Rattle.ac_automaton.specs.Stream.Devices.Output.{Sent}
use Rattle.ac_automaton.specs.Stream.{IsPrompt, Sequence, StreamProgress}
use Rattle.ac_automaton.specs.Stream.Iter.{IsReadForItem}
use Rattle.ac_automaton.specs.declared.stream.devices.watched.Watched.{Watched}

-- where each item is decided with its last byte, as under standard, no piece that was read for one is empty
pub filled-standard : {q : Sequence} (s t : StreamProgress q) (gained : List (List ℕ))
    → IsPrompt q t.built.dictionary → IsReadForItem s t gained → AreFilled gained
filled-standard s t gained prompt (inl (filled, same)) = filled
filled-standard s t gained prompt (inr (waits, whole, closed)) = absurd (waits prompt)

-- the first i + 1 pieces, joined, are the first i with the next one after them
pub joined-step : (pieces : List (Bor (List ℕ))) (i : ℕ) (d : Bor (List ℕ)) → i < length pieces
    → concat (map (λ p. p.now) (take (i + 1) pieces))
    ≡ concat (map (λ p. p.now) (take i pieces)) ++ (get_or pieces i d).now
joined-step [] i d h = absurd (omega arith)
joined-step (p ∷ ps) zero d h = append-nil p.now
joined-step (p ∷ ps) (suc i) d h =
    let front = concat (map (λ (q : Bor (List ℕ)). q.now) (take i ps)) in
    let next : suc i + 1 ≡ suc (i + 1) = omega arith in
    let more = ap (λ t. p.now ++ t) (joined-step ps i d (omega arith))
    ∙ sym (append_assoc p.now front (get_or ps i d).now) in
    subst (λ n. concat (map (λ (q : Bor (List ℕ)). q.now) (take n (p ∷ ps))) ≡ (p.now ++ front) ++ (get_or ps i d).now)
    (sym next) more

-- what a `Vec` holds, and what is held back for it, grew by the bytes that were sent
pub sent-grows : {W : Type 0} (items : W → List ℕ) (old new : Watched W) (before after bytes : List ℕ)
    → Sent (λ w. Some (items w)) old new before after bytes
    → items new.inner ++ after ≡ (items old.inner ++ before) ++ bytes
sent-grows items old new before after bytes sent =
    ap (λ t. t ++ after) sent.device
    ∙ append_assoc (items old.inner) sent.gained after
    ∙ ap (λ t. items old.inner ++ t) sent.order
    ∙ sym (append_assoc (items old.inner) before bytes)
