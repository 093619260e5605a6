-- What is handed out, one slice after another, is the masked text.
use Rattle.std.proofs.Common.{◌≡◌, List, ℕ, ◌++◌, false, length, take, slice_range, sym, ap, ◌∙◌, arith}
use Rattle.std.proofs.lemmas.List.{take_all}
use Rattle.std.proofs.lemmas.List.Folds.{concat-append}
use Rattle.std.specs.List.{concat}
use Rattle.ac_input.specs.Dictionary.{whole}
use Rattle.ac_input.proofs.lemmas.MaskAmongLemmas.{among-masked}
use Rattle.ac_input.proofs.lemmas.WordLemmas.{whole-counted, word-mask_final}
use Rattle.ac_automaton.specs.Masking.Words.{masked_words_in}
use Rattle.ac_automaton.specs.Masking.Words.Pushed.{IsOnWordMask, handed_words_of, masked_words_of, ready_words_of}
use Rattle.ac_automaton.specs.Stream.Mask.{HasMasked, IsAllMasked, MaskProgress, finished_mask, front_of, passed_to}
use Rattle.ac_automaton.proofs.stream.StreamMaskEndLemmas.{front-and}
use Rattle.ac_automaton.proofs.stream.laws.pieces_change_no_masked_words.Goals as goal

-- where all is masked, all was read
all-read : (s : MaskProgress) → IsAllMasked s → front_of s ≡ passed_to s
all-read s all = take_all s.at (passed_to s) (omega (arith, all))

-- after more pieces came
pieces : (s t : MaskProgress) (more : List (List ℕ)) → IsOnWordMask s → IsAllMasked s → s.closed ≡ false
    → HasMasked s t more → IsOnWordMask t → handed_words_of s ++ ready_words_of t ≡ handed_words_of t
pieces s t more on all unclosed came now =
    let taken = came.0 in
    let m = s.built.dictionary in
    let x = front_of s in
    let longer : front_of t ≡ x ++ concat more =
    all-read t came.1 ∙ ap concat taken.pieces ∙ concat-append s.pieces more
    ∙ ap (λ l. l ++ concat more) (sym (all-read s all)) in
    let text : masked_words_of t ≡ masked_words_in s.built s.mask (x ++ concat more) =
    (λ j. masked_words_in (taken.built j) (taken.mask j) (longer j)) in
    let stays : take s.cut (masked_words_of t) ≡ handed_words_of s =
    ap (take s.cut) text ∙ word-mask_final s.mask m x (concat more) false s.cut (on.open_ unclosed).final in
    let out = taken.out in
    let le = now.ready.1 in
    ap (λ l. l ++ ready_words_of t) (sym stays)
    ∙ ap (λ n. take s.cut (masked_words_of t) ++ slice_range (masked_words_of t) n t.cut) out
    ∙ front-and (masked_words_of t) s.cut t.cut (omega (arith, out, le))

-- once nothing more comes
ended : (s t : MaskProgress) → IsOnWordMask s → IsAllMasked s → t ≡ finished_mask s
    → handed_words_of s ++ ready_words_of t ≡ masked_words_in s.built s.mask (passed_to s)
ended s t on all same =
    let M = masked_words_of s in
    let long = (among-masked whole-counted s.mask (whole s.built.dictionary (front_of s) false) (omega arith)).len in
    let read = ap length (all-read s all) in
    let le = on.ordered.0 in
    ap (λ u. handed_words_of s ++ ready_words_of u) same
    ∙ front-and M s.cut s.at le
    ∙ take_all s.at M (omega (arith, long, read, all))
    ∙ ap (masked_words_in s.built s.mask) (all-read s all)

pub returns : goal.returns
returns c = (pieces, ended)
