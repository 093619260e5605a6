-- A label before each line: what becomes of a text in parts, and where its first line ends.
use Rattle.std.proofs.Common.{◌≡◌, ℕ, zero, suc, ◌+◌, ◌<◌, Bool, true, false, List, [], ◌∷◌, ◌++◌, length, take, Option, Some, None, Result, Ok, Err, refl, sym, ap, ◌∙◌, subst, append_assoc, arith}
use Rattle.std.specs.Prelude.{◌==◌, OnOk}
use Rattle.std.proofs.lemmas.Bool.{false_from_ne_true}
use Rattle.std.proofs.lemmas.List.{append-nil}
use Rattle.memchr.specs.Find.{IsFirstByte, Nowhere, Passes, is_byte}
use Rattle.ac_automaton.specs.Stream.Devices.Output.{Sends, Sent}
use Rattle.ac_automaton.specs.declared.error.StreamError.{StreamError}
use Rattle.ac_automaton.specs.declared.stream.devices.watched.Watched.{Watched}
use Rattle.ac_automaton.proofs.stream.devices.OutputLemmas.{Sent-none}
use Rattle.acsub.specs.Labelled.{HasLine, IsOneLine, begins_after, label_of, labelled}
use Rattle.acsub.proofs.rewrite.SendingLemmas.{sends-last, sends-stopped}

-- ---- a text in parts

-- a text with labels is the first part with labels, and then the rest, by what the first part ends with
labelled-append : (label : List ℕ) (begins : Bool) (text more : List ℕ) → labelled label begins (text ++ more)
    ≡ labelled label begins text ++ labelled label (begins_after begins text) more
labelled-append label begins [] more = refl
labelled-append label true (byte ∷ text) more =
    ap (λ t. label ++ byte ∷ t) (labelled-append label (byte == 10) text more)
    ∙ sym (append_assoc label (byte ∷ labelled label (byte == 10) text) _)
labelled-append label false (byte ∷ text) more = ap (λ t. byte ∷ t) (labelled-append label (byte == 10) text more)

-- what begins after both parts
begins-append : (begins : Bool) (text more : List ℕ)
    → begins_after begins (text ++ more) ≡ begins_after (begins_after begins text) more
begins-append begins [] more = refl
begins-append begins (byte ∷ text) more = begins-append (byte == 10) text more

-- a line has its label once
pub labelled-line : (label line : List ℕ) → 0 < length line → IsOneLine line → labelled label true line ≡ label ++ line
labelled-line label [] filled one = absurd (omega (arith, filled))
labelled-line label (byte ∷ line) filled one = ap (λ t. label ++ t) (one label)

-- ---- a text that is sent line by line

module _ (text line more : List ℕ) (ended : Bool) (has : HasLine text line more ended) (begins : Bool) where
  -- one more line was sent
  pub labelled-step : (label front whole : List ℕ) → front ++ labelled label begins text ≡ whole
      → (front ++ labelled label begins line) ++ labelled label ended more ≡ whole
  labelled-step label front whole e =
      append_assoc front (labelled label begins line) _
      ∙ ap (λ b. front ++ (labelled label begins line ++ labelled label b more)) (sym (has.after begins))
      ∙ ap (λ t. front ++ t) (sym (labelled-append label begins line more))
      ∙ ap (λ t. front ++ labelled label begins t) (sym has.whole)
      ∙ e

  -- what begins at the end stays the same
  pub begins-step : (last : Bool) → begins_after begins text ≡ last → begins_after ended more ≡ last
  begins-step last e =
      ap (λ b. begins_after b more) (sym (has.after begins))
      ∙ sym (begins-append begins line more)
      ∙ ap (λ t. begins_after begins t) (sym has.whole)
      ∙ e

-- at its end all of it was sent
pub labelled-end : (label front whole rest : List ℕ) (begins : Bool) → length rest ≡ 0
    → front ++ labelled label begins rest ≡ whole → front ++ [] ≡ whole
labelled-end label front whole [] begins none e = e
labelled-end label front whole (byte ∷ rest) begins none e = absurd (omega (arith, none))

-- and it is known what begins
pub begins-end : (rest : List ℕ) (begins last : Bool) (result : Result (Unit {0}) StreamError) → length rest ≡ 0
    → begins_after begins rest ≡ last → OnOk result (begins ≡ last)
begins-end [] begins last (Ok done) none e = e
begins-end rest begins last (Err error) none e = tt
begins-end (byte ∷ rest) begins last (Ok done) none e = absurd (omega (arith, none))

-- ---- where the first line ends

-- the byte before which no line begins isn't LF
no-lf : (byte : ℕ) (text : List ℕ) (end : ℕ) → 0 < end → Nowhere (Passes (is_byte 10) (byte ∷ text)) 0 end
    → (byte == 10) ≡ false
no-lf byte text end some none = false_from_ne_true _ (none 0 (omega arith) some)

-- up to the first LF it is one line
lf-line : (text : List ℕ) (end : ℕ) → end < length text → Nowhere (Passes (is_byte 10) text) 0 end
    → IsOneLine (take (suc end) text)
lf-line [] end lt none label = absurd (omega (arith, lt))
lf-line (byte ∷ text) zero lt none label = refl
lf-line (byte ∷ text) (suc end) lt none label =
    ap (λ t. byte ∷ t)
    (subst (λ b. labelled label b (take (suc end) text) ≡ take (suc end) text)
    (sym (no-lf byte text (suc end) (omega arith) none))
    (lf-line text end (omega (arith, lt)) (λ k low high. none (suc k) (omega arith) (omega (arith, high))) label))

-- which has its LF
lf-ended : (text : List ℕ) (end : ℕ) → end < length text → Passes (is_byte 10) text end → (begins : Bool)
    → begins_after begins (take (suc end) text) ≡ true
lf-ended [] end lt is begins = absurd (omega (arith, lt))
lf-ended (byte ∷ text) zero lt is begins = is
lf-ended (byte ∷ text) (suc end) lt is begins = lf-ended text end (omega (arith, lt)) is (byte == 10)

-- without LF it is one line
whole-line : (text : List ℕ) → Nowhere (Passes (is_byte 10) text) 0 (length text) → IsOneLine text
whole-line [] none label = refl
whole-line (byte ∷ text) none label =
    ap (λ t. byte ∷ t)
    (subst (λ b. labelled label b text ≡ text) (sym (no-lf byte text (length (byte ∷ text)) (omega arith) none))
    (whole-line text (λ k low high. none (suc k) (omega arith) (omega (arith, high))) label))

-- with which the next byte goes on
whole-goes_on : (text : List ℕ) → Nowhere (Passes (is_byte 10) text) 0 (length text) → begins_after false text ≡ false
whole-goes_on [] none = refl
whole-goes_on (byte ∷ text) none =
    subst (λ b. begins_after b text ≡ false) (sym (no-lf byte text (length (byte ∷ text)) (omega arith) none))
    (whole-goes_on text (λ k low high. none (suc k) (omega arith) (omega (arith, high))))

-- the text up to the first LF, and the rest
pub line-to_lf : (text line more : List ℕ) (end : ℕ) → IsFirstByte (is_byte 10) text (Some end) → text ≡ line ++ more
    → line ≡ take (end + 1) text → 0 < length line → HasLine text line more true
line-to_lf text line more end first whole is filled =
    let next : end + 1 ≡ suc end = omega arith in
    let same : line ≡ take (suc end) text = is ∙ ap (λ n. take n text) next in
    record {
      whole = whole;
      filled = filled;
      one = subst IsOneLine (sym same) (lf-line text end first.0.high first.0.before);
      after = subst (λ l. (begins : Bool) → begins_after begins l ≡ true) (sym same)
          (lf-ended text end first.0.high first.1);
    }

-- a text without LF
pub line-whole : (text : List ℕ) → 0 < length text → IsFirstByte (is_byte 10) text None → HasLine text text [] false
line-whole [] filled none = absurd (omega (arith, filled))
line-whole (byte ∷ text) filled none =
    record {
      whole = sym (append-nil (byte ∷ text));
      filled = filled;
      one = whole-line (byte ∷ text) none;
      after = λ begins. whole-goes_on (byte ∷ text) none;
    }

-- ---- what is sent

module _ {W : Type 0} (contents : W → Option (List ℕ)) (old new : Watched W) (held after path line : List ℕ)
    (filled : 0 < length line) (one : IsOneLine line) where
  -- a part of a line that goes on
  pub part-sent : (begins : Bool) (result : Result (Unit {0}) StreamError) → begins ≡ false
      → Sends contents line old new held after result
      → Sends contents (labelled (label_of path) begins line) old new held after result
  part-sent begins result is sends =
      subst (λ b. Sends contents (labelled (label_of path) b line) old new held after result) (sym is)
      (subst (λ t. Sends contents t old new held after result) (sym (one (label_of path))) sends)

  -- a line after its label
  pub line-sent : (begins : Bool) (mid : Watched W) (between : List ℕ) (result : Result (Unit {0}) StreamError)
      → begins ≡ true → Sent contents old mid held between (label_of path)
      → Sends contents line mid new between after result
      → Sends contents (labelled (label_of path) begins line) old new held after result
  line-sent begins mid between result is before sends =
      subst (λ b. Sends contents (labelled (label_of path) b line) old new held after result) (sym is)
      (sends-last contents old mid new held between (label_of path) line _ before after result
      (sym (labelled-line (label_of path) line filled one)) sends)

  -- or its label alone, or a part of that
  pub label-stopped : (begins : Bool) (error : StreamError) → begins ≡ true
      → Sends contents (label_of path) old new held after (Err error)
      → Sends contents (labelled (label_of path) begins line) old new held after (Err error)
  label-stopped begins error is sends =
      subst (λ b. Sends contents (labelled (label_of path) b line) old new held after (Err error)) (sym is)
      (sends-stopped contents old old new held held [] (label_of path) _ Sent-none line after error
      (sym (labelled-line (label_of path) line filled one)) sends)
