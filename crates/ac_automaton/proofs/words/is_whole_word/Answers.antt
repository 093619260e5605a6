-- The bytes beside a match, seen in the window.
use Rattle.std.proofs.Common.{◌≡◌, ◌-◌, true, false, not, ◌&&◌, sym, ap, ◌∙◌, arith}
use Rattle.ac_input.specs.Word.{is_word_at, is_word_before}
use Rattle.ac_automaton.proofs.words.WindowLemmas.{window-word_at, word_before-first, word_before-later}
use Rattle.ac_automaton.proofs.words.is_whole_word.Goals as goal
use Rattle.ac_automaton.proofs.words.is_whole_word.Goals.{else-start-gt0-via-then-start-gt0+else-is_word_at, else-start-gt0-via-else-start-gt0}

pub returns-then-is_word_at : goal.returns-then-is_word_at
returns-then-is_word_at c x is =
    let some = c.if-start-gt0.true in
    let start = c.start-start.ensures.value in
    let yes : is_word_before x c.args.found.now.start ≡ true =
    word_before-later is c.args.found.now.start (omega arith) (c.requires.before (omega arith))
    ∙ ap (λ n. is_word_at c.args.window.bytes.now (n - 1 - c.args.window.from)) (sym start)
    ∙ sym c.is_word_at.ensures ∙ c.if-is_word_at.true in
    sym (ap (λ b. not b && not (is_word_at x c.args.found.now.end)) yes)

pub returns : goal.returns
returns c x is =
    let start = c.start-start.ensures.value in
    let end = c.end.ensures.value in
    let none : is_word_before x c.args.found.now.start ≡ false =
    elim c.else-start-gt0.branch [
      | else-start-gt0-via-then-start-gt0+else-is_word_at w ↦
          (let some = w.if-start-gt0.true in
          word_before-later is c.args.found.now.start (omega arith) (c.requires.before (omega arith))
          ∙ ap (λ n. is_word_at c.args.window.bytes.now (n - 1 - c.args.window.from)) (sym start)
          ∙ sym w.is_word_at.ensures ∙ w.if-is_word_at.false)
      | else-start-gt0-via-else-start-gt0 w ↦
          word_before-first x c.args.found.now.start (λ some. let none = w.if-start-gt0.false in omega arith)
    ] in
    let after : c.is_word_at-2.result ≡ is_word_at x c.args.found.now.end =
    c.is_word_at-2.ensures ∙ ap (λ n. is_word_at c.args.window.bytes.now (n - c.args.window.from)) end
    ∙ window-word_at is c.args.found.now.end c.requires.after in
    ap not after ∙ sym (ap (λ b. not b && not (is_word_at x c.args.found.now.end)) none)
