-- What holds after the loan of a slice of a replaced stream.
use Rattle.std.specs.Prelude.{ℕ, List, Option, option_copied}
use Rattle.std.specs.Borrow.{Bor, Fml, MutBor, RattleType}
use Rattle.std.specs.Io.BufRead.{Rests}
use Rattle.ac_input.specs.declared.steps.Steps.{Steps}
use Rattle.ac_automaton.specs.Stream.{StreamCounts}
use Rattle.ac_automaton.specs.Stream.Replacer.{GivesText, ReplacerProgress}
use Rattle.ac_automaton.specs.declared.automaton.Automaton.{Ghosts}
use Rattle.ac_automaton.specs.contracts.stream.replacer.StreamReplacer.{the_row}

-- when the loan of the slice ends, the replacement has handed the slice out and counted what that cost
abbrev pub EndsCounted : (A : RattleType) → Ghosts A.Denot → MutBor ReplacerProgress → List (List ℕ)
    → Option (Bor (List ℕ)) → Steps → Steps → Fml
EndsCounted A g replacer replacements result before counted =
    Rests (the_row A g) replacer
    (λ after. GivesText replacer.now after replacements (option_copied result)
    × StreamCounts replacer.now.search after.search before counted)
