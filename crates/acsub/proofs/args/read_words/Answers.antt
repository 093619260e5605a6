-- What the matches ask for is what the words ask for.
use Rattle.std.proofs.Common.{◌≡◌, List, Ok, Err, Result, inl, inr, map, subst}
use Rattle.std.specs.Prelude.{string_bytes}
use Rattle.clap.specs.Words.{Text, Row}
use Rattle.clap.specs.declared.error.Error.{Error}
use Rattle.clap.specs.declared.parser.matches.ArgMatches.{ArgMatches}
use Rattle.acsub.specs.Args.Values.{rows_in}
use Rattle.acsub.specs.Args.Words.{AsksFor, AsksNothing, Parses, Reads, ReadsMatches}
use Rattle.acsub.specs.declared.args.Words.{Words}
use Rattle.acsub.specs.declared.args.WordsFault.{WordsFault}
use Rattle.acsub.specs.declared.args.WordsFault.TheVariants.{Help, Bad, Memory, Pairing}
use Rattle.acsub.proofs.args.read_words.Goals as goal

-- matches never ask for help
no-help : (rows : List Row) (e : Error) → AsksNothing rows (Help e) → ⊥
no-help rows e (inl unmasked) = let bad : Help e ≡ Bad = unmasked.0 in cc
no-help rows e (inr (masked, inl misused)) = let bad : Help e ≡ Bad = misused.1 in cc
no-help rows e (inr (masked, inr unpaired)) = unpaired.1

reads : (words : List Text) (m : ArgMatches) (result : Result Words WordsFault) → Parses words (Ok m)
    → ReadsMatches (rows_in m) result → Reads words result
reads words m (Ok w) parsed asks = (parsed.0, subst (λ rows. AsksFor rows w) parsed.1 asks)
reads words m (Err (Help e)) parsed asks = absurd (no-help (rows_in m) e asks)
reads words m (Err Bad) parsed asks = inr (parsed.0, subst (λ rows. AsksNothing rows Bad) parsed.1 asks)
reads words m (Err Memory) parsed asks = tt
reads words m (Err (Pairing e)) parsed asks = (parsed.0, subst (λ rows. AsksNothing rows (Pairing e)) parsed.1 asks)

pub returns : goal.returns
returns c =
    reads (map string_bytes c.args.words.now) c.in_ok-matches.matches c.asked_for.result c.in_ok-matches.ensures c.asked_for.ensures
