-- The texts of the errors of searches, replacements and streams.
use Rattle.std.specs.Prelude.{ℕ, List, Option, Some, None, codes}
use Rattle.ac_automaton.specs.declared.error.MatchErrorKind.{MatchErrorKind}
use Rattle.ac_automaton.specs.declared.error.MatchErrorKind.TheVariants.{InvalidInputAnchored, InvalidInputUnanchored, UnsupportedStream, UnsupportedOverlapping, UnsupportedEmpty}
use Rattle.ac_automaton.specs.declared.error.ReplaceError.{ReplaceError}
use Rattle.ac_automaton.specs.declared.error.ReplaceError.TheVariants.{Match, Memory as NoMemory}
use Rattle.ac_automaton.specs.declared.error.StreamError.{StreamError}
use Rattle.ac_automaton.specs.declared.error.StreamError.TheVariants.{Config, Read, Write, WriteZero, Memory, Position}

-- the text of a search error
abbrev pub match_error_text : MatchErrorKind → List ℕ
match_error_text InvalidInputAnchored = codes "anchored search is not supported"
match_error_text InvalidInputUnanchored = codes "unanchored search is not supported"
match_error_text (UnsupportedStream got) = codes "stream search needs the standard kind"
match_error_text (UnsupportedOverlapping got) = codes "overlapping search needs the standard kind"
match_error_text UnsupportedEmpty = codes "stream search takes no empty pattern"

-- the text of a replacement error
abbrev pub replace_error_text : ReplaceError → List ℕ
replace_error_text (Match error) = match_error_text error
replace_error_text NoMemory = codes "out of memory"

-- the text of a stream error; none for an error that passes on a device's own text
abbrev pub stream_error_text : StreamError → Option (List ℕ)
stream_error_text (Config error) = Some (match_error_text error)
stream_error_text (Read error) = None
stream_error_text (Write error) = None
stream_error_text WriteZero = Some (codes "write took no byte")
stream_error_text Memory = Some (codes "out of memory")
stream_error_text Position = Some (codes "input too long")
