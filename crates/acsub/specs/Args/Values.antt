-- What the matches of a command line give for an argument, by its id.
use Rattle.std.specs.Prelude.{◌++◌, Bool, false, not, if◌then◌else◌, List, [], codes, unwrap_or}
use Rattle.std.specs.Option.{option_map_or}
use Rattle.std.specs.Str.{bytes_eq}
use Rattle.clap.specs.Words.{Row, Text, all_of, first_of, found_of, rows_of}
use Rattle.clap.specs.Walk.{is_empty}
use Rattle.clap.specs.declared.parser.matches.ArgMatches.{ArgMatches}

-- the values that each argument was given
abbrev pub rows_in : ArgMatches → List Row
rows_in matches = rows_of (found_of matches)

-- the values of an argument, in the order of the command line
abbrev pub values_in : Text → List Row → List Text
values_in id rows = unwrap_or (all_of id rows) []

abbrev pub has_values : Text → List Row → Bool
has_values id rows = not (is_empty (values_in id rows))

-- the flag was given
abbrev pub is_given : Text → List Row → Bool
is_given id rows = option_map_or (λ text. bytes_eq text (codes "true")) (first_of id rows) false

-- the mode has this name
abbrev pub is_mode : Text → List Row → Bool
is_mode name rows = option_map_or (λ text. bytes_eq text name) (first_of (codes "mode") rows) false

-- the patterns of `-e`, and the replacements of `-r`
abbrev pub given_patterns : List Row → List Text
given_patterns rows = values_in (codes "pattern") rows

abbrev pub replacements_in : List Row → List Text
replacements_in rows = values_in (codes "replacement") rows

-- the first word after the mode, where it names no rules
abbrev pub first_file : List Row → List Text
first_file rows = if has_values (codes "pattern") rows then values_in (codes "rules") rows else []

-- the inputs: the words after the mode, but for the first where it names the rules
abbrev pub files_in : List Row → List Text
files_in rows = first_file rows ++ values_in (codes "file") rows
