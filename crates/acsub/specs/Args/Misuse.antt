-- Which arguments don't go together.
use Rattle.std.specs.Prelude.{◌==◌, ◌&&◌, ◌||◌, ℕ, Bool, not, if◌then◌else◌, List, Option, Some, None, codes, length}
use Rattle.std.specs.List.{list_any}
use Rattle.clap.specs.Words.{Row, Text}
use Rattle.clap.specs.Walk.{is_empty}
use Rattle.acsub.specs.Args.Values.{files_in, has_values, is_given, is_mode, given_patterns, replacements_in}
use Rattle.acsub.specs.declared.args.misuse.Misuse.{Misuse}
use Rattle.acsub.specs.declared.args.misuse.Misuse.TheVariants.{NoRules, Unreplaced, Unpaired, Broken, HexEscaped, NoFile, Unwritten, Uncounted}

-- there is neither a rule file nor a pattern
abbrev pub lacks_rules : List Row → Bool
lacks_rules rows = not (has_values (codes "pattern") rows) && not (has_values (codes "rules") rows)

-- there are replacements, and the mode replaces nothing
abbrev pub is_unreplaced : List Row → Bool
is_unreplaced rows = has_values (codes "replacement") rows && not (is_mode (codes "replace") rows)

-- there are replacements, but not one for each pattern
abbrev pub is_unpaired : List Row → Bool
is_unpaired rows =
    not (length (replacements_in rows) == 0) && not (length (replacements_in rows) == length (given_patterns rows))

-- a TAB, LF or CR
abbrev pub ends_side : ℕ → Bool
ends_side byte = (byte == 9 || byte == 10) || byte == 13

-- some text has a byte that ends a side of a rule
abbrev pub has_break : List Text → Bool
has_break sides = list_any (list_any ends_side) sides

abbrev pub has_breaks : List Row → Bool
has_breaks rows = has_break (given_patterns rows) || has_break (replacements_in rows)

-- escapes are asked for in rules of hex
abbrev pub is_hex_escaped : List Row → Bool
is_hex_escaped rows =
    (is_given (codes "escapes") rows && not (is_given (codes "text") rows)) && not (has_values (codes "pattern") rows)

-- the mode writes the input anew
abbrev pub rewrites : List Row → Bool
rewrites rows = is_mode (codes "replace") rows || is_mode (codes "mask") rows

-- the files are rewritten
abbrev pub is_in_place : List Row → Bool
is_in_place rows = is_given (codes "in-place") rows

-- what matches is to be counted, though the rules alone are looked at
abbrev pub is_uncounted : List Row → Bool
is_uncounted rows =
    is_given (codes "check") rows && (is_given (codes "count") rows || is_given (codes "fail-if-none") rows)

-- the first misuse
abbrev pub misuse_of : List Row → Option Misuse
misuse_of rows =
    if lacks_rules rows then Some NoRules
    else (if is_unreplaced rows then Some Unreplaced
    else (if is_unpaired rows then Some Unpaired
    else (if has_breaks rows then Some Broken
    else (if is_hex_escaped rows then Some HexEscaped
    else (if is_in_place rows && is_empty (files_in rows) then Some NoFile
    else (if is_in_place rows && not (rewrites rows) then Some Unwritten
    else (if is_uncounted rows then Some Uncounted else None)))))))
