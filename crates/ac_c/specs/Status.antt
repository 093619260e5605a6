-- What a call returns: the numbers that the header names.
use Rattle.std.specs.Prelude.{ℕ}
use Rattle.ac_automaton.specs.declared.error.MatchErrorKind.{MatchErrorKind}
use Rattle.ac_automaton.specs.declared.error.MatchErrorKind.TheVariants.{InvalidInputAnchored, InvalidInputUnanchored, UnsupportedStream, UnsupportedOverlapping, UnsupportedEmpty}
use Rattle.ac_automaton.specs.declared.error.StreamError.{StreamError}
use Rattle.ac_automaton.specs.declared.error.StreamError.TheVariants.{Config}
use Rattle.ac_noncontiguous.specs.declared.error.BuildErrorKind.{BuildErrorKind}
use Rattle.ac_noncontiguous.specs.declared.error.BuildErrorKind.TheVariants.{StateIDOverflow, PatternIDOverflow, PatternTooLong, Memory}

abbrev pub ok : ℕ
ok = 0

abbrev pub none : ℕ
none = 1

abbrev pub no_memory : ℕ
no_memory = 4

abbrev pub bad_kind : ℕ
bad_kind = 8

abbrev pub bad_start_kind : ℕ
bad_start_kind = 9

abbrev pub bad_engine : ℕ
bad_engine = 10

abbrev pub bad_pairs : ℕ
bad_pairs = 11

abbrev pub bad_span : ℕ
bad_span = 15

abbrev pub bad_cursor : ℕ
bad_cursor = 16

abbrev pub wrong_count : ℕ
wrong_count = 17

abbrev pub too_short : ℕ
too_short = 18

abbrev pub bad_pattern : ℕ
bad_pattern = 19

abbrev pub no_stream : ℕ
no_stream = 21

abbrev pub finished : ℕ
finished = 22

abbrev pub too_many_bytes : ℕ
too_many_bytes = 23

abbrev pub no_replacer : ℕ
no_replacer = 24

abbrev pub no_masker : ℕ
no_masker = 25

-- the status of a search that the automaton doesn't support
abbrev pub refusal_status : MatchErrorKind → ℕ
refusal_status InvalidInputAnchored = 12
refusal_status InvalidInputUnanchored = 13
refusal_status (UnsupportedStream got) = 14
refusal_status (UnsupportedOverlapping got) = 14
refusal_status UnsupportedEmpty = 20

-- the status of a stream that couldn't be made: the automaton doesn't support it, or memory ran out
abbrev pub stream_status : StreamError → ℕ
stream_status (Config error) = refusal_status error
stream_status other = no_memory

-- the status of a failed build
abbrev pub build_status : BuildErrorKind → ℕ
build_status (StateIDOverflow max requested) = 5
build_status (PatternIDOverflow max requested) = 6
build_status (PatternTooLong pattern len) = 7
build_status Memory = no_memory
