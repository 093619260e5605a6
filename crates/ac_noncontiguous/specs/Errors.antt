-- The messages of build errors.
use Rattle.std.specs.Prelude.{ℕ, List, ◌++◌, codes, decimal}
use Rattle.ac_input.specs.Number.{greatest_number}
use Rattle.ac_noncontiguous.specs.declared.error.BuildErrorKind.{BuildErrorKind}
use Rattle.ac_noncontiguous.specs.declared.error.BuildErrorKind.TheVariants.{StateIDOverflow, PatternIDOverflow, PatternTooLong, Memory}

-- the text of a build error
abbrev pub build_error_text : BuildErrorKind → List ℕ
build_error_text (StateIDOverflow max requested_max) =
    codes "state number " ++ decimal requested_max ++ codes " is past " ++ decimal greatest_number
build_error_text (PatternIDOverflow max requested_max) =
    codes "pattern number " ++ decimal requested_max ++ codes " is past " ++ decimal greatest_number
build_error_text (PatternTooLong pattern len) =
    codes "pattern "
    ++ (decimal pattern ++ (codes " has " ++ (decimal len ++ (codes " bytes, more than " ++ decimal greatest_number))))
build_error_text Memory = codes "out of memory"
