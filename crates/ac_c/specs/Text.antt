-- What a handle of a text holds.
use base.Stored.{Coded}
use Rattle.std.specs.Prelude.{ℕ, length}
use Rattle.std.specs.declared.option.Option.{Option}
use Rattle.std.specs.declared.option.Option.TheVariants.{None, Some}
use Rattle.std.specs.Coded.{coded_option}
use Rattle.ac_c.specs.contracts.text.Bytes.{the_row}

-- a text, or none
abbrev pub HeldText : Type 0
HeldText = Option the_row.Denot

abbrev pub text_coded : Coded HeldText
text_coded = coded_option the_row.coded

-- the length of the text, or 0 if there is none
abbrev pub held_len : HeldText → ℕ
held_len None = 0
held_len (Some x) = length x.bytes.items
