-- What a handle of a replacement of pieces holds, and what its calls return.
use base.Stored.{Coded}
use denote.Ref.{Bor}
use Rattle.std.specs.Prelude.{◌≡◌, ℕ, List}
use Rattle.std.specs.declared.option.Option.{Option}
use Rattle.std.specs.declared.option.Option.TheVariants.{None, Some}
use Rattle.std.specs.Coded.{coded_option}
use Rattle.ac_automaton.specs.declared.stream.StreamKinds.TheVariants.{AnyKind}
use Rattle.aho_corasick.specs.declared.ahocorasick.AhoCorasick.{AhoCorasick}
use Rattle.ac_c.specs.contracts.replacing.Replacing.{the_row}
use Rattle.ac_c.specs.declared.replace.Length.{Length}
use Rattle.ac_c.specs.declared.replacing.Replacing.{Replacing}
use Rattle.ac_c.specs.declared.searching.Count.{Count}
use Rattle.ac_c.specs.Begun.{HoldsBegun}
use Rattle.ac_c.specs.Replacing.{IsGivenText, IsPushedOn, ended_by, replacing_by}
use Rattle.ac_c.specs.Status.{ok, no_replacer}

-- a replacement of pieces, or none
abbrev pub HeldReplacer : Type 0
HeldReplacer = Option the_row.Denot

abbrev pub replacer_coded : Coded HeldReplacer
replacer_coded = coded_option the_row.coded

-- the handle holds a replacement that was passed nothing yet; or why there is none, and the handle is unchanged
abbrev pub AnswersReplacing : AhoCorasick → HeldReplacer → HeldReplacer → ℕ → Type 0
AnswersReplacing ac old new status = HoldsBegun AnyKind ac (replacing_by ac) old new status

-- the first bytes of a piece were taken, or why none were; or the handle holds no replacement
abbrev pub AnswersPushOn : List ℕ → HeldReplacer → HeldReplacer → Count → Type 0
AnswersPushOn piece None new taken = (new ≡ None) × (taken ≡ record { count = 0; status = no_replacer })
AnswersPushOn piece (Some r) new taken = (t : Replacing) × (new ≡ Some t) × IsPushedOn r piece t taken

-- the next slice of the text, or none yet; or the handle holds no replacement
abbrev pub AnswersSlice : List (Bor (List ℕ)) → HeldReplacer → HeldReplacer → Length → Type 0
AnswersSlice replacements None new given = (new ≡ None) × (given ≡ record { len = 0; status = no_replacer })
AnswersSlice replacements (Some r) new given = (t : Replacing) × (new ≡ Some t) × IsGivenText r replacements t given

-- the replacement after the call that says that no more pieces come, and the status of that call
abbrev pub end_by : HeldReplacer → HeldReplacer
end_by None = None
end_by (Some r) = Some (ended_by r)

abbrev pub end_status : HeldReplacer → ℕ
end_status None = no_replacer
end_status (Some r) = ok
