-- What a handle of a search of pieces holds, and what its calls return.
use base.Stored.{Coded}
use Rattle.std.specs.Prelude.{◌≡◌, ℕ, List}
use Rattle.std.specs.declared.option.Option.{Option}
use Rattle.std.specs.declared.option.Option.TheVariants.{None, Some}
use Rattle.std.specs.Coded.{coded_option}
use Rattle.ac_input.specs.declared.search.MatchKind.{MatchKind}
use Rattle.ac_automaton.specs.declared.stream.StreamKinds.TheVariants.{AnyKind, OnlyStandard}
use Rattle.aho_corasick.specs.declared.ahocorasick.AhoCorasick.{AhoCorasick}
use Rattle.ac_c.specs.contracts.searching.Searching.{the_row}
use Rattle.ac_c.specs.declared.found.Found.{Found}
use Rattle.ac_c.specs.declared.searching.Count.{Count}
use Rattle.ac_c.specs.declared.searching.Searching.{Searching}
use Rattle.ac_c.specs.declared.searching.View.{View}
use Rattle.ac_c.specs.Begun.{HoldsBegun}
use Rattle.ac_c.specs.Build.{kind_by}
use Rattle.ac_c.specs.Searching.{GivesNext, TakesPushed, all_words_begun_by, begun_by, finished_with, view_in, words_begun_by}
use Rattle.ac_c.specs.Status.{ok, bad_kind, no_stream}

-- a search of pieces, or none
abbrev pub HeldStream : Type 0
HeldStream = Option the_row.Denot

abbrev pub stream_coded : Coded HeldStream
stream_coded = coded_option the_row.coded

-- the handle holds a search that was passed nothing yet; or why there is none, and the handle is unchanged
abbrev pub AnswersStream : AhoCorasick → HeldStream → HeldStream → ℕ → Type 0
AnswersStream ac old new status = HoldsBegun AnyKind ac (begun_by ac) old new status

-- the same of a search for whole words under a kind
abbrev pub AnswersWordsUnder : AhoCorasick → Option MatchKind → HeldStream → HeldStream → ℕ → Type 0
AnswersWordsUnder ac None old new status = (status ≡ bad_kind) × (new ≡ old)
AnswersWordsUnder ac (Some kind) old new status = HoldsBegun OnlyStandard ac (words_begun_by ac kind) old new status

-- under the kind of a number; or the number names no kind, which is tested first
abbrev pub AnswersWordStream : AhoCorasick → ℕ → HeldStream → HeldStream → ℕ → Type 0
AnswersWordStream ac kind old new status = AnswersWordsUnder ac (kind_by kind) old new status

-- the same of a search for all whole words
abbrev pub AnswersAllWordStream : AhoCorasick → HeldStream → HeldStream → ℕ → Type 0
AnswersAllWordStream ac old new status = HoldsBegun OnlyStandard ac (all_words_begun_by ac) old new status

-- what a call returns where the handle holds no search
abbrev pub counts_none : Count
counts_none = record { count = 0; status = no_stream }

-- the first bytes of a piece were taken, or why none were; or the handle holds no search
abbrev pub AnswersPush : List ℕ → HeldStream → HeldStream → Count → Type 0
AnswersPush piece None new taken = (new ≡ None) × (taken ≡ counts_none)
AnswersPush piece (Some s) new taken = (t : Searching) × (new ≡ Some t) × TakesPushed s piece t taken

-- the next matches, or words, are in the buffer; or the handle holds no search, and the buffer is unchanged
abbrev pub AnswersNext : HeldStream → HeldStream → List Found → List Found → Count → Type 0
AnswersNext None new before after given = (new ≡ None) × (after ≡ before) × (given ≡ counts_none)
AnswersNext (Some s) new before after given = (t : Searching) × (new ≡ Some t) × GivesNext s t before after given

-- where the held bytes stand; or the handle holds no search
abbrev pub view_by : HeldStream → View
view_by None = record { len = 0; from = 0; cut = 0; status = no_stream }
view_by (Some s) = view_in s

-- the search after the call that says that no more pieces come, and the status of that call
abbrev pub finish_by : HeldStream → HeldStream
finish_by None = None
finish_by (Some s) = Some (finished_with s)

abbrev pub finish_status : HeldStream → ℕ
finish_status None = no_stream
finish_status (Some s) = ok
