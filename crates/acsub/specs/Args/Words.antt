-- What the words of a command line ask for.
use Rattle.std.specs.Prelude.{◌++◌, ◌∷◌, ◌||◌, ◌<◌, length, ◌≡◌, ◌≢◌, ◌⊎◌, ℕ, Bool, true, false, not, if◌then◌else◌, List, [], Option, Some, None, Result, Ok, Err, codes, option_map, option_and_then, is_some}
use Rattle.std.specs.Str.{bytes_eq}
use Rattle.std.specs.Str.Parse.{digits_value, without_leading_plus}
use Rattle.hex.specs.declared.error.FromHexError.{FromHexError}
use Rattle.hex.specs.declared.error.FromHexError.TheVariants.{OutOfMemory}
use Rattle.clap.specs.Words.{IsAmong, IsUnsignedIn, Kinds, Row, Text, fault_of, first_of, found_of, kind_of, matches_of, one_of, rows_of}
use Rattle.clap.specs.declared.error.Error.{Error}
use Rattle.clap.specs.declared.error.kind.ErrorKind.{ErrorKind}
use Rattle.clap.specs.declared.error.kind.ErrorKind.TheVariants as kind
use Rattle.clap.specs.declared.parser.matches.ArgMatches.{ArgMatches}
use Rattle.ac_input.specs.Same.{other}
use Rattle.ac_input.specs.Pairing.{IsDistinct, IsFirstTwice, named, other_case, partner}
use Rattle.ac_input.specs.Rules.{Spells}
use Rattle.ac_input.specs.declared.pairing.PairingError.{PairingError}
use Rattle.ac_input.specs.declared.pairing.PairingError.TheVariants.{Twice}
use Rattle.ac_input.specs.declared.search.MatchKind.{MatchKind}
use Rattle.ac_input.specs.declared.search.MatchKind.TheVariants.{Standard, LeftmostFirst, LeftmostLongest}
use Rattle.clap.specs.Walk.{texts}
use Rattle.acsub.specs.Args.Command.{command, greatest_depth}
use Rattle.acsub.specs.Args.Misuse.{is_in_place, misuse_of}
use Rattle.acsub.specs.Args.Values.{files_in, is_given, is_mode, given_patterns, replacements_in, values_in}
use Rattle.acsub.specs.declared.args.Source.{Source}
use Rattle.acsub.specs.declared.args.Source.TheVariants.{File, Input, Given}
use Rattle.acsub.specs.declared.args.settings.Mode.{Mode}
use Rattle.acsub.specs.declared.args.settings.Mode.TheVariants as mode
use Rattle.acsub.specs.declared.args.settings.Engine.{Engine}
use Rattle.acsub.specs.declared.args.settings.Engine.TheVariants as engine
use Rattle.acsub.specs.declared.args.Words.{Words}
use Rattle.acsub.specs.declared.args.WordsFault.{WordsFault}
use Rattle.acsub.specs.declared.args.WordsFault.TheVariants.{Help, Bad, Memory, Pairing}

-- ---- what a value names

abbrev pub mode_named : Text → Option Mode
mode_named word =
    if bytes_eq word (codes "replace") then Some mode.Replace
    else (if bytes_eq word (codes "list") then Some mode.List
    else (if bytes_eq word (codes "overlap") || bytes_eq word (codes "mask") then Some mode.Overlap else None))

abbrev pub kind_named : Text → Option MatchKind
kind_named word =
    if bytes_eq word (codes "standard") then Some Standard
    else (if bytes_eq word (codes "leftmost-first") then Some LeftmostFirst
    else (if bytes_eq word (codes "leftmost-longest") then Some LeftmostLongest else None))

abbrev pub engine_named : Text → Option Engine
engine_named word =
    if bytes_eq word (codes "auto") then Some engine.Auto
    else (if bytes_eq word (codes "noncontiguous") then Some engine.Noncontiguous
    else (if bytes_eq word (codes "contiguous") then Some engine.Contiguous
    else (if bytes_eq word (codes "dfa") then Some engine.Dfa
    else (if bytes_eq word (codes "packed") then Some engine.Packed else None))))

-- the number that decimal digits spell, with or without a leading `+`
abbrev pub number_of : Text → ℕ
number_of digits = digits_value 10 (without_leading_plus digits)

-- the pairs that hex spells: at least one, two bytes a pair, two digits a byte
abbrev pub SpellsPairs : Text → List (ℕ × ℕ) → Type 0
SpellsPairs hex pairs = (pairs ≢ []) × Spells hex (named pairs)

-- ---- what the matches give, by the ids of the arguments

abbrev pub mode_of : List Row → Option Mode
mode_of rows = option_and_then mode_named (first_of (codes "mode") rows)

abbrev pub rules_path : List Row → Option Text
rules_path rows = first_of (codes "rules") rows

abbrev pub match_kind_of : List Row → Option MatchKind
match_kind_of rows = option_and_then kind_named (first_of (codes "kind") rows)

abbrev pub engine_of : List Row → Option Engine
engine_of rows = option_and_then engine_named (first_of (codes "engine") rows)

abbrev pub pairs_text : List Row → Option Text
pairs_text rows = first_of (codes "pairs") rows

abbrev pub folds : List Row → Bool
folds rows = is_given (codes "fold") rows

-- the mode is `mask`
abbrev pub is_masking : List Row → Bool
is_masking rows = is_mode (codes "mask") rows

-- ---- the mask, by whether the mode is `mask` and the value of `--with`

-- the mask that is asked for: without `--with`, a star
abbrev pub MasksAs : Bool → Option Text → Option ℕ → Type 0
MasksAs false None mask = mask ≡ None
MasksAs true None mask = mask ≡ Some 42
MasksAs false (Some hex) mask = ⊥
MasksAs true (Some hex) mask = (byte : ℕ) × Spells hex (byte ∷ []) × (mask ≡ Some byte)

-- `--with` stands beside another mode, or spells no byte
abbrev pub MasksBadly : Bool → Option Text → Type 0
MasksBadly masking None = ⊥
MasksBadly false (Some hex) = Unit {0}
MasksBadly true (Some hex) = (byte : ℕ) → ¬ Spells hex (byte ∷ [])

abbrev pub IsMaskedBy : List Row → Option ℕ → Type 0
IsMaskedBy rows mask = MasksAs (is_masking rows) (first_of (codes "with") rows) mask

-- why the matches give no mask
abbrev pub Unmasks : List Row → WordsFault → Type 0
Unmasks rows fault = (fault ≡ Bad) × MasksBadly (is_masking rows) (first_of (codes "with") rows)

-- ---- the pairing, by whether `--fold` is there and the value of `--pairs`

-- this is the table of the pairing that `--fold` or `--pairs` asks for
abbrev pub PairsAs : Bool → Option Text → List ℕ → Type 0
PairsAs true None table = (b : ℕ) → other table b ≡ other_case b
PairsAs false None table = (b : ℕ) → other table b ≡ b
PairsAs true (Some hex) table = ⊥
PairsAs false (Some hex) table =
    (pairs : List (ℕ × ℕ)) × SpellsPairs hex pairs × IsDistinct (named pairs)
    × ((b : ℕ) → other table b ≡ partner pairs b)

-- `--pairs` has a value that spells no pairs, or stands beside `--fold`
abbrev pub PairsBadly : Bool → Option Text → Type 0
PairsBadly fold None = ⊥
PairsBadly true (Some hex) = Unit {0}
PairsBadly false (Some hex) = (pairs : List (ℕ × ℕ)) → ¬ SpellsPairs hex pairs

-- the value spells pairs that name a byte twice; this is the first such byte
abbrev pub PairsTwice : Bool → Option Text → PairingError → Type 0
PairsTwice fold None error = ⊥
PairsTwice true (Some hex) error = ⊥
PairsTwice false (Some hex) (Twice b) = (pairs : List (ℕ × ℕ)) × SpellsPairs hex pairs × IsFirstTwice (named pairs) b

abbrev pub IsPairedBy : List Row → List ℕ → Type 0
IsPairedBy rows table = PairsAs (folds rows) (pairs_text rows) table

-- why the matches give no pairing
abbrev pub Unpairs : List Row → WordsFault → Type 0
Unpairs rows (Help e) = ⊥
Unpairs rows Bad = PairsBadly (folds rows) (pairs_text rows)
Unpairs rows Memory = Unit {0}
Unpairs rows (Pairing e) = PairsTwice (folds rows) (pairs_text rows) e

-- the pairs take the bytes two at a time, and at most one byte is left over
abbrev pub AreTwoByTwo : List ℕ → List (ℕ × ℕ) → Type 0
AreTwoByTwo bytes pairs = (rest : List ℕ) × (bytes ≡ named pairs ++ rest) × (length rest < 2)

-- why hex spells no pairs
abbrev pub Misspells : Text → WordsFault → Type 0
Misspells hex (Help e) = ⊥
Misspells hex Bad = (pairs : List (ℕ × ℕ)) → ¬ SpellsPairs hex pairs
Misspells hex Memory = Unit {0}
Misspells hex (Pairing e) = ⊥

-- ---- where the rules are

-- the rules are in a file, in standard input, or in the arguments
abbrev pub IsRuleSource : List Row → Source → Type 0
IsRuleSource rows (File path) =
    (given_patterns rows ≡ []) × (rules_path rows ≡ Some path.now) × (path.now ≡ codes "-" → values_in (codes "file") rows ≡ [])
IsRuleSource rows Input = (given_patterns rows ≡ []) × (rules_path rows ≡ Some (codes "-")) × (values_in (codes "file") rows ≢ [])
IsRuleSource rows Given = given_patterns rows ≢ []

-- ---- the result

-- The settings, where the rules are and how they are written, the inputs, and what is written when, are those that the
-- matches give, which don't misuse the arguments.
pub record AsksFor (rows : List Row) (w : Words) : Type 0 where
  pub proper : misuse_of rows ≡ None
  pub mode : mode_of rows ≡ Some w.settings.mode
  pub source : IsRuleSource rows w.source
  pub patterns : texts w.patterns.items ≡ given_patterns rows
  pub replacements : texts w.replacements.items ≡ replacements_in rows
  pub files : texts w.files.items ≡ files_in rows
  pub escapes : w.escapes ≡ is_given (codes "escapes") rows
  pub in_place : w.in_place ≡ is_in_place rows
  pub count : w.count ≡ is_given (codes "count") rows
  pub fail_if_none : w.fail_if_none ≡ is_given (codes "fail-if-none") rows
  pub check : w.check ≡ is_given (codes "check") rows
  pub progress : w.progress ≡ is_given (codes "progress") rows
  pub text : w.text ≡ is_given (codes "text") rows
  pub stream : w.stream ≡ is_given (codes "stream") rows
  pub word : w.word ≡ is_given (codes "word") rows
  pub mask : IsMaskedBy rows w.mask
  pub kind : match_kind_of rows ≡ Some w.settings.kind
  pub pairing : IsPairedBy rows w.settings.pairing
  pub engine : engine_of rows ≡ Some w.settings.engine
  pub prefilter : w.settings.prefilter ≡ not (is_given (codes "no-prefilter") rows)
  pub dense_depth : option_map number_of (one_of (codes "dense-depth") rows) ≡ w.settings.dense_depth
  pub byte_classes : w.settings.byte_classes ≡ not (is_given (codes "no-byte-classes") rows)

-- each value is one that its argument takes, as clap has checked
pub record IsTyped (rows : List Row) : Type 0 where
  pub mode : is_some (mode_of rows) ≡ true
  pub kind : is_some (match_kind_of rows) ≡ true
  pub engine : is_some (engine_of rows) ≡ true
  pub dense_depth : (text : Text) → one_of (codes "dense-depth") rows ≡ Some text → IsUnsignedIn 0 greatest_depth text

-- the arguments don't go together, or else make no pairing
abbrev pub Misasks : List Row → WordsFault → Type 0
Misasks rows fault = ((misuse_of rows ≢ None) × (fault ≡ Bad)) ⊎ ((misuse_of rows ≡ None) × Unpairs rows fault)

-- why the matches ask for nothing: the mask, or else a misuse, or else the pairing
abbrev pub AsksNothing : List Row → WordsFault → Type 0
AsksNothing rows fault =
    Unmasks rows fault ⊎ (¬ MasksBadly (is_masking rows) (first_of (codes "with") rows) × Misasks rows fault)

-- the words that these matches ask for, or the fault in their mask, use or pairing
abbrev pub ReadsMatches : List Row → Result Words WordsFault → Type 0
ReadsMatches rows (Ok w) = AsksFor rows w
ReadsMatches rows (Err fault) = AsksNothing rows fault

-- the kind of an error that is a text to show: the help, or the version
abbrev pub IsShown : ErrorKind → Type 0
IsShown k = (k ≡ kind.DisplayHelp) ⊎ (k ≡ kind.DisplayVersion)

-- clap finds a fault with the words that is neither a request for help nor one for the version
abbrev pub IsRefused : Kinds → Type 0
IsRefused kinds = (k : ErrorKind) × IsAmong k kinds × ¬ IsShown k

-- What the program returns for the words. Clap takes them exactly if it finds no fault with them; then their matches
-- give the result. Memory may run out for any words.
abbrev pub Reads : List Text → Result Words WordsFault → Type 0
Reads words (Ok w) = (fault_of command words ≡ []) × AsksFor (matches_of command words) w
Reads words (Err (Help e)) = IsShown (kind_of e) × IsAmong (kind_of e) (fault_of command words)
Reads words (Err Bad) =
    IsRefused (fault_of command words) ⊎ ((fault_of command words ≡ []) × AsksNothing (matches_of command words) Bad)
Reads words (Err Memory) = Unit {0}
Reads words (Err (Pairing e)) = (fault_of command words ≡ []) × AsksNothing (matches_of command words) (Pairing e)

-- what clap's parser returns for the words
abbrev pub Parses : List Text → Result ArgMatches WordsFault → Type 0
Parses words (Ok m) =
    (fault_of command words ≡ []) × (rows_of (found_of m) ≡ matches_of command words)
    × IsTyped (matches_of command words)
Parses words (Err (Help e)) = IsShown (kind_of e) × IsAmong (kind_of e) (fault_of command words)
Parses words (Err Bad) = IsRefused (fault_of command words)
Parses words (Err Memory) = Unit {0}
Parses words (Err (Pairing e)) = ⊥

-- ---- the faults that errors of the libraries become

abbrev pub hex_fault : FromHexError → WordsFault
hex_fault OutOfMemory = Memory
hex_fault _ = Bad

abbrev pub IsWordsFault : Error → WordsFault → Type 0
IsWordsFault error (Help e) = (e ≡ error) × IsShown (kind_of error)
IsWordsFault error Bad = ¬ IsShown (kind_of error) × (kind_of error ≢ kind.OutOfMemory)
IsWordsFault error Memory = kind_of error ≡ kind.OutOfMemory
IsWordsFault error (Pairing e) = ⊥
