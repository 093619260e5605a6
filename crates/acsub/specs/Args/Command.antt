-- The command line of the program, as data.
use Rattle.std.specs.Prelude.{◌≡◌, ℕ, List, [], ◌∷◌, Some, true, codes, map}
use Rattle.std.specs.Borrow.{Bor}
use Rattle.clap.specs.Words.{App, Rule, Text, app_of, items_of, new_app, new_rule, with_rule}
use Rattle.clap.specs.Walk.{texts}
use Rattle.clap.specs.declared.builder.action.ArgAction.TheVariants.{Append, Set, SetTrue}
use Rattle.clap.specs.declared.builder.arg.Arg.{Arg}
use Rattle.clap.specs.declared.builder.command.Command.{Command}
use Rattle.clap.specs.declared.builder.value_parser.ValueParser.TheVariants as parser

-- the values that three of the arguments take
abbrev pub mode_names : List Text
mode_names = codes "replace" ∷ codes "list" ∷ codes "overlap" ∷ codes "mask" ∷ []

abbrev pub kind_names : List Text
kind_names = codes "standard" ∷ codes "leftmost-first" ∷ codes "leftmost-longest" ∷ []

abbrev pub engine_names : List Text
engine_names = codes "auto" ∷ codes "noncontiguous" ∷ codes "contiguous" ∷ codes "dfa" ∷ codes "packed" ∷ []

-- A list of names as clap's data holds it: references. Clap reads only their texts.
abbrev pub Names : Type 0
Names = Bor (List (Bor Text))

-- the names as references, all at one address
abbrev pub as_names : List Text → Names
as_names words =
    record {
      ref_ptr = (0, 0);
      now = map (λ (word : Text). let name : Bor Text = record { ref_ptr = (0, 0); now = word } in name) words;
    }

-- the lists of names that the three arguments take
pub record Lists : Type 0 where
  pub modes : Names
  pub kinds : Names
  pub engines : Names

-- the three lists hold the program's names, at whatever address
pub record HasNames (lists : Lists) : Type 0 where
  pub modes : texts lists.modes.now ≡ mode_names
  pub kinds : texts lists.kinds.now ≡ kind_names
  pub engines : texts lists.engines.now ≡ engine_names

-- a positional argument: a word that belongs to no option
abbrev pub placed : Text → Rule
placed id = record (new_rule id) { action = Some Set; value_names = 1 }

-- all words of that kind that are left
abbrev pub file_rule : Rule
file_rule = record (placed (codes "file")) { action = Some Append }

-- `--id VALUE`
abbrev pub option : Text → Rule
option id = record (new_rule id) { long = Some id; action = Some Set; value_names = 1 }

-- `--id VALUE`, which takes one of these names and has this default
abbrev pub choice : Text → Names → Text → Rule
choice id names default = record (option id) { defaults = default ∷ []; parser = Some (parser.Names names) }

-- `--id`
abbrev pub flag : Text → Rule
flag id = record (new_rule id) { long = Some id; action = Some SetTrue }

-- `-c VALUE` or `--id VALUE`, any number of times
abbrev pub repeated : Text → ℕ → Rule
repeated id short = record (option id) { short = Some short; action = Some Append }

abbrev pub mode_rule : Names → Rule
mode_rule names = record (placed (codes "mode")) { parser = Some (parser.Names names); required = true }

-- `-i` or `--in-place`
abbrev pub in_place_rule : Rule
in_place_rule = record (flag (codes "in-place")) { short = Some 105 }

abbrev pub kind_rule : Names → Rule
kind_rule names = choice (codes "kind") names (codes "standard")

abbrev pub engine_rule : Names → Rule
engine_rule names = choice (codes "engine") names (codes "auto")

-- the greatest depth that `--dense-depth` takes
abbrev pub greatest_depth : ℕ
greatest_depth = 2147483646

abbrev pub depth_rule : Rule
depth_rule = record (option (codes "dense-depth")) { parser = Some (parser.Unsigned 0 greatest_depth) }

-- an application with the arguments that name the rules added, and the inputs after them
abbrev pub with_rules : App → App
with_rules a =
    with_rule
    (with_rule
    (with_rule
    (with_rule (with_rule (with_rule a (placed (codes "rules"))) file_rule) (repeated (codes "pattern") 101))
    (repeated (codes "replacement") 114)) (flag (codes "text"))) (flag (codes "escapes"))

-- an application with the options for whole files added, and for what is said of a run
abbrev pub with_files : App → App
with_files a =
    with_rule
    (with_rule
    (with_rule (with_rule (with_rule a in_place_rule) (flag (codes "count"))) (flag (codes "fail-if-none")))
    (flag (codes "check"))) (flag (codes "progress"))

-- an application with the options that say what is written, and when, added
abbrev pub with_writing : App → App
with_writing a =
    with_rule (with_rule (with_rule a (flag (codes "stream"))) (flag (codes "word"))) (option (codes "with"))

-- an application with the options for matching added: `--kind`, `--fold` and `--pairs`
abbrev pub with_matching : Names → App → App
with_matching kinds a =
    with_rule (with_rule (with_rule a (kind_rule kinds)) (flag (codes "fold"))) (option (codes "pairs"))

-- an application with the options for the engine added
abbrev pub with_engine : Names → App → App
with_engine engines a =
    with_rule (with_rule (with_rule (with_rule a (engine_rule engines)) (flag (codes "no-prefilter"))) depth_rule)
    (flag (codes "no-byte-classes"))

-- the program's name, and a version
abbrev pub versioned : App
versioned = record (new_app (codes "acsub")) { top = record (new_app (codes "acsub")).top { has_version = true } }

abbrev pub command_with : Lists → App
command_with lists =
    with_engine lists.engines
    (with_matching lists.kinds
    (with_writing (with_files (with_rules (with_rule versioned (mode_rule lists.modes))))))

-- acsub MODE [RULES] [FILE..] [-e PATTERN].. [-r REPLACEMENT].. [--text] [--escapes] [-i] [--count] [--fail-if-none] [--check]
-- [--progress] [--stream] [--word] [--with HEX] [--kind K] [--fold] [--pairs HEX] [--engine E] [--no-prefilter]
-- [--dense-depth N] [--no-byte-classes]
abbrev pub command : App
command =
    command_with (record { modes = as_names mode_names; kinds = as_names kind_names; engines = as_names engine_names })

-- ---- what clap's builder made

-- the program's command, with its names at some address
abbrev pub IsCommand : Command → Type 0
IsCommand made = (lists : Lists) × HasNames lists × (app_of made ≡ command_with lists)

-- the second command is the first with these arguments added
abbrev pub AddsRules : Command → Command → Type 0
AddsRules before made = app_of made ≡ with_rules (app_of before)

abbrev pub AddsFiles : Command → Command → Type 0
AddsFiles before made = app_of made ≡ with_files (app_of before)

abbrev pub AddsWriting : Command → Command → Type 0
AddsWriting before made = app_of made ≡ with_writing (app_of before)

-- the second command is the first with the options for matching added
abbrev pub AddsMatching : Command → Command → Type 0
AddsMatching before made =
    (kinds : Names) × (texts kinds.now ≡ kind_names) × (app_of made ≡ with_matching kinds (app_of before))

-- the second command is the first with the options for the engine added
abbrev pub AddsEngine : Command → Command → Type 0
AddsEngine before made =
    (engines : Names) × (texts engines.now ≡ engine_names) × (app_of made ≡ with_engine engines (app_of before))

-- the argument has this name for its value, and this help text
abbrev pub Shows : Arg → Bor Text → Bor Text → Type 0
Shows made name help = (items_of made.val_names ≡ name ∷ []) × (made.help ≡ Some help)
