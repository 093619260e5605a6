-- Why runs that ask for the same text write the same text.
use Rattle.std.proofs.Common.{◌≡◌, false, List, ℕ, sym, ap, ◌∙◌}
use Rattle.std.specs.List.{concat}
use Rattle.ac_input.specs.Dictionary.{whole}
use Rattle.ac_input.specs.Rules.{Rule}
use Rattle.acsub.proofs.rules.GrammarLemmas.{file_one}
use Rattle.acsub.specs.Served.{dictionary_for}
use Rattle.acsub.specs.Run.RunLaws.{AskAlike, RunsWriteAlike}
use Rattle.acsub.specs.Rules.Sides.{replacements_of}
use Rattle.acsub.specs.Run.Transformed.{output_of, text_in}
use Rattle.acsub.specs.declared.args.settings.Settings.{Settings}

-- settings that ask for the same text make the same text of an input
output-alike : (settings other : Settings) (rules : List Rule) (input : List ℕ) → AskAlike settings other
    → output_of settings rules input ≡ output_of other rules input
output-alike settings other rules input alike =
    ap (λ mode. text_in mode settings.kind (replacements_of rules) (whole (dictionary_for settings rules) input false))
    alike.mode
    ∙ ap (λ kind. text_in other.mode kind (replacements_of rules) (whole (dictionary_for settings rules) input false))
    alike.kind
    ∙ ap (λ pairing. text_in other.mode other.kind (replacements_of rules)
    (record (whole (dictionary_for settings rules) input false) { pairing = pairing })) alike.pairing

pub runs_write_alike : RunsWriteAlike
runs_write_alike settings other stream another form shape file page m n alike rules same ran again =
    ran.2.written
    ∙ ap (λ all. output_of settings all (concat m.pieces))
    (file_one shape page ran.0 again.0 (rules ran.0 ran.1) again.1)
    ∙ ap (output_of settings again.0) same
    ∙ output-alike settings other again.0 (concat n.pieces) alike
    ∙ sym again.2.written
