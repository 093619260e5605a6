-- A side of hex is decoded, one of plain text is copied, and one with escapes is read byte by byte.
use Rattle.std.proofs.Common.{rules, subst, sym}
use Rattle.std.specs.Prelude.{IfOk, ℕ, List}
use Rattle.acsub.specs.Rules.File.{grammar_of}
use Rattle.acsub.proofs.rules.SpellingLemmas.{Spells-from_decode_of}
use Rattle.acsub.proofs.rules.keep_side.Goals as goal

pub returns-in-Hex-clause-side : goal.returns-in-Hex-clause-side
returns-in-Hex-clause-side c =
    subst (λ form. IfOk c.map_err.result (λ bytes. (grammar_of form).spells c.args.side.now bytes.items))
    (sym c.in-Hex.is) (search (rules, Spells-from_decode_of))

pub returns-in_ok-from_slice-in-Text-clause-side : goal.returns-in_ok-from_slice-in-Text-clause-side
returns-in_ok-from_slice-in-Text-clause-side c = rw c.in-Text.is c.in_ok-from_slice-in-Text.ensures.items

pub unescape-requires : goal.unescape-requires
unescape-requires c =
    subst (λ form. (bytes : List ℕ) × (grammar_of form).spells c.args.side.now bytes) c.in-Escaped.is c.requires

pub returns-in_ok-unescape-in-Escaped-clause-side : goal.returns-in_ok-unescape-in-Escaped-clause-side
returns-in_ok-unescape-in-Escaped-clause-side c = rw c.in-Escaped.is c.in_ok-unescape-in-Escaped.ensures
