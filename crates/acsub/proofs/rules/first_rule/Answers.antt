-- Each form of rule file has its own lines.
use Rattle.acsub.proofs.rules.first_rule.Goals as goal

pub returns-in-Hex : goal.returns-in-Hex
returns-in-Hex c = rw c.in-Hex.is (λ file is. c.first_in_hex.ensures file)

pub returns-in-Text : goal.returns-in-Text
returns-in-Text c = rw c.in-Text.is c.first_in_text.ensures

pub returns-in-Escaped : goal.returns-in-Escaped
returns-in-Escaped c = rw c.in-Escaped.is c.first_escaped.ensures
