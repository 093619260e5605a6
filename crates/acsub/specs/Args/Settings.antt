-- Which settings are accepted.
use Rattle.std.specs.Prelude.{◌≡◌, ◌≢◌, ℕ, ◌<◌, Bool, true, List, [], length, ◌⊎◌, codes, Contains}
use Rattle.ac_input.specs.Same.{IsUnpaired}
use Rattle.ac_input.specs.Rules.{Rule}
use Rattle.ac_input.specs.declared.search.MatchKind.TheVariants.{Standard}
use Rattle.ac_literal.specs.Packed.{most_packed}
use Rattle.acsub.specs.Rules.Sides.{rule_patterns}
use Rattle.acsub.specs.declared.args.settings.Settings.{Settings}
use Rattle.acsub.specs.declared.args.settings.Mode.TheVariants.{Overlap}
use Rattle.acsub.specs.declared.args.settings.Engine.TheVariants.{Packed}
use Rattle.acsub.specs.declared.args.settings.SettingError.{SettingError}
use Rattle.acsub.specs.declared.args.settings.SettingError.TheVariants.{OverlapLeftmost, PackedStandard, PackedFold, PackedEmpty, PackedCount}

-- some pattern is empty
abbrev pub HasEmptyPattern : List Rule → Type 0
HasEmptyPattern rules = Contains (rule_patterns rules) []

-- this reason excludes the settings, given the rules
abbrev pub IsExcluded : Settings → List Rule → SettingError → Type 0
IsExcluded s rules OverlapLeftmost = (s.mode ≡ Overlap) × (s.kind ≢ Standard)
IsExcluded s rules PackedStandard = (s.engine ≡ Packed) × (s.kind ≡ Standard)
IsExcluded s rules PackedFold = (s.engine ≡ Packed) × ¬ IsUnpaired s.pairing
IsExcluded s rules PackedEmpty = (s.engine ≡ Packed) × HasEmptyPattern rules
IsExcluded s rules PackedCount = (s.engine ≡ Packed) × ((length rules ≡ 0) ⊎ (most_packed < length rules))

-- the rank of a reason: of those that apply, the lowest is reported
abbrev pub order_of : SettingError → ℕ
order_of OverlapLeftmost = 0
order_of PackedStandard = 1
order_of PackedFold = 2
order_of PackedEmpty = 3
order_of PackedCount = 4

-- nothing excludes the settings
abbrev pub IsAccepted : Settings → List Rule → Type 0
IsAccepted s rules = (e : SettingError) → ¬ IsExcluded s rules e

-- the first reason that excludes the settings
abbrev pub IsFirstExclusion : Settings → List Rule → SettingError → Type 0
IsFirstExclusion s rules e =
    IsExcluded s rules e × ((earlier : SettingError) → order_of earlier < order_of e → ¬ IsExcluded s rules earlier)

-- Matches are found while the input is read. Under the standard kind that is always so, as no later byte can change a
-- match. Under a leftmost kind a stream must be asked for, and an automaton must search.
abbrev pub FindsEarly : Bool → Settings → Type 0
FindsEarly stream settings = (settings.kind ≡ Standard) ⊎ ((stream ≡ true) × (settings.engine ≢ Packed))

-- the text of an error
abbrev pub setting_text : SettingError → List ℕ
setting_text OverlapLeftmost = codes "overlap needs the standard kind"
setting_text PackedStandard = codes "packed needs a leftmost kind"
setting_text PackedFold = codes "packed keeps case"
setting_text PackedEmpty = codes "packed takes no empty pattern"
setting_text PackedCount = codes "packed takes 1 to 128 patterns"
