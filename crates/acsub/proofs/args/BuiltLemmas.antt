-- How each step of a builder changes an argument's rule.
use Rattle.std.proofs.Common.{◌≡◌, ◌∙◌, ℕ, ap, true, false, Some}
use Rattle.std.specs.Borrow.{Bor}
use Rattle.clap.specs.Words.{Rule, Text, rule_of}
use Rattle.clap.specs.declared.builder.arg.Arg.{Arg}
use Rattle.clap.specs.declared.builder.texts.Texts.TheVariants.{One}
use Rattle.clap.specs.declared.builder.action.ArgAction.{ArgAction}
use Rattle.clap.specs.declared.builder.value_parser.ValueParser.{ValueParser}

-- the argument is given a name for its value
pub named_rule : (a b : Arg) (r : Rule) (name : Bor Text) → b ≡ record a { val_names = One name } → rule_of a ≡ r
    → rule_of b ≡ record r { value_names = 1 }
named_rule a b r name same is = ap rule_of same ∙ ap (λ (s : Rule). record s { value_names = 1 }) is

-- the argument is given a help text
pub helped_rule : (a b : Arg) (r : Rule) (help : Bor Text) → b ≡ record a { help = Some help } → rule_of a ≡ r
    → rule_of b ≡ r
helped_rule a b r help same is = ap rule_of same ∙ is

-- the argument is given an action
pub acting_rule : (a b : Arg) (r : Rule) (action : ArgAction) → b ≡ record a { action = Some action } → rule_of a ≡ r
    → rule_of b ≡ record r { action = Some action }
acting_rule a b r action same is = ap rule_of same ∙ ap (λ (s : Rule). record s { action = Some action }) is

-- the argument is given a long name
pub long_rule : (a b : Arg) (r : Rule) (name : Bor Text) → b ≡ record a { long = Some name } → rule_of a ≡ r
    → rule_of b ≡ record r { long = Some name.now }
long_rule a b r name same is = ap rule_of same ∙ ap (λ (s : Rule). record s { long = Some name.now }) is

-- the argument is given a short name
pub short_rule : (a b : Arg) (r : Rule) (name : ℕ) → b ≡ record a { short = Some name } → rule_of a ≡ r
    → rule_of b ≡ record r { short = Some name }
short_rule a b r name same is = ap rule_of same ∙ ap (λ (s : Rule). record s { short = Some name }) is

-- the argument becomes required
pub required_rule : (a b : Arg) (r : Rule) → b ≡ record a { required = true } → rule_of a ≡ r
    → rule_of b ≡ record r { required = true }
required_rule a b r same is = ap rule_of same ∙ ap (λ (s : Rule). record s { required = true }) is

-- the argument is given a parser, and its rule is otherwise unchanged
pub given_rule : (a b : Arg) (p q : ValueParser) (r : Rule) → b ≡ record a { value_parser = b.value_parser }
    → b.value_parser ≡ Some q → q ≡ p → rule_of a ≡ r
    → rule_of b ≡ record r { parser = Some p }
given_rule a b p q r same has is rule =
    ap rule_of same ∙ ap (λ v. rule_of (record a { value_parser = v })) (has ∙ ap Some is)
    ∙ ap (λ (s : Rule). record s { parser = Some p }) rule

-- an argument that isn't global stays so when it is given a parser
pub given_own : (a b : Arg) → b ≡ record a { value_parser = b.value_parser } → a.global ≡ false → b.global ≡ false
given_own a b same own = ap (λ x. x.global) same ∙ own
