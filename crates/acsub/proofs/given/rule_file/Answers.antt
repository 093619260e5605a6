-- One rule more, and the rules of the rest.
use Rattle.std.proofs.Common.{◌≡◌, ◌∙◌, ◌≤◌, ◌<◌, ◌-◌, ℕ, List, [], ◌∷◌, ◌++◌, append_assoc, append-nil, arith, length, take, drop, get_or, subst, sym, ap, ap₂}
use Rattle.std.specs.Borrow.{Bor}
use Rattle.std.proofs.lemmas.Grind.{common_steps}
use Rattle.std.proofs.lemmas.List.{drop-map}
use Rattle.clap.specs.Walk.{Text, texts}
use Rattle.acsub.specs.Given.{HoldsGiven, given_file, given_rule}
use Rattle.acsub.proofs.given.GivenLemmas.{holds-given}
use Rattle.acsub.proofs.given.rule_file.Goals as goal

all_taken : (n : ℕ) (zs : List (Bor Text)) → n ≡ length zs → take n zs ≡ zs
all_taken n zs e = grind (arith, common_steps)

-- the first of the rest is written
step : (file new all : List ℕ) (rest by next : List (Bor Text)) (d : Bor Text) → 1 ≤ length rest
    → new ≡ file ++ given_rule (get_or rest 0 d).now (texts by) → next ≡ drop 1 by
    → file ++ given_file (texts rest) (texts by) ≡ all
    → new ++ given_file (texts (take (length rest - 1) (drop 1 rest))) (texts next) ≡ all
step file new all [] by next d some is after so_far = absurd (omega arith)
step file new all (x ∷ xs) by next d some is after so_far =
    let back : take (length (x ∷ xs) - 1) xs ≡ xs = all_taken _ xs (omega arith) in
    let left : texts next ≡ drop 1 (texts by) = ap texts after ∙ sym (drop-map (λ (s : Bor Text). s.now) 1 by) in
    ap₂ (λ f g. f ++ g) is (ap₂ given_file (ap texts back) left)
    ∙ append_assoc file (given_rule x.now (texts by)) (given_file (texts xs) (drop 1 (texts by))) ∙ so_far

-- nothing is left
done : (file all : List ℕ) (rest by : List (Bor Text)) → length rest < 1
    → file ++ given_file (texts rest) (texts by) ≡ all → file ≡ all
done file all [] by none so_far = sym (append-nil file) ∙ so_far
done file all (x ∷ xs) by none so_far = absurd (omega arith)

pub loop-rest-preserved : goal.loop-rest-preserved
loop-rest-preserved c =
    step c.loop-rest.file.items c.push_rule.new.file.items _ c.loop-rest.rest.now c.loop-rest.by.now
    c.without_first-by.result.now _ c.in-len1-up.len_at_least c.in_ok-push_rule.ensures c.without_first-by.ensures
    c.loop-rest.invariant

pub returns-clause-bytes : goal.returns-clause-bytes
returns-clause-bytes c =
    done c.loop-rest.file.items _ c.loop-rest.rest.now c.loop-rest.by.now c.in_default.len_below c.loop-rest.invariant

pub returns-clause-rules : goal.returns-clause-rules
returns-clause-rules c =
    let patterns = texts c.args.patterns.now in
    let replacements = texts c.args.replacements.now in
    let bytes = done c.loop-rest.file.items _ c.loop-rest.rest.now c.loop-rest.by.now c.in_default.len_below
    c.loop-rest.invariant in
    subst (HoldsGiven patterns replacements) (sym bytes) (holds-given patterns replacements)
