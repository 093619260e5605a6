use Rattle.std.proofs.Common.{◌≡◌, ◌∙◌, true, [], sym, subst, codes}
use Rattle.std.specs.Prelude.{IfOk, if◌then◌else◌}
use Rattle.clap.specs.Walk.{texts}
use Rattle.acsub.specs.Args.Values.{has_values, rows_in, values_in}
use Rattle.acsub.proofs.args.first_file.Goals as goal

pub returns-then-has_values : goal.returns-then-has_values
returns-then-has_values c =
    let rows = rows_in c.args.matches.now in
    let has : has_values (codes "pattern") rows ≡ true = sym c.has_values.ensures ∙ c.if-has_values.true in
    subst
    (λ b. IfOk c.values_of.result (λ files. texts files.items ≡ (if b then values_in (codes "rules") rows else [])))
    (sym has) c.values_of.ensures
