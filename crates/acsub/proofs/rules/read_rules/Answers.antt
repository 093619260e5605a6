use Rattle.std.proofs.Common.{◌≡◌, Err, ap, subst}
use Rattle.std.proofs.lemmas.Result.{IfErr-at_err}
use Rattle.acsub.specs.Rules.File.{grammar_of}
use Rattle.acsub.specs.declared.rules.RuleError.{RuleError}
use Rattle.acsub.specs.declared.rules.RuleError.TheVariants.{Line, Memory}
use Rattle.acsub.proofs.rules.GrammarLemmas.{bad_none, bad_one}
use Rattle.acsub.proofs.rules.read_rules.Goals as goal

pub returns-in-Ok : goal.returns-in-Ok
returns-in-Ok c =
    let file = c.in-Ok.ensures in
    record {
      rules = c.keep_rules.ensures.rules;
      bad = λ n. (
        λ e. let memory = IfErr-at_err (λ (x : RuleError). x ≡ Memory) e c.keep_rules.ensures.memory in
            absurd (cc memory),
        λ bad. absurd (bad_none c.args.form c.args.bytes.now n file.0 file.1 bad),
      );
      memory = λ e. (file.0, file.1);
    }

pub returns-in-Err : goal.returns-in-Err
returns-in-Err c =
    let bytes = c.args.bytes.now in
    record {
      rules = tt;
      bad = λ n. (
        λ e. let same : c.in-Err.line ≡ n = cc in subst ((grammar_of c.args.form).bad bytes) same c.in-Err.ensures,
        λ bad. ap (λ m. Err (Line m)) (bad_one c.args.form bytes c.in-Err.line n c.in-Err.ensures bad),
      );
      memory = λ e. absurd (cc e);
    }
