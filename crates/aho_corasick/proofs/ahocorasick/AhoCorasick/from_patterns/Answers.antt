-- The builder has the default settings.
use Rattle.std.proofs.lemmas.Result.{IfErr-weaker}
use Rattle.aho_corasick.proofs.lemmas.FrontLemmas.{built-by_default, finds-by_default}
use Rattle.aho_corasick.proofs.ahocorasick.AhoCorasick.from_patterns.Goals as goal

pub returns : goal.returns
returns g c =
    let made = c.build_from_patterns.result in
    let first = c.new.ensures in
    record {
      finds = finds-by_default c.new.result _ made first c.build_from_patterns.ensures.served;
      served = built-by_default c.new.result _ made first c.build_from_patterns.ensures.served;
      refused =
          IfErr-weaker made _ _ (λ error refused. (c.new.result, first, refused)) c.build_from_patterns.ensures.refused;
    }
