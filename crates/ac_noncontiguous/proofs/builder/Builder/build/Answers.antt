-- The automaton is made from the tables, the lengths and the prefilter of the patterns.
use Rattle.std.proofs.Common.{◌≡◌, ap, subst, sym, ◌∙◌, refl, rules}
use Rattle.std.proofs.lemmas.Result.{err_from_is_err_and}
use Rattle.ac_input.specs.Dictionary.{dictionary_of}
use Rattle.ac_literal.specs.Packed.{bytes_of}
use Rattle.std.specs.Prelude.{IfSome}
use Rattle.ac_literal.specs.Openings.{AreOpenings}
use Rattle.ac_noncontiguous.specs.Builder.{dictionary_by, noncontiguous_dense_depth, IsHeld}
use Rattle.ac_noncontiguous.specs.Nfa.{AreRowsBelow}
use Rattle.ac_noncontiguous.proofs.builder.BuilderLemmas.{opened-kind, parts-of}
use Rattle.ac_noncontiguous.proofs.builder.Builder.build.Goals as goal

pub from_parts-requires-clause-parts : goal.from_parts-requires-clause-parts
from_parts-requires-clause-parts c =
    let ps = c.args.patterns.now in
    let same : dictionary_of c.in_ok-lens.lens c.self.inside.settings.pairing c.self.inside.settings.match_kind
    ≡ dictionary_by c.args.self.now ps =
    ap (λ q. dictionary_of q c.self.inside.settings.pairing c.self.inside.settings.match_kind) c.in_ok-lens.ensures
    ∙ ap (λ s. dictionary_by s ps) c.self.view_is in
    parts-of same c.in_ok-tables.ensures.made c.in_ok-tables.ensures.within c.in_ok-prefilter.ensures

pub from_parts-requires-clause-opened : goal.from_parts-requires-clause-opened
from_parts-requires-clause-opened c =
    let pairing = c.self.inside.settings.pairing in
    let kind = c.self.inside.settings.match_kind in
    subst (λ q. ∥ IfSome c.in_ok-openings.openings (AreOpenings (dictionary_of q pairing kind)) ∥₁)
    (sym c.in_ok-lens.ensures)
    ∣ opened-kind (bytes_of c.args.patterns.now) pairing kind c.in_ok-openings.openings c.in_ok-openings.ensures ∣₁

pub returns-clause-rows : goal.returns-clause-rows
returns-clause-rows c =
    subst (AreRowsBelow (noncontiguous_dense_depth c.args.self.now)) (sym c.from_parts.ensures.tables)
    c.in_ok-tables.ensures.rows

pub returns-in_err-lens-clause-built : goal.returns-in_err-lens-clause-built
returns-in_err-lens-clause-built c =
    let p = err_from_is_err_and c.from_residual-in_err-lens.result c.from_residual-in_err-lens.ensures.1 in
    rw p.1 (search rules)

pub returns-in_err-lens-clause-rows : goal.returns-in_err-lens-clause-rows
returns-in_err-lens-clause-rows c =
    let p = err_from_is_err_and c.from_residual-in_err-lens.result c.from_residual-in_err-lens.ensures.1 in
    rw p.1 (search rules)

pub returns-in_err-lens-clause-refused : goal.returns-in_err-lens-clause-refused
returns-in_err-lens-clause-refused c =
    let p = err_from_is_err_and c.from_residual-in_err-lens.result c.from_residual-in_err-lens.ensures.1 in
    rw (p.1, p.2) (search rules)

pub returns-in_err-prefilter-clause-built : goal.returns-in_err-prefilter-clause-built
returns-in_err-prefilter-clause-built c =
    let p = err_from_is_err_and c.from_residual-in_err-prefilter.result c.from_residual-in_err-prefilter.ensures.1 in
    rw p.1 (search rules)

pub returns-in_err-prefilter-clause-rows : goal.returns-in_err-prefilter-clause-rows
returns-in_err-prefilter-clause-rows c =
    let p = err_from_is_err_and c.from_residual-in_err-prefilter.result c.from_residual-in_err-prefilter.ensures.1 in
    rw p.1 (search rules)

pub returns-in_err-prefilter-clause-refused : goal.returns-in_err-prefilter-clause-refused
returns-in_err-prefilter-clause-refused c =
    let p = err_from_is_err_and c.from_residual-in_err-prefilter.result c.from_residual-in_err-prefilter.ensures.1 in
    rw (p.1, p.2) (search rules)

pub returns-in_err-openings-clause-built : goal.returns-in_err-openings-clause-built
returns-in_err-openings-clause-built c =
    let p = err_from_is_err_and c.from_residual-in_err-openings.result c.from_residual-in_err-openings.ensures.1 in
    rw p.1 (search rules)

pub returns-in_err-openings-clause-rows : goal.returns-in_err-openings-clause-rows
returns-in_err-openings-clause-rows c =
    let p = err_from_is_err_and c.from_residual-in_err-openings.result c.from_residual-in_err-openings.ensures.1 in
    rw p.1 (search rules)

pub returns-in_err-openings-clause-refused : goal.returns-in_err-openings-clause-refused
returns-in_err-openings-clause-refused c =
    let p = err_from_is_err_and c.from_residual-in_err-openings.result c.from_residual-in_err-openings.ensures.1 in
    rw (p.1, p.2) (search rules)

pub returns-clause-built : goal.returns-clause-built
returns-clause-built c =
    let ps = c.args.patterns.now in
    let same : dictionary_of c.in_ok-lens.lens c.self.inside.settings.pairing c.self.inside.settings.match_kind
    ≡ dictionary_by c.args.self.now ps =
    ap (λ q. dictionary_of q c.self.inside.settings.pairing c.self.inside.settings.match_kind) c.in_ok-lens.ensures
    ∙ ap (λ s. dictionary_by s ps) c.self.view_is in
    record {
      dictionary = c.from_parts.ensures.dictionary ∙ same;
      looks = refl;
      prefilter = subst (IsHeld c.args.self.now.prefilter (dictionary_by c.args.self.now ps)) (sym c.from_parts.ensures.prefilter)
          c.in_ok-prefilter.ensures;
      within = c.in_ok-tables.ensures.within;
    }
