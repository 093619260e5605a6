-- The matches of the whole input lie in order. Overlapping matches are accepted only under the standard kind. Each
-- search counts all that it does.
use Rattle.std.proofs.Common.{◌≡◌, length, refl, subst, sym, ◌∙◌}
use Rattle.std.specs.Prelude.{OnOk}
use Rattle.acsub.specs.Tally.{grown}
use Rattle.acsub.specs.declared.args.settings.Mode.TheVariants as modes
use Rattle.acsub.proofs.tally.TallyLemmas.{listing-matches, walk-matches}
use Rattle.acsub.proofs.run.CountLemmas.{counted-cost}
use Rattle.acsub.proofs.prepared.FinderLemmas.{whole-lies, overlap-standard}
use Rattle.acsub.proofs.run.write_text.Goals as goal

pub send_replaced-requires-clause-lie : goal.send_replaced-requires-clause-lie
send_replaced-requires-clause-lie g c =
    rw (c.picks-picks.ensures.walk, c.rules-rules.ensures) (whole-lies c.args.prepared.now c.args.input.now)

pub overlapping-requires : goal.overlapping-requires
overlapping-requires g c =
    overlap-standard c.args.prepared.now.settings c.args.prepared.now.rules c.requires.accepted
    (sym c.mode.ensures ∙ c.in-Overlap.is)

pub returns-in-Replace-clause-cost : goal.returns-in-Replace-clause-cost
returns-in-Replace-clause-cost g c =
    counted-cost c.args.prepared.now _ c.args.steps.now _ _
    (c.send_replaced.ensures.cost c.args.prepared.now _ c.args.steps.now
    (c.picks-picks.ensures.fresh c.args.steps.now))

pub returns-in-List-clause-cost : goal.returns-in-List-clause-cost
returns-in-List-clause-cost g c =
    counted-cost c.args.prepared.now _ c.args.steps.now _ _
    (c.send_list.ensures.cost c.args.prepared.now _ c.args.steps.now (c.picks.ensures.fresh c.args.steps.now))

pub returns-in-Overlap-clause-cost : goal.returns-in-Overlap-clause-cost
returns-in-Overlap-clause-cost g c =
    counted-cost c.args.prepared.now _ c.args.steps.now _ _
    (c.send_list-in-Overlap.ensures.cost c.args.prepared.now _ c.args.steps.now
    (c.overlapping.ensures.fresh c.args.steps.now))

pub returns-in-Replace-clause-counts : goal.returns-in-Replace-clause-counts
returns-in-Replace-clause-counts g c =
    let sent = c.send_replaced in
    subst (λ os. OnOk sent.result (sent.new.tally.found ≡ grown c.args.tally.now.found (length os)))
    (c.picks-picks.ensures.walk ∙ walk-matches c.args.prepared.now c.args.input.now modes.Replace
    (sym c.mode.ensures ∙ c.in-Replace.is) refl) sent.ensures.counts

pub returns-in-List-clause-counts : goal.returns-in-List-clause-counts
returns-in-List-clause-counts g c =
    let sent = c.send_list in
    subst (λ os. OnOk sent.result (sent.new.tally.found ≡ grown c.args.tally.now.found (length os)))
    (c.picks.ensures.walk ∙ walk-matches c.args.prepared.now c.args.input.now modes.List
    (sym c.mode.ensures ∙ c.in-List.is) refl) sent.ensures.counts

pub returns-in-Overlap-clause-counts : goal.returns-in-Overlap-clause-counts
returns-in-Overlap-clause-counts g c =
    let sent = c.send_list-in-Overlap in
    subst (λ os. OnOk sent.result (sent.new.tally.found ≡ grown c.args.tally.now.found (length os)))
    (c.overlapping.ensures.listing ∙ listing-matches c.args.prepared.now c.args.input.now
    (sym c.mode.ensures ∙ c.in-Overlap.is)) sent.ensures.counts
