-- The result is that of the stream.
use Rattle.aho_corasick.specs.AhoCorasick.{as_built, supported_by}
use Rattle.acsub.specs.Early.{as_early}
use Rattle.acsub.specs.Masked.{MasksInput, mask_demand}
use Rattle.acsub.proofs.early.EarlyLemmas.{early-ok, early-says, told-ok}
use Rattle.acsub.proofs.mask.MaskRunLemmas.{mask-accepted, mask-can, mask-costs, mask-within, masks-by, masks-memory}
use Rattle.acsub.proofs.mask.run_prepared_mask.Goals as goal

pub told-requires : goal.told-requires
told-requires g c =
    let p = c.args.prepared.now in
    let ready = c.requires.ready in
    mask-accepted (as_built p.automaton) (supported_by p.automaton) c.mask_stream.result
    (mask-can p.settings p.rules.now p.mask.byte ready.maskable p.automaton ready.serves) c.mask_stream.ensures.accepted

pub returns-clause-answered : goal.returns-clause-answered
returns-clause-answered g c =
    let p = c.args.prepared.now in
    let ready = c.requires.ready in
    let masked = c.mask_stream in
    let within = mask-within p.settings p.rules.now p.automaton ready.serves in
    early-says (c.args.reader.now, c.args.writer.now) (masked.new.reader, masked.new.writer)
    (mask_demand p.settings p.rules.now p.mask.byte)
    (MasksInput g.R.Read.remaining g.W.Write.contents (c.args.reader.now, c.args.writer.now)
    (masked.new.reader, masked.new.writer) p.settings p.rules.now p.mask) ready.maskable masked.result c.told.result
    c.told.ensures
    (masks-by g.R.Read.remaining g.W.Write.contents (c.args.reader.now, c.args.writer.now)
    (masked.new.reader, masked.new.writer) p.settings p.rules.now p.mask.byte ready.maskable (as_built p.automaton)
    ready.serves.built.dictionary within masked.result p.mask.word masked.ensures.masked)
    (masks-memory g.R.Read.remaining g.W.Write.contents (c.args.reader.now, c.args.writer.now)
    (masked.new.reader, masked.new.writer) p.settings p.rules.now p.mask.byte ready.maskable (as_built p.automaton)
    ready.serves.built.dictionary within masked.result p.mask.word masked.ensures.masked)

pub returns-clause-cost : goal.returns-clause-cost
returns-clause-cost g c =
    let p = c.args.prepared.now in
    let masked = c.mask_stream in
    mask-costs p.mask.word p.settings p.rules.now p.automaton c.args.reader.now masked.new.reader c.args.steps.now
    masked.new.steps masked.result (as_early c.told.result) c.requires.ready.serves masked.ensures.cost
    (λ e. told-ok masked.result c.told.result c.told.ensures (early-ok c.told.result e))
