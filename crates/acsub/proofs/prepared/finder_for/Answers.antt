-- Settings that ask packed search are accepted with rules that it serves.
use Rattle.std.proofs.Common.{◌≡◌, rules}
use Rattle.acsub.specs.declared.args.settings.Engine.TheVariants.{Packed}
use Rattle.acsub.proofs.prepared.FinderLemmas.{packed-kind, packed-served, packed-unpaired}
use Rattle.acsub.proofs.prepared.finder_for.Goals as goal

pub packed_for-requires-clause-kind : goal.packed_for-requires-clause-kind
packed_for-requires-clause-kind c =
    let packs : c.args.settings.now.engine ≡ Packed = search rules in
    packed-kind c.args.settings.now c.args.rules.now c.requires packs

pub packed_for-requires-clause-served : goal.packed_for-requires-clause-served
packed_for-requires-clause-served c =
    let packs : c.args.settings.now.engine ≡ Packed = search rules in
    packed-served c.args.settings.now c.args.rules.now c.requires packs

pub returns-in_ok-searcher-clause-finds : goal.returns-in_ok-searcher-clause-finds
returns-in_ok-searcher-clause-finds c =
    let packs : c.args.settings.now.engine ≡ Packed = search rules in
    (c.in_ok-searcher.ensures, packed-unpaired c.args.settings.now c.args.rules.now c.requires packs, packs)
