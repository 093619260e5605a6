-- The next note of what was read ahead, before or after a block was.
use Rattle.std.proofs.Common.{◌∙◌, sym, arith}
use Rattle.ac_automaton.proofs.ahead.AheadLemmas.{first-none, skipped-ahead, skipped-later, skipped-once}
use Rattle.ac_automaton.proofs.ahead.Ahead.next_note.Goals as goal

pub returns-then-is_some-clause-ahead : goal.returns-then-is_some-clause-ahead
returns-then-is_some-clause-ahead g c = skipped-ahead c.upcoming-note.ensures.skipped c.requires.ahead

pub returns-then-is_some-clause-later : goal.returns-then-is_some-clause-later
returns-then-is_some-clause-later g c = skipped-later c.upcoming-note.ensures.skipped c.upcoming-note.ensures.noted

pub read_block-requires-clause-none : goal.read_block-requires-clause-none
read_block-requires-clause-none g c =
    first-none _ (sym c.if-is_some.false ∙ c.is_some.ensures) c.upcoming-note.ensures.noted

pub read_block-requires-clause-ahead : goal.read_block-requires-clause-ahead
read_block-requires-clause-ahead g c = skipped-ahead c.upcoming-note.ensures.skipped c.requires.ahead

pub returns-clause-ahead : goal.returns-clause-ahead
returns-clause-ahead g c = skipped-ahead c.upcoming.ensures.skipped c.read_block.ensures.ahead

pub returns-clause-later : goal.returns-clause-later
returns-clause-later g c = skipped-later c.upcoming.ensures.skipped c.upcoming.ensures.noted

pub returns-clause-once : goal.returns-clause-once
returns-clause-once g c =
    let before = skipped-once c.args.bytes.now c.upcoming-note.ensures.skipped in
    let after = skipped-once c.args.bytes.now c.upcoming.ensures.skipped in
    omega (arith, before, c.read_block.ensures.once, after)
