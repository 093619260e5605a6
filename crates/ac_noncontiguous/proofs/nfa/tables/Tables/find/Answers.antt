use Rattle.std.proofs.Common.{◌+◌, ◌-◌, ◌/◌, ap, inl, sym, ◌∙◌, arith}
use Rattle.ac_noncontiguous.specs.Nfa.{no_transition}
use Rattle.ac_noncontiguous.proofs.nfa.LookupLemmas.{read-at}
use Rattle.ac_noncontiguous.proofs.nfa.tables.Tables.find.Goals as goal

pub returns-then-here-byte : goal.returns-then-here-byte
returns-then-here-byte c =
    let w = c.loop-low.invariant.within in
    let middle = c.loop-low.low + (c.loop-low.high - c.loop-low.low) / 2 in
    let here =
    read-at c.args.self.now.transitions.items no_transition (omega (arith, c.requires.within)) c.index.ensures in
    let next = read-at c.args.self.now.transitions.items no_transition (omega (arith, c.requires.within))
    c.index-then-here-byte.ensures in
    inl (middle, omega arith, omega arith, ap (λ t. t.byte) here ∙ c.if-here-byte.true, ap (λ t. t.next) (sym next))
