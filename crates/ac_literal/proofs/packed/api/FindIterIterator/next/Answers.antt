-- The rest of the walk begins with the match that is found.
use Rattle.std.proofs.Common.{ap, sym, ◌∙◌, length, arith}
use Rattle.ac_literal.specs.Packed.{search_kind}
use Rattle.ac_literal.proofs.packed.NextLemmas.{walk-some, walk-none}
use Rattle.ac_literal.proofs.packed.api.FindIterIterator.next.Goals as goal

pub returns-in_err-found-clause-steps : goal.returns-in_err-found-clause-steps
returns-in_err-found-clause-steps c =
    let i = c.self.inside in
    let over = walk-none (search_kind i.searcher.now.kind) i.searcher.now.patterns i.haystack.now
    c.find_at_pace.ensures.served i.at c.in_err-found.ensures.best in
    rw c.from_residual.ensures (sym c.self.view_is ∙ over, over)

pub returns : goal.returns
returns c =
    let i = c.self.inside in
    let split = sym c.self.view_is
    ∙ walk-some (search_kind i.searcher.now.kind) i.searcher.now.patterns i.haystack.now c.find_at_pace.ensures.served
    c.in_ok-found.ensures.best in
    let longer = ap length split in
    record {
      steps = rw c.end-self-inside.ensures.value split;
      goes = rw c.end-self-inside.ensures.value
          (record { on = λ _. (tt, tt, omega arith); keeps = tt; rests = λ _. tt });
    }
