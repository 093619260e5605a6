-- Under standard nothing waits for the end.
use Rattle.std.proofs.Common.{◌≡◌, refl, sym, ◌∙◌}
use Rattle.ac_automaton.specs.Stream.{Occurrences, StreamProgress, may_wait}
use Rattle.ac_automaton.proofs.stream.SearchLemmas.{wait-standard}
use Rattle.ac_automaton.proofs.stream.overlapping.search.ListingSearchItemSearch.close.Goals as goal

pub returns-clause-closed : goal.returns-clause-closed
returns-clause-closed g c =
    let s : StreamProgress Occurrences = c.args.self.now in
    let standard = c.requires.course.standard refl in
    let waits : s.closed ≡ may_wait s.built.dictionary.kind = c.requires.course.unclosed standard
    ∙ sym (wait-standard s.built.dictionary.kind standard) in
    λ i. record s { closed = waits i }
