-- Under standard a search is never closed.
use Rattle.std.proofs.Common.{refl, sym}
use Rattle.ac_automaton.proofs.stream.overlapping.search.ListingSearchItemSearch.has_closed.Goals as goal

pub returns : goal.returns
returns g c = record { closed = sym (c.requires.course.unclosed (c.requires.course.standard refl)) }
