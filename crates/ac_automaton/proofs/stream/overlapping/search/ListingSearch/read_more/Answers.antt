-- The bytes of a read lie at the front of the buffer, after the bytes read before.
use Rattle.std.proofs.lemmas.Grind.{common_steps}
use Rattle.std.proofs.Common.{◌-◌, ◌∙◌, ◌∷◌, ◌++◌, [], ap, append-nil, nat_lt, refl, subst, sym, take, arith}
use Rattle.std.specs.List.{concat}
use Rattle.ac_input.specs.Number.{usize_max}
use Rattle.ac_automaton.specs.Stream.{CanBeCounted, HasRead, IsSearched}
use Rattle.ac_automaton.proofs.stream.StreamListingSearchLemmas.{HasReading, listed_by, read_to, reading-on, reading-test}
use Rattle.ac_automaton.proofs.stream.overlapping.search.ListingSearch.read_more.Given.{Over}
use Rattle.ac_automaton.proofs.stream.overlapping.search.ListingSearch.read_more.Goals as goal
use Rattle.ac_automaton.proofs.stream.overlapping.search.ListingSearch.read_more.Goals.{After-and-self-inside-2}
use Rattle.ac_automaton.specs.declared.stream.overlapping.search.ListingSearch.TheInside.{Inside}

-- the read failed
failed : (g : Over) (c : goal.After-self-in-Err-1 g)
    → HasReading g.A.Automaton g.R.Read.remaining c.self.inside
    (read_to c.self.inside c.and-self-inside.result.items c.fill.new.bytes 0 c.self.inside.over c.forget.new.self)
    c.args.reader.now c.fill.new.reader [] 1
failed g c =
    let i = c.self.inside in
    let inv = c.self.invariant in
    let none = append-nil (concat i.pieces.items) in
    reading-on g.A.Automaton i c.and-self-inside.result.items c.fill.new.bytes 0 i.over inv (subst IsSearched
    (sym c.self.view_is) c.requires.searched)
    c.forget.ensures c.in-Err.ensures.fills refl (omega arith) c.and-self-inside.ensures c.fill.ensures.len (
      λ e. subst CanBeCounted (sym none) (inv.1.countable e),
      λ e. subst (λ l. ¬ CanBeCounted l) (sym none) (inv.1.uncountable e),
    )

pub invariant_of-self : goal.invariant_of-self
invariant_of-self g c = (failed g c).kept

pub returns-in-Err-clause-read : goal.returns-in-Err-clause-read
returns-in-Err-clause-read g c =
    subst (λ t. HasRead g.R.Read.remaining t
    (listed_by g.A.Automaton
    (read_to c.self.inside c.and-self-inside.result.items c.fill.new.bytes 0 c.self.inside.over c.forget.new.self))
    c.args.reader.now c.fill.new.reader [] 1) c.self.view_is (failed g c).read

pub returns-in-Err-clause-kept : goal.returns-in-Err-clause-kept
returns-in-Err-clause-kept g c = (failed g c).kept.0

-- what the search keeps after it read some bytes
abbrev after : (g : Over) → After-and-self-inside-2 g → Inside g.row.A.Denot
after g c =
    read_to c.self.inside c.and-self-inside-2.result.items c.fill.new.bytes c.in-Ok.n
    (nat_lt (usize_max - c.self.inside.place.at) c.in-Ok.n) c.forget.new.self

-- the read returned some bytes
gave : (g : Over) (c : After-and-self-inside-2 g)
    → HasReading g.A.Automaton g.R.Read.remaining c.self.inside (after g c) c.args.reader.now c.fill.new.reader
    (take c.in-Ok.n c.fill.new.bytes.items) 0
gave g c =
    let i = c.self.inside in
    let searched : IsSearched (listed_by g.A.Automaton i) = subst IsSearched (sym c.self.view_is) c.requires.searched in
    let filled = c.in-Ok.ensures.fills in
    let n = c.in-Ok.n in
    reading-on g.A.Automaton i c.and-self-inside-2.result.items c.fill.new.bytes n (nat_lt
    (usize_max - i.place.at) n) c.self.invariant searched
    c.forget.ensures filled.read filled.count (omega (arith, filled.fits, c.fill.ensures.len))
    (c.and-self-inside-2.ensures ∙ ap (λ l. i.pieces.items ++ take n l ∷ []) c.as_slice.ensures.value)
    c.fill.ensures.len
    (reading-test (concat i.pieces.items) (take n c.fill.new.bytes.items) i.place.at n (omega arith) searched
    filled.count)

-- so it does, by how far the search had come
has-read : (g : Over) (c : After-and-self-inside-2 g)
    → HasRead g.R.Read.remaining c.args.self.now (listed_by g.A.Automaton (after g c)) c.args.reader.now
    c.fill.new.reader (take c.in-Ok.n c.fill.new.bytes.items) 0
has-read g c =
    subst (λ t. HasRead g.R.Read.remaining t (listed_by g.A.Automaton (after g c)) c.args.reader.now c.fill.new.reader
    (take c.in-Ok.n c.fill.new.bytes.items) 0) c.self.view_is (gave g c).read

pub invariant_of-self-then-self : goal.invariant_of-self-then-self
invariant_of-self-then-self g c = (gave g (goal.at.invariant_of-self-then-self g c).After-and-self-inside-2).kept

pub returns-then-self-clause-read : goal.returns-then-self-clause-read
returns-then-self-clause-read g c =
    let d = (goal.at.returns-then-self-clause-read g c).After-and-self-inside-2 in
    (take c.in-Ok.n c.fill.new.bytes.items, has-read g d, (gave g d).kept.1.uncountable c.if-self.true)

pub returns-then-self-clause-kept : goal.returns-then-self-clause-kept
returns-then-self-clause-kept g c =
    (gave g (goal.at.returns-then-self-clause-kept g c).After-and-self-inside-2).kept.0

pub invariant_of-self-2 : goal.invariant_of-self-2
invariant_of-self-2 g c = (gave g (goal.at.invariant_of-self-2 g c).After-and-self-inside-2).kept

pub returns-clause-read : goal.returns-clause-read
returns-clause-read g c =
    let d = (goal.at.returns-clause-read g c).After-and-self-inside-2 in (
      take c.in-Ok.n c.fill.new.bytes.items,
      has-read g d,
      c.in-Ok.ensures.fills.count,
      (gave g d).kept.1.countable c.if-self.false,
    )

pub returns-clause-kept : goal.returns-clause-kept
returns-clause-kept g c = (gave g (goal.at.returns-clause-kept g c).After-and-self-inside-2).kept.0

pub forget-requires : goal.forget-requires
forget-requires g c = grind (arith, common_steps)

pub fill-requires-clause-room : goal.fill-requires-clause-room
fill-requires-clause-room g c = grind (arith, common_steps)

pub fill-requires-clause-open : goal.fill-requires-clause-open
fill-requires-clause-open g c = grind (arith, common_steps)

pub returns-in-Err-clause-steps : goal.returns-in-Err-clause-steps
returns-in-Err-clause-steps g c = grind (arith, common_steps)

pub slice_bounds-and-end-2 : goal.slice_bounds-and-end-2
slice_bounds-and-end-2 g c = grind (arith, common_steps)

pub overflow_sub-self : goal.overflow_sub-self
overflow_sub-self g c = grind (arith, common_steps)

pub returns-then-self-clause-steps : goal.returns-then-self-clause-steps
returns-then-self-clause-steps g c = grind (arith, common_steps)

pub returns-clause-steps : goal.returns-clause-steps
returns-clause-steps g c = grind (arith, common_steps)
