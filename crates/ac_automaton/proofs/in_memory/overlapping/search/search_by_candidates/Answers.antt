-- What is shown after several candidates is the first of what was left before them.
use Rattle.std.proofs.Common.{◌-◌, sym, arith}
use Rattle.ac_input.specs.Computed.{listing_of}
use Rattle.ac_input.specs.Input.{search_of}
use Rattle.ac_input.specs.Occurrence.{starting_at}
use Rattle.ac_automaton.specs.declared.in_memory.find.cursor.End.TheVariants.{Found}
use Rattle.ac_automaton.specs.Automaton.{prefilter_for}
use Rattle.ac_automaton.proofs.in_memory.find.CountedLemmas.{counted-join, counted-none}
use Rattle.ac_automaton.proofs.lemmas.CandidateLemmas.{searched_on-first, searched_on-further, searched_on-shows, reads_on-earlier}
use Rattle.ac_automaton.proofs.in_memory.overlapping.search.search_by_candidates.Goals as goal

pub loop-shown-init : goal.loop-shown-init
loop-shown-init g c =
    let b = g.A.Automaton.built c.args.automaton.now in (
      searched_on-first _
          (search_of b.dictionary c.args.input.now.anchored c.args.input.now.haystack c.args.input.now.span) c.args.at
          c.args.steps.now c.requires.to,
      counted-none (prefilter_for b c.args.input.now.anchored) (c.args.at - c.args.at) c.args.steps.now (omega arith),
    )

pub search_from_candidate-requires : goal.search_from_candidate-requires
search_from_candidate-requires g c = record {
  standard = c.requires.standard;
  made = c.requires.made;
  own = c.requires.own;
  free = c.requires.free;
  starts = c.requires.starts;
  empty = c.requires.empty;
  from = omega (arith, c.requires.from, c.loop-shown.invariant.0.behind);
  to = c.loop-shown.invariant.0.within;
  inside = c.requires.inside;
}

pub returns-in-Found-clause-reads : goal.returns-in-Found-clause-reads
returns-in-Found-clause-reads g c =
    let searched_on = c.loop-shown.invariant.0 in
    let a = c.args.automaton.now in
    let s = search_of (g.A.Automaton.built a).dictionary c.args.input.now.anchored c.args.input.now.haystack
    c.args.input.now.span in
    reads_on-earlier (g.A.Automaton.Reaches a c.args.input.now.anchored) (g.A.Automaton.matches a)
    (g.A.Automaton.built a).dictionary s c.args.at c.loop-shown.place (listing_of (starting_at s c.args.at))
    (listing_of (starting_at s c.loop-shown.place)) (Found c.in-Found.shown) searched_on.behind (sym searched_on.same)
    c.in-Found.ensures.reads

pub returns-in-Found-clause-cost : goal.returns-in-Found-clause-cost
returns-in-Found-clause-cost g c =
    searched_on-shows _ _ c.in-Found.shown c.loop-shown.invariant.0 c.in-Found.ensures.reads c.in-Found.ensures.cost

pub returns-in-Found-clause-counts : goal.returns-in-Found-clause-counts
returns-in-Found-clause-counts g c =
    counted-join _ _ _ _ _ _ _ (omega arith) c.loop-shown.invariant.1 c.in-Found.ensures.counts

pub loop-shown-smaller : goal.loop-shown-smaller
loop-shown-smaller g c =
    omega (arith, c.in-Idle.ensures.reads)

pub loop-shown-preserved : goal.loop-shown-preserved
loop-shown-preserved g c = (
  searched_on-further (g.A.Automaton.Reaches c.args.automaton.now c.args.input.now.anchored) _ c.in-Idle.to
      c.loop-shown.invariant.0 c.in-Idle.ensures.reads c.in-Idle.ensures.cost,
  counted-join _ (c.loop-shown.place - c.args.at) (c.in-Idle.to - c.loop-shown.place) (c.in-Idle.to - c.args.at) _ _ _
      (omega arith) c.loop-shown.invariant.1 c.in-Idle.ensures.counts,
)
