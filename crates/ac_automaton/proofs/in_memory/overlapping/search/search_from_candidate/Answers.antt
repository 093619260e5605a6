-- Nothing begins before the candidate, so what is shown from there is the first of what is left.
use Rattle.std.proofs.Common.{◌+◌, [], subst, sym, arith}
use Rattle.ac_input.specs.Computed.{listing_of}
use Rattle.ac_input.specs.Input.{search_of}
use Rattle.ac_input.specs.Occurrence.{starting_at}
use Rattle.ac_automaton.specs.InMemory.Overlapping.{ending_from}
use Rattle.ac_automaton.proofs.in_memory.overlapping.OverlappingStateLemmas.{read_to-start}
use Rattle.ac_automaton.proofs.lemmas.CandidateLemmas.{listing-none, listing-begins, over-reads, reads_on-earlier, candidate-read}
use Rattle.ac_automaton.proofs.in_memory.find.CountedLemmas.{skip-over, skip-read}
use Rattle.ac_automaton.proofs.in_memory.overlapping.search.search_from_candidate.Goals as goal

pub returns-in_default-clause-reads : goal.returns-in_default-clause-reads
returns-in_default-clause-reads g c =
    let a = c.args.automaton.now in
    let m = (g.A.Automaton.built a).dictionary in
    let asked = c.args.input.now in
    let s = search_of m asked.anchored asked.haystack asked.span in
    let t = starting_at s c.args.at in
    let none = listing-none t c.requires.inside (c.in_default.ensures.begins m c.requires.made) in
    over-reads (g.A.Automaton.Reaches a asked.anchored) (g.A.Automaton.matches a) m s c.args.at (listing_of t)
    c.over.result none c.over.ensures.found c.over.ensures.place

pub read_to_start-requires : goal.read_to_start-requires
read_to_start-requires g c =
    let a = c.args.automaton.now in
    let m = (g.A.Automaton.built a).dictionary in
    let asked = c.args.input.now in
    let from = c.in-Some.from in
    let before = c.in-Some.ensures.begins m c.requires.made in
    record {
      standard = c.requires.standard;
      cursor = record {
        behind = omega (arith, c.requires.from, before.behind);
        ordered = omega arith;
        within = before.within;
        inside = c.requires.inside;
        reads = subst (λ text. g.A.Automaton.Reaches a asked.anchored text c.args.start)
            (sym (read_to-start (starting_at (search_of m asked.anchored asked.haystack asked.span) from)))
            c.requires.starts;
      };
    }

pub returns-clause-reads : goal.returns-clause-reads
returns-clause-reads g c =
    let a = c.args.automaton.now in
    let m = (g.A.Automaton.built a).dictionary in
    let asked = c.args.input.now in
    let s = search_of m asked.anchored asked.haystack asked.span in
    let from = c.in-Some.from in
    let before = c.in-Some.ensures.begins m c.requires.made in
    let tells = g.met.A.Automaton.tells a asked.anchored [] c.args.start c.requires.starts in
    let left = listing-begins m asked c.args.at from (g.A.Automaton.matches a c.args.start) c.requires.standard
    c.requires.free c.requires.inside before tells c.requires.empty in
    reads_on-earlier (g.A.Automaton.Reaches a asked.anchored) (g.A.Automaton.matches a) m s c.args.at from
    (listing_of (starting_at s c.args.at)) (ending_from (starting_at s from) (from + 1)) c.read_to_start.result
    before.behind left c.read_to_start.ensures.reads

pub returns-clause-cost : goal.returns-clause-cost
returns-clause-cost g c =
    let a = c.args.automaton.now in
    let b = g.A.Automaton.built a in
    let asked = c.args.input.now in
    let s = search_of b.dictionary asked.anchored asked.haystack asked.span in
    let from = c.in-Some.from in
    let before = c.in-Some.ensures.begins b.dictionary c.requires.made in
    candidate-read (g.A.Automaton.Reaches a asked.anchored) (g.A.Automaton.matches a) b.dictionary b.deterministic s
    (ending_from (starting_at s from) (from + 1)) c.read_to_start.result c.requires.from
    c.requires.inside before c.in-Some.ensures.work c.read_to_start.ensures.reads c.read_to_start.ensures.pays
    c.read_to_start.ensures.only

pub returns-in_default-clause-counts : goal.returns-in_default-clause-counts
returns-in_default-clause-counts g c =
    let b = g.A.Automaton.built c.args.automaton.now in
    let from = c.requires.from in
    let to = c.requires.to in
    skip-over b c.args.input.now c.args.at c.args.prefilter c.over.result _ _ c.requires.free (omega arith)
    c.requires.own c.in_default.ensures.counts c.in_default.ensures.work.looked c.over.ensures.place

pub returns-clause-counts : goal.returns-clause-counts
returns-clause-counts g c =
    let b = g.A.Automaton.built c.args.automaton.now in
    skip-read b c.args.input.now c.args.at c.in-Some.from c.args.prefilter c.read_to_start.result _ _ _ c.requires.free
    c.requires.own c.in-Some.ensures.counts c.in-Some.ensures.work.looked c.read_to_start.ensures.only.scanned
    c.read_to_start.ensures.looks
