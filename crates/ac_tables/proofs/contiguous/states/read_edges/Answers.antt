-- One more transition is read.
use Rattle.std.proofs.Common.{◌∙◌, length, slice_index, ap, sym, subst, arith}
use Rattle.std.proofs.lemmas.List.{get_or_default}
use Rattle.ac_noncontiguous.specs.Nfa.ReadCalls.{edges_in}
use Rattle.ac_tables.proofs.contiguous.BuildLemmas.{left-first, read-more, AreReadTo}
use Rattle.ac_tables.proofs.contiguous.states.read_edges.Goals as goal

pub bounds-places-as_usize : goal.bounds-places-as_usize
bounds-places-as_usize c =
    let edges = edges_in c.args.nfa.now c.args.sid in
    let first = left-first edges (length c.loop-byte.edges.items) (c.in-Some.byte, c.in-Some.next) c.next.new.self
    (sym c.in-Some.ensures.steps ∙ c.loop-byte.invariant.rest) in
    let within = c.iter_trans-byte-items.ensures.lead.within (length c.loop-byte.edges.items) c.in-Some.byte
    c.in-Some.next first.1 in
    let next = within.1 in
    omega (arith, next, c.as_usize.ensures.value, c.requires.places)

pub loop-byte-preserved : goal.loop-byte-preserved
loop-byte-preserved c =
    let places = c.args.places.now in
    let edges = edges_in c.args.nfa.now c.args.sid in
    let first = left-first edges (length c.loop-byte.edges.items) (c.in-Some.byte, c.in-Some.next) c.next.new.self
    (sym c.in-Some.ensures.steps ∙ c.loop-byte.invariant.rest) in
    let within = c.iter_trans-byte-items.ensures.lead.within (length c.loop-byte.edges.items) c.in-Some.byte
    c.in-Some.next first.1 in
    let next = within.1 in
    let at = c.index-places-as_usize.result in
    let is_at = c.index-places-as_usize.is
    ∙ (get_or_default places c.as_usize.result at 0 (omega (arith, next, c.as_usize.ensures.value, c.requires.places))
    ∙ ap (slice_index places) c.as_usize.ensures.value) in
    subst (λ es. AreReadTo c.args.classes.now (slice_index places) edges (length es) es c.next.new.self)
    (sym c.in_ok-push.ensures.items)
    (read-more c.args.classes.now (slice_index places) edges c.loop-byte.edges.items c.loop-byte.byte-iterator
    c.next.new.self c.in-Some.byte c.in-Some.next c.get.result at c.loop-byte.invariant c.in-Some.ensures.steps
    c.get.ensures.value is_at)
