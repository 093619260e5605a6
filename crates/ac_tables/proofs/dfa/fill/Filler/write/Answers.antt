-- One transition after another is written.
use Rattle.std.proofs.Common.{◌≡◌, [], ◌∷◌, ◌++◌, ◌+◌, length, slice_set, subst, arith}
use Rattle.ac_input.specs.Alphabet.{class}
use Rattle.ac_noncontiguous.specs.Nfa.ReadCalls.{edges_in}
use Rattle.ac_tables.specs.Dfa.Filling.{number_in, AreWritten}
use Rattle.ac_tables.specs.Dfa.Fill.{row_plan_of}
use Rattle.ac_tables.proofs.dfa.WriteLemmas.{written-more, item-at, items-on}
use Rattle.ac_tables.proofs.dfa.fill.Filler.write.Goals as goal

pub entry-requires : goal.entry-requires
entry-requires c =
    let at = item-at (edges_in c.args.self.now.nfa.now c.args.sid) c.loop-byte.yielded c.loop-byte.byte-iterator
    c.next.new.self (c.in-Some.byte, c.in-Some.next) c.loop-byte.invariant.items c.in-Some.ensures.steps in
    (c.iter_trans-byte-items.ensures.lead.within (length c.loop-byte.yielded) c.in-Some.byte c.in-Some.next at).1

pub loop-byte-preserved : goal.loop-byte-preserved
loop-byte-preserved c =
    let f = c.args.self.now in
    let p = row_plan_of f in
    let edges = edges_in f.nfa.now c.args.sid in
    let at = item-at edges c.loop-byte.yielded c.loop-byte.byte-iterator c.next.new.self
    (c.in-Some.byte, c.in-Some.next) c.loop-byte.invariant.items c.in-Some.ensures.steps in
    let small =
    (c.iter_trans-byte-items.ensures.lead.within (length c.loop-byte.yielded) c.in-Some.byte c.in-Some.next at).0 in
    let row = number_in p c.args.anchored c.args.sid in
    let place : row + class f.classes.now c.in-Some.byte ≡ c.place-row.result + c.get.result =
    omega (arith, c.place-row.ensures, c.get.ensures.value) in
    let more = written-more p c.args.anchored row c.in-Some.byte c.in-Some.next c.entry.result c.loop-byte.yielded
    c.args.trans.now c.loop-byte.trans (f.fit.letters c.in-Some.byte small) c.requires.room c.entry.ensures
    c.loop-byte.invariant.written in
    record {
      can_next = tt;
      is_finite = tt;
      items = items-on edges c.loop-byte.yielded c.loop-byte.byte-iterator c.next.new.self
          (c.in-Some.byte, c.in-Some.next) c.loop-byte.invariant.items c.in-Some.ensures.steps;
      written =
          subst (λ n. AreWritten p c.args.anchored row (c.loop-byte.yielded ++ (c.in-Some.byte, c.in-Some.next) ∷ [])
          c.args.trans.now (slice_set c.loop-byte.trans n c.entry.result)) place more;
    }
