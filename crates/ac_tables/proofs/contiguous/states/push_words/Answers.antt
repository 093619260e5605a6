-- The words that are written are those of the state.
use Rattle.std.proofs.Common.{◌≡◌, ◌≢◌, ◌<◌, ◌∙◌, ℕ, map, slice_index, ap, sym, subst, arith}
use Rattle.std.specs.Prelude.{nat_lt}
use Rattle.std.specs.List.{All}
use Rattle.std.proofs.lemmas.List.{get_or_default}
use Rattle.std.proofs.lemmas.Result.{IfOk-weaker}
use Rattle.ac_noncontiguous.specs.Nfa.ReadCalls.{edges_in, fail_in, FailsIn, ListsIn}
use Rattle.ac_tables.specs.Contiguous.Table.{placed_edge}
use Rattle.ac_tables.specs.Contiguous.Build.{IsKnown}
use Rattle.ac_tables.proofs.contiguous.BuildLemmas.{read-fits, state-written}
use Rattle.ac_tables.proofs.contiguous.states.push_words.Goals as goal

pub push_state-requires : goal.push_state-requires
push_state-requires c =
    let nfa = c.args.nfa.now in
    let classes = c.args.classes.now in
    let places = c.args.places.now in
    let edges : c.deref.result.now ≡ map (placed_edge classes (slice_index places)) (edges_in nfa c.args.sid) =
    c.deref.ensures.value ∙ c.in_ok-read_edges.ensures.read in
    record {
      fits = subst (All (λ (edge : ℕ × ℕ). edge.0 < c.alphabet_len.result)) (sym edges)
          (read-fits nfa c.args.sid c.alphabet_len.result classes (slice_index places) c.alphabet_len.ensures.classes
          c.in_ok-read_edges.ensures.lead c.alphabet_len.ensures.value);
      few = c.match_list.ensures.lists.few;
    }

pub returns : goal.returns
returns c =
    let nfa = c.args.nfa.now in
    let sid = c.args.sid in
    let classes = c.args.classes.now in
    let places = c.args.places.now in
    let edges : c.deref.result.now ≡ map (placed_edge classes (slice_index places)) (edges_in nfa sid) =
    c.deref.ensures.value ∙ c.in_ok-read_edges.ensures.read in
    let stands : sid ≢ 1 = λ is. c.if-as_usize-eq-FAIL.false (c.as_usize.ensures.value ∙ is) in
    let known : IsKnown nfa sid = record {
      fails = subst (FailsIn nfa sid) c.fail.ensures.value c.fail.ensures.fails;
      edges = c.in_ok-read_edges.ensures.lead;
      lists = subst (ListsIn nfa sid) c.match_list.ensures.value c.match_list.ensures.lists;
    } in
    let fail_in_len = known.fails.within in
    let at = c.as_usize-2.ensures.value ∙ c.fail.ensures.value in
    let fail : c.index-places-as_usize.result ≡ slice_index places (fail_in nfa sid) =
    c.index-places-as_usize.is
    ∙ (get_or_default places c.as_usize-2.result c.index-places-as_usize.result 0
    (omega (arith, at, fail_in_len, c.requires.places.counted)) ∙ ap (slice_index places) at) in
    IfOk-weaker c.push_state.result _ _
    (λ _ h. state-written nfa c.args.depth sid c.alphabet_len.result c.index-places-as_usize.result classes places
    c.args.out.now.items c.push_state.new.words.items c.match_list.result.now c.deref.result.now
    (nat_lt c.depth.result c.args.depth) c.requires.places stands known c.alphabet_len.ensures.value
    (ap (λ k. nat_lt k c.args.depth) c.depth.ensures.value) fail edges c.match_list.ensures.value h)
    c.push_state.ensures
