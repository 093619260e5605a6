-- Which of two states is filled next.
use Rattle.std.proofs.Common.{◌≡◌, ap, ◌∙◌, arith}
use Rattle.std.proofs.lemmas.Bool.{leb-true, leb-false}
use Rattle.ac_noncontiguous.specs.Nfa.ReadCalls.{depth_in}
use Rattle.ac_tables.proofs.dfa.fill.Filler.is_first_next.Goals as goal

pub must-requires-2 : goal.must-requires-2
must-requires-2 c =
    omega (
      arith,
      c.requires.high,
      c.state_len.ensures.value,
      c.state_len.ensures.counted.few,
      c.if-high-state_len.false,
    )

pub depth-requires-2 : goal.depth-requires-2
depth-requires-2 c =
    omega (arith, c.requires.high, c.state_len.ensures.value, c.if-high-state_len.false, c.must-2.ensures)

pub returns : goal.returns
returns c =
    let nfa = c.args.self.now.nfa.now in
    let d : c.depth.result ≡ depth_in nfa c.args.low = c.depth.ensures.value ∙ ap (depth_in nfa) c.must.ensures in
    let e : c.depth-2.result ≡ depth_in nfa c.args.high = c.depth-2.ensures.value
    ∙ ap (depth_in nfa) c.must-2.ensures in
    record {
      yes = λ yes. (
        omega (arith, c.requires.low, c.if-low-as_usize.false, c.as_usize.ensures.value),
        λ _. let le = leb-true c.depth.result c.depth-2.result yes in omega (arith, le, d, e),
      );
      no = λ no. (
        omega (arith, c.requires.high, c.state_len.ensures.value, c.if-high-state_len.false),
        λ _. let lt = leb-false c.depth.result c.depth-2.result no in omega (arith, lt, d, e),
      );
    }
