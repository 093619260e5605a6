-- A row leads where the byte does, and so do the words.
use Rattle.std.proofs.Common.{◌+◌, ◌<◌, [], ◌∷◌, length, refl, ap, ◌∙◌, arith}
use Rattle.std.specs.Prelude.{slice_index}
use Rattle.ac_input.specs.Alphabet.{class}
use Rattle.ac_automaton.proofs.automaton.NamedLemmas.{cost-looks}
use Rattle.ac_tables.specs.Contiguous.Reads.{contiguous_built_as, IsContiguousRead}
use Rattle.ac_tables.proofs.contiguous.NearLemmas.{near-leads, near-room}
use Rattle.ac_tables.proofs.contiguous.NFA.step_near.Goals as goal

pub next-requires-clause-within : goal.next-requires-clause-within
next-requires-clause-within c =
    let near = c.args.near.now in
    let len = near.len in
    let less : c.args.number < length near.trans.items =
    omega (arith, c.if-as_usize-len.true, c.as_usize.ensures.value, c.len.ensures) in
    let room = near-room c.args.self.now near c.args.number c.args.byte c.requires.held c.ranges.byte.fits
    (c.requires.number (omega (arith, less, len))) in
    let all = ap length c.deref.ensures.value in
    omega (arith, room, all)

pub returns-then-as_usize-len : goal.returns-then-as_usize-len
returns-then-as_usize-len c =
    let a = c.args.self.now in
    let near = c.args.near.now in
    let len = near.len in
    let less : c.args.number < length near.trans.items =
    omega (arith, c.if-as_usize-len.true, c.as_usize.ensures.value, c.len.ensures) in
    let both = near-leads a near c.args.number c.args.byte c.next.result c.requires.held c.ranges.byte.fits less
    (c.requires.number (omega (arith, less, len)))
    (c.next.ensures
    ∙ ap (λ trans. slice_index trans (c.args.number + class a.table.classes c.args.byte)) c.deref.ensures.value) in
    record {
      one = both.0;
      leads = both.1;
      cost = cost-looks (contiguous_built_as a) (IsContiguousRead a) (c.args.byte ∷ []) refl c.look.ensures;
    }
