-- Each byte in turn gets a transition, or none.
use Rattle.std.proofs.Common.{◌≡◌, ◌≢◌, ◌+◌, get_or, true, false, slice_index, subst, sym, ap, ◌∙◌, arith}
use Rattle.std.proofs.lemmas.List.{get_or_default}
use Rattle.ac_noncontiguous.specs.Compiler.Layout.{AreAppended}
use Rattle.ac_noncontiguous.proofs.compiler.LayoutLemmas.{appended-push, appended-skip}
use Rattle.ac_noncontiguous.proofs.compiler.transitions.push_edges.Goals as goal
use Rattle.ac_noncontiguous.proofs.compiler.transitions.push_edges.Goals.{then-all+in_ok-push, then-all-via-then-all, then-all-via-else-all+then-as_usize-ne1, else-all+else-as_usize-ne1}

pub loop-byte-preserved : goal.loop-byte-preserved
loop-byte-preserved c =
    let edges = c.args.edges.now in
    let byte = c.loop-byte.byte in
    let old = c.args.transitions.now.items in
    let next = get_or edges byte c.index-edges-byte.result in
    let read : next ≡ slice_index edges byte =
    get_or_default edges byte c.index-edges-byte.result 0 (omega (arith, c.type_inv.edges)) in
    elim c.if-all.branch [
      | then-all+in_ok-push w ↦
          let some : c.args.all ≡ false → next ≢ 1 =
          elim w.then-all.branch [
            | then-all-via-then-all v ↦ λ part one. let whole : c.args.all ≡ true = v.if-all.true in cc
            | then-all-via-else-all+then-as_usize-ne1 v ↦
                λ part one. v.if-as_usize-ne1.true (v.as_usize.ensures.value ∙ one)
          ] in
          let items = ap (λ v. v.items) w.transitions-is ∙ w.in_ok-push.ensures.items in
          subst (λ xs. AreAppended edges c.args.all (byte + 1) old xs) (sym items)
          (appended-push read some c.loop-byte.invariant)
      | else-all+else-as_usize-ne1 w ↦
          let nowhere : slice_index edges byte ≡ 1 = sym read
          ∙ (sym w.as_usize.ensures.value ∙ w.if-as_usize-ne1.false) in
          subst (λ xs. AreAppended edges c.args.all (byte + 1) old xs) (sym (ap (λ v. v.items) w.transitions-is))
          (appended-skip nowhere w.if-all.false c.loop-byte.invariant)
    ]
