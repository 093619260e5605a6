-- At most as many states are chosen as there are.
use Rattle.std.proofs.Common.{◌≡◌, ◌+◌, true, false, length, refl, ap, arith, ◌∙◌, length-append}
use Rattle.std.proofs.lemmas.List.Filters.{length-filter_both}
use Rattle.ac_noncontiguous.specs.Links.{by_state}
use Rattle.ac_noncontiguous.specs.Compiler.Numbering.{is_chosen, chosen}
use Rattle.ac_noncontiguous.proofs.compiler.numbering.list.Goals as goal

pub must-start-requires : goal.must-start-requires
must-start-requires c =
    let ranges = (by_state c.args.links.now.ranges) in
    let states = c.args.states.now in
    let both = length-filter_both (is_chosen ranges true) (is_chosen ranges false) (λ _. refl) states in
    let long : length c.push_chosen.new.at.items ≡ length c.push-2.new.self.items + length (chosen ranges true states) =
    ap length c.in_ok-push_chosen.ensures ∙ length-append c.push-2.new.self.items (chosen ranges true states) in
    omega (arith, c.in_ok-push-2.ensures.len, c.in_ok-push.ensures.len, c.in_ok-at.ensures.len, c.len.ensures)
