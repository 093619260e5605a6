-- An occurrence begins where a pattern opens, and no place that has enough bytes after it is left for one.
use Rattle.std.proofs.Common.{ℕ, ◌+◌, ◌-◌, ◌≤◌, List, length, arith}
use Rattle.std.proofs.lemmas.Bool.{ltb-true}
use Rattle.ac_input.specs.Dictionary.{Dictionary}
use Rattle.ac_input.specs.Opening.{HasNoOccurrence, IsOpening}
use Rattle.ac_input.proofs.lemmas.OpeningLemmas.{occurs-opens, opening-within}
use Rattle.ac_literal.specs.declared.openings.Openings.{Openings}
use Rattle.ac_literal.specs.Openings.{AreOpenings}
use Rattle.ac_literal.proofs.openings.Openings.rule_out.Goals as goal

-- where no pattern opens at a place that has enough bytes after it, none occurs
none-occurs : (openings : Openings) (bytes : List ℕ) (m : Dictionary) → AreOpenings m openings
    → ((at : ℕ) → at + openings.len ≤ length bytes → ¬ IsOpening m openings.len bytes at) → HasNoOccurrence m bytes
none-occurs openings bytes m are none o occurs =
    let wide = openings.wide in
    let opens = occurs-opens m openings.len bytes o are.short occurs in
    none o.start (opening-within m openings.len bytes o.start (omega (arith, wide)) are.short opens) opens

pub returns-then-bytes-self : goal.returns-then-bytes-self
returns-then-bytes-self c says m are =
    let less = c.if-bytes-self.true in
    none-occurs c.args.self.now c.args.bytes.now m are (λ at room opens. absurd (omega (arith, room, less)))

pub returns-else-bytes-self : goal.returns-else-bytes-self
returns-else-bytes-self c says m are =
    let past = ltb-true (length c.args.bytes.now - c.args.self.now.len) c.pass.result says in
    let wide = c.args.self.now.wide in
    none-occurs c.args.self.now c.args.bytes.now m are
    (λ at room. c.pass.ensures.passed m are at (omega (arith, room, past, wide)))
