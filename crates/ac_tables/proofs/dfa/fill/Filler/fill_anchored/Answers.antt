-- The transitions are written over a blank row.
use Rattle.std.proofs.Common.{length}
use Rattle.ac_input.specs.declared.search.Anchored.TheVariants.{Yes}
use Rattle.ac_tables.specs.Dfa.Fill.{row_plan_of}
use Rattle.ac_tables.proofs.dfa.CellLemmas.{row-anchored}
use Rattle.ac_tables.proofs.dfa.FilledLemmas.{row-space}
use Rattle.ac_tables.proofs.dfa.fill.Filler.fill_anchored.Goals as goal

pub write-requires-clause-room : goal.write-requires-clause-room
write-requires-clause-room c =
    row-space (row_plan_of c.args.self.now) Yes c.args.sid (length c.args.trans.now) c.args.self.now.fit
    c.requires.met.0.within c.requires.len

pub returns-clause-right : goal.returns-clause-right
returns-clause-right c =
    row-anchored (row_plan_of c.args.self.now) c.args.sid c.args.trans.now c.write.new.trans c.args.self.now.fit
    c.write.ensures.lead c.requires.met.0 c.requires.met.1 c.write.ensures.written.entries c.requires.blank
