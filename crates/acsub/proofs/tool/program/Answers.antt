-- The status is that of the tool over the words, or of the fault that kept them from being collected.
use Rattle.std.proofs.Common.{inl, inr, refl, sym, ◌∙◌, ⊎_elim}
use Rattle.acsub.proofs.tool.OutcomeLemmas.{ends-collected, ends-uncollected, speaks-collected, told-nonzero}
use Rattle.acsub.proofs.tool.program.Goals as goal
use Rattle.acsub.proofs.tool.program.Goals.{in-Ok, in-Err+in-Words-1, in-Err+in-OwnRules-1}

pub returns-clause-ended : goal.returns-clause-ended
returns-clause-ended g c = elim c.match-collect.branch [
  | in-Ok w ↦
      let ended = rw w.as_slice.ensures.value at w.tool-status.ensures.ended in
      rw (w.reader-is, w.writer-is, w.errors-is, c.from.ensures, w.status-is)
      (ends-collected g.row.F.Denot g.F.File.Read.remaining g.F.File.Write.contents g.R.Read.remaining g.W.Write.contents
      (c.args.reader.now, c.args.writer.now, c.args.errors.now)
      (w.tool-status.new.reader, w.tool-status.new.writer, w.tool-status.new.errors) w.tool-status.result
      c.args.words w.in-Ok.words w.in-Ok.ensures ended)
  | in-Err+in-Words-1 w ↦
      rw (w.reader-is, w.writer-is, c.from.ensures, w.status-is)
      (ends-uncollected g.row.F.Denot g.F.File.Read.remaining g.F.File.Write.contents g.R.Read.remaining g.W.Write.contents
      (c.args.reader.now, c.args.writer.now, c.args.errors.now) (c.args.reader.now, c.args.writer.now, _)
      w.tell-status.result c.args.words w.in-Err.why w.in-Err.ensures w.tell-status.ensures refl refl)
  | in-Err+in-OwnRules-1 w ↦
      rw (w.reader-is, w.writer-is, c.from.ensures, w.status-is)
      (ends-uncollected g.row.F.Denot g.F.File.Read.remaining g.F.File.Write.contents g.R.Read.remaining g.W.Write.contents
      (c.args.reader.now, c.args.writer.now, c.args.errors.now) (c.args.reader.now, c.args.writer.now, _)
      w.tell-status.result c.args.words w.in-Err.why w.in-Err.ensures w.tell-status.ensures refl refl)
]

-- Where something is said at status 0, the words that were collected ask for it.
pub returns-clause-quiet : goal.returns-clause-quiet
returns-clause-quiet g c = elim c.match-collect.branch [
  | in-Ok w ↦ λ zero.
      ⊎_elim (λ same. inl (w.errors-is ∙ same))
      (λ speaks. inr (speaks-collected c.args.words w.in-Ok.words w.in-Ok.ensures speaks))
      (rw w.as_slice.ensures.value at w.tool-status.ensures.quiet (sym w.status-is ∙ sym c.from.ensures ∙ zero))
  | in-Err+in-Words-1 w ↦ λ zero. absurd (told-nonzero w.in-Err.why (sym w.tell-status.ensures ∙ sym w.status-is ∙ sym c.from.ensures ∙ zero))
  | in-Err+in-OwnRules-1 w ↦ λ zero. absurd (told-nonzero w.in-Err.why (sym w.tell-status.ensures ∙ sym w.status-is ∙ sym c.from.ensures ∙ zero))
]
