-- The new file has the text of the whole run, and took the old one's place.
use Rattle.std.proofs.Common.{sym, ap, ◌∙◌, subst}
use Rattle.acsub.specs.InPlace.{Places, WritesFile}
use Rattle.acsub.proofs.in_place.fill.Goals as goal

pub returns-in-Ok-place : goal.returns-in-Ok-place
returns-in-Ok-place g c = (
  record {
    opened = c.in_ok-output.output;
    closed = c.write_text-written.new.output;
    watched = c.in_ok-output.ensures;
    left = sym (c.into_inner-file.ensures ∙ ap (λ m. m.inner) c.into_inner.ensures);
    ran =
        subst
        (WritesFile g.row.F.Denot g.F.File.Read.remaining g.F.File.Write.contents c.args.job.now
        (c.in_ok-output.output, c.args.tally.now) (c.write_text-written.new.output, c.write_text-written.new.tally))
        c.in_ok-written.was c.write_text-written.ensures;
  },
  subst (Places c.args.swap.now c.place.new.swap) c.in-Ok-place.is c.place.ensures,
)
