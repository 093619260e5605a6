-- The new file was made, but nothing was renamed.
use Rattle.std.proofs.Common.{[], ◌∷◌, ap, ◌∙◌, add-zero, subst}
use Rattle.acsub.specs.InPlace.{CreatesIn, FillsNew}
use Rattle.acsub.specs.Swap.{renames}
use Rattle.acsub.specs.declared.swap.Step.TheVariants.{Created}
use Rattle.acsub.proofs.swap.SwapLemmas.{renames-append}
use Rattle.acsub.proofs.in_place.replace_file.Goals as goal

pub returns : goal.returns
returns g c =
    let left =
    subst
    (FillsNew g.row.F.Denot g.F.File.Read.remaining g.F.File.Write.contents c.args.job.now c.in_ok-new.file
    (c.args.tally.now, c.create_in.new.swap) (c.fill.new.tally, c.fill.new.swap))
    c.in-Err.is c.fill.ensures
    in
    let made = subst (CreatesIn c.args.swap.now c.create_in.new.swap) c.in_ok-new.was c.create_in.ensures in
    record {
      counted = left.counted;
      stays = left.stays ∙ ap renames made ∙ renames-append c.args.swap.now.steps (Created ∷ [])
          ∙ add-zero (renames c.args.swap.now.steps);
    }
