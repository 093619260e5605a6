-- No file was renamed before the last step.
use Rattle.std.proofs.Common.{◌∙◌, refl}
use Rattle.acsub.specs.declared.swap.Step.TheVariants.{Owned, Permitted, Renamed, Synced}
use Rattle.acsub.proofs.swap.SwapLemmas.{failed-renames, kept-renames}
use Rattle.acsub.proofs.in_place.place.Goals as goal

pub returns-then-is_err-2 : goal.returns-then-is_err-2
returns-then-is_err-2 g c =
    kept-renames Permitted c.keep_owner.new.swap c.permit.new.swap c.permit.result refl c.permit.ensures
    ∙ kept-renames Owned c.args.swap.now c.keep_owner.new.swap c.keep_owner.result refl c.keep_owner.ensures

pub returns-then-is_err-3 : goal.returns-then-is_err-3
returns-then-is_err-3 g c =
    kept-renames Synced c.permit.new.swap c.sync.new.swap c.sync.result refl c.sync.ensures
    ∙ kept-renames Permitted c.keep_owner.new.swap c.permit.new.swap c.permit.result refl c.permit.ensures
    ∙ kept-renames Owned c.args.swap.now c.keep_owner.new.swap c.keep_owner.result refl c.keep_owner.ensures

pub returns-in-Err : goal.returns-in-Err
returns-in-Err g c =
    failed-renames Renamed c.sync.new.swap c.rename.new.swap c.rename.result _ c.in-Err.is c.rename.ensures
    ∙ kept-renames Synced c.permit.new.swap c.sync.new.swap c.sync.result refl c.sync.ensures
    ∙ kept-renames Permitted c.keep_owner.new.swap c.permit.new.swap c.permit.result refl c.permit.ensures
    ∙ kept-renames Owned c.args.swap.now c.keep_owner.new.swap c.keep_owner.result refl c.keep_owner.ensures
