-- The number is written before the byte, which stands last.
use Rattle.std.proofs.Common.{◌-◌, arith, length-set}
use Rattle.acsub.proofs.line.put_number.Goals as goal

pub write_digits-requires : goal.write_digits-requires
write_digits-requires c =
    (omega (arith, c.requires.room), omega (arith, length-set c.args.bytes.now (c.args.end - 1) c.args.last))
