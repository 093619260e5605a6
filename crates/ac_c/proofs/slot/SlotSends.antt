-- What lies at a slot's pointer may go to another thread if the value may.
use base.Shift.{Keyless}
use mir.Raw.{raw}
use denote.Memory.{lone}
use denote.RattleType.{RattleType}
use denote.RawPtr.{Ptr}
use denote.Param.Send.{IsSend}
use Rattle.std.proofs.Crossing as heap
use Rattle.std.specs.Global.{Global}
use Rattle.std.specs.declared.option.Option.{Option}
use Rattle.std.specs.declared.option.Option.TheVariants.{None, Some}
use Rattle.std_alloc.proofs.SendSync.{lies}
use Rattle.ac_c.specs.Slot.{slot_owns}

pub slot-keyless : (R : RattleType) → IsSend R → (a : Global) (at : Ptr) (held : Option R.Denot)
    → Keyless (slot_owns R a at held)
slot-keyless R sends a at None = tt
slot-keyless R sends a at (Some x) = (lies R sends at x, heap.frees.frees a (raw (lone R.mir)) at)
