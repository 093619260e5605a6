-- A handle owns what its slot owns, so it may go to another thread if the slot's value may.
use denote.Struct.Struct.{exits_of}
use denote.Struct.Owning.{shape, fields, to}
use denote.Param.Send.{IsSend, AllSend, owning_send, struct_send, sendable}
use Rattle.std_alloc.proofs.SendSync.{quiet}
use Rattle.std_heap.proofs.Global.TheSendSync as alloc
use Rattle.ac_c.specs.contracts.masking.Masking.{the_row as Value}
use Rattle.ac_c.proofs.masking.Masking.TheSendSync.{the_send as value}
use Rattle.ac_c.proofs.slot.SlotSends.{slot-keyless}
use Rattle.ac_c.specs.contracts.masker.Masker.{the_row, the_type}

pub send : IsSend the_row
send =
    let all : AllSend (fields the_type) = (search sendable, (alloc.the_field_send, tt)) in
    owning_send the_type all (λ d. slot-keyless Value value d.alloc d.at d.value)
    (λ k. quiet (to the_type) (exits_of k (fields the_type)) ((struct_send (shape the_type) all).leaving k))
