pub mod SlotMoves
pub mod SlotSends
pub mod SlotSteps
