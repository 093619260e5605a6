pub use Rattle.ac_input.specs.Best
pub use Rattle.ac_input.specs.Computed
pub use Rattle.ac_input.specs.Dictionary
pub use Rattle.ac_input.specs.Dfa
pub use Rattle.ac_input.specs.Input
pub use Rattle.ac_input.specs.Listing
pub use Rattle.ac_input.specs.Mask
pub use Rattle.ac_input.specs.Occurrence
pub use Rattle.ac_input.specs.Pairing
pub use Rattle.ac_input.specs.Same
pub use Rattle.ac_input.specs.Steps
pub use Rattle.ac_input.specs.Text
pub use Rattle.ac_input.specs.Walk
pub use Rattle.ac_input.specs.Word
pub use Rattle.ac_input.specs.Work
pub use Rattle.ac_literal.specs.Packed
pub use Rattle.ac_automaton.specs.Automaton
pub use Rattle.ac_automaton.specs.InMemory.Items
pub use Rattle.ac_automaton.specs.InMemory.Iter
pub use Rattle.ac_automaton.specs.InMemory.Overlapping
pub use Rattle.ac_automaton.specs.InMemory.Overlapping.OverlappingIter
pub use Rattle.ac_automaton.specs.InMemory.Replace
pub use Rattle.ac_automaton.specs.InMemory.Words
pub use Rattle.ac_automaton.specs.Masking
pub use Rattle.ac_automaton.specs.Masking.Words as WordMask
pub use Rattle.ac_automaton.specs.Masking.Words.Pushed as PushedWordMask
pub use Rattle.ac_automaton.specs.Masking.Words.Stream as StreamWordMask
pub use Rattle.ac_automaton.specs.Stream
pub use Rattle.ac_automaton.specs.Stream.Iter as StreamIter
pub use Rattle.ac_automaton.specs.Stream.Answer as StreamAnswer
pub use Rattle.ac_automaton.specs.Stream.Mask as StreamMask
pub use Rattle.ac_automaton.specs.Stream.Overlapping as StreamOverlapping
pub use Rattle.ac_automaton.specs.Stream.Pump as StreamPump
pub use Rattle.ac_automaton.specs.Stream.Replace as StreamReplace
pub use Rattle.ac_automaton.specs.Stream.ReplaceWith as StreamReplaceWith
pub use Rattle.ac_automaton.specs.Stream.WholeWords as StreamWords
pub use Rattle.ac_automaton.specs.Stream.Devices.Watched
pub mod Engine
pub mod EngineLaws
pub mod AhoCorasick
pub mod Callers
pub mod Replaced
pub mod Streamed
pub mod Builder
pub mod Made
pub mod Served
pub mod Laws
