-- Lists over streams: what a result says of what was read and written, and what is written for each item.
use Rattle.std.specs.Prelude.{ℕ, List, [], Option, Result}
use Rattle.std.proofs.Common.{refl}
use Rattle.ac_input.specs.Dictionary.{Dictionary}
use Rattle.ac_input.specs.Text.{line, listed}
use Rattle.ac_automaton.specs.Automaton.{Built}
use Rattle.ac_automaton.specs.Stream.{Decides, Sequence, items_of, room_of}
use Rattle.ac_automaton.specs.Stream.SinkLaws.{IsPiecewise}
use Rattle.ac_automaton.specs.Stream.Answer.{WritesStream}
use Rattle.ac_automaton.specs.Stream.Texts.{Texts}
use Rattle.ac_automaton.specs.declared.error.StreamError.{StreamError}
use Rattle.ac_automaton.specs.declared.stream.devices.watched.Watched.{Watched}
use Rattle.acsub.specs.Run.Transformed.{IsDecidedList}

-- a line for each item of a text
abbrev pub lines_of : Sequence → Dictionary → List ℕ → List ℕ
lines_of q m x = listed (items_of q m x)

-- what a list over a stream read and wrote, and its result; no piece was longer than the buffer
abbrev pub ListsStream : {R W : Type 0} → Sequence → (R → Option (List ℕ)) → (W → Option (List ℕ)) → Built
    → Watched R × Watched W → Watched R × Watched W → Result (Unit {0}) StreamError → Type 0
ListsStream q remaining contents b old new result =
    WritesStream remaining contents (room_of q b) (lines_of q b.dictionary)
    (λ x text. IsDecidedList (Decides q b.dictionary x) text) old.0 new.0 old.1 new.1 result

-- a line is made of each item, and nothing of the text
abbrev pub listing_lines : Texts
listing_lines = record { plain = λ bytes. []; made = λ before o. line o }

-- lines are made piece by piece
pub lines-piecewise : IsPiecewise listing_lines
lines-piecewise =
    record { none = refl; joins = λ bytes more. refl; precedes = λ bytes before o. refl }
