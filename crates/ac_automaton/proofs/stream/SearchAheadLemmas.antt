-- What a search over the held bytes pays, and what was read ahead of it, where it stops.
use Rattle.std.proofs.Common.{◌≡◌, ◌≢◌, ℕ, ◌+◌, ◌-◌, ◌≤◌, List, [], length, drop, Option, Some, ap, subst, arith, length-drop}
use Rattle.std.specs.Prelude.{if◌then◌else◌, unwrap_or}
use Rattle.ac_input.specs.Number.{StateID}
use Rattle.ac_input.specs.declared.search.Anchored.TheVariants.{No}
use Rattle.ac_input.specs.declared.search.MatchKind.TheVariants.{Standard}
use Rattle.ac_input.specs.declared.steps.Steps.{Steps}
use Rattle.ac_input.specs.Occurrence.{Occurrence}
use Rattle.ac_input.specs.Steps.{Done}
use Rattle.ac_automaton.specs.Ahead.{Settles, onward}
use Rattle.ac_automaton.specs.Automaton.{Built, has_some}
use Rattle.ac_automaton.specs.InMemory.Find.Cursor.{IsFirstAt}
use Rattle.ac_automaton.specs.InMemory.Find.Ahead.{IsAheadOf}
use Rattle.ac_automaton.specs.Stream.{StreamProgress, read_by, Picks}
use Rattle.ac_automaton.specs.Stream.Search.{IsHeldAt, Searched, SearchesOn, searched_anew}
use Rattle.ac_automaton.specs.Stream.Search.Walk.{IsAheadBy}
use Rattle.ac_automaton.specs.declared.ahead.Ahead.{Ahead}
use Rattle.ac_automaton.specs.declared.automaton.Automaton.{Ghosts}
use Rattle.ac_automaton.specs.declared.stream.search.Progress.{Progress}
use Rattle.ac_automaton.proofs.ahead.AheadLemmas.{ahead-elsewhere, ahead-over}
use Rattle.ac_automaton.proofs.automaton.PassLemmas.{matching-some}
use Rattle.ac_automaton.proofs.in_memory.find.ahead.FindAheadLemmas.{first-ends}

-- ---- what is paid

-- the looks made between two counts, after others
abbrev pub paid_on : Steps → Steps → Steps → Steps
paid_on paid before after =
    record paid
    { looked = record paid.looked { value = paid.looked.value + (after.looked.value - before.looked.value) } }

-- a search that begins with other counts makes the same looks
pub searches-from : (Reaches : List ℕ → StateID → Type 0) (s : StreamProgress Picks) (start : StateID) (r : Searched)
    (before after paid : Steps) → SearchesOn Reaches s start r before after
    → SearchesOn Reaches s start r paid (paid_on paid before after)
searches-from Reaches s start r before after paid on =
    let looked = on.done.looked in
    record {
      looks = on.looks;
      done = record { looked = omega (arith, looked); scanned = omega arith; moved = omega arith };
      closed = on.closed;
      from = on.from;
      finds = on.finds;
      stands = on.stands;
    }

-- looks that are made without notes are for the bytes passed
pub settles-on : (old new : Ahead) (looks : ℕ) (before after paid : Steps) → Settles old new before paid
    → Done looks 0 0 before after → Settles old new after (paid_on paid before after)
settles-on old new looks before after paid settles done =
    let a = settles.looked in
    let b = settles.scanned in
    let d = settles.moved in
    let e = done.looked in
    let f = done.scanned in
    let h = done.moved in
    record { looked = omega (arith, a, e); scanned = omega (arith, b, f); moved = omega (arith, d, h) }

-- ---- what was read ahead

module _ {S : Type 0} (A : Ghosts S) (a : S) (anew : Option StateID) (held : List ℕ) where
  -- what was read ahead of a search that stands here, said of the same place and state
  pub ahead-at : (at place : ℕ) (sid state : StateID) (ahead : Ahead) → at ≡ place → sid ≡ state
      → IsAheadOf A a anew held at sid ahead → IsAheadOf A a anew held place state ahead
  ahead-at at place sid state ahead same there is =
      subst (λ q. IsAheadOf A a anew held place q ahead) there
      (subst (λ n. IsAheadOf A a anew held n sid ahead) same is)

  -- Under a leftmost kind it is right wherever the search stands, and at the end of the bytes under standard too.
  pub ahead-anywhere : (at place : ℕ) (sid state : StateID) (ahead : Ahead)
      → ((A.built a).dictionary.kind ≡ Standard → at ≡ length held) → IsAheadOf A a anew held at sid ahead
      → IsAheadOf A a anew held place state ahead
  ahead-anywhere at place sid state ahead over is =
      let b = A.built a in
      let R = A.Reaches a No in
      let M = A.matches a in
      record {
        room = is.room;
        are = is.are;
        most = is.most;
        none = is.none;
        taken = λ standard.
            let none = (ahead-over standard (over standard) is).0 in
            (ahead-elsewhere anew place state none is).taken standard;
      }

  -- where the state doesn't match, the search goes on from it
  onward-same : (sid : StateID) → A.matches a sid ≡ [] → onward (A.matches a) anew sid ≡ sid
  onward-same sid none = ap (λ ns. if has_some ns then unwrap_or anew sid else sid) none

-- Where the state matches, the search begins anew at the match's end.
pub ahead-met : {S : Type 0} (A : Ghosts S) (a : S) (start : StateID) (p : Progress) (held : List ℕ) (taken : ℕ)
    (sid : StateID) (o : Occurrence) (ahead : Ahead)
    → p.from ≤ p.at → A.matches a sid ≢ [] → IsFirstAt (A.built a).dictionary (p.at + taken) (A.matches a sid) o
    → IsAheadOf A a (Some start) held (p.at - p.from + taken) (onward (A.matches a) (Some start) sid) ahead
    → IsAheadBy A a start held (searched_anew start p o).progress ahead
ahead-met A a start p held taken sid o ahead ordered matched first is =
    let end = first-ends (A.built a).dictionary (p.at + taken) (A.matches a sid) o first in
    ahead-at A a (Some start) held (p.at - p.from + taken) (o.end - p.from) (onward (A.matches a) (Some start) sid)
    start ahead (omega (arith, ordered, end))
    (ap (λ m. if m then start else sid) (matching-some (A.matches a sid) matched)) is

-- Where it doesn't, the search goes on from it.
pub ahead-on : {S : Type 0} (A : Ghosts S) (a : S) (start : StateID) (p : Progress) (held : List ℕ) (taken : ℕ)
    (sid : StateID) (ahead : Ahead)
    → p.from ≤ p.at → A.matches a sid ≡ []
    → IsAheadOf A a (Some start) held (p.at - p.from + taken) (onward (A.matches a) (Some start) sid) ahead
    → IsAheadOf A a (Some start) held (p.at + taken - p.from) sid ahead
ahead-on A a start p held taken sid ahead ordered none is =
    ahead-at A a (Some start) held (p.at - p.from + taken) (p.at + taken - p.from)
    (onward (A.matches a) (Some start) sid) sid ahead (omega (arith, ordered))
    (onward-same A a (Some start) held sid none) is

module _ (b : Built) (s : StreamProgress Picks) (Reaches : List ℕ → StateID → Type 0) (start : StateID) (p : Progress)
    (held : List ℕ) (is : IsHeldAt b Reaches s start p held) where
  -- the search stands among the held bytes
  pub held-ordered : p.from ≤ p.at
  held-ordered = omega (arith, is.from, is.at, is.stands.course.kept.1)

  -- where it has read all bytes that were left, it stands at the end of the held ones
  pub held-over : (taken : ℕ) → taken ≡ length (drop (p.at - p.from) held) → p.at - p.from + taken ≡ length held
  held-over taken all =
      let rest = length-drop (p.at - p.from) held in
      let bytes = ap length is.bytes in
      let before = length-drop s.from (read_by s) in
      omega (arith, all, rest, bytes, before, is.from, is.at, is.stands.course.kept.1, is.stands.course.ordered.1)
