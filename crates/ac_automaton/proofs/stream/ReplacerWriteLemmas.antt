-- What a replacement over a stream has written, slice by slice.
use Rattle.std.proofs.Common.{ℕ, ◌-◌, ◌<◌, true, false, List, [], ◌++◌, length, Option, Ok, Err, refl, sym, ap, subst, ◌∙◌, arith, append_assoc, append-nil}
use Rattle.std.specs.List.{concat}
use Rattle.ac_input.specs.declared.steps.Steps.{Steps}
use Rattle.ac_automaton.specs.Stream.{CanBeCounted, Picks, ReadsNothing, StreamCounts, StreamProgress, read_by}
use Rattle.ac_automaton.specs.Stream.Devices.Output.{Sent}
use Rattle.ac_automaton.specs.Stream.Replacer.{HandsOut, ReplacerProgress, handed_out}
use Rattle.ac_automaton.specs.Stream.ReplacerWrite.{WritesNext, WritesText}
use Rattle.ac_automaton.specs.declared.error.StreamError.{StreamError}
use Rattle.ac_automaton.specs.declared.stream.devices.watched.Watched.{Watched}
use Rattle.ac_automaton.proofs.stream.PlacedLemmas.{ReadsNothing-then}
use Rattle.ac_automaton.proofs.stream.StreamCountLemmas.{StreamCounts-none, StreamCounts-then}
use Rattle.ac_automaton.proofs.stream.devices.OutputLemmas.{Sends-then, Sent-none, Sent-then}

-- a search that makes no step reads nothing
pub stays : (s : StreamProgress Picks) → ReadsNothing s s
stays s =
    record { on = λ standard. omega arith; last = omega arith; closed = refl; built = refl; pieces = refl; from = refl }

-- bytes handed out in two steps, one after the other
pub hands-then : (r t u : ReplacerProgress) (replacements : List (List ℕ)) (bytes more : List ℕ)
    → HandsOut r t replacements bytes → HandsOut t u replacements more → HandsOut r u replacements (bytes ++ more)
hands-then r t u replacements bytes more a b = record {
  same = ReadsNothing-then r.search t.search u.search a.same b.same;
  finished = b.finished ∙ a.finished;
  text = b.text ∙ ap (λ x. x ++ more) a.text ∙ append_assoc (handed_out r replacements) bytes more;
}

module _ {W : Type 0} (contents : W → Option (List ℕ)) (replacements : List (List ℕ)) where
  -- These bytes were handed out and written in between.
  pub record HasWrittenOut (r t : ReplacerProgress) (w0 w : Watched W) (s0 s : Steps) : Type 0 where
    pub bytes : List ℕ
    pub hands : HandsOut r t replacements bytes
    pub sent : Sent contents w0 w [] [] bytes
    pub counts : StreamCounts r.search t.search s0 s

  -- nothing was yet
  pub out-none : (r : ReplacerProgress) (w : Watched W) (s : Steps) → HasWrittenOut r r w w s s
  out-none r w s = record {
    bytes = [];
    hands = record { same = stays r.search; finished = refl; text = sym (append-nil (handed_out r replacements)) };
    sent = Sent-none;
    counts = StreamCounts-none r.search s;
  }

  module _ {r t : ReplacerProgress} {w0 w : Watched W} {s0 s : Steps} (has : HasWrittenOut r t w0 w s0 s)
      (u : ReplacerProgress) (w1 : Watched W) (s1 : Steps) (counts : StreamCounts t.search u.search s s1) where
    pub out-counts : StreamCounts r.search u.search s0 s1
    out-counts = StreamCounts-then r.search t.search u.search s0 s s1 has.counts counts

    -- one slice more was
    pub out-more : WritesNext contents replacements t u w w1 (Ok true) → HasWrittenOut r u w0 w1 s0 s1
    out-more next = record {
      bytes = has.bytes ++ next.0;
      hands = hands-then r t u replacements has.bytes next.0 has.hands next.1.0;
      sent = Sent-then has.sent next.2;
      counts = out-counts;
    }

    -- fewer of the bytes that were read are left after it
    pub out-smaller : WritesNext contents replacements t u w w1 (Ok true)
        → length (read_by u.search) - u.at < length (read_by t.search) - t.at
    out-smaller next =
        let gives = next.1 in
        let long = ap (λ ps. length (concat ps)) gives.0.same.pieces in
        omega (arith, long, gives.1, gives.2)

    -- there was none, so all that is decided was written
    pub out-all : WritesNext contents replacements t u w w1 (Ok false)
        → WritesText contents replacements r u w0 w1 (Ok tt)
    out-all next = (
      has.bytes ++ [],
      hands-then r t u replacements has.bytes [] has.hands next.0.0,
      Sent-then has.sent next.1,
      λ few. next.0.1 (subst CanBeCounted (sym (ap concat has.hands.same.pieces)) few),
    )

    -- the write of one failed
    pub out-stopped : (error : StreamError) → WritesNext contents replacements t u w w1 (Err error)
        → WritesText contents replacements r u w0 w1 (Err error)
    out-stopped error next = (
      has.bytes ++ next.0,
      hands-then r t u replacements has.bytes next.0 has.hands next.1.0,
      Sends-then w1 [] next.0 (Err error) has.sent next.2,
      tt,
    )
