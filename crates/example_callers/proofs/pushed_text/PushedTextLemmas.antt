-- How a caller appends the text of a replacement whose pieces it pushes.
use Rattle.std.proofs.Common.{◌≡◌, ◌≢◌, ℕ, ◌-◌, ◌<◌, false, true, List, [], ◌++◌, length, take, drop, Option, None, Ok, sym, ap, ◌∙◌, refl, subst, arith, append_assoc, append-nil, take-append-drop, length-drop}
use Rattle.std.specs.List.{concat}
use Rattle.ac_input.specs.Occurrence.{Occurrence}
use Rattle.ac_input.specs.Text.{replaced_from}
use Rattle.ac_automaton.specs.Automaton.{Built}
use Rattle.ac_automaton.specs.Stream.{CanBeCounted, ReadsNothing, StreamProgress, closed_by, cut_of, read_by, Picks}
use Rattle.ac_automaton.specs.Stream.Replace.{replaced_in}
use Rattle.ac_automaton.specs.Stream.Replacer.{HandsOut, PushesText, ReplacerProgress, fresh_replacer, handed_out, decided_to, replaced_by}
use Rattle.ac_automaton.proofs.stream.PlacedLemmas.{ReadsNothing-then}
use Rattle.example_callers.specs.PushedText.{AppendsDecided, AppendsNext, IsTextSoFar, IsTextOfPieces, PushingText, TextWentOn}

-- ---- the decided text

-- these bytes of the replacement's text were appended in between
pub record HasAppended (r t : ReplacerProgress) (replacements : List (List ℕ)) (before after : List ℕ) : Type 0 where
  pub bytes : List ℕ
  pub hands : HandsOut r t replacements bytes
  pub order : after ≡ before ++ bytes

-- a search that makes no step reads nothing
stays : (s : StreamProgress Picks) → ReadsNothing s s
stays s =
    record { on = λ standard. omega arith; last = omega arith; closed = refl; built = refl; pieces = refl; from = refl }

-- nothing was appended yet
pub appended-none : (r : ReplacerProgress) (replacements : List (List ℕ)) (text : List ℕ)
    → HasAppended r r replacements text text
appended-none r replacements text = record {
  bytes = [];
  hands = record { same = stays r.search; finished = refl; text = sym (append-nil (handed_out r replacements)) };
  order = sym (append-nil text);
}

-- bytes handed out in two steps, one after the other
hands-then : (r t u : ReplacerProgress) (replacements : List (List ℕ)) (bytes more : List ℕ)
    → HandsOut r t replacements bytes → HandsOut t u replacements more → HandsOut r u replacements (bytes ++ more)
hands-then r t u replacements bytes more a b = record {
  same = ReadsNothing-then r.search t.search u.search a.same b.same;
  finished = b.finished ∙ a.finished;
  text = b.text ∙ ap (λ x. x ++ more) a.text ∙ append_assoc (handed_out r replacements) bytes more;
}

pub appended-more : (r t u : ReplacerProgress) (replacements : List (List ℕ)) (text before after : List ℕ)
    → HasAppended r t replacements text before → AppendsNext t u replacements before after true
    → HasAppended r u replacements text after
appended-more r t u replacements text before after has next = record {
  bytes = has.bytes ++ next.0;
  hands = hands-then r t u replacements has.bytes next.0 has.hands next.1.0;
  order = next.2 ∙ ap (λ x. x ++ next.0) has.order ∙ append_assoc text has.bytes next.0;
}

-- fewer of the bytes read are left after a slice was appended
pub appended-smaller : (t u : ReplacerProgress) (replacements : List (List ℕ)) (before after : List ℕ)
    → AppendsNext t u replacements before after true
    → length (read_by u.search) - u.at < length (read_by t.search) - t.at
appended-smaller t u replacements before after next =
    let gives = next.1 in
    let long = ap (λ ps. length (concat ps)) gives.0.same.pieces in
    omega (arith, long, gives.1, gives.2)

-- if there is no next slice, all of the decided text was appended
pub appended-all : (r t u : ReplacerProgress) (replacements : List (List ℕ)) (text before after : List ℕ)
    → CanBeCounted (read_by r.search) → HasAppended r t replacements text before
    → AppendsNext t u replacements before after false → AppendsDecided r u replacements text after
appended-all r t u replacements text before after few has next = (
  has.bytes ++ [],
  hands-then r t u replacements has.bytes [] has.hands next.0.0,
  next.1 ∙ has.order ∙ ap (λ x. text ++ x) (sym (append-nil has.bytes)),
  next.0.1 (subst (λ ps. CanBeCounted (concat ps)) (sym has.hands.same.pieces) few),
)

-- ---- the pieces

-- a new replacement was pushed nothing, and has no text yet
pub appended-fresh : (b : Built) (replacements : List (List ℕ)) → IsTextOfPieces b [] (fresh_replacer b) replacements []
appended-fresh b replacements = record {
  appended = record {
    few = omega arith;
    ready = record {
      searched = refl;
      met = refl;
      at = let zero : 0 ≡ cut_of (fresh_replacer b).search = omega arith in
          zero;
    };
    unfinished = refl;
    handed = refl;
  };
  built = refl;
  all = refl;
}

-- at the start of a piece, all of it is still to be pushed
pub pushing-text : (r : ReplacerProgress) (replacements : List (List ℕ)) (piece text : List ℕ)
    → IsTextSoFar r replacements text → PushingText r r replacements piece piece text
pushing-text r replacements piece text is = record { appended = is; built = refl; left = refl }

module _ (r t u v : ReplacerProgress) (replacements : List (List ℕ)) (piece rest : List ℕ) (n : ℕ)
    (before after : List ℕ) (is : PushingText r t replacements piece rest before)
    (pushes : PushesText t u rest (Ok n)) where
  -- what was pushed can be counted
  pub pushed-few : CanBeCounted (read_by u.search)
  pushed-few = pushes.1.2

  -- the replacement keeps its automaton
  pub pushed-built : u.search.built ≡ r.search.built
  pushed-built = pushes.1.0.built ∙ is.built

  -- at least one byte of the rest was taken
  pub pushed-some : rest ≢ [] → length (drop n rest) < length rest
  pushed-some some =
      let took = pushes.1.1.some is.appended.ready some in
      let within = pushes.1.1.within in
      let left = length-drop n rest in
      omega (arith, took, within, left)

  -- the text that is decided by then was appended
  pub pushing-on : AppendsDecided u v replacements before after → PushingText r v replacements piece (drop n rest) after
  pushing-on more =
      let hands = more.1 in
      let finished : v.finished ≡ false = hands.finished ∙ pushes.0.finished ∙ is.appended.unfinished in
      let read : read_by v.search ≡ read_by u.search = ap concat hands.same.pieces in
      record {
        appended = record {
          few = subst CanBeCounted (sym read) pushed-few;
          ready = record {
            searched = more.3.out.all.searched;
            met = more.3.out.met;
            at = more.3.out.at ∙ ap (decided_to v.search None) finished;
          };
          unfinished = finished;
          handed = more.2 ∙ ap (λ x. x ++ more.0) (is.appended.handed ∙ sym (pushes.0.text replacements))
              ∙ sym hands.text;
        };
        built = hands.same.built ∙ pushed-built;
        left = ap (λ x. x ++ drop n rest) (read ∙ pushes.1.0.read)
            ∙ append_assoc (read_by t.search) (take n rest) (drop n rest)
            ∙ ap (λ x. read_by t.search ++ x) (take-append-drop n rest) ∙ is.left;
      }

-- if nothing of the piece is left to push, all of it was pushed
pub pushing-text_done : (r t : ReplacerProgress) (replacements : List (List ℕ)) (piece rest text : List ℕ)
    → PushingText r t replacements piece rest text → rest ≡ [] → TextWentOn r t piece
pushing-text_done r t replacements piece rest text is none =
    record {
      built = is.built;
      read = sym (append-nil (read_by t.search)) ∙ ap (λ x. read_by t.search ++ x) (sym none) ∙ is.left;
    }

-- one more piece was pushed whole, and its text appended
pub appended-piece : (b : Built) (read piece : List ℕ) (r t : ReplacerProgress) (replacements : List (List ℕ))
    (before after : List ℕ) → IsTextOfPieces b read r replacements before → IsTextSoFar t replacements after
    → TextWentOn r t piece → IsTextOfPieces b (read ++ piece) t replacements after
appended-piece b read piece r t replacements before after is appended on = record {
  appended = appended;
  built = on.built ∙ is.built;
  all = on.read ∙ ap (λ x. x ++ piece) is.all;
}

-- the call that says that no more pieces come hands out no text
finished-text : (r : ReplacerProgress) (replacements : List (List ℕ)) → r.met ≡ None
    → handed_out (record r { search = closed_by r.search; finished = true }) replacements ≡ handed_out r replacements
finished-text r replacements none =
    ap (λ met. replaced_from 0 (take r.at (read_by r.search)) replacements (replaced_by (closed_by r.search) met)) none
    ∙ sym (ap (λ met. replaced_from 0 (take r.at (read_by r.search)) replacements (replaced_by r.search met)) none)

-- after the end of the pieces, all of the text was appended
pub appended-whole : (b : Built) (read : List ℕ) (r t u : ReplacerProgress) (replacements : List (List ℕ))
    (before after : List ℕ) → IsTextOfPieces b read r replacements before
    → t ≡ (record r { search = closed_by r.search; finished = true }) → AppendsDecided t u replacements before after
    → after ≡ replaced_in b replacements read
appended-whole b read r t u replacements before after is finished more =
    let hands = more.1 in
    let ends : u.finished ≡ true = hands.finished ∙ ap (λ q. q.finished) finished in
    let built : u.search.built ≡ b = hands.same.built ∙ ap (λ q. q.search.built) finished ∙ is.built in
    let all : read_by u.search ≡ read = ap concat hands.same.pieces ∙ ap (λ q. read_by q.search) finished ∙ is.all in
    let text : before ≡ handed_out t replacements = is.appended.handed
    ∙ sym (finished-text r replacements is.appended.ready.met) ∙ ap (λ q. handed_out q replacements) (sym finished) in
    more.2
    ∙ ap (λ x. x ++ more.0) text
    ∙ sym hands.text
    ∙ more.3.whole ends
    ∙ ap (λ c. replaced_in c replacements (read_by u.search)) built
    ∙ ap (replaced_in b replacements) all
