-- A text that is counted, and written to a buffer, match by match.
use Rattle.std.proofs.Common.{◌≡◌, ℕ, ◌+◌, ◌-◌, ◌≤◌, Bool, List, [], ◌∷◌, ◌++◌, length, take, drop, get_or, refl, sym, ap, ap₂, ◌∙◌, subst, append_assoc, arith, length-append, length-drop, inl, Result, Ok, Err}
use Rattle.std.specs.Prelude.{slice_range}
use Rattle.std.proofs.lemmas.List.{append-nil, drop-drop, drop_at, take_at}
use Rattle.std.proofs.lemmas.List.Edits.{length-between}
use denote.Ref.{Bor}
use Rattle.ac_input.specs.declared.steps.Steps.{Steps}
use Rattle.ac_input.specs.Input.{whole_of}
use Rattle.ac_input.specs.Occurrence.{Occurrence}
use Rattle.ac_input.specs.Text.{replaced_from}
use Rattle.ac_input.proofs.lemmas.TextLemmas.{replaced-pick}
use Rattle.ac_automaton.specs.InMemory.Iter.{Walk}
use Rattle.ac_automaton.specs.InMemory.Replace.{LieInOrder, matches_in}
use Rattle.ac_automaton.proofs.lemmas.ReplaceLemmas.{matches-lie}
use Rattle.aho_corasick.specs.AhoCorasick.{as_built, pattern_count}
use Rattle.aho_corasick.specs.declared.ahocorasick.AhoCorasick.{AhoCorasick}
use Rattle.ac_c.specs.Replace.{CostsLen, IsLenBy, IsLenOf, IsReplaced, begun_with, is_long, text_with, walk_over}
use Rattle.ac_c.specs.Walking.{IsAccounted, WalksOn}
use Rattle.ac_c.proofs.walking.WalkingLemmas.{begun-accounted, walks-none}

-- the matches of a whole haystack lie in order, where there is one replacement for each pattern
pub matches-in_order : (ac : AhoCorasick) (x : List ℕ) (count : ℕ) (os : List Occurrence) → count ≡ pattern_count ac
    → os ≡ matches_in (as_built ac) x → LieInOrder count (length x) 0 os
matches-in_order ac x count os same is =
    subst (λ qs. LieInOrder count (length x) 0 qs) (sym is)
    (subst (λ n. LieInOrder n (length x) 0 (matches_in (as_built ac) x)) (sym same) (matches-lie (as_built ac) x))

-- at a match the text has the bytes before it, its replacement, and the rest
pub text-first : (at : ℕ) (x : List ℕ) (rs : List (List ℕ)) (os rest : List Occurrence) (o : Occurrence) → os ≡ o ∷ rest
    → replaced_from at x rs os ≡ slice_range x at o.start ++ (get_or rs o.pattern [] ++ replaced_from o.end x rs rest)
text-first at x rs os rest o is = ap (replaced_from at x rs) is ∙ replaced-pick at x rs o rest

-- so many bytes are these
pub len-first : (at : ℕ) (x : List ℕ) (rs : List (List ℕ)) (os rest : List Occurrence) (o : Occurrence) → os ≡ o ∷ rest
    → o.start ≤ length x
    → length (replaced_from at x rs os)
    ≡ (o.start - at) + (length (get_or rs o.pattern []) + length (replaced_from o.end x rs rest))
len-first at x rs os rest o is within =
    ap length (text-first at x rs os rest o is)
    ∙ omega (
      arith,
      length-append (slice_range x at o.start) (get_or rs o.pattern [] ++ replaced_from o.end x rs rest),
      length-append (get_or rs o.pattern []) (replaced_from o.end x rs rest),
      length-between x at o.start within,
    )

-- the length so far and that of the rest stay the length of the text, with one more match
pub sum-more : (at len before after whole : ℕ) (x : List ℕ) (rs : List (List ℕ)) (os rest : List Occurrence)
    (o : Occurrence) (replacement : List ℕ) → len + length (replaced_from at x rs os) ≡ whole
    → os ≡ o ∷ rest → o.start ≤ length x → before ≡ len + (o.start - at) → replacement ≡ get_or rs o.pattern []
    → after ≡ before + length replacement
    → after + length (replaced_from o.end x rs rest) ≡ whole
sum-more at len before after whole x rs os rest o replacement sum is within first same then =
    omega (arith, len-first at x rs os rest o is within, ap length same)

-- and where no match is left, so many
pub len-end : (at : ℕ) (x : List ℕ) (rs : List (List ℕ)) (os : List Occurrence) → os ≡ []
    → length (replaced_from at x rs os) ≡ length x - at
len-end at x rs os is = ap (λ qs. length (replaced_from at x rs qs)) is ∙ length-drop at x

-- A buffer in which a text was written up to a place: what is written, and the rest, are the text. After the place it
-- is unchanged.
pub record IsWritten (text old out : List ℕ) (at : ℕ) (rest : List ℕ) : Type 0 where
  pub front : List ℕ
  pub long : length front ≡ at
  pub order : front ++ rest ≡ text
  pub same : out ≡ front ++ drop at old

-- at first nothing is written
pub written-none : (text old : List ℕ) → IsWritten text old old 0 text
written-none text old = record { front = []; long = refl; order = refl; same = refl }

-- where all is written, the buffer begins with the text
pub written-all : (text old out rest : List ℕ) (at : ℕ) → IsWritten text old out at rest → rest ≡ []
    → out ≡ begun_with text old
written-all text old out rest at w none =
    let all : w.front ≡ text = sym (append-nil w.front) ∙ ap (λ r. w.front ++ r) (sym none) ∙ w.order in
    w.same ∙ ap₂ (λ f n. f ++ drop n old) all (sym w.long ∙ ap length all)

-- where a text fits the buffer, there is room for each part of it
pub written-room : (text old out bytes rest more : List ℕ) (at : ℕ) → IsWritten text old out at rest
    → rest ≡ bytes ++ more → length text ≤ length old → at + length bytes ≤ length out
written-room text old out bytes rest more at w is fits =
    let all : length w.front + (length bytes + length more) ≡ length text =
    omega (
      arith,
      length-append w.front (bytes ++ more),
      length-append bytes more,
      ap length (ap (λ r. w.front ++ r) (sym is) ∙ w.order),
    ) in
    omega (arith, w.long, all, fits, ap length w.same, length-append w.front (drop at old), length-drop at old)

-- the next part of the text
pub written-more : (text old out new bytes rest more : List ℕ) (at : ℕ) → IsWritten text old out at rest
    → rest ≡ bytes ++ more → new ≡ take at out ++ begun_with bytes (drop at out)
    → IsWritten text old new (at + length bytes) more
written-more text old out new bytes rest more at w is put =
    let front : take at out ≡ w.front = ap (take at) w.same ∙ take_at w.front (drop at old) at w.long in
    let after : drop at out ≡ drop at old = ap (drop at) w.same ∙ drop_at w.front (drop at old) at w.long in
    record {
      front = w.front ++ bytes;
      long = omega (arith, length-append w.front bytes, w.long);
      order = append_assoc w.front bytes more ∙ ap (λ r. w.front ++ r) (sym is) ∙ w.order;
      same = put ∙ ap₂ (λ f d. f ++ begun_with bytes d) front after
          ∙ ap (λ d. w.front ++ (bytes ++ d)) (drop-drop (length bytes) at old)
          ∙ sym (append_assoc w.front bytes (drop (at + length bytes) old));
    }

-- where the bytes before a match are written, its replacement is next
written-half : (text old out mid : List ℕ) (at len between : ℕ) (x : List ℕ) (rs : List (List ℕ))
    (os rest : List Occurrence) (o : Occurrence) (before replacement : List ℕ)
    → IsWritten text old out len (replaced_from at x rs os) → os ≡ o ∷ rest
    → before ≡ slice_range x at o.start → mid ≡ take len out ++ begun_with before (drop len out)
    → between ≡ len + length before
    → replacement ≡ get_or rs o.pattern []
    → IsWritten text old mid between (replacement ++ replaced_from o.end x rs rest)
written-half text old out mid at len between x rs os rest o before replacement w is before_is first_put first_end
    replacement_is =
    let parts = text-first at x rs os rest o is
    ∙ ap₂ (λ b r. b ++ (r ++ replaced_from o.end x rs rest)) (sym before_is) (sym replacement_is) in
    subst (λ n. IsWritten text old mid n (replacement ++ replaced_from o.end x rs rest)) (sym first_end)
    (written-more text old out mid before _ _ len w parts first_put)

-- there is room for it, where the text fits
pub written-fits : (text old out mid : List ℕ) (at len between : ℕ) (x : List ℕ) (rs : List (List ℕ))
    (os rest : List Occurrence) (o : Occurrence) (before replacement : List ℕ)
    → IsWritten text old out len (replaced_from at x rs os) → os ≡ o ∷ rest
    → before ≡ slice_range x at o.start → mid ≡ take len out ++ begun_with before (drop len out)
    → between ≡ len + length before
    → replacement ≡ get_or rs o.pattern [] → length text ≤ length old → between + length replacement ≤ length mid
written-fits text old out mid at len between x rs os rest o before replacement w is before_is first_put first_end
    replacement_is fits =
    written-room text old mid replacement _ _ between
    (written-half text old out mid at len between x rs os rest o before replacement w is before_is first_put
    first_end replacement_is) refl fits

-- one more turn: the bytes before a match, and its replacement
pub written-turn : (text old out mid new : List ℕ) (at len between len' : ℕ) (x : List ℕ) (rs : List (List ℕ))
    (os rest : List Occurrence) (o : Occurrence) (before replacement : List ℕ)
    → IsWritten text old out len (replaced_from at x rs os) → os ≡ o ∷ rest
    → before ≡ slice_range x at o.start → mid ≡ take len out ++ begun_with before (drop len out)
    → between ≡ len + length before
    → replacement ≡ get_or rs o.pattern [] → new ≡ take between mid ++ begun_with replacement (drop between mid)
    → len' ≡ between + length replacement
    → IsWritten text old new len' (replaced_from o.end x rs rest)
written-turn text old out mid new at len between len' x rs os rest o before replacement w is before_is first_put
    first_end replacement_is then_put then_end =
    let one = written-half text old out mid at len between x rs os rest o before replacement w is before_is first_put
    first_end replacement_is in
    subst (λ n. IsWritten text old new n (replaced_from o.end x rs rest)) (sym then_end)
    (written-more text old mid new replacement _ _ between one refl then_put)

-- a walk over all matches of a haystack, before its first step, is accounted for
pub over-accounted : (ahead : Bool) (ac : AhoCorasick) (x : List ℕ) → IsAccounted ahead (walk_over ac x)
over-accounted ahead ac x = begun-accounted ahead (as_built ac) (whole_of x) (omega arith) (omega arith)

-- where nothing is searched, no step is taken
pub refused-cost : (ahead : Bool) (ac : AhoCorasick) (x : List ℕ) (steps : Steps)
    → WalksOn ahead (walk_over ac x) steps steps
refused-cost ahead ac x steps = (walk_over ac x, walks-none ahead (walk_over ac x) steps (over-accounted ahead ac x))

-- what the walk over a haystack costs, to know the length
pub len-cost : (ahead : Bool) (ac : AhoCorasick) (x : List ℕ) (w : Walk) (before after : Steps) (r : Result ℕ ℕ)
    → w ≡ walk_over ac x → CostsLen ahead w before after r → is_long x ≡ ahead
    → CostsLen (is_long x) (walk_over ac x) before after r
len-cost ahead ac x w before after r is cost long =
    rw long (subst (λ z. CostsLen ahead z before after r) is cost)

-- the length of the text of all matches, or why it has none, answers for the haystack
pub len-answers : (ac : AhoCorasick) (x : List ℕ) (rs : List (Bor (List ℕ))) (os : List Occurrence) (r : Result ℕ ℕ)
    → IsReplaced ac rs → os ≡ matches_in (as_built ac) x → IsLenOf (text_with x rs os) r → IsLenBy ac x rs r
len-answers ac x rs os (Ok len) is all h =
    (is, subst (λ qs. IsLenOf (text_with x rs qs) (Ok len)) all h)
len-answers ac x rs os (Err status) is all h =
    inl (is, subst (λ qs. IsLenOf (text_with x rs qs) (Err status)) all h)
