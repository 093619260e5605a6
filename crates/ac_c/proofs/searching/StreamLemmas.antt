-- The items that a search of pieces returns one by one, with no push in between.
use Rattle.std.proofs.Common.{◌≡◌, ◌≢◌, ℕ, ◌+◌, ◌<◌, ◌≤◌, List, [], ◌∷◌, ◌++◌, length, take, append_assoc, length-append, rules, refl, sym, ap, subst, ◌∙◌, arith}
use Rattle.std.specs.List.{concat}
use Rattle.std.proofs.Math.ListN.{set}
use Rattle.std.proofs.lemmas.List.{map-append, take_more_set}
use Rattle.std.proofs.lemmas.List.Elements.{All-nil, All-push}
use Rattle.ac_input.specs.declared.search.MatchKind.{MatchKind}
use Rattle.ac_input.specs.declared.search.MatchKind.TheVariants.{Standard}
use Rattle.ac_input.specs.Occurrence.{Occurrence}
use Rattle.ac_automaton.specs.Stream.{AreAllGiven, CanBeCounted, IsHeldItem, Occurrences, ReadsNothing, Sequence, StreamProgress, items_of, place_of, read_by}
use Rattle.ac_c.specs.declared.found.Found.{Found}
use Rattle.ac_c.specs.Found.{shown}
use Rattle.ac_c.specs.Searching.{AreShown, Returns}

-- the kind of a search's automaton
abbrev kind_in : {q : Sequence} → StreamProgress q → MatchKind
kind_in s = s.built.dictionary.kind

same-kind : {q : Sequence} (s t : StreamProgress q) → ReadsNothing s t → kind_in s ≡ Standard → kind_in t ≡ Standard
same-kind s t a e = ap (λ b. b.dictionary.kind) a.built ∙ e

pub reads-itself : {q : Sequence} (s : StreamProgress q) → ReadsNothing s s
reads-itself s =
    record { on = λ e. omega arith; last = omega arith; closed = refl; built = refl; pieces = refl; from = refl }

-- if nothing is read in each of two steps, nothing is read over both
pub reads-on : {q : Sequence} (s t u : StreamProgress q) → ReadsNothing s t → ReadsNothing t u → ReadsNothing s u
reads-on s t u a b = record {
  on = λ e. let x : s.at ≤ t.at = a.on e in let y : t.at ≤ u.at = b.on (same-kind s t a e) in omega arith;
  last = let x : s.last ≤ t.last = a.last in let y : t.last ≤ u.last = b.last in omega arith;
  closed = b.closed ∙ a.closed;
  built = b.built ∙ a.built;
  pieces = b.pieces ∙ a.pieces;
  from = b.from ∙ a.from;
}

same-read : {q : Sequence} (s t : StreamProgress q) → ReadsNothing s t → read_by t ≡ read_by s
same-read s t a = ap concat a.pieces

-- if nothing is read in between, bytes that could be counted before can be counted after
pub same-counted : {q : Sequence} (s t : StreamProgress q) → ReadsNothing s t → CanBeCounted (read_by s)
    → CanBeCounted (read_by t)
same-counted s t a counted = subst CanBeCounted (sym (same-read s t a)) counted

-- a listing that had returned all occurrences up to where it stood has begun anew since, past that place
abbrev pub HasPassed : {q : Sequence} → StreamProgress q → StreamProgress q → Type 0
HasPassed {q} s t =
    q ≡ Occurrences → s.given ≡ items_of q s.built.dictionary (take s.at (read_by s)) → s.at < t.last

-- so the next occurrence ends past it, if items were returned since; and if none were, as the search is unchanged
held-past : {q : Sequence} (s t : StreamProgress q) (os : List Occurrence) (o : Occurrence) → (os ≡ [] → t ≡ s)
    → (os ≢ [] → HasPassed s t) → IsHeldItem t o → q ≡ Occurrences
    → s.given ≡ items_of q s.built.dictionary (take s.at (read_by s)) → s.at < o.end
held-past {q} s t [] o same passed h e given = (subst (λ z. IsHeldItem z o) (same refl) h).past e given
held-past {q} s t (x ∷ os) o same passed h e given =
    let further : s.at < t.last = passed (λ z. cc) e given in let behind : t.last ≤ place_of q o = h.behind in
    let place : place_of q o ≡ o.end = ap (λ p. place_of p o) e in
    omega (arith, place)

-- if nothing is read in between, an item among the held bytes was among them before
held-before : {q : Sequence} (s t : StreamProgress q) (os : List Occurrence) (o : Occurrence) → (os ≡ [] → t ≡ s)
    → (os ≢ [] → HasPassed s t) → ReadsNothing s t → IsHeldItem t o → IsHeldItem s o
held-before {q} s t os o same passed a h = record {
  pattern = subst (λ b. o.pattern < length b.dictionary.patterns) a.built h.pattern;
  held = λ e. subst (λ n. n ≤ o.start) a.from (h.held e);
  behind = let x : s.last ≤ t.last = a.last in let y : t.last ≤ place_of q o = h.behind in omega arith;
  some = h.some;
  new = λ picks e. let x : s.at ≤ t.at = a.on e in let y : t.at < o.end = h.new picks (same-kind s t a e) in
      omega arith;
  past = held-past s t os o same passed h;
  within = subst (λ xs. o.end ≤ length xs) (same-read s t a) h.within;
}

-- no step returns no item
pub returns-none : {q : Sequence} (s : StreamProgress q) → Returns s s []
returns-none s =
    record {
      nothing = reads-itself s;
      given = search rules;
      held = All-nil (IsHeldItem s);
      some = λ some. absurd (some refl);
    }

-- a further step that returns no item leaves the items returned as they are
pub returns-rest : {q : Sequence} (s t u : StreamProgress q) (os : List Occurrence) → Returns s t os → ReadsNothing t u
    → u.given ≡ t.given → Returns s u os
returns-rest s t u os h b given =
    record { nothing = reads-on s t u h.nothing b; given = given ∙ h.given; held = h.held; some = h.some }

-- if items of what was read are left now, some were left before
left-before : {q : Sequence} (s t : StreamProgress q) (os : List Occurrence) → (os ≡ [] → t ≡ s) → ((os ≢ [])
    → ¬ AreAllGiven s)
    → ¬ AreAllGiven t → ¬ AreAllGiven s
left-before s t [] same some left = subst (λ z. ¬ AreAllGiven z) (same refl) left
left-before s t (o ∷ os) same some left = some (λ e. cc)

pub more-than-none : (os : List Occurrence) (o : Occurrence) → os ++ o ∷ [] ≢ []
more-than-none [] o e = cc
more-than-none (x ∷ os) o e = cc

-- one more item was returned
pub returns-more : {q : Sequence} (s t u : StreamProgress q) (os : List Occurrence) (o : Occurrence) → Returns s t os
    → (os ≡ [] → t ≡ s) → (os ≢ [] → HasPassed s t) → ReadsNothing t u → u.given ≡ t.given ++ o ∷ []
    → IsHeldItem t o → CanBeCounted (read_by t) → ¬ AreAllGiven t → Returns s u (os ++ o ∷ [])
returns-more s t u os o h same passed b given held counted left = record {
  nothing = reads-on s t u h.nothing b;
  given = given ∙ (ap (λ xs. xs ++ o ∷ []) h.given ∙ append_assoc s.given os (o ∷ []));
  held = All-push (IsHeldItem s) os o h.held (held-before s t os o same passed h.nothing held);
  some = λ some.
      (subst CanBeCounted (same-read s t h.nothing) counted, left-before s t os same (λ e. (h.some e).1) left);
}

-- the search has begun anew at the end of that item
pub passed-more : {q : Sequence} (s t u : StreamProgress q) (os : List Occurrence) (o : Occurrence) → (os ≡ [] → t ≡ s)
    → (os ≢ [] → HasPassed s t) → IsHeldItem t o → u.last ≡ o.end → HasPassed s u
passed-more s t u os o same passed h last e given =
    subst (λ n. s.at < n) (sym last) (held-past s t os o same passed h e given)

-- the buffer shows one more item
pub shown-more : (os : List Occurrence) (o : Occurrence) (old out : List Found) (at : ℕ) → at < length out
    → length out ≡ length old → AreShown os old out at
    → AreShown (os ++ o ∷ []) old (set out at (shown o)) (at + 1)
shown-more os o old out at lt same h = record {
  count = omega (arith, h.count, length-append os (o ∷ []));
  room = omega arith;
  shown = let e : take (at + 1) (set out at (shown o)) ≡ take at out ++ shown o ∷ [] =
      take_more_set out at (shown o) lt in
      e ∙ (ap (λ fs. fs ++ shown o ∷ []) h.shown ∙ sym (map-append shown os (o ∷ [])));
}
