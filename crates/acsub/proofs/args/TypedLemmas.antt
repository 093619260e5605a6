-- The values that a parse holds for an argument that has a parser: they pass it.
use Rattle.std.proofs.Common.{◌≡◌, ◌∙◌, ◌<◌, ◌≤◌, ℕ, zero, suc, Bool, true, false, List, [], ◌∷◌, length, Option, Some, None, is_some, refl, sym, ap, subst, inl, inr, arith}
use Rattle.std.specs.Prelude.{find, option_map, option_and_then, slice_get}
use Rattle.std.specs.List.{All, slice_index_or}
use Rattle.std.specs.Str.{bytes_eq}
use Rattle.std.specs.Borrow.{Bor}
use Rattle.std.proofs.lemmas.List.Elements.{All-get_or}
use Rattle.std.proofs.lemmas.Slice.Eq.{bytes_eq-Decides}
use Rattle.clap.specs.Facts.{Entry, EntryPasses, HasId, HasIn, PassesArg, args_of, groups_of, least_values, parser_of, parser_of_value}
use Rattle.clap.specs.Built.{IsAuto, IsParsedFrom, IsPlain, SameRules}
use Rattle.clap.specs.Matches.{first_value, found_of, matched_of, one_text}
use Rattle.clap.specs.Values.{Accepts, read_as, reading_of}
use Rattle.clap.specs.Walk.{Text}
use Rattle.clap.specs.declared.builder.value_parser.Reading.TheVariants as reading
use Rattle.clap.specs.declared.builder.action.ArgAction.TheVariants.{Count, Set}
use Rattle.clap.specs.declared.builder.arg.Arg.{Arg}
use Rattle.clap.specs.declared.builder.command.Command.{Command}
use Rattle.clap.specs.declared.builder.command.Command.TheViews.{out-Command}
use Rattle.clap.specs.declared.builder.value_parser.ValueParser.{ValueParser}
use Rattle.clap.specs.declared.parser.matches.ArgMatches.{ArgMatches}
use Rattle.clap.specs.declared.parser.matches.Found.{Found}
use Rattle.clap.specs.declared.parser.matches.MatchedArg.{MatchedArg}
use Rattle.clap.proofs.CallerLemmas.{entry_by_id, same_rules_by_id}

-- ---- an argument of a command, the k-th, and a parse of the command

-- argument k has an id that no other argument has, and none of clap's own
pub record IsOwn (old : Command) (k : ℕ) (a : Arg) : Type 0 where
  pub lt : k < length (args_of old)
  pub at : (d : Arg) → slice_index_or (args_of old) k d ≡ a
  pub unique : (j : ℕ) (e : Arg) → j < length (args_of old)
      → bytes_eq (slice_index_or (args_of old) j e).id.now a.id.now ≡ true → j ≡ k
  pub named : a.id.now ≡ [] → ⊥
  pub no_flag : IsAuto a → ⊥

-- an argument of the built command that has the same id has the same rules
same_rules : (old : Command) (m : ArgMatches) (p : IsParsedFrom old m) (k : ℕ) (a : Arg) → IsOwn old k a
    → (j : ℕ) (x : Arg) → j < length (args_of p.built) → slice_index_or (args_of p.built) j x ≡ x
    → bytes_eq x.id.now a.id.now ≡ true → SameRules a x
same_rules old m p k a own j x high at same =
    let here = own.at a in
    let unique : (i : ℕ) (e : Arg) → i < length (args_of old)
    → bytes_eq (slice_index_or (args_of old) i e).id.now (slice_index_or (args_of old) k a).id.now ≡ true → i ≡ k
    = subst (λ b. (i : ℕ) (e : Arg) → i < length (args_of old)
    → bytes_eq (slice_index_or (args_of old) i e).id.now b.id.now ≡ true → i ≡ k) (sym here) own.unique in
    subst (λ b. SameRules b x) here
    (same_rules_by_id old m p k a own.lt unique (subst (λ b. IsAuto b → ⊥) (sym here) own.no_flag) j x high at
    (subst (λ b. bytes_eq x.id.now b.id.now ≡ true) (sym here) same))

-- a value that passes the built argument's parser passes the argument's own
accepted : (a y : Arg) (q : ValueParser) (t : Text) → SameRules a y → a.value_parser ≡ Some q
    → Accepts y.ignore_case (parser_of y) t → Accepts a.ignore_case q t
accepted a y q t s parser read =
    let is_q : parser_of y ≡ q = ap parser_of_value (s.parser q parser) in
    let as_q : Accepts y.ignore_case q t = subst (λ w. Accepts y.ignore_case w t) is_q read in
    subst (λ b. Accepts b q t) s.ignore_case as_q

-- the entry under the argument's id, and what holds of it
entry_of : (old : Command) (m : ArgMatches) (p : IsParsedFrom old m) → IsPlain old
    → (out-Command old).has_globals ≡ false → (k : ℕ) (a : Arg) → IsOwn old k a
    → (x : MatchedArg) → matched_of (found_of m) a.id.now ≡ Some x
    → (e : Entry) × (e.1 ≡ x) × (e.0.now ≡ a.id.now) × EntryPasses p.built e × (e.1.is_group ≡ true → ⊥)
entry_of old m p plain globals k a own x is =
    let parsed = p.parsed (p.from.globals ∙ globals) in
    let got = entry_by_id (EntryPasses p.built) (found_of m).entries.items a.id.now x parsed.values is in
    let key : got.0.0.now ≡ a.id.now = (bytes_eq-Decides got.0.0.now a.id.now).0 got.2 in
    let none : groups_of p.built ≡ [] = (p.from.plain plain).1 in (
      got.0,
      got.1,
      key,
      got.3,
      λ group. elim (got.3.3 group) [
        | inl empty ↦ own.named (sym key ∙ empty)
        | inr lots ↦ let bad : 0 < 0 = rw none at lots in absurd (omega arith)
      ],
    )

-- ---- values that pass

first_passes : (P : Bor Text → Type 0) (vs : List (Bor Text)) (t : Text) → All P vs
    → option_map (λ s. s.now) (slice_get vs 0) ≡ Some t → (v : Bor Text) × (v.now ≡ t) × P v
first_passes P [] t all is = cc
first_passes P (v ∷ vs) t all is =
    let same : v.now ≡ t = cc in
    (v, same, All-get_or P (v ∷ vs) 0 v (omega arith) all)

-- the first value of an argument passes its parser
pub first_accepted : (old : Command) (m : ArgMatches) (p : IsParsedFrom old m) → IsPlain old
    → (out-Command old).has_globals ≡ false → (k : ℕ) (a : Arg) → IsOwn old k a
    → (q : ValueParser) → a.value_parser ≡ Some q → (t : Text) → first_value (found_of m) a.id.now ≡ Some t
    → Accepts a.ignore_case q t
first_accepted old m p plain globals k a own q parser t is = go (matched_of (found_of m) a.id.now) refl is
  where
    at_value : (x : MatchedArg)
        → ((e : Entry) × (e.1 ≡ x) × (e.0.now ≡ a.id.now) × EntryPasses p.built e × (e.1.is_group ≡ true → ⊥))
        → option_map (λ s. s.now) (slice_get x.vals.items 0) ≡ Some t → Accepts a.ignore_case q t
    at_value x got first = elim got.3.0 [
      | inl group ↦ absurd (got.4 group)
      | inr all ↦
          let here : All (λ v. PassesArg p.built got.0.0.now v.now) x.vals.items =
          subst (λ y. All (λ v. PassesArg p.built got.0.0.now v.now) y.vals.items) got.1 all in
          let hit = first_passes (λ v. PassesArg p.built got.0.0.now v.now) x.vals.items t here first in
          let any = hit.2 in
          let same : bytes_eq any.1.id.now a.id.now ≡ true =
          subst (λ u. bytes_eq any.1.id.now u ≡ true) got.2 any.4.0 in
          let as_t : Accepts any.1.ignore_case (parser_of any.1) t =
          subst (λ u. Accepts any.1.ignore_case (parser_of any.1) u) hit.1 any.4.1 in
          accepted a any.1 q t (same_rules old m p k a own any.0 any.1 any.2 any.3 same) parser as_t
    ]

    go : (o : Option MatchedArg) → matched_of (found_of m) a.id.now ≡ o
        → option_and_then (λ x. option_map (λ s. s.now) (slice_get x.vals.items 0)) o ≡ Some t
        → Accepts a.ignore_case q t
    go None e h = cc
    go (Some x) e h = at_value x (entry_of old m p plain globals k a own x e) h

-- if an argument's parser reads values as written, the argument's one text is its first value
pub same_reading : (old : Command) (m : ArgMatches) (p : IsParsedFrom old m) → IsPlain old
    → (out-Command old).has_globals ≡ false → (k : ℕ) (a : Arg) → IsOwn old k a
    → (q : ValueParser) → a.value_parser ≡ Some q → reading_of q ≡ reading.AsWritten
    → one_text (found_of m) a.id.now ≡ first_value (found_of m) a.id.now
same_reading old m p plain globals k a own q parser plainly = go (matched_of (found_of m) a.id.now) refl
  where
    as_written : (vs : List (Bor Text))
        → option_map (λ s. read_as reading.AsWritten s.now) (slice_get vs 0) ≡ option_map (λ s. s.now) (slice_get vs 0)
    as_written [] = refl
    as_written (v ∷ vs) = refl

    at_value : (x : MatchedArg)
        → ((e : Entry) × (e.1 ≡ x) × (e.0.now ≡ a.id.now) × EntryPasses p.built e × (e.1.is_group ≡ true → ⊥))
        → option_map (λ s. read_as x.reading s.now) (slice_get x.vals.items 0)
        ≡ option_map (λ s. s.now) (slice_get x.vals.items 0)
    at_value x got = elim got.3.4 [
      | inl group ↦ absurd (got.4 group)
      | inr any ↦
          let same : bytes_eq any.1.id.now a.id.now ≡ true =
          subst (λ u. bytes_eq any.1.id.now u ≡ true) got.2 any.4.0 in
          let s = same_rules old m p k a own any.0 any.1 any.2 any.3 same in
          let is_q : parser_of any.1 ≡ q = ap parser_of_value (s.parser q parser) in
          let how : x.reading ≡ reading.AsWritten = ap (λ y. y.reading) (sym got.1) ∙ sym any.4.1 ∙ ap reading_of is_q
          ∙ plainly in
          ap (λ r. option_map (λ s. read_as r s.now) (slice_get x.vals.items 0)) how ∙ as_written x.vals.items
    ]

    go : (o : Option MatchedArg) → matched_of (found_of m) a.id.now ≡ o
        → option_and_then (λ x. option_map (λ s. read_as x.reading s.now) (slice_get x.vals.items 0)) o
        ≡ option_and_then (λ x. option_map (λ s. s.now) (slice_get x.vals.items 0)) o
    go None e = refl
    go (Some x) e = at_value x (entry_of old m p plain globals k a own x e)

-- ---- arguments that have a value

some_first : (vs : List (Bor Text)) → 0 < length vs → is_some (option_map (λ s. s.now) (slice_get vs 0)) ≡ true
some_first [] lt = absurd (omega arith)
some_first (v ∷ vs) lt = refl

-- an argument that takes a value, and has an entry, has a value
pub has_value : (old : Command) (m : ArgMatches) (p : IsParsedFrom old m) → IsPlain old
    → (out-Command old).has_globals ≡ false → (k : ℕ) (a : Arg) → IsOwn old k a
    → a.action ≡ Some Set → a.val_delim ≡ None → 1 ≤ least_values a → is_some (matched_of (found_of m) a.id.now) ≡ true
    → is_some (first_value (found_of m) a.id.now) ≡ true
has_value old m p plain globals k a own set delim least has = go (matched_of (found_of m) a.id.now) refl has
  where
    at_value : (x : MatchedArg)
        → ((e : Entry) × (e.1 ≡ x) × (e.0.now ≡ a.id.now) × EntryPasses p.built e × (e.1.is_group ≡ true → ⊥))
        → is_some (option_map (λ s. s.now) (slice_get x.vals.items 0)) ≡ true
    at_value x got = elim got.3.1 [
      | inl h ↦ absurd (got.4 h.0)
      | inr (inl v) ↦ some_first x.vals.items (subst (λ y. 0 < length y.vals.items) got.1 v)
      | inr (inr (inl h)) ↦
          let any = h.1 in
          let same : bytes_eq any.1.id.now a.id.now ≡ true =
          subst (λ u. bytes_eq any.1.id.now u ≡ true) got.2 any.4.0 in
          let s = same_rules old m p k a own any.0 any.1 any.2 any.3 same in
          let is_set : any.1.action ≡ Some Set = s.action Set set in
          let bad : Set ≡ Count = rw is_set at any.4.1 in
          cc
      | inr (inr (inr any)) ↦
          let same : bytes_eq any.1.id.now a.id.now ≡ true =
          subst (λ u. bytes_eq any.1.id.now u ≡ true) got.2 any.4.0 in
          let s = same_rules old m p k a own any.0 any.1 any.2 any.3 same in
          elim any.4.1 [
            | inl none ↦ let one = s.least set least in absurd (omega arith)
            | inr some ↦ let bad : false ≡ true = rw (s.val_delim, delim) at some in cc
          ]
    ]

    go : (o : Option MatchedArg) → matched_of (found_of m) a.id.now ≡ o → is_some o ≡ true
        → is_some (option_and_then (λ x. option_map (λ s. s.now) (slice_get x.vals.items 0)) o) ≡ true
    go None e h = cc
    go (Some x) e h = at_value x (entry_of old m p plain globals k a own x e)

found_in : (xs : List Entry) (id : Text) → HasIn xs id
    → is_some (option_map (λ e. e.1) (find (λ e. bytes_eq e.0.now id) xs)) ≡ true
found_in [] id h = absurd (omega (arith, h.1))
found_in (x ∷ xs) id (i, lt, at) = go (λ rest. found_in xs id rest) (bytes_eq x.0.now id) refl i lt at
  where
    go : (HasIn xs id → is_some (option_map (λ e. e.1) (find (λ e. bytes_eq e.0.now id) xs)) ≡ true) → (b : Bool)
        → bytes_eq x.0.now id ≡ b
        → (i : ℕ) → i < length (x ∷ xs) → ((d : Entry) → bytes_eq (slice_index_or (x ∷ xs) i d).0.now id ≡ true)
        → is_some (option_map (λ e. e.1) (find (λ e. bytes_eq e.0.now id) (x ∷ xs))) ≡ true
    go rec true e i lt at = rw e refl
    go rec false e zero lt at = let hit : bytes_eq x.0.now id ≡ true = at x in cc
    go rec false e (suc i) lt at = rw e (rec (i, omega arith, λ d. at d))

-- an id that the parse holds has an entry
pub entry_there : (f : Found) (id : Text) → HasId f id → is_some (matched_of f id) ≡ true
entry_there f id h = found_in f.entries.items id h
