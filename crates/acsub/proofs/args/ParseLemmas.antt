-- What a parse of the program's command gives.
use Rattle.std.proofs.Common.{◌≡◌, ◌∙◌, ◌<◌, ◌≤◌, ◌&&◌, ◌||◌, ◌==◌, ℕ, zero, suc, Bool, true, false, not, List, [], ◌∷◌, length, map, Option, Some, None, Ok, Err, is_some, refl, sym, ap, subst, inl, inr, arith, codes, get_or, true≢false}
use Rattle.std.specs.Prelude.{option_and_then}
use Rattle.std.specs.List.{slice_index_or, list_any, list_all}
use Rattle.std.specs.Str.{bytes_eq}
use Rattle.std.specs.Borrow.{Bor}
use Rattle.std.proofs.lemmas.List.{get_or-map, get_or_default, length-map}
use Rattle.std.proofs.lemmas.Bool.{and_parts, cases_lt, eqb-true}
use Rattle.std.proofs.lemmas.Slice.Eq.{bytes_eq-Decides}
use Rattle.clap.specs.Words.{HasKind, HasMatchesOf, IsAmong, Rule, Text, app_of, fault_of, first_of, found_of, is_simple, is_simple_and_free, kind_of, matches_of, one_of, rows_of, rule_of}
use Rattle.clap.specs.Walk.{texts}
use Rattle.clap.specs.Simple.{IsSimple, is_ready, is_ready_leaf}
use Rattle.clap.specs.Faults.{has_free_rules}
use Rattle.clap.specs.Facts.{args_of, least_values}
use Rattle.clap.specs.Built.{IsParsedFrom, IsPlain}
use Rattle.clap.specs.Matches.{first_value, matched_of, one_text}
use Rattle.clap.specs.declared.builder.action.ArgAction.TheVariants.{Set}
use Rattle.clap.specs.declared.builder.arg.Arg.{Arg}
use Rattle.clap.specs.declared.builder.command.Command.{Command}
use Rattle.clap.specs.declared.builder.command.Command.TheViews.{out-Command}
use Rattle.clap.specs.declared.parser.matches.ArgMatches.{ArgMatches}
use Rattle.clap.proofs.SimpleLemmas.{ready_simple, simple_groups}
use Rattle.clap.proofs.FaultLemmas.{free_args}
use Rattle.clap.proofs.WalkLemmas.{first_value-rows, list_any-map, one_text-rows}
use Rattle.clap.specs.Words.{IsUnsignedIn, same_text}
use Rattle.clap.specs.declared.builder.value_parser.ValueParser.TheVariants as parser
use Rattle.acsub.specs.Args.Command.{HasNames, Lists, Names, command, command_with, depth_rule, engine_names, engine_rule, greatest_depth, kind_names, kind_rule, mode_names, mode_rule}
use Rattle.clap.specs.declared.error.Error.{Error}
use Rattle.clap.specs.declared.error.kind.ErrorKind.TheVariants as kind
use Rattle.acsub.specs.declared.args.WordsFault.{WordsFault}
use Rattle.acsub.specs.declared.args.WordsFault.TheVariants.{Help, Bad, Memory, Pairing}
use Rattle.acsub.specs.Args.Words.{IsShown, IsWordsFault, IsTyped, Parses, engine_named, engine_of, kind_named, match_kind_of, mode_named, mode_of}
use Rattle.std.proofs.Common.{lit<}
use Rattle.acsub.proofs.args.PlaceLemmas.{same_fault, same_matches}
use Rattle.acsub.proofs.args.TypedLemmas.{IsOwn, entry_there, first_accepted, has_value, same_reading}
use Rattle.clap.proofs.CallerLemmas.{default_present, present_has_entry, required_present}
use Rattle.clap.specs.Texts.{items_of}

-- ---- the command as clap's builder made it

module _ (old : Command) (lists : Lists) (is : app_of old ≡ command_with lists) where
  simple_of : IsSimple old
  simple_of =
      ready_simple old (subst (λ a. is_ready a.top ≡ true) (sym is) refl)
      (subst (λ a. list_all is_ready_leaf a.subs ≡ true) (sym is) refl)

  plain_of : IsPlain old
  plain_of =
      let free = free_args old simple_of (subst (λ a. has_free_rules a.top ≡ true) (sym is) refl) in
      let groups =
      simple_groups old (subst (λ a. list_all (λ (r : Rule). r.is_simple) a.top.rules ≡ true) (sym is) refl) in (
        λ k d lt. ((free k d lt).exclusive, (free k d lt).conflicts, (free k d lt).overrides, groups k d lt),
        simple_of.groups,
      )

  rules_is : map rule_of (args_of old) ≡ (command_with lists).top.rules
  rules_is = ap (λ a. a.top.rules) is

  arg_count : length (args_of old) ≡ 22
  arg_count = sym (length-map (args_of old) rule_of) ∙ ap length rules_is

  rule_at : (k : ℕ) (d : Arg) → k < 22
      → rule_of (slice_index_or (args_of old) k d) ≡ slice_index_or (command_with lists).top.rules k (rule_of d)
  rule_at k d lt =
      let low : k < length (args_of old) = omega (arith, arg_count) in
      sym (get_or-map rule_of (args_of old) k d (rule_of d) low) ∙ ap (λ rs. slice_index_or rs k (rule_of d)) rules_is

-- the ids of the command's arguments, in order
abbrev ids : List Text
ids = codes "mode" ∷ codes "rules" ∷ codes "file" ∷ codes "pattern" ∷ codes "replacement" ∷ codes "text" ∷ codes "escapes"
    ∷ codes "in-place" ∷ codes "count" ∷ codes "fail-if-none" ∷ codes "check" ∷ codes "progress" ∷ codes "stream" ∷ codes "word"
    ∷ codes "with" ∷ codes "kind" ∷ codes "fold" ∷ codes "pairs" ∷ codes "engine" ∷ codes "no-prefilter" ∷ codes "dense-depth"
    ∷ codes "no-byte-classes" ∷ []

-- among the first n ids, none but that of argument k is this text
abbrev only_at : ℕ → ℕ → Text → Bool
only_at zero k id = true
only_at (suc n) k id = (not (bytes_eq (get_or ids n []) id) || (n == k)) && only_at n k id

only_there : (n k j : ℕ) (id : Text) → only_at n k id ≡ true → j < n → bytes_eq (get_or ids j []) id ≡ true → j ≡ k
only_there zero k j id h lt same = absurd (omega arith)
only_there (suc n) k j id h lt same =
    let parts = and_parts _ (only_at n k id) h in
    elim (cases_lt j n) [
      | inl below ↦ only_there n k j id parts.1 below same
      | inr top ↦
          let e : j ≡ n = omega arith in
          let here : bytes_eq (get_or ids n []) id ≡ true = subst (λ i. bytes_eq (get_or ids i []) id ≡ true) e same in
          let test : (n == k) ≡ true = rw here at parts.0 in
          e ∙ eqb-true n k test
    ]

-- the text isn't empty, and is none of clap's own ids
abbrev is_apart : Text → Bool
is_apart id = not (bytes_eq id []) && (not (bytes_eq id (codes "help")) && not (bytes_eq id (codes "version")))

differs : (a b : Text) → not (bytes_eq a b) ≡ true → a ≡ b → ⊥
differs a b h e = let same : bytes_eq a b ≡ true = (bytes_eq-Decides a b).1 e in
    let bad : false ≡ true = rw same at h in true≢false (sym bad)

module _ (old : Command) (lists : Lists) (is : app_of old ≡ command_with lists) where
  id_at : (k : ℕ) (d : Arg) → k < 22 → (slice_index_or (args_of old) k d).id.now ≡ get_or ids k []
  id_at k d lt =
      ap (λ r. r.id) (rule_at old lists is k d lt)
      ∙ sym (get_or-map (λ (r : Rule). r.id) (command_with lists).top.rules k (rule_of d) [] lt)

  -- each argument of the command has an id of its own
  own_at : (k : ℕ) (d : Arg) → k < 22 → only_at 22 k (get_or ids k []) ≡ true → is_apart (get_or ids k []) ≡ true
      → IsOwn old k (slice_index_or (args_of old) k d)
  own_at k d lt only apart =
      let len = arg_count old lists is in
      let low : k < length (args_of old) = omega arith in
      let id = id_at k d lt in
      let parts = and_parts _ _ apart in
      let flags = and_parts _ _ parts.1 in
      record {
        lt = low;
        at = λ e. get_or_default (args_of old) k e d low;
        unique = λ j e high same.
            let small : j < 22 = subst (λ n. j < n) len high in
            only_there 22 k j (get_or ids k []) only small (rw (← id_at j e small, ← id) same);
        named = λ e. differs _ _ parts.0 (sym id ∙ e);
        no_flag =
            λ auto. elim auto [ inl h ↦ differs _ _ flags.0 (sym id ∙ h) | inr h ↦ differs _ _ flags.1 (sym id ∙ h) ];
      }

-- ---- the values of an argument

least_is : (a : Arg) → a.num_vals ≡ None → 1 ≤ least_values a
least_is a e = rw e (omega arith)

is_some_of : {X : Type 0} (o : Option X) → is_some o ≡ true → (x : X) × (o ≡ Some x)
is_some_of None h = cc
is_some_of (Some x) h = (x, refl)

text_count : (xs : List (Bor Text)) (t : Text) → texts xs ≡ t ∷ [] → 0 < length xs
text_count [] t e = cc
text_count (x ∷ xs) t e = omega arith

-- if each name has a property, a text that is one of the names has it
any_named : (names : List Text) (P : Text → Bool) (t : Text) → list_any (λ n. bytes_eq n t) names ≡ true
    → list_all P names ≡ true → P t ≡ true
any_named [] P t h all = cc
any_named (n ∷ ns) P t h all = go (bytes_eq n t) refl (any_named ns P t)
  where
    go : (b : Bool) → bytes_eq n t ≡ b → (list_any (λ n. bytes_eq n t) ns ≡ true → list_all P ns ≡ true → P t ≡ true)
        → P t ≡ true
    go true e rec = subst (λ u. P u ≡ true) ((bytes_eq-Decides n t).0 e) (and_parts (P n) (list_all P ns) all).0
    go false e rec = rec (rw e at h) (and_parts (P n) (list_all P ns) all).1

head : (xs : List Arg) → 0 < length xs → Arg
head [] lt = absurd (omega arith)
head (x ∷ xs) lt = x

module _ (old : Command) (lists : Lists) (names : HasNames lists) (is : app_of old ≡ command_with lists)
    (m : ArgMatches) (p : IsParsedFrom old m) where
  simple : IsSimple old
  simple = simple_of old lists is

  plain : IsPlain old
  plain = plain_of old lists is

  local : (out-Command old).has_globals ≡ false
  local = simple.globals

  negates : (out-Command old).subcommand_negates_reqs ≡ false
  negates = ap (λ a. a.top.subcommand_negates_reqs) is

  -- an argument that takes a value, and has an entry, has a value
  with_value : (k : ℕ) (d : Arg) → k < 22 → IsOwn old k (slice_index_or (args_of old) k d)
      → (slice_index_or (args_of old) k d).action ≡ Some Set → (slice_index_or (args_of old) k d).num_vals ≡ None
      → is_some (matched_of (found_of m) (slice_index_or (args_of old) k d).id.now) ≡ true
      → is_some (first_value (found_of m) (slice_index_or (args_of old) k d).id.now) ≡ true
  with_value k d lt own set range has =
      has_value old m p plain local k (slice_index_or (args_of old) k d) own set (simple.args k d own.lt).delimiter
      (least_is (slice_index_or (args_of old) k d) range) has

  required_value : (k : ℕ) (d : Arg) → k < 22 → IsOwn old k (slice_index_or (args_of old) k d)
      → (slice_index_or (args_of old) k d).action ≡ Some Set → (slice_index_or (args_of old) k d).num_vals ≡ None
      → (slice_index_or (args_of old) k d).required ≡ true
      → is_some (first_value (found_of m) (slice_index_or (args_of old) k d).id.now) ≡ true
  required_value k d lt own set range required =
      with_value k d lt own set range
      (present_has_entry (found_of m) _ (required_present old m p plain local negates k d own.lt required))

  default_value : (k : ℕ) (d : Arg) (t : Text) → k < 22 → IsOwn old k (slice_index_or (args_of old) k d)
      → (slice_index_or (args_of old) k d).action ≡ Some Set → (slice_index_or (args_of old) k d).num_vals ≡ None
      → texts (items_of (slice_index_or (args_of old) k d).default_vals) ≡ t ∷ []
      → is_some (first_value (found_of m) (slice_index_or (args_of old) k d).id.now) ≡ true
  default_value k d t lt own set range default =
      with_value k d lt own set range
      (entry_there (found_of m) _
      (default_present old m p local k d own.lt ((simple.args k d own.lt).default_ifs, text_count _ t default)))

  -- a value that is one of the names names something
  choice : {X : Type 0} (what : Text → Option X) (k : ℕ) (d : Arg) (id : Text) (ns : Names) (list : List Text)
      → IsOwn old k (slice_index_or (args_of old) k d)
      → ((slice_index_or (args_of old) k d).id.now ≡ id)
      × ((slice_index_or (args_of old) k d).value_parser ≡ Some (parser.Names ns))
      × ((slice_index_or (args_of old) k d).ignore_case ≡ false)
      → texts ns.now ≡ list
      → list_all (λ n. is_some (what n)) list ≡ true
      → is_some (first_value (found_of m) (slice_index_or (args_of old) k d).id.now) ≡ true
      → is_some (option_and_then what (first_of id (rows_of (found_of m)))) ≡ true
  choice what k d id ns list own (at_id, has_parser, exact) are all has =
      let some = is_some_of (first_value (found_of m) (slice_index_or (args_of old) k d).id.now) has in
      let ok = first_accepted old m p plain local k (slice_index_or (args_of old) k d) own (parser.Names ns) has_parser
      some.0 some.1 in
      let one : list_any (λ n. bytes_eq n some.0) list ≡ true =
      ap (λ l. list_any (λ n. bytes_eq n some.0) l) (sym are)
      ∙ sym (list_any-map (λ n. bytes_eq n some.0) (λ s. s.now) ns.now)
      ∙ subst (λ b. list_any (λ name. same_text b name.now some.0) ns.now ≡ true) exact ok in
      let first : first_of id (rows_of (found_of m)) ≡ Some some.0 = sym (first_value-rows (found_of m) id)
      ∙ subst (λ i. first_value (found_of m) i ≡ Some some.0) at_id some.1 in
      rw first (any_named list (λ n. is_some (what n)) some.0 one all)

  an_arg : Arg
  an_arg = head (args_of old) (subst (λ n. 0 < n) (sym (arg_count old lists is)) (lit< tt))

  mode_rule_is : rule_of (slice_index_or (args_of old) 0 an_arg) ≡ mode_rule lists.modes
  mode_rule_is = rule_at old lists is 0 an_arg (lit< tt)

  mode_typed : is_some (mode_of (rows_of (found_of m))) ≡ true
  mode_typed =
      let r = mode_rule_is in
      let own = own_at old lists is 0 an_arg (lit< tt) refl refl in
      choice mode_named 0 an_arg (codes "mode") lists.modes mode_names own
      (ap (λ x. x.id) r, ap (λ x. x.parser) r, ap (λ x. x.ignore_case) r) names.modes refl
      (required_value 0 an_arg (lit< tt) own (ap (λ x. x.action) r) (ap (λ x. x.range) r) (ap (λ x. x.required) r))

  kind_typed : is_some (match_kind_of (rows_of (found_of m))) ≡ true
  kind_typed =
      let r : rule_of (slice_index_or (args_of old) 15 an_arg) ≡ kind_rule lists.kinds =
      rule_at old lists is 15 an_arg (lit< tt) in
      let own = own_at old lists is 15 an_arg (lit< tt) refl refl in
      choice kind_named 15 an_arg (codes "kind") lists.kinds kind_names own
      (ap (λ x. x.id) r, ap (λ x. x.parser) r, ap (λ x. x.ignore_case) r) names.kinds refl
      (default_value 15 an_arg (codes "standard") (lit< tt) own (ap (λ x. x.action) r) (ap (λ x. x.range) r)
      (ap (λ x. x.defaults) r))

  engine_typed : is_some (engine_of (rows_of (found_of m))) ≡ true
  engine_typed =
      let r : rule_of (slice_index_or (args_of old) 18 an_arg) ≡ engine_rule lists.engines =
      rule_at old lists is 18 an_arg (lit< tt) in
      let own = own_at old lists is 18 an_arg (lit< tt) refl refl in
      choice engine_named 18 an_arg (codes "engine") lists.engines engine_names own
      (ap (λ x. x.id) r, ap (λ x. x.parser) r, ap (λ x. x.ignore_case) r) names.engines refl
      (default_value 18 an_arg (codes "auto") (lit< tt) own (ap (λ x. x.action) r) (ap (λ x. x.range) r)
      (ap (λ x. x.defaults) r))

  depth_typed : (t : Text) → one_of (codes "dense-depth") (rows_of (found_of m)) ≡ Some t
      → IsUnsignedIn 0 greatest_depth t
  depth_typed t e =
      let r : rule_of (slice_index_or (args_of old) 20 an_arg) ≡ depth_rule = rule_at old lists is 20 an_arg (lit< tt) in
      let own = own_at old lists is 20 an_arg (lit< tt) refl refl in
      let q = parser.Unsigned 0 greatest_depth in
      let id : (slice_index_or (args_of old) 20 an_arg).id.now ≡ codes "dense-depth" = ap (λ x. x.id) r in
      let same =
      same_reading old m p plain local 20 (slice_index_or (args_of old) 20 an_arg) own q (ap (λ x. x.parser) r) refl in
      let here : one_text (found_of m) (slice_index_or (args_of old) 20 an_arg).id.now ≡ Some t =
      subst (λ i. one_text (found_of m) i ≡ Some t) (sym id) (one_text-rows (found_of m) (codes "dense-depth") ∙ e) in
      first_accepted old m p plain local 20 (slice_index_or (args_of old) 20 an_arg) own q (ap (λ x. x.parser) r) t
      (sym same ∙ here)

  -- the values that clap lets through are those that the program asks for
  pub typed : IsTyped (rows_of (found_of m))
  typed = record {
    mode = mode_typed;
    kind = kind_typed;
    engine = engine_typed;
    dense_depth = depth_typed;
  }

-- ---- clap's result

-- out of memory is no text to show
unshown : ¬ IsShown kind.OutOfMemory
unshown (inl e) = cc
unshown (inr e) = cc

module _ (old : Command) (lists : Lists) (names : HasNames lists) (is : app_of old ≡ command_with lists)
    (words : List Text) where
  simple_and_free : is_simple_and_free (app_of old) ≡ true
  simple_and_free = subst (λ a. is_simple_and_free a ≡ true) (sym is) refl

  fault_is : fault_of (app_of old) words ≡ fault_of command words
  fault_is = ap (λ a. fault_of a words) is ∙ same_fault lists names words

  matches_are : matches_of (app_of old) words ≡ matches_of command words
  matches_are = ap (λ a. matches_of a words) is ∙ same_matches lists names words

  pub parsed : (m : ArgMatches) → (is_simple_and_free (app_of old) ≡ true → fault_of (app_of old) words ≡ [])
      → HasMatchesOf (app_of old) words m → IsParsedFrom old m
      → Parses words (Ok m)
  parsed m fault has p =
      let rows : rows_of (found_of m) ≡ matches_of command words =
      (has (subst (λ a. is_simple a ≡ true) (sym is) refl)).0 ∙ matches_are in
      (sym fault_is ∙ fault simple_and_free, rows, subst IsTyped rows (typed old lists names is m p))

  pub failed : (e : Error) (fault : WordsFault)
      → (is_simple_and_free (app_of old) ≡ true → HasKind (fault_of (app_of old) words) e) → IsWordsFault e fault
      → Parses words (Err fault)
  failed e fault kinds of = go fault of (subst (λ ks. HasKind ks e) fault_is (kinds simple_and_free))
    where
      go : (fault : WordsFault) → IsWordsFault e fault → HasKind (fault_of command words) e → Parses words (Err fault)
      go (Help h) of (inl memory) = absurd (unshown (subst IsShown memory of.1))
      go (Help h) of (inr among) = (
        subst (λ x. IsShown (kind_of x)) (sym of.0) of.1,
        subst (λ x. IsAmong (kind_of x) (fault_of command words)) (sym of.0) among,
      )
      go Bad of (inl memory) = absurd (of.1 memory)
      go Bad of (inr among) = (kind_of e, among, of.0)
      go Memory of has = tt
      go (Pairing x) of has = absurd of
