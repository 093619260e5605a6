-- clap reads the texts of a list of names, but not the addresses of the names.
use Rattle.std.proofs.Common.{◌≡◌, ◌∙◌, ◌&&◌, ◌||◌, ◌==◌, ℕ, zero, suc, Bool, false, not, refl, sym, ap, ap₂, List, [], ◌∷◌, map, length, drop, Option, Some, None, is_some}
use Rattle.std.specs.Prelude.{encode_utf8, fold, option_map, slice_get, if◌then◌else◌}
use Rattle.std.specs.List.{list_any}
use Rattle.std.specs.Option.{option_map_or}
use Rattle.std.specs.Str.{bytes_eq, chars}
use Rattle.std.specs.Borrow.{Bor}
use Rattle.clap.specs.Lexer.{long_of, short_of}
use Rattle.clap.specs.Values.{reading_of, refused_kind, same_text}
use Rattle.clap.specs.ValueTests.{accepts}
use Rattle.clap.specs.Facts.{parser_of_value}
use Rattle.acsub.specs.Args.Command.{HasNames, Lists, as_names, command, command_with, engine_names, kind_names, mode_names}
use Rattle.acsub.specs.Args.Command.{Names as NameList}
use Rattle.clap.specs.Walk.{Held, Names, Outcome, Row, Rule, Step, Text, Waiting, Walk, action_of, after_flag, after_step, arg_by_id, arg_by_index, arg_by_long, arg_by_short, attached_value, bundle_met, bundle_step, default_rows, done, finished, flag_met, has_row, idle, is_empty, is_multiple, is_pending, long_met, long_or_other, next, next_position, nothing_held, option, option_met, option_word, plain, plain_word, positional, pushed, reacted, refused, rows_after, settled, settled_rows, short_met, short_or_plain, subcommand, subcommand_met, subcommand_or_other, takes_several, takes_values, texts, to_positional, trailing, used, used_as, used_by_id, value, values_or_missing, waits, walk, walk_from, walked, walked_from, with_default, word_met}
use Rattle.clap.specs.Simple.{Shape, built, matches_of}
use Rattle.clap.specs.Takes.{is_given}
use Rattle.clap.specs.Kinds.{Kinds, check_kinds, or_else, request_kinds, value_kinds, values_kinds}
use Rattle.clap.specs.Faults.{action_fault, bundle_fault, bundle_step_fault, check_fault, default_fault, defaults_fault, fault_of, flag_word_fault, flags_fault, level_fault, long_fault, option_fault, other_fault, positional_fault, react_fault, repeat_fault, settle_fault, short_fault, step_fault, stray_fault, turn_fault, use_fault, walk_fault, word_fault}
use Rattle.clap.specs.declared.builder.action.ArgAction.{ArgAction}
use Rattle.clap.specs.declared.builder.action.ArgAction.TheVariants as action
use Rattle.clap.specs.declared.builder.value_parser.ValueParser.{ValueParser}
use Rattle.clap.specs.declared.builder.value_parser.ValueParser.TheVariants as parser
use Rattle.clap.specs.declared.error.kind.ErrorKind.TheVariants as kind
use Rattle.clap.proofs.WalkLemmas.{find-map, list_any-map}
use Rattle.clap.proofs.FaultLemmas.{leaf_fault}

-- ---- a list of names without its address

abbrev pub bare_text : Bor Text → Bor Text
bare_text text = record { ref_ptr = (0, 0); now = text.now }

abbrev pub bare_names : Bor (List (Bor Text)) → Bor (List (Bor Text))
bare_names names = record { ref_ptr = (0, 0); now = map bare_text names.now }

abbrev pub bare_parser : ValueParser → ValueParser
bare_parser (parser.Names names) = parser.Names (bare_names names)
bare_parser parser.String = parser.String
bare_parser parser.NonEmptyString = parser.NonEmptyString
bare_parser parser.Bool = parser.Bool
bare_parser parser.Boolish = parser.Boolish
bare_parser parser.Falsey = parser.Falsey
bare_parser (parser.Signed low high) = parser.Signed low high
bare_parser (parser.Unsigned low high) = parser.Unsigned low high
bare_parser parser.Float = parser.Float
bare_parser parser.Char = parser.Char
bare_parser (parser.Values values) = parser.Values values

abbrev pub bare : Rule → Rule
bare a = record a { parser = option_map bare_parser a.parser }

-- ---- what a parser lets through

accepts_bare : (ignore : Bool) (p : ValueParser) (t : Text) → accepts ignore (bare_parser p) t ≡ accepts ignore p t
accepts_bare ignore (parser.Names names) t =
    sym (list_any-map (λ (name : Bor Text). same_text ignore name.now t) bare_text names.now)
accepts_bare ignore parser.String t = refl
accepts_bare ignore parser.NonEmptyString t = refl
accepts_bare ignore parser.Bool t = refl
accepts_bare ignore parser.Boolish t = refl
accepts_bare ignore parser.Falsey t = refl
accepts_bare ignore (parser.Signed low high) t = refl
accepts_bare ignore (parser.Unsigned low high) t = refl
accepts_bare ignore parser.Float t = refl
accepts_bare ignore parser.Char t = refl
accepts_bare ignore (parser.Values values) t = refl

refused_bare : (p : ValueParser) → refused_kind (bare_parser p) ≡ refused_kind p
refused_bare (parser.Names names) = refl
refused_bare parser.String = refl
refused_bare parser.NonEmptyString = refl
refused_bare parser.Bool = refl
refused_bare parser.Boolish = refl
refused_bare parser.Falsey = refl
refused_bare (parser.Signed low high) = refl
refused_bare (parser.Unsigned low high) = refl
refused_bare parser.Float = refl
refused_bare parser.Char = refl
refused_bare (parser.Values values) = refl

reading_bare : (o : Option ValueParser)
    → reading_of (parser_of_value (option_map bare_parser o)) ≡ reading_of (parser_of_value o)
reading_bare None = refl
reading_bare (Some (parser.Names names)) = refl
reading_bare (Some parser.String) = refl
reading_bare (Some parser.NonEmptyString) = refl
reading_bare (Some parser.Bool) = refl
reading_bare (Some parser.Boolish) = refl
reading_bare (Some parser.Falsey) = refl
reading_bare (Some (parser.Signed low high)) = refl
reading_bare (Some (parser.Unsigned low high)) = refl
reading_bare (Some parser.Float) = refl
reading_bare (Some parser.Char) = refl
reading_bare (Some (parser.Values values)) = refl

value_bare : (ignore : Bool) (o : Option ValueParser) (t : Text)
    → value_kinds ignore (parser_of_value (option_map bare_parser o)) t ≡ value_kinds ignore (parser_of_value o) t
value_bare ignore None t = refl
value_bare ignore (Some p) t = ap₂ (λ ok k. if ok then [] else k ∷ []) (accepts_bare ignore p t) (refused_bare p)

values_bare : (ignore : Bool) (o : Option ValueParser) (ts : List Text)
    → values_kinds ignore (parser_of_value (option_map bare_parser o)) ts ≡ values_kinds ignore (parser_of_value o) ts
values_bare ignore o [] = refl
values_bare ignore o (t ∷ ts) = ap₂ or_else (value_bare ignore o t) (values_bare ignore o ts)

-- ---- one use of an argument

action_bare : (x : ArgAction) (again : Bool) (a : Rule) (values : List Text) (rows : List Row)
    → action_fault x again (bare a) values rows ≡ action_fault x again a values rows
action_bare action.Set again a values rows =
    ap (or_else (repeat_fault again a.id rows)) (values_bare a.ignore_case a.parser values)
action_bare action.SetTrue again a values rows =
    ap (or_else (repeat_fault again a.id rows)) (values_bare a.ignore_case a.parser values)
action_bare action.SetFalse again a values rows =
    ap (or_else (repeat_fault again a.id rows)) (values_bare a.ignore_case a.parser values)
action_bare action.Append again a values rows = values_bare a.ignore_case a.parser values
action_bare action.Count again a [] rows = value_bare a.ignore_case a.parser _
action_bare action.Count again a (v ∷ vs) rows = values_bare a.ignore_case a.parser (v ∷ vs)
action_bare action.Help again a values rows = refl
action_bare action.HelpShort again a values rows = refl
action_bare action.HelpLong again a values rows = refl
action_bare action.Version again a values rows = refl

use_bare : (again : Bool) (a : Rule) (values : List Text) (rows : List Row)
    → use_fault again (bare a) values rows ≡ use_fault again a values rows
use_bare again a values rows = ap (or_else _) (action_bare (action_of a) again a (values_or_missing a values) rows)

used_bare : (a : Rule) (values : List Text) (rows : List Row) → used (bare a) values rows ≡ used a values rows
used_bare a values rows =
    ap (λ how. used_as (action_of a) a.id how (values_or_missing a values) rows) (reading_bare a.parser)

-- what doesn't depend on the addresses of a rule doesn't for a rule that was looked up
over : {X : Type 0} (f : Rule → X) (x : X) → ((a : Rule) → f (bare a) ≡ f a) → (o : Option Rule)
    → option_map_or f (option_map bare o) x ≡ option_map_or f o x
over f x same None = refl
over f x same (Some a) = same a

module _ (c : List Rule) where
  by_id : (id : Text) → arg_by_id (map bare c) id ≡ option_map bare (arg_by_id c id)
  by_id id = sym (find-map (λ (a : Rule). bytes_eq a.id id) bare c)

  by_long : (name : Text) → arg_by_long (map bare c) name ≡ option_map bare (arg_by_long c name)
  by_long name =
      sym (find-map
      (λ (a : Rule). not (is_some a.index)
      && (option_map_or (λ s. bytes_eq s name) a.long false || list_any (λ alias. bytes_eq alias name) a.aliases)) bare
      c)

  by_short : (x : ℕ) → arg_by_short (map bare c) x ≡ option_map bare (arg_by_short c x)
  by_short x =
      sym (find-map
      (λ (a : Rule). not (is_some a.index)
      && (option_map_or (λ s. s == x) a.short false || list_any (λ alias. alias == x) a.short_aliases)) bare c)

  by_index : (i : ℕ) → arg_by_index (map bare c) i ≡ option_map bare (arg_by_index c i)
  by_index i = sym (find-map (λ (a : Rule). option_map_or (λ k. k == i) a.index false) bare c)

  -- ---- the pending argument

  settle_pending : (again : Bool) (rows : List Row) (p : Option (Text × List Text))
      → option_map_or (λ p. option_map_or (λ a. use_fault again a p.1 rows) (arg_by_id (map bare c) p.0) []) p []
      ≡ option_map_or (λ p. option_map_or (λ a. use_fault again a p.1 rows) (arg_by_id c p.0) []) p []
  settle_pending again rows None = refl
  settle_pending again rows (Some p) =
      ap (λ o. option_map_or (λ a. use_fault again a p.1 rows) o []) (by_id p.0)
      ∙ over (λ a. use_fault again a p.1 rows) [] (λ a. use_bare again a p.1 rows) (arg_by_id c p.0)

  settle_bare : (again : Bool) (h : Held) → settle_fault (map bare c) again h ≡ settle_fault c again h
  settle_bare again h = settle_pending again h.rows h.pending

  used_found : (o : Option Rule) (values : List Text) (rows : List Row)
      → used_by_id (option_map bare o) values rows ≡ used_by_id o values rows
  used_found None values rows = refl
  used_found (Some a) values rows = used_bare a values rows

  rows_bare : (p : Option (Text × List Text)) (rows : List Row)
      → settled_rows (map bare c) p rows ≡ settled_rows c p rows
  rows_bare None rows = refl
  rows_bare (Some p) rows = ap (λ o. used_by_id o p.1 rows) (by_id p.0) ∙ used_found (arg_by_id c p.0) p.1 rows

  settled_bare : (h : Held) → settled (map bare c) h ≡ settled c h
  settled_bare h =
      ap (λ rows. let s : Held = record h { rows = rows; pending = None } in s) (rows_bare h.pending h.rows)

  reacted_bare : (a : Rule) (values : List Text) (h : Held)
      → reacted (map bare c) (bare a) values h ≡ reacted c a values h
  reacted_bare a values h =
      ap (λ rows. let s : Held = record h { rows = rows; pending = None } in s)
      (used_bare a values (settled (map bare c) h).rows ∙ ap (λ s. used a values s.rows) (settled_bare h))

  react_bare : (again : Bool) (a : Rule) (values : List Text) (h : Held)
      → react_fault (map bare c) again (bare a) values h ≡ react_fault c again a values h
  react_bare again a values h =
      ap₂ or_else (settle_bare again h)
      (use_bare again a values (settled (map bare c) h).rows
      ∙ ap (λ s. use_fault again a values s.rows) (settled_bare h))

  -- ---- options and flags

  option_bare : (again : Bool) (a : Rule) (v : Option Text) (h : Held)
      → option_fault (map bare c) again (bare a) v h ≡ option_fault c again a v h
  option_bare again a (Some v) h = react_bare again a (v ∷ []) h
  option_bare again a None h = settle_bare again h

  long_bare : (again : Bool) (o : Option Rule) (v : Option Text) (h : Held)
      → long_fault (map bare c) again (option_map bare o) v h ≡ long_fault c again o v h
  long_bare again None v h = refl
  long_bare again (Some a) v h =
      ap₂ (λ x y. if takes_values a then x else (if is_some v then kind.TooManyValues ∷ [] else y))
      (option_bare again a v h) (react_bare again a [] h)

  short_bare : (again : Bool) (o : Option Rule) (rest : Text) (h : Held) (go on : Held → Kinds)
      → ((h : Held) → go h ≡ on h)
      → short_fault (map bare c) again (option_map bare o) rest h go ≡ short_fault c again o rest h on
  short_bare again None rest h go on same = refl
  short_bare again (Some a) rest h go on same =
      ap₂ (λ x y. if takes_values a then x else y) (option_bare again a (attached_value rest) h)
      (ap₂ or_else (react_bare again a [] h) (same (reacted (map bare c) (bare a) [] h) ∙ ap on (reacted_bare a [] h)))

  step_flags : (again : Bool) (x : Option ℕ) (flags : Text) (skip : ℕ) (h : Held) (go on : Text → ℕ → Held → Kinds)
      → ((flags : Text) (skip : ℕ) (h : Held) → go flags skip h ≡ on flags skip h)
      → bundle_step_fault (map bare c) again x flags skip h go ≡ bundle_step_fault c again x flags skip h on
  step_flags again None flags skip h go on same = refl
  step_flags again (Some x) flags zero h go on same =
      let rest = drop (length (encode_utf8 x)) flags in
      ap (λ o. short_fault (map bare c) again o rest h (go rest 0)) (by_short x)
      ∙ short_bare again (arg_by_short c x) rest h (go rest 0) (on rest 0) (λ h. same rest 0 h)
  step_flags again (Some x) flags (suc skip) h go on same = same _ skip h

  flags_bare : (again : Bool) (k : ℕ) (flags : Text) (skip : ℕ) (h : Held)
      → flags_fault (map bare c) again k flags skip h ≡ flags_fault c again k flags skip h
  unfolding flags_fault
  flags_bare again zero flags skip h = refl
  flags_bare again (suc k) flags skip h =
      step_flags again (slice_get (chars flags) 0) flags skip h (flags_fault (map bare c) again k)
      (flags_fault c again k) (λ f s g. flags_bare again k f s g)

  option_met_bare : (a : Rule) (v : Option Text) (h : Held) → option_met (map bare c) (bare a) v h ≡ option_met c a v h
  option_met_bare a (Some v) h = ap (λ s. let p : Held × Outcome = (s, done) in p) (reacted_bare a (v ∷ []) h)
  option_met_bare a None h =
      ap (λ (s : Held). let p : Held × Outcome = (record s { pending = Some (a.id, []) }, waits a.id) in p)
      (settled_bare h)

  flag_met_bare : (a : Rule) (v : Option Text) (h : Held) → flag_met (map bare c) (bare a) v h ≡ flag_met c a v h
  flag_met_bare a (Some v) h = refl
  flag_met_bare a None h = ap (λ s. let p : Held × Outcome = (s, done) in p) (reacted_bare a [] h)

  long_met_bare : (o : Option Rule) (v : Option Text) (h : Held)
      → long_met (map bare c) (option_map bare o) v h ≡ long_met c o v h
  long_met_bare None v h = refl
  long_met_bare (Some a) v h =
      ap₂ (λ x y. if takes_values a then x else y) (option_met_bare a v h) (flag_met_bare a v h)

  short_met_bare : (o : Option Rule) (rest : Text) (h : Held) (go on : Held → Held × Outcome)
      → ((h : Held) → go h ≡ on h)
      → short_met (map bare c) (option_map bare o) rest h go ≡ short_met c o rest h on
  short_met_bare None rest h go on same = refl
  short_met_bare (Some a) rest h go on same =
      ap₂ (λ x y. if takes_values a then x else y) (option_met_bare a (attached_value rest) h)
      (same (reacted (map bare c) (bare a) [] h) ∙ ap on (reacted_bare a [] h))

  step_met : (x : Option ℕ) (flags : Text) (skip : ℕ) (far : Outcome) (h : Held)
      (go on : Text → ℕ → Outcome → Held → Held × Outcome)
      → ((flags : Text) (skip : ℕ) (far : Outcome) (h : Held) → go flags skip far h ≡ on flags skip far h)
      → bundle_step (map bare c) x flags skip far h go ≡ bundle_step c x flags skip far h on
  step_met None flags skip far h go on same = refl
  step_met (Some x) flags zero far h go on same =
      let rest = drop (length (encode_utf8 x)) flags in
      ap (λ o. short_met (map bare c) o rest h (go rest 0 done)) (by_short x)
      ∙ short_met_bare (arg_by_short c x) rest h (go rest 0 done) (on rest 0 done) (λ h. same rest 0 done h)
  step_met (Some x) flags (suc skip) far h go on same = same _ skip far h

  bundle_bare : (k : ℕ) (flags : Text) (skip : ℕ) (far : Outcome) (h : Held)
      → bundle_met (map bare c) k flags skip far h ≡ bundle_met c k flags skip far h
  unfolding bundle_met
  bundle_bare zero flags skip far h = refl
  bundle_bare (suc k) flags skip far h =
      step_met (slice_get (chars flags) 0) flags skip far h (bundle_met (map bare c) k) (bundle_met c k)
      (λ f s o g. bundle_bare k f s o g)

  -- ---- a word

  value_word : (o : Option Rule) (id word : Text) (h : Held)
      → option_word (option_map bare o) id word h ≡ option_word o id word h
  value_word None id word h = refl
  value_word (Some a) id word h = refl

  plain_bare : (waiting : Waiting) (word : Text) (h : Held)
      → plain_word (map bare c) waiting word h ≡ plain_word c waiting word h
  plain_bare idle word h = refl
  plain_bare (option id) word h =
      ap (λ p. let q : Held × Step = (p.0, next p.1) in q)
      (ap (λ o. option_word o id word h) (by_id id) ∙ value_word (arg_by_id c id) id word h)
  plain_bare positional word h = refl

  after_bare : (waiting : Waiting) (word : Text) (h : Held) (o : Outcome)
      → after_flag (map bare c) waiting word h o ≡ after_flag c waiting word h o
  after_bare waiting word h done = refl
  after_bare waiting word h (waits id) = refl
  after_bare waiting word h plain = plain_bare waiting word h
  after_bare waiting word h refused = plain_bare waiting word h

  after_met : (waiting : Waiting) (word : Text) (p q : Held × Outcome) → p ≡ q
      → after_flag (map bare c) waiting word p.0 p.1 ≡ after_flag c waiting word q.0 q.1
  after_met waiting word p q same =
      ap (λ p. after_flag (map bare c) waiting word p.0 p.1) same ∙ after_bare waiting word q.0 q.1

  short_or_plain_bare : (waiting : Waiting) (word : Text) (o : Option Text) (h : Held)
      → short_or_plain (map bare c) waiting word o h ≡ short_or_plain c waiting word o h
  short_or_plain_bare waiting word (Some flags) h =
      after_met waiting word _ _ (bundle_bare (length flags) flags h.skip plain (record h { skip = 0 }))
  short_or_plain_bare waiting word None h = plain_bare waiting word h

  other_word : (waiting : Waiting) (word : Text) (p : Option (Text × Option Text)) (h : Held)
      → long_or_other (map bare c) waiting word p h ≡ long_or_other c waiting word p h
  other_word waiting word (Some p) h =
      after_met waiting word _ _
      (ap (λ o. long_met (map bare c) o p.1 h) (by_long p.0) ∙ long_met_bare (arg_by_long c p.0) p.1 h)
  other_word waiting word None h = short_or_plain_bare waiting word (short_of word) h

  subcommand_bare : (met : Option Text) (waiting : Waiting) (position : ℕ) (word : Text) (h : Held)
      → subcommand_or_other (map bare c) met waiting position word h ≡ subcommand_or_other c met waiting position word h
  subcommand_bare (Some name) waiting position word h = refl
  subcommand_bare None waiting position word h =
      ap (λ x. if bytes_eq word (45 ∷ 45 ∷ []) then (let q : Held × Step = (h, trailing position) in q) else x)
      (other_word waiting word (long_of word) h)

  word_bare : (names : Names) (is_trailing : Bool) (waiting : Waiting) (position : ℕ) (word : Text) (h : Held)
      → word_met (map bare c) names is_trailing waiting position word h
      ≡ word_met c names is_trailing waiting position word h
  word_bare names is_trailing waiting position word h =
      ap (λ x. if is_trailing then (let q : Held × Step = (h, value) in q) else x)
      (subcommand_bare (subcommand_met names waiting word) waiting position word h)

  -- ---- the walk

  positional_bare : (o : Option Rule) (word : Text) (w : Walk) (h : Held)
      → to_positional (map bare c) (option_map bare o) word w h ≡ to_positional c o word w h
  positional_bare None word w h = refl
  positional_bare (Some a) word w h = ap (λ s. let v : Walk = record {
    held = pushed a.id word (if is_pending a h.pending && takes_several a then h else s);
    waiting = if is_multiple a then positional else idle;
    position = next_position a w.position;
    is_trailing = w.is_trailing || a.trailing_var_arg;
    stopped = None;
  } in v) (settled_bare h)

  after_step_bare : (word : Text) (w : Walk) (h : Held) (step : Step)
      → after_step (map bare c) word w h step ≡ after_step c word w h step
  after_step_bare word w h (next waiting) = refl
  after_step_bare word w h (trailing position) = refl
  after_step_bare word w h (subcommand name) = refl
  after_step_bare word w h value =
      ap (λ o. to_positional (map bare c) o word w h) (by_index w.position)
      ∙ positional_bare (arg_by_index c w.position) word w h

  walked_from_bare : (names : Names) (stop : Option (Text × List Text)) (w : Walk) (word : Text)
      → walked_from (map bare c) names stop w word ≡ walked_from c names stop w word
  walked_from_bare names (Some p) w word = refl
  walked_from_bare names None w word =
      let met = word_met c names w.is_trailing w.waiting w.position word w.held in
      ap (λ p. after_step (map bare c) word w p.0 p.1) (word_bare names w.is_trailing w.waiting w.position word w.held)
      ∙ after_step_bare word w met.0 met.1

  walked_bare : (names : Names) (w : Walk) (word : Text) → walked (map bare c) names w word ≡ walked c names w word
  unfolding walked
  walked_bare names w word = walked_from_bare names w.stopped w word

  walks_bare : (names : Names) (w : Walk) (words : List Text)
      → fold (walked (map bare c) names) w words ≡ fold (walked c names) w words
  walks_bare names w [] = refl
  walks_bare names w (word ∷ rest) =
      ap (λ v. fold (walked (map bare c) names) v rest) (walked_bare names w word)
      ∙ walks_bare names (walked c names w word) rest

-- ---- after the words were walked

default_bare : (rows : List Row) (a : Rule) → with_default rows (bare a) ≡ with_default rows a
default_bare rows a =
    ap (λ how. if has_row a.id rows then rows else default_rows a.id how a.defaults rows) (reading_bare a.parser)

defaulted_bare : (rows : List Row) (c : List Rule) → fold with_default rows (map bare c) ≡ fold with_default rows c
defaulted_bare rows [] = refl
defaulted_bare rows (a ∷ rest) =
    ap (λ now. fold with_default now (map bare rest)) (default_bare rows a) ∙ defaulted_bare (with_default rows a) rest

finished_bare : (c : List Rule) (h : Held) → finished (map bare c) h ≡ finished c h
finished_bare c h =
    ap (λ s. fold with_default s.rows (map bare c)) (settled_bare c h) ∙ defaulted_bare (settled c h).rows c

-- what each argument was given doesn't depend on the addresses of names
pub rows_after_bare : (c : List Rule) (names : Names) (words : List Text)
    → rows_after (map bare c) names words ≡ rows_after c names words
rows_after_bare c names words =
    ap (λ w. finished (map bare c) w.held) (walks_bare c names (walk_from nothing_held) words)
    ∙ finished_bare c (walk c names nothing_held words).held

default_fault_bare : (rows : List Row) (a : Rule) → default_fault rows (bare a) ≡ default_fault rows a
default_fault_bare rows a =
    ap (λ x. if has_row a.id rows || is_empty a.defaults then [] else or_else (request_kinds (action_of a)) x)
    (values_bare a.ignore_case a.parser a.defaults)

defaults_bare : (rows : List Row) (c : List Rule) → defaults_fault rows (map bare c) ≡ defaults_fault rows c
unfolding defaults_fault
defaults_bare rows [] = refl
defaults_bare rows (a ∷ rest) =
    ap₂ or_else (default_fault_bare rows a)
    (ap (λ now. defaults_fault now (map bare rest)) (default_bare rows a) ∙ defaults_bare (with_default rows a) rest)

abbrev pub bare_shape : Shape → Shape
bare_shape s = record s { rules = map bare s.rules }

flags_found : (c : List Rule) (again : Bool) (h : Held) (o : Option Text)
    → option_map_or (λ flags. bundle_fault (map bare c) again flags h) o []
    ≡ option_map_or (λ flags. bundle_fault c again flags h) o []
flags_found c again h None = refl
flags_found c again h (Some flags) = flags_bare c again (length flags) flags h.skip (record h { skip = 0 })

flag_word_bare : (c : List Rule) (again : Bool) (p : Option (Text × Option Text)) (word : Text) (h : Held)
    → flag_word_fault (map bare c) again p word h ≡ flag_word_fault c again p word h
flag_word_bare c again (Some p) word h =
    ap (λ o. long_fault (map bare c) again o p.1 h) (by_long c p.0) ∙ long_bare c again (arg_by_long c p.0) p.1 h
flag_word_bare c again None word h = flags_found c again h (short_of word)

other_bare : (s : Shape) (met : Option Text) (word : Text) (h : Held)
    → other_fault (bare_shape s) met word h ≡ other_fault s met word h
other_bare s (Some name) word h = refl
other_bare s None word h =
    ap (λ x. if bytes_eq word (45 ∷ 45 ∷ []) then [] else x)
    (flag_word_bare s.rules s.args_override_self (long_of word) word h)

word_fault_bare : (s : Shape) (names : Names) (is_trailing : Bool) (waiting : Waiting) (word : Text) (h : Held)
    → word_fault (bare_shape s) names is_trailing waiting word h ≡ word_fault s names is_trailing waiting word h
word_fault_bare s names is_trailing waiting word h =
    ap (λ x. if is_trailing then [] else x) (other_bare s (subcommand_met names waiting word) word h)

positional_fault_bare : (c : List Rule) (again : Bool) (a : Rule) (h : Held)
    → positional_fault (map bare c) again (bare a) h ≡ positional_fault c again a h
positional_fault_bare c again a h =
    ap (λ x. if is_pending a h.pending && takes_several a then [] else x) (settle_bare c again h)

step_found : (c : List Rule) (again : Bool) (h : Held) (stray : Kinds) (o : Option Rule)
    → option_map_or (λ a. positional_fault (map bare c) again a h) (option_map bare o) stray
    ≡ option_map_or (λ a. positional_fault c again a h) o stray
step_found c again h stray None = refl
step_found c again h stray (Some a) = positional_fault_bare c again a h

step_bare : (s : Shape) (position : ℕ) (h : Held) (step : Step)
    → step_fault (bare_shape s) position h step ≡ step_fault s position h step
step_bare s position h (next waiting) = refl
step_bare s position h (trailing p) = refl
step_bare s position h (subcommand name) = refl
step_bare s position h value =
    ap (λ o. option_map_or (λ a. positional_fault (map bare s.rules) s.args_override_self a h) o (stray_fault s))
    (by_index s.rules position)
    ∙ step_found s.rules s.args_override_self h (stray_fault s) (arg_by_index s.rules position)

turn_bare : (s : Shape) (names : Names) (w : Walk) (word : Text)
    → turn_fault (bare_shape s) names w word ≡ turn_fault s names w word
turn_bare s names w word =
    let met = word_met s.rules names w.is_trailing w.waiting w.position word w.held in
    ap₂ (λ x y. if is_some w.stopped then [] else or_else x y)
    (word_fault_bare s names w.is_trailing w.waiting word w.held)
    (ap (λ p. step_fault (bare_shape s) w.position p.0 p.1)
    (word_bare s.rules names w.is_trailing w.waiting w.position word w.held) ∙ step_bare s w.position met.0 met.1)

walk_fault_bare : (s : Shape) (names : Names) (w : Walk) (words : List Text)
    → walk_fault (bare_shape s) names w words ≡ walk_fault s names w words
unfolding walk_fault
walk_fault_bare s names w [] = refl
walk_fault_bare s names w (word ∷ rest) =
    ap₂ or_else (turn_bare s names w word)
    (ap (λ v. walk_fault (bare_shape s) names v rest) (walked_bare s.rules names w word)
    ∙ walk_fault_bare s names (walked s.rules names w word) rest)

check_bare : (s : Shape) (rows : List Row) (has : Bool) → check_fault (bare_shape s) rows has ≡ check_fault s rows has
check_bare s rows has =
    ap (λ x.
    check_kinds
    (not has
    && (s.arg_required_else_help
    && not (list_any (λ (r : Row). Rattle.clap.specs.Facts.explicit_source r.source) rows)))
    (not has && s.subcommand_required)
    (not (s.subcommand_negates_reqs && has) && x))
    (sym (list_any-map (λ (a : Rule). a.required && not (is_given a.id rows)) bare s.rules))

-- the faults at one level of a parse don't depend on the addresses of names
pub level_bare : (s : Shape) (names : Names) (h : Held) (words : List Text) (has : Bool) (below : Kinds)
    → level_fault (bare_shape s) names h words has below ≡ level_fault s names h words has below
level_bare s names h words has below =
    let end = (walk s.rules names h words).held in
    ap₂ or_else (walk_fault_bare s names (walk_from h) words)
    (ap (or_else below) (ap (λ w. after (bare_shape s) w.held) (walks_bare s.rules names (walk_from h) words)
    ∙ ap₂ or_else (settle_bare s.rules s.args_override_self end)
    (ap₂ or_else
    (ap (λ g. defaults_fault g.rows (map bare s.rules)) (settled_bare s.rules end)
    ∙ defaults_bare (settled s.rules end).rows s.rules)
    (ap (λ rows. check_fault (bare_shape s) rows has) (finished_bare s.rules end)
    ∙ check_bare s (finished s.rules end) has))))
  where
    after : Shape → Held → Kinds
    after s end =
        or_else (settle_fault s.rules s.args_override_self end)
        (or_else (defaults_fault (settled s.rules end).rows s.rules) (check_fault s (finished s.rules end) has))

-- ---- the program's command

each_bare : (names : List (Bor Text))
    → map bare_text names ≡ map (λ (word : Text). let name : Bor Text = record { ref_ptr = (0, 0); now = word } in name)
    (texts names)
each_bare [] = refl
each_bare (name ∷ names) = ap (λ rest. bare_text name ∷ rest) (each_bare names)

names_bare : (names : NameList) (list : List Text) → texts names.now ≡ list → bare_names names ≡ as_names list
names_bare names list is =
    ap (λ l. let n : Bor (List (Bor Text)) = record { ref_ptr = (0, 0); now = l } in n) (each_bare names.now)
    ∙ ap as_names is

module _ (lists : Lists) (has : HasNames lists) where
  lists_bare : (let l : Lists =
      record { modes = bare_names lists.modes; kinds = bare_names lists.kinds; engines = bare_names lists.engines } in
      l)
      ≡ record { modes = as_names mode_names; kinds = as_names kind_names; engines = as_names engine_names }
  lists_bare =
      λ i. record {
        modes = names_bare lists.modes mode_names has.modes i;
        kinds = names_bare lists.kinds kind_names has.kinds i;
        engines = names_bare lists.engines engine_names has.engines i;
      }

  shape_bare : bare_shape (built (command_with lists)).top ≡ (built command).top
  shape_bare = ap (λ l. (built (command_with l)).top) lists_bare

  -- clap finds the same faults with the words, wherever the lists of names lie
  pub same_fault : (words : List Text) → fault_of (command_with lists) words ≡ fault_of command words
  same_fault words =
      leaf_fault (built (command_with lists)) nothing_held (drop 1 words) refl
      ∙ sym (level_bare (built (command_with lists)).top [] nothing_held (drop 1 words) false [])
      ∙ ap (λ s. level_fault s [] nothing_held (drop 1 words) false []) shape_bare
      ∙ sym (leaf_fault (built command) nothing_held (drop 1 words) refl)

  -- clap finds the same matches in the words, wherever the lists of names lie
  pub same_matches : (words : List Text) → matches_of (command_with lists) words ≡ matches_of command words
  same_matches words =
      sym (rows_after_bare (built (command_with lists)).top.rules [] (drop 1 words))
      ∙ ap (λ s. rows_after s.rules [] (drop 1 words)) shape_bare
