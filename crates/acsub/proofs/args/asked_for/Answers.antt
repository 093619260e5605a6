use Rattle.std.proofs.Common.{rules, ◌≡◌, ◌∙◌, sym, ap, refl, ℕ, Bool, true, false, Option, Some, None, Result, Ok, Err, codes, is_some}
use Rattle.std.specs.Prelude.{option_map}
use Rattle.std.specs.Str.Parse.{ExplainsUnsignedError, HasUnsignedDigitsIfOk, ParsesUnsigned}
use Rattle.clap.specs.Words.{IsUnsignedIn, ReadsOne, Text, found_of, one_of, rows_of}
use Rattle.clap.proofs.WalkLemmas.{one_text-rows}
use Rattle.acsub.specs.Args.Words.{number_of}
use Rattle.acsub.specs.Args.Command.{greatest_depth}
use Rattle.acsub.proofs.args.asked_for.Goals as goal

-- a number that clap accepts is read as that number
depth_read : {E : Type 0} (gives : Text → Result ℕ E → Type 0) (o : Option Text) (r : Option ℕ) → (o ≡ None → r ≡ None)
    → ((t : Text) → o ≡ Some t → ReadsOne gives t r)
    → ((t : Text) (x : Result ℕ E) → gives t x → ParsesUnsigned 64 10 t x)
    → ((t : Text) → o ≡ Some t → IsUnsignedIn 0 greatest_depth t) → option_map number_of o ≡ r
depth_read gives None r none read parses fits = sym (none refl)
depth_read gives (Some t) (Some v) none read parses fits = ap Some (sym (parses t (Ok v) (read t refl)).1)
depth_read gives (Some t) None none read parses fits =
    let failed = read t refl in
    let in_range = fits t refl in
    absurd (parses t (Err failed.0) failed.1 (in_range.0, in_range.1))

-- there is no misuse
none-of : {X : Type 0} (o : Option X) (some : Bool) → some ≡ is_some o → some ≡ false → o ≡ None
none-of None some is none = refl
none-of (Some x) some is none = let bad : true ≡ false = sym is ∙ none in cc

pub returns : goal.returns
returns c =
    let f = found_of c.args.matches.now in
    let same = one_text-rows f (codes "dense-depth") in
    record {
      mode = search rules;
      proper = sym c.misuse_of.ensures ∙ none-of c.misuse_of.result c.is_some.result c.is_some.ensures c.if-is_some.false;
      source = c.source_of.ensures;
      patterns = c.in_ok-values_of.ensures;
      replacements = c.in_ok-values_of-2.ensures;
      files = c.in_ok-files_of.ensures;
      escapes = search rules;
      in_place = search rules;
      count = search rules;
      fail_if_none = search rules;
      check = search rules;
      progress = search rules;
      text = search rules;
      stream = search rules;
      word = search rules;
      kind = search rules;
      engine = search rules;
      dense_depth =
          depth_read (λ bs r. ParsesUnsigned 64 10 bs r × ExplainsUnsignedError 10 bs r × HasUnsignedDigitsIfOk bs r)
          (one_of (codes "dense-depth") (rows_of f)) c.get_one.result (λ e. c.get_one.ensures.none (same ∙ e))
          (λ t e. c.get_one.ensures.value t (same ∙ e))
          (λ t x g. g.0) c.requires.dense_depth;
      prefilter = search rules;
      byte_classes = search rules;
      pairing = c.in_ok-pairing.ensures;
      mask = c.in_ok-mask.ensures;
    }
