-- The values of an argument: those that the matches hold, and whether there are any.
use Rattle.std.proofs.Common.{◌≡◌, ◌∙◌, ◌==◌, Bool, true, false, not, List, [], ◌∷◌, ◌++◌, length, Option, Some, None, is_some, arith, refl, sym, ap, codes}
use Rattle.std.specs.Prelude.{◌≢◌, find, option_and_then, option_map, slice_get, unwrap_or}
use Rattle.std.specs.Str.{bytes_eq}
use Rattle.std.specs.Borrow.{Bor}
use Rattle.std.proofs.lemmas.Bool.{eqb-true}
use Rattle.std.proofs.lemmas.List.{length-map, map-append}
use Rattle.clap.specs.Words.{Row, Text, first_of}
use Rattle.clap.specs.Walk.{is_empty, texts}
use Rattle.acsub.specs.Args.Misuse.{misuse_of}
use Rattle.acsub.specs.Args.Values.{has_values}

-- the values that were found
pub found-values : (found : Option (Bor (List (Bor Text)))) (values : Bor (List (Bor Text))) (all : Option (List Text))
    → option_map (λ s. texts s.now) found ≡ all → found ≡ Some values → texts values.now ≡ unwrap_or all []
found-values found values all same is = ap (λ o. unwrap_or o []) (ap (option_map (λ s. texts s.now)) (sym is) ∙ same)

-- there are none
pub no-values : (found : Option (Bor (List (Bor Text)))) (all : Option (List Text))
    → option_map (λ s. texts s.now) found ≡ all → found ≡ None → [] ≡ unwrap_or all []
no-values found all same is = ap (λ o. unwrap_or o []) (ap (option_map (λ s. texts s.now)) (sym is) ∙ same)

-- a list of references is as long as their texts
pub same-length : (values : List (Bor Text)) (all : List Text) → texts values ≡ all → length values ≡ length all
same-length values all same = sym (length-map values (λ s. s.now)) ∙ ap length same

-- a list that isn't empty, and one that is
pub some-there : (xs : List Text) → not (is_empty xs) ≡ true → xs ≢ []
some-there [] h e = cc
some-there (x ∷ xs) h e = cc

pub none-there : (xs : List Text) → not (is_empty xs) ≡ false → xs ≡ []
none-there [] h = refl
none-there (x ∷ xs) h = absurd (go (length (x ∷ xs) == 0) refl h)
  where
    go : (b : Bool) → (length (x ∷ xs) == 0) ≡ b → not b ≡ false → ⊥
    go true is e = let zero : length (x ∷ xs) ≡ 0 = eqb-true _ _ is in omega arith
    go false is e = cc

-- an argument with values has a first one
pub has-first : (id : Text) (rows : List Row) → has_values id rows ≡ true → is_some (first_of id rows) ≡ true
has-first id rows = go (find (λ r. bytes_eq r.id id) rows)
  where
    values : (xs : List Text) → not (is_empty xs) ≡ true → is_some (slice_get xs 0) ≡ true
    values [] h = cc
    values (x ∷ xs) h = refl

    go : (o : Option Row) → not (is_empty (unwrap_or (option_map (λ (r : Row). r.values) o) [])) ≡ true
        → is_some (option_and_then (λ (r : Row). slice_get r.values 0) o) ≡ true
    go None h = cc
    go (Some r) h = values r.values h

-- where nothing is misused and there is no pattern, there is a path of the rules
pub has-path : (rows : List Row) → misuse_of rows ≡ None → has_values (codes "pattern") rows ≡ false
    → is_some (first_of (codes "rules") rows) ≡ true
has-path rows proper none = go (has_values (codes "rules") rows) refl
  where
    go : (b : Bool) → has_values (codes "rules") rows ≡ b → is_some (first_of (codes "rules") rows) ≡ true
    go true is = has-first (codes "rules") rows is
    go false is = let bad : Some _ ≡ None = rw (none, is) at proper in cc

-- the texts of two lists, one after the other
pub joined-texts : (xs ys zs : List (Bor Text)) (a b : List Text) → zs ≡ xs ++ ys → texts xs ≡ a → texts ys ≡ b
    → texts zs ≡ a ++ b
joined-texts xs ys zs a b is one two =
    ap texts is ∙ map-append (λ s. s.now) xs ys ∙ ap (λ l. l ++ texts ys) one ∙ ap (λ l. a ++ l) two
