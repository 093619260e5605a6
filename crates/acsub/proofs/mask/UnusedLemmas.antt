-- Whether some pattern has a byte or its partner, by the rules one after another.
use Rattle.std.proofs.Common.{◌≡◌, ℕ, ◌<◌, true, false, List, [], length, Option, Some, None, is_some, IsTrue, Contains, sym, ap, ◌∙◌, subst, arith}
use Rattle.std.specs.Prelude.{slice_get, slice_index}
use Rattle.std.proofs.lemmas.Bool.Decides.{nat_tests}
use Rattle.std.proofs.lemmas.List.{get_or-map, get_or_default, length-map}
use Rattle.std.proofs.lemmas.Option.{get_or_from_slice_get, slice_get-get_or, slice_get_within}
use Rattle.memchr.specs.Find.{IsFirstByte, Nowhere, Passes, is_byte2}
use Rattle.ac_input.specs.Rules.{Rule}
use Rattle.ac_input.specs.Same.{other, same}
use Rattle.ac_input.proofs.lemmas.SameLemmas.{own-inverse}
use Rattle.acsub.specs.Masked.{IsInNoPattern}
use Rattle.acsub.specs.Rules.Lines.{rule_at}
use Rattle.acsub.specs.Rules.Sides.{rule_patterns}
use Rattle.acsub.specs.declared.args.settings.Settings.{Settings}

-- no byte of the text is this one, or its partner
pub record LacksByte (pairing : List ℕ) (byte : ℕ) (text : List ℕ) : Type 0 where
  pub lacks : (c : ℕ) → Contains text c → ¬ IsTrue (same pairing c byte)

-- a byte is the same as another exactly if it is that one or its partner
passes-same : (pairing : List ℕ) (byte c : ℕ) → IsTrue (same pairing c byte)
    → is_byte2 byte (other pairing byte) c ≡ true
passes-same pairing byte c h = let back = own-inverse pairing c in grind (arith, nat_tests)

same-passes : (pairing : List ℕ) (byte c : ℕ) → is_byte2 byte (other pairing byte) c ≡ true
    → IsTrue (same pairing c byte)
same-passes pairing byte c h = let back = own-inverse pairing byte in grind (arith, nat_tests)

-- a scan for a byte and its partner, where the scanned text is a rule's pattern
pub scan-of : (pairing : List ℕ) (byte partner : ℕ) (scanned text : List ℕ) (found : Option ℕ)
    → partner ≡ other pairing byte → scanned ≡ text → IsFirstByte (is_byte2 byte partner) scanned found
    → IsFirstByte (is_byte2 byte (other pairing byte)) text found
scan-of pairing byte partner scanned text found partners same scan =
    subst (λ t. IsFirstByte (is_byte2 byte (other pairing byte)) t found) same
    (subst (λ b. IsFirstByte (is_byte2 byte b) scanned found) partners scan)

-- a scan that finds neither
lacks-byte : (pairing : List ℕ) (byte : ℕ) (text : List ℕ)
    → Nowhere (Passes (is_byte2 byte (other pairing byte)) text) 0 (length text) → LacksByte pairing byte text
lacks-byte pairing byte text nowhere =
    record {
      lacks = λ c at h. nowhere at.0 (omega arith) at.1
          (subst (λ x. is_byte2 byte (other pairing byte) x ≡ true)
          (sym (get_or_default text at.0 0 c at.1 ∙ at.2)) (passes-same pairing byte c h));
    }

-- the same, by what the scan returns
pub lacks-found : (pairing : List ℕ) (byte : ℕ) (text : List ℕ) (found : Option ℕ)
    → IsFirstByte (is_byte2 byte (other pairing byte)) text found → is_some found ≡ false → LacksByte pairing byte text
lacks-found pairing byte text None nowhere none = lacks-byte pairing byte text nowhere
lacks-found pairing byte text (Some place) first none = cc

module _ (settings : Settings) (rules : List Rule) (byte : ℕ) where
  -- if no rule's pattern has it, none of the patterns does
  pub lacks-all : ((k : ℕ) → k < length rules → LacksByte settings.pairing byte (rule_at rules k).0)
      → IsInNoPattern settings rules byte
  lacks-all each n p c is has =
      let same_len = length-map rules (λ (rule : Rule). rule.0) in
      let within : n < length rules =
      let here = slice_get_within (rule_patterns rules) n p is in omega (arith, same_len) in
      let at : (rule_at rules n).0 ≡ p =
      sym (get_or-map (λ (rule : Rule). rule.0) rules n ([], []) [] within)
      ∙ get_or_from_slice_get (rule_patterns rules) n p [] is in
      (each n within).lacks c (subst (λ q. Contains q c) (sym at) has)

  -- a scan that finds it in the pattern of a rule
  has-byte : (k place : ℕ) → k < length rules → place < length (rule_at rules k).0
      → Passes (is_byte2 byte (other settings.pairing byte)) (rule_at rules k).0 place
      → ¬ IsInNoPattern settings rules byte
  has-byte k place within in_text passes unused =
      let same_len = length-map rules (λ (rule : Rule). rule.0) in
      let p = (rule_at rules k).0 in
      let here : slice_get (rule_patterns rules) k ≡ Some p =
      slice_get-get_or (rule_patterns rules) k [] (omega (arith, same_len))
      ∙ ap Some (get_or-map (λ (rule : Rule). rule.0) rules k ([], []) [] within) in
      unused k p (slice_index p place) here (place, in_text, get_or_default p place (slice_index p place) 0 in_text)
      (same-passes settings.pairing byte (slice_index p place) passes)

  -- the same, by what the scan returns
  pub has-found : (k : ℕ) (found : Option ℕ) → k < length rules
      → IsFirstByte (is_byte2 byte (other settings.pairing byte)) (rule_at rules k).0 found → is_some found ≡ true
      → ¬ IsInNoPattern settings rules byte
  has-found k None within nowhere some = cc
  has-found k (Some place) within first some = has-byte k place within first.0.high first.1
