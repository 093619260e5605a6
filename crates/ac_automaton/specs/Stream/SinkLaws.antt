-- The laws of the sinks: what they take one after another, they take.
use Rattle.std.specs.Prelude.{◌≡◌, ℕ, List, [], ◌++◌, Option, Ok, Result}
use Rattle.std.proofs.Common.{refl, sym, ◌∙◌, subst, append_assoc}
use Rattle.ac_input.specs.Occurrence.{Occurrence}
use Rattle.ac_automaton.specs.Stream.Devices.Moved.{HasTaken}
use Rattle.ac_automaton.specs.Stream.Devices.Output.{Sent}
use Rattle.ac_automaton.specs.Stream.Devices.SendLaws.{Sent-none, Sent-then, taken-none, taken-then}
use Rattle.ac_automaton.specs.InMemory.Replace.{RepliesAt, Replacer}
use Rattle.ac_automaton.specs.Stream.ReplaceWith.{CallsAt}
use Rattle.ac_automaton.specs.Stream.Texts.{SendsOn, Texts, replacing}
use Rattle.ac_automaton.specs.declared.error.StreamError.{StreamError}
use Rattle.ac_automaton.specs.declared.stream.replace_with.Calling.{Calling}
use Rattle.ac_automaton.specs.declared.stream.devices.watched.Watched.{Watched}

-- what is made of pieces of a text, one after another, is what is made of the text
pub record IsPiecewise (made : Texts) : Type 0 where
  pub none : made.plain [] ≡ []
  pub joins : ((bytes more : List ℕ) → made.plain (bytes ++ more) ≡ made.plain bytes ++ made.plain more)
  pub precedes : ((bytes before : List ℕ) (o : Occurrence)
      → made.made (bytes ++ before) o ≡ made.plain bytes ++ made.made before o)

-- replacement is made piece by piece
pub replacing-piecewise : (replacements : List (List ℕ)) → IsPiecewise (replacing replacements)
replacing-piecewise replacements =
    record {
      none = refl;
      joins = λ bytes more. refl;
      precedes = λ bytes before o. append_assoc bytes before _;
    }

-- ---- sinks that send text

module _ {K W : Type 0} {contents : W → Option (List ℕ)} {output : K → List ℕ} {texts : K → Texts} where
  -- nothing was sent
  pub SendsOn-none : {z : K × Watched W} {bytes : List ℕ} → bytes ≡ [] → SendsOn contents output texts z bytes z
  SendsOn-none {z} is = record {
    sent = subst (Sent contents z.1 z.1 (output z.0) (output z.0)) (sym is) Sent-none;
    same = refl;
  }

  -- bytes were sent, and then more
  pub SendsOn-then : {z mid last : K × Watched W} {bytes more : List ℕ} → SendsOn contents output texts z bytes mid
      → SendsOn contents output texts mid more last → SendsOn contents output texts z (bytes ++ more) last
  SendsOn-then a b = record { sent = Sent-then a.sent b.sent; same = b.same ∙ a.same }

  module _ (laws : ((k : K) → IsPiecewise (texts k))) where
    -- before anything happens, what is made of no bytes was sent
    pub sending-begins : (z : K × Watched W) → SendsOn contents output texts z ((texts z.0).plain []) z
    sending-begins z = SendsOn-none (laws z.0).none

    -- what is made of bytes, and then of more, is what is made of both
    pub sending-joins : (z mid last : K × Watched W) (bytes more : List ℕ)
        → SendsOn contents output texts z ((texts z.0).plain bytes) mid
        → SendsOn contents output texts mid ((texts mid.0).plain more) last
        → SendsOn contents output texts z ((texts z.0).plain (bytes ++ more)) last
    sending-joins z mid last bytes more a b =
        let next = subst (λ (t : Texts). SendsOn contents output texts mid (t.plain more) last) a.same b in
        subst (λ (t : List ℕ). SendsOn contents output texts z t last) (sym ((laws z.0).joins bytes more))
        (SendsOn-then a next)

    -- what is made of bytes, and then of an item, is what is made of the item with the bytes before it
    pub sending-precedes : (z mid last : K × Watched W) (bytes before matched : List ℕ) (o : Occurrence)
        → SendsOn contents output texts z ((texts z.0).plain bytes) mid
        → SendsOn contents output texts mid ((texts mid.0).made before o) last
        → SendsOn contents output texts z ((texts z.0).made (bytes ++ before) o) last
    sending-precedes z mid last bytes before matched o a b =
        let next = subst (λ (t : Texts). SendsOn contents output texts mid (t.made before o) last) a.same b in
        subst (λ (t : List ℕ). SendsOn contents output texts z t last) (sym ((laws z.0).precedes bytes before o))
        (SendsOn-then a next)

-- ---- the closure's sink

module _ {F W : Type 0} {contents : W → Option (List ℕ)} where
  -- before anything happens, no bytes were taken
  pub calling-begins : (z : Calling F × Watched W) → (z.0 ≡ z.0) × HasTaken contents z.1 z.1 [] 0 0
  calling-begins z = (refl, taken-none)

  -- bytes that are taken one after another are taken
  pub calling-joins : (z mid last : Calling F × Watched W) (bytes more : List ℕ)
      → (mid.0 ≡ z.0) × HasTaken contents z.1 mid.1 bytes 0 0
      → (last.0 ≡ mid.0) × HasTaken contents mid.1 last.1 more 0 0
      → (last.0 ≡ z.0) × HasTaken contents z.1 last.1 (bytes ++ more) 0 0
  calling-joins z mid last bytes more a b = (b.0 ∙ a.0, taken-then a.1 b.1)

  -- bytes that are taken, and then an item, are the bytes before it
  pub calling-precedes : {g : Replacer F (Watched W) (Result (Unit {0}) StreamError)}
      (z mid last : Calling F × Watched W) (bytes before matched : List ℕ) (o : Occurrence)
      → (mid.0 ≡ z.0) × HasTaken contents z.1 mid.1 bytes 0 0
      → CallsAt contents g mid before o matched (Ok tt) last
      → CallsAt contents g z (bytes ++ before) o matched (Ok tt) last
  calling-precedes {g} z mid last bytes before matched o a b = (
    b.0,
    taken-then a.1 b.1,
    subst (λ (k : Calling F). RepliesAt g k.f o matched b.0 (Ok tt) last.0.f last.1) a.0 b.2,
  )
