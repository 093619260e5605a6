-- What a caller concludes about an automaton that was built, and about a replacement that succeeded.
use Rattle.std.proofs.Common.{◌≡◌, ℕ, false, List, Result, Ok, Err, ap, subst, sym, ◌∙◌}
use Rattle.std.specs.Prelude.{IfOk, OnOk}
use Rattle.std.specs.Global.{Vec}
use Rattle.std.specs.declared.alloc.AllocError.{AllocError}
use Rattle.ac_input.specs.declared.search.MatchKind.{MatchKind}
use Rattle.ac_input.specs.Dictionary.{dictionary_of}
use Rattle.ac_input.specs.Same.{IsUnpaired}
use Rattle.ac_automaton.specs.InMemory.Replace.{MemoryReplacer, IsReplacedWith, matches_in}
use Rattle.ac_noncontiguous.specs.declared.error.BuildErrorKind.{BuildErrorKind}
use Rattle.aho_corasick.specs.declared.ahocorasick.AhoCorasick.{AhoCorasick}
use Rattle.aho_corasick.specs.declared.ahocorasick.builder.AhoCorasickBuilder.{AhoCorasickBuilder}
use Rattle.aho_corasick.specs.AhoCorasick.{as_built}
use Rattle.aho_corasick.specs.Builder.{AreFrontDefaults}
use Rattle.aho_corasick.specs.Callers.{FindsBytes, IsPlain}
use Rattle.aho_corasick.specs.Replaced.{AppendsBytes}
use Rattle.aho_corasick.specs.Served.{IsFrontBuilt, IsFrontBuiltByDefault}

-- an automaton that is built without a prefilter, with this pairing and this kind, is plain
pub front-plain : (b : AhoCorasickBuilder) (patterns : List (List ℕ)) (pairing : List ℕ) (kind : MatchKind)
    (r : Result AhoCorasick BuildErrorKind) → IfOk r (IsFrontBuilt b patterns) → b.settings.prefilter ≡ false
    → b.settings.match_kind ≡ kind → b.settings.pairing ≡ pairing
    → IfOk r (λ ac. IsPlain patterns pairing kind (as_built ac))
front-plain b patterns pairing kind (Ok ac) built off by paired = (
  built.dictionary ∙ ap (λ bytes. dictionary_of patterns bytes b.settings.match_kind) paired
      ∙ ap (dictionary_of patterns pairing) by,
  built.prefilter.off off,
)
front-plain b patterns pairing kind (Err error) built off by paired = tt

-- an automaton that is built by the settings that a builder has at first
pub built-by_default : (b : AhoCorasickBuilder) (patterns : List (List ℕ)) (r : Result AhoCorasick BuildErrorKind)
    → AreFrontDefaults b
    → IfOk r (IsFrontBuilt b patterns) → IfOk r (IsFrontBuiltByDefault patterns)
built-by_default b patterns (Ok ac) first built =
    record { builder = b; defaults = first; built = built; starts = built.starts ∙ first.settings.start_kind }
built-by_default b patterns (Err error) first built = tt

-- it finds standard matches, byte for byte
pub finds-by_default : (b : AhoCorasickBuilder) (patterns : List (List ℕ)) (r : Result AhoCorasick BuildErrorKind)
    → AreFrontDefaults b
    → IfOk r (IsFrontBuilt b patterns) → IfOk r (λ ac. FindsBytes patterns (as_built ac).dictionary)
finds-by_default b patterns (Ok ac) first built =
    let set = first.settings in
    let is = built.dictionary in (
      ap (λ m. m.patterns) is,
      ap (λ m. m.kind) is ∙ set.match_kind,
      subst (λ m. IsUnpaired m.pairing) (sym is) set.pairing,
    )
finds-by_default b patterns (Err error) first built = tt

-- what a replacement that succeeds has appended
pub if-appended : {F : Type 0} (g : MemoryReplacer F (Vec ℕ)) (ac : AhoCorasick) (bytes : List ℕ) (f : F)
    (old new : Vec ℕ) (r : Result (Unit {0}) AllocError) → AppendsBytes g ac bytes f old new r
    → OnOk r (IsReplacedWith (λ v. v.items) g bytes (matches_in (as_built ac) bytes) f old new)
if-appended {F} g ac bytes f old new (Ok done) appends = appends
if-appended {F} g ac bytes f old new (Err error) appends = tt
