-- The laws of an automaton hold of whichever serves, since they hold of each; and so of what it was built as, wherever
-- that stands.
use Rattle.std.specs.Prelude.{◌≡◌, ◌↔◌, ℕ, IsTrue, List}
use Rattle.std.proofs.Common.{subst, sym}
use Rattle.ac_input.specs.declared.search.Anchored.{Anchored}
use Rattle.ac_input.specs.Tells.{Tells}
use Rattle.ac_automaton.specs.Automaton.{Built, IsSpecial}
use Rattle.aho_corasick.specs.declared.engine.Engine.{Engine}
use Rattle.aho_corasick.specs.declared.engine.Engine.TheVariants.{Noncontiguous, Contiguous, Dfa}
use Rattle.aho_corasick.specs.Engine.{engine_built_as, IsEngineRead, engine_matches_at, is_engine_start_at, is_engine_special_at}

-- the list of a state has the patterns that the definitions require
engine-tells : (engine : Engine) (anchored : Anchored) (text : List ℕ) (sid : ℕ) → IsEngineRead engine anchored text sid
    → Tells (engine_built_as engine).dictionary anchored text (engine_matches_at engine sid)
engine-tells (Noncontiguous nfa) anchored text sid reads = reads.tells
engine-tells (Contiguous nfa) anchored text sid reads = reads.tells
engine-tells (Dfa dfa) anchored text sid reads = reads.tells

pub read-tells : (engine : Engine) (b : Built) → b ≡ engine_built_as engine
    → (anchored : Anchored) (text : List ℕ) (sid : ℕ) → IsEngineRead engine anchored text sid
    → Tells b.dictionary anchored text (engine_matches_at engine sid)
read-tells engine b is anchored text sid reads =
    subst (λ (c : Built). Tells c.dictionary anchored text (engine_matches_at engine sid)) (sym is)
    (engine-tells engine anchored text sid reads)

-- a state is special exactly if a search has more to do there than to read on
engine-stops : (engine : Engine) (anchored : Anchored) (text : List ℕ) (sid : ℕ) → IsEngineRead engine anchored text sid
    → (IsTrue (is_engine_special_at engine sid)
    ↔ IsSpecial (engine_built_as engine) (engine_matches_at engine sid) (is_engine_start_at engine sid) anchored text)
engine-stops (Noncontiguous nfa) anchored text sid reads = reads.stops
engine-stops (Contiguous nfa) anchored text sid reads = reads.stops
engine-stops (Dfa dfa) anchored text sid reads = reads.stops

pub read-stops : (engine : Engine) (b : Built) → b ≡ engine_built_as engine
    → (anchored : Anchored) (text : List ℕ) (sid : ℕ) → IsEngineRead engine anchored text sid
    → (IsTrue (is_engine_special_at engine sid)
    ↔ IsSpecial b (engine_matches_at engine sid) (is_engine_start_at engine sid) anchored text)
read-stops engine b is anchored text sid reads =
    subst (λ (c : Built).
    (IsTrue (is_engine_special_at engine sid)
    ↔ IsSpecial c (engine_matches_at engine sid) (is_engine_start_at engine sid) anchored text)) (sym is)
    (engine-stops engine anchored text sid reads)
