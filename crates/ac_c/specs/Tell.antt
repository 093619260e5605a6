-- What an automaton reports about itself.
use Rattle.std.specs.Prelude.{◌≡◌, ◌⊎◌, ℕ, ◌<◌, ◌≤◌, [], length, get_or}
use Rattle.ac_input.specs.declared.search.MatchKind.{MatchKind}
use Rattle.ac_input.specs.declared.search.MatchKind.TheVariants.{Standard, LeftmostFirst, LeftmostLongest}
use Rattle.ac_input.specs.declared.search.StartKind.{StartKind}
use Rattle.ac_input.specs.declared.search.StartKind.TheVariants.{Unanchored, Anchored, Both}
use Rattle.ac_input.specs.Number.{greatest_number}
use Rattle.ac_input.specs.Work.{longest, shortest}
use Rattle.aho_corasick.specs.AhoCorasick.{patterns_of, pattern_count, kind_of, start_kind_of, serving_engine}
use Rattle.aho_corasick.specs.Engine.{kind_served}
use Rattle.aho_corasick.specs.declared.ahocorasick.AhoCorasick.{AhoCorasick}
use Rattle.aho_corasick.specs.declared.ahocorasick.AhoCorasickKind.{AhoCorasickKind}
use Rattle.aho_corasick.specs.declared.ahocorasick.AhoCorasickKind.TheVariants.{NoncontiguousNFA, ContiguousNFA, DFA}
use Rattle.ac_c.specs.declared.replace.Length.{Length}
use Rattle.ac_c.specs.declared.tell.About.{About}
use Rattle.ac_c.specs.Status.{ok, bad_pattern}

abbrev pub kind_number : MatchKind → ℕ
kind_number Standard = 0
kind_number LeftmostFirst = 1
kind_number LeftmostLongest = 2

abbrev pub start_number : StartKind → ℕ
start_number Unanchored = 0
start_number Anchored = 1
start_number Both = 2

abbrev pub engine_number : AhoCorasickKind → ℕ
engine_number NoncontiguousNFA = 1
engine_number ContiguousNFA = 2
engine_number DFA = 3

-- what an automaton was built of, and its kinds; the memory it takes isn't specified
pub record TellsAbout (ac : AhoCorasick) (about : About) : Type 0 where
  pub patterns : about.patterns ≡ pattern_count ac
  pub shortest : about.shortest ≡ shortest (patterns_of ac)
  pub longest : about.longest ≡ longest (patterns_of ac)
  pub kind : about.kind ≡ kind_number (kind_of ac)
  pub start_kind : about.start_kind ≡ start_number (start_kind_of ac)
  pub engine : about.engine ≡ engine_number (kind_served (serving_engine ac))

-- The length of pattern n, if there is one. No number past the greatest is a pattern's.
abbrev pub AnswersLength : AhoCorasick → ℕ → Length → Type 0
AnswersLength ac pattern told =
    ((pattern < pattern_count ac) × (pattern ≤ greatest_number)
    × (told ≡ record { len = length (get_or (patterns_of ac) pattern []); status = ok }))
    ⊎ (((pattern_count ac ≤ pattern) ⊎ (greatest_number < pattern)) × (told ≡ record { len = 0; status = bad_pattern }))
