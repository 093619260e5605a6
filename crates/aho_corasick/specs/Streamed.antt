-- What a replacement over a stream has done at its end.
use Rattle.std.specs.Prelude.{◌≡◌, ℕ, List, ◌++◌, Option, IfSome}
use Rattle.std.specs.Io.KnownBytes.{Appends}
use Rattle.std.specs.List.{concat}
use Rattle.ac_automaton.specs.declared.stream.devices.watched.Watched.{Watched}
use Rattle.aho_corasick.specs.declared.ahocorasick.AhoCorasick.{AhoCorasick}
use Rattle.ac_automaton.specs.InMemory.Replace.{matches_in}
use Rattle.ac_input.specs.Text.{replaced_from}
use Rattle.aho_corasick.specs.AhoCorasick.{as_built}

-- Reads returned these pieces, which are all that a device in memory had left, and the writer took them with each match
-- replaced.
pub record IsStreamReplaced {R W : Type 0} (remaining : R → Option (List ℕ)) (contents : W → Option (List ℕ))
    (ac : AhoCorasick) (replacements : List (List ℕ)) (reader_before reader_after : Watched R)
    (writer_before writer_after : Watched W) : Type 0 where
  pub pieces : List (List ℕ)
  pub read : reader_after.pieces.items ≡ reader_before.pieces.items ++ pieces
  pub whole : IfSome (remaining reader_before.inner) (λ text. text ≡ concat pieces)
  pub taken : writer_after.taken.bytes
      ≡ writer_before.taken.bytes ++ replaced_from 0 (concat pieces) replacements
      (matches_in (as_built ac) (concat pieces))
  pub device : Appends (contents writer_before.inner) (contents writer_after.inner)
      (replaced_from 0 (concat pieces) replacements (matches_in (as_built ac) (concat pieces)))
