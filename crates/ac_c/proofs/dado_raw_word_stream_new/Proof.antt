-- `dado_raw_word_stream_new` passes on what the pointer lends, and the kind's number.
use mir.Syntax.{w32}
use Rattle.ac_c.proofs.HandingNumber.{lends_handle}
use Rattle.ac_c.specs.Stream.{AnswersWordStream}
use Rattle.ac_c.specs.contracts.stream.Stream.{the_row as H}
use Rattle.ac_c.proofs.stream.begin_words.Met.{met}
use Rattle.ac_c.specs.contracts.dado_raw_word_stream_new as f
use Rattle.ac_c.proofs.dado_raw_word_stream_new.Statement.{statement}
use Rattle.ac_c.proofs.dado_raw_word_stream_new.Code as code

pub dado_raw_word_stream_new_spec : {M : Type 1} → statement M
dado_raw_word_stream_new_spec 𝓤 𝓛 𝓜 𝓡 wired =
    lends_handle w32 H (λ automaton kind old new status. AnswersWordStream automaton kind old.value new.value status)
    𝓛 𝓜 𝓡 f.Key.name _ _ _ _ _ _ _ _ (code.unfolded 𝓤 𝓛.H 𝓜 𝓡 wired)
    (met 𝓤 𝓛 𝓜 𝓡 (code.calls-ac_c::stream::begin_words 𝓡.env wired))
