-- `dado_raw_word_masker_new` passes on what the pointer lends, and the byte.
use mir.Syntax.{w8}
use Rattle.ac_c.proofs.HandingNumber.{lends_handle}
use Rattle.ac_c.specs.Masker.{AnswersWordMasking}
use Rattle.ac_c.specs.contracts.masker.Masker.{the_row as H}
use Rattle.ac_c.proofs.masker.begin_words.Met.{met}
use Rattle.ac_c.specs.contracts.dado_raw_word_masker_new as f
use Rattle.ac_c.proofs.dado_raw_word_masker_new.Statement.{statement}
use Rattle.ac_c.proofs.dado_raw_word_masker_new.Code as code

pub dado_raw_word_masker_new_spec : {M : Type 1} → statement M
dado_raw_word_masker_new_spec 𝓤 𝓛 𝓜 𝓡 wired =
    lends_handle w8 H (λ automaton byte old new status. AnswersWordMasking automaton byte old.value new.value status) 𝓛 𝓜 𝓡
    f.Key.name _ _ _ _ _ _ _ _ (code.unfolded 𝓤 𝓛.H 𝓜 𝓡 wired)
    (met 𝓤 𝓛 𝓜 𝓡 (code.calls-ac_c::masker::begin_words 𝓡.env wired))
