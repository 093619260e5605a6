-- An unused byte leads an unanchored search of the standard kind back to the start, by the words and by the rows.
use Rattle.std.proofs.Common.{◌≡◌, ℕ, ◌<◌, ◌≤◌, ◌*◌, ◌/◌, IsTrue, List, [], ◌∷◌, ◌++◌, ⊎_elim, sym, ap, ◌∙◌, arith}
use Rattle.std.specs.Coded.{Coded-set, coded_ℕ}
use Rattle.std.proofs.Math.Logic.{∥∥₁_elim}
use Rattle.std.proofs.lemmas.Bool.{cases_lt}
use Rattle.ac_input.specs.declared.search.Anchored.TheVariants.{No}
use Rattle.ac_input.specs.declared.search.MatchKind.TheVariants.{Standard}
use Rattle.ac_input.specs.Alphabet.{has}
use Rattle.ac_automaton.proofs.automaton.FreeLemmas.{read-frees}
use Rattle.ac_tables.specs.Contiguous.ByRows.{by_rows_built_as, IsRowRead}
use Rattle.ac_tables.specs.Contiguous.Reads.{contiguous_dictionary, IsContiguousRead, contiguous_named_states}
use Rattle.ac_tables.specs.Contiguous.Rows.{IsRowIn, place_in_row, row_len}
use Rattle.ac_tables.specs.declared.contiguous.by_rows.ByRows.{ByRows}
use Rattle.ac_tables.specs.declared.contiguous.NFA.{NFA}
use Rattle.ac_tables.specs.declared.contiguous.rows.Rows.{Rows}
use Rattle.ac_tables.proofs.source.UnusedByteLemmas.{shared-unused}

-- a search that has just read an unused byte is at the start
pub contiguous-frees : (nfa : NFA) (byte : ℕ) → (contiguous_dictionary nfa).kind ≡ Standard → byte < 256
    → IsTrue (has nfa.unused byte) → (text : List ℕ) (sid : ℕ) → IsContiguousRead nfa No (text ++ byte ∷ []) sid
    → sid ≡ nfa.table.start
contiguous-frees nfa byte standard small unused text sid reads =
    ∥∥₁_elim nfa.shared (Coded-set coded_ℕ sid nfa.table.start) (λ share.
    read-frees (contiguous_named_states nfa) text nfa.table.start byte sid standard
    (λ names fits. (
      shared-unused (contiguous_dictionary nfa) nfa.table.classes nfa.unused byte fits.1.alone share small unused,
      fits.1.linked.numbers.only,
    )) reads)

-- two rows of one place are one row, since the places of rows rise
pub row-one : (rows : Rows) (a b : ℕ) → IsRowIn rows a → IsRowIn rows b → place_in_row rows a ≡ place_in_row rows b
    → a ≡ b
row-one rows a b first second same =
    let i = a / row_len rows in
    let j = b / row_len rows in
    let one : i ≡ j = ⊎_elim
    (λ (less : i < j). absurd (let rise = rows.rise i j less second.within in omega (arith, rise, same)))
    (λ (ge : j ≤ i). ⊎_elim
    (λ (more : j < i). absurd (let rise = rows.rise j i more first.within in omega (arith, rise, same)))
    (λ (le : i ≤ j). omega (arith, ge, le))
    (cases_lt j i))
    (cases_lt i j) in
    sym first.whole ∙ (ap (λ k. k * row_len rows) one ∙ second.whole)

-- a search by rows that has just read an unused byte is at the row of the start
pub row-frees : (by : ByRows) (start byte : ℕ) → (by_rows_built_as by).dictionary.kind ≡ Standard → byte < 256
    → IsTrue (has by.nfa.now.unused byte)
    → IsRowIn by.rows.now start × (place_in_row by.rows.now start ≡ by.nfa.now.table.start) → (text : List ℕ) (row : ℕ)
    → IsRowRead by No (text ++ byte ∷ []) row → row ≡ start
row-frees by start byte standard small unused first text row reads =
    let there =
    contiguous-frees by.nfa.now byte standard small unused text (place_in_row by.rows.now row) reads.reads in
    row-one by.rows.now row start reads.one first.0 (there ∙ sym first.1)
