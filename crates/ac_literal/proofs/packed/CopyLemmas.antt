-- A copy of a scanner serves the patterns that the scanner serves.
use Rattle.std.proofs.Common.{ℕ, ◌-◌, ◌^◌, ◌%◌, ◌<◌, ◌≤◌, List, [], length, get_or, sym, ap, subst, ◌∙◌}
use Rattle.std.specs.Prelude.{IfSome}
use Rattle.ac_literal.specs.declared.packed.rabinkarp.RabinKarp.{RabinKarp}
use Rattle.ac_literal.specs.declared.packed.scanner.Scanner.{Scanner}
use Rattle.ac_literal.specs.Grams.{HaveWindows}
use Rattle.ac_literal.specs.Packed.RabinKarp.{AreEntries, IsOrder, IsSameTable, IsTable}
use Rattle.ac_literal.specs.Packed.Scanner.{IsOnlyPattern, IsSameScanner, IsScanner}
use Rattle.ac_literal.specs.Packed.Teddy.{IsTeddy}

-- a copy of a table is a table of its patterns
same-table : {patterns : List (List ℕ)} {table copy : RabinKarp} → IsSameTable table copy → IsTable patterns table
    → IsTable patterns copy
same-table {patterns} {table} {copy} same is = record {
  some = subst (λ n. 0 < n) (sym same.hash_len) is.some;
  short = λ number within. subst (λ n. n ≤ length (get_or patterns number [])) (sym same.hash_len)
      (is.short number within);
  power = same.hash_2pow ∙ is.power ∙ ap (λ n. 2 ^ (n - 1) % 2 ^ 64) (sym same.hash_len);
  order = is.order;
  ordered = subst (λ k. IsOrder k patterns (length patterns) is.order) (sym same.kind) is.ordered;
  count = ap length same.entries ∙ is.count;
  entries = subst (λ n. AreEntries patterns n is.order copy.heads copy.entries.items) (sym same.hash_len)
      (subst (λ heads. AreEntries patterns table.hash_len is.order heads copy.entries.items) (sym same.heads)
      (subst (AreEntries patterns table.hash_len is.order table.heads) (sym same.entries) is.entries));
}

-- a copy of a scanner is a scanner of its patterns
pub same-scanner : {patterns : List (List ℕ)} {scanner copy : Scanner} → IsSameScanner scanner copy
    → IsScanner patterns scanner → IsScanner patterns copy
same-scanner {patterns} {scanner} {copy} same is = record {
  table = same-table same.table is.table;
  teddy = subst (λ n. IsTeddy patterns n copy.teddy) (sym same.table.hash_len)
      (subst (IsTeddy patterns scanner.table.hash_len) (sym same.teddy) is.teddy);
  only = subst (IsOnlyPattern patterns) (sym same.only) is.only;
  grams = subst (λ n. IfSome copy.grams (λ grams. HaveWindows grams n patterns (length patterns)))
      (sym same.table.hash_len) (same.grams scanner.table.hash_len patterns (length patterns) is.grams);
}
