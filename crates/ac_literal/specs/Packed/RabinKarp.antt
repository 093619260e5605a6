-- The rolling hash of a packed search, and its table.
use Rattle.std.specs.Prelude.{◌≡◌, ◌≢◌, ℕ, ◌+◌, ◌-◌, ◌*◌, ◌%◌, ◌^◌, ◌<◌, ◌≤◌, List, [], ◌∷◌, length, take, get_or, Option, Some, None}
use Rattle.std.specs.declared.cmp.Ordering.TheVariants.{Greater}
use Rattle.ac_input.specs.Occurrence.{Search, Occurrence, Occurs, StartsAt}
use Rattle.ac_input.specs.Best.{preference, IsLeast, IsBest}
use Rattle.ac_input.specs.declared.search.Span.{Span}
use Rattle.ac_input.specs.declared.search.MatchKind as search
use Rattle.ac_literal.specs.declared.packed.api.MatchKind.{MatchKind}
use Rattle.ac_literal.specs.declared.packed.rabinkarp.Entry.{Entry}
use Rattle.ac_literal.specs.declared.packed.rabinkarp.RabinKarp.{RabinKarp}
use Rattle.ac_literal.specs.Packed.{search_kind, in_span}

-- bytes as the digits of a number in base 2, whatever the digits are
unfoldable pub value_of : List ℕ → ℕ
value_of [] = 0
value_of (byte ∷ bytes) = byte * 2 ^ length bytes + value_of bytes

-- the hash of some bytes
abbrev pub hash_of : List ℕ → ℕ
hash_of bytes = value_of bytes % 2 ^ 64

-- a pattern at a place, as an occurrence
abbrev pub lying : List (List ℕ) → ℕ → ℕ → Occurrence
lying patterns at number = record { pattern = number; start = at; end = at + length (get_or patterns number []) }

-- wherever patterns a and b lie at one place, the kind doesn't prefer b
abbrev pub IsNoLater : MatchKind → List (List ℕ) → ℕ → ℕ → Type 0
IsNoLater kind patterns a b =
    (at : ℕ) → preference (search_kind kind) (lying patterns at a) (lying patterns at b) ≢ Greater

-- the numbers of all patterns, from the one that the kind prefers least at one place to the one that it prefers most
pub record IsOrder (kind : MatchKind) (patterns : List (List ℕ)) (count : ℕ) (order : List ℕ) : Type 0 where
  pub len : length order ≡ count
  pub below : (i : ℕ) → i < count → get_or order i 0 < count
  pub all : (number : ℕ) → number < count → (i : ℕ) × (i < count) × (get_or order i 0 ≡ number)
  pub sorted : (i j : ℕ) → i < j → j < count → IsNoLater kind patterns (get_or order j 0) (get_or order i 0)

-- where a number belongs in an order: the kind prefers no pattern before the place to it, and prefers it to none from
-- the place on
pub record IsPlace (kind : MatchKind) (patterns : List (List ℕ)) (order : List ℕ) (number place : ℕ) : Type 0 where
  pub within : place ≤ length order
  pub before : (i : ℕ) → i < place → IsNoLater kind patterns number (get_or order i 0)
  pub after : (i : ℕ) → place ≤ i → i < length order → IsNoLater kind patterns (get_or order i 0) number

-- an entry of the table
abbrev pub entry_at : List Entry → ℕ → Entry
entry_at entries i = get_or entries i (record { hash = 0; pattern = 0; next = 0 })

-- the bucket of a hash
abbrev pub bucket_of : ℕ → ℕ
bucket_of hash = hash % 1024

-- the last entry of a bucket among the first `limit` entries, counted from 1; 0 where there is none
pub record IsLink (entries : List Entry) (bucket limit link : ℕ) : Type 0 where
  pub within : link ≤ limit
  pub here : 0 < link → bucket_of (entry_at entries (link - 1)).hash ≡ bucket
  pub after : (i : ℕ) → link ≤ i → i < limit → bucket_of (entry_at entries i).hash ≢ bucket

-- The entries made so far, in the order. Each has its pattern's number and hash, and a link to the entry before it in
-- its bucket. A bucket's head is its last entry.
pub record AreEntries (patterns : List (List ℕ)) (hash_len : ℕ) (order : List ℕ) (heads : List ℕ)
    (entries : List Entry) : Type 0 where
  pub pattern : (i : ℕ) → i < length entries → (entry_at entries i).pattern ≡ get_or order i 0
  pub hash : (i : ℕ) → i < length entries
      → (entry_at entries i).hash ≡ hash_of (take hash_len (get_or patterns (get_or order i 0) []))
  pub next : (i : ℕ) → i < length entries
      → IsLink entries (bucket_of (entry_at entries i).hash) i (entry_at entries i).next
  pub head : (bucket : ℕ) → bucket < 1024 → IsLink entries bucket (length entries) (get_or heads bucket 0)

-- the table of some patterns, for its kind
pub record IsTable (patterns : List (List ℕ)) (table : RabinKarp) : Type 0 where
  pub some : 0 < table.hash_len
  pub short : (number : ℕ) → number < length patterns → table.hash_len ≤ length (get_or patterns number [])
  pub power : table.hash_2pow ≡ 2 ^ (table.hash_len - 1) % 2 ^ 64
  pub order : List ℕ
  pub ordered : IsOrder table.kind patterns (length patterns) order
  pub count : length table.entries.items ≡ length patterns
  pub entries : AreEntries patterns table.hash_len order table.heads table.entries.items

-- no occurrence of the search starts before the place
abbrev pub NoneBefore : Search → ℕ → Type 0
NoneBefore s at = (o : Occurrence) → Occurs s o → at ≤ o.start

-- the result is the best match of the search; where there is none, no occurrence starts before the place `to`
abbrev pub IsFoundBefore : search.MatchKind → Search → ℕ → Option Occurrence → Type 0
IsFoundBefore kind s to None = NoneBefore s to
IsFoundBefore kind s to (Some best) = IsBest kind s (Some best)

-- the occurrence that the kind prefers among those that start at one place of a span
abbrev pub IsMatchAt : MatchKind → List (List ℕ) → List ℕ → Span → ℕ → Option Occurrence → Type 0
IsMatchAt kind patterns haystack span at found =
    IsLeast (search_kind kind) (StartsAt (in_span patterns haystack span) at) found

-- the result is the kind's match in a span; where there is none, no occurrence starts before the place `to`
abbrev pub IsMatchBefore : MatchKind → List (List ℕ) → List ℕ → Span → ℕ → Option Occurrence → Type 0
IsMatchBefore kind patterns haystack span to found =
    IsFoundBefore (search_kind kind) (in_span patterns haystack span) to found

-- a table of these patterns and this kind, which hashes at most 16 bytes
pub record IsTableOf (asked : MatchKind) (patterns : List (List ℕ)) (made : RabinKarp) : Type 0 where
  pub table : IsTable patterns made
  pub kind : made.kind ≡ asked
  pub few : made.hash_len ≤ 16

-- the copy equals the table, in other memory
pub record IsSameTable (table copy : RabinKarp) : Type 0 where
  pub kind : copy.kind ≡ table.kind
  pub heads : copy.heads ≡ table.heads
  pub entries : copy.entries.items ≡ table.entries.items
  pub hash_len : copy.hash_len ≡ table.hash_len
  pub hash_2pow : copy.hash_2pow ≡ table.hash_2pow
