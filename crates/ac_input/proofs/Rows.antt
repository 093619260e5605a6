-- The worked rows: what the definitions give for small texts, by computation.
use Rattle.std.specs.Prelude.{◌≡◌, ℕ, List, [], ◌∷◌, Some, None, false, refl}
use Rattle.ac_input.specs.declared.search.MatchKind.TheVariants.{Standard, LeftmostFirst, LeftmostLongest}
use Rattle.ac_input.specs.Occurrence.{Search}
use Rattle.ac_input.specs.Text.{replaced_from}
use Rattle.ac_input.specs.Computed.{occurrences, best_of, walk_among, walk_of, listing_of}
use Rattle.ac_input.specs.Mask.{masked, masked_among, in_masked, in_masked_among}
use Rattle.ac_input.specs.Word.{whole_occurrences}

-- the patterns b, abc and abcd, searched in abcd
abbrev pub nested : Search
nested =
    record {
      patterns = (98 ∷ []) ∷ (97 ∷ 98 ∷ 99 ∷ []) ∷ (97 ∷ 98 ∷ 99 ∷ 100 ∷ []) ∷ [];
      pairing = [];
      haystack = 97 ∷ 98 ∷ 99 ∷ 100 ∷ [];
      start = 0;
      end = 4;
      anchored = false;
    }

-- standard takes the pattern that ends first
pub nested-standard : best_of Standard nested ≡ Some (record { pattern = 0; start = 1; end = 2 })
nested-standard = refl

-- leftmost-first takes the pattern that was given first, of those that start first
pub nested-first : best_of LeftmostFirst nested ≡ Some (record { pattern = 1; start = 0; end = 3 })
nested-first = refl

-- leftmost-longest takes the longest of those that start first, and then nothing is left
pub nested-longest : walk_of LeftmostLongest nested ≡ record { pattern = 2; start = 0; end = 4 } ∷ []
nested-longest = refl

-- the listing has all three, by their ends
pub nested-listed : listing_of nested
    ≡ record { pattern = 0; start = 1; end = 2 } ∷ record { pattern = 1; start = 0; end = 3 }
    ∷ record { pattern = 2; start = 0; end = 4 } ∷ []
nested-listed = refl

-- the empty pattern and ab, searched in ab
abbrev pub empty_and_ab : Search
empty_and_ab =
    record {
      patterns = [] ∷ (97 ∷ 98 ∷ []) ∷ [];
      pairing = [];
      haystack = 97 ∷ 98 ∷ [];
      start = 0;
      end = 2;
      anchored = false;
    }

-- the empty pattern lies at every place, the end included; at one end the longer comes first
pub empty_and_ab-listed : listing_of empty_and_ab
    ≡ record { pattern = 0; start = 0; end = 0 } ∷ record { pattern = 0; start = 1; end = 1 }
    ∷ record { pattern = 1; start = 0; end = 2 } ∷ record { pattern = 0; start = 2; end = 2 } ∷ []
empty_and_ab-listed = refl

-- ab and the empty pattern, searched in aab
abbrev pub ab_and_empty : Search
ab_and_empty =
    record {
      patterns = (97 ∷ 98 ∷ []) ∷ [] ∷ [];
      pairing = [];
      haystack = 97 ∷ 97 ∷ 98 ∷ [];
      start = 0;
      end = 3;
      anchored = false;
    }

-- after a match the empty pattern is not taken where that match ended
pub ab_and_empty-first : walk_of LeftmostFirst ab_and_empty
    ≡ record { pattern = 1; start = 0; end = 0 } ∷ record { pattern = 0; start = 1; end = 3 } ∷ []
ab_and_empty-first = refl

-- ab replaced by X and the empty pattern by a dash: standard takes the empty pattern at every place
pub ab_and_empty-standard_text : replaced_from 0 (97 ∷ 97 ∷ 98 ∷ []) ((88 ∷ []) ∷ (45 ∷ []) ∷ [])
    (walk_of Standard ab_and_empty) ≡ 45 ∷ 97 ∷ 45 ∷ 97 ∷ 45 ∷ 98 ∷ 45 ∷ []
ab_and_empty-standard_text = refl

-- ab replaced by X and the empty pattern by a dash: leftmost-first takes ab where it lies
pub ab_and_empty-first_text : replaced_from 0 (97 ∷ 97 ∷ 98 ∷ []) ((88 ∷ []) ∷ (45 ∷ []) ∷ [])
    (walk_of LeftmostFirst ab_and_empty) ≡ 45 ∷ 97 ∷ 88 ∷ []
ab_and_empty-first_text = refl

-- the empty pattern, searched in ab
abbrev pub empty_alone : Search
empty_alone = record { patterns = [] ∷ []; pairing = []; haystack = 97 ∷ 98 ∷ []; start = 0; end = 2; anchored = false }

-- the empty pattern replaced by a dash: one dash before each byte, and one at the end
pub empty_alone-text : replaced_from 0 (97 ∷ 98 ∷ []) ((45 ∷ []) ∷ []) (walk_of Standard empty_alone)
    ≡ 45 ∷ 97 ∷ 45 ∷ 98 ∷ 45 ∷ []
empty_alone-text = refl

-- a, given twice and searched in a
abbrev pub twice_given : Search
twice_given =
    record {
      patterns = (97 ∷ []) ∷ (97 ∷ []) ∷ [];
      pairing = [];
      haystack = 97 ∷ [];
      start = 0;
      end = 1;
      anchored = false;
    }

-- the walk takes the one that was given first
pub twice_given-walk : walk_of Standard twice_given ≡ record { pattern = 0; start = 0; end = 1 } ∷ []
twice_given-walk = refl

-- the listing has both
pub twice_given-listed : listing_of twice_given
    ≡ record { pattern = 0; start = 0; end = 1 } ∷ record { pattern = 1; start = 0; end = 1 } ∷ []
twice_given-listed = refl

-- abcd, b, bce and ce, searched in abce
abbrev pub chained : Search
chained =
    record {
      patterns = (97 ∷ 98 ∷ 99 ∷ 100 ∷ []) ∷ (98 ∷ []) ∷ (98 ∷ 99 ∷ 101 ∷ []) ∷ (99 ∷ 101 ∷ []) ∷ [];
      pairing = [];
      haystack = 97 ∷ 98 ∷ 99 ∷ 101 ∷ [];
      start = 0;
      end = 4;
      anchored = false;
    }

-- a longer pattern whose beginning matches but not the rest is given up for one that starts later
pub chained-first : walk_of LeftmostFirst chained
    ≡ record { pattern = 1; start = 1; end = 2 } ∷ record { pattern = 3; start = 2; end = 4 } ∷ []
chained-first = refl

-- The digits 0 and 1 paired: the partners of the first 50 bytes. A byte past them is its own partner.
abbrev pub digits_paired : List ℕ
digits_paired =
    0 ∷ 1 ∷ 2 ∷ 3 ∷ 4 ∷ 5 ∷ 6 ∷ 7 ∷ 8 ∷ 9 ∷ 10 ∷ 11 ∷ 12 ∷ 13 ∷ 14 ∷ 15 ∷ 16 ∷ 17 ∷ 18 ∷ 19 ∷ 20 ∷ 21 ∷ 22 ∷ 23 ∷ 24
    ∷ 25 ∷ 26 ∷ 27 ∷ 28 ∷ 29 ∷ 30 ∷ 31 ∷ 32 ∷ 33 ∷ 34 ∷ 35 ∷ 36 ∷ 37 ∷ 38 ∷ 39 ∷ 40 ∷ 41 ∷ 42 ∷ 43 ∷ 44 ∷ 45 ∷ 46 ∷ 47
    ∷ 49 ∷ 48 ∷ []

-- 0a and 1a, searched in 1a with the digits paired
abbrev pub paired : Search
paired =
    record {
      patterns = (48 ∷ 97 ∷ []) ∷ (49 ∷ 97 ∷ []) ∷ [];
      pairing = digits_paired;
      haystack = 49 ∷ 97 ∷ [];
      start = 0;
      end = 2;
      anchored = false;
    }

-- both patterns lie there
pub paired-listed : listing_of paired
    ≡ record { pattern = 0; start = 0; end = 2 } ∷ record { pattern = 1; start = 0; end = 2 } ∷ []
paired-listed = refl

-- the patterns abc and bcd, searched in xabcdy
abbrev pub overlapping : Search
overlapping =
    record {
      patterns = (97 ∷ 98 ∷ 99 ∷ []) ∷ (98 ∷ 99 ∷ 100 ∷ []) ∷ [];
      pairing = [];
      haystack = 120 ∷ 97 ∷ 98 ∷ 99 ∷ 100 ∷ 121 ∷ [];
      start = 0;
      end = 6;
      anchored = false;
    }

-- masked by an asterisk, both patterns are covered, though they overlap
pub overlapping-masked : masked 42 overlapping ≡ 120 ∷ 42 ∷ 42 ∷ 42 ∷ 42 ∷ 121 ∷ []
overlapping-masked = refl

-- the empty pattern covers no byte
pub ab_and_empty-masked : masked 42 ab_and_empty ≡ 97 ∷ 42 ∷ 42 ∷ []
ab_and_empty-masked = refl

-- the pattern ab, searched in abb
abbrev pub ab_in_abb : Search
ab_in_abb =
    record {
      patterns = (97 ∷ 98 ∷ []) ∷ [];
      pairing = [];
      haystack = 97 ∷ 98 ∷ 98 ∷ [];
      start = 0;
      end = 3;
      anchored = false;
    }

-- a mask that the pattern has may make the pattern occur again
pub ab_in_abb-masked : occurrences (in_masked 97 ab_in_abb) ≡ record { pattern = 0; start = 1; end = 3 } ∷ []
ab_in_abb-masked = refl

-- a and -x, searched in a-x
abbrev pub a_and_dash_x : Search
a_and_dash_x =
    record {
      patterns = (97 ∷ []) ∷ (45 ∷ 120 ∷ []) ∷ [];
      pairing = [];
      haystack = 97 ∷ 45 ∷ 120 ∷ [];
      start = 0;
      end = 3;
      anchored = false;
    }

-- only a is a whole word: a word byte stands before -x
pub a_and_dash_x-whole : whole_occurrences a_and_dash_x ≡ record { pattern = 0; start = 0; end = 1 } ∷ []
a_and_dash_x-whole = refl

-- once a is masked by a star, -x is a whole word
pub a_and_dash_x-masked : masked_among whole_occurrences 42 a_and_dash_x ≡ 42 ∷ 45 ∷ 120 ∷ []
a_and_dash_x-masked = refl

pub a_and_dash_x-left : whole_occurrences (in_masked_among whole_occurrences 42 a_and_dash_x)
    ≡ record { pattern = 1; start = 1; end = 3 } ∷ []
a_and_dash_x-left = refl

-- a, searched in the first byte of a and one more
abbrev pub a_before : ℕ → Search
a_before byte =
    record {
      patterns = (97 ∷ []) ∷ [];
      pairing = [];
      haystack = 97 ∷ byte ∷ [];
      start = 0;
      end = 1;
      anchored = false;
    }

-- The byte after the span counts: before an underscore, a digit or a byte that isn't ASCII, a is no whole word.
pub a_before-underscore : whole_occurrences (a_before 95) ≡ []
a_before-underscore = refl

pub a_before-digit : whole_occurrences (a_before 48) ≡ []
a_before-digit = refl

pub a_before-no_ascii : whole_occurrences (a_before 195) ≡ []
a_before-no_ascii = refl

-- before a space it is one
pub a_before-space : whole_occurrences (a_before 32) ≡ record { pattern = 0; start = 0; end = 1 } ∷ []
a_before-space = refl

-- a, ab and b, searched in "ab b"
abbrev pub ab_b : Search
ab_b =
    record {
      patterns = (97 ∷ []) ∷ (97 ∷ 98 ∷ []) ∷ (98 ∷ []) ∷ [];
      pairing = [];
      haystack = 97 ∷ 98 ∷ 32 ∷ 98 ∷ [];
      start = 0;
      end = 4;
      anchored = false;
    }

-- the walk of whole words takes ab, which the walk of all occurrences does not
pub ab_b-whole : walk_among whole_occurrences LeftmostFirst ab_b 0 None
    ≡ record { pattern = 1; start = 0; end = 2 } ∷ record { pattern = 2; start = 3; end = 4 } ∷ []
ab_b-whole = refl

pub ab_b-all : walk_of LeftmostFirst ab_b
    ≡ record { pattern = 0; start = 0; end = 1 } ∷ record { pattern = 2; start = 1; end = 2 }
    ∷ record { pattern = 2; start = 3; end = 4 } ∷ []
ab_b-all = refl
