-- What the notes of all lanes together are.
use Rattle.std.proofs.Common.{◌≡◌, ℕ, ◌+◌, ◌*◌, ◌-◌, ◌<◌, ◌≤◌, Bool, IsTrue, List, [], ◌++◌, take, get_or, Option, sym, ap, subst, refl, arith}
use Rattle.std.specs.List.{All}
use Rattle.std.proofs.lemmas.List.Elements.{All-append, All-weaker}
use Rattle.ac_input.specs.Alphabet.{has}
use Rattle.ac_input.specs.Number.{StateID}
use Rattle.ac_input.specs.Steps.{Done}
use Rattle.ac_input.specs.declared.steps.Steps.{Steps}
use Rattle.ac_input.specs.declared.search.MatchKind.TheVariants.{Standard}
use Rattle.ac_automaton.specs.Ahead.{CutBytes, EachLane, EachPair, Frees, HasNoted, HaveRead, IsNote, MayBegin, ReadsAheadBy, TakesBy, TakesEachBy, lane_notes, lanes_notes, noted_len}
use Rattle.ac_automaton.specs.Automaton.{Built}
use Rattle.ac_automaton.specs.declared.ahead.Note.{Note}
use Rattle.ac_automaton.specs.declared.lanes.Lane.{Lane}
use Rattle.ac_automaton.specs.declared.lanes.Lanes.{Lanes}
use Rattle.ac_automaton.proofs.lanes.ChainLemmas.{takes-lanes, takes-weaker}
use Rattle.ac_automaton.proofs.lanes.CountLemmas.{done-none}
use Rattle.ac_automaton.proofs.lanes.StoreLemmas.{noted_len-append}

-- nothing was read
reads-none : (Free : ℕ → StateID → Type 0) (b : Built) (Reaches : List ℕ → StateID → Type 0)
    (matches : StateID → List ℕ) (anew : Option StateID) (sid : StateID) (bytes : List ℕ) (at len : ℕ) (s : Steps)
    → ReadsAheadBy Free b Reaches matches anew sid bytes at len 0 [] s s
reads-none Free b Reaches matches anew sid bytes at len s = record {
  are = λ k d less. absurd (omega (arith, less));
  within = λ k d less. absurd (omega (arith, less));
  covered = refl;
  most = omega arith;
  lanes = λ _. refl;
  counted = done-none s;
  taken = λ kind. (at, sid, (refl, refl));
}

-- the same, of a call that made no notes
pub reads-nothing : (Free : ℕ → StateID → Type 0) (b : Built) (Reaches : List ℕ → StateID → Type 0)
    (matches : StateID → List ℕ) (anew : Option StateID) (sid : StateID) (bytes : List ℕ) (at len read count : ℕ)
    (notes : List Note) (s : Steps) → (count ≡ 0) × (read ≡ 0)
    → ReadsAheadBy Free b Reaches matches anew sid bytes at len read (take count notes) s s
reads-nothing Free b Reaches matches anew sid bytes at len read count notes s none =
    subst (λ n. ReadsAheadBy Free b Reaches matches anew sid bytes at len n (take count notes) s s) (sym none.1)
    (subst (λ n. ReadsAheadBy Free b Reaches matches anew sid bytes at len 0 (take n notes) s s) (sym none.0)
    (reads-none Free b Reaches matches anew sid bytes at len s))

-- a note between two places is one between places further apart
in-wider : (less more from to : ℕ) → less ≤ from → to ≤ more → (note : Note)
    → (from ≤ note.from) × (note.from + note.len ≤ to) → (less ≤ note.from) × (note.from + note.len ≤ more)
in-wider less more from to low high note within = let x = within.0 in let y = within.1 in
    (omega (arith, x, low), omega (arith, y, high))

module _ (Free : ℕ → StateID → Type 0) (b : Built) (Reaches : List ℕ → StateID → Type 0) (matches : StateID → List ℕ)
    (anew : Option StateID) (sid start : StateID) (bytes : List ℕ) (at len slots : ℕ) (after : List Bool)
    (begun lanes : Lanes) (notes : List Note) (s t : Steps) (lanes_on : IsTrue b.lanes)
    (frees : b.dictionary.kind ≡ Standard → (byte : ℕ) → byte < 256 → IsTrue (has after byte)
    → Frees Reaches matches byte start)
    (free : (byte : ℕ) → byte < 256 → IsTrue (has after byte) → Free byte start)
    (begin : CutBytes after bytes at sid start (at + len) slots begun)
    (noted : EachPair (HasNoted Reaches matches anew (b.dictionary.kind ≡ Standard) bytes notes) begun lanes)
    (all : EachLane (λ lane. (lane.from ≡ lane.at) × (lane.at ≤ lane.end)) lanes)
    (reads : HaveRead begun lanes s t) where
  -- a lane's place and state where it began
  began : (lane : Lane) (place : ℕ) (state : StateID)
      → lane ≡ record lane { from = place; first = state; at = place; sid = state }
      → (lane.from ≡ place) × (lane.first ≡ state) × (lane.at ≡ place)
  began lane place state is = (ap (λ l. l.from) is, ap (λ l. l.first) is, ap (λ l. l.at) is)

  -- what a lane noted is taken by a search that comes to its place in its state
  taken-at : (one other : Lane) (place : ℕ) (state : StateID) → one.from ≡ place → one.first ≡ state
      → b.dictionary.kind ≡ Standard
      → HasNoted Reaches matches anew (b.dictionary.kind ≡ Standard) bytes notes one other
      → TakesBy Free matches anew bytes place state (lane_notes notes one other) other.from other.first
  taken-at one other place state from first kind is =
      subst (λ n. TakesBy Free matches anew bytes n state (lane_notes notes one other) other.from other.first) from
      (subst (λ i. TakesBy Free matches anew bytes one.from i (lane_notes notes one other) other.from other.first) first
      (takes-weaker matches anew bytes (λ byte state none. absurd none) one.from one.first (lane_notes notes one other)
      other.from other.first (is.taken kind)))

  -- a search takes the notes of all lanes
  all-taken : b.dictionary.kind ≡ Standard → TakesEachBy Free matches anew bytes at sid (lanes_notes notes begun lanes)
  all-taken kind =
      let frees_at = λ (from to place : ℕ) (may : MayBegin after bytes from to place).
      frees kind (get_or bytes (place - 1) 0) may.byte may.is in
      let free_at = λ (from to place : ℕ) (may : MayBegin after bytes from to place).
      free (get_or bytes (place - 1) 0) may.byte may.is in
      let a = began begun.a at sid begin.a.is in
      let b' = began begun.b begun.a.end start begin.b.is in
      let c = began begun.c begun.b.end start begin.c.is in
      let d = began begun.d begun.c.end start begin.d.is in
      let last : TakesEachBy Free matches anew bytes begun.c.end start (lane_notes notes begun.d lanes.d) =
      (lanes.d.from, lanes.d.first, taken-at begun.d lanes.d begun.c.end start d.0 d.1 kind noted.d) in
      let third =
      takes-lanes anew Free start (lane_notes notes begun.c lanes.c) lanes.c.first (lane_notes notes begun.d lanes.d)
      (taken-at begun.c lanes.c begun.b.end start c.0 c.1 kind noted.c) noted.c.are begin.cut_d.past
      (omega (arith, all.c.0, all.c.1, noted.c.end)) (free_at _ _ _ begin.cut_d) (frees_at _ _ _ begin.cut_d) last in
      let second = takes-lanes anew Free start (lane_notes notes begun.b lanes.b) lanes.b.first _
      (taken-at begun.b lanes.b begun.a.end start b'.0 b'.1 kind noted.b) noted.b.are begin.cut_c.past
      (omega (arith, all.b.0, all.b.1, noted.b.end)) (free_at _ _ _ begin.cut_c) (frees_at _ _ _ begin.cut_c) third in
      takes-lanes anew Free sid (lane_notes notes begun.a lanes.a) lanes.a.first _
      (taken-at begun.a lanes.a at sid a.0 a.1 kind noted.a) noted.a.are begin.cut_b.past
      (omega (arith, all.a.0, all.a.1, noted.a.end)) (free_at _ _ _ begin.cut_b) (frees_at _ _ _ begin.cut_b) second

  -- the lanes read ahead
  pub lanes-read : ReadsAheadBy Free b Reaches matches anew sid bytes at len (4 * (lanes.a.at - at))
      (lanes_notes notes begun lanes) s t
  lanes-read =
      let aa = lane_notes notes begun.a lanes.a in
      let bs = lane_notes notes begun.b lanes.b in
      let cs = lane_notes notes begun.c lanes.c in
      let ds = lane_notes notes begun.d lanes.d in
      let a = began begun.a at sid begin.a.is in
      let b' = began begun.b begun.a.end start begin.b.is in
      let c = began begun.c begun.b.end start begin.c.is in
      let d = began begun.d begun.c.end start begin.d.is in
      let n : ℕ = reads.read in
      let a_b = begin.cut_b.past in let b_c = begin.cut_c.past in let c_d = begin.cut_d.past in
      let cut_d = begin.cut_d.within in
      let end = begin.last in
      let ea = noted.a.end in let eb = noted.b.end in let ec = noted.c.end in let ed = noted.d.end in
      let read : lanes.a.at - at ≡ n = omega (arith, a.2, reads.each.a) in
      let Within = λ (note : Note). (at ≤ note.from) × (note.from + note.len ≤ at + len) in
      let InLane = λ (from to : ℕ) (note : Note). (from ≤ note.from) × (note.from + note.len ≤ to) in
      let within_a : All Within aa = All-weaker (InLane begun.a.from lanes.a.from) Within
      (in-wider at (at + len) begun.a.from lanes.a.from (omega (arith, a.0))
      (omega (arith, all.a.0, all.a.1, ea, a_b, b_c, c_d, cut_d))) aa noted.a.within in
      let within_b : All Within bs = All-weaker (InLane begun.b.from lanes.b.from) Within
      (in-wider at (at + len) begun.b.from lanes.b.from (omega (arith, b'.0, a_b))
      (omega (arith, all.b.0, all.b.1, eb, b_c, c_d, cut_d))) bs noted.b.within in
      let within_c : All Within cs = All-weaker (InLane begun.c.from lanes.c.from) Within
      (in-wider at (at + len) begun.c.from lanes.c.from (omega (arith, c.0, a_b, b_c))
      (omega (arith, all.c.0, all.c.1, ec, c_d, cut_d))) cs noted.c.within in
      let within_d : All Within ds = All-weaker (InLane begun.d.from lanes.d.from) Within
      (in-wider at (at + len) begun.d.from lanes.d.from (omega (arith, d.0, a_b, b_c, c_d))
      (omega (arith, all.d.0, all.d.1, ed, end))) ds noted.d.within in
      let Is = IsNote Reaches matches bytes in
      let la = noted_len-append aa (bs ++ (cs ++ ds)) in
      let lb = noted_len-append bs (cs ++ ds) in
      let lc = noted_len-append cs ds in
      let na : noted_len aa ≡ n = omega (arith, noted.a.covered, all.a.0, reads.each.a, a.0, a.2) in
      let nb : noted_len bs ≡ n = omega (arith, noted.b.covered, all.b.0, reads.each.b, b'.0, b'.2) in
      let nc : noted_len cs ≡ n = omega (arith, noted.c.covered, all.c.0, reads.each.c, c.0, c.2) in
      let nd : noted_len ds ≡ n = omega (arith, noted.d.covered, all.d.0, reads.each.d, d.0, d.2) in
      let into_a : at + n ≤ begun.a.end = omega (arith, reads.each.a, a.2, all.a.1, ea) in
      let into_b : begun.a.end + n ≤ begun.b.end = omega (arith, reads.each.b, b'.2, all.b.1, eb) in
      let into_c : begun.b.end + n ≤ begun.c.end = omega (arith, reads.each.c, c.2, all.c.1, ec) in
      let into_d : begun.c.end + n ≤ at + len = omega (arith, reads.each.d, d.2, all.d.1, ed, end) in
      record {
        are = All-append Is aa (bs ++ (cs ++ ds)) noted.a.are
            (All-append Is bs (cs ++ ds) noted.b.are (All-append Is cs ds noted.c.are noted.d.are));
        within = All-append Within aa (bs ++ (cs ++ ds)) within_a
            (All-append Within bs (cs ++ ds) within_b (All-append Within cs ds within_c within_d));
        covered = omega (arith, la, lb, lc, na, nb, nc, nd, read);
        most = omega (arith, into_a, into_b, into_c, into_d, read);
        lanes = λ none. absurd (none lanes_on);
        counted = subst (λ k. Done (4 * k) 0 0 s t) (sym read) reads.counted;
        taken = all-taken;
      }
