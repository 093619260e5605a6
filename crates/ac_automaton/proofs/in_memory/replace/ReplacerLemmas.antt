-- How the chain of a closure's calls goes on, call by call.
use Rattle.std.proofs.Common.{◌≡◌, ℕ, ◌+◌, ◌<◌, arith, Bool, true, false, List, [], ◌∷◌, ◌++◌, Some, None, Result, Ok, Err, drop, refl, sym, ap, ◌∙◌, subst, inl, inr, Bor, MutBor}
use Rattle.std.specs.Prelude.{slice_range}
use Rattle.std.specs.Fn.{Called}
use Rattle.std.specs.declared.alloc.AllocError.{AllocError}
use Rattle.ac_input.specs.Chain.{Calls, IsChain, IsRefusedChain}
use Rattle.ac_input.specs.Occurrence.{Occurrence}
use Rattle.ac_automaton.specs.InMemory.Replace.{Replacer, MemoryReplacer, TakesMatches, IsForMatches, RepliesAt, calls_of}

-- after a call the closure may be called at every match again
pub callable-next : {F D A : Type 0} {g : Replacer F D A} {patterns : ℕ} {f after : F} {found : Bor Occurrence}
    {bytes : Bor (List ℕ)} {dst left : MutBor D} {r : A}
    → IsForMatches g patterns f → found.now.pattern < patterns
    → Called g f (found, (bytes, (dst, tt))) (r, (left, tt)) after → IsForMatches g patterns after
callable-next {f} {after} {found} {bytes} {dst} {left} {r} h lt called =
    record { takes = h.keeps f found bytes dst r left after h.takes lt called; keeps = h.keeps }

-- after a call for an occurrence the closure may be called again at any match
pub callable-after : {F D A : Type 0} {g : Replacer F D A} {patterns : ℕ} {f after : F} {o : Occurrence}
    {bytes : List ℕ} {old new : D} {r : A}
    → IsForMatches g patterns f → o.pattern < patterns → RepliesAt g f o bytes old r after new
    → IsForMatches g patterns after
callable-after {patterns} h lt reply =
    callable-next h (subst (λ q. q.pattern < patterns) (sym reply.shows.0) lt) reply.called

-- a closure that may be called at any match may be called at one
pub takes-one : {F D A : Type 0} {g : Replacer F D A} {patterns : ℕ} {f : F} (o : Occurrence)
    → IsForMatches g patterns f → o.pattern < patterns → TakesMatches g (o.pattern + 1) f
takes-one o h lt found bytes dst le = h.takes found bytes dst (omega arith)

-- a reply for an occurrence is a call of the closure
pub told : {F D : Type 0} {held : D → List ℕ} {g : MemoryReplacer F D} {f after : F} {o : Occurrence}
    {bytes reads before : List ℕ} {old new : D} {r : Result Bool AllocError} {more : Bool}
    → RepliesAt g f o reads old r after new → r ≡ Ok more → reads ≡ bytes → held old ≡ before
    → calls_of held g f o bytes before (Some more) after (held new)
told {F} {D} {g} {f} {after} {o} {bytes} {old} {new} {r} reply is same was = (
  old,
  new,
  was,
  refl,
  subst (λ q. RepliesAt g f o bytes old q after new) is (subst (λ t. RepliesAt g f o t old r after new) same reply),
)

pub told-refused : {F D : Type 0} {held : D → List ℕ} {g : MemoryReplacer F D} {f after : F} {o : Occurrence}
    {bytes reads before : List ℕ} {old new : D} {r : Result Bool AllocError} {error : AllocError}
    → RepliesAt g f o reads old r after new → r ≡ Err error → reads ≡ bytes → held old ≡ before
    → calls_of held g f o bytes before None after (held new)
told-refused {F} {D} {g} {f} {after} {o} {bytes} {old} {new} {r} {error} reply is same was = (
  old,
  new,
  error,
  was,
  refl,
  subst (λ q. RepliesAt g f o bytes old q after new) is (subst (λ t. RepliesAt g f o t old r after new) same reply),
)

-- a call of a closure is its reply
pub RepliesAt-from_call : {F D A : Type 0} {g : Replacer F D A} {f after : F} {found : Bor Occurrence}
    {text : Bor (List ℕ)} {dst left : MutBor D} {r reply : A} {o : Occurrence} {bytes : List ℕ}
    → Called g f (found, (text, (dst, tt))) (r, (left, tt)) after → r ≡ reply → found.now ≡ o → text.now ≡ bytes
    → RepliesAt g f o bytes dst.now reply after left.now
RepliesAt-from_call {g} {f} {after} {found} {text} {dst} {left} called is at reads = record {
  found = found;
  text = text;
  dst = dst;
  shows = (at, reads, refl);
  left = left;
  called = subst (λ q. Called g f (found, (text, (dst, tt))) (q, (left, tt)) after) is called;
  leaves = refl;
}

-- a call that returned whether to go on
pub replied : {F D : Type 0} {held : D → List ℕ} {g : MemoryReplacer F D} {f after : F} {found : Bor Occurrence}
    {text : Bor (List ℕ)} {dst left : MutBor D} {r : Result Bool AllocError} {more : Bool} {o : Occurrence}
    {bytes before : List ℕ}
    → Called g f (found, (text, (dst, tt))) (r, (left, tt)) after → r ≡ Ok more → found.now ≡ o → text.now ≡ bytes
    → held dst.now ≡ before
    → calls_of held g f o bytes before (Some more) after (held left.now)
replied {dst} {left} called is at reads was =
    (dst.now, left.now, was, refl, RepliesAt-from_call called is at reads)

-- a call that ran out of memory
pub refused : {F D : Type 0} {held : D → List ℕ} {g : MemoryReplacer F D} {f after : F} {found : Bor Occurrence}
    {text : Bor (List ℕ)} {dst left : MutBor D} {r : Result Bool AllocError} {error : AllocError} {o : Occurrence}
    {bytes before : List ℕ}
    → Called g f (found, (text, (dst, tt))) (r, (left, tt)) after → r ≡ Err error → found.now ≡ o → text.now ≡ bytes
    → held dst.now ≡ before
    → calls_of held g f o bytes before None after (held left.now)
refused {dst} {left} {error} called is at reads was =
    (dst.now, left.now, error, was, refl, RepliesAt-from_call called is at reads)

-- What the rest of the chain makes of the occurrences left, from a place on, the whole chain makes of them all.
pub record ComesTo {F : Type 0} (Call : Calls F) (x : List ℕ) (all : List Occurrence) (first : F) (begun : List ℕ)
    (at : ℕ) (os : List Occurrence) (f : F) (old : List ℕ) : Type 0 where
  pub ends : (last : F) (new : List ℕ) → IsChain Call x at os f old last new → IsChain Call x 0 all first begun last new
  pub breaks : (last : F) (new : List ℕ) → IsRefusedChain Call x at os f old last new
      → IsRefusedChain Call x 0 all first begun last new

-- the chain begins with all occurrences left
pub comes-first : {F : Type 0} {Call : Calls F} {x : List ℕ} {all os : List Occurrence} {f : F} {old : List ℕ}
    → os ≡ all → ComesTo Call x all f old 0 os f old
comes-first {Call} {x} {f} {old} is = record {
  ends = λ last new h. subst (λ qs. IsChain Call x 0 qs f old last new) is h;
  breaks = λ last new h. subst (λ qs. IsRefusedChain Call x 0 qs f old last new) is h;
}

module _ {F : Type 0} (Call : Calls F) (x : List ℕ) (all : List Occurrence) (first : F) (begun : List ℕ) (at : ℕ)
    (os : List Occurrence) (f : F) (old : List ℕ) (h : ComesTo Call x all first begun at os f old) where
  -- no occurrence is left, and the rest of the text is appended
  pub comes-to_end : {end new : List ℕ} → os ≡ [] → new ≡ old ++ end → end ≡ drop at x
      → (last : F) × IsChain Call x 0 all first begun last new
  comes-to_end {new = new} none e rest_is = (
    f,
    h.ends f new
        (subst (λ qs. IsChain Call x at qs f old f new) (sym none) (refl, e ∙ ap (λ t. old ++ t) rest_is)),
  )

  module _ (rest : List Occurrence) (o : Occurrence) (is : os ≡ o ∷ rest) where
    -- after a call that returns true, the chain goes on with the rest of the occurrences
    pub comes-further : (mid : F) (answered : List ℕ)
        → Call f o (slice_range x o.start o.end) (old ++ slice_range x at o.start) (Some true) mid answered
        → ComesTo Call x all first begun o.end rest mid answered
    comes-further mid answered call = record {
      ends = λ last new more. h.ends last new
          (subst (λ qs. IsChain Call x at qs f old last new) (sym is) (mid, answered, inl (call, more)));
      breaks = λ last new more. h.breaks last new
          (subst (λ qs. IsRefusedChain Call x at qs f old last new) (sym is)
          (inr (inr (mid, answered, inl (call, more)))));
    }

    -- after a call that returns false, the rest of the text is appended
    pub comes-to_false : (mid : F) (answered : List ℕ) {end new : List ℕ}
        → Call f o (slice_range x o.start o.end) (old ++ slice_range x at o.start) (Some false) mid answered
        → new ≡ answered ++ end → end ≡ drop o.end x → (last : F) × IsChain Call x 0 all first begun last new
    comes-to_false mid answered {new} call e rest_is = (
      mid,
      h.ends mid new
          (subst (λ qs. IsChain Call x at qs f old mid new) (sym is)
          (mid, answered, inr (call, refl, e ∙ ap (λ t. answered ++ t) rest_is))),
    )

    pub comes-to_false_refused : (mid : F) (answered new : List ℕ)
        → Call f o (slice_range x o.start o.end) (old ++ slice_range x at o.start) (Some false) mid answered
        → new ≡ answered → (last : F) × IsRefusedChain Call x 0 all first begun last new
    comes-to_false_refused mid answered new call e = (
      mid,
      h.breaks mid new
          (subst (λ qs. IsRefusedChain Call x at qs f old mid new) (sym is)
          (inr (inr (mid, answered, inr (call, refl, e))))),
    )

    -- a call that runs out of memory ends the chain
    pub comes-to_call_refused : (mid : F) (answered : List ℕ)
        → Call f o (slice_range x o.start o.end) (old ++ slice_range x at o.start) None mid answered
        → (last : F) × IsRefusedChain Call x 0 all first begun last answered
    comes-to_call_refused mid answered call = (
      mid,
      h.breaks mid answered
          (subst (λ qs. IsRefusedChain Call x at qs f old mid answered) (sym is) (inr (inl call))),
    )
