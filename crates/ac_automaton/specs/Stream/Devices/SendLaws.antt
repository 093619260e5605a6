-- The laws of what is sent and taken: one part after another is the whole.
use Rattle.std.specs.Prelude.{ℕ, ◌+◌, List, [], ◌++◌, Option}
use Rattle.std.proofs.Common.{refl, sym, ap, ◌∙◌, append_assoc, append-nil, add-zero}
use Rattle.std.proofs.KnownBytes.{Appends-nil, Appends-trans}
use Rattle.ac_automaton.specs.Stream.Devices.Moved.{HasTaken}
use Rattle.ac_automaton.specs.Stream.Devices.Output.{Sent}
use Rattle.ac_automaton.specs.Stream.Devices.Watched.{NoneRead}
use Rattle.ac_automaton.specs.declared.stream.devices.watched.Watched.{Watched}

-- two steps that read nothing together read nothing
pub NoneRead-then : {W : Type 0} {old mid new : Watched W} → NoneRead old mid → NoneRead mid new → NoneRead old new
NoneRead-then a b = record { pieces = b.pieces ∙ a.pieces; ended = b.ended ∙ a.ended }

module _ {W : Type 0} {contents : W → Option (List ℕ)} where
  -- nothing was written yet
  pub taken-none : {writer : Watched W} → HasTaken contents writer writer [] 0 0
  taken-none {writer} = record {
    taken = sym (append-nil _);
    flushed = refl;
    failures = sym (add-zero _);
    stalls = sym (add-zero _);
    reads = record { pieces = refl; ended = refl };
    device = Appends-nil (contents writer.inner);
  }

  -- some bytes, and then more
  pub taken-then : {old mid new : Watched W} {bytes more : List ℕ} {failed stalls : ℕ}
      → HasTaken contents old mid bytes 0 0 → HasTaken contents mid new more failed stalls
      → HasTaken contents old new (bytes ++ more) failed stalls
  taken-then {old} {bytes} {more} {failed} {stalls} a b = record {
    taken = b.taken ∙ ap (λ t. t ++ more) a.taken ∙ append_assoc old.taken.bytes bytes more;
    flushed = b.flushed ∙ a.flushed;
    failures = b.failures ∙ ap (λ n. n + failed) (a.failures ∙ add-zero _);
    stalls = b.stalls ∙ ap (λ n. n + stalls) (a.stalls ∙ add-zero _);
    reads = NoneRead-then a.reads b.reads;
    device = Appends-trans _ _ _ bytes more a.device b.device;
  }

  -- a send of nothing
  pub Sent-none : {writer : Watched W} {held : List ℕ} → Sent contents writer writer held held []
  Sent-none {writer} {held} =
      record {
        gained = [];
        taken = sym (append-nil _);
        flushed = refl;
        order = sym (append-nil held);
        reads = record { pieces = refl; ended = refl };
        fine = record { failures = refl; stalls = refl };
        device = Appends-nil (contents writer.inner);
      }

  -- one send after another
  pub Sent-then : {old mid new : Watched W} {held between after bytes more : List ℕ}
      → Sent contents old mid held between bytes → Sent contents mid new between after more
      → Sent contents old new held after (bytes ++ more)
  Sent-then {held} {between} {after} {bytes} {more} a b =
      record {
        gained = a.gained ++ b.gained;
        taken = b.taken ∙ ap (λ t. t ++ b.gained) a.taken ∙ append_assoc _ a.gained b.gained;
        order = append_assoc a.gained b.gained after ∙ ap (λ t. a.gained ++ t) b.order
            ∙ sym (append_assoc a.gained between more) ∙ ap (λ t. t ++ more) a.order ∙ append_assoc held bytes more;
        flushed = b.flushed ∙ a.flushed;
        reads = NoneRead-then a.reads b.reads;
        fine = record { failures = b.fine.failures ∙ a.fine.failures; stalls = b.fine.stalls ∙ a.fine.stalls };
        device = Appends-trans _ _ _ a.gained b.gained a.device b.device;
      }
