-- What a second run goes on from.
use Rattle.std.proofs.Common.{◌≡◌, ℕ, true, List, [], ◌++◌, Option, Some, IsSome, append-nil, arith}
use Rattle.std.proofs.Common.{inl, inr, refl, sym, ap, subst, ◌∙◌}
use Rattle.pl_base.specs.Store.{Store}
use Rattle.pl_base.specs.Live.{slot_limit}
use Rattle.pl_desk.specs.declared.desk.Desk.{Ghosts}
use Rattle.pl_step.specs.declared.command.Command.{Command}
use Rattle.pl_step.specs.Parsed.{Parsed}
use Rattle.pl_step.specs.Run.{replies, after}
use Rattle.pl_store.specs.Session.{Stands}
use Rattle.places.specs.declared.status.Status.TheVariants as status
use Rattle.places.specs.Ending.{LeavesAtEnd}
use Rattle.places.specs.Said.{texts}
use Rattle.places.proofs.ProgressLemmas.{after-append}
use Rattle.trials_stored.specs.Again.{AreDone, GoesOn}

-- where a run left the file whose calls failed, and what it had said
pub record Left (start : Store) (before : List ℕ) (said : Option (List ℕ)) (file : List ℕ) : Type 0 where
  pub answered : List (Parsed Command)
  pub done : List (Parsed Command)
  pub are_done : AreDone answered done
  pub text : said ≡ Some (before ++ texts (replies slot_limit start answered))
  pub stands : Stands file (after slot_limit start done)

module _ {D : Type 0} (desk : Ghosts D) (first : D) (start : Store) where
  pub left_by : (bytes before : List ℕ) (left : Option (List ℕ)) (now : D)
      → ((file : List ℕ) → desk.may_leave first file → Stands file start)
      → LeavesAtEnd desk status.DeviceFault true first start bytes before left now
      → (file : List ℕ) → desk.may_leave now file → Left start before (desk.said now) file
  left_by bytes before left now stands (inl open_) file is_left = record {
    answered = [];
    done = [];
    are_done = ([], omega arith, refl);
    text = open_.unsaid ∙ ap Some (sym (append-nil before));
    stands = stands file (open_.as_before file is_left);
  }
  left_by bytes before left now stands (inr within) file is_left =
      let leaves = within.leaves in elim (leaves.file file is_left) [
        | inl before_it ↦ record {
          answered = leaves.answered;
          done = leaves.answered;
          are_done = ([], omega arith, sym (append-nil leaves.answered));
          text = leaves.text;
          stands = before_it;
        }
        | inr after_it ↦ record {
          answered = leaves.answered;
          done = leaves.answered ++ leaves.next;
          are_done = (leaves.next, leaves.one, refl);
          text = leaves.text;
          stands = subst (Stands file) (sym (after-append start leaves.answered leaves.next)) after_it;
        }
      ]

  -- what was said is told still
  pub said_by : (bytes before : List ℕ) (left : Option (List ℕ)) (now : D)
      → LeavesAtEnd desk status.DeviceFault true first start bytes before left now → IsSome (desk.said now)
  said_by bytes before left now (inl open_) = subst IsSome (sym open_.unsaid) refl
  said_by bytes before left now (inr within) = subst IsSome (sym within.leaves.text) refl

  pub goes_on : (two before : List ℕ) (said : Option (List ℕ)) (file : List ℕ) (here : Left start before said file)
      (left : Option (List ℕ)) (now : D)
      → LeavesAtEnd desk status.Done true first (after slot_limit start here.done) two
      (before ++ texts (replies slot_limit start here.answered)) left now
      → GoesOn desk start two before now
  goes_on two before said file here left now ends = record {
    answered = here.answered;
    done = here.done;
    are_done = here.are_done;
    text = ends.0.all_said;
    rests = ends.1;
  }
