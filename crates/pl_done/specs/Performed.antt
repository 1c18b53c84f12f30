-- What a command leaves of the rows, and of what is known of their pages.
use Rattle.std.specs.Prelude.{◌≡◌, ℕ, false, List, Ok, Err, Result}
use Rattle.pl_base.specs.Rows.{IsSound, Kept, store_of}
use Rattle.pl_base.specs.Store.{Store}
use Rattle.pl_known.specs.declared.known.Known.{Known}
use Rattle.pl_known.specs.Changes.{LeadTo}
use Rattle.pl_step.specs.declared.reply.Reply.{Reply}
use Rattle.pl_step.specs.declared.reply.Reply.TheVariants.{Refused}
use Rattle.pl_step.specs.declared.step_error.StepError.{StepError}
use Rattle.pl_step.specs.declared.step_error.StepError.TheVariants as step
use Rattle.pl_step.specs.Refused.{is_refused}
use Rattle.pl_done.specs.declared.done.Done.{Done}

-- a command with this outcome was performed
pub record IsPerformed {R : Type 0} (kept : R → Kept) (stands_on : R → List ℕ → Type 0)
    (outcome : Reply × Store) (old new : R) (known : Known) (done : Done) : Type 0 where
  pub step : (done.reply, store_of (kept new)) ≡ outcome
  pub accepted : is_refused done.reply ≡ false
  pub sound : IsSound (kept new)
  pub base : (bytes : List ℕ) → stands_on old bytes → stands_on new bytes
  pub leads : LeadTo (store_of (kept new)) known.views.items done.changes.items

-- it was performed, or it was refused and the rows are as they were, or memory was wanting
abbrev pub Performs : {R : Type 0} → (R → Kept) → (R → List ℕ → Type 0) → Reply × Store → R → R
    → Known → Result Done StepError → Type 0
Performs kept stands_on outcome old new known (Ok done) =
    IsPerformed kept stands_on outcome old new known done
Performs kept stands_on outcome old new known (Err (step.Refused refusal)) =
    (new ≡ old) × ((Refused refusal, store_of (kept old)) ≡ outcome)
Performs kept stands_on outcome old new known (Err step.NoMemory) = Unit {0}
