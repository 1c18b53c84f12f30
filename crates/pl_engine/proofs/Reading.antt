-- A command that reads: what it says, and that the rows and what is known of them stay.
use Rattle.std.proofs.Common.{◌≡◌, ◌∙◌, ℕ, false, List, Option, Some, None, Err, Result, ap, refl, subst}
use Rattle.std.proofs.Common.{sym}
use Rattle.pl_base.specs.declared.refusal.Refusal.{Refusal}
use Rattle.pl_base.specs.Rows.{IsSound, Kept, store_of}
use Rattle.pl_base.specs.Store.{Store}
use Rattle.pl_known.specs.declared.known.Known.{Known}
use Rattle.pl_known.specs.Changes.{LeadTo}
use Rattle.pl_known.specs.Known.{Knows}
use Rattle.pl_step.specs.declared.reply.Reply.{Reply}
use Rattle.pl_step.specs.declared.step_error.StepError.{StepError}
use Rattle.pl_step.specs.declared.step_error.StepError.TheVariants as step
use Rattle.pl_step.specs.Refused.{is_refused}
use Rattle.pl_step.specs.Step.{group_reply, unless_refused}
use Rattle.pl_step.specs.StepErrors.{Says}
use Rattle.pl_done.specs.declared.done.Done.{Done}
use Rattle.pl_done.specs.Performed.{IsPerformed, Performs}

-- a reply that is what the definition says
pub is_said : {R : Type 0} (kept : R → Kept) (stands_on : R → List ℕ → Type 0) (rows : R) (known : Known)
    (reply : Reply) (outcome : Reply × Store) (said : Reply) (done : Done) → IsSound (kept rows)
    → Knows (store_of (kept rows)) known → done.reply ≡ said
    → ((store : Store) (views : Known) → Knows store views → LeadTo store views.views.items done.changes.items)
    → (said ≡ reply) × (is_refused said ≡ false) → (reply, store_of (kept rows)) ≡ outcome
    → IsPerformed kept stands_on outcome rows rows known done
is_said kept stands_on rows known reply outcome said done sound knows told leads says is =
    record {
      step = ap (λ (r : Reply). (r, store_of (kept rows))) (told ∙ says.0) ∙ is;
      accepted = ap is_refused told ∙ says.1;
      sound = sound;
      base = λ bytes stands. stands;
      leads = leads (store_of (kept rows)) known knows;
    }

-- a refusal that is what the definition says
pub is_refusal : {R : Type 0} (kept : R → Kept) (stands_on : R → List ℕ → Type 0) (rows : R) (known : Known)
    (reply : Reply) (outcome : Reply × Store) (error : StepError) (result : Result Done StepError)
    → result ≡ Err error → Says reply (Err error) → (reply, store_of (kept rows)) ≡ outcome
    → Performs kept stands_on outcome rows rows known result
is_refusal kept stands_on rows known reply outcome error result is says outcome_is =
    subst (Performs kept stands_on outcome rows rows known) (sym is) (choose error says)
  where
    choose : (e : StepError) → Says reply (Err e) → Performs kept stands_on outcome rows rows known (Err e)
    choose (step.Refused refusal) so =
        (refl, ap (λ (r : Reply). (r, store_of (kept rows))) so ∙ outcome_is)
    choose step.NoMemory so = tt

-- the store stays, whether the command is refused or not
pub store_stays : (refusal : Option Refusal) (store : Store) (reply : Reply)
    → ◌≡◌ {A = Reply × Store} ((unless_refused refusal store (reply, store)).0, store)
    (unless_refused refusal store (reply, store))
store_stays None store reply = refl
store_stays (Some refusal) store reply = refl

-- a group that is filled in is no refusal
pub group_said : (group : Option (List ℕ × ℕ)) → is_refused (group_reply group) ≡ false
group_said None = refl
group_said (Some group) = refl
