-- A command that is not refused may want memory.
use Rattle.std.proofs.Common.{◌≡◌, ◌∙◌, ℕ, Bool, true, false, List, Some, Ok, Result, ap, if◌then◌else◌}
use Rattle.std.proofs.Common.{refl, subst, sym}
use Rattle.std.proofs.lemmas.Bool.{true≢false}
use Rattle.std.specs.Option.{option_or}
use Rattle.pl_base.specs.declared.refusal.Refusal.TheVariants.{NotRecorded}
use Rattle.pl_base.specs.Address.{is_unrecorded_url}
use Rattle.pl_base.specs.Live.{live_slots}
use Rattle.pl_base.specs.Rows.{Kept}
use Rattle.pl_base.specs.Store.{Store}
use Rattle.pl_base.specs.Visiting.{after_visit}
use Rattle.pl_known.specs.declared.known.Known.{Known}
use Rattle.pl_step.specs.declared.command.Command.{Command}
use Rattle.pl_step.specs.declared.command.Command.TheVariants.{Day as DayCommand}
use Rattle.pl_step.specs.declared.command.Command.TheVariants.{Visit as VisitCommand}
use Rattle.pl_step.specs.declared.command.Command.TheVariants.{Title as TitleCommand}
use Rattle.pl_step.specs.declared.command.Command.TheVariants.{Page as PageCommand}
use Rattle.pl_step.specs.declared.command.Command.TheVariants.{Origin as OriginCommand}
use Rattle.pl_step.specs.declared.command.Command.TheVariants.{Stats as StatsCommand}
use Rattle.pl_step.specs.declared.command.Command.TheVariants.{Unvisit as UnvisitCommand}
use Rattle.pl_step.specs.declared.command.Command.TheVariants.{Forget as ForgetCommand}
use Rattle.pl_step.specs.declared.command.Command.TheVariants.{Expire as ExpireCommand}
use Rattle.pl_step.specs.declared.command.Command.TheVariants.{Trim as TrimCommand}
use Rattle.pl_step.specs.declared.command.Command.TheVariants.{Folder as FolderCommand}
use Rattle.pl_step.specs.declared.command.Command.TheVariants.{Bookmark as BookmarkCommand}
use Rattle.pl_step.specs.declared.command.Command.TheVariants.{Separator as SeparatorCommand}
use Rattle.pl_step.specs.declared.command.Command.TheVariants.{Move as MoveCommand}
use Rattle.pl_step.specs.declared.command.Command.TheVariants.{Retitle as RetitleCommand}
use Rattle.pl_step.specs.declared.command.Command.TheVariants.{Remove as RemoveCommand}
use Rattle.pl_step.specs.declared.command.Command.TheVariants.{List as ListCommand}
use Rattle.pl_step.specs.declared.command.Command.TheVariants.{Tag as TagCommand}
use Rattle.pl_step.specs.declared.command.Command.TheVariants.{Untag as UntagCommand}
use Rattle.pl_step.specs.declared.command.Command.TheVariants.{Query as QueryCommand}
use Rattle.pl_step.specs.declared.command.Command.TheVariants.{Place as PlaceCommand}
use Rattle.pl_step.specs.declared.command.Command.TheVariants.{Bar as BarCommand}
use Rattle.pl_step.specs.declared.command.Command.TheVariants.{Fill as FillCommand}
use Rattle.pl_step.specs.declared.command.Command.TheVariants.{Import as ImportCommand}
use Rattle.pl_step.specs.declared.command.Command.TheVariants.{Restore as RestoreCommand}
use Rattle.pl_step.specs.declared.reply.Reply.{Reply}
use Rattle.pl_step.specs.declared.step_error.StepError.{StepError}
use Rattle.pl_step.specs.Commands.{MayWantMemory}
use Rattle.pl_step.specs.Refused.{is_refused}
use Rattle.pl_step.specs.Step.{perform, room_refusal, source_refusal, unless_refused, visit_reply}
use Rattle.pl_done.specs.declared.done.Done.{Done}
use Rattle.pl_done.specs.Performed.{IsPerformed, Performs}

pub may_want : (limit : ℕ) (store : Store) (command : Command)
    → is_refused (perform limit store command).0 ≡ false → MayWantMemory limit store command
may_want limit store (VisitCommand url transition date source) accepted =
    choose (is_unrecorded_url url) refl accepted
  where
    choose : (b : Bool) → is_unrecorded_url url ≡ b
        → is_refused (unless_refused (if b then Some NotRecorded else
        option_or (source_refusal store source)
        (room_refusal limit store url (live_slots (after_visit store url transition date source)))) store
        (visit_reply store url transition date source, after_visit store url transition date source)).0 ≡ false
        → is_unrecorded_url url ≡ false
    choose true is told = absurd (true≢false told)
    choose false is told = is
may_want limit store (MoveCommand item parent place date) accepted = accepted
may_want limit store (DayCommand day) accepted = tt
may_want limit store (TitleCommand url text) accepted = tt
may_want limit store (PageCommand url) accepted = tt
may_want limit store (OriginCommand url) accepted = tt
may_want limit store StatsCommand accepted = tt
may_want limit store (UnvisitCommand visit) accepted = tt
may_want limit store (ForgetCommand url) accepted = tt
may_want limit store (ExpireCommand day) accepted = tt
may_want limit store (TrimCommand most) accepted = tt
may_want limit store (FolderCommand parent place title date) accepted = tt
may_want limit store (BookmarkCommand parent place url title date) accepted = tt
may_want limit store (SeparatorCommand parent place date) accepted = tt
may_want limit store (RetitleCommand item title date) accepted = tt
may_want limit store (RemoveCommand item) accepted = tt
may_want limit store (ListCommand item) accepted = tt
may_want limit store (TagCommand url name date) accepted = tt
may_want limit store (UntagCommand url name) accepted = tt
may_want limit store (QueryCommand query) accepted = tt
may_want limit store (PlaceCommand query) accepted = tt
may_want limit store (BarCommand most text) accepted = tt
may_want limit store (FillCommand text) accepted = tt
may_want limit store (ImportCommand tree) accepted = tt
may_want limit store (RestoreCommand tree) accepted = tt

-- a command that was performed is not refused
pub accepted_by : {R : Type 0} (kept : R → Kept) (stands_on : R → List ℕ → Type 0) (outcome : Reply × Store)
    (old new : R) (known : Known) (result : Result Done StepError) (done : Done) → result ≡ Ok done
    → Performs kept stands_on outcome old new known result → is_refused outcome.0 ≡ false
accepted_by {R} kept stands_on outcome old new known result done is performs =
    let p : IsPerformed kept stands_on outcome old new known done =
    subst (Performs kept stands_on outcome old new known) is performs in
    sym (ap (λ (o : Reply × Store). is_refused o.0) p.step) ∙ p.accepted
