-- A title, set where the slots allow it.
use Rattle.std.specs.Prelude.{ℕ, List, Some, if◌then◌else◌}
use Rattle.pl_base.specs.declared.change.Change.{Change}
use Rattle.pl_base.specs.declared.refusal.Refusal.TheVariants.{Full}
use Rattle.pl_base.specs.declared.view.View.{View}
use Rattle.pl_base.specs.Live.{live_slots}
use Rattle.pl_base.specs.Store.{Store}
use Rattle.pl_step.specs.declared.reply.Reply.{Reply}
use Rattle.pl_step.specs.declared.reply.Reply.TheVariants.{Done, Refused}
use Rattle.pl_step.specs.Step.{is_full}

-- the change is made, unless the store would take more slots than it may
abbrev pub within_slots : ℕ → Store → Store → Reply × Store
within_slots limit before after =
    if is_full limit (live_slots before) (live_slots after)
    then (Refused (Full (live_slots after)), before)
    else (Done, after)

-- the change of a view that gets another title
abbrev pub titling : List ℕ → View → Change
titling title view = record { old = Some view; new = Some (record view { title = title }) }
