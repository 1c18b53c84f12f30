-- A command that was performed, and the changes of views that it tells.
use Rattle.std.proofs.Common.{◌≡◌, ℕ, false, List, Global, Vec}
use Rattle.pl_base.specs.declared.change.Change.{Change}
use Rattle.pl_base.specs.Rows.{IsSound, Kept, store_of}
use Rattle.pl_base.specs.Store.{Store}
use Rattle.pl_known.specs.declared.known.Known.{Known}
use Rattle.pl_known.specs.Changes.{LeadTo}
use Rattle.pl_step.specs.declared.reply.Reply.{Reply}
use Rattle.pl_step.specs.Refused.{is_refused}
use Rattle.pl_done.specs.Performed.{IsPerformed}

pub by_changes : {R : Type 0} (kept : R → Kept) (stands_on : R → List ℕ → Type 0) (outcome : Reply × Store)
    (old new : R) (known : Known) (reply : Reply) (changes : Vec Change Global) → is_refused reply ≡ false
    → ◌≡◌ {A = Reply × Store} (reply, store_of (kept new)) outcome → IsSound (kept new)
    → ((bytes : List ℕ) → stands_on old bytes → stands_on new bytes)
    → LeadTo (store_of (kept new)) known.views.items changes.items
    → IsPerformed kept stands_on outcome old new known (record { reply = reply; changes = changes })
by_changes kept stands_on outcome old new known reply changes accepted step sound base lead =
    record { step = step; accepted = accepted; sound = sound; base = base; leads = lead }
