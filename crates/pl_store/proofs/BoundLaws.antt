-- How much the commit of a command writes at most.
use Rattle.std.proofs.Common.{◌≡◌, ◌≤◌, ◌||◌, ℕ, Bool, Option, Some, None, IfSome, arith, false, inl, inr, not, refl, true}
use Rattle.std.specs.Option.{option_map}
use Rattle.std.specs.Prelude.{if◌then◌else◌}
use Rattle.std.proofs.lemmas.Bool.{or_cases}
use Rattle.pl_base.specs.declared.refusal.Refusal.{Refusal}
use Rattle.pl_base.specs.Store.{Store}
use Rattle.pl_visiting.specs.VisitPages.{AddsFewPages}
use Rattle.pl_gate.specs.Gate.{commit_bytes}
use Rattle.pl_step.specs.declared.command.Command.{Command}
use Rattle.pl_step.specs.declared.command.Command.TheVariants.{Bar, Bookmark, Day, Expire, Fill, Folder, Forget, Import, Restore}
use Rattle.pl_step.specs.declared.command.Command.TheVariants.{List as ListItem, Move, Origin, Page, Place, Query}
use Rattle.pl_step.specs.declared.command.Command.TheVariants.{Remove, Retitle, Separator, Stats, Tag, Title, Trim}
use Rattle.pl_step.specs.declared.command.Command.TheVariants.{Untag, Unvisit, Visit}
use Rattle.pl_step.specs.declared.reply.Reply.{Reply}
use Rattle.pl_step.specs.declared.reply.Reply.TheVariants as reply
use Rattle.pl_step.specs.Commands.{is_change}
use Rattle.pl_step.specs.Refused.{is_refused}
use Rattle.pl_store.specs.declared.pending.Pending.{Pending}
use Rattle.pl_store.specs.declared.session.Prepared.{Prepared}
use Rattle.pl_store.specs.Bounds.{most_bytes, most_pages}
use Rattle.pl_store.specs.Session.{bytes_of_change, bytes_to_write, pages_of_change, pages_to_write}
use Rattle.pl_store.specs.Session.{writes_nothing}

-- whatever number is told
pub any_some : (told : Option ℕ) (P : ℕ → Type 0) → ((n : ℕ) → P n) → IfSome told P
any_some None P all = tt
any_some (Some n) P all = all n

-- ---- pages

-- few pages were to be listed before the command, and a visit added few
pub few_listed : (command : Command) (store : Store) (old new : ℕ) → old ≡ 0
    → AddsFewPages command store (Some old) (Some new) → IfSome (most_pages command store) (λ most. new ≤ most)
few_listed (Visit url transition date source) store old new none adds = omega (arith, none, adds)
few_listed (Day day) store old new none adds = tt
few_listed (Title url text) store old new none adds = tt
few_listed (Page url) store old new none adds = tt
few_listed (Origin url) store old new none adds = tt
few_listed Stats store old new none adds = tt
few_listed (Unvisit visit) store old new none adds = tt
few_listed (Forget url) store old new none adds = tt
few_listed (Expire day) store old new none adds = tt
few_listed (Trim n) store old new none adds = tt
few_listed (Folder parent place title date) store old new none adds = tt
few_listed (Bookmark parent place url title date) store old new none adds = tt
few_listed (Separator parent place date) store old new none adds = tt
few_listed (Move item parent place date) store old new none adds = tt
few_listed (Retitle item title date) store old new none adds = tt
few_listed (Remove item) store old new none adds = tt
few_listed (Tag url name date) store old new none adds = tt
few_listed (Untag url name) store old new none adds = tt
few_listed (ListItem item) store old new none adds = tt
few_listed (Query query) store old new none adds = tt
few_listed (Place query) store old new none adds = tt
few_listed (Bar most text) store old new none adds = tt
few_listed (Fill text) store old new none adds = tt
few_listed (Import tree) store old new none adds = tt
few_listed (Restore tree) store old new none adds = tt

-- ---- bytes

-- a reply that refuses is a refusal
told_refusal : (r : Reply) → is_refused r ≡ true → (refusal : Refusal) × (r ≡ reply.Refused refusal)
told_refusal (reply.Refused refusal) is = (refusal, refl)
told_refusal (reply.Day day changed) is = absurd (cc)
told_refusal (reply.Visit visit page frecency) is = absurd (cc)
told_refusal reply.Done is = absurd (cc)
told_refusal (reply.Page id frecency count last typed hidden bookmarked url title tags) is = absurd (cc)
told_refusal (reply.Origin prefix host reversed total pages passes) is = absurd (cc)
told_refusal (reply.Stats pages visits items origins sum slots) is = absurd (cc)
told_refusal (reply.Removed visits pages) is = absurd (cc)
told_refusal (reply.Item id) is = absurd (cc)
told_refusal (reply.List rows) is = absurd (cc)
told_refusal (reply.Rows rows) is = absurd (cc)
told_refusal (reply.Place text) is = absurd (cc)
told_refusal (reply.Bar rows) is = absurd (cc)
told_refusal (reply.Fill group total) is = absurd (cc)
told_refusal reply.NoFill is = absurd (cc)
told_refusal (reply.Imported items tags skipped) is = absurd (cc)
told_refusal (reply.Restored items tags skipped) is = absurd (cc)

-- where nothing changes no byte is written
no_bytes : (prepared : Prepared) → writes_nothing prepared → bytes_to_write prepared ≤ 0
no_bytes prepared none = rw none (omega arith)

of_change : (change : Option Pending) (most : ℕ) → pages_of_change change ≤ most
    → bytes_of_change change ≤ commit_bytes most
of_change None most few = omega arith
of_change (Some pending) most few = omega (arith, few)

few_bytes : (prepared : Prepared) (most : ℕ) → pages_to_write prepared ≤ most
    → bytes_to_write prepared ≤ commit_bytes most
few_bytes prepared most few = of_change prepared.change most few

not_true : (b : Bool) → not b ≡ true → b ≡ false
not_true true is = absurd (cc)
not_true false is = refl

chosen : (b : Bool) (most : Option ℕ) (P : ℕ → Type 0) → (b ≡ true → P 0) → (b ≡ false → IfSome most P)
    → IfSome (if b then Some 0 else most) P
chosen true most P nothing some = nothing refl
chosen false most P nothing some = some refl

mapped : (f : ℕ → ℕ) (told : Option ℕ) (P Q : ℕ → Type 0) → ((n : ℕ) → P n → Q (f n)) → IfSome told P
    → IfSome (option_map f told) Q
mapped f None P Q goes told = tt
mapped f (Some n) P Q goes told = goes n told

pub few_written : (prepared : Prepared) (store : Store) (command : Command) (r : Reply)
    → IfSome (most_pages command store) (λ most. pages_to_write prepared ≤ most)
    → ((refusal : Refusal) → r ≡ reply.Refused refusal → writes_nothing prepared)
    → (is_change command ≡ false → writes_nothing prepared)
    → IfSome (most_bytes store command r) (λ most. bytes_to_write prepared ≤ most)
few_written prepared store command r few refused unchanged =
    chosen (is_refused r || not (is_change command)) (option_map commit_bytes (most_pages command store))
    (λ most. bytes_to_write prepared ≤ most)
    (λ is. elim (or_cases (is_refused r) (not (is_change command)) is) [
      | inl refuses ↦ let told = told_refusal r refuses in no_bytes prepared (refused told.0 told.1)
      | inr same ↦ no_bytes prepared (unchanged (not_true (is_change command) same))
    ])
    (λ changes. mapped commit_bytes (most_pages command store) (λ most. pages_to_write prepared ≤ most)
    (λ most. bytes_to_write prepared ≤ most) (few_bytes prepared) few)
