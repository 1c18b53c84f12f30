-- The step of a title, once its page is found.
use Rattle.std.proofs.Common.{◌≡◌, ◌∙◌, if◌then◌else◌, ℕ, Bool, true, false, List, Option, Some, None, ap, refl, sym}
use Rattle.std.specs.Option.{is_none}
use Rattle.pl_base.specs.declared.id.PageId.{PageId}
use Rattle.pl_base.specs.declared.refusal.Refusal.{Refusal}
use Rattle.pl_base.specs.declared.refusal.Refusal.TheVariants.{Full, NoPage}
use Rattle.pl_base.specs.Live.{live_slots}
use Rattle.pl_base.specs.Rows.{IsWellKept, Kept, store_of, with_title}
use Rattle.pl_base.specs.Store.{Page, Store}
use Rattle.pl_base.specs.Title.{cut_title}
use Rattle.pl_base.specs.Visiting.{find_page}
use Rattle.pl_step.specs.declared.command.Command.TheVariants.{Title as TitleCommand}
use Rattle.pl_history.specs.declared.find.Target.TheVariants.{Known}
use Rattle.pl_step.specs.declared.reply.Reply.{Reply}
use Rattle.pl_step.specs.declared.reply.Reply.TheVariants.{Done, Refused}
use Rattle.pl_step.specs.Step.{after_title, is_full, perform, unless_refused}
use Rattle.pl_history.specs.Target.{IsTargetOf}
use Rattle.pl_visiting.specs.Titled.{within_slots}
use Rattle.pl_history.proofs.KnownPage.{known}
use Rattle.pl_visiting.proofs.Titled.{store_titled}

either : (b : Bool) (refusal : Refusal) (before after : Store)
    → (if b then (Refused refusal, before) else (Done, after))
    ≡ unless_refused (if b then Some refusal else None) before (Done, after)
either true refusal before after = refl
either false refusal before after = refl

-- then only the slots can refuse it
pub step_of : (limit : ℕ) (kept : Kept) (url text title : List ℕ) (id : PageId) → IsWellKept kept
    → IsTargetOf kept url (Known id) → title ≡ cut_title text
    → within_slots limit (store_of kept) (store_of (with_title id title kept))
    ≡ perform limit (store_of kept) (TitleCommand url text)
step_of limit kept url text title id h of cut =
    let store : Store = store_of kept in
    let after : Store = after_title store url text in
    let full : Bool = is_full limit (live_slots store) (live_slots after) in
    ap (λ (t : List ℕ). within_slots limit store (store_of (with_title id t kept))) cut
    ∙ ap (within_slots limit store) (store_titled kept url text id h of)
    ∙ either full (Full (live_slots after)) store after
    ∙ ap (λ (found : Option Page). unless_refused
    (if is_none found then Some NoPage else if full then Some (Full (live_slots after)) else None) store (Done, after))
    (sym (known kept url id of).found)

-- no page has the URL
pub no_page : (limit : ℕ) (store : Store) (url text : List ℕ) → find_page url store.pages ≡ None
    → ◌≡◌ {A = Reply × Store} (Refused NoPage, store) (perform limit store (TitleCommand url text))
no_page limit store url text none =
    let after : Store = after_title store url text in
    let full : Bool = is_full limit (live_slots store) (live_slots after) in
    ap (λ (found : Option Page). unless_refused
    (if is_none found then Some NoPage else if full then Some (Full (live_slots after)) else None) store (Done, after))
    (sym none)

-- a title that stands leaves the store
pub same_of : (kept : Kept) (url text title : List ℕ) (id : PageId) → IsWellKept kept → IsTargetOf kept url (Known id)
    → title ≡ cut_title text → after_title (store_of kept) url text ≡ store_of kept
    → store_of (with_title id title kept) ≡ store_of kept
same_of kept url text title id h of cut same =
    ap (λ (t : List ℕ). store_of (with_title id t kept)) cut ∙ store_titled kept url text id h of ∙ same
