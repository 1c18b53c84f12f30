-- What it makes of a store that a page loses a tag, or why it does not.
use Rattle.std.proofs.Common.{◌≡◌, ◌∙◌, Err, List, None, Option, Some, ap, refl, sym, ℕ}
use Rattle.std.specs.Option.{unwrap_or}
use Rattle.pl_base.specs.declared.id.PageId.{PageId}
use Rattle.pl_base.specs.declared.refusal.Refusal.{Refusal}
use Rattle.pl_base.specs.declared.refusal.Refusal.TheVariants.{NoPage}
use Rattle.pl_base.specs.Removal.{without_idle_pages}
use Rattle.pl_base.specs.Rows.{Kept, store_of, with_items}
use Rattle.pl_base.specs.Store.{Page, Store}
use Rattle.pl_base.specs.Visiting.{find_page, new_page}
use Rattle.pl_tree.specs.declared.error.TreeError.{TreeError}
use Rattle.pl_tree.specs.declared.error.TreeError.TheVariants as tree
use Rattle.pl_tree.specs.Refused as refused
use Rattle.pl_tree.specs.Tagged.{untagged_items}
use Rattle.pl_known.specs.declared.known.Known.{Known}
use Rattle.pl_step.specs.declared.command.Command.TheVariants.{Untag as UntagCommand}
use Rattle.pl_step.specs.declared.reply.Reply.{Reply}
use Rattle.pl_step.specs.declared.reply.Reply.TheVariants.{Done, Refused}
use Rattle.pl_step.specs.Step.{after_untag, perform, unless_refused, untag_refusal}
use Rattle.pl_step.specs.StepErrors.{of_tree}
use Rattle.pl_history.specs.declared.find.Target.TheVariants as target
use Rattle.pl_history.specs.Target.{IsTargetOf}
use Rattle.pl_history.proofs.Targets.{IsFound, found_page}
use Rattle.pl_done.specs.Performed.{Performs}

abbrev Steps : ℕ → Store → List ℕ → List ℕ → Reply → Store → Type 0
Steps limit store url name reply new =
    ◌≡◌ {A = Reply × Store} (reply, new) (perform limit store (UntagCommand url name))

-- no page has the URL
pub untag_absent : (limit : ℕ) (store : Store) (url name : List ℕ) → find_page url store.pages ≡ None
    → Steps limit store url name (Refused NoPage) store
untag_absent limit store url name none =
    sym (ap (λ (o : Option Page). unless_refused (untag_refusal store o name) store
    (Done, after_untag (unwrap_or o (new_page store url)).id name store)) none)

-- the page with the URL is asked for its tag
cause_is : (kept : Kept) (url name : List ℕ) (page : PageId) → IsTargetOf kept url (target.Known page)
    → untag_refusal (store_of kept) (find_page url (store_of kept).pages) name
    ≡ refused.untag_refusal page name kept.items
cause_is kept url name page of =
    let f : IsFound kept url page = found_page kept url page of in
    ap (λ (o : Option Page). untag_refusal (store_of kept) o name) f.there
    ∙ ap (λ (id : PageId). refused.untag_refusal id name kept.items) f.is

-- the page has not the tag
untag_refused : (limit : ℕ) (kept : Kept) (url name : List ℕ) (page : PageId) (refusal : Refusal)
    → IsTargetOf kept url (target.Known page) → refused.untag_refusal page name kept.items ≡ Some refusal
    → Steps limit (store_of kept) url name (Refused refusal) (store_of kept)
untag_refused limit kept url name page refusal of is =
    let store : Store = store_of kept in
    sym (ap (λ (o : Option Refusal). unless_refused o store
    (Done, after_untag (unwrap_or (find_page url store.pages) (new_page store url)).id name store))
    (cause_is kept url name page of ∙ is))

-- so it is where the tree is not changed
pub untag_stops : {R : Type 0} (kept : R → Kept) (base : R → List ℕ → Type 0) (limit : ℕ) (old new : R) (known : Known)
    (url name : List ℕ) (page : PageId) (error : TreeError) → IsTargetOf (kept old) url (target.Known page)
    → ((refusal : Refusal) → error ≡ tree.Refused refusal
    → (refused.untag_refusal page name (kept old).items ≡ Some refusal) × (new ≡ old))
    → Performs kept base (perform limit (store_of (kept old)) (UntagCommand url name)) old new known
    (Err (of_tree error))
untag_stops kept base limit old new known url name page (tree.Refused refusal) of told =
    let both = told refusal refl in
    (both.1, untag_refused limit (kept old) url name page refusal of both.0)
untag_stops kept base limit old new known url name page tree.NoMemory of told = tt

-- the page has it no more
pub untag_done : (limit : ℕ) (kept mid new : Kept) (url name : List ℕ) (page : PageId)
    → IsTargetOf kept url (target.Known page) → refused.untag_refusal page name kept.items ≡ None
    → mid ≡ with_items (untagged_items page name kept.items) kept
    → store_of new ≡ without_idle_pages (store_of mid)
    → Steps limit (store_of kept) url name Done (store_of new)
untag_done limit kept mid new url name page of allowed made settled =
    let store : Store = store_of kept in
    let f : IsFound kept url page = found_page kept url page of in
    ap (λ (s : Store). (Done, s)) (settled ∙ ap (λ (k : Kept). without_idle_pages (store_of k)) made)
    ∙ ap (λ (id : PageId). (Done, after_untag id name store)) (sym f.is)
    ∙ ap (λ (o : Option Page). (Done, after_untag (unwrap_or o (new_page store url)).id name store)) (sym f.there)
    ∙ sym (ap (λ (o : Option Refusal). unless_refused o store
    (Done, after_untag (unwrap_or (find_page url store.pages) (new_page store url)).id name store))
    (cause_is kept url name page of ∙ allowed))
