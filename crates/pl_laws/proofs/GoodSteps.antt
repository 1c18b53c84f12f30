-- Each step of a good store leaves a good store, and so does a run of steps.
use Rattle.std.proofs.Common.{◌≡◌, ◌+◌, ◌==◌, ◌&&◌, ℕ, All, Bool, true, false, IsTrue, List, [], ◌∷◌}
use Rattle.std.proofs.Common.{Option, Some, None, IfSome, Ok, Err, arith, if◌then◌else◌, is_none, map, nat_lt, refl}
use Rattle.std.specs.Option.{option_or}
use Rattle.std.proofs.lemmas.List.Elements.{All-head, All-tail}
use Rattle.std.proofs.lemmas.Str.{IsUtf8-nil}
use Rattle.pl_base.specs.declared.date.Micros.{Micros}
use Rattle.pl_base.specs.declared.id.IdKind.TheVariants.{Item as ItemIds, Page as PageIds, Visit as VisitIds}
use Rattle.pl_base.specs.declared.id.ItemId.{ItemId}
use Rattle.pl_base.specs.declared.id.PageId.{PageId}
use Rattle.pl_base.specs.declared.id.VisitId.{VisitId}
use Rattle.pl_base.specs.declared.refusal.Refusal.{Refusal}
use Rattle.pl_base.specs.declared.refusal.Refusal.TheVariants.{DupTag, Full, NoIds, NotRecorded, NoVisit, TooMany}
use Rattle.pl_base.specs.declared.transition.Transition.{Transition}
use Rattle.pl_base.specs.Address.{is_unrecorded_url}
use Rattle.pl_base.specs.Days.{on_day, pages_moved}
use Rattle.pl_base.specs.Expiration.{trimmed_pages, visits_before, visits_to}
use Rattle.pl_base.specs.Good.{IsGood, end_of_ids}
use Rattle.pl_base.specs.Live.{live_slots}
use Rattle.pl_base.specs.Redirects.{visit_by_id}
use Rattle.pl_base.specs.Removal.{without_visits}
use Rattle.pl_base.specs.Store.{Item, Page, Store, Visit, item_id}
use Rattle.pl_base.specs.Title.{cut_title}
use Rattle.pl_base.specs.Tree.{retitled}
use Rattle.pl_base.specs.Visiting.{after_visit, find_page, page_for}
use Rattle.pl_base.specs.Visits.{visits_of}
use Rattle.pl_base.proofs.LookUps.{found_some}
use Rattle.pl_base.proofs.Truths.{neither}
use Rattle.pl_tree.specs.declared.place.Place.{Place}
use Rattle.pl_tree.specs.declared.tree_change.TreeChange.TheVariants.{Insert, Move, Remove, Retitle}
use Rattle.pl_tree.specs.Changes.{with_moved, with_removed}
use Rattle.pl_tree.specs.Refused.{folder_refusal, refusal}
use Rattle.pl_tree.specs.Tagged.{new_items, untagged_items}
use Rattle.pl_tree.proofs.StoreItems.{item_moved, item_removed, item_retitled, tag_taken}
use Rattle.pl_history.proofs.ItemMarks.{reference_changed, reference_moved}
use Rattle.pl_graft.specs.Import.{imported, most_rows, row_count}
use Rattle.pl_graft.specs.Restored.{restored}
use Rattle.pl_nbread.specs.declared.tree.Tree.{Tree}
use Rattle.pl_step.specs.Commands.{HasDates}
use Rattle.pl_step.specs.Parsed.{Parsed}
use Rattle.pl_step.specs.Run.{after}
use Rattle.pl_step.specs.Step.{absent_visit, after_bookmark, after_insert, after_move, after_remove, after_retitle}
use Rattle.pl_step.specs.Step.{after_tag, after_title, after_untag, day_refusal, forget_step, import_refusal}
use Rattle.pl_step.specs.Step.{import_reply, restore_reply}
use Rattle.pl_step.specs.Step.{insert_refusal, insert_step, is_full, is_tagged, list_reply, new_bookmark, new_folder}
use Rattle.pl_step.specs.Step.{new_separator, perform, removal_step, retitle_refusal, room_refusal}
use Rattle.pl_step.specs.Step.{source_refusal, step, tag_refusal, title_refusal, unless_refused, untag_refusal}
use Rattle.pl_step.specs.Step.{visit_refusal, visit_reply}
use Rattle.pl_laws.specs.Texts.{HasTexts, IsEntry, IsUrl}
use Rattle.pl_step.specs.declared.command.Command.{Command}
use Rattle.pl_step.specs.declared.command.Command.TheVariants.{Day as DayCommand}
use Rattle.pl_step.specs.declared.command.Command.TheVariants.{Visit as VisitCommand}
use Rattle.pl_step.specs.declared.command.Command.TheVariants.{Title as TitleCommand}
use Rattle.pl_step.specs.declared.command.Command.TheVariants.{Page as PageCommand}
use Rattle.pl_step.specs.declared.command.Command.TheVariants.{Origin as OriginCommand}
use Rattle.pl_step.specs.declared.command.Command.TheVariants.{Stats as StatsCommand}
use Rattle.pl_step.specs.declared.command.Command.TheVariants.{Unvisit as UnvisitCommand}
use Rattle.pl_step.specs.declared.command.Command.TheVariants.{Forget as ForgetCommand}
use Rattle.pl_step.specs.declared.command.Command.TheVariants.{Expire as ExpireCommand}
use Rattle.pl_step.specs.declared.command.Command.TheVariants.{Trim as TrimCommand}
use Rattle.pl_step.specs.declared.command.Command.TheVariants.{Folder as FolderCommand}
use Rattle.pl_step.specs.declared.command.Command.TheVariants.{Bookmark as BookmarkCommand}
use Rattle.pl_step.specs.declared.command.Command.TheVariants.{Separator as SeparatorCommand}
use Rattle.pl_step.specs.declared.command.Command.TheVariants.{Move as MoveCommand}
use Rattle.pl_step.specs.declared.command.Command.TheVariants.{Retitle as RetitleCommand}
use Rattle.pl_step.specs.declared.command.Command.TheVariants.{Remove as RemoveCommand}
use Rattle.pl_step.specs.declared.command.Command.TheVariants.{List as ListCommand}
use Rattle.pl_step.specs.declared.command.Command.TheVariants.{Tag as TagCommand}
use Rattle.pl_step.specs.declared.command.Command.TheVariants.{Untag as UntagCommand}
use Rattle.pl_step.specs.declared.command.Command.TheVariants.{Query as QueryCommand}
use Rattle.pl_step.specs.declared.command.Command.TheVariants.{Place as PlaceCommand}
use Rattle.pl_step.specs.declared.command.Command.TheVariants.{Bar as BarCommand}
use Rattle.pl_step.specs.declared.command.Command.TheVariants.{Fill as FillCommand}
use Rattle.pl_step.specs.declared.command.Command.TheVariants.{Import as ImportCommand}
use Rattle.pl_step.specs.declared.command.Command.TheVariants.{Restore as RestoreCommand}
use Rattle.pl_step.specs.declared.reply.Reply.{Reply}
use Rattle.pl_step.specs.declared.reply.Reply.TheVariants.{Day as DayReply, Done, Item as ItemReply}
use Rattle.pl_laws.proofs.GoodChanges.{good_bookmark, good_day, good_fewer, good_gone, good_import}
use Rattle.pl_laws.proofs.GoodChanges.{good_insert, good_items, good_restore, good_tag, good_title, good_visit}
use Rattle.pl_laws.proofs.GoodItems.{numbers_moved, numbers_removed, numbers_retitled, numbers_untagged, refer_alike}
use Rattle.pl_laws.proofs.GoodParts.{IsLoose, has_visit, loose}
use Rattle.pl_laws.proofs.GoodTitles.{cut_is_title}

-- ---- where nothing refuses

-- a refused command changes nothing
unless : (cause : Option Refusal) (store : Store) (done : Reply × Store) → IsGood store
    → (cause ≡ None → IsGood done.1) → IsGood (unless_refused cause store done).1
unless None store done good changed = changed refl
unless (Some refusal) store done good changed = good

-- the first of several causes does not refuse, and the others do not
none_first : (b : Bool) (cause : Refusal) (rest : Option Refusal) → (if b then Some cause else rest) ≡ None
    → (b ≡ false) × (rest ≡ None)
none_first true cause rest none = absurd (cc)
none_first false cause rest none = (refl, none)

-- a source that is not refused is there
source_there : (store : Store) (source : Option VisitId) → source_refusal store source ≡ None
    → IfSome source (λ id. IsTrue (has_visit id store.visits))
source_there store None none = tt
source_there store (Some id) none = choose (visit_by_id store id) refl none
  where
    choose : (o : Option Visit) → visit_by_id store id ≡ o → (if is_none o then Some (NoVisit id) else None) ≡ None
        → IsTrue (has_visit id store.visits)
    choose None at refused = absurd (cc)
    choose (Some v) at free = found_some (λ (w : Visit). w.id.0 == id.0) store.visits v at

-- ---- the commands

module _ (limit : ℕ) (store : Store) (good : IsGood store) where
  l : IsLoose store
  l = loose store good

  good_visited : (url : List ℕ) (transition : Transition) (date : Micros) (source : Option VisitId)
      → HasDates (VisitCommand url transition date source) → IsUrl url
      → visit_refusal limit store url transition date source ≡ None
      → IsGood (after_visit store url transition date source)
  good_visited url transition date source dated is none =
      let slots : ℕ = live_slots (after_visit store url transition date source) in
      let full : Option Refusal = if is_full limit (live_slots store) slots then Some (Full slots) else None in
      let visits : Option Refusal = if store.ids.visit == end_of_ids then Some (NoIds VisitIds) else full in
      let a = none_first (is_unrecorded_url url) NotRecorded
      (option_or (source_refusal store source) (room_refusal limit store url slots)) none in
      let b = neither (source_refusal store source) (room_refusal limit store url slots) a.1 in
      let c = none_first (is_none (find_page url store.pages) && (store.ids.page == end_of_ids)) (NoIds PageIds) visits
      b.1 in
      let d = none_first (store.ids.visit == end_of_ids) (NoIds VisitIds) full c.1 in
      good_visit store good url is c.0 transition date source dated (source_there store source b.0) d.0

  good_forgotten : (found : Option Page) → IsGood (forget_step store found).1
  good_forgotten None = good
  good_forgotten (Some p) = good_gone store good (map (λ (v : Visit). v.id) (visits_of store p.id))

  -- what an item needs, with a page or not
  put_allowed : (parent : ItemId) (place : Place) (with_page : Bool) (slots : ℕ)
      → insert_refusal limit store parent place with_page slots ≡ None
      → (refusal store.items (Insert parent place) ≡ None)
      × ((with_page && (store.ids.page == end_of_ids)) ≡ false) × ((store.ids.item == end_of_ids) ≡ false)
  put_allowed parent place with_page slots none =
      let full : Option Refusal = if is_full limit (live_slots store) slots then Some (Full slots) else None in
      let items : Option Refusal = if store.ids.item == end_of_ids then Some (NoIds ItemIds) else full in
      let pages : Option Refusal =
      if with_page && (store.ids.page == end_of_ids) then Some (NoIds PageIds) else items in
      let a = neither (refusal store.items (Insert parent place)) pages none in
      let b = none_first (with_page && (store.ids.page == end_of_ids)) (NoIds PageIds) items a.1 in
      let c = none_first (store.ids.item == end_of_ids) (NoIds ItemIds) full b.1 in
      (a.0, b.0, c.0)

  good_put : (parent : ItemId) (place : Place) (with_page : Bool) (after : Store)
      → (refusal store.items (Insert parent place) ≡ None
      → (with_page && (store.ids.page == end_of_ids)) ≡ false → (store.ids.item == end_of_ids) ≡ false
      → IsGood after)
      → IsGood (insert_step limit store parent place with_page after).1
  good_put parent place with_page after changed =
      unless (insert_refusal limit store parent place with_page (live_slots after)) store
      (ItemReply (item_id store.ids.item), after) good
      (λ none.
      let free = put_allowed parent place with_page (live_slots after) none in
      changed free.0 free.1 free.2)

  good_retitled : (item : ItemId) (title : List ℕ) (date : Micros) → HasDates (RetitleCommand item title date)
      → HasTexts (RetitleCommand item title date)
      → retitle_refusal limit store item (live_slots (after_retitle item title date store)) ≡ None
      → IsGood (after_retitle item title date store)
  good_retitled item title date dated utf8 none =
      let slots : ℕ = live_slots (after_retitle item title date store) in
      let change : Item → Item = λ (i : Item). record i { title = cut_title title; modified = date } in
      let free = neither (refusal store.items (Retitle item))
      (if is_full limit (live_slots store) slots then Some (Full slots) else None) none in
      good_items store good (retitled item (cut_title title) date store.items)
      (numbers_retitled store.ids.item item (cut_title title) date store.items l.item_ids)
      (refer_alike store.items (retitled item (cut_title title) date store.items)
      (λ page. reference_changed item change store.items page (λ i. refl)))
      (item_retitled store l.items l.item_ids.ascending item (cut_title title) date (cut_is_title title utf8) dated
      free.0)

  good_tagged : (url name : List ℕ) (date : Micros) → HasDates (TagCommand url name date)
      → HasTexts (TagCommand url name date)
      → tag_refusal limit store url name (live_slots (after_tag store url name date)) ≡ None
      → IsGood (after_tag store url name date)
  good_tagged url name date dated texts none =
      let slots : ℕ = live_slots (after_tag store url name date) in
      let full : Option Refusal = if is_full limit (live_slots store) slots then Some (Full slots) else None in
      let items : Option Refusal =
      if nat_lt end_of_ids (store.ids.item + new_items name store.items) then Some (NoIds ItemIds) else full in
      let pages : Option Refusal =
      if is_none (find_page url store.pages) && (store.ids.page == end_of_ids) then Some (NoIds PageIds)
      else items in
      let a = none_first (is_tagged store (find_page url store.pages) name) DupTag pages none in
      let b = none_first (is_none (find_page url store.pages) && (store.ids.page == end_of_ids)) (NoIds PageIds) items
      a.1 in
      let c = none_first (nat_lt end_of_ids (store.ids.item + new_items name store.items)) (NoIds ItemIds) full b.1 in
      good_tag store good url texts.0 b.0 name date texts.1 dated a.0 c.0

  -- the ids of what a tree makes are not past the end
  tree_ids : (tree : Tree) (new : Store) → import_refusal limit store tree new ≡ None
      → (nat_lt end_of_ids new.ids.page ≡ false) × (nat_lt end_of_ids new.ids.item ≡ false)
  tree_ids tree new none =
      let full : Option Refusal =
      if is_full limit (live_slots store) (live_slots new) then Some (Full (live_slots new)) else None in
      let items : Option Refusal = if nat_lt end_of_ids new.ids.item then Some (NoIds ItemIds) else full in
      let pages : Option Refusal = if nat_lt end_of_ids new.ids.page then Some (NoIds PageIds) else items in
      let a = none_first (nat_lt most_rows (row_count tree)) (TooMany (row_count tree)) pages none in
      let b = none_first (nat_lt end_of_ids new.ids.page) (NoIds PageIds) items a.1 in
      (b.0, (none_first (nat_lt end_of_ids new.ids.item) (NoIds ItemIds) full b.1).0)

  good_imported : (tree : Tree) → HasDates (ImportCommand tree) → HasTexts (ImportCommand tree)
      → import_refusal limit store tree (imported tree store) ≡ None → IsGood (imported tree store)
  good_imported tree whole texts none =
      let ids = tree_ids tree (imported tree store) none in good_import store good tree whole texts ids.0 ids.1

  good_restored : (tree : Tree) → HasDates (RestoreCommand tree) → HasTexts (RestoreCommand tree)
      → import_refusal limit store tree (restored tree store) ≡ None → IsGood (restored tree store)
  good_restored tree whole texts none =
      let ids = tree_ids tree (restored tree store) none in good_restore store good tree whole texts ids.0 ids.1

-- ---- the law

pub step_keeps_good : (limit : ℕ) (store : Store) (command : Command) → IsGood store → HasDates command
    → HasTexts command → IsGood (perform limit store command).1
step_keeps_good limit store (DayCommand day) good dates texts =
    unless (day_refusal store day) store (DayReply day (pages_moved day store), on_day day store) good
    (λ _. good_day store good day dates)
step_keeps_good limit store (VisitCommand url transition date source) good dates texts =
    unless (visit_refusal limit store url transition date source) store
    (visit_reply store url transition date source, after_visit store url transition date source) good
    (good_visited limit store good url transition date source dates texts)
step_keeps_good limit store (TitleCommand url text) good dates texts =
    unless (title_refusal limit store url text) store (Done, after_title store url text) good
    (λ _. good_title store good url (cut_title text) (cut_is_title text texts))
step_keeps_good limit store (PageCommand url) good dates texts = good
step_keeps_good limit store (OriginCommand url) good dates texts = good
step_keeps_good limit store StatsCommand good dates texts = good
step_keeps_good limit store (UnvisitCommand visit) good dates texts =
    unless (absent_visit store visit) store (removal_step store (without_visits (visit ∷ []) store)) good
    (λ _. good_gone store good (visit ∷ []))
step_keeps_good limit store (ForgetCommand url) good dates texts =
    good_forgotten limit store good (find_page url store.pages)
step_keeps_good limit store (ExpireCommand day) good dates texts = good_gone store good (visits_before day store)
step_keeps_good limit store (TrimCommand most) good dates texts =
    good_gone store good (visits_to (trimmed_pages most store) store)
step_keeps_good limit store (FolderCommand parent place title date) good dates texts =
    good_put limit store good parent place false (after_insert parent place (new_folder title date) store)
    (λ free _ room. good_insert store good parent place (new_folder title date) free room (cut_is_title title texts)
    dates (λ some. absurd (cc), λ same. absurd (cc)) tt)
step_keeps_good limit store (BookmarkCommand parent place url title date) good dates texts =
    good_put limit store good parent place (is_none (find_page url store.pages))
    (after_bookmark store parent place url title date)
    (λ free page room. good_bookmark store good url texts.0 page parent place
    (new_bookmark (page_for store url).id title date) free room (cut_is_title title texts.1) dates refl refl)
step_keeps_good limit store (SeparatorCommand parent place date) good dates texts =
    good_put limit store good parent place false (after_insert parent place (new_separator date) store)
    (λ free _ room. good_insert store good parent place (new_separator date) free room (IsUtf8-nil, omega arith) dates
    (λ some. absurd (cc), λ same. absurd (cc)) tt)
step_keeps_good limit store (MoveCommand item parent place date) good dates texts =
    let l : IsLoose store = loose store good in
    unless (refusal store.items (Move item parent place)) store (Done, after_move item parent place date store) good
    (λ free. good_items store good (with_moved item parent place date store.items)
    (numbers_moved store.ids.item item parent place date store.items l.item_ids)
    (refer_alike store.items (with_moved item parent place date store.items)
    (reference_moved item parent place date store.items))
    (item_moved store l.items l.item_ids.ascending item parent place date dates free))
step_keeps_good limit store (RetitleCommand item title date) good dates texts =
    unless (retitle_refusal limit store item (live_slots (after_retitle item title date store))) store
    (Done, after_retitle item title date store) good (good_retitled limit store good item title date dates texts)
step_keeps_good limit store (RemoveCommand item) good dates texts =
    let l : IsLoose store = loose store good in
    unless (refusal store.items (Remove item)) store (Done, after_remove item store) good
    (λ free. good_fewer store good (with_removed item store.items)
    (numbers_removed store.ids.item item store.items l.item_ids)
    (item_removed store l.items l.item_ids.ascending item free))
step_keeps_good limit store (ListCommand item) good dates texts =
    unless (folder_refusal store.items item) store (list_reply store item, store) good (λ _. good)
step_keeps_good limit store (TagCommand url name date) good dates texts =
    unless (tag_refusal limit store url name (live_slots (after_tag store url name date))) store
    (Done, after_tag store url name date) good (good_tagged limit store good url name date dates texts)
step_keeps_good limit store (UntagCommand url name) good dates texts =
    let l : IsLoose store = loose store good in
    let page : PageId = (page_for store url).id in
    unless (untag_refusal store (find_page url store.pages) name) store (Done, after_untag page name store) good
    (λ _. good_fewer store good (untagged_items page name store.items)
    (numbers_untagged store.ids.item page name store.items l.item_ids)
    (tag_taken store l.items l.item_ids.ascending page name))
step_keeps_good limit store (QueryCommand query) good dates texts = good
step_keeps_good limit store (PlaceCommand query) good dates texts = good
step_keeps_good limit store (BarCommand most text) good dates texts = good
step_keeps_good limit store (FillCommand text) good dates texts = good
step_keeps_good limit store (ImportCommand tree) good dates texts =
    unless (import_refusal limit store tree (imported tree store)) store
    (import_reply store tree, imported tree store) good (good_imported limit store good tree dates texts)
step_keeps_good limit store (RestoreCommand tree) good dates texts =
    unless (import_refusal limit store tree (restored tree store)) store
    (restore_reply store tree, restored tree store) good (good_restored limit store good tree dates texts)

pub entry_keeps_good : (limit : ℕ) (store : Store) (entry : Parsed Command) → IsGood store → IsEntry entry
    → IsGood (step limit store entry).1
entry_keeps_good limit store (Ok command) good promised =
    step_keeps_good limit store command good promised.0 promised.1
entry_keeps_good limit store (Err refusal) good promised = good

pub run_keeps_good : (limit : ℕ) (store : Store) (entries : List (Parsed Command)) → IsGood store
    → All IsEntry entries → IsGood (after limit store entries)
run_keeps_good limit store [] good promised = good
run_keeps_good limit store (entry ∷ entries) good promised =
    run_keeps_good limit (step limit store entry).1 entries
    (entry_keeps_good limit store entry good (All-head IsEntry entry entries promised))
    (All-tail IsEntry entry entries promised)
