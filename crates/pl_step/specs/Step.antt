-- One step of the machine: what a command answers and what it leaves of the store.
use Rattle.std.specs.Prelude.{ℕ, ◌+◌, ◌-◌, ◌==◌, ◌&&◌, not, Bool, false, List}
use Rattle.std.specs.Prelude.{[], ◌∷◌, length, map, nat_lt, bytes_eq}
use Rattle.std.specs.Prelude.{is_none, Option, Some, None, Ok, Err, if◌then◌else◌}
use Rattle.std.specs.List.{count_by}
use Rattle.std.specs.Option.{is_some, option_and_then, option_or}
use Rattle.pl_base.specs.declared.date.Day.{Day}
use Rattle.pl_base.specs.declared.date.Micros.{Micros}
use Rattle.pl_base.specs.declared.id.IdKind.TheVariants.{Page as PageKind, Visit as VisitKind}
use Rattle.pl_base.specs.declared.id.IdKind.TheVariants.{Item as ItemKind}
use Rattle.pl_base.specs.declared.id.ItemId.{ItemId}
use Rattle.pl_base.specs.declared.id.PageId.{PageId}
use Rattle.pl_base.specs.declared.id.VisitId.{VisitId}
use Rattle.pl_base.specs.declared.item.ItemKind.TheVariants.{Bookmark, Folder, Separator}
use Rattle.pl_base.specs.declared.refusal.Refusal.{Refusal}
use Rattle.pl_base.specs.declared.refusal.Refusal.TheVariants.{NotRecorded, NoVisit, NoPage}
use Rattle.pl_base.specs.declared.refusal.Refusal.TheVariants.{DayBack, Full, NoIds, DupTag, NoTag}
use Rattle.pl_base.specs.declared.refusal.Refusal.TheVariants.{TooMany}
use Rattle.pl_base.specs.declared.transition.Transition.{Transition}
use Rattle.pl_base.specs.Address.{host_and_port, is_unrecorded_url, prefix, record_of}
use Rattle.pl_base.specs.Address.{reversed_host}
use Rattle.pl_base.specs.Days.{on_day, pages_moved}
use Rattle.pl_base.specs.Expiration.{expired, trimmed}
use Rattle.pl_base.specs.Frecency.{frecency_of}
use Rattle.pl_base.specs.Good.{end_of_ids}
use Rattle.pl_base.specs.Live.{live_slots}
use Rattle.pl_base.specs.Marks.{is_hidden, last_date_of, visit_count}
use Rattle.pl_base.specs.Redirects.{visit_by_id}
use Rattle.pl_base.specs.Store.{Store, Page, Item, item_id, page_url}
use Rattle.pl_base.specs.Tags.{is_bookmarked, tag_text}
use Rattle.pl_base.specs.Removal.{forgotten, without_idle_pages, without_visits}
use Rattle.pl_base.specs.Title.{cut_title}
use Rattle.pl_base.specs.Totals.{Origin, Scored, group_passes, is_origin, origins_with_total}
use Rattle.pl_base.specs.Totals.{scored_pages, sum_of_totals, total_of, without_www}
use Rattle.pl_base.specs.Tree.{child_items, retitled}
use Rattle.pl_base.specs.Visiting.{after_visit, find_page, page_for, visited_page, with_page_for}
use Rattle.url.specs.Parser.{Parsed as ParsedUrl}
use Rattle.url.specs.Parts.{Parts}
use Rattle.pl_tree.specs.declared.new_item.NewItem.{NewItem}
use Rattle.pl_tree.specs.declared.place.Place.{Place}
use Rattle.pl_tree.specs.declared.tree_change.TreeChange.TheVariants.{Insert, Move, Retitle}
use Rattle.pl_tree.specs.declared.tree_change.TreeChange.TheVariants.{Remove}
use Rattle.pl_tree.specs.Changes.{with_moved, with_new, with_removed}
use Rattle.pl_tree.specs.Refused.{folder_refusal, refusal}
use Rattle.pl_tree.specs.Tagged.{new_items, tag_entry, untagged_items}
use Rattle.pl_bar.specs.AddressBar.{offered}
use Rattle.pl_bar.specs.Filled.{filled}
use Rattle.pl_graft.specs.Import.{imported, most_rows, row_count, tagged_store, tags_made}
use Rattle.pl_graft.specs.Restored.{emptied, restored}
use Rattle.pl_nbread.specs.declared.tree.Tree.{Tree}
use Rattle.pl_place.specs.declared.query.Query.{Query}
use Rattle.pl_place.specs.Canonical.{canonical}
use Rattle.pl_query.specs.QueryAnswer.{answer, told_row}
use Rattle.pl_step.specs.declared.command.Command.{Command}
use Rattle.pl_step.specs.declared.command.Command.TheVariants.{Day as DayCommand}
use Rattle.pl_step.specs.declared.command.Command.TheVariants.{Visit as VisitCommand}
use Rattle.pl_step.specs.declared.command.Command.TheVariants.{Title as TitleCommand}
use Rattle.pl_step.specs.declared.command.Command.TheVariants.{Page as PageCommand}
use Rattle.pl_step.specs.declared.command.Command.TheVariants.{Origin as OriginCommand}
use Rattle.pl_step.specs.declared.command.Command.TheVariants.{Stats as StatsCommand}
use Rattle.pl_step.specs.declared.command.Command.TheVariants.{Unvisit as UnvisitCommand}
use Rattle.pl_step.specs.declared.command.Command.TheVariants.{Forget as ForgetCommand}
use Rattle.pl_step.specs.declared.command.Command.TheVariants.{Expire as ExpireCommand}
use Rattle.pl_step.specs.declared.command.Command.TheVariants.{Trim as TrimCommand}
use Rattle.pl_step.specs.declared.command.Command.TheVariants.{Folder as FolderCommand}
use Rattle.pl_step.specs.declared.command.Command.TheVariants.{Bookmark as BookmarkCommand}
use Rattle.pl_step.specs.declared.command.Command.TheVariants.{Separator as SeparatorCommand}
use Rattle.pl_step.specs.declared.command.Command.TheVariants.{Move as MoveCommand}
use Rattle.pl_step.specs.declared.command.Command.TheVariants.{Retitle as RetitleCommand}
use Rattle.pl_step.specs.declared.command.Command.TheVariants.{Remove as RemoveCommand}
use Rattle.pl_step.specs.declared.command.Command.TheVariants.{List as ListCommand}
use Rattle.pl_step.specs.declared.command.Command.TheVariants.{Tag as TagCommand}
use Rattle.pl_step.specs.declared.command.Command.TheVariants.{Untag as UntagCommand}
use Rattle.pl_step.specs.declared.command.Command.TheVariants.{Query as QueryCommand}
use Rattle.pl_step.specs.declared.command.Command.TheVariants.{Place as PlaceCommand}
use Rattle.pl_step.specs.declared.command.Command.TheVariants.{Bar as BarCommand}
use Rattle.pl_step.specs.declared.command.Command.TheVariants.{Fill as FillCommand}
use Rattle.pl_step.specs.declared.command.Command.TheVariants.{Import as ImportCommand}
use Rattle.pl_step.specs.declared.command.Command.TheVariants.{Restore as RestoreCommand}
use Rattle.pl_step.specs.declared.reply.BarRow.{BarRow}
use Rattle.pl_step.specs.declared.reply.ListRow.{ListRow}
use Rattle.pl_step.specs.declared.reply.Reply.{Reply}
use Rattle.pl_step.specs.declared.reply.Reply.TheVariants.{Visit as VisitReply}
use Rattle.pl_step.specs.declared.reply.Reply.TheVariants.{Page as PageReply, Done, Refused}
use Rattle.pl_step.specs.declared.reply.Reply.TheVariants.{Item as ItemReply, List as ListReply}
use Rattle.pl_step.specs.declared.reply.Reply.TheVariants.{Day as DayReply}
use Rattle.pl_step.specs.declared.reply.Reply.TheVariants.{Origin as OriginReply}
use Rattle.pl_step.specs.declared.reply.Reply.TheVariants.{Stats as StatsReply}
use Rattle.pl_step.specs.declared.reply.Reply.TheVariants.{Removed as RemovedReply}
use Rattle.pl_step.specs.declared.reply.Reply.TheVariants.{Rows as RowsReply, NoFill}
use Rattle.pl_step.specs.declared.reply.Reply.TheVariants.{Place as PlaceReply}
use Rattle.pl_step.specs.declared.reply.Reply.TheVariants.{Bar as BarReply, Fill as FillReply}
use Rattle.pl_step.specs.declared.reply.Reply.TheVariants.{Imported as ImportedReply}
use Rattle.pl_step.specs.declared.reply.Reply.TheVariants.{Restored as RestoredReply}
use Rattle.pl_step.specs.Parsed.{Parsed}

-- a refused command changes nothing
abbrev pub unless_refused : Option Refusal → Store → Reply × Store → Reply × Store
unless_refused (Some refusal) store done = (Refused refusal, store)
unless_refused None store done = done

-- ---- a visit

-- a store of so many slots after so many before takes more than it may
abbrev pub is_full : ℕ → ℕ → ℕ → Bool
is_full limit before after = nat_lt limit after && nat_lt before after

-- a visit that is not there
abbrev pub absent_visit : Store → VisitId → Option Refusal
absent_visit store id = if is_none (visit_by_id store id) then Some (NoVisit id) else None

-- the source that a visit names is not there
abbrev pub source_refusal : Store → Option VisitId → Option Refusal
source_refusal store None = None
source_refusal store (Some id) = absent_visit store id

-- an id for a page is wanting, one for the visit, or the slots for what the visit makes
abbrev pub room_refusal : ℕ → Store → List ℕ → ℕ → Option Refusal
room_refusal limit store url slots =
    if is_none (find_page url store.pages) && (store.ids.page == end_of_ids)
    then Some (NoIds PageKind) else
    if store.ids.visit == end_of_ids then Some (NoIds VisitKind) else
    if is_full limit (live_slots store) slots then Some (Full slots) else None

-- the first cause, in this order: the scheme, the source, the ids, the slots
abbrev pub visit_refusal : ℕ → Store → List ℕ → Transition → Micros → Option VisitId
    → Option Refusal
visit_refusal limit store url transition date source =
    if is_unrecorded_url url then Some NotRecorded else
    option_or (source_refusal store source)
    (room_refusal limit store url (live_slots (after_visit store url transition date source)))

-- the reply tells the visit, its page, and the page's frecency after it
abbrev pub visit_reply : Store → List ℕ → Transition → Micros → Option VisitId → Reply
visit_reply store url transition date source =
    VisitReply (record { 0 = store.ids.visit }) (page_for store url).id
    (frecency_of (after_visit store url transition date source)
    (visited_page transition (page_for store url)))

-- ---- a title

-- a page with this title, where it has the URL
abbrev pub title_page : List ℕ → List ℕ → Page → Page
title_page url title p = if bytes_eq p.url url then record p { title = title } else p

-- the store where the page with the URL has the text as its title
abbrev pub after_title : Store → List ℕ → List ℕ → Store
after_title store url text =
    record store { pages = map (title_page url (cut_title text)) store.pages }

-- the first cause, in this order: the page, the slots
abbrev pub title_refusal : ℕ → Store → List ℕ → List ℕ → Option Refusal
title_refusal limit store url text =
    let slots = live_slots (after_title store url text) in
    if is_none (find_page url store.pages) then Some NoPage else
    if is_full limit (live_slots store) slots then Some (Full slots) else None

-- ---- what is known of a page

-- what is known of a page: its row, its frecency, its visits, its bookmarks and its tags
abbrev pub page_reply : Store → Page → Reply
page_reply store p =
    PageReply p.id (frecency_of store p) (visit_count store p.id) (last_date_of store p.id)
    p.typed (is_hidden store p) (is_bookmarked store p.id) p.url p.title (tag_text store p.id)

-- what is told of the page, where there is one
abbrev pub told_page : Store → Option Page → Reply
told_page store None = Refused NoPage
told_page store (Some p) = page_reply store p

-- ---- what is known of an origin, and of the store

-- how many of these pages an origin has
abbrev pub pages_of : List Scored → Origin → ℕ
pages_of pages origin = count_by (λ (s : Scored). is_origin s.0 origin) pages

-- the group of the origin's host passes; an origin without a host has none
abbrev pub origin_passes : List Scored → Origin → Bool
origin_passes pages origin =
    not (length origin.1 == 0) && group_passes pages (without_www origin.1)

-- what is known of the origin of a URL, where a page has it
abbrev pub origin_reply : List Scored → Parts → Reply
origin_reply pages url =
    let origin : Origin = (prefix url, host_and_port url) in
    if pages_of pages origin == 0 then Refused NoPage else
    OriginReply origin.0 origin.1 (reversed_host url) (total_of pages origin)
    (pages_of pages origin) (origin_passes pages origin)

-- the same of the record of a URL; a text that is none has no origin
abbrev pub told_origin : List Scored → ParsedUrl Parts → Reply
told_origin pages (Ok url) = origin_reply pages url
told_origin pages (Err e) = Refused NoPage

-- how much the store holds
abbrev pub stats_reply : Store → Reply
stats_reply store =
    StatsReply (length store.pages) (length store.visits) (length store.items)
    (origins_with_total (scored_pages store)) (sum_of_totals (scored_pages store))
    (live_slots store)

-- ---- the day, and what goes

-- a day before the store's own
abbrev pub day_refusal : Store → Day → Option Refusal
day_refusal store day = if nat_lt day.0 store.day.0 then Some (DayBack store.day) else None

-- the reply tells how many visits and pages the store had more than it has now
abbrev pub removed_reply : Store → Store → Reply
removed_reply store after =
    RemovedReply (length store.visits - length after.visits)
    (length store.pages - length after.pages)

-- what went, and the store after it
abbrev pub removal_step : Store → Store → Reply × Store
removal_step store after = (removed_reply store after, after)

-- the visits to a page go, where there is the page
abbrev pub forget_step : Store → Option Page → Reply × Store
forget_step store None = (Refused NoPage, store)
forget_step store (Some p) = removal_step store (forgotten p.id store)

-- ---- items

-- a new folder or separator, with no page
abbrev pub new_folder : List ℕ → Micros → NewItem
new_folder title date =
    record { kind = Folder; title = cut_title title; page = None; date = date }

abbrev pub new_separator : Micros → NewItem
new_separator date = record { kind = Separator; title = []; page = None; date = date }

-- a new bookmark of a page
abbrev pub new_bookmark : PageId → List ℕ → Micros → NewItem
new_bookmark page title date =
    record { kind = Bookmark; title = cut_title title; page = Some page; date = date }

-- the store with a new item, which has the next id
abbrev pub after_insert : ItemId → Place → NewItem → Store → Store
after_insert parent place new store =
    record store {
      ids = record store.ids { item = store.ids.item + 1 };
      items = with_new (item_id store.ids.item) parent place new store.items;
    }

-- the store with a new bookmark of the URL, and with a page for it
abbrev pub after_bookmark : Store → ItemId → Place → List ℕ → List ℕ → Micros → Store
after_bookmark store parent place url title date =
    after_insert parent place (new_bookmark (page_for store url).id title date)
    (with_page_for store url)

-- the first cause to refuse a new item, with a new page or not: the parent and the place, the ids,
-- the slots
abbrev pub insert_refusal : ℕ → Store → ItemId → Place → Bool → ℕ → Option Refusal
insert_refusal limit store parent place with_page slots =
    option_or (refusal store.items (Insert parent place))
    (if with_page && (store.ids.page == end_of_ids) then Some (NoIds PageKind) else
    if store.ids.item == end_of_ids then Some (NoIds ItemKind) else
    if is_full limit (live_slots store) slots then Some (Full slots) else None)

-- the reply tells the item
abbrev pub insert_step : ℕ → Store → ItemId → Place → Bool → Store → Reply × Store
insert_step limit store parent place with_page after =
    unless_refused (insert_refusal limit store parent place with_page (live_slots after)) store
    (ItemReply (item_id store.ids.item), after)

-- the store where the item stands at a place of that folder
abbrev pub after_move : ItemId → ItemId → Place → Micros → Store → Store
after_move item parent place date store =
    record store { items = with_moved item parent place date store.items }

-- the store where the item has the text as its title
abbrev pub after_retitle : ItemId → List ℕ → Micros → Store → Store
after_retitle item text date store =
    record store { items = retitled item (cut_title text) date store.items }

-- the first cause to refuse a title: the item, the slots
abbrev pub retitle_refusal : ℕ → Store → ItemId → ℕ → Option Refusal
retitle_refusal limit store item slots =
    option_or (refusal store.items (Retitle item))
    (if is_full limit (live_slots store) slots then Some (Full slots) else None)

-- the store without the item and all below it
abbrev pub after_remove : ItemId → Store → Store
after_remove item store =
    without_idle_pages (record store { items = with_removed item store.items })

-- the store where the page of the URL has the tag, with a page for it
abbrev pub after_tag : Store → List ℕ → List ℕ → Micros → Store
after_tag store url name date =
    tagged_store (page_for store url).id name date (with_page_for store url)

-- the page, if it is there, has the tag
abbrev pub is_tagged : Store → Option Page → List ℕ → Bool
is_tagged store None name = false
is_tagged store (Some p) name = is_some (tag_entry p.id name store.items)

-- the first cause to refuse a tag: the page has it, the ids of pages and of items, the slots
abbrev pub tag_refusal : ℕ → Store → List ℕ → List ℕ → ℕ → Option Refusal
tag_refusal limit store url name slots =
    if is_tagged store (find_page url store.pages) name then Some DupTag else
    if is_none (find_page url store.pages) && (store.ids.page == end_of_ids)
    then Some (NoIds PageKind) else
    if nat_lt end_of_ids (store.ids.item + new_items name store.items)
    then Some (NoIds ItemKind) else
    if is_full limit (live_slots store) slots then Some (Full slots) else None

-- the store where a page has a tag no more
abbrev pub after_untag : PageId → List ℕ → Store → Store
after_untag page name store =
    without_idle_pages (record store { items = untagged_items page name store.items })

-- the first cause to refuse that a tag goes: the page, the tag
abbrev pub untag_refusal : Store → Option Page → List ℕ → Option Refusal
untag_refusal store None name = Some NoPage
untag_refusal store (Some p) name =
    if is_none (tag_entry p.id name store.items) then Some NoTag else None

-- what is listed of an item
abbrev pub list_row : Store → Item → ListRow
list_row store i =
    record {
      kind = i.kind;
      id = i.id;
      title = i.title;
      url = option_and_then (page_url store) i.page;
    }

-- the children of a folder
abbrev pub list_reply : Store → ItemId → Reply
list_reply store id = ListReply (map (list_row store) (child_items store.items id))

-- ---- queries and the address bar

-- the rows that answer a query
abbrev pub query_reply : Store → Query → Reply
query_reply store query = RowsReply (map (told_row store) (answer store query))

-- what is told of a page that the address bar offers: its own title, whichever was searched
abbrev pub bar_row : Store → Page → BarRow
bar_row store p =
    record { id = p.id; frecency = frecency_of store p; url = p.url; title = p.title }

-- the pages that it offers
abbrev pub bar_reply : Store → ℕ → List ℕ → Reply
bar_reply store most text = BarReply (map (bar_row store) (offered store text most))

-- the group that it fills in, if there is one
abbrev pub group_reply : Option (List ℕ × ℕ) → Reply
group_reply None = NoFill
group_reply (Some group) = FillReply group.0 group.1

-- ---- an import, and a restore

-- ids for the pages of the store that is to be are wanting, ids for its items, or slots
abbrev pub tree_room : ℕ → Store → Store → Option Refusal
tree_room limit store after =
    if nat_lt end_of_ids after.ids.page then Some (NoIds PageKind) else
    if nat_lt end_of_ids after.ids.item then Some (NoIds ItemKind) else
    if is_full limit (live_slots store) (live_slots after) then Some (Full (live_slots after))
    else None

-- the first cause to refuse the import or the restore of a tree, whose store this is afterwards:
-- too many rows, the ids of pages and of items, the slots
abbrev pub import_refusal : ℕ → Store → Tree → Store → Option Refusal
import_refusal limit store tree after =
    if nat_lt most_rows (row_count tree) then Some (TooMany (row_count tree))
    else tree_room limit store after

-- the reply tells how many rows the tree has, how many tags pages got, and what was left out of it
abbrev pub import_reply : Store → Tree → Reply
import_reply store tree = ImportedReply (row_count tree) (tags_made tree store) tree.skipped

-- the same of a restore: each tag is new
abbrev pub restore_reply : Store → Tree → Reply
restore_reply store tree =
    RestoredReply (row_count tree) (tags_made tree (emptied store)) tree.skipped

-- ---- the step

-- on a store that takes at most so many slots
abbrev pub perform : ℕ → Store → Command → Reply × Store
perform limit store (DayCommand day) =
    unless_refused (day_refusal store day) store
    (DayReply day (pages_moved day store), on_day day store)
perform limit store (VisitCommand url transition date source) =
    unless_refused (visit_refusal limit store url transition date source) store
    (visit_reply store url transition date source, after_visit store url transition date source)
perform limit store (TitleCommand url text) =
    unless_refused (title_refusal limit store url text) store (Done, after_title store url text)
perform limit store (PageCommand url) = (told_page store (find_page url store.pages), store)
perform limit store (OriginCommand url) =
    (told_origin (scored_pages store) (record_of url), store)
perform limit store StatsCommand = (stats_reply store, store)
perform limit store (UnvisitCommand visit) =
    unless_refused (absent_visit store visit) store
    (removal_step store (without_visits (visit ∷ []) store))
perform limit store (ForgetCommand url) = forget_step store (find_page url store.pages)
perform limit store (ExpireCommand day) = removal_step store (expired day store)
perform limit store (TrimCommand most) = removal_step store (trimmed most store)
perform limit store (FolderCommand parent place title date) =
    insert_step limit store parent place false
    (after_insert parent place (new_folder title date) store)
perform limit store (BookmarkCommand parent place url title date) =
    insert_step limit store parent place (is_none (find_page url store.pages))
    (after_bookmark store parent place url title date)
perform limit store (SeparatorCommand parent place date) =
    insert_step limit store parent place false
    (after_insert parent place (new_separator date) store)
perform limit store (MoveCommand item parent place date) =
    unless_refused (refusal store.items (Move item parent place)) store
    (Done, after_move item parent place date store)
perform limit store (RetitleCommand item title date) =
    unless_refused
    (retitle_refusal limit store item (live_slots (after_retitle item title date store))) store
    (Done, after_retitle item title date store)
perform limit store (RemoveCommand item) =
    unless_refused (refusal store.items (Remove item)) store (Done, after_remove item store)
perform limit store (TagCommand url name date) =
    unless_refused
    (tag_refusal limit store url name (live_slots (after_tag store url name date))) store
    (Done, after_tag store url name date)
perform limit store (UntagCommand url name) =
    unless_refused (untag_refusal store (find_page url store.pages) name) store
    (Done, after_untag (page_for store url).id name store)
perform limit store (ListCommand item) =
    unless_refused (folder_refusal store.items item) store (list_reply store item, store)
perform limit store (QueryCommand query) = (query_reply store query, store)
perform limit store (PlaceCommand query) = (PlaceReply (canonical query), store)
perform limit store (BarCommand most text) = (bar_reply store most text, store)
perform limit store (FillCommand text) = (group_reply (filled (scored_pages store) text), store)
perform limit store (ImportCommand tree) =
    unless_refused (import_refusal limit store tree (imported tree store)) store
    (import_reply store tree, imported tree store)
perform limit store (RestoreCommand tree) =
    unless_refused (import_refusal limit store tree (restored tree store)) store
    (restore_reply store tree, restored tree store)

-- the reply to an entry of the script, and the store after it
abbrev pub step : ℕ → Store → Parsed Command → Reply × Store
step limit store (Ok command) = perform limit store command
step limit store (Err refusal) = (Refused refusal, store)
