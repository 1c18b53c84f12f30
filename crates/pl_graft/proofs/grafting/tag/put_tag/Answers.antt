use Rattle.std.proofs.Common.{◌∙◌, ap, not, refl, subst, sym}
use Rattle.pl_base.specs.Fold.{folded}
use Rattle.pl_base.specs.Rows.{Kept, store_of}
use Rattle.pl_base.specs.Store.{Store}
use Rattle.pl_keyed.specs.KnownTags.{IsEntering}
use Rattle.pl_keyed.specs.TagRows.{tag_rows}
use Rattle.pl_graft.proofs.GoingOn.{grows_same}
use Rattle.pl_graft.proofs.Ready.{IsReady, ready}
use Rattle.pl_graft.proofs.TagSteps.{Enters, enters_known, enters_new, grows_tagged, has_already, known_fits, last_fits}
use Rattle.pl_graft.proofs.TagSteps.{mapped, new_fits, room_anew, store_anew, store_same, tag_allowed}
use Rattle.pl_graft.proofs.grafting.tag.put_tag.Given.{Over}
use Rattle.pl_graft.proofs.grafting.tag.put_tag.Goals as goal
use Rattle.pl_graft.proofs.grafting.tag.put_tag.Goals.{Joined-entering, in-Known, in-New}

-- ---- the page has the tag

pub returns-in-Has-clause-store : goal.returns-in-Has-clause-store
returns-in-Has-clause-store g c =
    let store : Store = store_of (g.R.Rows.kept c.args.rows.now) in
    store_same store c.args.page c.args.name.now c.args.date
    (has_already store c.args.page c.args.name.now c.args.date
    (subst (IsEntering c.args.page (folded c.args.name.now) (tag_rows store.items)) c.in-Has.is c.requires.entering))

pub returns-in-Has-clause-new : goal.returns-in-Has-clause-new
returns-in-Has-clause-new g c =
    let store : Store = store_of (g.R.Rows.kept c.args.rows.now) in
    sym (ap not (has_already store c.args.page c.args.name.now c.args.date
    (subst (IsEntering c.args.page (folded c.args.name.now) (tag_rows store.items)) c.in-Has.is c.requires.entering)))

pub returns-in-Has-clause-grows : goal.returns-in-Has-clause-grows
returns-in-Has-clause-grows g c =
    let kept : Kept = g.R.Rows.kept c.args.rows.now in
    grows_same kept kept refl refl refl refl refl

-- ---- the ids fit

pub item-requires : goal.item-requires
item-requires g c =
    let kept : Kept = g.R.Rows.kept c.args.rows.now in
    let well = g.met.R.Rows.well_kept c.args.rows.now in
    known_fits (store_of kept) c.args.page (folded c.args.name.now) c.in-Known.folder
    (ready kept well c.requires.good) well.item_ids.next_last
    (subst (IsEntering c.args.page (folded c.args.name.now) (tag_rows kept.items)) c.in-Known.is c.requires.entering)

pub item-requires-in-Known : goal.item-requires-in-Known
item-requires-in-Known g c =
    let kept : Kept = g.R.Rows.kept c.args.rows.now in
    let well = g.met.R.Rows.well_kept c.args.rows.now in
    last_fits (store_of kept) c.args.page (folded c.args.name.now) c.in-Known.folder
    (ready kept well c.requires.good) well.item_ids.next_last
    (subst (IsEntering c.args.page (folded c.args.name.now) (tag_rows kept.items)) c.in-Known.is c.requires.entering)

pub map-requires : goal.map-requires
map-requires g c n some =
    let kept : Kept = g.R.Rows.kept c.args.rows.now in
    let well = g.met.R.Rows.well_kept c.args.rows.now in
    new_fits (store_of kept) c.args.page (folded c.args.name.now) c.in-New.last n
    (ready kept well c.requires.good) well.item_ids.next_last
    (subst (IsEntering c.args.page (folded c.args.name.now) (tag_rows kept.items)) c.in-New.is c.requires.entering)
    some

-- ---- the tag is entered

enters : (g : Over) (c : Joined-entering g)
    → Enters (g.R.Rows.kept c.args.rows.now).items c.args.page c.args.name.now c.match-entering.folder.0
    c.match-entering.folder.1
enters g c =
    let kept : Kept = g.R.Rows.kept c.args.rows.now in
    let store : Store = store_of kept in
    let is : IsReady store = ready kept (g.met.R.Rows.well_kept c.args.rows.now) c.requires.good in
    elim c.match-entering.branch [
      | in-Known w ↦
          rw (w.folder-is, w.item.ensures, w.item-in-Known.ensures)
          (enters_known store c.args.page c.args.name.now w.in-Known.folder is
          (subst (IsEntering c.args.page (folded c.args.name.now) (tag_rows store.items)) w.in-Known.is
          c.requires.entering))
      | in-New w ↦
          rw (w.folder-is, mapped w.in-New.last w.map.result w.map.ensures.cases)
          (enters_new store c.args.page c.args.name.now w.in-New.last is
          (subst (IsEntering c.args.page (folded c.args.name.now) (tag_rows store.items)) w.in-New.is
          c.requires.entering))
    ]

pub enter-requires-clause-folder : goal.enter-requires-clause-folder
enter-requires-clause-folder g c = (enters g c.before.before).in_folder

pub enter-requires-clause-last : goal.enter-requires-clause-last
enter-requires-clause-last g c = (enters g c.before.before).behind

pub enter-requires-clause-live : goal.enter-requires-clause-live
enter-requires-clause-live g c =
    (room_anew (store_of (g.R.Rows.kept c.args.rows.now)) c.args.page c.args.name.now c.args.date
    (enters g c.before.before).anew c.requires.room).live

pub enter-requires-clause-allowed : goal.enter-requires-clause-allowed
enter-requires-clause-allowed g c =
    tag_allowed (g.R.Rows.kept c.args.rows.now) c.args.page c.args.name.now c.args.date (enters g c.before.before).anew
    c.requires.room

pub returns-clause-store : goal.returns-clause-store
returns-clause-store g c =
    ap store_of c.in_ok-enter.ensures.kept
    ∙ sym (store_anew (store_of (g.R.Rows.kept c.args.rows.now)) c.args.page c.args.name.now c.args.date
    (enters g c.before.before.before.before.before).anew)

pub returns-clause-new : goal.returns-clause-new
returns-clause-new g c = sym (ap not (enters g c.before.before.before.before.before).anew)

pub returns-clause-grows : goal.returns-clause-grows
returns-clause-grows g c =
    grows_tagged (g.R.Rows.kept c.args.rows.now) (g.R.Rows.kept c.enter.new.rows) c.args.page c.args.name.now
    c.args.date c.in_ok-enter.ensures.kept
