use Rattle.std.proofs.Common.{inl, inr, refl}
use Rattle.std.proofs.lemmas.Result.{on_ok_weaker}
use Rattle.pl_base.specs.Rows.{Kept, store_of}
use Rattle.pl_graft.proofs.GoingOn.{goes_then}
use Rattle.pl_graft.proofs.Ready.{ready, takes_root}
use Rattle.pl_graft.proofs.TreeLists.{menu_room, toolbar_room, unfiled_room}
use Rattle.pl_graft.proofs.grafting.Grafting.lists.Goals as goal

-- ---- the roots take items

pub list-requires-clause-takes : goal.list-requires-clause-takes
list-requires-clause-takes g c =
    let kept : Kept = g.R.Rows.kept c.args.rows.now in
    takes_root (store_of kept) 2 (ready kept (g.met.R.Rows.well_kept c.args.rows.now) c.requires.standing.good)
    (inl refl)

pub list-requires-2-clause-takes : goal.list-requires-2-clause-takes
list-requires-2-clause-takes g c =
    let kept : Kept = g.R.Rows.kept c.list.new.rows in
    takes_root (store_of kept) 3
    (ready kept (g.met.R.Rows.well_kept c.list.new.rows) c.in_ok-list.ensures.standing.good)
    (inr (inl refl))

pub list-requires-3-clause-takes : goal.list-requires-3-clause-takes
list-requires-3-clause-takes g c =
    let kept : Kept = g.R.Rows.kept c.list-2.new.rows in
    takes_root (store_of kept) 5
    (ready kept (g.met.R.Rows.well_kept c.list-2.new.rows) c.in_ok-list-2.ensures.standing.good)
    (inr (inr (inl refl)))

pub list-requires-4-clause-takes : goal.list-requires-4-clause-takes
list-requires-4-clause-takes g c =
    let kept : Kept = g.R.Rows.kept c.list-3.new.rows in
    takes_root (store_of kept) 6
    (ready kept (g.met.R.Rows.well_kept c.list-3.new.rows) c.in_ok-list-3.ensures.standing.good)
    (inr (inr (inr refl)))

-- ---- ids and slots suffice

pub list-requires-clause-room : goal.list-requires-clause-room
list-requires-clause-room g c =
    rw c.as_slice.ensures
    (menu_room c.args.tree.now (store_of (g.R.Rows.kept c.args.rows.now)) c.requires.room)

pub list-requires-2-clause-room : goal.list-requires-2-clause-room
list-requires-2-clause-room g c =
    rw (c.as_slice-2.ensures, c.in_ok-list.ensures.store, c.as_slice.ensures)
    (toolbar_room c.args.tree.now (store_of (g.R.Rows.kept c.args.rows.now)) c.requires.room)

pub list-requires-3-clause-room : goal.list-requires-3-clause-room
list-requires-3-clause-room g c =
    rw (
      c.as_slice-3.ensures,
      c.in_ok-list-2.ensures.store,
      c.as_slice-2.ensures,
      c.in_ok-list.ensures.store,
      c.as_slice.ensures,
    )
    (unfiled_room c.args.tree.now (store_of (g.R.Rows.kept c.args.rows.now)) c.requires.room)

pub returns-clause-goes_on : goal.returns-clause-goes_on
returns-clause-goes_on g c =
    let first : Kept = g.R.Rows.kept c.args.rows.now in
    let menu : Kept = g.R.Rows.kept c.list.new.rows in
    let toolbar : Kept = g.R.Rows.kept c.list-2.new.rows in
    let unfiled : Kept = g.R.Rows.kept c.list-3.new.rows in
    let mobile : Kept = g.R.Rows.kept c.list-4.new.rows in
    on_ok_weaker c.list-4.result
    (goes_then first unfiled mobile c.args.self.now c.list-3.new.self c.list-4.new.self
    (goes_then first toolbar unfiled c.args.self.now c.list-2.new.self c.list-3.new.self
    (goes_then first menu toolbar c.args.self.now c.list.new.self c.list-2.new.self
    c.in_ok-list.ensures.goes_on c.in_ok-list-2.ensures.goes_on) c.in_ok-list-3.ensures.goes_on))
    c.list-4.ensures.goes_on
