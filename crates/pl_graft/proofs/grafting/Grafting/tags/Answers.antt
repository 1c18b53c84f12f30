use Rattle.std.proofs.Common.{◌∙◌, refl}
use Rattle.pl_base.specs.Rows.{Kept, store_of}
use Rattle.pl_graft.specs.Import.{with_tags}
use Rattle.pl_graft.proofs.GoingOn.{goes_nowhere, goes_then}
use Rattle.pl_graft.proofs.TagsKept.{folders_same, folders_then, gained_still, tag_has_page, tags_end, tags_left}
use Rattle.pl_graft.proofs.TagsKept.{tags_room}
use Rattle.pl_graft.proofs.grafting.Grafting.tags.Goals as goal

pub loop-name-init : goal.loop-name-init
loop-name-init g c =
    record {
      left = refl;
      standing = c.requires.standing;
      page = c.requires.page;
      gained = c.requires.gained;
      goes_on = goes_nowhere (g.R.Rows.kept c.args.rows.now) c.args.self.now c.args.self.now refl refl;
      folders = folders_same (store_of (g.R.Rows.kept c.args.rows.now));
      base = λ bytes based. based;
    }

pub tag-requires-clause-room : goal.tag-requires-clause-room
tag-requires-clause-room g c =
    tags_room (store_of (g.R.Rows.kept c.loop-name.rows))
    (with_tags c.args.page c.args.date c.args.names.now (store_of (g.R.Rows.kept c.args.rows.now))) c.args.page
    c.args.date c.args.names.now c.loop-name.name-index c.name-item.result c.loop-name-test.true c.name-item.is
    c.loop-name.invariant.left c.requires.room

pub loop-name-preserved : goal.loop-name-preserved
loop-name-preserved g c =
    let first : Kept = g.R.Rows.kept c.args.rows.now in
    let old : Kept = g.R.Rows.kept c.loop-name.rows in
    let new : Kept = g.R.Rows.kept c.tag.new.rows in
    record {
      left =
          tags_left (store_of old) (store_of new)
          (with_tags c.args.page c.args.date c.args.names.now (store_of first)) c.args.page c.args.date c.args.names.now
          c.loop-name.name-index c.name-item.result c.loop-name-test.true c.name-item.is c.loop-name.invariant.left
          c.in_ok-tag.ensures.store;
      standing = c.in_ok-tag.ensures.standing;
      page =
          tag_has_page old new c.args.page c.args.date c.name-item.result c.args.page c.in_ok-tag.ensures.store
          c.loop-name.invariant.page;
      gained =
          gained_still c.loop-name.self c.tag.new.self c.args.page c.in_ok-tag.ensures.gained
          c.loop-name.invariant.gained;
      goes_on =
          goes_then first old new c.args.self.now c.loop-name.self c.tag.new.self c.loop-name.invariant.goes_on
          c.in_ok-tag.ensures.goes_on;
      folders =
          folders_then (store_of first) (store_of old) (store_of new) c.loop-name.invariant.folders
          c.in_ok-tag.ensures.folders;
      base = λ bytes based. c.in_ok-tag.ensures.base bytes (c.loop-name.invariant.base bytes based);
    }

pub returns-clause-store : goal.returns-clause-store
returns-clause-store g c =
    tags_end (store_of (g.R.Rows.kept c.loop-name.rows)) c.args.page c.args.date c.args.names.now
    c.loop-name.name-index c.loop-name-test.false
    ∙ c.loop-name.invariant.left
