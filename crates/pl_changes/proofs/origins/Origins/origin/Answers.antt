use Rattle.std.proofs.Common.{sym}
use Rattle.pl_link.proofs.OriginParts.{origin_by_parts}
use Rattle.pl_marks.proofs.KeptUrls.{url-of_store}
use Rattle.pl_changes.proofs.OriginsTold.{copied_from, told_here, told_more}
use Rattle.pl_changes.proofs.origins.Origins.origin.Goals as goal

pub parts_of-requires : goal.parts_of-requires
parts_of-requires g c =
    url-of_store (g.R.Rows.kept c.args.rows.now) c.args.page c.args.url.now (g.met.R.Rows.well_kept c.args.rows.now)
    c.requires.url

pub returns-in-Some-clause-origin : goal.returns-in-Some-clause-origin
returns-in-Some-clause-origin g c =
    copied_from c.copied.result c.in-Some.parts.now c.args.url.now c.copied.ensures.prefix c.copied.ensures.host
    (told_here (g.R.Rows.kept c.args.rows.now) c.args.self.now c.origin_of-slot.result c.in-Some.parts.now c.args.page
    c.args.url.now c.requires.told (sym c.in-Some.ensures.value) c.origin_of-slot.ensures.origin c.requires.url)

pub returns-clause-told : goal.returns-clause-told
returns-clause-told g c =
    told_more (g.R.Rows.kept c.args.rows.now) c.args.self.now (record { parts = c.insert.new.self })
    c.origin_of-slot.result c.in_ok-parts.parts c.args.page c.args.url.now (g.met.R.Rows.well_kept c.args.rows.now)
    c.requires.told c.in_ok-insert.ensures.updates c.origin_of-slot.ensures.origin c.requires.url
    (origin_by_parts c.args.url.now c.in_ok-parts.parts c.in_ok-parts.ensures)
