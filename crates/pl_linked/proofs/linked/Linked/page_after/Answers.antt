use Rattle.std.proofs.Common.{◌∙◌, ap, sym}
use Rattle.std.specs.Option.{option_map}
use Rattle.pl_record.proofs.Kept.{next_none, next_some}
use Rattle.pl_record.proofs.PagesTold.{page_numbered}
use Rattle.pl_linked.proofs.linked.Linked.page_after.Goals as goal
use Rattle.pl_linked.proofs.linked.Linked.page_after.Goals.{in-Some, in-None}

pub returns-in-Some-id_behind-clause-next : goal.returns-in-Some-id_behind-clause-next
returns-in-Some-id_behind-clause-next g c =
    let s = c.args.self.now.slots in
    ap (option_map page_numbered) (sym c.in-Some-id_behind.is ∙ c.id_behind.ensures)
    ∙ elim c.match-page.branch [
      | in-Some w ↦
          next_some s.arena s.pages.entries s.visits.entries s.items.entries s.rows c.match-page.id c.args.page
          w.in-Some.page w.in-Some.is w.id-is
      | in-None w ↦
          next_none s.arena s.pages.entries s.visits.entries s.items.entries s.rows c.match-page.id c.args.page
          w.in-None.is w.id-is
    ]

pub returns-in-None-id_behind-clause-next : goal.returns-in-None-id_behind-clause-next
returns-in-None-id_behind-clause-next g c =
    let s = c.args.self.now.slots in
    ap (option_map page_numbered) (sym c.in-None-id_behind.is ∙ c.id_behind.ensures)
    ∙ elim c.match-page.branch [
      | in-Some w ↦
          next_some s.arena s.pages.entries s.visits.entries s.items.entries s.rows c.match-page.id c.args.page
          w.in-Some.page w.in-Some.is w.id-is
      | in-None w ↦
          next_none s.arena s.pages.entries s.visits.entries s.items.entries s.rows c.match-page.id c.args.page
          w.in-None.is w.id-is
    ]
