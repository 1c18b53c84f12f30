use Rattle.pl_linked.proofs.Checked.{accepted_keeps, sound_kept}
use Rattle.pl_linked.proofs.check.rows_of.Goals as goal

pub invariant_of-result : goal.invariant_of-result
invariant_of-result c =
    record {
      rows =
          accepted_keeps c.args.arena c.args.accepted c.requires c.in_ok-pages.pages.entries c.in_ok-visits.visits.entries
          c.in_ok-items.items.entries c.in_ok-pages.ensures.entries c.in_ok-visits.ensures.entries
          c.in_ok-items.ensures.entries;
    }

pub returns-clause-sound : goal.returns-clause-sound
returns-clause-sound c =
    sound_kept c.args.arena c.args.accepted c.requires c.in_ok-pages.pages.entries c.in_ok-visits.visits.entries
    c.in_ok-items.items.entries c.result-1.given.0
