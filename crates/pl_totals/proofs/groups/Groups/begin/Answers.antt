use Rattle.std.proofs.Common.{◌∙◌, List, ℕ, Some, ap, bytes_eq, if◌then◌else◌}
use Rattle.std.specs.String.{string_bytes}
use Rattle.pl_totals.specs.Groups.{total_in}
use Rattle.pl_totals.proofs.TextKeys.{number_after}
use Rattle.pl_totals.proofs.groups.Groups.begin.Goals as goal

pub returns : goal.returns
returns c other =
    number_after (string_bytes c.in_ok-group.group) c.args.self.now.totals c.insert.new.self (Some c.args.total)
    c.in_ok-insert.ensures.updates other
    ∙ ap (λ (t : List ℕ). if bytes_eq t other then c.args.total else total_in c.args.self.now other)
    c.in_ok-group.ensures.ok
