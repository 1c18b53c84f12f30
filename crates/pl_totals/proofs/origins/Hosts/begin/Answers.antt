use Rattle.std.proofs.Common.{◌≡◌, ◌∙◌, List, ℕ, Some, ap, bytes_eq, if◌then◌else◌, sym}
use Rattle.std.specs.String.{string_bytes}
use Rattle.pl_totals.specs.Held.{Held, after, held_in, held_of, nothing}
use Rattle.pl_totals.proofs.HeldLaws.{stays}
use Rattle.pl_totals.proofs.TextKeys.{told_after}
use Rattle.pl_totals.proofs.origins.Hosts.begin.Goals as goal

pub returns : goal.returns
returns c other =
    let now : held_of c.apply.new.self ≡ after c.args.step nothing =
    c.in_ok-apply.ensures ∙ ap (after c.args.step) c.none-kept.ensures in
    told_after held_of nothing (string_bytes c.in_ok-host.host) c.args.self.now.map c.insert.new.self
    (Some c.apply.new.self) c.in_ok-insert.ensures.updates other
    ∙ ap (λ (t : List ℕ). if bytes_eq t other then held_of c.apply.new.self else held_in c.args.self.now other)
    c.in_ok-host.ensures.ok
    ∙ ap (λ (h : Held). if bytes_eq c.args.host.now other then h else held_in c.args.self.now other)
    (sym (stays (after c.args.step nothing) (held_of c.apply.new.self) c.is_empty.result now c.is_empty.ensures
    c.if-is_empty.false))
