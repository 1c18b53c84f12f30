use Rattle.std.proofs.Common.{rules, ◌≡◌, ◌∙◌, Some, ap, bytes_eq, if◌then◌else◌, sym, unwrap_or}
use Rattle.std.specs.Option.{option_map}
use Rattle.pl_totals.specs.Held.{Held, after, held_in, held_of, nothing}
use Rattle.pl_totals.proofs.HeldLaws.{goes, stays, told_removed}
use Rattle.pl_totals.proofs.TextKeys.{told_after}
use Rattle.pl_totals.proofs.origins.Hosts.apply.Goals as goal

pub returns-then-is_empty-clause-held : goal.returns-then-is_empty-clause-held
returns-then-is_empty-clause-held c other =
    let was : held_of c.in-Some.kept.now ≡ held_in c.args.self.now c.args.host.now =
    ap (λ r. unwrap_or (option_map held_of r) nothing) c.in-Some.ensures.value in
    let now : held_of c.apply.new.self ≡ after c.args.step (held_in c.args.self.now c.args.host.now) =
    c.in_ok-apply.ensures ∙ ap (after c.args.step) was in
    told_removed held_of nothing c.args.host.now c.args.self.now.map (c.get_mut.follows.lender c.apply.new.self)
    c.remove.new.self c.apply.new.self ((c.get_mut.follows.holds c.apply.new.self).3 (search rules))
    c.remove.ensures.updates other
    ∙ ap (λ (h : Held). if bytes_eq c.args.host.now other then h else held_in c.args.self.now other)
    (sym (goes (after c.args.step (held_in c.args.self.now c.args.host.now)) (held_of c.apply.new.self)
    c.is_empty-is_empty.result now c.is_empty-is_empty.ensures c.if-is_empty.true))

pub returns-else-is_empty-clause-held : goal.returns-else-is_empty-clause-held
returns-else-is_empty-clause-held c other =
    let was : held_of c.in-Some.kept.now ≡ held_in c.args.self.now c.args.host.now =
    ap (λ r. unwrap_or (option_map held_of r) nothing) c.in-Some.ensures.value in
    let now : held_of c.apply.new.self ≡ after c.args.step (held_in c.args.self.now c.args.host.now) =
    c.in_ok-apply.ensures ∙ ap (after c.args.step) was in
    told_after held_of nothing c.args.host.now c.args.self.now.map (c.get_mut.follows.lender c.apply.new.self)
    (Some c.apply.new.self) ((c.get_mut.follows.holds c.apply.new.self).3 (search rules)) other
    ∙ ap (λ (h : Held). if bytes_eq c.args.host.now other then h else held_in c.args.self.now other)
    (sym (stays (after c.args.step (held_in c.args.self.now c.args.host.now)) (held_of c.apply.new.self)
    c.is_empty-is_empty.result now c.is_empty-is_empty.ensures c.if-is_empty.false))
