use Rattle.std.proofs.Common.{rules, ◌≡◌, ◌∙◌, List, ℕ, Some, ap, bytes_eq, if◌then◌else◌, sym, unwrap_or}
use Rattle.std.specs.Option.{option_map}
use Rattle.pl_base.specs.Totals.{Origin}
use Rattle.pl_totals.specs.declared.origins.Hosts.{Hosts}
use Rattle.pl_totals.specs.Held.{Held, after, held_at, held_in, nothing, settled}
use Rattle.pl_totals.proofs.HeldLaws.{told_removed, two_keys}
use Rattle.pl_totals.proofs.TextKeys.{told_after}
use Rattle.pl_totals.proofs.origins.Origins.apply.Goals as goal

pub returns-then-is_empty-clause-held : goal.returns-then-is_empty-clause-held
returns-then-is_empty-clause-held c other =
    let old : Origin → Held = held_at c.args.self.now in
    let prefix : List ℕ = c.args.prefix.now in
    let host : List ℕ = c.args.host.now in
    let was : (x : List ℕ) → held_in c.in-Some.hosts.now x ≡ old (prefix, x) =
    λ x. ap (λ r. unwrap_or (option_map (λ (h : Hosts). held_in h x) r) nothing) c.in-Some.ensures.value in
    let none : nothing
    ≡ (if bytes_eq host other.1 then settled (after c.args.step (old (prefix, host))) else old (prefix, other.1)) =
    sym (c.is_empty-is_empty.ensures c.if-is_empty.true other.1) ∙ c.in_ok-was.ensures.held other.1
    ∙ ap (λ (h : Held). if bytes_eq host other.1 then settled (after c.args.step h)
    else held_in c.in-Some.hosts.now other.1) (was host)
    ∙ ap (λ (h : Held). if bytes_eq host other.1 then settled (after c.args.step (old (prefix, host))) else h)
    (was other.1) in
    told_removed (λ (h : Hosts). held_in h other.1) nothing prefix c.args.self.now.prefixes
    (c.get_mut.follows.lender c.apply.new.self) c.remove.new.self c.apply.new.self
    ((c.get_mut.follows.holds c.apply.new.self).3 (search rules)) c.remove.ensures.updates other.0
    ∙ ap (λ (h : Held). if bytes_eq prefix other.0 then h else old other) none
    ∙ two_keys old prefix host (settled (after c.args.step (old (prefix, host)))) other

pub returns-else-is_empty-clause-held : goal.returns-else-is_empty-clause-held
returns-else-is_empty-clause-held c other =
    let old : Origin → Held = held_at c.args.self.now in
    let prefix : List ℕ = c.args.prefix.now in
    let host : List ℕ = c.args.host.now in
    let was : (x : List ℕ) → held_in c.in-Some.hosts.now x ≡ old (prefix, x) =
    λ x. ap (λ r. unwrap_or (option_map (λ (h : Hosts). held_in h x) r) nothing) c.in-Some.ensures.value in
    let now : held_in c.apply.new.self other.1
    ≡ (if bytes_eq host other.1 then settled (after c.args.step (old (prefix, host))) else old (prefix, other.1)) =
    c.in_ok-was.ensures.held other.1
    ∙ ap (λ (h : Held). if bytes_eq host other.1 then settled (after c.args.step h)
    else held_in c.in-Some.hosts.now other.1) (was host)
    ∙ ap (λ (h : Held). if bytes_eq host other.1 then settled (after c.args.step (old (prefix, host))) else h)
    (was other.1) in
    told_after (λ (h : Hosts). held_in h other.1) nothing prefix c.args.self.now.prefixes
    (c.get_mut.follows.lender c.apply.new.self) (Some c.apply.new.self)
    ((c.get_mut.follows.holds c.apply.new.self).3 (search rules)) other.0
    ∙ ap (λ (h : Held). if bytes_eq prefix other.0 then h else old other) now
    ∙ two_keys old prefix host (settled (after c.args.step (old (prefix, host)))) other
