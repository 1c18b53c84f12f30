use Rattle.std.proofs.Common.{◌≡◌, ◌∙◌, List, ℕ, Some, ap, bytes_eq, if◌then◌else◌, sym}
use Rattle.std.specs.String.{string_bytes}
use Rattle.pl_base.specs.Totals.{Origin}
use Rattle.pl_totals.specs.declared.origins.Hosts.{Hosts}
use Rattle.pl_totals.specs.Held.{Held, after, held_at, held_in, nothing, settled}
use Rattle.pl_totals.proofs.HeldLaws.{two_keys}
use Rattle.pl_totals.proofs.TextKeys.{told_after}
use Rattle.pl_totals.proofs.origins.Origins.begin.Goals as goal

pub returns : goal.returns
returns c other =
    let old : Origin → Held = held_at c.args.self.now in
    let prefix : List ℕ = c.args.prefix.now in
    let host : List ℕ = c.args.host.now in
    let first : held_in c.apply.new.self other.1
    ≡ (if bytes_eq host other.1 then settled (after c.args.step nothing) else old (prefix, other.1)) =
    c.in_ok-apply.ensures.held other.1
    ∙ ap (λ (h : Held). if bytes_eq host other.1 then settled (after c.args.step h)
    else held_in c.new-hosts.result other.1) (c.new-hosts.ensures host)
    ∙ ap (λ (h : Held). if bytes_eq host other.1 then settled (after c.args.step nothing) else h)
    (c.new-hosts.ensures other.1 ∙ sym (c.requires.none other.1)) in
    told_after (λ (h : Hosts). held_in h other.1) nothing (string_bytes c.in_ok-prefix.prefix) c.args.self.now.prefixes
    c.insert.new.self (Some c.apply.new.self) c.in_ok-insert.ensures.updates other.0
    ∙ ap (λ (t : List ℕ). if bytes_eq t other.0 then held_in c.apply.new.self other.1 else old other)
    c.in_ok-prefix.ensures.ok
    ∙ ap (λ (h : Held). if bytes_eq prefix other.0 then h else old other) first
    ∙ two_keys old prefix host (settled (after c.args.step nothing)) other
