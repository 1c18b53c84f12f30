use Rattle.std.proofs.Common.{◌≡◌, ℕ, length, refl, ap, subst}
use Rattle.pl_desk.specs.Desk.{Follows, Torn}
use Rattle.pl_desk.specs.Overwritten.{torn_same}
use Rattle.pl_gate.proofs.Moments.{began, went}
use Rattle.pl_gate.proofs.device.write_place.Goals as goal

pub returns-clause-torn : goal.returns-clause-torn
returns-clause-torn g c =
    let desk = g.D.Desk in let old = c.args.desk.now in
    let len : length c.place_bytes.result ≡ 16 = ap length c.place_bytes.ensures in
    let leaves =
    subst (λ (n : ℕ). Follows (Torn 8 n) (desk.may_leave old) (desk.may_leave c.write_at.new.self)) len
    c.write_at.ensures.leaves in
    record {
      leaves = leaves;
      moments =
          went desk old old c.write_at.new.self (Torn 8 16)
          (began desk g.met.D.Desk.only_now old (Torn 8 16) (torn_same 8 16)) refl c.write_at.ensures.time leaves;
    }
