use Rattle.std.proofs.Common.{refl}
use Rattle.pl_desk.specs.Desk.{Follows, Torn}
use Rattle.pl_desk.specs.Overwritten.{torn_same}
use Rattle.pl_gate.proofs.Moments.{began, went}
use Rattle.pl_gate.proofs.device.write_gate.Goals as goal

pub returns-in_err-write_at-clause-torn : goal.returns-in_err-write_at-clause-torn
returns-in_err-write_at-clause-torn g c = let desk = g.D.Desk in let old = c.args.desk.now in record {
  leaves = c.write_at.ensures.leaves;
  moments =
      went desk old old _ (Torn 0 1) (began desk g.met.D.Desk.only_now old (Torn 0 1) (torn_same 0 1)) refl
      c.write_at.ensures.time c.write_at.ensures.leaves;
}

pub returns-clause-torn : goal.returns-clause-torn
returns-clause-torn g c =
    let desk = g.D.Desk in let old = c.args.desk.now in
    let first = went desk old old _ (Torn 0 1)
    (began desk g.met.D.Desk.only_now old (Torn 0 1) (torn_same 0 1)) refl c.write_at.ensures.time
    c.write_at.ensures.leaves in
    let leaves : Follows (Torn 0 1) (desk.may_leave old) (desk.may_leave c.sync.new.self) =
    λ file left. c.write_at.ensures.leaves file (c.sync.ensures.leaves file left) in
    record {
      leaves = leaves;
      moments = went desk old _ _ (Torn 0 1) first c.write_at.ensures.said c.sync.ensures.time leaves;
    }
