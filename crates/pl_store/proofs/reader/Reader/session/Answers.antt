use Rattle.std.proofs.Common.{sym, subst}
use Rattle.pl_store.specs.OwnBase.{HasOwnBase}
use Rattle.pl_store.proofs.reader.Reader.session.Goals as goal

pub invariant_of-result : goal.invariant_of-result
invariant_of-result c = record {
  base = subst HasOwnBase (sym c.in_ok-engine.ensures.rows) c.args.self.base;
}
