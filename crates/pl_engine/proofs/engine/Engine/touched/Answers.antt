use Rattle.std.proofs.Common.{subst, sym}
use Rattle.pl_base.specs.Rows.{IsSound, Kept, store_of}
use Rattle.pl_known.specs.Known.{Knows}
use Rattle.pl_engine.proofs.engine.Engine.touched.Goals as goal

pub invariant_of-self : goal.invariant_of-self
invariant_of-self g c =
    record {
      sound = subst IsSound (sym c.touched.ensures.kept) c.args.self.now.sound;
      most = c.args.self.now.most;
      knows =
          subst (λ (kept : Kept). Knows (store_of kept) c.args.self.now.known) (sym c.touched.ensures.kept)
          c.args.self.now.knows;
    }
