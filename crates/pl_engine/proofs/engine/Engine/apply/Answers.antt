use Rattle.pl_base.specs.Rows.{store_of}
use Rattle.pl_step.specs.Step.{perform}
use Rattle.pl_engine.proofs.WantsMemory.{accepted_by, may_want}
use Rattle.pl_engine.proofs.engine.Engine.apply.Goals as goal

pub returns-in_err-follow-in-Ok-clause-no_memory : goal.returns-in_err-follow-in-Ok-clause-no_memory
returns-in_err-follow-in-Ok-clause-no_memory g c wants =
    may_want c.args.self.limit (store_of (g.R.Rows.kept c.args.self.rows)) c.args.command.now
    (accepted_by g.R.Rows.kept g.R.Rows.base
    (perform c.args.self.limit (store_of (g.R.Rows.kept c.args.self.rows)) c.args.command.now) c.args.self.rows
    c.perform.new.rows c.args.self.known c.perform.result c.in-Ok.done c.in-Ok.is c.perform.ensures.performs)
