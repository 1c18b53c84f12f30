use Rattle.std.proofs.Common.{refl, arith}
use Rattle.places.proofs.ProgressLemmas.{line_kept, line_passed}
use Rattle.places.proofs.script_run.ScriptRun.keep.Goals as goal

pub returns-clause-ok : goal.returns-clause-ok
returns-clause-ok c = λ start bytes begun said at.
    line_kept start bytes c.args.byte begun said c.args.self.now _ at c.requires refl (omega arith)
    c.in_ok-push.ensures.items

pub returns-then-len-ge-KEPT-clause-ok : goal.returns-then-len-ge-KEPT-clause-ok
returns-then-len-ge-KEPT-clause-ok c = λ start bytes begun said at.
    line_passed start bytes c.args.byte begun said c.args.self.now at c.requires (omega arith)
