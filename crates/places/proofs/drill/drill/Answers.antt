use Rattle.std.proofs.Common.{◌∙◌}
use Rattle.std.proofs.lemmas.Result.{err_from_is_err_and}
use Rattle.pl_store.specs.Keeper.{keeper_store}
use Rattle.places.proofs.DrillLemmas.{ends_front, ends_lines, ends_said, ends_untold, shows_lines, shows_summary}
use Rattle.places.proofs.drill.drill.Goals as goal

-- lines that were not all run
pub returns-in_err-drilling-clause-ends : goal.returns-in_err-drilling-clause-ends
returns-in_err-drilling-clause-ends g c =
    let p = err_from_is_err_and c.from_residual.result c.from_residual.ensures.1 in
    rw (p.1, p.2) (λ first before begun kept.
    ends_lines g.D.Desk _ c.args.count c.args.seed (keeper_store c.args.keeper) before first c.run_lines.new.desk
    (c.run_lines.ensures.line.said ∙ begun) (c.in_err-drilling.ensures.left first kept))

pub returns-in_err-drilling-clause-shows : goal.returns-in_err-drilling-clause-shows
returns-in_err-drilling-clause-shows g c first before begun kept =
    shows_lines g.D.Desk c.args.count c.args.seed (keeper_store c.args.keeper) before c.args.desk.now
    c.run_lines.new.desk begun (c.run_lines.ensures.any_moment first before begun kept)

-- want of memory for the summary
pub returns-in_err-text-clause-ends : goal.returns-in_err-text-clause-ends
returns-in_err-text-clause-ends g c =
    let p = err_from_is_err_and c.from_residual-in_err-text.result c.from_residual-in_err-text.ensures.1 in
    rw (p.1, p.2) (λ first before begun kept. let did = c.in_ok-drilling.ensures in
    ends_untold g.D.Desk c.in_ok-drilling.drilling first c.run_lines.new.desk c.args.count c.args.seed
    (keeper_store c.args.keeper) before did.done did.file (did.kept first kept)
    (c.run_lines.ensures.line.said ∙ begun))

pub returns-in_err-text-clause-shows : goal.returns-in_err-text-clause-shows
returns-in_err-text-clause-shows g c first before begun kept =
    shows_lines g.D.Desk c.args.count c.args.seed (keeper_store c.args.keeper) before c.args.desk.now
    c.run_lines.new.desk begun (c.run_lines.ensures.any_moment first before begun kept)

-- the summary was said
pub returns-in-Ok-clause-ends : goal.returns-in-Ok-clause-ends
returns-in-Ok-clause-ends g c first before begun kept = let did = c.in_ok-drilling.ensures in
    ends_said g.D.Desk c.in_ok-drilling.drilling first c.run_lines.new.desk c.args.count c.args.seed
    (keeper_store c.args.keeper) before c.as_bytes.result.now did.done did.file (did.kept first kept)
    (c.run_lines.ensures.line.said ∙ begun) (c.as_bytes.ensures.value ∙ c.as_str.ensures ∙ c.in_ok-text.ensures)
    c.say_all.new.desk c.say_all.ensures.file.kept c.in-Ok.ensures.whole

pub returns-in-Ok-clause-shows : goal.returns-in-Ok-clause-shows
returns-in-Ok-clause-shows g c first before begun kept = let did = c.in_ok-drilling.ensures in
    shows_summary g.D.Desk c.in_ok-drilling.drilling first c.run_lines.new.desk c.args.count c.args.seed
    (keeper_store c.args.keeper) before c.as_bytes.result.now did.done did.file (did.kept first kept)
    (c.run_lines.ensures.line.said ∙ begun) (c.as_bytes.ensures.value ∙ c.as_str.ensures ∙ c.in_ok-text.ensures)
    c.args.desk.now c.say_all.new.desk
    (shows_lines g.D.Desk c.args.count c.args.seed (keeper_store c.args.keeper) before c.args.desk.now
    c.run_lines.new.desk begun (c.run_lines.ensures.any_moment first before begun kept))
    (c.say_all.ensures.shows before (c.run_lines.ensures.line.said ∙ begun))

-- it was not said whole
pub returns-clause-ends : goal.returns-clause-ends
returns-clause-ends g c first before begun kept = let did = c.in_ok-drilling.ensures in
    ends_front g.D.Desk c.in_ok-drilling.drilling first c.run_lines.new.desk c.args.count c.args.seed
    (keeper_store c.args.keeper) before c.as_bytes.result.now did.done did.file (did.kept first kept)
    (c.run_lines.ensures.line.said ∙ begun) (c.as_bytes.ensures.value ∙ c.as_str.ensures ∙ c.in_ok-text.ensures)
    c.say_all.new.desk c.say_all.ensures.file.kept c.in-Err.ensures.front

pub returns-clause-shows : goal.returns-clause-shows
returns-clause-shows g c first before begun kept = let did = c.in_ok-drilling.ensures in
    shows_summary g.D.Desk c.in_ok-drilling.drilling first c.run_lines.new.desk c.args.count c.args.seed
    (keeper_store c.args.keeper) before c.as_bytes.result.now did.done did.file (did.kept first kept)
    (c.run_lines.ensures.line.said ∙ begun) (c.as_bytes.ensures.value ∙ c.as_str.ensures ∙ c.in_ok-text.ensures)
    c.args.desk.now c.say_all.new.desk
    (shows_lines g.D.Desk c.args.count c.args.seed (keeper_store c.args.keeper) before c.args.desk.now
    c.run_lines.new.desk begun (c.run_lines.ensures.any_moment first before begun kept))
    (c.say_all.ensures.shows before (c.run_lines.ensures.line.said ∙ begun))
