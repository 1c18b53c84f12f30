use Rattle.std.proofs.Common.{◌≡◌, ◌∙◌, Some, Option, ap, false, refl, subst, sym, true}
use Rattle.pl_base.specs.Store.{opening}
use Rattle.pl_base.proofs.Truths.{some_there}
use Rattle.pl_task.specs.declared.task.Task.{Task}
use Rattle.pl_task.specs.declared.task.Task.TheVariants as tasks
use Rattle.places.specs.Ending.{BeginsWith}
use Rattle.pl_task.specs.Task.{asked_of, spelled}
use Rattle.pl_intake.specs.declared.intake.Intake.TheVariants.{Import, Restore}
use Rattle.places.specs.declared.status.Status.{Status}
use Rattle.places.specs.Exporting.{export_text}
use Rattle.places.specs.Reporting.{stored_backup}
use Rattle.places.specs.TakingIn.{EndsIntake}
use Rattle.places.proofs.CompletenessLemmas.{drill_done, intake_complete, new_done, none_failed, of_task}
use Rattle.places.proofs.CompletenessLemmas.{report_complete, script_done}
use Rattle.places.proofs.DrillLemmas.{few_lines, same_drill}
use Rattle.places.proofs.RestoreLemmas.{brings_back}
use Rattle.places.proofs.OpeningLemmas.{begins_in_memory, begins_on_file, says_at_end}
use Rattle.places.proofs.run.Goals as goal

pub returns-in-Try-clause-replies : goal.returns-in-Try-clause-replies
returns-in-Try-clause-replies g c = λ kind start begins bytes before told begun.
    let desk = g.D.Desk in let old = c.args.desk.now in
    let asked : asked_of c.args.words.now ≡ Some tasks.Try =
    sym c.of.ensures ∙ c.in-Some.is ∙ ap (λ (t : Task). Some t) c.in-Try.is in
    let is =
    begins_in_memory (desk.held old) kind start
    (subst (λ (t : Option Task). BeginsWith t (desk.held old) kind start) asked begins) in
    rw is.1 (says_at_end desk c.try_script.result false old opening bytes before
    (g.S.Source.left c.try_script.new.input) c.try_script.new.desk
    (c.try_script.ensures.ends bytes before told begun))

pub returns-in-Run-clause-replies : goal.returns-in-Run-clause-replies
returns-in-Run-clause-replies g c = λ kind start begins bytes before told begun.
    let desk = g.D.Desk in let old = c.args.desk.now in
    let asked : asked_of c.args.words.now ≡ Some tasks.Run =
    sym c.of.ensures ∙ c.in-Some.is ∙ ap (λ (t : Task). Some t) c.in-Run.is in
    let is =
    begins_on_file (desk.held old) kind start
    (subst (λ (t : Option Task). BeginsWith t (desk.held old) kind start) asked begins) in
    says_at_end desk c.run_stored.result true old start bytes before (g.S.Source.left c.run_stored.new.input)
    c.run_stored.new.desk (c.run_stored.ensures.ends is.1.0 start is.1.1 is.1.2 bytes before told begun)

pub returns-in-Try-clause-stops : goal.returns-in-Try-clause-stops
returns-in-Try-clause-stops g c = λ kind start begins bytes before told begun.
    let desk = g.D.Desk in let old = c.args.desk.now in
    let asked : asked_of c.args.words.now ≡ Some tasks.Try =
    sym c.of.ensures ∙ c.in-Some.is ∙ ap (λ (t : Task). Some t) c.in-Try.is in
    let is =
    begins_in_memory (desk.held old) kind start
    (subst (λ (t : Option Task). BeginsWith t (desk.held old) kind start) asked begins) in
    rw (is.0, is.1) (c.try_script.ensures.stops bytes before told begun)

pub returns-in-Run-clause-stops : goal.returns-in-Run-clause-stops
returns-in-Run-clause-stops g c = λ kind start begins bytes before told begun.
    let desk = g.D.Desk in let old = c.args.desk.now in
    let asked : asked_of c.args.words.now ≡ Some tasks.Run =
    sym c.of.ensures ∙ c.in-Some.is ∙ ap (λ (t : Task). Some t) c.in-Run.is in
    let is =
    begins_on_file (desk.held old) kind start
    (subst (λ (t : Option Task). BeginsWith t (desk.held old) kind start) asked begins) in
    rw is.0 (c.run_stored.ensures.stops is.1.0 start is.1.1 is.1.2 bytes before told begun)

pub returns-in-Import-clause-import_stops : goal.returns-in-Import-clause-import_stops
returns-in-Import-clause-import_stops g c = λ asked start held bytes before told begun.
    c.intake_stored.ensures.stops held.0 start held.1 held.2 bytes before told begun

pub returns-in-Restore-clause-restore_stops : goal.returns-in-Restore-clause-restore_stops
returns-in-Restore-clause-restore_stops g c = λ asked start held bytes before told begun.
    c.intake_stored-in-Restore.ensures.stops held.0 start held.1 held.2 bytes before told begun

pub returns-in-Restore-clause-restore_returns : goal.returns-in-Restore-clause-restore_returns
returns-in-Restore-clause-restore_returns g c = λ done asked start held bytes before told begun. let desk = g.D.Desk in
    brings_back start bytes held.0 held.2
    (subst (λ (s : Status). EndsIntake desk Restore s c.args.desk.now start bytes before
    (g.S.Source.left c.intake_stored-in-Restore.new.input) c.intake_stored-in-Restore.new.desk) done
    (c.intake_stored-in-Restore.ensures.ends held.0 start held.1 held.2 bytes before told begun)).0.0

pub returns-in-Export-clause-export_stops : goal.returns-in-Export-clause-export_stops
returns-in-Export-clause-export_stops g c = λ asked start held before begun.
    c.report_stored.ensures.stops held.0 start before held.1 held.2 begun

pub returns-in-Export-clause-export_returns : goal.returns-in-Export-clause-export_returns
returns-in-Export-clause-export_returns g c = λ done asked start held before begun.
    c.report_stored.ensures.returns refl done held.0 start held.1 held.2

pub returns-in-Backup-clause-backup_stops : goal.returns-in-Backup-clause-backup_stops
returns-in-Backup-clause-backup_stops g c = λ asked start held before begun.
    c.report_stored-in-Backup.ensures.stops held.0 start before held.1 held.2 begun

pub drill_stored-requires : goal.drill_stored-requires
drill_stored-requires g c =
    few_lines (spelled c.args.words.now) c.in-Drill.count c.in-Drill.seed
    (sym c.of.ensures ∙ c.in-Some.is ∙ ap (λ (t : Task). Some t) c.in-Drill.is)

-- the numbers that are asked for are those that were read
pub returns-in-Drill-clause-drills : goal.returns-in-Drill-clause-drills
returns-in-Drill-clause-drills g c = λ count seed asked start held before begun.
    let same = same_drill c.in-Drill.count c.in-Drill.seed count seed
    (sym (sym c.of.ensures ∙ c.in-Some.is ∙ ap (λ (t : Task). Some t) c.in-Drill.is) ∙ asked) in
    rw (← same.0, ← same.1) (c.drill_stored.ensures.ends held.0 start before held.1 held.2 begun)

pub returns-in-Drill-clause-drill_stops : goal.returns-in-Drill-clause-drill_stops
returns-in-Drill-clause-drill_stops g c = λ count seed asked start held before begun.
    let same = same_drill c.in-Drill.count c.in-Drill.seed count seed
    (sym (sym c.of.ensures ∙ c.in-Some.is ∙ ap (λ (t : Task). Some t) c.in-Drill.is) ∙ asked) in
    rw (← same.0, ← same.1) (c.drill_stored.ensures.stops held.0 start before held.1 held.2 begun)

-- ---- where nothing outside fails

pub returns-in-Try-clause-complete : goal.returns-in-Try-clause-complete
returns-in-Try-clause-complete g c = λ task wanted nothing.
    let source = g.S.Source in let desk = g.D.Desk in let did = c.try_script.ensures in
    let old = c.args.desk.now in let new = c.try_script.new.desk in
    let asked : asked_of c.args.words.now ≡ Some tasks.Try =
    sym c.of.ensures ∙ c.in-Some.is ∙ ap (λ (t : Task). Some t) c.in-Try.is in
    let fails = of_task source desk tasks.Try task (asked_of c.args.words.now) c.args.input.now old
    c.try_script.new.input new asked wanted nothing in
    let say = none_failed (desk.line_faults old) (desk.line_faults new) did.counted.says fails.says in
    let call = none_failed (desk.device_faults old) (desk.device_faults new) did.counted.device fails.calls in
    let said = some_there (desk.said old) fails.told in
    let read = none_failed (source.faults c.args.input.now) (source.faults c.try_script.new.input) did.reads_counted
    fails.reads in
    let left = source.left c.try_script.new.input in let script = fails.needs in
    script_done tasks.Try c.try_script.result opening script.0 said.0 left (desk.said new) refl script.2 did.status read
    say call
    (says_at_end desk c.try_script.result false old opening script.0 said.0 left new
    (did.ends script.0 said.0 script.1 said.1))

pub returns-in-New-clause-complete : goal.returns-in-New-clause-complete
returns-in-New-clause-complete g c = λ task wanted nothing.
    let source = g.S.Source in let desk = g.D.Desk in let did = c.make_store.ensures in
    let old = c.args.desk.now in let new = c.make_store.new.desk in
    let asked : asked_of c.args.words.now ≡ Some tasks.New =
    sym c.of.ensures ∙ c.in-Some.is ∙ ap (λ (t : Task). Some t) c.in-New.is in
    let fails = of_task source desk tasks.New task (asked_of c.args.words.now) c.args.input.now old
    c.args.input.now new asked wanted nothing in
    let say = none_failed (desk.line_faults old) (desk.line_faults new) did.counted.says fails.says in
    let call = none_failed (desk.device_faults old) (desk.device_faults new) did.counted.device fails.calls in
    new_done desk c.make_store.result old new fails.needs say call did.ends

pub returns-in-Run-clause-complete : goal.returns-in-Run-clause-complete
returns-in-Run-clause-complete g c = λ task wanted nothing.
    let source = g.S.Source in let desk = g.D.Desk in let did = c.run_stored.ensures in
    let old = c.args.desk.now in let new = c.run_stored.new.desk in
    let asked : asked_of c.args.words.now ≡ Some tasks.Run =
    sym c.of.ensures ∙ c.in-Some.is ∙ ap (λ (t : Task). Some t) c.in-Run.is in
    let fails = of_task source desk tasks.Run task (asked_of c.args.words.now) c.args.input.now old
    c.run_stored.new.input new asked wanted nothing in
    let say = none_failed (desk.line_faults old) (desk.line_faults new) did.counted.says fails.says in
    let call = none_failed (desk.device_faults old) (desk.device_faults new) did.counted.device fails.calls in
    let said = some_there (desk.said old) fails.told in
    let read = none_failed (source.faults c.args.input.now) (source.faults c.run_stored.new.input) did.reads_counted
    fails.reads in
    let left = source.left c.run_stored.new.input in let script = fails.needs.0 in
    let start = fails.needs.1.0 in let held = fails.needs.1.1 in
    script_done tasks.Run c.run_stored.result start script.0 said.0 left (desk.said new) refl script.2 did.status read
    say call
    (says_at_end desk c.run_stored.result true old start script.0 said.0 left new
    (did.ends held.0 start held.1 held.2 script.0 said.0 script.1 said.1))

pub returns-in-Import-clause-complete : goal.returns-in-Import-clause-complete
returns-in-Import-clause-complete g c = λ task wanted nothing.
    let source = g.S.Source in let desk = g.D.Desk in let did = c.intake_stored.ensures in
    let old = c.args.desk.now in let new = c.intake_stored.new.desk in
    let asked : asked_of c.args.words.now ≡ Some tasks.Import =
    sym c.of.ensures ∙ c.in-Some.is ∙ ap (λ (t : Task). Some t) c.in-Import.is in
    let fails = of_task source desk tasks.Import task (asked_of c.args.words.now) c.args.input.now old
    c.intake_stored.new.input new asked wanted nothing in
    intake_complete desk source Import tasks.Import c.intake_stored.result c.args.input.now old c.intake_stored.new.input new did.reads_counted
    did.counted did.ends fails.needs fails

pub returns-in-Restore-clause-complete : goal.returns-in-Restore-clause-complete
returns-in-Restore-clause-complete g c = λ task wanted nothing.
    let source = g.S.Source in let desk = g.D.Desk in let did = c.intake_stored-in-Restore.ensures in
    let old = c.args.desk.now in let new = c.intake_stored-in-Restore.new.desk in
    let asked : asked_of c.args.words.now ≡ Some tasks.Restore =
    sym c.of.ensures ∙ c.in-Some.is ∙ ap (λ (t : Task). Some t) c.in-Restore.is in
    let fails = of_task source desk tasks.Restore task (asked_of c.args.words.now) c.args.input.now old
    c.intake_stored-in-Restore.new.input new asked wanted nothing in
    intake_complete desk source Restore tasks.Restore c.intake_stored-in-Restore.result c.args.input.now old c.intake_stored-in-Restore.new.input new did.reads_counted
    did.counted did.ends fails.needs fails

pub returns-in-Export-clause-complete : goal.returns-in-Export-clause-complete
returns-in-Export-clause-complete g c = λ task wanted nothing.
    let source = g.S.Source in let desk = g.D.Desk in let did = c.report_stored.ensures in
    let old = c.args.desk.now in let new = c.report_stored.new.desk in
    let asked : asked_of c.args.words.now ≡ Some tasks.Export =
    sym c.of.ensures ∙ c.in-Some.is ∙ ap (λ (t : Task). Some t) c.in-Export.is in
    let fails = of_task source desk tasks.Export task (asked_of c.args.words.now) c.args.input.now old
    c.args.input.now new asked wanted nothing in
    report_complete desk source tasks.Export c.report_stored.result export_text c.args.input.now old new did.counted did.ends
    fails.needs fails

pub returns-in-Backup-clause-complete : goal.returns-in-Backup-clause-complete
returns-in-Backup-clause-complete g c = λ task wanted nothing.
    let source = g.S.Source in let desk = g.D.Desk in let did = c.report_stored-in-Backup.ensures in
    let old = c.args.desk.now in let new = c.report_stored-in-Backup.new.desk in
    let asked : asked_of c.args.words.now ≡ Some tasks.Backup =
    sym c.of.ensures ∙ c.in-Some.is ∙ ap (λ (t : Task). Some t) c.in-Backup.is in
    let fails = of_task source desk tasks.Backup task (asked_of c.args.words.now) c.args.input.now old
    c.args.input.now new asked wanted nothing in
    report_complete desk source tasks.Backup c.report_stored-in-Backup.result stored_backup c.args.input.now old new did.counted did.ends
    fails.needs fails

pub returns-in-Drill-clause-complete : goal.returns-in-Drill-clause-complete
returns-in-Drill-clause-complete g c = λ task wanted nothing.
    let source = g.S.Source in let desk = g.D.Desk in let did = c.drill_stored.ensures in
    let old = c.args.desk.now in let new = c.drill_stored.new.desk in
    let asked : asked_of c.args.words.now ≡ Some (tasks.Drill c.in-Drill.count c.in-Drill.seed) =
    sym c.of.ensures ∙ c.in-Some.is ∙ ap (λ (t : Task). Some t) c.in-Drill.is in
    let fails = of_task source desk (tasks.Drill c.in-Drill.count c.in-Drill.seed) task (asked_of c.args.words.now) c.args.input.now old
    c.args.input.now new asked wanted nothing in
    let say = none_failed (desk.line_faults old) (desk.line_faults new) did.counted.says fails.says in
    let call = none_failed (desk.device_faults old) (desk.device_faults new) did.counted.device fails.calls in
    let said = some_there (desk.said old) fails.told in
    let start = fails.needs.0 in let held = fails.needs.1 in
    drill_done desk c.drill_stored.result c.in-Drill.count c.in-Drill.seed old start said.0 new say call
    (did.ends held.0 start said.0 held.1 held.2 said.1)

-- ---- what a task leaves

pub returns-in-Run-clause-ends : goal.returns-in-Run-clause-ends
returns-in-Run-clause-ends g c = λ kind start begins bytes before told begun.
    let desk = g.D.Desk in let old = c.args.desk.now in
    let asked : asked_of c.args.words.now ≡ Some tasks.Run =
    sym c.of.ensures ∙ c.in-Some.is ∙ ap (λ (t : Task). Some t) c.in-Run.is in
    let is =
    begins_on_file (desk.held old) kind start
    (subst (λ (t : Option Task). BeginsWith t (desk.held old) kind start) asked begins) in
    rw is.0 (c.run_stored.ensures.ends is.1.0 start is.1.1 is.1.2 bytes before told begun)

pub returns-in-Import-clause-imports : goal.returns-in-Import-clause-imports
returns-in-Import-clause-imports g c = λ asked start held bytes before told begun.
    c.intake_stored.ensures.ends held.0 start held.1 held.2 bytes before told begun

pub returns-in-Restore-clause-restores : goal.returns-in-Restore-clause-restores
returns-in-Restore-clause-restores g c = λ asked start held bytes before told begun.
    c.intake_stored-in-Restore.ensures.ends held.0 start held.1 held.2 bytes before told begun

pub returns-in-Export-clause-exports : goal.returns-in-Export-clause-exports
returns-in-Export-clause-exports g c = λ asked start held before begun.
    c.report_stored.ensures.ends held.0 start before held.1 held.2 begun

pub returns-in-Backup-clause-backups : goal.returns-in-Backup-clause-backups
returns-in-Backup-clause-backups g c = λ asked start held before begun.
    c.report_stored-in-Backup.ensures.ends held.0 start before held.1 held.2 begun
