-- Worked rows of runs: words and what they ask for, statuses, lines that ended, and what is said of
-- whole tasks.
use Rattle.std.proofs.Common.{◌≡◌, ◌++◌, true, false, [], ◌∷◌, None, Some, Ok, map, refl}
use Rattle.std.specs.Prelude.{codes}
use Rattle.std.specs.Fmt.{digits}
use Rattle.url.proofs.OnLiterals.{url_on_literals}
use Rattle.pl_backup.specs.declared.error.Fault.TheVariants.{NoChildren, NotJson}
use Rattle.pl_base.specs.declared.id.IdKind.TheVariants.{Item as ItemIds}
use Rattle.pl_base.specs.declared.refusal.Refusal.TheVariants.{Full, NoIds, TooMany}
use Rattle.pl_base.specs.Store.{Store, opening}
use Rattle.pl_step.specs.declared.command.Command.TheVariants.{Stats}
use Rattle.places.specs.declared.status.Status.TheVariants.{DeviceFault, Done, ImportRefused, NoMemory, NotAStore}
use Rattle.places.specs.declared.status.Status.TheVariants.{NotBackup, NotBookmarks, NotEmpty, ReadFault, SayFault}
use Rattle.places.specs.declared.status.Status.TheVariants.{TooLong, Usage}
use Rattle.pl_task.specs.declared.task.Task.TheVariants.{Backup, Drill, Export, Import, New, Restore, Run, Try}
use Rattle.places.specs.Drilling.{summary}
use Rattle.places.specs.Exporting.{export_text}
use Rattle.places.specs.Lines.{ended_lines, open_line}
use Rattle.places.specs.Progress.{ended_entries, entries_read}
use Rattle.places.specs.Status.{status_number, status_value}
use Rattle.pl_task.specs.Task.{input_limit, opens_store, task_of}

-- ---- words

-- each form; the path may be any text
forms :
    map task_of
    ((codes "try" ∷ []) ∷ (codes "new" ∷ codes "s" ∷ []) ∷ (codes "run" ∷ [] ∷ []) ∷ (codes "import" ∷ codes "s" ∷ [])
    ∷ (codes "export" ∷ codes "try" ∷ []) ∷ (codes "backup" ∷ codes "s" ∷ []) ∷ (codes "restore" ∷ codes "s" ∷ []) ∷ [])
    ≡ Some Try ∷ Some New ∷ Some Run ∷ Some Import ∷ Some Export ∷ Some Backup ∷ Some Restore ∷ []
forms = refl

-- the least and the greatest numbers of a drill
drills :
    map task_of
    ((codes "drill" ∷ codes "s" ∷ codes "1" ∷ codes "0" ∷ [])
    ∷ (codes "drill" ∷ codes "s" ∷ codes "100000" ∷ codes "18446744073709551615" ∷ []) ∷ [])
    ≡ Some (Drill 1 0) ∷ Some (Drill 100_000 18_446_744_073_709_551_615) ∷ []
drills = refl

no_forms :
    map task_of
    ([] ∷ ([] ∷ []) ∷ (codes "Try" ∷ []) ∷ (codes "try" ∷ codes "s" ∷ []) ∷ (codes "new" ∷ []) ∷ (codes "run" ∷ [])
    ∷ (codes "run" ∷ codes "s" ∷ codes "t" ∷ []) ∷ (codes "drill" ∷ codes "s" ∷ [])
    ∷ (codes "backup" ∷ []) ∷ (codes "restore" ∷ []) ∷ [])
    ≡ None ∷ None ∷ None ∷ None ∷ None ∷ None ∷ None ∷ None ∷ None ∷ None ∷ []
no_forms = refl

no_drills :
    map (λ numbers. task_of (codes "drill" ∷ codes "s" ∷ numbers))
    ((codes "1" ∷ []) ∷ (codes "0" ∷ codes "0" ∷ []) ∷ (codes "100001" ∷ codes "0" ∷ [])
    ∷ (codes "01" ∷ codes "0" ∷ []) ∷ (codes "1" ∷ codes "00" ∷ []) ∷ (codes "1" ∷ codes "18446744073709551616" ∷ [])
    ∷ (codes "1" ∷ codes "1" ∷ codes "1" ∷ []) ∷ [])
    ≡ None ∷ None ∷ None ∷ None ∷ None ∷ None ∷ None ∷ []
no_drills = refl

inputs : map input_limit (Try ∷ New ∷ Run ∷ Import ∷ Export ∷ Backup ∷ Restore ∷ Drill 1 0 ∷ [])
    ≡ Some 2_147_483_648 ∷ None ∷ Some 2_147_483_648 ∷ Some 16_777_216 ∷ None ∷ None ∷ Some 16_777_216 ∷ None ∷ []
inputs = refl

stores : map opens_store (Try ∷ New ∷ Run ∷ Import ∷ Export ∷ Backup ∷ Restore ∷ Drill 1 0 ∷ [])
    ≡ false ∷ false ∷ true ∷ true ∷ true ∷ true ∷ true ∷ true ∷ []
stores = refl

-- ---- statuses

numbers :
    map status_number
    (Done ∷ Usage ∷ ReadFault ∷ SayFault ∷ DeviceFault ∷ NoMemory ∷ NotAStore ∷ NotEmpty 1 ∷ NotBookmarks 0
    ∷ TooLong 16_777_216 ∷ ImportRefused (Full 29) ∷ NotBackup NotJson ∷ [])
    ≡ 0 ∷ 2 ∷ 3 ∷ 4 ∷ 5 ∷ 6 ∷ 7 ∷ 8 ∷ 9 ∷ 10 ∷ 11 ∷ 13 ∷ []
numbers = refl

no_values : map status_value (Done ∷ Usage ∷ ReadFault ∷ SayFault ∷ DeviceFault ∷ NoMemory ∷ NotAStore ∷ [])
    ≡ None ∷ None ∷ None ∷ None ∷ None ∷ None ∷ None ∷ []
no_values = refl

-- of a refusal its number, and none of its own values
values :
    map status_value
    (NotEmpty 1 ∷ NotBookmarks 0 ∷ TooLong 16_777_216 ∷ ImportRefused (Full 29) ∷ ImportRefused (NoIds ItemIds)
    ∷ ImportRefused (TooMany 50_001) ∷ NotBackup NotJson ∷ NotBackup NoChildren ∷ [])
    ≡ Some 1 ∷ Some 0 ∷ Some 16_777_216 ∷ Some 12 ∷ Some 13 ∷ Some 19 ∷ Some 1 ∷ Some 2 ∷ []
values = refl

-- ---- how far the input was read

-- a CR goes with the LF behind it, and what came since the last LF is no line yet
lines_that_ended : ended_lines (codes "a\r\nb\rc\n\nd\r") ≡ codes "a" ∷ codes "b\rc" ∷ [] ∷ []
lines_that_ended = refl

line_that_has_not : map open_line (codes "a\nd\r" ∷ codes "a\n" ∷ [] ∷ []) ≡ codes "d\r" ∷ [] ∷ [] ∷ []
line_that_has_not = refl

-- the last line counts at the end of the input alone
entries : entries_read (codes "stats\n#\nstats") [] ∷ entries_read (codes "stats\n#\nstats") (codes "\n")
    ∷ ended_entries (codes "stats\n#\nstats") ∷ ended_entries (codes "stats") ∷ []
    ≡ (Ok Stats ∷ Ok Stats ∷ []) ∷ (Ok Stats ∷ []) ∷ (Ok Stats ∷ []) ∷ [] ∷ []
entries = refl

-- ---- what is said

exported : export_text opening
    ≡ codes "<!DOCTYPE NETSCAPE-Bookmark-file-1>\n"
    ++ codes "<META HTTP-EQUIV=\"Content-Type\" CONTENT=\"text/html; charset=UTF-8\">\n"
    ++ codes "<TITLE>Bookmarks</TITLE>\n<H1>Bookmarks Menu</H1>\n\n<DL><p>\n</DL><p>\n"
exported = refl

-- an embedded visit, which is worth nothing
drill_of_one : summary opening 1 1
    ≡ codes "drill\t1\trefused\t0\nstats\tpages\t1\tvisits\t1\titems\t6\torigins\t0\tsum\t0\tslots\t10\n"
unfolding url_on_literals digits
drill_of_one = refl

-- the first line is refused on a store of a later day, and counts
later : Store
later = record opening { day = record { 0 = 19_001 } }

refused_day : summary later 1 1
    ≡ codes "drill\t1\trefused\t1\nstats\tpages\t1\tvisits\t1\titems\t6\torigins\t0\tsum\t0\tslots\t10\n"
unfolding later url_on_literals digits
refused_day = refl

-- A typed visit, the address bar, a bookmark, a redirect that came from the visit, a day more, and
-- no visit so old: pages of 25, 140 and 2,000.
drill_of_six : summary opening 5 6
    ≡ codes "drill\t6\trefused\t0\nstats\tpages\t3\tvisits\t2\titems\t7\torigins\t3\tsum\t2165\tslots\t19\n"
unfolding url_on_literals digits
drill_of_six = refl
