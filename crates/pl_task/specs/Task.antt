-- The words that the program is called with, and what they ask for.
use Rattle.std.specs.Prelude.{ℕ, Bool, true, false, List, [], ◌∷◌, map, codes, bytes_eq, nat_le}
use Rattle.std.specs.Prelude.{◌&&◌, Option, Some, None, if◌then◌else◌}
use denote.Ref.{Bor}
use Rattle.pl_base.specs.NumberText.{number_32_of, number_of}
use Rattle.pl_drill.specs.Drill.{most_lines}
use Rattle.pl_nbread.specs.BookmarkFile.{file_limit}
use Rattle.pl_task.specs.declared.task.Task.{Task}
use Rattle.pl_task.specs.declared.task.Task.TheVariants.{Try, New, Run, Import, Export, Backup}
use Rattle.pl_task.specs.declared.task.Task.TheVariants.{Restore, Drill}

-- the bytes of the words
abbrev pub spelled : List (Bor (List ℕ)) → List (List ℕ)
spelled words = map (λ word. word.now) words

-- what a word alone asks for
abbrev pub task_alone : List ℕ → Option Task
task_alone word = if bytes_eq word (codes "try") then Some Try else None

-- what a word with the path of a store's file asks for
abbrev pub task_on_file : List ℕ → Option Task
task_on_file word =
    if bytes_eq word (codes "new") then Some New else
    if bytes_eq word (codes "run") then Some Run else
    if bytes_eq word (codes "import") then Some Import else
    if bytes_eq word (codes "export") then Some Export else
    if bytes_eq word (codes "backup") then Some Backup else
    if bytes_eq word (codes "restore") then Some Restore else None

-- a drill of this many lines from this seed, where there are some and not too many
abbrev pub drill_task : Option ℕ → Option ℕ → Option Task
drill_task None seed = None
drill_task (Some count) None = None
drill_task (Some count) (Some seed) =
    if nat_le 1 count && nat_le count most_lines then Some (Drill count seed) else None

-- what a word with the path of a store's file, a number of lines and a seed asks for
abbrev pub task_drill : List ℕ → List ℕ → List ℕ → Option Task
task_drill word count seed =
    if bytes_eq word (codes "drill") then drill_task (number_32_of count) (number_of seed) else None

-- what the words ask for, if anything
abbrev pub task_of : List (List ℕ) → Option Task
task_of [] = None
task_of (word ∷ []) = task_alone word
task_of (word ∷ path ∷ []) = task_on_file word
task_of (word ∷ path ∷ count ∷ []) = None
task_of (word ∷ path ∷ count ∷ seed ∷ []) = task_drill word count seed
task_of (word ∷ path ∷ count ∷ seed ∷ next ∷ words) = None

-- the same of words as they are handed over
abbrev pub asked_of : List (Bor (List ℕ)) → Option Task
asked_of words = task_of (spelled words)

-- ---- what is done for a task

-- so many bytes of a script are read at most
abbrev pub script_limit : ℕ
script_limit = 2_147_483_648

-- it opens a store that is there
abbrev pub opens_store : Task → Bool
opens_store Try = false
opens_store New = false
opens_store Run = true
opens_store Import = true
opens_store Export = true
opens_store Backup = true
opens_store Restore = true
opens_store (Drill count seed) = true

-- how many bytes its input stays below, if it reads any
abbrev pub input_limit : Task → Option ℕ
input_limit Try = Some script_limit
input_limit New = None
input_limit Run = Some script_limit
input_limit Import = Some file_limit
input_limit Export = None
input_limit Backup = None
input_limit Restore = Some file_limit
input_limit (Drill count seed) = None
