-- How many records are read of a page whose frecency a new day changes.
use Rattle.std.specs.Prelude.{ℕ, ◌+◌, ◌*◌}
use Rattle.pl_base.specs.Rows.{most_reads}
use Rattle.pl_base.specs.Visits.{sample_size}

-- the most for what a sampled visit counts: itself, its source, its first target and that one's row
abbrev pub sampled_reads : ℕ
sampled_reads = 4 * most_reads

-- the most for a sample: the latest visit, and each visit with the one before it
abbrev pub sample_reads : ℕ
sample_reads = most_reads + sample_size * (sampled_reads + most_reads)

-- the most for a frecency and a due day: the sample, and the day of the rows
abbrev pub aged_reads : ℕ
aged_reads = sample_reads + most_reads

-- the most for a mark that is kept: the page, its origin and the total of that, read and set
abbrev pub mark_reads : ℕ
mark_reads = 5 * most_reads
