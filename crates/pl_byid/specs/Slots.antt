-- The slots of rows by ids, as those see them who look for them.
use Rattle.pl_record.specs.LinkedRows.{Entries}

pub record Slots : Type 0 where
  pub entries : Entries
