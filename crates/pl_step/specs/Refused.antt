-- Whether a command was refused.
use Rattle.std.specs.Prelude.{Bool, true, false}
use Rattle.pl_step.specs.declared.reply.Reply.{Reply}
use Rattle.pl_step.specs.declared.reply.Reply.TheVariants.{Day, Visit, Done, Page, Origin, Stats}
use Rattle.pl_step.specs.declared.reply.Reply.TheVariants.{Removed, Item, List, Rows, Place, Bar}
use Rattle.pl_step.specs.declared.reply.Reply.TheVariants.{Fill, NoFill, Imported, Restored, Refused}

-- the reply is a refusal
abbrev pub is_refused : Reply → Bool
is_refused (Day day changed) = false
is_refused (Visit visit page frecency) = false
is_refused Done = false
is_refused (Page id frecency count last typed hidden bookmarked url title tags) = false
is_refused (Origin prefix host reversed total pages passes) = false
is_refused (Stats pages visits items origins sum slots) = false
is_refused (Removed visits pages) = false
is_refused (Item id) = false
is_refused (List rows) = false
is_refused (Rows rows) = false
is_refused (Place text) = false
is_refused (Bar rows) = false
is_refused (Fill group total) = false
is_refused NoFill = false
is_refused (Imported items tags skipped) = false
is_refused (Restored items tags skipped) = false
is_refused (Refused refusal) = true
