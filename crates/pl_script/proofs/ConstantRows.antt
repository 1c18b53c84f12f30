-- The constants of the crate are those of the definitions.
use Rattle.std.proofs.Common.{◌≡◌, ◌+◌, refl}
use Rattle.pl_script.specs.declared.field.TheConstants.{MOST_OFFERED}
use Rattle.pl_script.specs.declared.fields.TheConstants.{LONGEST_LINE}
use Rattle.pl_script.specs.declared.lines.TheConstants.{BEHIND_LONGEST_LINE}
use Rattle.pl_script.specs.Script.{longest_line, most_offered}

longest_line_is : LONGEST_LINE ≡ longest_line
longest_line_is = refl

behind_longest_line_is : BEHIND_LONGEST_LINE ≡ longest_line + 1
behind_longest_line_is = refl

most_offered_is : MOST_OFFERED ≡ most_offered
most_offered_is = refl
