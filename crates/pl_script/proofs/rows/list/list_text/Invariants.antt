use Rattle.std.proofs.Common.{◌≡◌, ◌++◌, take}
use Rattle.std.specs.List.{All, flat_map}
use Rattle.std.specs.String.{string_bytes}
use Rattle.pl_step.specs.declared.reply.Reply.TheVariants.{List as ListReply}
use Rattle.pl_script.specs.Reply.{IsToldAgain, line_text, reply_fields, row_fields}
use Rattle.pl_script.proofs.rows.list.list_text.Given as goal

-- the first line, and one for each row so far, of which each is read again
abbrev pub invariant-loop-row : goal.invariant-loop-row
invariant-loop-row l =
    (string_bytes l.text ≡ line_text (reply_fields (ListReply l.rows))
    ++ flat_map (λ row. line_text (row_fields row)) (take l.row-index l.rows))
    × All IsToldAgain (take l.row-index l.rows)
