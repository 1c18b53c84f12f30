use Rattle.std.proofs.Common.{◌∙◌, true, List, ap, map}
use Rattle.std.specs.Prelude.{codes}
use Rattle.std.specs.String.{string_bytes}
use Rattle.std.proofs.lemmas.List.{map-append}
use Rattle.pl_nbread.specs.declared.tree.Node.{Node}
use Rattle.pl_backup.specs.Written.{folder_end, to_come}
use Rattle.pl_backup.proofs.ListSteps.{one_ended}
use Rattle.pl_backup.proofs.Appended.{taken}
use Rattle.pl_backup.proofs.lists.push_ends.Goals as goal

pub loop-folder-preserved : goal.loop-folder-preserved
loop-folder-preserved c =
    λ left starts.
    let around : List Node = map (λ n. n.now) c.loop-folder.around.items in
    let rest : List Node = map (λ n. n.now) c.pop_ended.new.around.items in
    let folder : Node = c.in-Some.folder.now in
    taken (string_bytes c.loop-folder.file) (string_bytes c.push_str.new.self)
    (string_bytes c.push_folder_end.new.file) (codes "]") (folder_end folder) (to_come true rest left)
    (to_come c.loop-folder.after around left) c.in_ok-push_str.ensures.bytes c.in_ok-push_folder_end.ensures
    (one_ended c.loop-folder.after around rest folder left c.args.depth
    (ap (map (λ n. n.now)) c.in-Some.ensures.1 ∙ map-append (λ n. n.now) c.pop_ended.new.around.items _) starts
    c.in-Some.ensures.0)
    ∙ c.loop-folder.invariant left starts
