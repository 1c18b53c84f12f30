use Rattle.std.specs.String.{string_bytes}
use Rattle.std.proofs.lemmas.Result.{on_ok_weaker}
use Rattle.pl_nbwrite.proofs.ListSteps.{root-pushed}
use Rattle.pl_nbwrite.proofs.lists.push_root.Goals as goal

pub returns : goal.returns
returns c =
    on_ok_weaker c.push_list_end.result
    (λ last. root-pushed c.args.more.now c.args.title.now c.args.nodes.now (string_bytes c.args.file.now)
    (string_bytes c.push_list_head.new.file) (string_bytes c.push_nodes.new.file)
    (string_bytes c.push_list_end.new.file) c.if-is_empty.ensures c.in_ok-push_list_head.ensures
    c.in_ok-push_nodes.ensures last)
    c.push_list_end.ensures
