use Rattle.std.proofs.Common.{◌∙◌, ◌++◌, false, List, ℕ, ap}
use Rattle.std.specs.String.{string_bytes}
use Rattle.std.proofs.lemmas.Result.{on_ok_weaker}
use Rattle.pl_nbread.specs.declared.tree.Node.{Node}
use Rattle.pl_backup.specs.BackupText.{items, values}
use Rattle.pl_backup.specs.Written.{children_start, root_end, root_text}
use Rattle.pl_base.proofs.ListLaws.{append_twice}
use Rattle.pl_backup.proofs.writer.push_root.Goals as goal
use Rattle.serde_json.specs.Written.{items_text}

pub returns : goal.returns
returns c =
    let s0 : List ℕ = string_bytes c.args.file.now in
    let s1 : List ℕ = string_bytes c.push_str.new.self in
    let s2 : List ℕ = string_bytes c.push_str-2.new.self in
    let s3 : List ℕ = string_bytes c.push_nodes.new.file in
    let s4 : List ℕ = string_bytes c.push_root_end.new.file in
    let nodes : List Node = c.args.nodes.now in
    let list : List Node → List ℕ = λ x. items_text false (items (values x)) in
    let end : List ℕ = root_end c.args.guid.now c.args.name.now in
    let listed = c.in_ok-push_nodes.ensures ∙ ap (λ (x : List Node). s2 ++ list x) c.as_slice.ensures in
    on_ok_weaker c.push_root_end.result
    (λ last. append_twice s0 s1 s4 c.args.before.now (root_text c.args.guid.now c.args.name.now nodes)
    c.in_ok-push_str.ensures.bytes
    (append_twice s1 s3 s4 (children_start ++ list nodes) end
    (append_twice s1 s2 s3 children_start (list nodes) c.in_ok-push_str-2.ensures.bytes listed) last))
    c.push_root_end.ensures
