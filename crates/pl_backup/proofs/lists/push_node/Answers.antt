use Rattle.std.proofs.Common.{◌∙◌, true, false, List, ap, map}
use Rattle.std.specs.String.{string_bytes}
use Rattle.std.proofs.lemmas.List.{map-append}
use Rattle.pl_nbread.specs.declared.tree.Node.{Node}
use Rattle.pl_backup.specs.BackupText.{values}
use Rattle.pl_backup.specs.Written.{bookmark_text, children_start, separator_text, to_come}
use Rattle.pl_backup.proofs.Appended.{taken}
use Rattle.pl_backup.proofs.ListSteps.{begin_folder, put_bookmark, put_separator}
use Rattle.pl_backup.proofs.lists.push_node.Goals as goal
use Rattle.serde_json.specs.Written.{comma_if}

pub returns-in_ok-push_bookmark-in-Bookmark : goal.returns-in_ok-push_bookmark-in-Bookmark
returns-in_ok-push_bookmark-in-Bookmark c =
    λ left.
    let node : Node = c.args.node.now in
    let around : List Node = map (λ n. n.now) c.args.around.now.items in
    taken (string_bytes c.args.file.now) (string_bytes c.push_comma.new.file) (string_bytes c.push_bookmark.new.file)
    (comma_if c.args.later) (bookmark_text node) (to_come true around (values left)) _
    c.in_ok-push_comma.ensures c.in_ok-push_bookmark-in-Bookmark.ensures
    (put_bookmark c.args.later around node left c.in-Bookmark.is c.requires)

pub returns-in_ok-push_separator-in-Separator : goal.returns-in_ok-push_separator-in-Separator
returns-in_ok-push_separator-in-Separator c =
    λ left.
    let node : Node = c.args.node.now in
    let around : List Node = map (λ n. n.now) c.args.around.now.items in
    taken (string_bytes c.args.file.now) (string_bytes c.push_comma.new.file) (string_bytes c.push_separator.new.file)
    (comma_if c.args.later) (separator_text node) (to_come true around (values left)) _
    c.in_ok-push_comma.ensures c.in_ok-push_separator-in-Separator.ensures
    (put_separator c.args.later around node left c.in-Separator.is c.requires)

pub returns-in_ok-push-in-Folder : goal.returns-in_ok-push-in-Folder
returns-in_ok-push-in-Folder c =
    λ left.
    let node : Node = c.args.node.now in
    let around : List Node = map (λ n. n.now) c.args.around.now.items in
    let more : List Node = map (λ n. n.now) c.push.new.self.items in
    taken (string_bytes c.args.file.now) (string_bytes c.push_comma.new.file) (string_bytes c.push_str.new.self)
    (comma_if c.args.later) children_start (to_come false more (values left)) _
    c.in_ok-push_comma.ensures c.in_ok-push_str-in-Folder.ensures.bytes
    (begin_folder c.args.later around more node left c.in-Folder.is
    (ap (map (λ n. n.now)) c.in_ok-push-in-Folder.ensures.items ∙ map-append (λ n. n.now) c.args.around.now.items _)
    c.requires)
