use Rattle.std.proofs.Common.{◌∙◌, ◌++◌, ◌*◌, List, ℕ, ap, append_assoc, replicate, sym}
use Rattle.std.specs.Prelude.{codes}
use Rattle.std.specs.String.{string_bytes}
use Rattle.pl_nbwrite.specs.BookmarkText.{heading, line, list_start}
use Rattle.pl_base.proofs.ListLaws.{append_twice}
use Rattle.pl_nbwrite.proofs.lines.push_list_head.Goals as goal

pub returns : goal.returns
returns c =
    let s0 : List ℕ = string_bytes c.args.file.now in
    let s1 : List ℕ = string_bytes c.push_indent.new.file in
    let s2 : List ℕ = string_bytes c.push_heading.new.file in
    let s3 : List ℕ = string_bytes c.push_str.new.self in
    let s4 : List ℕ = string_bytes c.push_indent-2.new.file in
    let s5 : List ℕ = string_bytes c.push_str-2.new.self in
    let spaces : List ℕ = replicate (4 * c.args.level) 32 in
    let text : List ℕ = heading c.args.added c.args.modified c.args.more.now c.args.title.now in
    let start : List ℕ = codes "<DL><p>" in
    let end : List ℕ = codes "\n" in
    append_twice s0 s3 s5 (line c.args.level text) (list_start c.args.level)
    (append_twice s0 s2 s3 (spaces ++ text) end
    (append_twice s0 s1 s2 spaces text c.in_ok-push_indent.ensures c.in_ok-push_heading.ensures)
    c.in_ok-push_str.ensures.bytes)
    (append_twice s3 s4 s5 spaces (start ++ end) c.in_ok-push_indent-2.ensures c.in_ok-push_str-2.ensures.bytes
    ∙ ap (λ (x : List ℕ). s3 ++ x) (sym (append_assoc spaces start end)))
