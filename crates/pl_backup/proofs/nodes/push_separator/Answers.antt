use Rattle.std.proofs.Common.{◌∙◌, ◌++◌, List, ℕ, ap}
use Rattle.std.specs.Prelude.{codes}
use Rattle.std.specs.String.{string_bytes}
use Rattle.pl_base.proofs.ListLaws.{append_twice}
use Rattle.pl_backup.specs.Written.{dates_text, titled_text}
use Rattle.pl_backup.proofs.nodes.push_separator.Goals as goal

pub returns : goal.returns
returns c =
    let node = c.args.node.now in
    let s0 : List ℕ = string_bytes c.args.file.now in
    let s1 : List ℕ = string_bytes c.push_dates.new.file in
    let s2 : List ℕ = string_bytes c.push_titled.new.file in
    let front : List ℕ = dates_text (codes "{") node.added node.modified in
    let kind : List ℕ → List ℕ = λ title. titled_text title (codes "text/x-moz-place-separator") 3 in
    append_twice s0 s2 (string_bytes c.push_str.new.self) (front ++ kind node.title) (codes "}")
    (append_twice s0 s1 s2 front (kind node.title) c.in_ok-push_dates.ensures
    (c.in_ok-push_titled.ensures ∙ ap (λ (x : List ℕ). s1 ++ kind x) c.as_str-title.ensures))
    c.in_ok-push_str.ensures.bytes
