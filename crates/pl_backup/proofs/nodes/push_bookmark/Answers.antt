use Rattle.std.proofs.Common.{◌∙◌, ◌++◌, [], List, ℕ, ap}
use Rattle.std.specs.Prelude.{codes, unwrap_or}
use Rattle.std.specs.String.{string_bytes}
use Rattle.json.specs.Print.{quoted}
use Rattle.pl_base.proofs.ListLaws.{append_twice}
use Rattle.pl_backup.specs.Written.{dates_text, tags_text, titled_text}
use Rattle.pl_backup.proofs.nodes.push_bookmark.Goals as goal

pub returns : goal.returns
returns c =
    let node = c.args.node.now in
    let s0 : List ℕ = string_bytes c.args.file.now in
    let s1 : List ℕ = string_bytes c.push_dates.new.file in
    let s2 : List ℕ = string_bytes c.push_tags.new.file in
    let s3 : List ℕ = string_bytes c.push_titled.new.file in
    let s4 : List ℕ = string_bytes c.push_text.new.file in
    let front : List ℕ = dates_text (codes "{") node.added node.modified in
    let kind : List ℕ → List ℕ = λ title. titled_text title (codes "text/x-moz-place") 1 in
    let uri : List ℕ → List ℕ = λ url. codes ",\"uri\":" ++ quoted url in
    let to_tags =
    append_twice s0 s1 s2 front (tags_text node.tags) c.in_ok-push_dates.ensures
    (c.in_ok-push_tags.ensures ∙ ap (λ (x : List (List ℕ)). s1 ++ tags_text x) c.as_slice.ensures) in
    let to_kind =
    append_twice s0 s2 s3 _ (kind node.title) to_tags
    (c.in_ok-push_titled.ensures ∙ ap (λ (x : List ℕ). s2 ++ kind x) c.as_str.ensures) in
    let to_uri =
    append_twice s0 s3 s4 _ (uri (unwrap_or node.url [])) to_kind
    (c.in_ok-push_text.ensures ∙ ap (λ (x : List ℕ). s3 ++ uri x) c.address.ensures) in
    append_twice s0 s4 (string_bytes c.push_str.new.self) _ (codes "}") to_uri c.in_ok-push_str.ensures.bytes
