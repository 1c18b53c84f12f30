use Rattle.std.proofs.Common.{◌∙◌, ◌++◌, [], List, ℕ, ap}
use Rattle.std.specs.Prelude.{codes, unwrap_or}
use Rattle.std.specs.String.{string_bytes}
use Rattle.pl_nbwrite.specs.BookmarkText.{dates, escaped, tags_text, title_text}
use Rattle.pl_base.proofs.ListLaws.{append_twice}
use Rattle.pl_nbwrite.proofs.lines.push_link.Goals as goal

pub returns : goal.returns
returns c =
    let node = c.args.node.now in
    let s0 : List ℕ = string_bytes c.args.file.now in
    let s1 : List ℕ = string_bytes c.push_str.new.self in
    let s2 : List ℕ = string_bytes c.push_url.new.file in
    let s3 : List ℕ = string_bytes c.push_str-2.new.self in
    let s4 : List ℕ = string_bytes c.push_dates.new.file in
    let s5 : List ℕ = string_bytes c.push_tags.new.file in
    let s6 : List ℕ = string_bytes c.push_str-3.new.self in
    let s7 : List ℕ = string_bytes c.push_title.new.file in
    let s8 : List ℕ = string_bytes c.push_str-4.new.self in
    let url : List ℕ = escaped (unwrap_or node.url []) in
    let to_url =
    append_twice s0 s1 s2 (codes "<DT><A HREF=\"") url c.in_ok-push_str.ensures.bytes c.in_ok-push_url.ensures in
    let to_quote = append_twice s0 s2 s3 _ (codes "\"") to_url c.in_ok-push_str-2.ensures.bytes in
    let to_dates = append_twice s0 s3 s4 _ (dates node.added node.modified) to_quote c.in_ok-push_dates.ensures in
    let tags = c.in_ok-push_tags.ensures ∙ ap (λ (x : List (List ℕ)). s4 ++ tags_text x) c.as_slice.ensures in
    let to_tags = append_twice s0 s4 s5 _ (tags_text node.tags) to_dates tags in
    let to_close = append_twice s0 s5 s6 _ (codes ">") to_tags c.in_ok-push_str-3.ensures.bytes in
    let title = c.in_ok-push_title.ensures ∙ ap (λ (x : List ℕ). s6 ++ title_text x) c.as_str.ensures in
    let to_title = append_twice s0 s6 s7 _ (title_text node.title) to_close title in
    append_twice s0 s7 s8 _ (codes "</A>") to_title c.in_ok-push_str-4.ensures.bytes
