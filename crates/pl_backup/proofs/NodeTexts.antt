-- The texts of nodes and roots, as they are put together, are those of their values.
use Rattle.std.proofs.Common.{◌≡◌, ◌∙◌, ◌++◌, ℕ, List, [], ◌∷◌, true, false, ap, append-nil, append_assoc}
use Rattle.std.proofs.Common.{refl, sym}
use Rattle.std.specs.Prelude.{codes, decimal, unwrap_or}
use Rattle.json.specs.Print.{escape, quoted}
use Rattle.pl_base.specs.declared.date.Micros.{Micros}
use Rattle.pl_base.specs.Tags.{comma_joined}
use Rattle.pl_nbread.specs.declared.tree.Node.{Node}
use Rattle.pl_backup.specs.BackupText.{bookmark, dates, folder, separator, tags, text, titled}
use Rattle.pl_backup.specs.Written.{bookmark_text, children_start, comma_before, dates_text, folder_end}
use Rattle.pl_backup.specs.Written.{separator_text, tags_text, titled_text}
use Rattle.serde_json.proofs.OnLiterals.{serde_json_on_literals}
use Rattle.serde_json.specs.Data.{Items, Members, no_members}
use Rattle.serde_json.specs.Written.{compact_text, items_text, members_text}

-- ---- tags

pub joined_step : (tag : List ℕ) (names : List (List ℕ))
    → comma_joined (tag ∷ names) ≡ tag ++ (comma_before names ++ comma_joined names)
joined_step tag [] = sym (append-nil tag)
joined_step tag (name ∷ names) = refl

-- ---- members

glue : (s k d l e r : List ℕ) → s ++ k ++ d ++ l ++ e ++ r ≡ s ++ (k ++ (d ++ (l ++ (e ++ r))))
glue s k d l e r = simp append_assoc

dates_are : (start : List ℕ) (added modified : Micros) (more : Members)
    → start ++ members_text false (dates added modified more) ≡ dates_text start added modified ++ members_text true more
unfolding serde_json_on_literals
dates_are start added modified more =
    sym
    (glue start (codes "\"dateAdded\":") (decimal added.0) (codes ",\"lastModified\":") (decimal modified.0)
    (members_text true more))

tags_are : (names : List (List ℕ)) (more : Members)
    → members_text true (tags names more) ≡ tags_text names ++ members_text true more
unfolding serde_json_on_literals
tags_are [] more = refl
tags_are (tag ∷ names) more = refl

titled_are : (title type : List ℕ) (code : ℕ) (more : Members) → escape type ≡ type
    → members_text true (titled title type code more) ≡ titled_text title type code ++ members_text true more
unfolding serde_json_on_literals
titled_are title type code more plain =
    let q : List ℕ = quoted title in
    let rest : List ℕ = codes ",\"typeCode\":" ++ (decimal code ++ members_text true more) in
    ap (λ (t : List ℕ). codes ",\"title\":" ++ (q ++ (codes ",\"type\":\"" ++ ((t ++ codes "\"") ++ rest)))) plain
    ∙ ap (λ (t : List ℕ). codes ",\"title\":" ++ (q ++ (codes ",\"type\":\"" ++ t))) (append_assoc type (codes "\"") rest)
    ∙ sym
    (glued (codes ",\"title\":") q (codes ",\"type\":\"") type (codes "\",\"typeCode\":") (decimal code)
    (members_text true more))
  where
    glued : (a q k t l c r : List ℕ) → a ++ q ++ k ++ t ++ l ++ c ++ r ≡ a ++ (q ++ (k ++ (t ++ (l ++ (c ++ r)))))
    glued a q k t l c r = simp append_assoc

-- ---- nodes

pub bookmark_is : (node : Node) → compact_text (bookmark node) ≡ bookmark_text node
unfolding serde_json_on_literals
bookmark_is node =
    let uri : Members = text (codes "uri") (unwrap_or node.url []) no_members in
    let kind : Members = titled node.title (codes "text/x-moz-place") 1 uri in
    let front : List ℕ = dates_text (codes "{") node.added node.modified in
    dates_are (codes "{") node.added node.modified (tags node.tags kind)
    ∙ ap (λ (x : List ℕ). front ++ x)
    (tags_are node.tags kind
    ∙ ap (λ (x : List ℕ). tags_text node.tags ++ x)
    (titled_are node.title (codes "text/x-moz-place") 1 uri refl))
    ∙ sym
    (regroup front (tags_text node.tags) (titled_text node.title (codes "text/x-moz-place") 1)
    (codes ",\"uri\":" ++ quoted (unwrap_or node.url [])) (codes "}"))
  where
    regroup : (f t k u e : List ℕ) → f ++ t ++ k ++ u ++ e ≡ f ++ (t ++ (k ++ (u ++ e)))
    regroup f t k u e = simp append_assoc

pub separator_is : (node : Node) → compact_text (separator node) ≡ separator_text node
unfolding serde_json_on_literals
separator_is node =
    let type : List ℕ = codes "text/x-moz-place-separator" in
    let front : List ℕ = dates_text (codes "{") node.added node.modified in
    dates_are (codes "{") node.added node.modified (titled node.title type 3 no_members)
    ∙ ap (λ (x : List ℕ). front ++ x) (titled_are node.title type 3 no_members refl)
    ∙ sym (append_assoc front (titled_text node.title type 3) (codes "}"))

pub folder_is : (node : Node) (children : Items)
    → compact_text (folder node children) ≡ children_start ++ (items_text false children ++ folder_end node)
unfolding serde_json_on_literals
folder_is node children =
    let type : List ℕ = codes "text/x-moz-place-container" in
    let front : List ℕ = dates_text (codes ",") node.added node.modified in
    ap (λ (x : List ℕ). children_start ++ (items_text false children ++ x))
    (dates_are (codes ",") node.added node.modified (titled node.title type 2 no_members)
    ∙ ap (λ (x : List ℕ). front ++ x) (titled_are node.title type 2 no_members refl)
    ∙ sym (append_assoc front (titled_text node.title type 2) (codes "}")))
