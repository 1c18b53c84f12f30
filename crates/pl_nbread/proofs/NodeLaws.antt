-- What holds of a node that is formed, of the nodes behind it, and of a URL that names itself.
use Rattle.std.proofs.Common.{◌≡◌, ℕ, true, not, List, [], ◌∷◌, Option, Some, None, refl}
use Rattle.std.specs.Prelude.{if◌then◌else◌, is_some, unwrap_or}
use Rattle.std.specs.List.{list_all}
use Rattle.std.specs.Str.{IsUtf8}
use Rattle.std.proofs.lemmas.Bool.{and_parts}
use Rattle.std.proofs.lemmas.Str.{IsUtf8-from_is_utf8, IsUtf8-nil}
use Rattle.pl_words.specs.TagLists.{each_once, is_same_tag}
use Rattle.pl_words.specs.TagName.{is_tag_name}
use Rattle.pl_nbread.specs.declared.tree.Node.{Node}
use Rattle.pl_nbread.specs.Listed.{IsOwn}
use Rattle.pl_nbread.specs.WellFormed.{goes_on, is_bookmark, is_date, is_formed}

-- what is told of a node that is formed
pub record IsFormed (node : Node) : Type 0 where
  pub linked : (if is_bookmark node.kind then is_some node.url else not (is_some node.url)) ≡ true
  pub added : is_date node.added ≡ true
  pub modified : is_date node.modified ≡ true
  pub named : list_all is_tag_name node.tags ≡ true
  pub once : each_once is_same_tag node.tags ≡ true

pub formed : (node : Node) → is_formed node ≡ true → IsFormed node
formed node is =
    let a = and_parts _ _ is in
    let b = and_parts _ _ a.0 in
    let c = and_parts _ _ b.0 in
    let d = and_parts _ _ c.0 in
    record { linked = d.0; added = d.1; modified = c.1; named = b.1; once = a.1 }

pub goes_later : (node : Node) (nodes : List Node) → goes_on (node ∷ nodes) ≡ true → goes_on nodes ≡ true
goes_later node [] goes = refl
goes_later node (next ∷ nodes) goes = (and_parts _ _ goes).1

pub url_text : (url : Option (List ℕ)) → IsOwn url → IsUtf8 (unwrap_or url [])
url_text None own = IsUtf8-nil
url_text (Some text) own = IsUtf8-from_is_utf8 text own.0
