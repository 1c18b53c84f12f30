-- The conditions on a page, in the parts in which they are asked.
use Rattle.std.specs.Prelude.{◌≡◌, ◌==◌, ◌&&◌, ◌||◌, ◌++◌, ◌∷◌, [], not, Bool, true, false, ℕ, List}
use Rattle.std.specs.Prelude.{Option, Some, None, bytes_eq, is_some, length}
use Rattle.std.specs.List.{list_all, list_any}
use Rattle.pl_base.specs.declared.id.ItemId.{ItemId}
use Rattle.pl_base.specs.declared.id.PageId.{PageId}
use Rattle.pl_base.specs.declared.transition.Transition.{Transition}
use Rattle.pl_base.specs.Address.{is_place_url}
use Rattle.pl_base.specs.Fold.{folded}
use Rattle.pl_base.specs.Store.{Store, Page, Visit, Item}
use Rattle.pl_base.specs.Tags.{is_tag_entry, tag_text}
use Rattle.pl_base.specs.Transition.{transition_number}
use Rattle.pl_words.specs.Pieces.{in_address, occurs}
use Rattle.pl_place.specs.declared.query.Query.{Query}
use Rattle.pl_conditions.specs.declared.asked.Asked.{Asked}
use Rattle.pl_conditions.specs.declared.conditions.words.PageTexts.{PageTexts}
use Rattle.pl_conditions.specs.Conditions.{is_at_least, is_at_most, is_in_domain}
use Rattle.pl_conditions.specs.Conditions.{is_in_parents}

-- the `visit_count` lies within the bounds
abbrev pub is_count_asked : Query → ℕ → Bool
is_count_asked q count = is_at_least q.min_visits count && is_at_most q.max_visits count

-- what is asked of the parts of the page's address holds
abbrev pub is_url_asked : Query → List ℕ → Bool
is_url_asked q url =
    is_in_domain q.domain q.domain_is_host url && (not q.exclude_queries || not (is_place_url url))

-- something is asked of the page's address, or of its texts
abbrev pub asks_for_texts : Asked → Bool
asks_for_texts asked =
    asked.query.now.exclude_queries || is_some asked.query.now.domain
    || is_some asked.query.now.uri || not (length asked.words.items == 0)

-- a visit of the page has this transition
abbrev pub has_visit_by : Store → PageId → Transition → Bool
has_visit_by store page t =
    list_any (λ (v : Visit). (v.page.0 == page.0)
    && (transition_number v.transition == transition_number t)) store.visits

-- the folds of tags, with that of one more, if any
abbrev pub with_fold : Option (List ℕ) → List (List ℕ) → List (List ℕ)
with_fold None folds = folds
with_fold (Some title) folds = folds ++ folded title ∷ []

-- the fold of a tag is one of these
abbrev pub is_among : List (List ℕ) → List ℕ → Bool
is_among folds tag = list_any (λ fold. bytes_eq fold tag) folds

-- all these folds of tags are among those of the page, or none where that is asked
abbrev pub are_among : List (List ℕ) → List (List ℕ) → Bool → Bool
are_among folds tags false = list_all (is_among folds) tags
are_among folds tags true = not (list_any (is_among folds) tags)

-- the item is a bookmark, and in one of the folders, if any are asked for
abbrev pub is_mark_in : Store → List ItemId → Item → Bool
is_mark_in store parents i = not (is_tag_entry store i.id) && is_in_parents store parents i

-- the word stands in one of the texts
abbrev pub is_in_texts : PageTexts → List ℕ → Bool
is_in_texts texts word =
    occurs word texts.title || occurs word texts.address || occurs word texts.tags

-- the texts are those of the page in which words are looked for
pub record AreTextsOf (store : Store) (p : Page) (texts : PageTexts) : Type 0 where
  pub title : texts.title ≡ folded p.title
  pub address : (word : List ℕ) → occurs word texts.address ≡ in_address false word p.url
  pub tags : texts.tags ≡ folded (tag_text store p.id)
