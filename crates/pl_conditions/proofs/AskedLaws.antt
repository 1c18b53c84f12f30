-- Conditions that are asked one after another.
use Rattle.std.proofs.Common.{◌≡◌, ◌∙◌, ◌&&◌, ◌||◌, not, ℕ, Bool, true, false, List, [], ◌∷◌, ap}
use Rattle.std.proofs.Common.{Ok, Err, map, refl, sym}
use Rattle.std.specs.List.{list_all, list_any}
use Rattle.std.specs.Result.{IsOkAnd}
use Rattle.url.specs.Parser.{Parsed}
use Rattle.url.specs.Parts.{Parts}
use Rattle.std.proofs.lemmas.Bool.{and_left, and_right}
use Rattle.std.proofs.lemmas.List.Folds.{list_all-map}
use Rattle.pl_base.specs.declared.id.PageId.{PageId}
use Rattle.pl_base.specs.Address as address
use Rattle.pl_base.specs.Address.{record_of}
use Rattle.pl_base.specs.Address.{is_place_url}
use Rattle.pl_base.specs.Fold.{folded}
use Rattle.pl_base.specs.Marks.{is_hidden, visit_count}
use Rattle.pl_base.specs.Store.{Page, Store}
use Rattle.pl_base.specs.Tags.{is_bookmarked}
use Rattle.pl_base.proofs.ListLaws.{list_all-alike}
use Rattle.pl_words.specs.Pieces.{in_address, occurs, searched}
use Rattle.pl_place.specs.declared.query.Query.{Query}
use Rattle.pl_conditions.specs.declared.conditions.words.PageTexts.{PageTexts}
use Rattle.pl_conditions.specs.AskedParts.{AreTextsOf, are_among, is_among, is_count_asked, is_in_texts, is_url_asked}
use Rattle.pl_conditions.specs.Conditions.{has_tags_asked, has_word, is_at_least, is_at_most, is_in_domain, is_uri}
use Rattle.pl_conditions.specs.Conditions.{has_mark_in, has_tag_named, has_transitions, history_holds}
use Rattle.pl_conditions.specs.Conditions.{page_holds, words_asked}

-- a word stands in a URL as it is searched
pub in_searched : (url prefix text : List ℕ) → IsOkAnd (record_of url) (λ found. prefix ≡ address.prefix found)
    → text ≡ searched url prefix → (word : List ℕ) → occurs word text ≡ in_address false word url
in_searched url prefix text has is word = choose (record_of url) refl has
  where
    choose : (r : Parsed Parts) → record_of url ≡ r → IsOkAnd r (λ found. prefix ≡ address.prefix found)
        → occurs word text ≡ in_address false word url
    choose (Ok found) parsed same =
        rw parsed (ap (occurs word) (is ∙ ap (searched url) same))
    choose (Err e) parsed none = absurd none

-- a word stands in the texts of the page
pub word_in_texts : (store : Store) (p : Page) (texts : PageTexts) → AreTextsOf store p texts → (word : List ℕ)
    → is_in_texts texts word ≡ has_word store p word
word_in_texts store p texts are word = rw (are.title, are.address word, are.tags) refl

-- ---- the conditions on a page, in the order in which they are asked

in_order : (words least most marked within uri tags kind : Bool)
    → (words && least && most && marked && within && uri && tags && kind)
    ≡ (least && most && marked && tags && (uri && (within && kind) && words))
in_order false least most marked within uri tags kind =
    sym (and_right (least && most && marked && tags) (uri && (within && kind) && false)
    (and_right (uri && (within && kind)) false refl))
in_order true false most marked within uri tags kind = refl
in_order true true false marked within uri tags kind = refl
in_order true true true false within uri tags kind = refl
in_order true true true true false uri tags kind =
    sym (and_right tags (uri && false && true) (and_left (uri && false) true (and_right uri false refl)))
in_order true true true true true false tags kind = sym (and_right tags false refl)
in_order true true true true true true false kind = refl
in_order true true true true true true true false = refl
in_order true true true true true true true true = refl

-- by the conditions as they are found
pub page_by : (store : Store) (q : Query) (p : Page) (id : PageId) → p.id ≡ id → {count marked tags texts : Bool}
    → count ≡ is_count_asked q (visit_count store id) → marked ≡ (not q.only_bookmarked || is_bookmarked store id)
    → tags ≡ has_tags_asked store q.tags q.not_tags id
    → texts ≡ (is_uri q.uri p.url && is_url_asked q p.url && list_all (has_word store p) (words_asked q.terms))
    → (count && marked && tags && texts) ≡ page_holds store q p
page_by store q p id same counts marks tagged has =
    rw (counts, marks, tagged, has, ← same)
    (sym (in_order (list_all (has_word store p) (words_asked q.terms))
    (is_at_least q.min_visits (visit_count store p.id)) (is_at_most q.max_visits (visit_count store p.id))
    (not q.only_bookmarked || is_bookmarked store p.id) (is_in_domain q.domain q.domain_is_host p.url)
    (is_uri q.uri p.url) (has_tags_asked store q.tags q.not_tags p.id)
    (not q.exclude_queries || not (is_place_url p.url))))

turned : (holds transitions mark listed : Bool)
    → (holds && transitions && mark && listed) ≡ (listed && transitions && mark && holds)
turned holds transitions mark false =
    and_right (holds && transitions && mark) false refl
turned holds false mark true =
    and_left (holds && false && mark) true (and_left (holds && false) mark (and_right holds false refl))
turned holds true false true = and_left (holds && true && false) true (and_right (holds && true) false refl)
turned true true true true = refl
turned false true true true = refl

-- the conditions of a query of history, as they are found
pub history_by : (store : Store) (q : Query) (p : Page) (id : PageId) → p.id ≡ id
    → {listed transitions mark holds : Bool} → listed ≡ (q.include_hidden || not (is_hidden store p))
    → transitions ≡ has_transitions store q.transitions id → mark ≡ has_mark_in store q.parents id
    → holds ≡ page_holds store q p → (listed && transitions && mark && holds) ≡ history_holds store q p
history_by store q p id same lists visited marks held =
    rw (lists, visited, marks, held, ← same)
    (sym (turned (page_holds store q p) (has_transitions store q.transitions p.id) (has_mark_in store q.parents p.id)
    (q.include_hidden || not (is_hidden store p))))

-- ---- tags by their folds

-- no fold of the names passes where none of the names does
pub none_among : (p q : List ℕ → Bool) (names : List (List ℕ)) → ((name : List ℕ) → p (folded name) ≡ q name)
    → not (list_any p (map folded names)) ≡ list_all (λ name. not (q name)) names
none_among p q [] alike = refl
none_among p q (name ∷ names) alike = choose (p (folded name)) (q name) (alike name) (none_among p q names alike)
  where
    choose : (a b : Bool) → a ≡ b → not (list_any p (map folded names)) ≡ list_all (λ n. not (q n)) names
        → not (a || list_any p (map folded names)) ≡ (not b && list_all (λ n. not (q n)) names)
    choose true true same rest = refl
    choose true false same rest = absurd (cc)
    choose false true same rest = absurd (cc)
    choose false false same rest = rest

pub tags_among : (store : Store) (page : PageId) (folds names : List (List ℕ)) (not_tags : Bool)
    → ((name : List ℕ) → is_among folds (folded name) ≡ has_tag_named store page name)
    → are_among folds (map folded names) not_tags ≡ has_tags_asked store names not_tags page
tags_among store page folds names false alike =
    list_all-map (is_among folds) folded names
    ∙ list_all-alike (λ name. is_among folds (folded name)) (has_tag_named store page) names alike
tags_among store page folds names true alike =
    none_among (is_among folds) (has_tag_named store page) names alike
