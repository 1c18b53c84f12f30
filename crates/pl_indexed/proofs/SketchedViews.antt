-- The pages that may have the words of a query, by the sketches beside the entries by frecency.
use Rattle.std.proofs.Common.{◌≡◌, ◌∙◌, ◌≤◌, ◌<◌, ◌^◌, ◌++◌, ◌&&◌, ◌||◌, ◌==◌, ◌⊎◌, inl, inr, ℕ, ℤ, pos, negsuc}
use Rattle.std.proofs.Common.{Bool, true, false, List, [], ◌∷◌, IfSome, None, Option, Some, ap, arith, cond, filter}
use Rattle.std.proofs.Common.{if◌then◌else◌, int_lt, map, nat_lt, refl, reverse, subst, sym}
use Rattle.std.specs.HashSet.{HashSet}
use Rattle.std.specs.List.{list_all, sum_by}
use Rattle.std.specs.Ordering.{int_eq}
use Rattle.std.proofs.lemmas.Bool.{and_parts, false_from_ne_true, false≢true}
use Rattle.std.proofs.lemmas.Bool.Decides.{nat_tests}
use Rattle.std.proofs.lemmas.List.{append-nil, reverse-append}
use Rattle.std.proofs.lemmas.List.Sums.{get_or-le-sum_by}
use Rattle.pl_base.specs.declared.id.PageId.{PageId}
use Rattle.pl_base.specs.declared.view.View.{View}
use Rattle.pl_base.specs.Fold.{folded}
use Rattle.pl_base.specs.Sorting.{sorted_by}
use Rattle.pl_base.specs.Totals.{share}
use Rattle.pl_base.proofs.Among.{In, contains_from_in, from_found, in_filter, in_map, in_permutation}
use Rattle.pl_base.proofs.SortLaws.{sorted_moves}
use Rattle.pl_sketch.specs.declared.sketch.Sketch.{Sketch}
use Rattle.pl_sketch.specs.Pairs.{Covers, sketch_of}
use Rattle.pl_words.specs.Pieces.{occurs, searched}
use Rattle.pl_follow.specs.Changes.{FitStore}
use Rattle.pl_follow.specs.Order.{entries_of, entry_of, is_ahead, leads, sketch_of_texts}
use Rattle.pl_follow.specs.Texts.{folded_of, searched_title}
use Rattle.pl_follow.proofs.EntriesFollow.{Entry}
use Rattle.pl_sought.specs.Sought.{sketch_of_words}
use Rattle.pl_sought.proofs.SoughtWords.{all_covered, either, in_address, in_tags, in_title}
use Rattle.pl_known.specs.Known.{view_of}
use Rattle.pl_conditions.specs.Conditions.{words_asked}
use Rattle.pl_place.specs.declared.query.Query.{Query}
use Rattle.pl_query.specs.Decides.{are_tags_in, decides, has_word_in, holds_unfolded}
use Rattle.pl_indexed.specs.declared.asked.Asked.{Asked}
use Rattle.pl_indexed.specs.declared.found.Key.{Key}
use Rattle.pl_indexed.specs.Answer.{taken}
use Rattle.pl_indexed.specs.Asked.{IsAsked}
use Rattle.pl_indexed.specs.Found.{seen_of}
use Rattle.pl_indexed.specs.Sketched.{HaveCovered, HavePossible, has_page}

-- ---- the walk over the entries

-- an entry whose sketch covers that of the words is still to come, or its page is kept
abbrev pub Awaits : {S : Type 0} → List Entry → Sketch → List Entry → HashSet PageId S → Type 0
Awaits all words left pages =
    (e : Entry) → In e all → Covers e.1 words → In e left ⊎ (has_page pages e.0.1 ≡ true)

pub all_await : {S : Type 0} (all : List Entry) (words : Sketch) (pages : HashSet PageId S)
    → Awaits all words all pages
all_await all words pages = λ e is covers. inl is

pub next_kept : {S : Type 0} (all : List Entry) (words : Sketch) (old new : List Entry) (entry : Entry)
    (before after : HashSet PageId S) → old ≡ new ++ entry ∷ []
    → (Covers entry.1 words → has_page after entry.0.1 ≡ true)
    → ((other : PageId) → has_page before other ≡ true → has_page after other ≡ true)
    → Awaits all words (reverse old) before → Awaits all words (reverse new) after
next_kept all words old new entry before after is here others awaits =
    λ e within covers. go_on e covers (awaits e within covers)
  where
    turned : reverse old ≡ entry ∷ reverse new
    turned = ap reverse is ∙ reverse-append new (entry ∷ [])

    first : (e : Entry) → Covers e.1 words → (e ≡ entry) ⊎ In e (reverse new)
        → In e (reverse new) ⊎ (has_page after e.0.1 ≡ true)
    first e covers (inl same) =
        inr (subst (λ (f : Entry). Covers f.1 words → has_page after f.0.1 ≡ true) (sym same) here covers)
    first e covers (inr later) = inl later

    go_on : (e : Entry) → Covers e.1 words → In e (reverse old) ⊎ (has_page before e.0.1 ≡ true)
        → In e (reverse new) ⊎ (has_page after e.0.1 ≡ true)
    go_on e covers (inl left) = first e covers (subst (In e) turned left)
    go_on e covers (inr kept) = inr (others e.0.1 kept)

-- a page that is kept stays where another joins
pub still_kept : {S : Type 0} (page other : PageId) (before after : HashSet PageId S)
    → has_page after other ≡ cond (page.0 == other.0) true (has_page before other)
    → has_page before other ≡ true → has_page after other ≡ true
still_kept page other before after is kept = is ∙ choose (page.0 == other.0)
  where
    choose : (b : Bool) → cond b true (has_page before other) ≡ true
    choose true = refl
    choose false = kept

none_awaited : {S : Type 0} (all : List Entry) (words : Sketch) (pages : HashSet PageId S)
    → Awaits all words [] pages → (e : Entry) → In e all → Covers e.1 words → has_page pages e.0.1 ≡ true
none_awaited all words pages awaits e within covers = choose (awaits e within covers)
  where
    choose : ⊥ ⊎ (has_page pages e.0.1 ≡ true) → has_page pages e.0.1 ≡ true
    choose (inl none) = absurd none
    choose (inr kept) = kept

-- ---- each view has an entry

module _ (views : List View) (fit : FitStore views) (place : ℤ × PageId) (most : ℕ) (at : place.0 ≡ pos most)
    (great : 2 ^ 36 ≤ most) where
  share_small : (view : View) → In view views → share view.frecency < 2 ^ 36
  share_small view within =
      let has = contains_from_in views view within in
      let least : share view.frecency ≤ sum_by (λ (v : View). share v.frecency) views =
      subst (λ (v : View). share v.frecency ≤ sum_by (λ (w : View). share w.frecency) views) has.2
      (get_or-le-sum_by (λ (v : View). share v.frecency) views has.0 view has.1) in
      let few : sum_by (λ (v : View). share v.frecency) views < 2 ^ 36 = fit.sum in
      omega (arith, least, few)

  below : (frecency : ℤ) → share frecency < 2 ^ 36 → int_lt frecency (pos most) ≡ true
  below (pos n) small = grind (arith, nat_tests)
  below (negsuc n) small = refl

  comes_behind : (view : View) → In view views → is_ahead place (entry_of view).0 ≡ true
  comes_behind view within =
      ap (λ (b : Bool). b || (int_eq place.0 view.frecency && nat_lt view.id.0 place.1.0))
      (ap (int_lt view.frecency) at ∙ below view.frecency (share_small view within))

  -- the entry of each view is among those that are gone through
  has_entry : (view : View) → In view views → (entries : List Entry)
      → entries ≡ filter (λ (e : Entry). is_ahead place e.0) (sorted_by leads (entries_of views))
      → In (entry_of view) entries
  has_entry view within entries is =
      subst (In (entry_of view)) (sym is)
      (in_filter (λ (e : Entry). is_ahead place e.0) (sorted_by leads (entries_of views)) (entry_of view)
      (in_permutation (entries_of views) (sorted_by leads (entries_of views)) (entry_of view)
      (sorted_moves leads (entries_of views)) (in_map entry_of views view within))
      (comes_behind view within))

  -- where none is to come, the pages whose sketches cover that of the words are kept
  pub all_kept : {S : Type 0} (words : Sketch) (pages : HashSet PageId S) (all left : List Entry)
      → all ≡ filter (λ (e : Entry). is_ahead place e.0) (sorted_by leads (entries_of views)) → left ≡ []
      → Awaits all words (reverse left) pages → HaveCovered views words pages
  all_kept words pages all left is none awaits =
      λ view known covers.
      none_awaited all words pages (subst (λ (ls : List Entry). Awaits all words (reverse ls) pages) none awaits)
      (entry_of view)
      (has_entry view (from_found (λ (v : View). v.id.0 == view.id.0) views view known).0 all is) covers

-- ---- the pages that a query may take

-- a word that a page has, whose own title is searched
has_covered : (view : View) → searched_title view ≡ view.title → (word : List ℕ) → has_word_in view word ≡ true
    → Covers (sketch_of_texts (folded_of view)) (sketch_of word)
has_covered view own word is =
    either (occurs word (folded view.title) || occurs word (searched view.url view.prefix))
    (occurs word (folded view.tags)) is
    (λ some.
    either (occurs word (folded view.title)) (occurs word (searched view.url view.prefix)) some
    (λ stands. in_title (folded_of view) word
    (subst (λ (title : List ℕ). occurs word (folded title) ≡ true) (sym own) stands))
    (in_address (folded_of view) word))
    (in_tags (folded_of view) word)

are_possible : {S : Type 0} (q : Query) (asked : Asked) (views : List View) (words : Sketch)
    (pages : HashSet PageId S) → IsAsked q asked → words ≡ sketch_of_words asked.words.items
    → HaveCovered views words pages → HavePossible q views pages
are_possible q asked views words pages made is covered =
    λ view known own takes.
    let all : list_all (has_word_in view) (words_asked q.terms) ≡ true =
    (and_parts (holds_unfolded q view && are_tags_in q.tags q.not_tags view.tags)
    (list_all (has_word_in view) (words_asked q.terms)) takes).1 in
    covered view known
    (subst (Covers (sketch_of_texts (folded_of view))) (sym (is ∙ ap sketch_of_words made.words))
    (all_covered (folded_of view) (has_word_in view) (has_covered view own) (words_asked q.terms) all))

pub some_possible : {S : Type 0} (q : Query) (asked : Asked) (views : List View) (words : Sketch)
    (pages : Option (HashSet PageId S)) → IsAsked q asked → words ≡ sketch_of_words asked.words.items
    → IfSome pages (HaveCovered views words) → IfSome pages (HavePossible q views)
some_possible q asked views words None made is covered = tt
some_possible q asked views words (Some pages) made is covered =
    are_possible q asked views words pages made is covered

-- a view that has its own title, and whose page is not kept
pub not_possible : {S : Type 0} (q : Query) (views : List View) (pages : HashSet PageId S) (view : View)
    → HavePossible q views pages → view_of view.id views ≡ Some view → has_page pages view.id ≡ false
    → searched_title view ≡ view.title → decides q view ≡ false
not_possible q views pages view possible known lacks own =
    false_from_ne_true (decides q view) (λ takes. false≢true (sym lacks ∙ possible view known own takes))

-- a view that the query does not take joins no others
pub none_joins : (q : Query) (view : View) (seen_before : List (View × Key)) → decides q view ≡ false
    → seen_before ≡ seen_before ++ map (seen_of q.sort) (taken q (view ∷ []))
none_joins q view seen_before not =
    sym (append-nil seen_before)
    ∙ ap (λ (b : Bool). seen_before ++ map (seen_of q.sort) (if b then view ∷ [] else [])) (sym not)
