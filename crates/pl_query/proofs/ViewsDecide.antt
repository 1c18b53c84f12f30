-- A watchable query takes the view of a page where the page is in its answer.
use Rattle.std.proofs.Common.{◌≡◌, ◌∙◌, ◌==◌, ◌&&◌, ◌||◌, not, ℕ, Bool, true, false, List, [], ◌∷◌}
use Rattle.std.proofs.Common.{None, Option, Some, Ok, Err, ap, filter, if◌then◌else◌, is_some}
use Rattle.std.proofs.Common.{length, nat_eq, nat_le, refl, sym, unwrap_or}
use Rattle.std.specs.List.{Contains, list_all, list_any, starts_with}
use Rattle.std.specs.Option.{is_none}
use Rattle.std.proofs.lemmas.Bool.{and_parts}
use Rattle.std.proofs.lemmas.List.Elements.{All-contains}
use Rattle.std.proofs.lemmas.Slice.Eq.{bytes_eq-Decides}
use Rattle.url.specs.Parser.{Parsed}
use Rattle.url.specs.Parts.{Parts, serialize}
use Rattle.pl_base.specs.declared.date.Micros.{Micros}
use Rattle.pl_base.specs.declared.id.PageId.{PageId}
use Rattle.pl_base.specs.declared.view.View.{View}
use Rattle.pl_base.specs.Address.{host_and_port, is_place_url, origin_of_record, origin_of_url}
use Rattle.pl_base.specs.Address.{prefix, record_of, canon, is_text, longest_url, serialized}
use Rattle.pl_base.specs.Good.{HasTags, IsGood, IsGoodPage}
use Rattle.pl_base.specs.Marks.{is_hidden, last_date_of, visit_count}
use Rattle.pl_base.specs.Store.{Page, Store, Visit}
use Rattle.pl_base.specs.Tags.{is_bookmarked, tag_text}
use Rattle.pl_base.specs.View.{IsViewOf}
use Rattle.pl_base.specs.Visits.{latest_first, visits_of}
use Rattle.pl_base.proofs.ListLaws.{list_all-alike, list_any-alike}
use Rattle.pl_base.proofs.OriginLaws.{store_url-from_canon}
use Rattle.pl_base.proofs.Truths.{no_length, none_there, same_tests}
use Rattle.pl_base.proofs.VisitLists.{any-latest_first}
use Rattle.pl_place.specs.declared.query.Query.{Query}
use Rattle.pl_place.specs.PlaceText.{place_prefix}
use Rattle.pl_conditions.specs.Conditions.{has_tag_named, has_tags_asked, has_word, history_holds}
use Rattle.pl_conditions.specs.Conditions.{in_times, is_at_least, is_at_most, is_in_domain, is_uri}
use Rattle.pl_conditions.specs.Conditions.{page_holds, words_asked}
use Rattle.pl_query.specs.Decides.{are_tags_in, asks_for_pages, decides, has_word_in, host_alone}
use Rattle.pl_query.specs.Decides.{is_by_mark_date, is_host_asked, is_tag_in, is_watchable}
use Rattle.pl_query.specs.QueryAnswer.{has_visit_in_times}
use Rattle.pl_query.proofs.TagsTold.{tag_told}
use Rattle.pl_query.proofs.UrlRecords.{place_told, record_read}

-- ---- visits

-- as `last_date_of` has it
abbrev first_date : List Visit → Option Micros
first_date [] = None
first_date (v ∷ vs) = Some v.date

some_first : (vs : List Visit) → is_some (first_date vs) ≡ list_any (λ _. true) vs
some_first [] = refl
some_first (v ∷ vs) = refl

any_where : (test : Visit → Bool) (vs : List Visit)
    → list_any (λ _. true) (filter test vs) ≡ list_any test vs
any_where test [] = refl
any_where test (v ∷ vs) = choose (test v) (any_where test vs)
  where
    choose : (b : Bool) → list_any (λ _. true) (filter test vs) ≡ list_any test vs
        → list_any (λ _. true) (if b then v ∷ filter test vs else filter test vs)
        ≡ (b || list_any test vs)
    choose true rest = refl
    choose false rest = rest

visited : (store : Store) (page : PageId)
    → is_some (last_date_of store page) ≡ list_any (λ (v : Visit). v.page.0 == page.0) store.visits
visited store page =
    some_first (latest_first (visits_of store page))
    ∙ any-latest_first (λ _. true) (visits_of store page)
    ∙ any_where (λ (v : Visit). v.page.0 == page.0) store.visits

-- the latest date is there where the page has a visit, as no times are asked for
pub last_told : (store : Store) (q : Query) (page : PageId) → q.begin_time ≡ None
    → q.end_time ≡ None
    → is_some (last_date_of store page) ≡ has_visit_in_times store q page
last_told store q page begin end =
    visited store page
    ∙ list_any-alike (λ (v : Visit). v.page.0 == page.0)
    (λ (v : Visit). (v.page.0 == page.0) && in_times store q v.date) store.visits (λ v. within v)
  where
    anded : (b : Bool) → b ≡ (b && true)
    anded true = refl
    anded false = refl

    within : (v : Visit) → (v.page.0 == page.0) ≡ ((v.page.0 == page.0) && in_times store q v.date)
    within v = rw (begin, end) (anded (v.page.0 == page.0))

-- ---- URLs

-- the record of a URL with this prefix and this host with its port
record HasRecord (url start host : List ℕ) : Type 0 where
  found : Parts
  is : record_of url ≡ Ok found
  prefix_is : prefix found ≡ start
  host_is : host_and_port found ≡ host

record_told : (url start host : List ℕ) → origin_of_url url ≡ Some (start, host)
    → HasRecord url start host
record_told url start host origin = choose (record_of url) refl origin
  where
    choose : (r : Parsed Parts) → record_of url ≡ r → origin_of_record r ≡ Some (start, host)
        → HasRecord url start host
    choose (Ok found) is same =
        record {
          found = found;
          is = is;
          prefix_is = ap (λ (o : Option (List ℕ × List ℕ)). (unwrap_or o ([], [])).0) same;
          host_is = ap (λ (o : Option (List ℕ × List ℕ)). (unwrap_or o ([], [])).1) same;
        }
    choose (Err e) is none = absurd (cc)

-- a word stands in the view where it stands in the texts of the page
pub word_told : (store : Store) (p : Page) (v : View) → IsViewOf store p v → (word : List ℕ)
    → has_word_in v word ≡ has_word store p word
word_told store p v is word =
    let r = record_told p.url v.prefix v.host is.origin in
    rw (is.title, is.url, is.tags, r.is, r.prefix_is) refl

-- the host of the view lies in the domain where the record's does
pub host_told : (store : Store) (p : Page) (v : View) → IsViewOf store p v
    → (domain : Option (List ℕ)) (is_host : Bool)
    → is_host_asked domain is_host v.host ≡ is_in_domain domain is_host p.url
host_told store p v is None is_host = refl
host_told store p v is (Some domain) is_host =
    let r = record_told p.url v.prefix v.host is.origin in
    let alone = ap host_alone (sym r.host_is) ∙ (record_read p.url r.found r.is).host in
    rw (r.is, alone) refl

own_text : (url : List ℕ) (found : Parts) → canon url ≡ Some url → record_of url ≡ Ok found
    → serialize found ≡ url
own_text url found own is =
    let text : is_text url (serialized (record_of url)) ≡ true =
    (and_parts _ (nat_le (length url) longest_url) (store_url-from_canon url url own)).0 in
    (bytes_eq-Decides (serialize found) url).0
    (ap (λ r. is_text url (serialized r)) (sym is) ∙ text)

-- the URL of the view begins as that of a query where the page holds one
pub kind_told : (store : Store) (p : Page) (v : View) → IsViewOf store p v
    → canon p.url ≡ Some p.url
    → starts_with nat_eq v.url place_prefix ≡ is_place_url p.url
kind_told store p v is own =
    let r = record_told p.url v.prefix v.host is.origin in
    let told = place_told p.url r.found r.is (own_text p.url r.found own r.is) in
    rw (is.url, r.is) (sym told)

-- ---- tags

-- the tags are in the text of the view where the page has them
pub tags_told : (store : Store) (p : Page) (v : View) → IsViewOf store p v → HasTags store
    → (tags : List (List ℕ)) (not_tags : Bool)
    → are_tags_in tags not_tags v.tags ≡ has_tags_asked store tags not_tags p.id
tags_told store p v is good tags false =
    rw is.tags
    (list_all-alike (is_tag_in (tag_text store p.id)) (has_tag_named store p.id) tags
    (tag_told store p.id good))
tags_told store p v is good tags true =
    rw is.tags
    (list_all-alike (λ name. not (is_tag_in (tag_text store p.id) name))
    (λ name. not (has_tag_named store p.id name))
    tags (λ name. ap not (tag_told store p.id good name)))

-- ---- the whole

-- what is asked of a watchable query
record AsksViews (q : Query) : Type 0 where
  begin : q.begin_time ≡ None
  end : q.end_time ≡ None
  transitions : q.transitions ≡ []
  parents : q.parents ≡ []

asks_views : (q : Query) → is_watchable q ≡ true → AsksViews q
asks_views q watchable =
    let sort = and_parts _ (not (is_by_mark_date q.sort)) watchable in
    let parents = and_parts _ (length q.parents == 0) sort.0 in
    let transitions = and_parts _ (length q.transitions == 0) parents.0 in
    let end = and_parts _ (is_none q.end_time) transitions.0 in
    let pages : Bool = asks_for_pages q.query_type q.result_type in
    let begin = and_parts pages (is_none q.begin_time) end.0 in
    record {
      begin = none_there q.begin_time begin.1;
      end = none_there q.end_time end.1;
      transitions = no_length q.transitions transitions.1;
      parents = no_length q.parents parents.1;
    }

-- the conditions in both orders
regrouped : (last least most marked listed uri host kind tags words : Bool)
    → (((last && (least && most) && marked && listed) && (uri && host && kind)) && tags && words)
    ≡ (last
    && ((words && least && most && marked && host && uri && tags && kind) && true && true
    && listed))
regrouped last least most marked listed uri host kind tags words =
    same_tests
    (((last && (least && most) && marked && listed) && (uri && host && kind)) && tags && words)
    (last
    && ((words && least && most && marked && host && uri && tags && kind) && true && true
    && listed))
    (λ all.
    let i = and_parts _ words all in
    let h = and_parts _ tags i.0 in
    let unfolded =
    and_parts (last && (least && most) && marked && listed) (uri && host && kind) h.0 in
    let g = and_parts _ listed unfolded.0 in
    let f = and_parts _ marked g.0 in
    let e = and_parts last (least && most) f.0 in
    let d = and_parts least most e.1 in
    let c = and_parts _ kind unfolded.1 in
    let b = and_parts uri host c.0 in
    rw (e.0, i.1, d.0, d.1, f.1, b.1, b.0, h.1, c.1, g.1) refl)
    (λ all.
    let a = and_parts last _ all in
    let b = and_parts _ listed a.1 in
    let c = and_parts _ true b.0 in
    let d = and_parts _ true c.0 in
    let e = and_parts _ kind d.0 in
    let f = and_parts _ tags e.0 in
    let g = and_parts _ uri f.0 in
    let h = and_parts _ host g.0 in
    let i = and_parts _ marked h.0 in
    let j = and_parts _ most i.0 in
    let k = and_parts words least j.0 in
    rw (a.0, k.1, j.1, i.1, b.1, g.1, h.1, e.1, f.1, k.0) refl)

-- the conditions on a page whose visits, transitions and folders are not asked for
holds_alone : (store : Store) (q : Query) (p : Page) → AsksViews q
    → history_holds store q p
    ≡ (page_holds store q p && true && true && (q.include_hidden || not (is_hidden store p)))
holds_alone store q p asks = rw (asks.transitions, asks.parents) refl

-- so a watchable query takes the view of a page where the page passes the filter of its answer
pub decided_by : (store : Store) (q : Query) (p : Page) (v : View) → HasTags store
    → canon p.url ≡ Some p.url
    → is_watchable q ≡ true → IsViewOf store p v
    → decides q v ≡ (has_visit_in_times store q p.id && history_holds store q p)
decided_by store q p v good own watchable is =
    let asks = asks_views q watchable in
    let last = ap is_some is.last ∙ last_told store q p.id asks.begin asks.end in
    let host = host_told store p v is q.domain q.domain_is_host in
    let kind = kind_told store p v is own in
    let tags = tags_told store p v is good q.tags q.not_tags in
    let words = list_all-alike (has_word_in v) (has_word store p) (words_asked q.terms)
    (word_told store p v is) in
    rw (last, is.count, is.bookmarked, is.hidden, ap (is_uri q.uri) is.url, host, kind, tags, words)
    (regrouped (has_visit_in_times store q p.id) (is_at_least q.min_visits (visit_count store p.id))
    (is_at_most q.max_visits (visit_count store p.id))
    (not q.only_bookmarked || is_bookmarked store p.id)
    (q.include_hidden || not (is_hidden store p)) (is_uri q.uri p.url)
    (is_in_domain q.domain q.domain_is_host p.url)
    (not q.exclude_queries || not (is_place_url p.url))
    (has_tags_asked store q.tags q.not_tags p.id)
    (list_all (has_word store p) (words_asked q.terms))
    ∙ ap (λ (b : Bool). has_visit_in_times store q p.id && b) (sym (holds_alone store q p asks)))

-- the same of the pages of a good store
pub decided : (store : Store) (q : Query) (p : Page) (v : View) → IsGood store
    → Contains store.pages p
    → is_watchable q ≡ true → IsViewOf store p v
    → decides q v ≡ (has_visit_in_times store q p.id && history_holds store q p)
decided store q p v good among watchable is =
    decided_by store q p v good.tags
    (All-contains (IsGoodPage store) store.pages p good.pages among).url watchable is
