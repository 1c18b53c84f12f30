-- Worked rows of canonical texts.
use Rattle.std.proofs.Common.{◌≡◌, false, true, [], ◌∷◌, None, Some, pos, refl}
use Rattle.std.specs.Prelude.{codes, negsuc}
use Rattle.std.specs.Fmt.{digits}
use Rattle.percent_encoding.proofs.OnLiterals.{percent_encoding_on_literals}
use Rattle.pl_base.specs.declared.transition.Transition.TheVariants.{Link, Typed}
use Rattle.pl_base.specs.Store.{item_id}
use Rattle.pl_place.specs.declared.kinds.QueryType.TheVariants.{Bookmarks, History}
use Rattle.pl_place.specs.declared.kinds.ResultType.TheVariants.{Pages, Visits}
use Rattle.pl_place.specs.declared.kinds.TimeRef.TheVariants.{Epoch, Today}
use Rattle.pl_place.specs.declared.query.Query.{Query}
use Rattle.pl_place.specs.declared.sort.Direction.TheVariants.{Descending}
use Rattle.pl_place.specs.declared.sort.Sort.TheVariants.{By, Unsorted}
use Rattle.pl_place.specs.declared.sort.SortKey.TheVariants.{Date}
use Rattle.pl_place.specs.Canonical.{canonical}

-- the query that asks for nothing
plain : Query
plain =
    record {
      begin_time = None;
      begin_ref = Epoch;
      end_time = None;
      end_ref = Epoch;
      terms = None;
      min_visits = None;
      max_visits = None;
      only_bookmarked = false;
      domain_is_host = false;
      domain = None;
      uri = None;
      parents = [];
      tags = [];
      not_tags = false;
      transitions = [];
      sort = Unsorted;
      result_type = Pages;
      query_type = History;
      include_hidden = false;
      max_results = 0;
      exclude_queries = false;
      begin_form = refl;
      end_form = refl;
      terms_form = refl;
      min_form = refl;
      max_form = refl;
      host_form = refl;
      domain_form = refl;
      parents_form = refl;
      tags_form = refl;
      not_tags_form = refl;
      transitions_form = refl;
    }

nothing_asked : canonical plain ≡ codes "place:"
unfolding plain
nothing_asked = refl

-- times count from a reference, and a reference 0 is not written; each byte of a word that is no
-- letter or digit and none of `-_.~` is escaped
words_of_last_days : canonical (record plain {
  begin_time = Some (negsuc 4);
  begin_ref = Today;
  end_time = Some (pos 0);
  end_ref = Epoch;
  terms = Some (codes "a-b_c.d~e f&g=h");
  begin_form = refl;
  end_form = refl;
  terms_form = refl;
}) ≡ codes "place:beginTime=-5&beginTimeRef=1&endTime=0&terms=a-b_c.d~e%20f%26g%3Dh"
unfolding plain percent_encoding_on_literals digits
words_of_last_days = refl

-- folders and transitions have a pair each, in their order
of_folders : canonical (record plain {
  domain = Some (codes "example.org");
  domain_is_host = true;
  parents = item_id 3 ∷ item_id 2 ∷ [];
  transitions = Link ∷ Typed ∷ [];
  sort = By Date Descending;
  result_type = Visits;
  host_form = refl;
  domain_form = refl;
  parents_form = refl;
  transitions_form = refl;
}) ≡ codes "place:domainIsHost=1&domain=example.org&parent=3&parent=2&transition=1&transition=2&sort=4&type=1"
unfolding plain percent_encoding_on_literals digits
of_folders = refl

-- hidden pages, bookmarks and a limit
of_bookmarks : canonical (record plain {
  uri = Some (codes "https://a.example/");
  tags = codes "x y" ∷ [];
  not_tags = true;
  query_type = Bookmarks;
  include_hidden = true;
  max_results = 10;
  exclude_queries = true;
  tags_form = refl;
  not_tags_form = refl;
}) ≡ codes "place:uri=https%3A%2F%2Fa.example%2F&tag=x%20y&!tags=1&queryType=1&includeHidden=1&maxResults=10&excludeQueries=1"
unfolding plain percent_encoding_on_literals digits
of_bookmarks = refl
