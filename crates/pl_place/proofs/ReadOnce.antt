-- The query that a text reads as is the one that the function gives.
use Rattle.std.proofs.Common.{◌≡◌, ◌∙◌, ap, refl, ℕ, List, None, Ok}
use Rattle.pl_place.specs.declared.query.Query.{Query}
use Rattle.pl_place.specs.PlaceText.{Reads, pieces_of, refused_piece}
use Rattle.pl_place.specs.ReadQuery.{query_of, query_unless, read_as}
use Rattle.pl_place.proofs.OneQuery.{reads_alone}

given : (text : List ℕ) → refused_piece text ≡ None → Reads text (query_of (pieces_of text))
given text taken =
    record {
      taken = taken;
      begin_time = refl;
      begin_ref = refl;
      end_time = refl;
      end_ref = refl;
      terms = refl;
      min_visits = refl;
      max_visits = refl;
      only_bookmarked = refl;
      domain_is_host = refl;
      domain = refl;
      uri = refl;
      parents = refl;
      tags = refl;
      not_tags = refl;
      transitions = refl;
      sort = refl;
      result_type = refl;
      query_type = refl;
      include_hidden = refl;
      max_results = refl;
      exclude_queries = refl;
    }

pub read_once : (text : List ℕ) (q : Query) → Reads text q → read_as text ≡ Ok q
read_once text q reads =
    ap (λ refused. query_unless refused (pieces_of text)) reads.taken
    ∙ ap Ok ((reads_alone q text reads (query_of (pieces_of text))).0 (given text reads.taken))
