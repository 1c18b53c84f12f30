use Rattle.std.proofs.Common.{◌∙◌, ◌++◌, ap, subst, sym}
use Rattle.std.specs.List.{join_with_byte}
use Rattle.std.proofs.lemmas.Result.{IfOk-weaker}
use Rattle.std.proofs.lemmas.List.Elements.{recursion_from_All}
use Rattle.pl_words.specs.TagName.{tag_named}
use Rattle.pl_place.specs.Canonical.{ReadsAlone, ReadsBack, ReadsId, bookmark_pairs, itself, option_pairs, page_pairs}
use Rattle.pl_place.specs.Canonical.{time_pairs}
use Rattle.pl_place.specs.PlaceText.{place_prefix}
use Rattle.pl_place.proofs.CanonicalReads.{canonical_reads}
use Rattle.pl_place.proofs.writer.write.Goals as goal

pub returns-clause-reads : goal.returns-clause-reads
returns-clause-reads c =
    let q = c.args.query.now in
    let law = canonical_reads q (record {
      begin = c.in_ok-push_times.ensures.begin;
      end = c.in_ok-push_times.ensures.end;
      terms = c.in_ok-push_page.ensures.terms;
      domain = c.in_ok-push_page.ensures.domain;
      uri = c.in_ok-push_page.ensures.uri;
      parents = recursion_from_All ReadsId q.parents c.in_ok-push_bookmarks.ensures.parents;
      tags = recursion_from_All (ReadsBack tag_named itself) q.tags c.in_ok-push_bookmarks.ensures.tags;
      max_results = c.in_ok-push_options.ensures.most;
    }) in
    let times = c.in_ok-push_times.ensures.pairs ∙ ap (λ x. x ++ time_pairs q) c.new-pairs.ensures in
    let page = c.in_ok-push_page.ensures.pairs ∙ ap (λ x. x ++ page_pairs q) times in
    let bookmarks = c.in_ok-push_bookmarks.ensures.pairs ∙ ap (λ x. x ++ bookmark_pairs q) page in
    let all = c.in_ok-push_options.ensures.pairs ∙ ap (λ x. x ++ option_pairs q) bookmarks in
    IfOk-weaker c.text.result _ (ReadsAlone q)
    (λ text is. subst (ReadsAlone q) (sym (is ∙ ap (λ ps. place_prefix ++ join_with_byte 38 ps) all)) law)
    c.text.ensures
