use Rattle.std.proofs.Common.{◌∙◌, ap, subst}
use Rattle.std.proofs.lemmas.Bool.{cond-true}
use Rattle.pl_place.specs.declared.key.Key.TheVariants as key
use Rattle.pl_place.specs.Draft.{Gathers}
use Rattle.pl_place.specs.FormLaws.{domain_formed}
use Rattle.pl_place.specs.PlaceText.{last_text, pieces_in, values}
use Rattle.pl_place.specs.QueryForm.{is_domain}
use Rattle.pl_place.proofs.KeptForm.{reads_canonically}
use Rattle.pl_place.proofs.ReadOnce.{read_once}
use Rattle.pl_place.proofs.reader.read.Goals as goal

pub query-requires : goal.query-requires
query-requires c =
    record {
      domain = ap is_domain c.in_ok-gathered.ensures.gathered.held.domain
          ∙ domain_formed (last_text (values key.Domain (pieces_in c.in-Some.body.now)));
    }

pub returns-clause-reads : goal.returns-clause-reads
returns-clause-reads c =
    let begins = c.in-Some.ensures in
    let all = subst (λ body. Gathers (pieces_in body) c.in_ok-gathered.field-0) begins.1
    c.in_ok-gathered.ensures.gathered in
    c.in_ok-query.ensures c.args.text.now (cond-true _ _ _ begins.0 ∙ all.taken) all.held

pub returns-clause-query : goal.returns-clause-query
returns-clause-query c =
    let begins = c.in-Some.ensures in
    let all = subst (λ body. Gathers (pieces_in body) c.in_ok-gathered.field-0) begins.1
    c.in_ok-gathered.ensures.gathered in
    read_once c.args.text.now c.in_ok-query.field-0
    (c.in_ok-query.ensures c.args.text.now (cond-true _ _ _ begins.0 ∙ all.taken) all.held)

pub returns-in_default-clause-canonical : goal.returns-in_default-clause-canonical
returns-in_default-clause-canonical c = reads_canonically c.args.text.now

pub returns-in_err-gathered-clause-canonical : goal.returns-in_err-gathered-clause-canonical
returns-in_err-gathered-clause-canonical c = reads_canonically c.args.text.now

pub returns-in_err-query-clause-canonical : goal.returns-in_err-query-clause-canonical
returns-in_err-query-clause-canonical c = reads_canonically c.args.text.now

pub returns-clause-canonical : goal.returns-clause-canonical
returns-clause-canonical c = reads_canonically c.args.text.now
