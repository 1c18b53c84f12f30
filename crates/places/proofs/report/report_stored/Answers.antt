use Rattle.std.proofs.Common.{◌≡◌, ◌∙◌, ap, inr, refl, subst, sym}
use Rattle.std.proofs.lemmas.Option.{MatchOption-at_some}
use Rattle.pl_desk.proofs.SettlingLaws.{settles_on}
use Rattle.pl_base.specs.Store.{Store}
use Rattle.pl_store.specs.Session.{reader_store}
use Rattle.places.specs.Exporting.{ComesBack}
use Rattle.places.specs.Reporting.{ShowsReport, report_text}
use Rattle.places.specs.Stops.{ShowsUnopened}
use Rattle.places.proofs.AnswerCounts.{rose_from, stood}
use Rattle.places.proofs.OpeningLemmas.{fault_told, no_fault}
use Rattle.places.proofs.ReportLemmas.{not_done, opened_shows, report_unopened, rests_still, said_part, said_shows}
use Rattle.places.proofs.ReportLemmas.{said_whole, settled_rests}
use Rattle.places.proofs.report.report_stored.Goals as goal

-- ---- no store was opened

pub returns-in-Err-clause-ends : goal.returns-in-Err-clause-ends
returns-in-Err-clause-ends g c = λ file start before held stands begun.
    report_unopened g.D.Desk c.in-Err.ended c.from.result file start (report_text c.args.report start) before c.args.desk.now c.open_to_read.new.desk
    g.met.D.Desk.counts_now c.from.ensures held c.in-Err.ensures.ends stands c.open_to_read.ensures.calls.line.said begun
    (c.in-Err.ensures.any_moment file held)

pub returns-in-Err-clause-stops : goal.returns-in-Err-clause-stops
returns-in-Err-clause-stops g c = λ file start before held stands begun.
    opened_shows g.D.Desk file start (report_text c.args.report start) before c.args.desk.now c.open_to_read.new.desk stands begun
    (c.in-Err.ensures.any_moment file held) (fault_told c.in-Err.ended c.from.result c.from.ensures)

pub returns-in-Err-clause-returns : goal.returns-in-Err-clause-returns
returns-in-Err-clause-returns g c = λ export done. absurd (not_done c.in-Err.ended c.from.result c.from.ensures done)

-- ---- no text was made

pub returns-in-Err-text_of-clause-ends : goal.returns-in-Err-text_of-clause-ends
returns-in-Err-text_of-clause-ends g c = λ file start before held stands begun.
    let opens = c.in-Ok.ensures.ends in
    let is : reader_store c.in-Ok.reader ≡ start = sym (MatchOption-at_some _ _ file held opens.only start stands) in (
      c.open_to_read.ensures.calls.line.said ∙ begun,
      settled_rests g.D.Desk c.in-Ok.reader start c.open_to_read.new.desk is (opens.settled file held),
    )

pub returns-in-Err-text_of-clause-stops : goal.returns-in-Err-text_of-clause-stops
returns-in-Err-text_of-clause-stops g c = λ file start before held stands begun.
    opened_shows g.D.Desk file start (report_text c.args.report start) before c.args.desk.now c.open_to_read.new.desk stands begun
    (c.in-Ok.ensures.any_moment file held) (λ fault. absurd (cc))

-- ---- the text was said

pub returns-in-Ok-say_all-clause-ends : goal.returns-in-Ok-say_all-clause-ends
returns-in-Ok-say_all-clause-ends g c = λ file start before held stands begun.
    let desk = g.D.Desk in let mid = c.open_to_read.new.desk in let new = c.say_all.new.desk in
    let opens = c.in-Ok.ensures.ends in
    let is : reader_store c.in-Ok.reader ≡ start = sym (MatchOption-at_some _ _ file held opens.only start stands) in (
      said_whole desk before c.as_bytes.result.now (report_text c.args.report start) mid new (c.open_to_read.ensures.calls.line.said ∙ begun)
          c.in-Ok-say_all.ensures.whole
          (c.as_bytes.ensures.value ∙ c.as_str.ensures ∙ c.in-Ok-text_of.ensures.text
          ∙ ap (λ (s : Store). report_text c.args.report s) is),
      rests_still desk start mid new (settled_rests desk c.in-Ok.reader start mid is (opens.settled file held))
          c.say_all.ensures.file.kept,
    )

pub returns-in-Ok-say_all-clause-stops : goal.returns-in-Ok-say_all-clause-stops
returns-in-Ok-say_all-clause-stops g c = λ file start before held stands begun.
    let desk = g.D.Desk in let old = c.args.desk.now in let mid = c.open_to_read.new.desk in
    let new = c.say_all.new.desk in let opens = c.in-Ok.ensures.ends in
    let is : reader_store c.in-Ok.reader ≡ start = sym (MatchOption-at_some _ _ file held opens.only start stands) in
    inr (settles_on desk old mid new (ShowsUnopened desk old before) (ShowsReport start (report_text c.args.report start) before)
    (λ fault. fault)
    (opened_shows desk file start (report_text c.args.report start) before old mid stands begun (c.in-Ok.ensures.any_moment file held)
    (no_fault _))
    (said_shows desk start (report_text c.args.report start) before c.as_bytes.result.now mid new
    (settled_rests desk c.in-Ok.reader start mid is (opens.settled file held))
    (c.as_bytes.ensures.value ∙ c.as_str.ensures ∙ c.in-Ok-text_of.ensures.text
    ∙ ap (λ (s : Store). report_text c.args.report s) is)
    (c.say_all.ensures.shows before (c.open_to_read.ensures.calls.line.said ∙ begun))))

pub returns-in-Ok-say_all-clause-finished : goal.returns-in-Ok-say_all-clause-finished
returns-in-Ok-say_all-clause-finished g c = λ file held finished.
    let kept = c.say_all.ensures.file.kept in let as_before = c.open_to_read.ensures.finished file held finished in
    (kept.held ∙ as_before.0, kept.written ∙ as_before.1)

pub returns-in-Ok-say_all-clause-no_store : goal.returns-in-Ok-say_all-clause-no_store
returns-in-Ok-say_all-clause-no_store g c = λ file held none.
    absurd (none (reader_store c.in-Ok.reader) (MatchOption-at_some _ _ file held c.in-Ok.ensures.ends.stands))

-- ---- a front of it was said

pub returns-clause-ends : goal.returns-clause-ends
returns-clause-ends g c = λ file start before held stands begun.
    let desk = g.D.Desk in let mid = c.open_to_read.new.desk in let new = c.say_all.new.desk in
    let opens = c.in-Ok.ensures.ends in
    let is : reader_store c.in-Ok.reader ≡ start = sym (MatchOption-at_some _ _ file held opens.only start stands) in (
      said_part desk before c.as_bytes.result.now (report_text c.args.report start) mid new (c.open_to_read.ensures.calls.line.said ∙ begun)
          c.in-Err-say_all.ensures.front
          (c.as_bytes.ensures.value ∙ c.as_str.ensures ∙ c.in-Ok-text_of.ensures.text
          ∙ ap (λ (s : Store). report_text c.args.report s) is),
      rests_still desk start mid new (settled_rests desk c.in-Ok.reader start mid is (opens.settled file held))
          c.say_all.ensures.file.kept,
    )

pub returns-clause-stops : goal.returns-clause-stops
returns-clause-stops g c = λ file start before held stands begun.
    let desk = g.D.Desk in let old = c.args.desk.now in let mid = c.open_to_read.new.desk in
    let new = c.say_all.new.desk in let opens = c.in-Ok.ensures.ends in
    let is : reader_store c.in-Ok.reader ≡ start = sym (MatchOption-at_some _ _ file held opens.only start stands) in
    inr (settles_on desk old mid new (ShowsUnopened desk old before) (ShowsReport start (report_text c.args.report start) before)
    (λ fault. fault)
    (opened_shows desk file start (report_text c.args.report start) before old mid stands begun (c.in-Ok.ensures.any_moment file held)
    (no_fault _))
    (said_shows desk start (report_text c.args.report start) before c.as_bytes.result.now mid new
    (settled_rests desk c.in-Ok.reader start mid is (opens.settled file held))
    (c.as_bytes.ensures.value ∙ c.as_str.ensures ∙ c.in-Ok-text_of.ensures.text
    ∙ ap (λ (s : Store). report_text c.args.report s) is)
    (c.say_all.ensures.shows before (c.open_to_read.ensures.calls.line.said ∙ begun))))

pub returns-clause-counted : goal.returns-clause-counted
returns-clause-counted g c = let desk = g.D.Desk in record {
  says =
      rose_from (desk.line_faults c.args.desk.now) (desk.line_faults c.open_to_read.new.desk)
      (desk.line_faults c.say_all.new.desk) refl c.open_to_read.ensures.calls.line.faults c.in-Err-say_all.ensures.counted.0
      c.in-Err-say_all.ensures.counted.1;
  device =
      stood (desk.device_faults c.args.desk.now) (desk.device_faults c.say_all.new.desk) (λ same. absurd (cc))
      (c.say_all.ensures.file.faults ∙ c.in-Ok.ensures.calls.counted.stands (no_fault c.in-Ok.reader));
}

pub returns-clause-finished : goal.returns-clause-finished
returns-clause-finished g c = λ file held finished.
    let kept = c.say_all.ensures.file.kept in let as_before = c.open_to_read.ensures.finished file held finished in
    (kept.held ∙ as_before.0, kept.written ∙ as_before.1)

pub returns-clause-no_store : goal.returns-clause-no_store
returns-clause-no_store g c = λ file held none.
    absurd (none (reader_store c.in-Ok.reader) (MatchOption-at_some _ _ file held c.in-Ok.ensures.ends.stands))

-- ---- what was said comes back

pub returns-in-Ok-say_all-clause-returns : goal.returns-in-Ok-say_all-clause-returns
returns-in-Ok-say_all-clause-returns g c = λ export done file start held stands.
    let is : reader_store c.in-Ok.reader ≡ start =
    sym (MatchOption-at_some _ _ file held c.in-Ok.ensures.ends.only start stands) in
    subst ComesBack is (c.in-Ok-text_of.ensures.returns export)
