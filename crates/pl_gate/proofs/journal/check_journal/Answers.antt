use Rattle.std.specs.Result.{result_err}
use Rattle.std.proofs.Common.{◌≡◌, ◌+◌, ◌*◌, ℕ, List, [], ◌∷◌, Some, Err, drop, refl, sym, ◌∙◌, ap, arith}
use Rattle.std.proofs.lemmas.List.{drop_all}
use Rattle.std.proofs.lemmas.Option.{MatchOption-at_some, none-some}
use Rattle.std.proofs.lemmas.Result.{err_from_is_err_and, IfErr-at_err}
use Rattle.pl_base.specs.Touched.{PageImage, page_numbers}
use Rattle.pl_desk.proofs.AnyMoment.{read_on, reads_none}
use Rattle.pl_desk.proofs.Told.{if_some}
use Rattle.pl_gate.specs.declared.error.GateError.TheVariants.{BadGate}
use Rattle.pl_gate.specs.Gate.{entry_at, entry_size, journal, journal_len, journal_start}
use Rattle.pl_gate.specs.Recovery.{IsGatePageOf}
use Rattle.pl_gate.proofs.JournalFiles.{entries_at, is_no_journal, journal_fits, length-entries, numbers_fit}
use Rattle.pl_gate.proofs.JournalFiles.{numbers_next, numbers_stop}
use Rattle.pl_gate.proofs.journal.check_journal.Given.{Over}
use Rattle.pl_gate.proofs.journal.check_journal.Goals.{After-read_page}
use Rattle.pl_gate.proofs.journal.check_journal.Goals as goal

pub loop-index-init : goal.loop-index-init
loop-index-init g c =
    let desk = g.D.Desk in let old = c.args.desk.now in
    record {
      within = omega arith;
      numbers = if_some (desk.held old) _ (λ file is. refl);
      reads = reads_none desk g.met.D.Desk.only_now old;
      no_fault = refl;
    }

-- what the gate's page tells of the file that is held
told_is : (g : Over) (c : After-read_page g) (file : List ℕ) → g.D.Desk.held c.args.desk.now ≡ Some file
    → IsGatePageOf c.args.told.now file
told_is g c file is = MatchOption-at_some _ _ file is c.requires.told

-- the entry that was read is the next one of the journal
next_is : (g : Over) (c : After-read_page g) (file : List ℕ) → g.D.Desk.held c.args.desk.now ≡ Some file
    → drop c.loop-index.index (journal file) ≡ entry_at (c.args.told.now.start + entry_size * c.loop-index.index) file
    ∷ drop (c.loop-index.index + 1) (journal file)
next_is g c file is =
    let told = told_is g c file is in let k = c.loop-index.index in
    entries_at (journal_len file) (journal_start file) k file (omega (arith, c.loop-index-test.true, told.count))
    ∙ ap (λ (n : ℕ). entry_at (n + entry_size * k) file ∷ drop (k + 1) (journal file)) (sym told.start)

numbers_is : (g : Over) (c : After-read_page g) (file : List ℕ) → g.D.Desk.held c.args.desk.now ≡ Some file
    → numbers_fit 0 c.args.told.now.after (page_numbers (journal file))
    ≡ numbers_fit c.loop-index.last c.args.told.now.after
    ((entry_at (c.args.told.now.start + entry_size * c.loop-index.index) file).page
    ∷ page_numbers (drop (c.loop-index.index + 1) (journal file)))
numbers_is g c file is =
    MatchOption-at_some _ _ file is c.loop-index.invariant.numbers
    ∙ ap (λ (l : List PageImage). numbers_fit c.loop-index.last c.args.told.now.after (page_numbers l))
    (next_is g c file is)

held_is : (g : Over) (c : After-read_page g) (file : List ℕ) → g.D.Desk.held c.args.desk.now ≡ Some file
    → g.D.Desk.held c.loop-index.desk ≡ Some file
held_is g c file is = c.loop-index.invariant.reads.file.held ∙ is

pub returns-in_err-last-clause-bad : goal.returns-in_err-last-clause-bad
returns-in_err-last-clause-bad g c is =
    let p = err_from_is_err_and c.from_residual.result c.from_residual.ensures.1 in
    let same = c.in_err-last.was ∙ ap Err (sym p.2 ∙ IfErr-at_err (λ e. e ≡ BadGate) (sym is ∙ p.1) refl) in
    let first = c.before.before.before in
    if_some (g.D.Desk.held c.args.desk.now) _ (λ file held.
    let told = told_is g first file held in
    let bad = MatchOption-at_some _ _ file (held_is g first file held) (c.read_page.ensures.bad same) in
    is_no_journal file (ap (λ (n : ℕ). numbers_fit 0 n (page_numbers (journal file))) (sym told.after)
    ∙ numbers_is g first file held
    ∙ numbers_stop c.loop-index.last c.args.told.now.after
    (entry_at (c.args.told.now.start + entry_size * c.loop-index.index) file).page
    (page_numbers (drop (c.loop-index.index + 1) (journal file))) bad))

pub loop-index-preserved : goal.loop-index-preserved
loop-index-preserved g c =
    let desk = g.D.Desk in let first = c.before.before in
    record {
      within = omega (arith, c.loop-index-test.true);
      numbers = if_some (desk.held c.args.desk.now) _ (λ file held.
          let page = MatchOption-at_some _ _ file (held_is g first file held) c.in_ok-last.ensures.page in
          numbers_is g first file held
          ∙ ap (λ (n : ℕ). numbers_fit c.loop-index.last c.args.told.now.after
          (n ∷ page_numbers (drop (c.loop-index.index + 1) (journal file)))) (sym page)
          ∙ numbers_next c.loop-index.last c.args.told.now.after c.in_ok-last.last
          (page_numbers (drop (c.loop-index.index + 1) (journal file))) c.in_ok-last.ensures.above
          c.in_ok-last.ensures.below);
      reads = read_on desk c.args.desk.now c.loop-index.desk c.read_page.new.desk c.loop-index.invariant.reads
          c.read_page.ensures.reads;
      no_fault =
          c.in_ok-last.ensures.counted.stands (λ is. none-some _ (ap result_err is)) ∙ c.loop-index.invariant.no_fault;
    }

pub returns-clause-journal : goal.returns-clause-journal
returns-clause-journal g c =
    let lies = c.lies_behind.ensures.0 c.if-not-lies_behind.false in
    if_some (g.D.Desk.held c.args.desk.now) _ (λ file held.
    let told = MatchOption-at_some _ _ file held c.requires.told in
    let len = MatchOption-at_some _ _ file held c.requires.len in
    let none : drop c.loop-index.index (journal file) ≡ [] =
    drop_all c.loop-index.index (journal file)
    (omega (
      arith,
      length-entries (journal_len file) (journal_start file) file,
      told.count,
      c.loop-index-test.false,
    )) in
    journal_fits file (omega (arith, lies.0, told.start, told.count, len))
    (omega (arith, lies.1, told.after, told.start))
    (ap (λ (n : ℕ). numbers_fit 0 n (page_numbers (journal file))) (sym told.after)
    ∙ MatchOption-at_some _ _ file held c.loop-index.invariant.numbers
    ∙ ap (λ (l : List PageImage). numbers_fit c.loop-index.last c.args.told.now.after (page_numbers l)) none))
