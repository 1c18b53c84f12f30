use Rattle.std.specs.Result.{result_err}
use Rattle.std.specs.Option.{option_map}
use Rattle.std.proofs.Common.{◌≡◌, ◌≤◌, ◌+◌, ◌*◌, ℕ, List, ◌∷◌, Option, Some, None, Err, true, length, drop, take, refl}
use Rattle.std.proofs.Common.{sym, ◌∙◌, ap, subst, arith}
use Rattle.std.proofs.lemmas.Bool.{and_from, both_ways}
use Rattle.std.proofs.lemmas.List.{take_all}
use Rattle.std.proofs.lemmas.Option.{MatchOption-at_some, none-some, same_Some}
use Rattle.std.proofs.lemmas.Result.{err_from_is_err_and, IfErr-at_err}
use Rattle.pl_base.specs.Touched.{PageImage, page_numbers, page_size}
use Rattle.pl_desk.proofs.Told.{if_some}
use Rattle.pl_desk.specs.Desk.{Follows, Torn, overwritten}
use Rattle.pl_desk.specs.Shown.{ShowsStep}
use Rattle.pl_gate.specs.declared.error.GateError.TheVariants.{BadGate}
use Rattle.pl_gate.specs.Device.{Range, TornIn, image_ranges, with_images}
use Rattle.pl_gate.specs.Gate.{entry_at, entry_size, journal, journal_len, journal_start}
use Rattle.pl_gate.proofs.ArmedFiles.{next_entry, stays_front}
use Rattle.pl_gate.proofs.JournalFiles.{gate_journal, length-entries, none_of, numbers_fit, numbers_stop}
use Rattle.pl_gate.proofs.JournalFiles.{numbers_true}
use Rattle.pl_gate.proofs.Moments.{began, went_on}
use Rattle.pl_gate.proofs.Ranges.{follows_more, images_all, next_image, next_range, torn_in_front, torn_in_more}
use Rattle.pl_gate.proofs.Ranges.{torn_in_same}
use Rattle.pl_gate.proofs.journal.install_journal.Given.{Over}
use Rattle.pl_gate.proofs.journal.install_journal.Goals.{After-install_entry, In-loop-index}
use Rattle.pl_gate.proofs.journal.install_journal.Goals as goal

pub loop-index-init : goal.loop-index-init
loop-index-init g c =
    let desk = g.D.Desk in let old = c.args.desk.now in
    record {
      within = omega arith;
      held = λ file is. is;
      none = λ is. is;
      numbers = λ file is.
          let told = MatchOption-at_some _ _ file is c.requires.told in
          let has =
          gate_journal file (MatchOption-at_some _ _ file is c.requires.gate)
          (MatchOption-at_some _ _ file is c.requires.set) in
          ap (λ (n : ℕ). numbers_fit 0 n (page_numbers (journal file))) told.after
          ∙ and_from _ _ has.ascending has.below;
      leaves = λ file is later left. (later, left, refl);
      moments =
          λ file is. began desk g.met.D.Desk.only_now old (TornIn (image_ranges (journal file)))
          (torn_in_same (image_ranges (journal file)));
      line = record { said = refl; faults = refl };
      written = omega arith;
      no_fault = refl;
    }

-- the entry that is installed next
abbrev entry : (g : Over) (c : In-loop-index g) → List ℕ → PageImage
entry g c file =
    entry_at (c.args.told.now.start + entry_size * c.loop-index.index)
    (with_images (take c.loop-index.index (journal file)) file)

next_is : (g : Over) (c : In-loop-index g) (file : List ℕ) → g.D.Desk.held c.args.desk.now ≡ Some file
    → drop c.loop-index.index (journal file) ≡ entry g c file ∷ drop (c.loop-index.index + 1) (journal file)
next_is g c file is =
    let told = MatchOption-at_some _ _ file is c.requires.told in let k = c.loop-index.index in
    next_entry file k (MatchOption-at_some _ _ file is c.requires.set) (MatchOption-at_some _ _ file is c.requires.gate)
    (omega (arith, c.loop-index-test.true, told.count))
    ∙ ap (λ (n : ℕ). entry_at (n + entry_size * k) (with_images (take k (journal file)) file)
    ∷ drop (k + 1) (journal file)) (sym told.start)

held_is : (g : Over) (c : In-loop-index g) (file : List ℕ) → g.D.Desk.held c.args.desk.now ≡ Some file
    → g.D.Desk.held c.loop-index.desk ≡ Some (with_images (take c.loop-index.index (journal file)) file)
held_is g c file is = c.loop-index.invariant.held file is

pub install_entry-requires-clause-within : goal.install_entry-requires-clause-within
install_entry-requires-clause-within g c =
    if_some (g.D.Desk.held c.loop-index.desk) _ (λ now now_is. at now now_is (g.D.Desk.held c.args.desk.now) refl)
  where
    at : (now : List ℕ) → g.D.Desk.held c.loop-index.desk ≡ Some now → (old : Option (List ℕ))
        → g.D.Desk.held c.args.desk.now ≡ old
        → c.args.told.now.start + entry_size * c.loop-index.index + entry_size ≤ length now
    at now now_is None is = absurd (none-some now (sym (c.loop-index.invariant.none is) ∙ now_is))
    at now now_is (Some file) is =
        let set = MatchOption-at_some _ _ file is c.requires.set in
        let gate = MatchOption-at_some _ _ file is c.requires.gate in
        let told = MatchOption-at_some _ _ file is c.requires.told in
        let stays = stays_front file c.loop-index.index set gate in
        let same =
        same_Some (with_images (take c.loop-index.index (journal file)) file) now
        (sym (c.loop-index.invariant.held file is) ∙ now_is) in
        omega (
          arith,
          (gate_journal file gate set).within,
          told.start,
          told.count,
          stays.len,
          ap length same,
          c.loop-index-test.true,
        )

-- what a stop may leave once one entry more was begun
begun : (g : Over) (c : After-install_entry g) (file : List ℕ) → g.D.Desk.held c.args.desk.now ≡ Some file
    → Follows (TornIn (image_ranges (take (c.loop-index.index + 1) (journal file))))
    (g.D.Desk.may_leave c.args.desk.now) (g.D.Desk.may_leave c.install_entry.new.desk)
begun g c file is =
    let desk = g.D.Desk in let first = c.before.before in let k = c.loop-index.index in let p = entry g first file in
    subst (λ (l : List Range). Follows (TornIn l) (desk.may_leave c.args.desk.now)
    (desk.may_leave c.install_entry.new.desk))
    (sym (next_range (journal file) k p (drop (k + 1) (journal file)) (next_is g first file is)))
    (follows_more (image_ranges (take k (journal file))) (page_size * p.page, page_size)
    (desk.may_leave c.args.desk.now) (desk.may_leave c.loop-index.desk) (desk.may_leave c.install_entry.new.desk)
    (c.loop-index.invariant.leaves file is)
    (c.install_entry.ensures.torn (with_images (take k (journal file)) file) (held_is g first file is)).leaves)

-- a chain of writes, one entry more begun, among all of them
among : (g : Over) (c : After-install_entry g) (file : List ℕ) → g.D.Desk.held c.args.desk.now ≡ Some file
    → (old mid new : List ℕ) → TornIn (image_ranges (take c.loop-index.index (journal file))) old mid
    → Torn (page_size * (entry g c.before.before file).page) page_size mid new
    → TornIn (image_ranges (journal file)) old new
among g c file is old mid new so_far torn =
    let k = c.loop-index.index in let p = entry g c.before.before file in
    let more =
    torn_in_more (image_ranges (take k (journal file))) (page_size * p.page, page_size) old mid new so_far
    torn in
    let front =
    subst (λ (l : List Range). TornIn l old new)
    (sym (next_range (journal file) k p (drop (k + 1) (journal file)) (next_is g c.before.before file is)))
    more in
    subst (λ (l : List Range). TornIn l old new) (images_all (journal file) (k + 1))
    (torn_in_front (image_ranges (take (k + 1) (journal file))) (image_ranges (drop (k + 1) (journal file))) old new
    front)

left : (g : Over) (c : After-install_entry g) (file : List ℕ) → g.D.Desk.held c.args.desk.now ≡ Some file
    → Follows (TornIn (image_ranges (journal file))) (g.D.Desk.may_leave c.args.desk.now)
    (g.D.Desk.may_leave c.install_entry.new.desk)
left g c file is later may =
    let torn =
    (c.install_entry.ensures.torn (with_images (take c.loop-index.index (journal file)) file)
    (held_is g c.before.before file is)).leaves later may in
    let so_far = c.loop-index.invariant.leaves file is torn.0 torn.1 in
    (so_far.0, so_far.1, among g c file is so_far.0 torn.0 later so_far.2 torn.2)

shown : (g : Over) (c : After-install_entry g) (file : List ℕ) → g.D.Desk.held c.args.desk.now ≡ Some file
    → ShowsStep g.D.Desk c.args.desk.now c.install_entry.new.desk (TornIn (image_ranges (journal file)))
shown g c file is =
    let desk = g.D.Desk in let k = c.loop-index.index in
    went_on desk c.args.desk.now c.loop-index.desk c.install_entry.new.desk (TornIn (image_ranges (journal file)))
    (Torn (page_size * (entry g c.before.before file).page) page_size)
    (c.loop-index.invariant.moments file is) c.loop-index.invariant.line.said
    (c.install_entry.ensures.torn (with_images (take k (journal file)) file)
    (held_is g c.before.before file is)).moments
    (λ mid may next torn. let so_far = c.loop-index.invariant.leaves file is mid may in
    (so_far.0, so_far.1, among g c file is so_far.0 mid next so_far.2 torn))

-- the numbers that are left, with the next one apart
numbers_is : (g : Over) (c : After-install_entry g) (file : List ℕ) → g.D.Desk.held c.args.desk.now ≡ Some file
    → numbers_fit c.loop-index.last c.args.told.now.after
    ((entry g c.before.before file).page ∷ page_numbers (drop (c.loop-index.index + 1) (journal file))) ≡ true
numbers_is g c file is =
    ap (λ (l : List PageImage). numbers_fit c.loop-index.last c.args.told.now.after (page_numbers l))
    (sym (next_is g c.before.before file is)) ∙ c.loop-index.invariant.numbers file is

pub returns-in_err-last-clause-torn : goal.returns-in_err-last-clause-torn
returns-in_err-last-clause-torn g c file is = let wrote = c.before.before.before in
    record { leaves = left g wrote file is; moments = shown g wrote file is }

pub returns-in_err-last-clause-good : goal.returns-in_err-last-clause-good
returns-in_err-last-clause-good g c bad =
    let p = err_from_is_err_and c.from_residual.result c.from_residual.ensures.1 in
    let same = c.in_err-last.was ∙ ap Err (sym p.2 ∙ IfErr-at_err (λ e. e ≡ BadGate) (sym bad ∙ p.1) refl) in
    let first = c.before.before.before in
    none_of (g.D.Desk.held c.args.desk.now) (λ file is.
    let stop =
    MatchOption-at_some _ _ (with_images (take c.loop-index.index (journal file)) file)
    (held_is g first.before.before file is) (c.install_entry.ensures.bad same) in
    both_ways _ (numbers_stop c.loop-index.last c.args.told.now.after (entry g first.before.before file).page
    (page_numbers (drop (c.loop-index.index + 1) (journal file))) stop) (numbers_is g first file is))

pub loop-index-preserved : goal.loop-index-preserved
loop-index-preserved g c =
    let desk = g.D.Desk in let first = c.before.before in let k = c.loop-index.index in
    record {
      within = omega (arith, c.loop-index-test.true);
      held = λ file is.
          c.in_ok-last.ensures.held
          ∙ ap
          (option_map (λ now. overwritten 0
          (page_size * (entry_at (c.args.told.now.start + entry_size * k) now).page)
          (entry_at (c.args.told.now.start + entry_size * k) now).image now))
          (held_is g first.before.before file is)
          ∙ ap Some (next_image (journal file) k (entry g first.before.before file) (drop (k + 1) (journal file)) file
          (next_is g first.before.before file is));
      none = λ is.
          c.in_ok-last.ensures.held
          ∙ ap
          (option_map (λ now. overwritten 0
          (page_size * (entry_at (c.args.told.now.start + entry_size * k) now).page)
          (entry_at (c.args.told.now.start + entry_size * k) now).image now)) (c.loop-index.invariant.none is);
      numbers = λ file is.
          let page =
          MatchOption-at_some _ _ (with_images (take k (journal file)) file)
          (held_is g first.before.before file is) c.in_ok-last.ensures.page in
          ap (λ (n : ℕ). numbers_fit n c.args.told.now.after (page_numbers (drop (k + 1) (journal file)))) page
          ∙ (numbers_true c.loop-index.last c.args.told.now.after (entry g first.before.before file).page
          (page_numbers (drop (k + 1) (journal file))) (numbers_is g first file is)).2;
      leaves = λ file is. begun g first file is;
      moments = λ file is. shown g first file is;
      line = record {
        said = c.install_entry.ensures.calls.line.said ∙ c.loop-index.invariant.line.said;
        faults = c.install_entry.ensures.calls.line.faults ∙ c.loop-index.invariant.line.faults;
      };
      written = c.in_ok-last.ensures.written ∙ omega (arith, c.loop-index.invariant.written);
      no_fault =
          c.in_ok-last.ensures.calls.counted.stands (λ is. none-some _ (ap result_err is)) ∙ c.loop-index.invariant.no_fault;
    }

pub returns-clause-held : goal.returns-clause-held
returns-clause-held g c = at (g.D.Desk.held c.args.desk.now) refl
  where
    at : (old : Option (List ℕ)) → g.D.Desk.held c.args.desk.now ≡ old
        → g.D.Desk.held c.loop-index.desk
        ≡ option_map (λ file. with_images (journal file) file) (g.D.Desk.held c.args.desk.now)
    at None is = c.loop-index.invariant.none is ∙ ap (option_map (λ file. with_images (journal file) file)) (sym is)
    at (Some file) is =
        let told = MatchOption-at_some _ _ file is c.requires.told in
        let all =
        take_all c.loop-index.index (journal file)
        (omega (
          arith,
          length-entries (journal_len file) (journal_start file) file,
          told.count,
          c.loop-index-test.false,
        )) in
        c.loop-index.invariant.held file is ∙ ap (λ (l : List PageImage). Some (with_images l file)) all
        ∙ ap (option_map (λ now. with_images (journal now) now)) (sym is)

pub returns-clause-torn : goal.returns-clause-torn
returns-clause-torn g c file is =
    let told = MatchOption-at_some _ _ file is c.requires.told in
    let all =
    take_all c.loop-index.index (journal file)
    (omega (
      arith,
      length-entries (journal_len file) (journal_start file) file,
      told.count,
      c.loop-index-test.false,
    )) in
    record {
      leaves =
          subst (λ (l : List PageImage). Follows (TornIn (image_ranges l)) (g.D.Desk.may_leave c.args.desk.now)
          (g.D.Desk.may_leave c.loop-index.desk)) all (c.loop-index.invariant.leaves file is);
      moments = c.loop-index.invariant.moments file is;
    }
