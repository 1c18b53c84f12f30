use Rattle.std.proofs.Common.{◌≡◌, ◌≤◌, ◌<◌, ◌*◌, ◌∙◌, ℕ, List, ap, arith, drop, length, sym}
use Rattle.std.proofs.Common.{take, subst}
use Rattle.std.proofs.Math.Logic.{∥∥₁_elim}
use Rattle.std.proofs.Props.{props}
use Rattle.std.proofs.lemmas.Option.{IfSome_then, MatchOption-at_some}
use Rattle.pl_base.specs.Touched.{page_size}
use Rattle.pl_desk.proofs.Told.{if_some}
use Rattle.pl_desk.proofs.AnyMoment.{read_call, reads_none}
use Rattle.pl_desk.specs.Calls.{OnlyReads}
use Rattle.pl_linked.proofs.Checked.{form_slots}
use Rattle.pl_reading.specs.File.{HasSlots, IsNamed, file_header, most_pages}
use Rattle.pl_reading.proofs.FileLaws.{all_there, is_named, two_pages}
use Rattle.pl_slot.specs.Header.{header_in}
use Rattle.pl_store.specs.Reading.{ArePagesOf, HoldNone}
use Rattle.pl_store.proofs.read.store_pages.Given.{Over}
use Rattle.pl_store.proofs.read.store_pages.Goals.{After-len, After-read_at}
use Rattle.pl_store.proofs.read.store_pages.Goals as goal

-- ---- what the bytes stand for

-- a file that stands for a store has its header and its slots
lacks_slots : (file : List ℕ) → (HasSlots file → ⊥) → HoldNone (drop page_size file)
lacks_slots file lacks store stands =
    ∥∥₁_elim stands.form (Prim.hlevel props) (λ form. lacks (form_slots file stands.kept stands.targets form))

too_short : (file : List ℕ) → length file < 2 * page_size → HoldNone (drop page_size file)
too_short file short = lacks_slots file (λ has. omega (arith, two_pages file has, short))

cut_off : (file : List ℕ) (pages : ℕ) → (file_header file).pages ≡ pages → length file < page_size * pages
    → HoldNone (drop page_size file)
cut_off file pages told cut = lacks_slots file (λ has. omega (arith, all_there file has, told, cut))

-- how many pages the header says
told : (file page : List ℕ) (pages : ℕ) → page ≡ take page_size (drop page_size file)
    → pages ≡ (header_in page).pages → (file_header file).pages ≡ pages
told file page pages first is = sym (is ∙ ap (λ (bytes : List ℕ). (header_in bytes).pages) first)

-- ---- what a stop shows

len_read : (g : Over) (c : After-len g) → OnlyReads g.D.Desk c.args.desk.now c.len.new.self
len_read g c =
    let desk = g.D.Desk in let old = c.args.desk.now in let len = c.len.ensures in
    read_call desk old old c.len.new.self (reads_none desk g.met.D.Desk.only_now old) len.held len.said len.written
    len.line
    len.leaves len.time

header_read : (g : Over) (c : After-read_at g) → OnlyReads g.D.Desk c.args.desk.now c.read_at.new.self
header_read g c =
    let desk = g.D.Desk in let old = c.args.desk.now in let mid = c.len.new.self in
    let len = c.len.ensures in let read = c.read_at.ensures in
    let first =
    read_call desk old old mid (reads_none desk g.met.D.Desk.only_now old) len.held len.said len.written len.line
    len.leaves len.time in
    read_call desk old mid c.read_at.new.self first read.held read.said read.written read.line read.leaves read.time

pub returns-in_err-len-clause-reads : goal.returns-in_err-len-clause-reads
returns-in_err-len-clause-reads g c = len_read g c.before.before.before

pub returns-then-len-clause-reads : goal.returns-then-len-clause-reads
returns-then-len-clause-reads g c = len_read g c.before.before.before

pub returns-in_err-read_at-clause-reads : goal.returns-in_err-read_at-clause-reads
returns-in_err-read_at-clause-reads g c = header_read g c.before.before.before.before

pub returns-in_default-clause-reads : goal.returns-in_default-clause-reads
returns-in_default-clause-reads g c = header_read g c.before.before.before.before.before.before

pub returns-then-len-from-clause-reads : goal.returns-then-len-from-clause-reads
returns-then-len-from-clause-reads g c = header_read g c.before.before.before.before.before.before.before.before

pub returns-clause-reads : goal.returns-clause-reads
returns-clause-reads g c = header_read g c.before.before.before.before.before.before.before.before

-- ---- what the header tells

pub returns-then-len-clause-pages : goal.returns-then-len-clause-pages
returns-then-len-clause-pages g c =
    IfSome_then (g.D.Desk.held c.args.desk.now) c.in_ok-len.ensures.length
    (λ file is. too_short file (omega (arith, is, c.if-len.true)))

pub returns-in_default-clause-pages : goal.returns-in_default-clause-pages
returns-in_default-clause-pages g c =
    let held = g.D.Desk.held in
    if_some (held c.args.desk.now) (λ file. HoldNone (drop page_size file)) (λ file is.
    let first : c.read_at.new.out ≡ take page_size (drop page_size file) =
    MatchOption-at_some _ _ file (c.len.ensures.held ∙ is) c.in_ok-read_at.ensures.read in
    lacks_slots file (λ has.
    c.named_pages.ensures.none c.in_default.is
    (subst (λ (page : List ℕ). IsNamed (header_in page)) (sym first) (is_named file has))))

pub returns-then-len-from-clause-pages : goal.returns-then-len-from-clause-pages
returns-then-len-from-clause-pages g c =
    let held = g.D.Desk.held in
    if_some (held c.args.desk.now) (λ file. HoldNone (drop page_size file)) (λ file is.
    let first : c.read_at.new.out ≡ take page_size (drop page_size file) =
    MatchOption-at_some _ _ file (c.len.ensures.held ∙ is) c.in_ok-read_at.ensures.read in
    let len : c.in_ok-len.len ≡ length file = MatchOption-at_some _ _ file is c.in_ok-len.ensures.length in
    cut_off file c.in-Some.pages (told file c.read_at.new.out c.in-Some.pages first c.in-Some.ensures.some)
    (omega (arith, len, c.from.ensures, c.if-len-from.true)))

pub returns-clause-pages : goal.returns-clause-pages
returns-clause-pages g c =
    let held = g.D.Desk.held in (
      subst (λ (n : ℕ). 2 ≤ n) (sym c.in-Some.ensures.some) c.in-Some.ensures.named.some,
      subst (λ (n : ℕ). n ≤ most_pages) (sym c.in-Some.ensures.some) c.in-Some.ensures.named.few,
      if_some (held c.args.desk.now) (ArePagesOf c.in-Some.pages) (λ file is.
          let first : c.read_at.new.out ≡ take page_size (drop page_size file) =
          MatchOption-at_some _ _ file (c.len.ensures.held ∙ is) c.in_ok-read_at.ensures.read in
          let len : c.in_ok-len.len ≡ length file = MatchOption-at_some _ _ file is c.in_ok-len.ensures.length in
          record {
            within = omega (arith, len, c.from.ensures, c.if-len-from.false);
            told = told file c.read_at.new.out c.in-Some.pages first c.in-Some.ensures.some;
          }),
    )
