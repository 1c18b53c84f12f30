use Rattle.std.specs.List.{slice_range}
use Rattle.std.proofs.Common.{◌≡◌, ◌≤◌, ◌+◌, ◌-◌, ◌*◌, ◌++◌, ◌∙◌, ℕ, List, Option, Err, IfSome}
use Rattle.std.proofs.Common.{ap, arith, drop, length, refl, subst, sym, take}
use Rattle.std.proofs.lemmas.List.{drop-take, length-drop, length-take, length-take-le, take-take}
use Rattle.std.proofs.Math.Seq.{take-append_seam}
use Rattle.std.proofs.lemmas.Option.{MatchOption-at_some}
use Rattle.std.proofs.lemmas.Result.{err_from_is_err_and}
use Rattle.pl_base.specs.Rows.{store_of}
use Rattle.pl_base.specs.Touched.{bytes_before, page_size}
use Rattle.pl_desk.proofs.AnyMoment.{read_call}
use Rattle.pl_base.specs.declared.check_error.CheckError.{CheckError}
use Rattle.pl_desk.proofs.Told.{if_some}
use Rattle.pl_base.specs.declared.check_error.CheckError.TheVariants as check
use Rattle.pl_linked.specs.declared.linked.Linked.{Linked}
use Rattle.pl_linked.specs.Linked.{bytes_of, kept_of}
use Rattle.pl_reading.specs.File.{first_header, front_bytes}
use Rattle.pl_record.specs.Form.{StandsFor}
use Rattle.pl_reading.proofs.Fronts.{front_again}
use Rattle.pl_store.specs.Errors.{ended_by_check}
use Rattle.pl_store.specs.Reading.{HoldNone, IsReadFrom, IsStoreOf, EndsReading}
use Rattle.pl_store.proofs.read.read_store.Goals as goal

-- as many of the bytes as the header says
front_of : (bytes : List ℕ) (pages : ℕ) → 2 ≤ pages → bytes_before pages ≤ length bytes
    → (first_header bytes).pages ≡ pages → IsStoreOf bytes (take (bytes_before pages) bytes)
front_of bytes pages some within told =
    let front : front_bytes bytes ≡ take (bytes_before pages) bytes =
    ap (λ (n : ℕ). take (bytes_before n) bytes) told in
    record {
      begins = ap (λ n. take n bytes) (length-take-le (bytes_before pages) bytes within);
      whole =
          subst (λ (bs : List ℕ). front_bytes bs ≡ front_bytes bytes) front
          (front_again bytes (subst (λ (n : ℕ). 2 ≤ n) (sym told) some));
    }

-- the first pages of a file, from page 1 on
pages_read : (file read : List ℕ) (pages len : ℕ) → 2 ≤ pages → page_size * pages ≤ length file
    → (first_header (drop page_size file)).pages ≡ pages → len ≡ page_size * pages → read ≡ slice_range file 0 (0 + len)
    → IsStoreOf (drop page_size file) (drop page_size read)
pages_read file read pages len some within told counted is =
    let whole : 0 + len - 0 ≡ page_size + bytes_before pages = omega arith in
    let front : drop page_size read ≡ take (bytes_before pages) (drop page_size file) =
    ap (drop page_size) (is ∙ ap (λ n. take n file) whole) ∙ drop-take page_size (bytes_before pages) file in
    subst (IsStoreOf (drop page_size file)) (sym front)
    (front_of (drop page_size file) pages some (omega (arith, length-drop page_size file)) told)

-- a vector that a read filled
read_back : (out rest : List ℕ) (len : ℕ) → len ≡ length out → take len (out ++ rest) ≡ out
read_back out rest len same = rw same (take-append_seam out rest)

-- what was read from the store's bytes was read from all of them
read_from : (rows : Linked) (bytes front : List ℕ) → IsStoreOf bytes front → IsReadFrom rows front
    → IsReadFrom rows bytes
read_from rows bytes front is read =
    let own : List ℕ = bytes_of rows in
    record {
      stands = subst (λ (bs : List ℕ). StandsFor bs (store_of (kept_of rows))) is.whole read.stands;
      only = λ store stands. read.only store (subst (λ (bs : List ℕ). StandsFor bs store) (sym is.whole) stands);
      begins =
          sym (take-take (length own) (length front) bytes
          (omega (arith, length-take (length own) front, ap length read.begins))) ∙ ap (take (length own)) is.begins
          ∙ read.begins;
      own_form = read.own_form;
    }

pub returns-clause-reads : goal.returns-clause-reads
returns-clause-reads g c =
    let desk = g.D.Desk in let mid = c.store_pages.new.desk in let read = c.read_at.ensures in
    read_call desk c.args.desk.now mid c.read_at.new.self c.store_pages.ensures.reads read.held read.said read.written
    read.line read.leaves read.time

-- a check that failed for want of memory tells nothing of the file
check_failed : (held : Option (List ℕ)) (error : CheckError)
    → (error ≡ check.NotAStore → IfSome held (λ file. HoldNone (drop page_size file)))
    → EndsReading held (Err (ended_by_check error))
check_failed held check.NotAStore none = none refl
check_failed held check.NoMemory none = tt

pub returns-in_err-reader_of-clause-ends : goal.returns-in_err-reader_of-clause-ends
returns-in_err-reader_of-clause-ends g c =
    let held = g.D.Desk.held in
    let told = rw c.in-Some.is at c.in_ok-pages.ensures.pages in
    let pages : ℕ = c.in-Some.pages in
    let len : length c.deref_mut.result.now ≡ page_size * pages =
    omega (arith, c.deref_mut.ensures.len, c.in_ok-resize.ensures.len) in
    let p = err_from_is_err_and c.from_residual-in_err-reader_of.result c.from_residual-in_err-reader_of.ensures.1 in
    rw (p.1, p.2) (check_failed (held c.args.desk.now) c.in_err-reader_of.field-0.0 (λ error_is.
    if_some (held c.args.desk.now) _ (λ file is store stands.
    let are = MatchOption-at_some _ _ file is told.2 in
    let read : c.read_at.new.out ≡ slice_range file 0 (0 + length c.deref_mut.result.now) =
    MatchOption-at_some _ _ file (c.store_pages.ensures.reads.file.held ∙ is) c.in_ok-read_at.ensures.read in
    let back = read_back c.read_at.new.out _ _ (omega (arith, c.deref_mut.ensures.len, c.read_at.auto.out)) in
    let front =
    pages_read file _ pages (length c.deref_mut.result.now) told.0 are.within are.told len (back ∙ read) in
    c.reader_of.ensures.not_a_store (c.in_err-reader_of.was ∙ ap Err error_is) store
    (subst (λ (bs : List ℕ). StandsFor bs store) (sym front.whole) stands))))

pub returns-clause-ends : goal.returns-clause-ends
returns-clause-ends g c =
    let held = g.D.Desk.held in
    let told = rw c.in-Some.is at c.in_ok-pages.ensures.pages in
    let pages : ℕ = c.in-Some.pages in
    let len : length c.deref_mut.result.now ≡ page_size * pages =
    omega (arith, c.deref_mut.ensures.len, c.in_ok-resize.ensures.len) in
    if_some (held c.args.desk.now) _ (λ file is.
    let are = MatchOption-at_some _ _ file is told.2 in
    let read : c.read_at.new.out ≡ slice_range file 0 (0 + length c.deref_mut.result.now) =
    MatchOption-at_some _ _ file (c.store_pages.ensures.reads.file.held ∙ is) c.in_ok-read_at.ensures.read in
    let back = read_back c.read_at.new.out _ _ (omega (arith, c.deref_mut.ensures.len, c.read_at.auto.out)) in
    read_from c.in_ok-reader_of.field-0.rows (drop page_size file) _
    (pages_read file _ pages (length c.deref_mut.result.now) told.0 are.within are.told len (back ∙ read))
    c.in_ok-reader_of.ensures.read)
