use Rattle.std.specs.Option.{option_map}
use Rattle.std.proofs.Common.{◌≡◌, ◌<◌, ◌*◌, ◌^◌, List, ℕ, [], Some, length, sym, ◌∙◌, ap, subst, arith}
use Rattle.pl_base.specs.Touched.{bytes_before, page_size}
use Rattle.pl_desk.specs.Desk.{overwritten, Torn}
use Rattle.pl_desk.proofs.AnyMoment.{and_call, rests_synced, some_said}
use Rattle.pl_desk.specs.Shown.{AtAnyMoment, Rests}
use Rattle.pl_gate.specs.Device.{TornIn, entry_ranges, place_bytes, start_of, with_entries}
use Rattle.pl_gate.specs.Gate.{Holds}
use Rattle.pl_gate.specs.States.{IsClosed, IsStaged}
use Rattle.pl_gate.proofs.Moments.{and_then, from_rest}
use Rattle.pl_gate.proofs.ClosedFiles.{closed_entries, closed_torn_place}
use Rattle.pl_gate.proofs.Told.{count, staged_file, staged_empty}
use Rattle.pl_gate.proofs.gate.Gate.stage.Given.{Over}
use Rattle.pl_gate.proofs.gate.Gate.stage.Goals.{After-count-count, After-write_entries, After-write_place, After-sync}
use Rattle.pl_gate.proofs.gate.Gate.stage.Goals.{In_ok-sync}
use Rattle.pl_gate.proofs.gate.Gate.stage.Goals as goal

less_before : (g : Over) (c : After-count-count g) → c.args.touched.now.before < 2 ^ 32
less_before g c = rw (sym c.before-2.ensures) c.before-2.type_inv

less_after : (g : Over) (c : After-count-count g) → c.args.touched.now.after < 2 ^ 32
less_after g c = rw (sym c.after-after.ensures) c.after-after.type_inv

few : (g : Over) (c : After-count-count g) → length c.args.touched.now.pages < 2 ^ 32
few g c =
    count c.args.touched.now c.requires.within c.count-count.ensures.ascending c.count-count.ensures.whole
    (less_before g c) (less_after g c)

start_is : (g : Over) (c : After-count-count g) → page_size * c.max.result ≡ start_of c.args.touched.now
start_is g c = omega (arith, c.max.ensures, c.before-2.ensures, c.after-after.ensures)

pub overflow_cast-count : goal.overflow_cast-count
overflow_cast-count g c = omega (arith, c.count-count.ensures.count, few g c)

pub write_entries-requires : goal.write_entries-requires
write_entries-requires g c = record { range = omega (arith, few g c.before, c.max.type_inv) }

-- the desk stood for these pages before the call
abbrev Before : (g : Over) → After-count-count g → List ℕ → Type 0
Before g c pages =
    Rests g.D.Desk c.args.self.now.desk.now (IsClosed pages) × (length pages ≡ bytes_before c.args.touched.now.before)

entered : (g : Over) (c : After-count-count g) (pages : List ℕ) → Before g c pages
    → (file : List ℕ) → g.D.Desk.may_leave c.args.self.now.desk.now file → (next : List ℕ)
    → TornIn (entry_ranges (page_size * c.max.result) c.args.touched.now.pages) file next → IsClosed pages next
entered g c pages (rests, len) file may next torn =
    closed_entries c.args.touched.now.pages pages (page_size * c.max.result) file next
    (omega (arith, len, c.requires.some, start_is g c))
    (subst (IsClosed pages) (sym (rests.only file may)) rests.has) torn

entries_shown : (g : Over) (c : After-write_entries g) (pages : List ℕ) → Before g c.before.before pages
    → AtAnyMoment g.D.Desk c.args.self.now.desk.now c.write_entries.new.desk (Holds pages)
entries_shown g c pages before =
    let desk = g.D.Desk in let old = c.args.self.now.desk.now in
    from_rest desk old c.write_entries.new.desk (IsClosed pages) (Holds pages)
    (TornIn (entry_ranges (page_size * c.max.result) c.args.touched.now.pages)) (g.met.D.Desk.told_together old)
    before.0 c.write_entries.ensures.torn.moments
    (λ file may next torn. (entered g c.before.before pages before file may next torn).holds)

entries_left : (g : Over) (c : After-write_entries g) (pages : List ℕ) → Before g c.before.before pages
    → (file : List ℕ) → g.D.Desk.may_leave c.write_entries.new.desk file → IsClosed pages file
entries_left g c pages before file may = let from = c.write_entries.ensures.torn.leaves file may in
    entered g c.before.before pages before from.0 from.1 file from.2

place_shown : (g : Over) (c : After-write_place g) (pages : List ℕ)
    → Before g c.before.before.before.before.before.before pages
    → AtAnyMoment g.D.Desk c.args.self.now.desk.now c.write_place.new.desk (Holds pages)
place_shown g c pages before =
    let desk = g.D.Desk in let old = c.args.self.now.desk.now in let told = c.before.before.before.before in
    and_then desk old c.write_entries.new.desk c.write_place.new.desk (Holds pages) (Torn 8 16)
    c.write_entries.ensures.calls.line.said
    (some_said desk old before.0.file (g.met.D.Desk.told_together old) before.0.is_held)
    (entries_shown g told pages before) c.write_place.ensures.torn.moments
    (λ file may next torn. (closed_torn_place pages file (entries_left g told pages before file may) next torn).holds)

place_left : (g : Over) (c : After-write_place g) (pages : List ℕ)
    → Before g c.before.before.before.before.before.before pages → (file : List ℕ)
    → g.D.Desk.may_leave c.write_place.new.desk file → IsClosed pages file
place_left g c pages before file may =
    let from = c.write_place.ensures.torn.leaves file may in
    closed_torn_place pages from.0 (entries_left g c.before.before.before.before pages before from.0 from.1) file
    from.2

sync_shown : (g : Over) (c : After-sync g) (pages : List ℕ)
    → Before g c.before.before.before.before.before.before.before.before.before.before pages
    → AtAnyMoment g.D.Desk c.args.self.now.desk.now c.sync.new.self (Holds pages)
sync_shown g c pages before =
    let desk = g.D.Desk in let old = c.args.self.now.desk.now in let told = c.before.before.before.before in
    and_call desk old c.write_place.new.desk c.sync.new.self (Holds pages)
    (c.write_place.ensures.calls.line.said ∙ c.write_entries.ensures.calls.line.said)
    (place_shown g told pages before) c.sync.ensures.time
    (λ file may. (place_left g told pages before file (c.sync.ensures.leaves file may)).holds)

pub returns-in_err-write_entries-clause-any_moment : goal.returns-in_err-write_entries-clause-any_moment
returns-in_err-write_entries-clause-any_moment g c pages rests len =
    entries_shown g c.before.before.before pages (rests, len)

pub returns-in_err-write_place-clause-any_moment : goal.returns-in_err-write_place-clause-any_moment
returns-in_err-write_place-clause-any_moment g c pages rests len =
    place_shown g c.before.before.before pages (rests, len)

pub returns-in_err-sync-clause-any_moment : goal.returns-in_err-sync-clause-any_moment
returns-in_err-sync-clause-any_moment g c pages rests len = sync_shown g c.before.before.before pages (rests, len)

pub returns-clause-any_moment : goal.returns-clause-any_moment
returns-clause-any_moment g c pages rests len = sync_shown g c.before.before pages (rests, len)

-- the file that the writes make, in the change's own numbers
told_file : (g : Over) (c : After-count-count g) (file : List ℕ)
    → overwritten 0 8 (place_bytes (page_size * c.max.result) c.count-count.result c.after-after.result)
    (with_entries (page_size * c.max.result) c.args.touched.now.pages file)
    ≡ overwritten 0 8 (place_bytes (start_of c.args.touched.now) (length c.args.touched.now.pages)
    c.args.touched.now.after) (with_entries (start_of c.args.touched.now) c.args.touched.now.pages file)
told_file g c file =
    let pages = c.args.touched.now.pages in
    ap (λ (n : ℕ). overwritten 0 8 (place_bytes n c.count-count.result c.after-after.result)
    (with_entries n pages file)) (start_is g c)
    ∙ ap (λ (n : ℕ). overwritten 0 8 (place_bytes (start_of c.args.touched.now) n c.after-after.result)
    (with_entries (start_of c.args.touched.now) pages file)) c.count-count.ensures.count
    ∙ ap (λ (n : ℕ). overwritten 0 8 (place_bytes (start_of c.args.touched.now) (length pages) n)
    (with_entries (start_of c.args.touched.now) pages file)) c.after-after.ensures

held_told : (g : Over) (c : In_ok-sync g) (file : List ℕ) → g.D.Desk.held c.args.self.now.desk.now ≡ Some file
    → g.D.Desk.held c.write_place.new.desk
    ≡ Some
    (overwritten 0 8 (place_bytes (start_of c.args.touched.now) (length c.args.touched.now.pages)
    c.args.touched.now.after) (with_entries (start_of c.args.touched.now) c.args.touched.now.pages file))
held_told g c file is =
    let start = page_size * c.max.result in let pages = c.args.touched.now.pages in
    c.in_ok-write_place.ensures.held
    ∙ ap (option_map (overwritten 0 8 (place_bytes start c.count-count.result c.after-after.result)))
    (c.in_ok-write_entries.ensures.held ∙ ap (option_map (with_entries start pages)) is)
    ∙ ap Some (told_file g c.before.before.before.before.before.before.before.before.before.before.before.before file)

pub returns-clause-staged : goal.returns-clause-staged
returns-clause-staged g c pages rests len =
    let first = c.before.before.before.before.before.before.before.before.before.before.before.before in
    let change = c.args.touched.now in let desk = g.D.Desk in
    rests_synced desk c.write_place.new.desk c.sync.new.self (IsStaged change pages) _ c.sync.ensures.held
    (held_told g c rests.file rests.is_held) c.in_ok-sync.ensures.durable
    (staged_file change c.requires.within c.count-count.ensures.ascending c.count-count.ensures.whole
    (less_before g first) (less_after g first) pages rests.file rests.has len c.requires.some)

pub returns-clause-staged_empty : goal.returns-clause-staged_empty
returns-clause-staged_empty g c empty one some =
    let first = c.before.before.before.before.before.before.before.before.before.before.before.before in
    let change = c.args.touched.now in let desk = g.D.Desk in
    rests_synced desk c.write_place.new.desk c.sync.new.self (IsStaged change []) _ c.sync.ensures.held
    (held_told g c [] empty) c.in_ok-sync.ensures.durable
    (staged_empty change c.requires.within c.count-count.ensures.ascending c.count-count.ensures.whole
    (less_after g first) one some)
